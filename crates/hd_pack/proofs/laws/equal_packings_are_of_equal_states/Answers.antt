use Rattle.std.proofs.Common.{sym, ap₂, ◌∙◌}
use Rattle.hd_pack.specs.Packing.{unpacked}
use Rattle.hd_pack.proofs.Trips.{unpacked_packed}
use Rattle.hd_pack.proofs.laws.equal_packings_are_of_equal_states.Goals as goal

pub returns : goal.returns
returns c = λ s t fit fits atoms bytes. sym (unpacked_packed s fit) ∙ (ap₂ unpacked atoms bytes ∙ unpacked_packed t fits)
