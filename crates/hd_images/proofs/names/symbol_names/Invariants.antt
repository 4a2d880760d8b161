use Rattle.std.proofs.Common.{◌≡◌, map, take}
use Rattle.hd_images.proofs.names.symbol_names.Given as goal

abbrev pub invariant-loop-signature : goal.invariant-loop-signature
invariant-loop-signature l = l.names.items ≡ map (λ x. x.name) (take l.signature-index l.signatures)
