use Rattle.std.proofs.Common.{rules, ◌++◌, List, ℕ, Bool, ap, ap₂, ◌∙◌}
use Rattle.hd_pack.specs.Packing.{byte_of, atom_bytes}
use Rattle.hd_pack.proofs.AtomBits.{atoms_next, atoms_last}
use Rattle.hd_pack.proofs.bits.push_atoms.Goals as goal

pub loop-rest-preserved : goal.loop-rest-preserved
loop-rest-preserved c =
    ap₂ (λ (ns : List ℕ) (bs : List Bool). ns ++ atom_bytes bs) c.in_ok-push.ensures.ok c.split_at.ensures.back
    ∙ atoms_next _ _ _ _ (search rules) (c.byte_of.ensures ∙ ap byte_of c.split_at.ensures.front) c.loop-rest.invariant

pub returns-in_ok-push-2 : goal.returns-in_ok-push-2
returns-in_ok-push-2 c =
    c.in_ok-push-2.ensures.ok ∙ atoms_last _ _ _ _ (search rules) (search rules) c.byte_of-then-not-is_empty.ensures c.loop-rest.invariant
