use Rattle.std.proofs.Common.{◌≡◌, ◌∙◌, ℕ, Bool, true, false, List, set, replicate, ap, sym, rules, arith}
use Rattle.hd_images.proofs.Starting.{none_listed, bits-put, bits-none}
use Rattle.hd_images.proofs.start.bits_of.Goals as goal
use Rattle.hd_images.proofs.start.bits_of.Goals.{in-Some, in_default}

pub loop-atom-init : goal.loop-atom-init
loop-atom-init c =
    let e : c.in_ok-bits.bits.items ≡ replicate c.len.result false = search rules in
    e ∙ (ap (λ (n : ℕ). replicate n false) c.len.ensures ∙ none_listed c.args.atoms.now)

pub loop-atom-preserved : goal.loop-atom-preserved
loop-atom-preserved c =
    let forms = c.args.atoms.now in
    let listed = c.args.listed.now in
    let i = c.loop-atom.atom-index in
    let a = c.atom-item.result in
    elim c.match-number_of.branch [
      | in-Some w ↦
          ap (λ v. v.items) w.bits-is
          ∙ (ap (λ (bs : List Bool). set bs w.in-Some.number true) c.loop-atom.invariant
          ∙ bits-put forms listed i w.in-Some.number a c.are_rising.ensures (omega arith) c.atom-item.is (sym c.number_of.ensures ∙ w.in-Some.is))
      | in_default w ↦
          ap (λ v. v.items) w.bits-is
          ∙ (c.loop-atom.invariant ∙ bits-none forms listed i a (omega arith) c.atom-item.is (sym c.number_of.ensures ∙ w.in_default.is))
    ]
