use Rattle.std.proofs.Common.{rules, ◌≡◌, ◌+◌, ◌*◌, ℕ, ℤ, Some, take, drop, length-drop, sym, ap, ◌∙◌, arith}
use Rattle.std.specs.Int.{w64, cast_signed, from_le_bytes}
use Rattle.std.proofs.lemmas.Int.{to_z-of_z}
use Rattle.std.proofs.Math.Seq.{drop-drop}
use Rattle.hd_pack.proofs.ValueBytes.{value_within, value_beyond}
use Rattle.hd_tables.proofs.row.value_at.Goals as goal

pub returns-then-len-from : goal.returns-then-len-from
returns-then-len-from c =
    let left = length-drop c.args.from c.args.bytes.now in
    let long = c.len.ensures in
    let few = c.if-len-from.true in
    sym (value_beyond (drop c.args.from c.args.bytes.now) c.args.number (omega (arith, left, long, few)))

pub returns : goal.returns
returns c =
    let place = 8 * c.args.number in
    let left = length-drop c.args.from c.args.bytes.now in
    let long = c.len.ensures in
    let enough = c.if-len-from.false in
    let there : drop (c.args.from + place) c.args.bytes.now ≡ drop place (drop c.args.from c.args.bytes.now) =
    sym (drop-drop place c.args.from c.args.bytes.now ∙ ap (λ (k : ℕ). drop k c.args.bytes.now) (omega arith)) in
    ap (λ (v : ℤ). Some v)
    (to_z-of_z w64 c.cast_signed.result (search rules)
    ∙ (c.cast_signed.ensures ∙ ap (cast_signed w64) (c.from_le_bytes.ensures ∙ ap (from_le_bytes w64) (c.eight-eight.ensures ∙ ap (take 8) there))))
    ∙ sym (value_within (drop c.args.from c.args.bytes.now) c.args.number (omega (arith, left, long, enough)))
