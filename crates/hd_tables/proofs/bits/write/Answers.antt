use Rattle.std.proofs.Common.{◌≡◌, ◌<◌, ◌*◌, ◌/◌, ◌%◌, ◌^◌, ◌∙◌, ℕ, List, length, get_or, set, sym, ap, arith}
use Rattle.std.specs.Prelude.{bit_or, bit_and}
use Rattle.std.specs.Int.{w64, bit_not}
use Rattle.std.proofs.lemmas.List.{get_or_default}
use Rattle.hd_base.specs.Bits.{bit_in}
use Rattle.hd_tables.proofs.Words.{bit_set_same, bit_set_other, bit_clear_same, bit_clear_other}
use Rattle.hd_tables.proofs.bits.write.Goals as goal

pub returns-then-bit-clause-written : goal.returns-then-bit-clause-written
returns-then-bit-clause-written c =
    let ws = c.args.words.now.items in
    let n = c.args.number in
    let need = c.requires in
    let lt : n / 64 < length ws = omega (arith, need) in
    let word : c.at-word.result.now ≡ get_or ws (n / 64) 0 = c.at-word.ensures ∙ get_or_default ws (n / 64) c.at-word.result.now 0 lt in
    ap (λ (xs : List ℕ). bit_in xs n) (c.set.ensures.items ∙ ap (λ (w : ℕ). set ws (n / 64) (bit_or w (1 * 2 ^ (n % 64) % 2 ^ 64))) word)
    ∙ (bit_set_same ws n lt ∙ sym c.if-bit.true)

pub returns-then-bit-clause-others : goal.returns-then-bit-clause-others
returns-then-bit-clause-others c =
    let ws = c.args.words.now.items in
    let n = c.args.number in
    let need = c.requires in
    let lt : n / 64 < length ws = omega (arith, need) in
    let word : c.at-word.result.now ≡ get_or ws (n / 64) 0 = c.at-word.ensures ∙ get_or_default ws (n / 64) c.at-word.result.now 0 lt in
    λ i ne.
    ap (λ (xs : List ℕ). bit_in xs i) (c.set.ensures.items ∙ ap (λ (w : ℕ). set ws (n / 64) (bit_or w (1 * 2 ^ (n % 64) % 2 ^ 64))) word)
    ∙ bit_set_other ws n lt i ne

pub returns-else-bit-clause-written : goal.returns-else-bit-clause-written
returns-else-bit-clause-written c =
    let ws = c.args.words.now.items in
    let n = c.args.number in
    let need = c.requires in
    let lt : n / 64 < length ws = omega (arith, need) in
    let word : c.at-word.result.now ≡ get_or ws (n / 64) 0 = c.at-word.ensures ∙ get_or_default ws (n / 64) c.at-word.result.now 0 lt in
    ap (λ (xs : List ℕ). bit_in xs n) (c.set-else-bit.ensures.items ∙ ap (λ (w : ℕ). set ws (n / 64) (bit_and w (bit_not w64 (1 * 2 ^ (n % 64) % 2 ^ 64)))) word)
    ∙ (bit_clear_same ws n lt ∙ sym c.if-bit.false)

pub returns-else-bit-clause-others : goal.returns-else-bit-clause-others
returns-else-bit-clause-others c =
    let ws = c.args.words.now.items in
    let n = c.args.number in
    let need = c.requires in
    let lt : n / 64 < length ws = omega (arith, need) in
    let word : c.at-word.result.now ≡ get_or ws (n / 64) 0 = c.at-word.ensures ∙ get_or_default ws (n / 64) c.at-word.result.now 0 lt in
    λ i ne.
    ap (λ (xs : List ℕ). bit_in xs i) (c.set-else-bit.ensures.items ∙ ap (λ (w : ℕ). set ws (n / 64) (bit_and w (bit_not w64 (1 * 2 ^ (n % 64) % 2 ^ 64)))) word)
    ∙ bit_clear_other ws n lt i ne
