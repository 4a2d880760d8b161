use Rattle.std.proofs.Common.{ℕ, ◌*◌, refl, ap, ◌∙◌, arith}
use Rattle.hd_open.specs.Live.{nodes_before}
use Rattle.hd_open.proofs.Places.{place_at-le-all}
use Rattle.hd_open.proofs.Counting.{counted_cover}
use Rattle.hd_open.proofs.slots.cover.Goals as goal

pub overflow_sub-counts : goal.overflow_sub-counts
overflow_sub-counts g c =
    let all = place_at-le-all c.args.slots.now (64 * c.start_of.result) in
    let is = c.counted_before-before.ensures in
    let count = c.requires.counted.all in
    omega arith

pub returns-in_ok-push-clause-counted : goal.returns-in_ok-push-clause-counted
returns-in_ok-push-clause-counted g c =
    let slots = c.args.slots.now in
    counted_cover slots c.args.counts.now (record { marks = c.cover_words.new.words; parts = c.push.new.self; all = c.args.counts.now.all })
    c.counted_before-before.result c.requires.counted
    (omega arith) (c.counted_before-before.ensures ∙ ap (λ (s : ℕ). nodes_before slots (64 * s)) c.start_of.ensures.value) c.in_ok-push.ensures.items refl
