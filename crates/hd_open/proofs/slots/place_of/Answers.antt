use Rattle.std.proofs.Common.{ℕ, ◌∙◌, ◌/◌, ◌%◌, ◌^◌, List, get_or, ap, arith}
use Rattle.std.specs.Prelude.{count_ones}
use Rattle.hd_open.proofs.Places.{place_at-le-arrival}
use Rattle.hd_open.proofs.Marking.{places_marked}
use Rattle.hd_open.proofs.slots.place_of.Goals as goal

pub overflow_add-result : goal.overflow_add-result
overflow_add-result g c =
    let i = c.args.arrival in
    let sum = places_marked c.args.slots.now c.args.counts.now.marks.items i c.requires.marked in
    let before = c.counted_before-before.ensures in
    let marks = c.marked_before.ensures ∙ ap (λ (ws : List ℕ). count_ones (get_or ws (i / 64) 0 % 2 ^ (i % 64))) c.as_slice.ensures.value in
    let few = place_at-le-arrival c.args.slots.now i in
    omega arith

pub returns : goal.returns
returns g c =
    let i = c.args.arrival in
    let sum = places_marked c.args.slots.now c.args.counts.now.marks.items i c.requires.marked in
    let before = c.counted_before-before.ensures in
    let marks = c.marked_before.ensures ∙ ap (λ (ws : List ℕ). count_ones (get_or ws (i / 64) 0 % 2 ^ (i % 64))) c.as_slice.ensures.value in
    omega arith
