use Rattle.std.proofs.Common.{◌≡◌, ◌-◌, List, length, take, drop, nat_eq, take_all, length-drop, sym, ap, ◌∙◌, arith}
use Rattle.hd_pack.specs.declared.split.Segment.{Segment}
use Rattle.std.specs.Cmp.Lexicographic.{pointwise}
use Rattle.hd_pack.specs.Splitting.{merged}
use Rattle.hd_pack.proofs.Splitting.{AreCut, first_of, first_differs, second_differs, rest_decides, not_true, not_false}
use Rattle.hd_pack.proofs.split.+are_equal.Goals as goal

pub returns-then-ne : goal.returns-then-ne
returns-then-ne t c =
    let cut : AreCut (first_of c.args.segments.now) c.args.base.now c.args.own.now c.args.bytes.now _ _ _ _ _ _ _ _ _ = record {
      shared_is = c.split_at.ensures.front;
      rest_is = c.split_at.ensures.back;
      base_is = c.split_at-in-len1-up.ensures.back;
      here_is = c.split_at-in-len1-up-2.ensures.front;
      own_is = c.split_at-in-len1-up-2.ensures.back;
      first_is = c.split_at-in-len1-up-3.ensures.front;
      rest'_is = c.split_at-in-len1-up-3.ensures.back;
      second_is = c.split_at-in-len1-up-4.ensures.front;
      bytes_is = c.split_at-in-len1-up-4.ensures.back;
    } in
    first_differs c.args.segments.now c.args.base.now c.args.own.now c.args.bytes.now _ _ _ _ _ _ _ _ _ c.in-len1-up.len_at_least c.requires.within c.requires.len cut
    (not_true _ (sym c.if-ne.true ∙ c.ne.ensures))

pub returns-then-ne-2 : goal.returns-then-ne-2
returns-then-ne-2 t c =
    let cut : AreCut (first_of c.args.segments.now) c.args.base.now c.args.own.now c.args.bytes.now _ _ _ _ _ _ _ _ _ = record {
      shared_is = c.split_at.ensures.front;
      rest_is = c.split_at.ensures.back;
      base_is = c.split_at-in-len1-up.ensures.back;
      here_is = c.split_at-in-len1-up-2.ensures.front;
      own_is = c.split_at-in-len1-up-2.ensures.back;
      first_is = c.split_at-in-len1-up-3.ensures.front;
      rest'_is = c.split_at-in-len1-up-3.ensures.back;
      second_is = c.split_at-in-len1-up-4.ensures.front;
      bytes_is = c.split_at-in-len1-up-4.ensures.back;
    } in
    second_differs c.args.segments.now c.args.base.now c.args.own.now c.args.bytes.now _ _ _ _ _ _ _ _ _ c.in-len1-up.len_at_least c.requires.within c.requires.len cut
    (not_false _ (sym c.if-ne.false ∙ c.ne.ensures)) (not_true _ (sym c.if-ne-2.true ∙ c.ne-in-len1-up.ensures))

pub returns-else-ne-2 : goal.returns-else-ne-2
returns-else-ne-2 t c =
    let cut : AreCut (first_of c.args.segments.now) c.args.base.now c.args.own.now c.args.bytes.now _ _ _ _ _ _ _ _ _ = record {
      shared_is = c.split_at.ensures.front;
      rest_is = c.split_at.ensures.back;
      base_is = c.split_at-in-len1-up.ensures.back;
      here_is = c.split_at-in-len1-up-2.ensures.front;
      own_is = c.split_at-in-len1-up-2.ensures.back;
      first_is = c.split_at-in-len1-up-3.ensures.front;
      rest'_is = c.split_at-in-len1-up-3.ensures.back;
      second_is = c.split_at-in-len1-up-4.ensures.front;
      bytes_is = c.split_at-in-len1-up-4.ensures.back;
    } in
    let ps = c.args.segments.now in
    let whole : take (length ps - 1) (drop 1 ps) ≡ drop 1 ps = take_all (length ps - 1) (drop 1 ps) (omega (arith, length-drop 1 ps)) in
    c.are_equal.ensures
    ∙ (ap (λ (rest : List Segment). pointwise nat_eq (merged rest c.split_at-in-len1-up.result.1.now c.split_at-in-len1-up-2.result.1.now) c.split_at-in-len1-up-4.result.1.now) whole
    ∙ rest_decides c.args.segments.now c.args.base.now c.args.own.now c.args.bytes.now _ _ _ _ _ _ _ _ _ c.in-len1-up.len_at_least c.requires.within c.requires.len cut
    (not_false _ (sym c.if-ne.false ∙ c.ne.ensures)) (not_false _ (sym c.if-ne-2.false ∙ c.ne-in-len1-up.ensures)))
