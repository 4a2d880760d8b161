use Rattle.std.proofs.Common.{◌≡◌, ◌+◌, ◌-◌, List, ℕ, length, take, drop, take_all, length-drop, ap, subst, ◌∙◌, arith}
use Rattle.std.specs.Prelude.{IfSome}
use Rattle.hd_pack.specs.declared.split.Segment.{Segment}
use Rattle.hd_pack.specs.Splitting.{merged}
use Rattle.hd_pack.proofs.Splitting.{first_of, eight_shared, eight_own, eight_after}
use Rattle.hd_pack.proofs.split.+eight_together.Goals as goal

pub returns-then-place-segment : goal.returns-then-place-segment
returns-then-place-segment t c =
    c.eight_of-then-place-segment.ensures ∙ eight_shared c.args.segments.now c.args.base.now c.args.own.now c.args.place c.in-len1-up.len_at_least c.requires.within c.if-place-segment.true

pub returns-then-place-end : goal.returns-then-place-end
returns-then-place-end t c =
    let ps = c.args.segments.now in
    let p = first_of ps in
    let base = c.split_at-then-place-end.result.1.now in
    let own = c.split_at-then-place-end-2.result.1.now in
    let base_is : base ≡ drop p.own (drop p.shared c.args.base.now) = c.split_at-then-place-end.ensures.back ∙ ap (drop p.own) c.split_at.ensures.back in
    let own_is : own ≡ drop p.own c.args.own.now = c.split_at-then-place-end-2.ensures.back in
    let whole : take (length ps - 1) (drop 1 ps) ≡ drop 1 ps = take_all (length ps - 1) (drop 1 ps) (omega (arith, length-drop 1 ps)) in
    let at = c.args.place - (p.shared + p.own) in
    let same =
    ap (λ (rest : List Segment). take 8 (drop at (merged rest base own))) whole
    ∙ (ap (λ (xs : List ℕ). take 8 (drop at (merged (drop 1 ps) xs own))) base_is
    ∙ (ap (λ (xs : List ℕ). take 8 (drop at (merged (drop 1 ps) (drop p.own (drop p.shared c.args.base.now)) xs))) own_is
    ∙ eight_after ps c.args.base.now c.args.own.now c.args.place c.in-len1-up.len_at_least c.requires.within c.if-place-end.true)) in
    subst (λ (xs : List ℕ). IfSome c.eight_together.result (λ eight. eight ≡ xs)) same c.eight_together.ensures

pub returns-then-place-end-2 : goal.returns-then-place-end-2
returns-then-place-end-2 t c =
    c.eight_of-then-place-end-2.ensures
    ∙ eight_own c.args.segments.now c.args.base.now c.args.own.now c.args.place c.in-len1-up.len_at_least c.requires.within c.if-segment-place.true c.if-place-end-2.true
