-- Passes that are taken in, one after the other.
use Rattle.std.proofs.Common.{◌≡◌, ℕ, ◌+◌, ◌<◌, List, [], ◌∷◌, ◌++◌, sym, ap, subst, ◌∙◌, append_assoc, arith, Option, All}
use Rattle.std.specs.List.{AllByRecursion}
use Rattle.std.proofs.lemmas.List.{map-append}
use Rattle.std.proofs.lemmas.List.Elements.{All-from_recursion}
use Rattle.std.proofs.lemmas.List.Sums.{sum_by-cons}
use Rattle.crossbeam_queue.specs.declared.array_queue.Doing.{Doing}
use Rattle.crossbeam_queue.specs.declared.array_queue.Slotted.{Slotted}
use Rattle.crossbeam_queue.specs.Passes.{Pass, view, IsSamePass}
use Rattle.hd_desk.specs.declared.view.Seen.{Seen}
use Rattle.hd_desk.specs.declared.view.View.{View}
use Rattle.hd_desk.specs.Passes.{IsOutside, parts_in, seen_in, IsSeenIn, AreSeenIn}
use Rattle.hd_desk.specs.Views.{with_told}

module _ {B T I Q A : Type 0} (place : Slotted (Option B) (Doing B (View T I)) Q A) where
  -- a pass that takes another in stays outside
  pub still_outside : (p q other : Pass B (View T I)) → IsOutside place p → IsSamePass p q → view q ≡ with_told (view p) (view other) → IsOutside place q
  still_outside p q other out same is =
      let parts : (view q).parts ≡ (view p).parts + (view other).parts = ap (λ (v : View T I). v.parts) is in
      let some_part : 0 < (view p).parts = out.1 in
      ((same.0 ∙ out.0.0, same.2 ∙ out.0.1), omega (arith, parts, some_part), ap (λ (v : View T I). v.inside) is ∙ out.2)

module _ {B T I : Type 0} where
  -- the parts stay, together
  pub parts_stay : (n : ℕ) (p q other : Pass B (View T I)) (rest : List (Pass B (View T I))) → view q ≡ with_told (view p) (view other)
      → (view p).parts + parts_in (other ∷ rest) ≡ n → (view q).parts + parts_in rest ≡ n
  parts_stay n p q other rest is all =
      let parts : (view q).parts ≡ (view p).parts + (view other).parts = ap (λ (v : View T I). v.parts) is in
      let more : parts_in (other ∷ rest) ≡ (view other).parts + parts_in rest = sum_by-cons (λ (r : Pass B (View T I)). (view r).parts) other rest in
      omega (arith, parts, more, all)

  -- what the pass itself saw stays
  pub seen_stays : (s : Seen T I) (p q other : Pass B (View T I)) → view q ≡ with_told (view p) (view other) → (view p).seen ≡ s → (view q).seen ≡ s
  seen_stays s p q other is was = ap (λ (v : View T I). v.seen) is ∙ was

  seen_more : (passes : List (Pass B (View T I))) (other : Pass B (View T I)) → seen_in (passes ++ other ∷ []) ≡ seen_in passes ++ (view other).seen ∷ []
  seen_more passes other = map-append (λ (p : Pass B (View T I)). (view p).seen) passes (other ∷ [])

  -- one more was told
  pub told_more : (before : List (Seen T I)) (p q other : Pass B (View T I)) (passes : List (Pass B (View T I))) → view q ≡ with_told (view p) (view other)
      → (view p).told ≡ before ++ seen_in passes → (view q).told ≡ before ++ seen_in (passes ++ other ∷ [])
  told_more before p q other passes is was =
      ap (λ (v : View T I). v.told) is
      ∙ ap (λ (l : List (Seen T I)). l ++ (view other).seen ∷ []) was
      ∙ append_assoc before (seen_in passes) ((view other).seen ∷ [])
      ∙ ap (λ (l : List (Seen T I)). before ++ l) (sym (seen_more passes other))

  seen_each : (task : T) (log : List I) (passes : List (Pass B (View T I))) → AreSeenIn task log (seen_in passes) → AllByRecursion (IsSeenIn task log) passes
  seen_each task log [] p = tt
  seen_each task log (q ∷ passes) p = (p.0, seen_each task log passes p.1)

  seen_later : (task : T) (log : List I) (before : List (Seen T I)) (passes : List (Pass B (View T I))) → AreSeenIn task log (before ++ seen_in passes) → AllByRecursion (IsSeenIn task log) passes
  seen_later task log [] passes p = seen_each task log passes p
  seen_later task log (s ∷ before) passes p = seen_later task log before passes p.1

  -- what was told is what all of them had seen
  pub all_seen : (task : T) (log : List I) (told before : List (Seen T I)) (passes : List (Pass B (View T I))) → told ≡ before ++ seen_in passes → AreSeenIn task log told → All (IsSeenIn task log) passes
  all_seen task log told before passes is p = All-from_recursion (IsSeenIn task log) passes (seen_later task log before passes (subst (AreSeenIn task log) is p))
