-- Each step keeps the rule of the lock.
use Rattle.std.proofs.Common.{◌≡◌, ◌≢◌, ℕ, zero, suc, ◌+◌, ◌-◌, ◌<◌, ◌≤◌, Bool, true, false, true≢false, cond, List, [], ◌∷◌, ◌++◌, length, set, sym, refl, ap, ◌∙◌, subst, ⊎_elim, length-append, arith, Option, Some, None}
use Rattle.std.specs.List.{sum_by, AllByRecursion}
use Rattle.std.proofs.lemmas.List.{nil_from_length}
use Rattle.std.proofs.lemmas.List.Sums.{sum_by_push}
use mathlib.Core.Option.{some, some-ne-none, some-injective}
use lib.ListN.{get_elem?}
use Rattle.crossbeam_queue.specs.Fifo.{Pushes, Pops, Forks, Merges, Learns}
use Rattle.crossbeam_queue.proofs.Lists.{at_set, at_snoc}
use Rattle.hd_base.proofs.Lists.{AllByRecursion-push}
use Rattle.hd_desk.specs.declared.rule.TheConstants.{ALL_PARTS}
use Rattle.hd_desk.specs.declared.view.View.{View}
use Rattle.hd_desk.specs.Kept.{parts_of, holders_of, Fits, Lies, Kept}
use Rattle.hd_desk.specs.Steps.{Opened, Entered, Left, IsThere, IsThereAlone, IsGone}
use Rattle.hd_desk.specs.Views.{GoesOnFrom, unopened, opened, entered, left, less_one, another_of, with_told, spent}
use Rattle.hd_base.specs.Lists.{BeginsWith}
use Rattle.hd_desk.proofs.Begins.{begins_itself, goes_along, goes_each}
use Rattle.hd_desk.proofs.Sums.{sum_set, sum_at, sum_two, sum_only}

not_held : (b : Bool) → cond {A = ℕ} b 1 0 ≡ 0 → b ≡ false
not_held true e = absurd (omega arith)
not_held false e = refl

held : (b : Bool) → b ≡ true → cond {A = ℕ} b 1 0 ≡ 1
held b e = ap (λ (x : Bool). cond {A = ℕ} x 1 0) e

left_free : (b : Bool) → b ≡ false → cond {A = ℕ} b 1 0 ≡ 0
left_free b e = ap (λ (x : Bool). cond {A = ℕ} x 1 0) e

module _ {T I : Type 0} where
  -- a pass with no part knows nothing
  fits_idle : (of : Option T) (log : List I) (v : View T I) → v.parts ≡ 0 → v.inside ≡ false → Fits of log v
  fits_idle of log v none out = record {
    idle = λ _. out;
    seen = λ p. absurd (omega (arith, none, p));
    told = λ p. absurd (omega (arith, none, p));
    whole = λ i. absurd (true≢false (sym i ∙ out));
  }

  fits_set : (of : Option T) (log : List I) (views : List (View T I)) (pass : ℕ) (w : View T I) → Fits of log w → ((j : ℕ) (u : View T I) → j ≢ pass → get_elem? views j ≡ some u → Fits of log u)
      → (j : ℕ) (u : View T I) → get_elem? (set views pass w) j ≡ some u → Fits of log u
  fits_set of log views pass w mine others j u e = ⊎_elim (λ (x : (j ≡ pass) × (w ≡ u)). subst (Fits of log) x.1 mine)
      (λ (x : (j ≢ pass) × (get_elem? views j ≡ some u)). others j u x.0 x.1) (at_set views pass j w u e)

  -- where one pass has every part, another has none
  none_else : (views : List (View T I)) (pass j : ℕ) (v u : View T I) → sum_by parts_of views ≡ ALL_PARTS → v.parts ≡ ALL_PARTS → j ≢ pass → get_elem? views pass ≡ some v → get_elem? views j ≡ some u → u.parts ≡ 0
  none_else views pass j v u all whole apart at at' = let two : v.parts + u.parts ≤ sum_by parts_of views = sum_two parts_of views pass j v u apart at at' in omega (arith, two, all, whole)

  pub first_inside : (v : View T I) → v ≡ unopened → v.inside ≡ true
  first_inside v is = ap (λ (u : View T I). u.inside) is

  -- the first pass of a lock that has no value yet
  fits_first : (pass : ℕ) (v : View T I) → get_elem? (unopened ∷ []) pass ≡ some v → Fits None [] v
  fits_first zero v at = subst (Fits None []) (some-injective unopened v at)
      (record { idle = λ e. absurd (omega (arith, e)); seen = λ _. (refl, begins_itself []); told = λ _. tt; whole = λ _. refl })
  fits_first (suc pass) v at = absurd (some-ne-none v (sym at))

module _ {B T I : Type 0} (task : B → T) (log : B → List I) where
  pub begins : Kept task log [] (unopened ∷ [])
  begins = record { of = None; entries = []; parts = refl; one = refl; lies = tt; each = fits_first }

  -- while the value is with a pass, the queue is empty
  pub gone : (pass : ℕ) (v : View T I) → v.inside ≡ true → Learns (Kept task log) pass v (IsGone v)
  gone pass v inside items views k at =
      let one : holders_of v ≡ 1 = held v.inside inside in
      let some_one : holders_of v ≤ sum_by holders_of views = sum_at holders_of views pass v at in
      let sum : sum_by holders_of views + length items ≡ 1 = k.one in
      nil_from_length items (omega (arith, one, some_one, sum))

  -- where a pass with every part is outside, the value lies in the queue
  pub there : (pass : ℕ) (v : View T I) → v.parts ≡ ALL_PARTS → v.inside ≡ false → Learns (Kept task log) pass v (IsThere v)
  there pass v whole out items views k at =
      let free : holders_of v ≡ 0 = left_free v.inside out in
      let only : sum_by holders_of views ≡ holders_of v =
      sum_only holders_of views pass v at (λ j u apart at'. left_free u.inside ((k.each j u at').idle (none_else views pass j v u k.parts whole apart at at'))) in
      let sum : sum_by holders_of views + length items ≡ 1 = k.one in
      omega (arith, free, only, sum)

  -- so it does where the pass is outside and has every part
  pub there_alone : (pass : ℕ) (v : View T I) → v.inside ≡ false → Learns (Kept task log) pass v (IsThereAlone v)
  there_alone pass v out items views k at = λ whole. there pass v whole out items views k at

  pub opens : (n pass : ℕ) (v : View T I) (b : B) → v ≡ unopened → Pushes (Kept task log) n pass v b (Opened task log v b)
  opens n pass v b is items views room k at =
      let whole : v.parts ≡ ALL_PARTS = ap (λ (u : View T I). u.parts) is in
      let inside : v.inside ≡ true = first_inside v is in
      let w : View T I = opened (task b) (log b) in
      let none : items ≡ [] = gone pass v inside items views k at in
      let parts : sum_by parts_of (set views pass w) + v.parts ≡ sum_by parts_of views + ALL_PARTS = sum_set parts_of views pass v w at in
      let all : sum_by parts_of views ≡ ALL_PARTS = k.parts in
      let one : holders_of v ≡ 1 = held v.inside inside in
      let holders : sum_by holders_of (set views pass w) + holders_of v ≡ sum_by holders_of views + 0 = sum_set holders_of views pass v w at in
      let sum : sum_by holders_of views + length items ≡ 1 = k.one in
      let long : length (items ++ b ∷ []) ≡ length items + 1 = length-append items (b ∷ []) in (
        w,
        record {
          of = Some (task b);
          entries = log b;
          parts = omega (arith, parts, all, whole);
          one = omega (arith, one, holders, sum, long);
          lies = subst (λ (l : List B). AllByRecursion (Lies task log (Some (task b)) (log b)) (l ++ b ∷ [])) (sym none) ((refl, refl), tt);
          each = fits_set (Some (task b)) (log b) views pass w
              (record { idle = λ _. refl; seen = λ _. (refl, begins_itself (log b)); told = λ _. tt; whole = λ i. absurd (true≢false (sym i)) })
              (λ j u apart at'. let idle = none_else views pass j v u k.parts whole apart at at' in fits_idle (Some (task b)) (log b) u idle ((k.each j u at').idle idle));
        },
        refl,
      )

  pub enters : (pass : ℕ) (v : View T I) → 0 < v.parts → Pops (Kept task log) pass v (Entered task log v)
  enters pass v some_part b items views k at =
      let fit = k.each pass v at in
      let w : View T I = entered v (task b) (log b) in
      let lies : Lies task log k.of k.entries b = k.lies.0 in
      let parts : sum_by parts_of (set views pass w) + v.parts ≡ sum_by parts_of views + v.parts = sum_set parts_of views pass v w at in
      let all : sum_by parts_of views ≡ ALL_PARTS = k.parts in
      let holders : sum_by holders_of (set views pass w) + holders_of v ≡ sum_by holders_of views + 1 = sum_set holders_of views pass v w at in
      let some_one : holders_of v ≤ sum_by holders_of views = sum_at holders_of views pass v at in
      let sum : sum_by holders_of views + length (b ∷ items) ≡ 1 = k.one in (
        w,
        record {
          of = k.of;
          entries = k.entries;
          parts = omega (arith, parts, all);
          one = omega (arith, holders, some_one, sum);
          lies = k.lies.1;
          each = fits_set k.of k.entries views pass w
              (record {
                idle = λ e. absurd (omega (arith, some_part, e));
                seen = λ _. (lies.0, subst (λ (l : List I). BeginsWith k.entries l) (sym lies.1) (begins_itself k.entries));
                told = fit.told;
                whole = λ _. sym lies.1;
              })
              (λ j u _ at'. k.each j u at');
        },
        record {
          becomes = refl;
          seen = subst (λ (o : Option T). GoesOnFrom o (log b) v.seen) (sym lies.0) (subst (λ (l : List I). GoesOnFrom k.of l v.seen) (sym lies.1) (fit.seen some_part));
          told = subst (λ (o : Option T). AllByRecursion (GoesOnFrom o (log b)) v.told) (sym lies.0) (subst (λ (l : List I). AllByRecursion (GoesOnFrom k.of l) v.told) (sym lies.1) (fit.told some_part));
        },
      )

  pub leaves : (n pass : ℕ) (v : View T I) (b : B) → 0 < v.parts → v.inside ≡ true → v.seen.task ≡ Some (task b) → BeginsWith (log b) v.seen.log → Pushes (Kept task log) n pass v b (Left task log v b)
  leaves n pass v b some_part inside of begins_with items views room k at =
      let fit = k.each pass v at in
      let w : View T I = left v (task b) (log b) in
      let none : items ≡ [] = gone pass v inside items views k at in
      let grows : BeginsWith (log b) k.entries = subst (λ (l : List I). BeginsWith (log b) l) (sym (fit.whole inside)) begins_with in
      let parts : sum_by parts_of (set views pass w) + v.parts ≡ sum_by parts_of views + v.parts = sum_set parts_of views pass v w at in
      let all : sum_by parts_of views ≡ ALL_PARTS = k.parts in
      let one : holders_of v ≡ 1 = held v.inside inside in
      let holders : sum_by holders_of (set views pass w) + holders_of v ≡ sum_by holders_of views + 0 = sum_set holders_of views pass v w at in
      let sum : sum_by holders_of views + length items ≡ 1 = k.one in
      let long : length (items ++ b ∷ []) ≡ length items + 1 = length-append items (b ∷ []) in (
        w,
        record {
          of = k.of;
          entries = log b;
          parts = omega (arith, parts, all);
          one = omega (arith, one, holders, sum, long);
          lies = subst (λ (l : List B). AllByRecursion (Lies task log k.of (log b)) (l ++ b ∷ [])) (sym none) ((sym of ∙ (fit.seen some_part).0, refl), tt);
          each = fits_set k.of (log b) views pass w
              (record {
                idle = λ _. refl;
                seen = λ p. (sym of ∙ (fit.seen p).0, begins_itself (log b));
                told = λ p. goes_each k.of (log b) k.entries v.told grows (fit.told p);
                whole = λ i. absurd (true≢false (sym i));
              })
              (λ j u apart at'.
              let theirs = k.each j u at' in
              let two : holders_of v + holders_of u ≤ sum_by holders_of views = sum_two holders_of views pass j v u apart at at' in
              let out : u.inside ≡ false = not_held u.inside (omega (arith, two, one, sum)) in
              record {
                idle = theirs.idle;
                seen = λ p. goes_along k.of (log b) k.entries u.seen grows (theirs.seen p);
                told = λ p. goes_each k.of (log b) k.entries u.told grows (theirs.told p);
                whole = λ i. absurd (true≢false (sym i ∙ out));
              });
        },
        refl,
      )

  pub forks : (pass : ℕ) (v : View T I) → 1 < v.parts → v.inside ≡ false → Forks (Kept task log) pass v (less_one v) (another_of v)
  forks pass v two_parts out items views k at =
      let fit = k.each pass v at in
      let some_part : 0 < v.parts = omega (arith, two_parts) in
      let l : View T I = less_one v in
      let r : View T I = another_of v in
      let vs : List (View T I) = set views pass l in
      let parts : sum_by parts_of vs + v.parts ≡ sum_by parts_of views + (v.parts - 1) = sum_set parts_of views pass v l at in
      let all : sum_by parts_of views ≡ ALL_PARTS = k.parts in
      let parts_push : sum_by parts_of (vs ++ r ∷ []) ≡ sum_by parts_of vs + 1 = sum_by_push parts_of vs r in
      let holders : sum_by holders_of vs + holders_of v ≡ sum_by holders_of views + holders_of v = sum_set holders_of views pass v l at in
      let holders_push : sum_by holders_of (vs ++ r ∷ []) ≡ sum_by holders_of vs + 0 = sum_by_push holders_of vs r in
      let sum : sum_by holders_of views + length items ≡ 1 = k.one in
      let old : (j : ℕ) (u : View T I) → get_elem? vs j ≡ some u → Fits k.of k.entries u =
      fits_set k.of k.entries views pass l (record { idle = λ _. out; seen = λ _. fit.seen some_part; told = λ _. fit.told some_part; whole = fit.whole }) (λ j u _ at'. k.each j u at') in
      let new : Fits k.of k.entries r = record { idle = λ _. refl; seen = λ _. fit.seen some_part; told = λ _. tt; whole = λ i. absurd (true≢false (sym i)) } in
      record {
        of = k.of;
        entries = k.entries;
        parts = omega (arith, parts, all, parts_push, some_part);
        one = omega (arith, holders, holders_push, sum);
        lies = k.lies;
        each = λ j u e. ⊎_elim (λ (x : get_elem? vs j ≡ some u). old j u x) (λ (is : r ≡ u). subst (Fits k.of k.entries) is new) (at_snoc vs r u j e);
      }

  pub merges : (pass : ℕ) (v : View T I) (other : ℕ) (w : View T I) → 0 < v.parts → 0 < w.parts → w.inside ≡ false → Merges (Kept task log) pass v other w (with_told v w) spent
  merges pass v other w some_part their_part out items views k at apart at' =
      let fit = k.each pass v at in
      let both : View T I = with_told v w in
      let no : View T I = spent in
      let vs : List (View T I) = set views pass both in
      let was : get_elem? views other ≡ some w = ⊎_elim (λ (x : (other ≡ pass) × (both ≡ w)). absurd (apart x.0)) (λ (x : (other ≢ pass) × (get_elem? views other ≡ some w)). x.1) (at_set views pass other both w at') in
      let theirs = k.each other w was in
      let parts : sum_by parts_of vs + v.parts ≡ sum_by parts_of views + (v.parts + w.parts) = sum_set parts_of views pass v both at in
      let parts' : sum_by parts_of (set vs other no) + w.parts ≡ sum_by parts_of vs + 0 = sum_set parts_of vs other w no at' in
      let all : sum_by parts_of views ≡ ALL_PARTS = k.parts in
      let holders : sum_by holders_of vs + holders_of v ≡ sum_by holders_of views + holders_of v = sum_set holders_of views pass v both at in
      let holders' : sum_by holders_of (set vs other no) + holders_of w ≡ sum_by holders_of vs + 0 = sum_set holders_of vs other w no at' in
      let free : holders_of w ≡ 0 = left_free w.inside out in
      let sum : sum_by holders_of views + length items ≡ 1 = k.one in
      let mine : Fits k.of k.entries both = record {
        idle = λ e. absurd (omega (arith, some_part, e));
        seen = λ _. fit.seen some_part;
        told = λ _. AllByRecursion-push (GoesOnFrom k.of k.entries) v.told w.seen (fit.told some_part) (theirs.seen their_part);
        whole = fit.whole;
      } in
      record {
        of = k.of;
        entries = k.entries;
        parts = omega (arith, parts, parts', all);
        one = omega (arith, holders, holders', free, sum);
        lies = k.lies;
        each = fits_set k.of k.entries vs other no (fits_idle k.of k.entries no refl refl)
            (λ j u _ e. fits_set k.of k.entries views pass both mine (λ j' u' _ e'. k.each j' u' e') j u e);
      }
