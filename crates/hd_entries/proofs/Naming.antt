-- The plans that entries and successors name.
use Rattle.std.proofs.Common.{◌≡◌, ℕ, ◌+◌, ◌<◌, ◌==◌, cond, Option, Some, None, List, [], ◌∷◌, ◌++◌, map, length, get_or, fold, slice_get, refl, sym, ap, ap₂, ◌∙◌, subst, arith, length-append, append_assoc}
use Rattle.std.specs.Prelude.{flat_map, option_and_then}
use Rattle.std.proofs.lemmas.Bool.{ne_eqb, cond-false}
use Rattle.std.proofs.lemmas.List.{map-append, length-map, get_or_at}
use Rattle.std.proofs.lemmas.List.Concat.{flat_map-append}
use Rattle.std.proofs.lemmas.List.Sums.{fold-append}
use Rattle.std.proofs.lemmas.Option.{none-some, same_Some, slice_get-get_or}
use Rattle.hd_task.specs.declared.task.Task.{Task}
use Rattle.hd_task.specs.declared.plan.Kid.{Kid}
use Rattle.hd_task.specs.declared.plan.TheConstants.{ROOT_PARENT, ROOT_ACTION}
use Rattle.hd_task.specs.Plans.{exec}
use Rattle.hd_task.specs.Expansions.{followed_by, applicable_at, children, generated}
use Rattle.hd_task.specs.Entries.{plan_from, plan_of, with_entry, plans_of}
use Rattle.hd_tables.specs.Kids.{root, kid_from}
use Rattle.hd_entries.specs.Kids.{kids_of, kids_from, posted_by}

-- one more entry
pub plans_of-push : (entries : List Kid) (k : Kid) (expanded : List (List ℕ)) (p : List ℕ) → plans_of entries ≡ Some expanded → plan_of expanded k ≡ Some p → plans_of (entries ++ k ∷ []) ≡ Some (expanded ++ p ∷ [])
plans_of-push entries k expanded p e is =
    fold-append with_entry (Some []) entries (k ∷ [])
    ∙ (ap (λ o. with_entry o k) e ∙ ap (λ o. option_and_then (λ p. Some (expanded ++ p ∷ [])) o) is)

-- a successor of an entry
pub plan_of-kid : (expanded : List (List ℕ)) (n a : ℕ) (p : List ℕ) → n < length expanded → length expanded < ROOT_PARENT → get_or expanded n [] ≡ p → plan_of expanded (kid_from n a) ≡ Some (followed_by p a)
plan_of-kid expanded n a p lt short e =
    cond-false (n == ROOT_PARENT) (cond (a == ROOT_ACTION) (Some []) None) (plan_from (slice_get expanded n) a) (ne_eqb n ROOT_PARENT (λ e. omega arith))
    ∙ ap (λ o. plan_from o a) (slice_get-get_or expanded n [] lt ∙ ap Some e)

pub plan_of-root : (expanded : List (List ℕ)) → plan_of expanded root ≡ Some []
plan_of-root expanded = refl

-- the successors of one entry name its children
kids_named : (expanded : List (List ℕ)) (n : ℕ) (p : List ℕ) (actions : List ℕ) → n < length expanded → length expanded < ROOT_PARENT → get_or expanded n [] ≡ p → map (plan_of expanded) (kids_of n actions) ≡ map (λ a. Some (followed_by p a)) actions
kids_named expanded n p [] lt short e = refl
kids_named expanded n p (a ∷ actions) lt short e =
    ap₂ (λ (x : Option (List ℕ)) (xs : List (Option (List ℕ))). x ∷ xs) (plan_of-kid expanded n a p lt short e) (kids_named expanded n p actions lt short e)

map_some : (p : List ℕ) (actions : List ℕ) → map (λ a. Some (followed_by p a)) actions ≡ map Some (map (followed_by p) actions)
map_some p [] = refl
map_some p (a ∷ actions) = ap (λ xs. Some (followed_by p a) ∷ xs) (map_some p actions)

-- the successors of the entries from some place on name what those generate
from_named : (t : Task) (before after : List (List ℕ)) → length (before ++ after) < ROOT_PARENT → map (plan_of (before ++ after)) (kids_from t (length before) after) ≡ map Some (flat_map (children t) after)
from_named t before [] short = refl
from_named t before (p ∷ after) short =
    let all : List (List ℕ) = before ++ p ∷ after in
    let actions = applicable_at t (exec t p) in
    let whole : (before ++ p ∷ []) ++ after ≡ before ++ p ∷ after = append_assoc before (p ∷ []) after in
    let count : length (before ++ p ∷ []) ≡ length before + 1 = length-append before (p ∷ []) in
    let lt : length before < length (before ++ p ∷ after) = omega (arith, length-append before (p ∷ after)) in
    let rest : map (plan_of (before ++ p ∷ after)) (kids_from t (length before + 1) after) ≡ map Some (flat_map (children t) after) =
    ap (λ n. map (plan_of (before ++ p ∷ after)) (kids_from t n after)) (sym count)
    ∙ (ap (λ xs. map (plan_of xs) (kids_from t (length (before ++ p ∷ [])) after)) (sym whole)
    ∙ from_named t (before ++ p ∷ []) after (subst (λ (xs : List (List ℕ)). length xs < ROOT_PARENT) (sym whole) short))
    in
    map-append (plan_of (before ++ p ∷ after)) (kids_of (length before) actions) (kids_from t (length before + 1) after)
    ∙ (ap₂ (λ xs ys. xs ++ ys)
    (kids_named (before ++ p ∷ after) (length before) p actions lt short (get_or_at before p after [] (length before) refl) ∙ map_some p actions)
    rest
    ∙ sym (map-append Some (children t p) (flat_map (children t) after)))

-- what a list of expansions posts names what it generates, in order
pub posted_named : (t : Task) (expanded : List (List ℕ)) → length expanded < ROOT_PARENT → map (plan_of expanded) (posted_by t expanded) ≡ map Some (generated t expanded)
posted_named t expanded short = ap (λ xs. Some [] ∷ xs) (from_named t [] expanded short)

-- ---- longer lists

kids_from-append : (t : Task) (n : ℕ) (expanded more : List (List ℕ)) → kids_from t n (expanded ++ more) ≡ kids_from t n expanded ++ kids_from t (n + length expanded) more
kids_from-append t n [] more = ap (λ m. kids_from t m more) (omega arith)
kids_from-append t n (q ∷ expanded) more =
    let first = kids_of n (applicable_at t (exec t q)) in
    ap (λ ks. first ++ ks) (kids_from-append t (n + 1) expanded more)
    ∙ (sym (append_assoc first (kids_from t (n + 1) expanded) (kids_from t (n + 1 + length expanded) more))
    ∙ ap (λ m. (first ++ kids_from t (n + 1) expanded) ++ kids_from t m more) (omega arith))

-- further expansions post further successors, and generate further plans
pub posted_by-append : (t : Task) (expanded more : List (List ℕ)) → posted_by t (expanded ++ more) ≡ posted_by t expanded ++ kids_from t (length expanded) more
posted_by-append t expanded more =
    ap (λ (ks : List Kid). root ∷ ks)
    (kids_from-append t 0 expanded more ∙ ap (λ m. kids_from t 0 expanded ++ kids_from t m more) (omega arith))

pub generated-append : (t : Task) (expanded more : List (List ℕ)) → generated t (expanded ++ more) ≡ generated t expanded ++ flat_map (children t) more
generated-append t expanded more = ap (λ (ps : List (List ℕ)). [] ∷ ps) (flat_map-append (children t) expanded more)

-- as many successors are posted as plans are generated
pub posted_count : (t : Task) (expanded : List (List ℕ)) → length expanded < ROOT_PARENT → length (posted_by t expanded) ≡ length (generated t expanded)
posted_count t expanded short =
    sym (length-map (posted_by t expanded) (plan_of expanded))
    ∙ (ap length (posted_named t expanded short) ∙ length-map (generated t expanded) Some)

-- as many plans are named as there are entries
length-named : (ks : List Kid) (expanded all : List (List ℕ)) → fold with_entry (Some expanded) ks ≡ Some all → length all ≡ length expanded + length ks
length-named [] expanded all e = ap length (sym (same_Some expanded all e)) ∙ omega arith
length-named (k ∷ ks) expanded all e =
    elim (plan_of expanded k) as (λ o. fold with_entry (option_and_then (λ p. Some (expanded ++ p ∷ [])) o) ks ≡ Some all → length all ≡ length expanded + length (k ∷ ks)) [
      | None ↦ λ e. absurd (none-some all (sym (nothing ks) ∙ e))
      | Some p ↦ λ e. length-named ks (expanded ++ p ∷ []) all e ∙ omega (arith, length-append expanded (p ∷ []))
    ] e
  where
    nothing : (ks : List Kid) → fold with_entry None ks ≡ None
    nothing [] = refl
    nothing (k ∷ ks) = nothing ks

pub length-plans_of : (entries : List Kid) (expanded : List (List ℕ)) → plans_of entries ≡ Some expanded → length expanded ≡ length entries
length-plans_of entries expanded e = length-named entries [] expanded e ∙ omega arith
