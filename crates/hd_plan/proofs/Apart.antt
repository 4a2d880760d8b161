-- Where no name stands twice, a name is that of one number, and a step that of one instance.
use Rattle.std.proofs.Common.{◌≡◌, ℕ, zero, suc, true, false, ◌||◌, List, [], ◌∷◌, ◌++◌, Some, slice_get, refl, sym, ap, ap₂, ◌∙◌, subst, true≢false}
use Rattle.std.specs.List.{AllZip}
use Rattle.std.specs.Str.{bytes_eq}
use Rattle.std.proofs.lemmas.Bool.{or_parts}
use Rattle.std.proofs.lemmas.List.Folds.{list_any-append}
use Rattle.std.proofs.lemmas.Option.{none-some, same_Some}
use Rattle.std.proofs.lemmas.Slice.Eq.{bytes_eq-Decides}
use Rattle.hd_base.specs.Names.{is_named}
use Rattle.hd_plan.specs.declared.step.Step.{Step}
use Rattle.hd_lifted.specs.declared.schema.Schema.{Schema}
use Rattle.hd_lifted.specs.declared.instance.Instance.{Instance}
use Rattle.hd_lifted.specs.declared.task.Object as declared
use Rattle.hd_lifted.specs.declared.task.LiftedTask.{LiftedTask}
use Rattle.hd_lifted.specs.WellFormed.{AreNew, HasDistinctNames}
use Rattle.hd_plan.specs.Naming.{IsSchemaNamed, IsObjectNamed, HasNamesOf, IsStep}
use Rattle.hd_plan.specs.Tables.{names_of_objects, names_of_schemas}
use Rattle.hd_plan.proofs.Finding.{name_at}

-- ---- names

-- a name that stands among new ones is none of the given
new_at : (given names : List (List ℕ)) (k : ℕ) (n : List ℕ) → AreNew given names → slice_get names k ≡ Some n → is_named given n ≡ false
new_at given [] k n new e = absurd (none-some n e)
new_at given (m ∷ names) zero n new e = subst (λ x. is_named given x ≡ false) (same_Some m n e) new.0
new_at given (m ∷ names) (suc k) n new e =
    (or_parts (is_named given n) (is_named (m ∷ []) n) (sym (list_any-append (bytes_eq n) given (m ∷ [])) ∙ new_at (given ++ m ∷ []) names k n new.1 e)).0

-- so that the first of them does not stand again
first_again : (given names : List (List ℕ)) (k : ℕ) (n : List ℕ) → AreNew (given ++ n ∷ []) names → slice_get names k ≡ Some n → ⊥
first_again given names k n new e =
    true≢false
    (sym (ap (λ b. b || false) ((bytes_eq-Decides n n).1 refl))
    ∙ (or_parts (is_named given n) (is_named (n ∷ []) n) (sym (list_any-append (bytes_eq n) given (n ∷ [])) ∙ new_at (given ++ n ∷ []) names k n new e)).1)

one_place : (given names : List (List ℕ)) (i j : ℕ) (n : List ℕ) → AreNew given names → slice_get names i ≡ Some n → slice_get names j ≡ Some n → i ≡ j
one_place given [] i j n new e f = absurd (none-some n e)
one_place given (m ∷ names) zero zero n new e f = refl
one_place given (m ∷ names) zero (suc j) n new e f =
    absurd (first_again given names j n (subst (λ x. AreNew (given ++ x ∷ []) names) (same_Some m n e) new.1) f)
one_place given (m ∷ names) (suc i) zero n new e f =
    absurd (first_again given names i n (subst (λ x. AreNew (given ++ x ∷ []) names) (same_Some m n f) new.1) e)
one_place given (m ∷ names) (suc i) (suc j) n new e f = ap suc (one_place (given ++ m ∷ []) names i j n new.1 e f)

-- ---- what they name

one_schema : (t : LiftedTask) (i j : ℕ) (n : List ℕ) → HasDistinctNames t → IsSchemaNamed t i n → IsSchemaNamed t j n → i ≡ j
one_schema t i j n distinct is also =
    let name = λ (a : Schema). a.name in
    one_place [] (names_of_schemas t.schemas) i j n distinct.schemas (name_at name t.schemas i n is) (name_at name t.schemas j n also)

one_object : (t : LiftedTask) (i j : ℕ) (n : List ℕ) → HasDistinctNames t → IsObjectNamed t i n → IsObjectNamed t j n → i ≡ j
one_object t i j n distinct is also =
    let name = λ (o : declared.Object). o.name in
    one_place [] (names_of_objects t.objects) i j n distinct.objects (name_at name t.objects i n is) (name_at name t.objects j n also)

same_objects : (t : LiftedTask) (is js : List ℕ) (ns : List (List ℕ)) → HasDistinctNames t → AllZip (IsObjectNamed t) is ns → AllZip (IsObjectNamed t) js ns → is ≡ js
same_objects t [] [] [] distinct one other = refl
same_objects t [] (j ∷ js) [] distinct one other = absurd other
same_objects t (i ∷ is) js [] distinct one other = absurd one
same_objects t [] js (n ∷ ns) distinct one other = absurd one
same_objects t (i ∷ is) [] (n ∷ ns) distinct one other = absurd other
same_objects t (i ∷ is) (j ∷ js) (n ∷ ns) distinct one other =
    ap₂ (λ (k : ℕ) (ks : List ℕ). k ∷ ks) (one_object t i j n distinct one.0 other.0) (same_objects t is js ns distinct one.1 other.1)

abbrev instance_by : ℕ → List ℕ → Instance
instance_by schema objects = record { schema = schema; objects = objects }

-- the names of a step are those of one instance
pub one_instance : (t : LiftedTask) (s : Step) (i j : Instance) → HasDistinctNames t → HasNamesOf t s i → HasNamesOf t s j → i ≡ j
one_instance t s i j distinct one other =
    ap₂ instance_by (one_schema t i.schema j.schema s.name distinct one.schema other.schema) (same_objects t i.objects j.objects s.args distinct one.objects other.objects)

pub one_step : (t : LiftedTask) (s : Step) (i j : Instance) → HasDistinctNames t → IsStep t s i → IsStep t s j → i ≡ j
one_step t s i j distinct one other = one_instance t s i j distinct one.names other.names

-- and plans are told apart
pub one_plan : (t : LiftedTask) (steps : List Step) (p q : List Instance) → HasDistinctNames t → AllZip (IsStep t) steps p → AllZip (IsStep t) steps q → p ≡ q
one_plan t [] [] [] distinct one other = refl
one_plan t [] (i ∷ p) q distinct one other = absurd one
one_plan t [] [] (j ∷ q) distinct one other = absurd other
one_plan t (s ∷ steps) [] q distinct one other = absurd one
one_plan t (s ∷ steps) (i ∷ p) [] distinct one other = absurd other
one_plan t (s ∷ steps) (i ∷ p) (j ∷ q) distinct one other =
    ap₂ (λ (k : Instance) (ks : List Instance). k ∷ ks) (one_step t s i j distinct one.0 other.0) (one_plan t steps p q distinct one.1 other.1)
