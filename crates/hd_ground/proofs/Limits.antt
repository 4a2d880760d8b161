-- What is counted of a task, and what is reported where it is too much or at fault.
use Rattle.std.proofs.Common.{◌≡◌, ◌≢◌, ◌↔◌, ◌+◌, ◌<◌, ◌≤◌, ◌∙◌, ℕ, true, false, List, [], ◌++◌, take, length, filter, Contains, Option, Some, None, inl, inr, refl, sym, subst, arith}
use Rattle.std.specs.Prelude.{nat_lt, not, find, slice_get, slice_index_or, get_or}
use Rattle.std.specs.List.{AllPairs}
use Rattle.std.proofs.lemmas.Bool.{ltb-false, ltb-true, le-ltb}
use Rattle.std.proofs.lemmas.Option.{none-some, same_Some}
use Rattle.std.proofs.lemmas.List.{take_more}
use Rattle.std.proofs.lemmas.List.Filters.{length-filter_both}
use Rattle.std.proofs.lemmas.List.Elements.{Contains-push_cases, Contains-get_or}
use Rattle.hd_base.proofs.Members.{Contains-nil}
use Rattle.hd_lifted.specs.declared.instance.Instance.{Instance}
use Rattle.hd_lifted.specs.declared.schema.Ground.{Ground}
use Rattle.hd_lifted.specs.declared.schema.NumericEffect.{NumericEffect}
use Rattle.hd_lifted.specs.declared.schema.Schema.{Schema}
use Rattle.hd_lifted.specs.declared.task.LiftedTask.{LiftedTask}
use Rattle.hd_lifted.specs.Kept.{IsKept, IsReachable}
use Rattle.hd_lifted.specs.Numbering.{form_key, HasExactly, HasMoreThan, IsTaskAtom, NumbersInstances, NumbersAtoms, NumbersFluents}
use Rattle.hd_lifted.specs.Questions.{is_undefined, is_paid}
use Rattle.hd_grounding.specs.Faults.{met_by_all, undefined_in, negative_in, IsTooLarge}
use Rattle.hd_images.specs.Meeting.{IsMet, with_forms, goal_atoms}
use Rattle.hd_images.proofs.TaskAtoms.{IsTooLarge-from_gathered, NumbersAtoms-from_gathered}
use Rattle.hd_images.proofs.TaskFluents.{IsTooLarge-from_met, NumbersFluents-from_met, undefined_in-met}
use Rattle.hd_reach.specs.declared.error.ReachStop.TheVariants.{TooMany}
use Rattle.hd_reach.specs.declared.reading.Limits.{Limits}
use Rattle.hd_reach.specs.Reaching.{StopsReaching}
use Rattle.hd_grounding.specs.Counted.{HaveFewAmounts, AreCounted}
use Rattle.hd_grounding.proofs.Limits.{not_too_large}
use Rattle.hd_ground.specs.Amounts.{amounts_of, HasMoreAmountsIn}
use Rattle.hd_ground.specs.Telling.{ground_fluent_text, action_text, NamesUndefined, NamesNegative}

-- ---- amounts

paid_within : (xs : List NumericEffect) → length (filter is_paid xs) ≤ length xs
paid_within xs = let both = length-filter_both is_paid (λ e. not (is_paid e)) (λ e. refl) xs in omega (arith, both)

short : (xs : List NumericEffect) → nat_lt 4294967296 (length xs) ≡ false → length (filter is_paid xs) ≤ 4294967296
short xs few = let fits = ltb-false 4294967296 (length xs) few in omega (arith, paid_within xs, fits)

pub few_effects : (xs : List NumericEffect) (a : Schema) → xs ≡ a.effects → nat_lt 4294967296 (length xs) ≡ false
    → nat_lt 4294967296 (length xs) ≡ nat_lt 4294967296 (amounts_of a)
few_effects xs a e few = few ∙ sym (le-ltb 4294967296 (amounts_of a) (short a.effects (subst (λ ys. nat_lt 4294967296 (length ys) ≡ false) e few)))

few_still : (t : LiftedTask) (is : List Instance) (k : ℕ) (i : Instance) → k < length is → i ≡ slice_index_or is k i → HaveFewAmounts t (take k is)
    → ((a : Schema) → slice_get t.schemas i.schema ≡ Some a → amounts_of a ≤ 4294967296) → HaveFewAmounts t (take (k + 1) is)
few_still t is k i lt at few these j a c e =
    elim (Contains-push_cases (take k is) (get_or is k i) j (subst (λ js. Contains js j) (take_more is k i lt) c)) [
      | inl before ↦ few j a before e
      | inr last ↦ these a (subst (λ (x : Instance). slice_get t.schemas x.schema ≡ Some a) (sym (at ∙ last)) e)
    ]

pub few_none : (t : LiftedTask) → HaveFewAmounts t []
few_none t j a c e = absurd (Contains-nil j c)

pub few_more : (t : LiftedTask) (is : List Instance) (k : ℕ) (i : Instance) (b : Schema) → k < length is → i ≡ slice_index_or is k i
    → HaveFewAmounts t (take k is) → slice_get t.schemas i.schema ≡ Some b → nat_lt 4294967296 (amounts_of b) ≡ false
    → HaveFewAmounts t (take (k + 1) is)
few_more t is k i b lt at few is_schema less =
    few_still t is k i lt at few (λ a e. subst (λ (x : Schema). amounts_of x ≤ 4294967296) (same_Some b a (sym is_schema ∙ e)) (ltb-false 4294967296 (amounts_of b) less))

pub few_without : (t : LiftedTask) (is : List Instance) (k : ℕ) (i : Instance) → k < length is → i ≡ slice_index_or is k i
    → HaveFewAmounts t (take k is) → slice_get t.schemas i.schema ≡ None → HaveFewAmounts t (take (k + 1) is)
few_without t is k i lt at few none = few_still t is k i lt at few (λ a e. absurd (none-some a (sym none ∙ e)))

pub more_found : (t : LiftedTask) (is : List Instance) (k : ℕ) (i : Instance) (b : Schema) → k < length is → i ≡ slice_index_or is k i
    → slice_get t.schemas i.schema ≡ Some b → nat_lt 4294967296 (amounts_of b) ≡ true → HasMoreAmountsIn t is
more_found t is k i b lt at is_schema over = record {
  instance = i;
  among = subst (Contains is) (sym at) (Contains-get_or is k i lt);
  schema = b;
  is_schema = is_schema;
  more = ltb-true 4294967296 (amounts_of b) over;
}

-- ---- atoms

pub too_many_atoms : (t : LiftedTask) (found forms : List Ground) → ((g : Ground) → IsReachable t g ↔ Contains found g)
    → forms ≡ with_forms [] (found ++ goal_atoms t) → AllPairs (λ (g h : Ground). g ≢ h) forms → 1048576 < length forms → IsTooLarge t
too_many_atoms t found forms are e apart over =
    IsTooLarge-from_gathered t found are (subst (AllPairs (λ (g h : Ground). g ≢ h)) e apart) (subst (λ fs. 1048576 < length fs) e over)

pub numbers_atoms : (t : LiftedTask) (found forms numbers : List Ground) → ((g : Ground) → IsReachable t g ↔ Contains found g)
    → forms ≡ with_forms [] (found ++ goal_atoms t) → HasExactly (Contains forms) form_key numbers → NumbersAtoms t numbers
numbers_atoms t found forms numbers are e numbered =
    NumbersAtoms-from_gathered t found numbers are (subst (λ fs. HasExactly (Contains fs) form_key numbers) e numbered)

-- ---- fluents

pub too_many_fluents : (t : LiftedTask) (is : List Instance) (forms : List Ground) → NumbersInstances t is → IsMet 65536 (met_by_all t is) forms
    → AllPairs (λ (g h : Ground). g ≢ h) forms → 65536 < length forms → IsTooLarge t
too_many_fluents = IsTooLarge-from_met

pub numbers_fluents : (t : LiftedTask) (is : List Instance) (forms numbers : List Ground) → NumbersInstances t is → IsMet 65536 (met_by_all t is) forms
    → length forms ≤ 65536 → HasExactly (Contains forms) form_key numbers → NumbersFluents t numbers
numbers_fluents = NumbersFluents-from_met

pub first_undefined : (t : LiftedTask) (is : List Instance) (forms : List Ground) (o : Option Ground) → IsMet 65536 (met_by_all t is) forms
    → length forms ≤ 65536 → o ≡ find (is_undefined t) forms → o ≡ undefined_in t is
first_undefined t is forms o met fits e = e ∙ undefined_in-met t is forms met fits

-- ---- faults

pub names_undefined : (t : LiftedTask) (is : List Instance) (atoms fluents : List Ground) (o : Option Ground) (g : Ground) (text : List ℕ)
    → AreCounted t is atoms fluents → o ≡ undefined_in t is → o ≡ Some g → text ≡ ground_fluent_text t g → NamesUndefined t text
names_undefined t is atoms fluents o g text counted e first told = record {
  fluent = g;
  undefined = record { fits = not_too_large t is atoms fluents counted; instances = is; numbers_instances = counted.numbers_instances; is_first = sym e ∙ first };
  is = told;
}

pub names_negative : (t : LiftedTask) (is : List Instance) (atoms fluents : List Ground) (o : Option Ground) (i : Instance) (text : List ℕ)
    → AreCounted t is atoms fluents → o ≡ undefined_in t is → o ≡ None → negative_in t is ≡ Some i → text ≡ action_text t i → NamesNegative t text
names_negative t is atoms fluents o i text counted e none first told = record {
  instance = i;
  negative = record {
    fits = not_too_large t is atoms fluents counted;
    instances = is;
    numbers_instances = counted.numbers_instances;
    none_undefined = sym e ∙ none;
    is_first = first;
  };
  is = told;
}

-- ---- stops

atoms_too_many : (t : LiftedTask) → HasMoreThan (IsReachable t) 1048576 → IsTooLarge t
atoms_too_many t more =
    IsTooLarge.atoms (record { some = more.some; all = λ g c. IsTaskAtom.reached (more.all g c); distinct = more.distinct; more = more.more })

pub too_many : (t : LiftedTask) (limits : Limits) → limits.actions ≡ 1048576 → limits.atoms ≡ 1048576 → StopsReaching t limits TooMany → IsTooLarge t
too_many t limits a b (inl more) = IsTooLarge.actions (subst (HasMoreThan (IsKept t)) a more)
too_many t limits a b (inr more) = atoms_too_many t (subst (HasMoreThan (IsReachable t)) b more)
