-- Where an action leads: what is written of a state, one part after another, and what is answered.
use Rattle.std.proofs.Common.{◌≡◌, ◌≢◌, ℕ, zero, suc, ◌+◌, ◌<◌, Bool, true, false, cond, not, ◌&&◌, ◌||◌, List, [], ◌∷◌, length, get_or, set, fold, Option, Some, None, is_some, refl, sym, ap, ap₂, ◌∙◌}
use Rattle.std.specs.Prelude.{ℤ, slice_get, unwrap_or, MatchOption, Result, Ok, Err, IfOk}
use mathlib.Core.Bool.{beq}
use Rattle.std.specs.List.{list_all}
use Rattle.std.proofs.lemmas.List.{set-get_or}
use Rattle.std.proofs.lemmas.Option.{slice_get_within, get_or_from_slice_get, slice_get_read, unwrap_or-slice_get}
use Rattle.hd_base.specs.Numbers.{cost_in_range}
use Rattle.hd_task.specs.declared.state.State.{State}
use Rattle.hd_task.specs.declared.effect.Effect.{Effect}
use Rattle.hd_task.specs.declared.action.Action.{Action}
use Rattle.hd_task.specs.declared.task.Task.{Task}
use Rattle.hd_task.specs.declared.applying.GoalTest.TheVariants as Test
use Rattle.hd_task.specs.declared.applying.Applied.{Applied}
use Rattle.hd_task.specs.declared.applying.Applied.TheVariants as Answer
use Rattle.hd_task.specs.declared.stepping.Reached.TheVariants as Step
use Rattle.hd_task.specs.Expressions.{stays_in_range}
use Rattle.hd_task.specs.Conditions.{holds, condition_departs}
use Rattle.hd_task.specs.Effects.{effect_stays, effects_stay, state_after, step_cost}
use Rattle.hd_task.specs.Plans.{IsStateOf, node}
use Rattle.hd_task.specs.Applying.{test_of, departs_aside, next_of, applied_of, applied_by, applied_at, fits_task}
use Rattle.hd_task.specs.Stepping.{step_at}
use Rattle.hd_task.proofs.Atoms.{put, written_atoms}
use Rattle.hd_task.proofs.Fluents.{write, written_fluents, rising_effects}
use Rattle.hd_task.proofs.Reaching.{reached_from, step_at-is}
use Rattle.hd_zobrist.specs.declared.change.Change.TheVariants.{Atom}
use Rattle.hd_zobrist.specs.Hash.{changed, state_hash}
use Rattle.hd_pack.specs.declared.leading.Led.{Led}
use Rattle.hd_pack.specs.declared.leading.Led.TheVariants.{Departs, Next}
use Rattle.hd_pack.specs.Leading.{led_of, led_by, with_atom_value, with_value, with_effect_value}

-- ---- one write

same_bit : (a b : Bool) → beq a b ≡ true → a ≡ b
same_bit true true e = refl
same_bit true false e = absurd (cc)
same_bit false true e = absurd (cc)
same_bit false false e = refl

different_bit : (a b : Bool) → beq a b ≡ false → a ≢ b
different_bit true true e = λ _. absurd (cc)
different_bit true false e = λ same. absurd (cc)
different_bit false true e = λ same. absurd (cc)
different_bit false false e = λ _. absurd (cc)

-- an item that was read, or another one where there is none
pub read_or : {X : Type 0} (xs : List X) (i : ℕ) (o : Option X) (x y : X) → o ≡ slice_get xs i → y ≡ unwrap_or o x → y ≡ get_or xs i x
read_or xs i o x y is was = was ∙ (ap (λ o. unwrap_or o x) is ∙ unwrap_or-slice_get xs i x)

-- an item that differs from another one is there
pub is_there : {X : Type 0} (xs : List X) (i : ℕ) (x : X) → get_or xs i x ≢ x → slice_get xs i ≡ Some (get_or xs i x)
is_there [] i x other = absurd (other refl)
is_there (y ∷ xs) zero x other = refl
is_there (y ∷ xs) (suc i) x other = is_there xs i x other

pub set_same : {X : Type 0} (xs : List X) (i : ℕ) (x : X) → get_or xs i x ≡ x → set xs i x ≡ xs
set_same xs i x same = ap (set xs i) (sym same) ∙ set-get_or xs i x

other_bit : (a b : Bool) → a ≢ b → not a ≡ b
other_bit true true other = absurd (other refl)
other_bit true false other = refl
other_bit false true other = refl
other_bit false false other = absurd (other refl)

pub atom_stays : (v b : Bool) (s : State) (i : ℕ) → b ≡ get_or s.atoms i v → beq b v ≡ true → s ≡ with_atom_value v s i
atom_stays v b s i is test =
    let same : get_or s.atoms i v ≡ v = sym is ∙ same_bit b v test in ap (λ (bs : List Bool). record { atoms = bs; fluents = s.fluents }) (sym (set_same s.atoms i v same))

differs : (v b : Bool) (s : State) (i : ℕ) → b ≡ get_or s.atoms i v → beq b v ≡ false → get_or s.atoms i v ≢ v
differs v b s i is test = λ same. different_bit b v test (is ∙ same)

pub atom_there : (v b : Bool) (s : State) (i : ℕ) → b ≡ get_or s.atoms i v → beq b v ≡ false → i < length s.atoms
atom_there v b s i is test = slice_get_within s.atoms i (get_or s.atoms i v) (is_there s.atoms i v (differs v b s i is test))

pub atom_turned : (v b : Bool) (s : State) (i : ℕ) → b ≡ get_or s.atoms i v → beq b v ≡ false → changed s (Atom i) ≡ with_atom_value v s i
atom_turned v b s i is test =
    let other = differs v b s i is test in
    let same : get_or s.atoms i false ≡ get_or s.atoms i v = get_or_from_slice_get s.atoms i (get_or s.atoms i v) false (is_there s.atoms i v other) in
    ap (λ (b : Bool). with_atom_value b s i) (ap not same ∙ other_bit (get_or s.atoms i v) v other)

pub value_stays : (s : State) (j : ℕ) (v w : ℤ) → w ≡ get_or s.fluents j v → w ≡ v → s ≡ with_value s j v
value_stays s j v w is equal =
    let same : get_or s.fluents j v ≡ v = sym is ∙ equal in ap (λ (vs : List ℤ). record { atoms = s.atoms; fluents = vs }) (sym (set_same s.fluents j v same))

-- ---- all writes

pub atoms_written : (v : Bool) (s : State) (is : List ℕ) → fold (with_atom_value v) s is ≡ record { atoms = fold (put v) s.atoms is; fluents = s.fluents }
atoms_written v s [] = refl
atoms_written v s (i ∷ is) = atoms_written v (with_atom_value v s i) is

pub values_written : (f : List ℤ) (s : State) (es : List Effect) → fold (with_effect_value f) s es ≡ record { atoms = s.atoms; fluents = fold (write f) s.fluents es }
values_written f s [] = refl
values_written f s (e ∷ es) = values_written f (with_effect_value f s e) es

pub effects_written :
    (t : Task) (s : State) (a : Action) (deleted added : State)
    → IsStateOf t s → fits_task t a ≡ true → deleted ≡ fold (with_atom_value false) s a.deletes → added ≡ fold (with_atom_value true) deleted a.adds
    → fold (with_effect_value s.fluents) added a.effects ≡ state_after t s a
unfolding state_after
effects_written t s a deleted added of_task fits ed ea =
    let first : deleted ≡ record { atoms = fold (put false) s.atoms a.deletes; fluents = s.fluents } = ed ∙ atoms_written false s a.deletes in
    let second : added ≡ record { atoms = fold (put true) (fold (put false) s.atoms a.deletes) a.adds; fluents = s.fluents } =
    ea ∙ (ap (λ (u : State). fold (with_atom_value true) u a.adds) first ∙ atoms_written true (record { atoms = fold (put false) s.atoms a.deletes; fluents = s.fluents }) a.adds) in
    ap (λ (u : State). fold (with_effect_value s.fluents) u a.effects) second
    ∙ (values_written s.fluents (record { atoms = fold (put true) (fold (put false) s.atoms a.deletes) a.adds; fluents = s.fluents }) a.effects
    ∙ ap₂ (λ (bs : List Bool) (vs : List ℤ). record { atoms = bs; fluents = vs })
    (written_atoms t s a _ of_task.atoms refl)
    (written_fluents t s a _ of_task.fluents (rising_effects _ _ a fits) refl))

-- the same from what the code wrote, one effect after another
pub written_by :
    (t : Task) (s : State) (a : Action) (deleted added new : State) (es : List Effect) (r : Option ℕ)
    → IsStateOf t s → fits_task t a ≡ true → deleted ≡ fold (with_atom_value false) s a.deletes → added ≡ fold (with_atom_value true) deleted a.adds → es ≡ a.effects
    → MatchOption r (list_all (effect_stays s.fluents) es ≡ false) (λ h. (list_all (effect_stays s.fluents) es ≡ true) × (new ≡ fold (with_effect_value s.fluents) added es) × (h ≡ state_hash new))
    → MatchOption r (list_all (effect_stays s.fluents) a.effects ≡ false) (λ h. (list_all (effect_stays s.fluents) a.effects ≡ true) × (new ≡ state_after t s a) × (h ≡ state_hash new))
written_by t s a deleted added new es None of_task fits ed ea ee out = ap (list_all (effect_stays s.fluents)) (sym ee) ∙ out
written_by t s a deleted added new es (Some h) of_task fits ed ea ee all = (
  ap (list_all (effect_stays s.fluents)) (sym ee) ∙ all.0,
  all.1 ∙ (ap (λ (es : List Effect). fold (with_effect_value s.fluents) added es) ee ∙ effects_written t s a deleted added of_task fits ed ea),
  all.2,
)

-- ---- answers

-- an action by its number
pub applied_by_number : (t : Task) (s : State) (actions : List Action) (n : ℕ) (a : Action) → actions ≡ t.actions → n < length t.actions → a ≡ get_or actions n a → applied_of t s a ≡ applied_at t s n
applied_by_number t s actions n a same known is =
    let there : slice_get t.actions n ≡ Some a = slice_get_read t.actions (length t.actions) n a refl known (is ∙ ap (λ (xs : List Action). get_or xs n a) same) in
    ap (applied_by t s) (sym there)

-- what `apply` answers: d says that the condition departs, h that it holds, es and cs that the
-- effects and the amounts stay in the range
abbrev answer_by : Bool → Bool → Bool → Bool → Option ℕ → State → Applied
answer_by d h es cs c x = cond (d || (h && not ((es && cs) && is_some c))) Answer.Departs (cond h (next_of x c) Answer.No)

applied-is : (t : Task) (s : State) (a : Action) → applied_of t s a ≡ answer_by (condition_departs s a.condition) (holds s a.condition) (list_all (effect_stays s.fluents) a.effects) (list_all (stays_in_range s.fluents) a.costs) (step_cost t s a) (state_after t s a)
unfolding applied_of departs_aside effects_stay
applied-is t s a = refl

-- d and h, by the condition's test
no_by : (d h : Bool) → cond d Test.Departs (cond h Test.Yes Test.No) ≡ Test.No → (d ≡ false) × (h ≡ false)
no_by true h e = absurd (cc)
no_by false true e = absurd (cc)
no_by false false e = (refl, refl)

departs_by_test : (d h : Bool) → cond d Test.Departs (cond h Test.Yes Test.No) ≡ Test.Departs → d ≡ true
departs_by_test true h e = refl
departs_by_test false true e = absurd (cc)
departs_by_test false false e = absurd (cc)

yes_by : (d h : Bool) → cond d Test.Departs (cond h Test.Yes Test.No) ≡ Test.Yes → (d ≡ false) × (h ≡ true)
yes_by true h e = absurd (cc)
yes_by false true e = (refl, refl)
yes_by false false e = absurd (cc)

answer_no : (d h es cs : Bool) (c : Option ℕ) (x : State) → d ≡ false → h ≡ false → answer_by d h es cs c x ≡ Answer.No
answer_no true h es cs c x p q = absurd (cc)
answer_no false true es cs c x p q = absurd (cc)
answer_no false false es cs c x p q = refl

answer_departs : (d h es cs : Bool) (c : Option ℕ) (x : State) → d ≡ true → answer_by d h es cs c x ≡ Answer.Departs
answer_departs true h es cs c x p = refl
answer_departs false h es cs c x p = absurd (cc)

answer_aside : (d h es cs : Bool) (c : Option ℕ) (x : State) → d ≡ false → h ≡ true → ((es && cs) && is_some c) ≡ false → answer_by d h es cs c x ≡ Answer.Departs
answer_aside true h es cs c x p q r = absurd (cc)
answer_aside false false es cs c x p q r = absurd (cc)
answer_aside false true false cs c x p q r = refl
answer_aside false true true false c x p q r = refl
answer_aside false true true true None x p q r = refl
answer_aside false true true true (Some k) x p q r = absurd (cc)

answer_next : (d h es cs : Bool) (c : Option ℕ) (k : ℕ) (x : State) → d ≡ false → h ≡ true → es ≡ true → cs ≡ true → c ≡ Some k → answer_by d h es cs c x ≡ Answer.Next x k
answer_next true h es cs c k x p q r u v = absurd (cc)
answer_next false false es cs c k x p q r u v = absurd (cc)
answer_next false true false cs c k x p q r u v = absurd (cc)
answer_next false true true false c k x p q r u v = absurd (cc)
answer_next false true true true c k x p q r u v =
    ap (λ (c : Option ℕ). cond (not (is_some c)) Answer.Departs (next_of x c)) v

cost_aside : (es cs : Bool) (c : Option ℕ) → (cs && is_some c) ≡ false → ((es && cs) && is_some c) ≡ false
cost_aside true cs c e = e
cost_aside false cs c e = refl

effects_aside : (es cs : Bool) (c : Option ℕ) → es ≡ false → ((es && cs) && is_some c) ≡ false
effects_aside true cs c e = absurd (cc)
effects_aside false cs c e = refl

pub applied_no : (t : Task) (s : State) (a : Action) → test_of s a.condition ≡ Test.No → applied_of t s a ≡ Answer.No
unfolding test_of
applied_no t s a e =
    let parts = no_by (condition_departs s a.condition) (holds s a.condition) e in
    applied-is t s a ∙ answer_no (condition_departs s a.condition) (holds s a.condition) (list_all (effect_stays s.fluents) a.effects) (list_all (stays_in_range s.fluents) a.costs) (step_cost t s a) (state_after t s a) parts.0 parts.1

pub applied_departs : (t : Task) (s : State) (a : Action) → test_of s a.condition ≡ Test.Departs → applied_of t s a ≡ Answer.Departs
unfolding test_of
applied_departs t s a e = applied-is t s a ∙ answer_departs (condition_departs s a.condition) (holds s a.condition) (list_all (effect_stays s.fluents) a.effects) (list_all (stays_in_range s.fluents) a.costs) (step_cost t s a) (state_after t s a) (departs_by_test (condition_departs s a.condition) (holds s a.condition) e)

pub applied_costless : (t : Task) (s : State) (a : Action) → test_of s a.condition ≡ Test.Yes → (list_all (stays_in_range s.fluents) a.costs && is_some (step_cost t s a)) ≡ false → applied_of t s a ≡ Answer.Departs
unfolding test_of
applied_costless t s a e out =
    let parts = yes_by (condition_departs s a.condition) (holds s a.condition) e in
    applied-is t s a ∙ answer_aside (condition_departs s a.condition) (holds s a.condition) (list_all (effect_stays s.fluents) a.effects) (list_all (stays_in_range s.fluents) a.costs) (step_cost t s a) (state_after t s a) parts.0 parts.1 (cost_aside (list_all (effect_stays s.fluents) a.effects) (list_all (stays_in_range s.fluents) a.costs) (step_cost t s a) out)

pub applied_aside : (t : Task) (s : State) (a : Action) → test_of s a.condition ≡ Test.Yes → list_all (effect_stays s.fluents) a.effects ≡ false → applied_of t s a ≡ Answer.Departs
unfolding test_of
applied_aside t s a e out =
    let parts = yes_by (condition_departs s a.condition) (holds s a.condition) e in
    applied-is t s a ∙ answer_aside (condition_departs s a.condition) (holds s a.condition) (list_all (effect_stays s.fluents) a.effects) (list_all (stays_in_range s.fluents) a.costs) (step_cost t s a) (state_after t s a) parts.0 parts.1 (effects_aside (list_all (effect_stays s.fluents) a.effects) (list_all (stays_in_range s.fluents) a.costs) (step_cost t s a) out)

pub applied_next : (t : Task) (s : State) (a : Action) (k : ℕ) → test_of s a.condition ≡ Test.Yes → list_all (effect_stays s.fluents) a.effects ≡ true → list_all (stays_in_range s.fluents) a.costs ≡ true → step_cost t s a ≡ Some k → applied_of t s a ≡ Answer.Next (state_after t s a) k
unfolding test_of
applied_next t s a k e es cs c =
    let parts = yes_by (condition_departs s a.condition) (holds s a.condition) e in
    applied-is t s a ∙ answer_next (condition_departs s a.condition) (holds s a.condition) (list_all (effect_stays s.fluents) a.effects) (list_all (stays_in_range s.fluents) a.costs) (step_cost t s a) k (state_after t s a) parts.0 parts.1 es cs c

-- ---- with the plan's cost

led_beyond_by : (es : Bool) (cost k : ℕ) (x : Applied) (s : State) → cost_in_range (cost + k) ≡ false → (es ≡ false → x ≡ Answer.Departs) → (es ≡ true → x ≡ Answer.Next s k) → Departs ≡ led_by cost x
led_beyond_by true cost k x s out aside next = sym (ap (led_by cost) (next refl) ∙ ap (λ b. cond b (Next s (state_hash s) (cost + k)) Departs) out)
led_beyond_by false cost k x s out aside next = sym (ap (led_by cost) (aside refl))

-- the plan's cost leaves the range, whether the effects stay in it or not
pub led_beyond : (t : Task) (s : State) (a : Action) (cost k : ℕ) → test_of s a.condition ≡ Test.Yes → list_all (stays_in_range s.fluents) a.costs ≡ true → step_cost t s a ≡ Some k → cost_in_range (cost + k) ≡ false → Departs ≡ led_by cost (applied_of t s a)
led_beyond t s a cost k e cs c out =
    led_beyond_by (list_all (effect_stays s.fluents) a.effects) cost k (applied_of t s a) (state_after t s a) out
    (λ es. applied_aside t s a e es)
    (λ es. applied_next t s a k e es cs c)

pub led_within : (t : Task) (s u : State) (a : Action) (cost k hash total : ℕ) → test_of s a.condition ≡ Test.Yes → list_all (effect_stays s.fluents) a.effects ≡ true → list_all (stays_in_range s.fluents) a.costs ≡ true → step_cost t s a ≡ Some k
    → cost_in_range (cost + k) ≡ true → total ≡ cost + k → u ≡ state_after t s a → hash ≡ state_hash u → Next u hash total ≡ led_by cost (applied_of t s a)
led_within t s u a cost k hash total e es cs c within et eu eh =
    ap₂ (λ (n m : ℕ). Next u n m) eh et
    ∙ (ap (λ (v : State). Next v (state_hash v) (cost + k)) eu
    ∙ sym (ap (led_by cost) (applied_next t s a k e es cs c) ∙ ap (λ b. cond b (Next (state_after t s a) (state_hash (state_after t s a)) (cost + k)) Departs) within))

led_from : (cost : ℕ) (y : Applied) → led_by cost y ≡ led_of (reached_from cost y)
led_from cost Answer.No = refl
led_from cost (Answer.Next s c) =
    elim (cost_in_range (cost + c)) as (λ b. cond b (Next s (state_hash s) (cost + c)) Departs ≡ led_of (cond b (Step.Next s (cost + c)) Step.Departs)) [ true ↦ refl | false ↦ refl ]
led_from cost Answer.Departs = refl

-- an answer is that of the task's own step
pub led_at : (t : Task) (s : State) (cost n : ℕ) (y : Applied) (x : Led) → y ≡ applied_at t s n → x ≡ led_by cost y → x ≡ led_of (step_at t (node s cost) n)
led_at t s cost n y x ey ex = ex ∙ (led_from cost y ∙ ap led_of (ap (reached_from cost) ey ∙ sym (step_at-is t (node s cost) n)))

pub all_led : {E : Type 0} (t : Task) (s : State) (cost n : ℕ) (y : Applied) (r : Result Led E) → y ≡ applied_at t s n → IfOk r (λ x. x ≡ led_by cost y) → IfOk r (λ x. x ≡ led_of (step_at t (node s cost) n))
all_led t s cost n y (Ok x) ey ex = led_at t s cost n y x ey ex
all_led t s cost n y (Err e) ey ex = ex
