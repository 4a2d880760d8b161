-- What an answer of a packed step says.
use Rattle.std.proofs.Common.{◌≡◌, ℕ, true, false, Some, refl, ap, ◌∙◌, sym}
use Rattle.hd_task.specs.declared.state.State.{State}
use Rattle.hd_task.specs.declared.task.Task.{Task}
use Rattle.hd_task.specs.declared.applying.GoalTest.TheVariants as Test
use Rattle.hd_task.specs.declared.stepping.Reached.{Reached}
use Rattle.hd_task.specs.declared.stepping.Reached.TheVariants as Step
use Rattle.hd_task.specs.Plans.{IsStateOf, Node, node, step_by}
use Rattle.hd_task.specs.Expansions.{is_applicable}
use Rattle.hd_task.specs.Stepping.{step_at, is_step_next}
use Rattle.hd_task.proofs.Reaching.{step_at-says}
use Rattle.hd_zobrist.specs.Hash.{state_hash}
use Rattle.hd_pack.specs.declared.leading.Led.TheVariants.{No, Departs, Next}
use Rattle.hd_pack.specs.Leading.{led_of, test_of_led}

pub led_no : (x : Reached) → No ≡ led_of x → x ≡ Step.No
led_no Step.No e = refl
led_no (Step.Next s c) e = absurd (cc)
led_no Step.Departs e = absurd (cc)

pub led_departs : (x : Reached) → Departs ≡ led_of x → x ≡ Step.Departs
led_departs Step.No e = absurd (cc)
led_departs (Step.Next s c) e = absurd (cc)
led_departs Step.Departs e = refl

-- where a step leads, and the hash of the state there
pub record IsNext (x : Reached) (s : State) (hash cost : ℕ) : Type 0 where
  pub leads : x ≡ Step.Next s cost
  pub is_hash : hash ≡ state_hash s

pub led_next : (x : Reached) (s : State) (hash cost : ℕ) → Next s hash cost ≡ led_of x → IsNext x s hash cost
led_next Step.No s hash cost e = absurd (cc)
led_next (Step.Next u c) s hash cost e =
    let states : s ≡ u = cc in
    let hashes : hash ≡ state_hash u = cc in
    let costs : cost ≡ c = cc in
    record {
      leads = ap (λ (x : State). Step.Next x c) (sym states) ∙ ap (λ (m : ℕ). Step.Next s m) (sym costs);
      is_hash = hashes ∙ ap state_hash (sym states);
    }
led_next Step.Departs s hash cost e = absurd (cc)

-- ---- what an answer decides

pub not_by_no : (t : Task) (r : Node) (n : ℕ) → IsStateOf t r.state → No ≡ led_of (step_at t r n) → is_applicable t (Some r) n ≡ false
not_by_no t r n of_task e = sym (step_at-says t r n of_task).applicable ∙ ap is_step_next (led_no (step_at t r n) e)

pub not_by_departure : (t : Task) (r : Node) (n : ℕ) → IsStateOf t r.state → Departs ≡ led_of (step_at t r n) → is_applicable t (Some r) n ≡ false
not_by_departure t r n of_task e = sym (step_at-says t r n of_task).applicable ∙ ap is_step_next (led_departs (step_at t r n) e)

-- an action is applicable, and leads to a state at a cost
pub record AppliesTo (t : Task) (r : Node) (n : ℕ) (s : State) (cost : ℕ) : Type 0 where
  pub applies : is_applicable t (Some r) n ≡ true
  pub leads : step_by t r n ≡ Some (node s cost)

pub applies_by_next : (t : Task) (r : Node) (n : ℕ) (s : State) (hash cost : ℕ) → IsStateOf t r.state → Next s hash cost ≡ led_of (step_at t r n) → AppliesTo t r n s cost
applies_by_next t r n s hash cost of_task e =
    let says = step_at-says t r n of_task in
    let next = led_next (step_at t r n) s hash cost e in
    record { applies = sym says.applicable ∙ ap is_step_next next.leads; leads = says.leads s cost next.leads }

-- ---- what a test of a step says

pub tested_no : (x : Reached) → Test.No ≡ test_of_led (led_of x) → x ≡ Step.No
tested_no Step.No e = refl
tested_no (Step.Next s c) e = absurd (cc)
tested_no Step.Departs e = absurd (cc)

pub tested_departs : (x : Reached) → Test.Departs ≡ test_of_led (led_of x) → x ≡ Step.Departs
tested_departs Step.No e = absurd (cc)
tested_departs (Step.Next s c) e = absurd (cc)
tested_departs Step.Departs e = refl

pub tested_yes : (x : Reached) → Test.Yes ≡ test_of_led (led_of x) → (s : State) × (c : ℕ) × (x ≡ Step.Next s c)
tested_yes Step.No e = absurd (cc)
tested_yes (Step.Next s c) e = (s, c, refl)
tested_yes Step.Departs e = absurd (cc)
