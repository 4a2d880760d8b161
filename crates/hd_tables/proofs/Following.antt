-- Where an applicable action leads.
use Rattle.std.proofs.Common.{◌≡◌, ◌⊎◌, inl, inr, ℕ, Some, true, true≢false, refl, sym, ◌∙◌}
use Rattle.hd_task.specs.declared.state.State.{State}
use Rattle.hd_task.specs.declared.action.Action.{Action}
use Rattle.hd_task.specs.declared.task.Task.{Task}
use Rattle.hd_task.specs.declared.applying.GoalTest.{GoalTest}
use Rattle.hd_task.specs.declared.applying.GoalTest.TheVariants as Test
use Rattle.hd_task.specs.declared.stepping.Reached.{Reached}
use Rattle.hd_task.specs.declared.stepping.Reached.TheVariants as Step
use Rattle.hd_task.specs.Plans.{IsStateOf, node}
use Rattle.hd_task.specs.Applying.{test_of, applied_of, applied_at}
use Rattle.hd_task.specs.Expansions.{is_applicable}
use Rattle.hd_task.specs.Stepping.{step_at, is_step_next}
use Rattle.hd_task.proofs.Reaching.{step_at-says}
use Rattle.hd_pack.specs.declared.leading.Led.{Led}
use Rattle.hd_pack.specs.declared.leading.Led.TheVariants.{No, Departs}
use Rattle.hd_pack.specs.Leading.{led_of}
use Rattle.hd_pack.proofs.Steps.{applied_no, applied_departs, led_at}

-- a step that goes on is not told as one that leads nowhere, or departs
goes_nowhere : (x : Reached) (led : Led) → is_step_next x ≡ true → led ≡ led_of x → (led ≡ No) ⊎ (led ≡ Departs) → ⊥
goes_nowhere Step.No led next is e = true≢false (sym next)
goes_nowhere (Step.Next s c) led next is (inl e) = absurd (cc)
goes_nowhere (Step.Next s c) led next is (inr e) = absurd (cc)
goes_nowhere Step.Departs led next is e = true≢false (sym next)

yes_of : (g : GoalTest) → (g ≡ Test.No → ⊥) → (g ≡ Test.Departs → ⊥) → g ≡ Test.Yes
yes_of Test.Yes not_no not_departs = refl
yes_of Test.No not_no not_departs = absurd (not_no refl)
yes_of Test.Departs not_no not_departs = absurd (not_departs refl)

module _ (t : Task) (s : State) (cost n : ℕ) (of_task : IsStateOf t s) (applies : is_applicable t (Some (node s cost)) n ≡ true) where
  -- an applicable action is not told as one that leads nowhere, or departs
  pub leads_on : (led : Led) → led ≡ led_of (step_at t (node s cost) n) → (led ≡ No) ⊎ (led ≡ Departs) → ⊥
  leads_on led is = goes_nowhere (step_at t (node s cost) n) led ((step_at-says t (node s cost) n of_task).applicable ∙ applies) is

  -- the condition of an applicable action holds
  pub condition_holds : (a : Action) → applied_of t s a ≡ applied_at t s n → test_of s a.condition ≡ Test.Yes
  condition_holds a is =
      yes_of (test_of s a.condition)
      (λ e. leads_on No (led_at t s cost n _ No (sym (applied_no t s a e) ∙ is) refl) (inl refl))
      (λ e. leads_on Departs (led_at t s cost n _ Departs (sym (applied_departs t s a e) ∙ is) refl) (inr refl))
