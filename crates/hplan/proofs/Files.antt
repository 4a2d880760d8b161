-- What is written of an answer is a file of a valid plan.
use Rattle.std.proofs.Common.{◌≡◌, ◌⊎◌, inl, inr, ℕ, List, [], Option, Some, None, sym, ap, ◌∙◌, subst}
use Rattle.hd_lifted.specs.declared.task.LiftedTask.{LiftedTask}
use Rattle.hd_lifted.specs.Plans as plans
use Rattle.hd_plan.specs.Text.{ReadsAs}
use Rattle.hd_plan.proofs.Written.{plan_text_reads}
use Rattle.hd_task.specs.declared.task.Task.{Task}
use Rattle.hd_task.specs.Plans.{start}
use Rattle.hd_threads.specs.declared.ending.Outcome.{Outcome}
use Rattle.hd_threads.specs.declared.ending.Outcome.TheVariants.{Optimal, NoPlan, RangeLeft, Stopped}
use Rattle.hd_threads.specs.Ending.{IsSearchOutcome}
use Rattle.hd_task.specs.declared.plan.Kid.{Kid}
use Rattle.hd_texts.specs.Tasks.{IsTaskOf}
use Rattle.hd_grounding.specs.Instances.{instances_of}
use Rattle.hd_grounding.proofs.Runs.{all_named, valid_there}
use Rattle.hd_texts.specs.Printing.{steps_of}
use Rattle.hd_texts.proofs.Named.{are_steps, lower_steps}
use Rattle.hd_texts.proofs.TextNames.{text_names}
use Rattle.hd_texts.proofs.Valid.{validated_by}
use Rattle.hplan.specs.declared.told.Ending.{Ending}
use Rattle.hplan.specs.Answer.{IsTrueOfDomain, ending_of, written_of, IsSolved}
use Rattle.hplan.specs.PlanFiles.{IsValidatedFile, IsFileOfValid, IsFileOfOptimal}
use Rattle.hplan.specs.PlanText.{plan_at, plan_to, task_plan_text}
use Rattle.hplan.proofs.Going.{IsSound, bound_plan_sound}

-- ---- the text of a sound plan

module _ (domain problem : List ℕ) (t : Task) (task : IsTaskOf domain problem t) (p : List ℕ) (sound : IsSound t p) where
  text_is : task_plan_text t p ≡ plan_at t p sound.cost
  text_is = ap (plan_to t p) sound.valid.executes ∙ ap (plan_at t p) sound.valid.costs

  reads_back : ReadsAs (task_plan_text t p) (steps_of t p)
  reads_back =
      let named = all_named task.lifted t task.made p (Some (start t)) sound.valid.end sound.valid.executes in
      let lower = lower_steps task.lifted t task.made (text_names domain problem task.lifted task.says) p named in
      subst (λ (x : List ℕ). ReadsAs x (steps_of t p)) (sym text_is) (plan_text_reads (steps_of t p) sound.cost sound.small lower)

  validated_file : IsValidatedFile domain problem (task_plan_text t p)
  validated_file = record {
    steps = steps_of t p;
    cost = sound.cost;
    is = text_is;
    valid = record {
      lifted = task.lifted;
      is_lifted = task.says;
      valid = record {
        steps = steps_of t p;
        reads = reads_back;
        validated = validated_by task.lifted t task.made p sound.cost sound.valid sound.goes sound.stays;
      };
    };
  }

  valid_file : IsFileOfValid domain problem (task_plan_text t p)
  valid_file = record {
    lifted = task.lifted;
    is_lifted = task.says;
    plan = instances_of t p;
    cost = sound.cost;
    file = record {
      steps = steps_of t p;
      is = text_is;
      reads = reads_back;
      are_steps = are_steps task.lifted t task.made p (all_named task.lifted t task.made p (Some (start t)) sound.valid.end sound.valid.executes);
    };
    valid = valid_there task.lifted t task.made p sound.cost sound.valid;
  }

  optimal_file : plans.IsOptimal task.lifted (instances_of t p) → IsFileOfOptimal domain problem (task_plan_text t p)
  unfolding valid_file
  optimal_file best = record { written = valid_file; optimal = best }

-- ---- what is written of an answer

-- the plan that a text is of
record IsOfSound (t : Task) (text : List ℕ) : Type 0 where
  plan : List ℕ
  sound : IsSound t plan
  is : text ≡ task_plan_text t plan

sound_in : (t : Task) (limit : Option ℕ) (kids : List Kid) (o : Outcome) (text : List ℕ) → IsSearchOutcome t limit kids o → text ≡ written_of t o
    → (text ≡ []) ⊎ IsOfSound t text
sound_in t limit kids (Optimal p) text a is =
    inr (record { plan = p; sound = bound_plan_sound t a.expanded p a.answer.legal a.answer.answers.1; is = is })
sound_in t limit kids NoPlan text a is = inl is
sound_in t limit kids (RangeLeft d None) text a is = inl is
sound_in t limit kids (RangeLeft d (Some p)) text a is =
    inr (record { plan = p; sound = bound_plan_sound t a.expanded p a.answer.legal a.answer.answers.1; is = is })
sound_in t limit kids (Stopped None) text a is = inl is
sound_in t limit kids (Stopped (Some p)) text a is =
    inr (record { plan = p; sound = bound_plan_sound t a.expanded p a.legal a.plan; is = is })

-- where the answer ends with an optimal plan
record IsOfBest (l : LiftedTask) (t : Task) (text : List ℕ) : Type 0 where
  of : IsOfSound t text
  best : plans.IsOptimal l (instances_of t of.plan)

best_in : (l : LiftedTask) (t : Task) (limit : Option ℕ) (kids : List Kid) (o : Outcome) (text : List ℕ) → IsSearchOutcome t limit kids o
    → IsTrueOfDomain l t o → text ≡ written_of t o → Ending.Optimal ≡ ending_of t o → IsOfBest l t text
best_in l t limit kids (Optimal p) text a best is ends = record {
  of = record { plan = p; sound = bound_plan_sound t a.expanded p a.answer.legal a.answer.answers.1; is = is };
  best = best;
}
best_in l t limit kids NoPlan text a best is ends = absurd (cc)
best_in l t limit kids (RangeLeft d p) text a best is ends = absurd (cc)
best_in l t limit kids (Stopped p) text a best is ends = absurd (cc)

module _ (limit : Option ℕ) (domain problem text : List ℕ) where
  of_answer : (P : List ℕ → Type 0) (ending : Ending) (s : IsSolved limit domain problem ending text)
      → ((p : List ℕ) → IsSound s.task p → P (task_plan_text s.task p)) → (text ≡ []) ⊎ P text
  of_answer P ending s holds =
      elim (sound_in s.task limit s.kids s.solution.outcome text s.solution.is_outcome s.solution.text) [
        | inl none ↦ inl none
        | inr k ↦ inr (subst P (sym k.is) (holds k.plan k.sound))
      ]

  pub answer_validated : (ending : Ending) → IsSolved limit domain problem ending text → (text ≡ []) ⊎ IsValidatedFile domain problem text
  answer_validated ending s = of_answer (IsValidatedFile domain problem) ending s (validated_file domain problem s.task s.is_task)

  pub answer_valid : (ending : Ending) → IsSolved limit domain problem ending text → (text ≡ []) ⊎ IsFileOfValid domain problem text
  answer_valid ending s = of_answer (IsFileOfValid domain problem) ending s (valid_file domain problem s.task s.is_task)

  best_of : (s : IsSolved limit domain problem Ending.Optimal text) → IsOfBest s.is_task.lifted s.task text
  best_of s =
      best_in s.is_task.lifted s.task limit s.kids s.solution.outcome text s.solution.is_outcome s.is_true_of_domain s.solution.text s.solution.ends

  pub optimal_validated : IsSolved limit domain problem Ending.Optimal text → IsValidatedFile domain problem text
  optimal_validated s =
      let k = best_of s in
      subst (IsValidatedFile domain problem) (sym k.of.is) (validated_file domain problem s.task s.is_task k.of.plan k.of.sound)

  pub optimal_valid : IsSolved limit domain problem Ending.Optimal text → IsFileOfOptimal domain problem text
  optimal_valid s =
      let k = best_of s in
      subst (IsFileOfOptimal domain problem) (sym k.of.is) (optimal_file domain problem s.task s.is_task k.of.plan k.of.sound k.best)
