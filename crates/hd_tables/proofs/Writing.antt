-- What a draft's writes come to.
use Rattle.std.proofs.Common.{◌≡◌, ◌≢◌, ℕ, ℤ, ◌<◌, Option, length, get_or, ◌∙◌, subst}
use Rattle.std.specs.Prelude.{Result, IfOk}
use Rattle.std.proofs.lemmas.Option.{slice_get_within}
use Rattle.hd_task.specs.declared.state.State.{State}
use Rattle.hd_pack.specs.declared.leading.Led.{Led}
use Rattle.hd_pack.proofs.Steps.{is_there}
use Rattle.hd_tables.specs.Drafts.{IsLedTo}

-- a value that differs from another one is there
pub value_there : (s : State) (j : ℕ) (v w : ℤ) → w ≡ get_or s.fluents j v → w ≢ v → j < length s.fluents
value_there s j v w is other = slice_get_within s.fluents j (get_or s.fluents j v) (is_there s.fluents j v (λ same. other (is ∙ same)))

-- what is reported of one step is reported of an equal one
pub led_in : {E : Type 0} (r : Result (Option ℕ) E) (u : State) (x y : Led) → x ≡ y → IfOk r (λ o. IsLedTo x o u) → IfOk r (λ o. IsLedTo y o u)
led_in r u x y e h = subst (λ (led : Led). IfOk r (λ o. IsLedTo led o u)) e h
