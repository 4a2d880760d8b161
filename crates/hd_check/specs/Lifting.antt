-- What calls answer that lift a part of a text: what the part stands for if it has no fault,
-- else a stop at its first fault.
use Rattle.std.specs.Prelude.{ℕ, Option, Result}
use Rattle.hd_base.specs.Answers.{Checks}
use Rattle.hd_check.specs.declared.context.Context.{Context}
use Rattle.hd_check.specs.declared.fault.CheckFault.{CheckFault}
use Rattle.hd_check.specs.declared.fault.CheckStop.{CheckStop}
use Rattle.hd_names.specs.declared.scope.Scope.{Scope}
use Rattle.hd_names.specs.declared.table.Table.{Table}
use Rattle.hd_check.specs.Fault.{StopsAt}

-- what a definition says by the scope and the parameters of a context
abbrev pub within : {A : Type 0} → Context → (Scope → Table ℕ → A) → A
within c f = f c.scope.now c.parameters.now

-- a part that stands in this context
abbrev pub Lifts
    : {P A : Type 0} → Result A CheckStop → (Scope → Table ℕ → P → Option CheckFault) → (Scope → Table ℕ → P → A) → Context → P → Type 0
Lifts result fault lifted c part = Checks StopsAt result (within c fault part) (within c lifted part)

-- a part of a domain or a problem
abbrev pub LiftsIn : {P A : Type 0} → Result A CheckStop → (Scope → P → Option CheckFault) → (Scope → P → A) → Scope → P → Type 0
LiftsIn result fault lifted s part = Checks StopsAt result (fault s part) (lifted s part)
