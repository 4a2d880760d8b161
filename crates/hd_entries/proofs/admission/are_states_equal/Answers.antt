use Rattle.std.proofs.Common.{sym, ap, ◌∙◌}
use Rattle.hd_task.specs.declared.state.State.{State}
use Rattle.hd_pack.specs.Packing.{same_packing}
use Rattle.hd_entries.proofs.Same.{packings_tell, packings_tell_back}
use Rattle.hd_entries.proofs.admission.are_states_equal.Goals as goal

pub returns-clause-there : goal.returns-clause-there
returns-clause-there c =
    packings_tell_back c.is_packed.result c.args.other.now c.args.one.now
    (c.is_packed.ensures.same ∙ ap (λ (s : State). same_packing s c.args.one.now) c.row.ensures) (λ yes. sym c.row.ensures ∙ c.is_packed.ensures.states yes)

pub returns-clause-back : goal.returns-clause-back
returns-clause-back c =
    packings_tell c.is_packed.result c.args.other.now c.args.one.now
    (c.is_packed.ensures.same ∙ ap (λ (s : State). same_packing s c.args.one.now) c.row.ensures) (λ yes. sym c.row.ensures ∙ c.is_packed.ensures.states yes)
