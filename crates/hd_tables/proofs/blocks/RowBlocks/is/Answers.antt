use Rattle.std.proofs.Common.{true≢false, sym, ap, ◌∙◌}
use Rattle.std.proofs.lemmas.Option.{same_Some}
use Rattle.hd_task.specs.declared.state.State.{State}
use Rattle.hd_pack.specs.Packing.{same_packing}
use Rattle.hd_pack.specs.Laws.{same_equiv}
use Rattle.hd_tables.proofs.blocks.RowBlocks.is.Goals as goal

pub returns-clause-no : goal.returns-clause-no
returns-clause-no c = λ no at.
    let same = same_Some _ _ (sym c.at.ensures ∙ at) in
    true≢false
    (sym (c.is_packed.ensures.same ∙ (ap (λ (s : State). same_packing s c.args.state.now) same ∙ same_equiv.refl c.args.state.now)) ∙ no)
