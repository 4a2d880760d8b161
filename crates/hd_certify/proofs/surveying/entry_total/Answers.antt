use Rattle.std.proofs.Common.{sym, subst}
use Rattle.std.proofs.lemmas.Option.{slice_get_within}
use Rattle.hd_task.specs.Plans.{IsStateOf, node}
use Rattle.hd_certify.proofs.Justified.{entry_leads, node_state}
use Rattle.hd_certify.proofs.surveying.entry_total.Goals as goal

pub place_of-requires : goal.place_of-requires
place_of-requires c =
    record {
      of_task =
          subst (IsStateOf c.args.closed.now.task) (sym c.in_ok-own-in-Some.ensures)
          (subst (λ t. IsStateOf t c.in-Some.state) (sym c.requires.closed_task)
          (node_state c.args.entries.now.state c.args.number (node c.in-Some.state c.in-Some.cost) (sym c.in-Some.ensures)));
    }

pub estimate-value-requires-clause-place : goal.estimate-value-requires-clause-place
estimate-value-requires-clause-place c =
    slice_get_within c.place_of.new.self.states c.in_ok-place-in-Some.place c.in_ok-own-in-Some.own c.in_ok-place-in-Some.ensures.place

pub unreachable-requires : goal.unreachable-requires
unreachable-requires c = entry_leads c.args.entries.now.state c.requires.kept c.args.number c.requires.among (sym c.in-None.ensures)
