use Rattle.std.proofs.Common.{◌∙◌, sym, arith}
use Rattle.hd_certify.proofs.Justified.{entry_leads}
use Rattle.hd_certify.proofs.Surveys.{costs_more, all_costs}
use Rattle.hd_certify.proofs.surveying.costs_of.Goals as goal

pub unreachable-requires : goal.unreachable-requires
unreachable-requires c =
    entry_leads c.args.entries.now.state c.requires c.loop-number.number (omega (arith, c.loop-number-test.true, c.len-number-end.ensures.len))
    (sym c.in-None.ensures)

pub loop-number-preserved : goal.loop-number-preserved
loop-number-preserved c =
    let b = c.args.entries.now.state in
    let n = c.loop-number.number in
    record {
      costs =
          c.in_ok-push-in-Some.ensures.items
          ∙ costs_more b c.requires n c.in-Some.cost c.in-Some.field-0-0 c.loop-number.costs.items
          (omega (arith, c.loop-number-test.true, c.len-number-end.ensures.len)) c.loop-number.invariant.costs (sym c.in-Some.ensures);
    }

pub returns : goal.returns
returns c =
    all_costs c.args.entries.now.state c.requires c.loop-number.number c.loop-number.costs.items
    (omega (arith, c.loop-number-test.false, c.len-number-end.ensures.len)) c.loop-number.invariant.costs
