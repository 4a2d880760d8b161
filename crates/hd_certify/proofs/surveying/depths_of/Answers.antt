use Rattle.std.proofs.Common.{◌∙◌, arith}
use Rattle.hd_certify.proofs.Surveys.{depths_more, all_depths}
use Rattle.hd_certify.proofs.surveying.depths_of.Goals as goal

pub loop-number-preserved : goal.loop-number-preserved
loop-number-preserved c =
    let b = c.args.entries.now.state in
    let n = c.loop-number.number in
    record {
      depths =
          c.in_ok-push.ensures.items
          ∙ depths_more b c.requires n c.depth_of-depth.result c.loop-number.depths.items
          (omega (arith, c.loop-number-test.true, c.len-number-end.ensures.len)) c.loop-number.invariant.depths c.depth_of-depth.ensures;
    }

pub returns : goal.returns
returns c =
    all_depths c.args.entries.now.state c.requires c.loop-number.number c.loop-number.depths.items
    (omega (arith, c.loop-number-test.false, c.len-number-end.ensures.len)) c.loop-number.invariant.depths
