use Rattle.std.proofs.Common.{◌<◌, ◌≤◌, length, arith}
use Rattle.std.proofs.lemmas.Result.{IfOk-weaker}
use Rattle.hd_lifted.specs.Met.{met_by_goal}
use Rattle.hd_images.proofs.MeetingForms.{IsMet-more, IsMet-over}
use Rattle.hd_images.proofs.met.meet_goal_too.Goals as goal

pub returns-then-len-gt-MAX_FLUENTS : goal.returns-then-len-gt-MAX_FLUENTS
returns-then-len-gt-MAX_FLUENTS c = λ met is.
    IsMet-over _ met (met_by_goal c.args.task.now) c.args.forms.now is (let over : 65536 < length c.args.forms.now = omega (arith, c.len.ensures.len) in over)

pub returns : goal.returns
returns c =
    IfOk-weaker c.meet_goal.result _ _
    (λ _ now met is. IsMet-more _ met (met_by_goal c.args.task.now) c.args.forms.now c.meet_goal.new.forms is (let fits : length c.args.forms.now ≤ 65536 = omega (arith, c.len.ensures.len) in fits) now)
    c.meet_goal.ensures
