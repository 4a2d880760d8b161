use Rattle.std.proofs.Common.{◌<◌, ◌≤◌, ◌^◌, length, sym, subst}
use Rattle.std.specs.List.{AllByRecursion}
use Rattle.crossbeam_queue.specs.Passes.{view}
use Rattle.hd_base.specs.Lists.{BeginsWith}
use Rattle.hd_image.specs.declared.entry.TheConstants.{MAX_GROUP}
use Rattle.hd_journal.specs.Group.{GroupView}
use Rattle.hd_journal.specs.Journal.{kids_of}
use Rattle.hd_threads.proofs.Begins.{begins_along, begins_same}
use Rattle.hd_threads.proofs.Steps.{begins_with_group}
use Rattle.hd_threads.proofs.Rounds.{not_appended_stops}
use Rattle.hd_threads.proofs.Surviving.{appended_survives, not_appended_survives}
use Rattle.hd_threads.specs.Surviving.{IsLegalLog}
use Rattle.hd_threads.specs.Committing.{StopsRound}
use Rattle.hd_threads.proofs.committing.append_group.Goals as goal

pub returns-in-Ok-acknowledge-clause-kept : goal.returns-in-Ok-acknowledge-clause-kept
returns-in-Ok-acknowledge-clause-kept g c =
    let seen = (view c.args.pass.now).seen in
    let later = (view c.acknowledge.new.pass).seen in
    let kids = c.in-Ok.ensures.kids in
    let all = begins_with_group seen.log (kids_of c.args.journal.now) c.args.group.kids c.args.share.now.amount c.requires.step.counted c.requires.step.begins c.requires.group.has in
    record {
      begins = begins_along later.log seen.log (kids_of c.append.new.self) c.acknowledge.ensures.pass.grows (subst (BeginsWith seen.log) (sym kids) all);
      kids = (c.args.group.kids, kids);
      survives = appended_survives seen.task later.log c.args.journal.now c.append.new.self c.args.group c.in-Ok.ensures.appended kids
          c.in-Ok.ensures.whole c.in-Ok.ensures.moments
          (subst (λ task. IsLegalLog task later.log) c.acknowledge.ensures.pass.task c.acknowledge.ensures.legal)
          (begins_along later.log seen.log _ c.acknowledge.ensures.pass.grows all);
    }

pub returns-in-Err-acknowledge-clause-kept : goal.returns-in-Err-acknowledge-clause-kept
returns-in-Err-acknowledge-clause-kept g c =
    let seen = (view c.args.pass.now).seen in
    let later = (view c.acknowledge.new.pass).seen in
    let kids = c.in-Ok.ensures.kids in
    let all = begins_with_group seen.log (kids_of c.args.journal.now) c.args.group.kids c.args.share.now.amount c.requires.step.counted c.requires.step.begins c.requires.group.has in
    record {
      begins = begins_along later.log seen.log (kids_of c.append.new.self) c.acknowledge.ensures.pass.grows (subst (BeginsWith seen.log) (sym kids) all);
      kids = (c.args.group.kids, kids);
      survives = appended_survives seen.task later.log c.args.journal.now c.append.new.self c.args.group c.in-Ok.ensures.appended kids
          c.in-Ok.ensures.whole c.in-Ok.ensures.moments
          (subst (λ task. IsLegalLog task later.log) c.acknowledge.ensures.pass.task c.acknowledge.ensures.legal)
          (begins_along later.log seen.log _ c.acknowledge.ensures.pass.grows all);
    }

pub returns-in-Err-clause-told : goal.returns-in-Err-clause-told
returns-in-Err-clause-told g c =
    subst (StopsRound c.args.journal.now c.append.new.self c.args.share.now.amount) (sym c.of_journal.ensures)
    (not_appended_stops _ _ _ c.in-Err.error _ c.in-Err.ensures.refused c.in-Err.ensures.same_kids c.requires.step.counted)

pub returns-in-Err-clause-kept : goal.returns-in-Err-clause-kept
returns-in-Err-clause-kept g c =
    let seen = (view c.args.pass.now).seen in
    let later = (view c.hand_back.new.pass).seen in
    let kids = c.in-Err.ensures.same_kids in
    let all = begins_with_group seen.log (kids_of c.args.journal.now) c.args.group.kids c.args.share.now.amount c.requires.step.counted c.requires.step.begins c.requires.group.has in
    let same = c.in-Err.ensures.handed_back in
    record {
      begins = begins_along later.log seen.log (kids_of c.append.new.self) c.hand_back.ensures.pass.grows (subst (BeginsWith seen.log) (sym kids) c.requires.step.begins);
      kids = begins_same _ _ kids;
      survives = not_appended_survives seen.task later.log c.args.journal.now c.append.new.self c.args.group c.in-Err.error c.in-Err.ensures.refused
          kids c.in-Err.ensures.moments c.in-Err.ensures.some
          (subst (λ (x : GroupView). length x.kids ≤ MAX_GROUP) same c.with_known_limits.ensures.most)
          (subst (λ (x : GroupView). AllByRecursion (λ kid. kid.action < 2 ^ 32) x.kids) same c.with_known_limits.ensures.actions)
          (subst (λ task. IsLegalLog task later.log) c.hand_back.ensures.pass.task c.hand_back.ensures.legal)
          (begins_along later.log seen.log _ c.hand_back.ensures.pass.grows all);
    }
