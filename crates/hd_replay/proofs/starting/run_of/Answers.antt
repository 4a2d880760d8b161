use Rattle.std.proofs.Common.{◌≡◌, ◌≤◌, length, map, ap, ◌∙◌, arith}
use Rattle.std.proofs.lemmas.List.{length-map}
use Rattle.hd_image.specs.Image.{most_of}
use Rattle.hd_journal.specs.Journal.{kid_of}
use Rattle.hd_world.specs.Stops.{journal_entries}
use Rattle.hd_replay.proofs.Begins.{run_is, team_count}
use Rattle.hd_replay.proofs.Kids.{journal_kids}
use Rattle.hd_replay.proofs.starting.run_of.Goals as goal

pub begun-requires-clause-all : goal.begun-requires-clause-all
begun-requires-clause-all g c =
    team_count c.args.task.now (map kid_of c.entries.result.now) c.args.workers c.in-Ok.recovered.workers.items c.in-Ok.ensures.workers

pub returns-in_ok-begun-in-Ok : goal.returns-in_ok-begun-in-Ok
returns-in_ok-begun-in-Ok g c = λ digest f s.
    let kids = map kid_of c.entries.result.now in
    let these : kids ≡ journal_entries f = ap (map kid_of) c.entries.ensures ∙ journal_kids digest f c.args.journal.now s in
    let few : length kids ≤ c.most.result = omega (arith, c.in-Ok.ensures.within, length-map c.entries.result.now kid_of) in
    run_is c.args.task.now f c.args.workers c.most.result kids c.in-Ok.recovered.book c.in-Ok.recovered.workers.items c.in_ok-begun-in-Ok.field-0 these
    (c.most.ensures ∙ ap most_of s.version) c.in-Ok.ensures.legal few c.in-Ok.ensures.book c.in-Ok.ensures.workers c.in_ok-begun-in-Ok.ensures
