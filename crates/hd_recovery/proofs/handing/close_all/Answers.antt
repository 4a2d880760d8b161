use Rattle.std.proofs.Common.{[], ap, sym, ◌∙◌, flat_map}
use Rattle.std.specs.List.{range_with_len}
use Rattle.hd_recovery.specs.Recovered.{entry_closed, team}
use Rattle.hd_recovery.proofs.Teams.{closed_more}
use Rattle.hd_recovery.proofs.handing.close_all.Goals as goal

pub loop-number-preserved : goal.loop-number-preserved
loop-number-preserved g c =
    let b = c.args.book.now.state in
    record {
      team =
          c.in_ok-close_one.ensures (flat_map (entry_closed b) (range_with_len 0 c.loop-number.number)) c.loop-number.invariant.team
          ∙ ap (λ cs. team b.task c.args.count cs []) (sym (closed_more b c.loop-number.number));
    }
