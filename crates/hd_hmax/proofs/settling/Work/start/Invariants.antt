use Rattle.std.proofs.Common.{◌≡◌, ℕ, ◌+◌, ◌<◌, Bool, true, false, [], length}
use Rattle.hd_task.specs.Conditions.{literal_holds}
use Rattle.hd_task.specs.Conditions.{literal}
use Rattle.hd_hmax.specs.Rules.{place_at}
use Rattle.hd_hmax.specs.Working.{is_open, Counted, Fair, IsAllReady, HasQueueRoom}
use Rattle.hd_hmax.proofs.settling.Work.start.Given as goal

-- what is true of the atoms so far is closed
abbrev pub invariant-loop-atom : goal.invariant-loop-atom
invariant-loop-atom g l = record {
  counted : Counted l.rules.task.now l.self [];
  started : (b : Bool) (i : ℕ) → i < l.atom → literal_holds (g.R.Reads.seen l.state) (literal b i) ≡ true
      → is_open l.self.pending.items (place_at (length l.rules.task.now.atoms) b i) ≡ false;
  fair : Fair l.rules.task.now (g.R.Reads.seen l.state) l.self 0 [];
  ready : IsAllReady l.rules.task.now l.rules.brings l.self (length l.rules.task.now.actions + 1);
  room : HasQueueRoom l.rules.task.now l.self;
}
