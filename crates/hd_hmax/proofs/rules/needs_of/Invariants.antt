use Rattle.std.proofs.Common.{◌≡◌, ℕ, ◌<◌, length}
use Rattle.hd_hmax.specs.Rules.{needs, row}
use Rattle.hd_hmax.proofs.rules.needs_of.Given as goal

-- the rules so far
abbrev pub invariant-loop-rule : goal.invariant-loop-rule
invariant-loop-rule l = record {
  many : length l.rows ≡ l.rule;
  each : (q : ℕ) → q < l.rule → row l.rows q ≡ needs l.task q;
}
