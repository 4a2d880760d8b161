-- How entries are made again, one after the other. (Our own.)
use Rattle.std.specs.Prelude.{◌≡◌, [], None}
use Rattle.hd_task.specs.declared.plan.Kid.{Kid}
use Rattle.hd_node.specs.Expansion.{ExpansionView}
use Rattle.hd_node.specs.declared.batch.Outcome.TheVariants.{Expanded}
use Rattle.hd_entries.specs.Settling.{BookState, settled, refusal_of}
use Rattle.hd_entries.specs.Resuming.{resumed_state}

-- a search was made again from its entries
abbrev pub IsAgain : BookState → Type 0
IsAgain b = b ≡ resumed_state b.task b.entries

-- a search goes on from another by the expansion of a successor
pub record IsExpansionTo (b : BookState) (k : Kid) (after : BookState) : Type 0 where
  pub by : ExpansionView
  pub own : by.task ≡ b.task
  pub kid : by.kid ≡ k
  pub free : refusal_of b [] (Expanded by) ≡ None
  pub state : after ≡ settled b (Expanded by)
