use Rattle.std.proofs.Common.{◌≡◌, ◌<◌, ◌++◌, [], map, length, get_or, reverse}
use Rattle.hd_entries.specs.Settling.{expansions}
use Rattle.hd_entries.specs.Holding.{unmarked, IsExpanded}
use Rattle.hd_entries.proofs.expanded.ExpandedPlans.plan_to.Given as goal

-- the plan is that of the entry where the walk stands, followed by the actions passed, the last one
-- first
abbrev pub invariant-loop-kid : goal.invariant-loop-kid
invariant-loop-kid l = record {
  held : IsExpanded l.self;
  among : l.number < length l.self.entries.items;
  passed : get_or (expansions (unmarked l.self)) l.entry [] ≡ get_or (expansions (unmarked l.self)) l.number [] ++ reverse (map (λ a. a.0) l.actions.items);
}

abbrev pub decreases-loop-kid : goal.decreases-loop-kid
decreases-loop-kid l = l.number
