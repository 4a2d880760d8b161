use Rattle.std.proofs.Common.{◌≡◌, ◌≤◌, ◌^◌, map, take}
use Rattle.std.specs.List.{All}
use Rattle.hd_hmax.specs.Prices.{price}
use Rattle.hd_hmax.proofs.prices.prices_of.Given as goal

-- the prices of the actions so far
abbrev pub invariant-loop-action : goal.invariant-loop-action
invariant-loop-action l = record {
  prices : l.prices.items ≡ map (price l.task) (take l.action-index l.actions);
  small : All (λ p. p ≤ 2 ^ 95) l.prices.items;
}
