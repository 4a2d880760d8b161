-- The estimate h-max (Bonet and Geffner 2001; Haslum and Geffner 2000): what it costs to make the
-- dearest literal of the goal true, where nothing that is true once is ever lost. Computed in
-- rounds, over atoms and their negations. (That negations have costs of their own is our own.)
use Rattle.std.specs.Prelude.{ℕ, zero, suc, ◌*◌, Bool, true, false, not, ◌&&◌, if◌then◌else◌, List, map, length, Option, Some, None, slice_index_or}
use Rattle.hd_task.specs.Conditions.{literal}
use Rattle.std.specs.List.{fold}
use Rattle.hd_task.specs.declared.state.State.{State}
use Rattle.hd_task.specs.declared.condition.Literal.{Literal}
use Rattle.hd_task.specs.declared.action.Action.{Action}
use Rattle.hd_task.specs.declared.task.Task.{Task}
use Rattle.hd_task.specs.Conditions.{literal_holds}
use Rattle.hd_task.specs.Effects.{numbers_below, names_atom}
use Rattle.hd_task.specs.Expansions.{lesser}
use Rattle.hd_hmax.specs.Costs.{greater, plus_price}
use Rattle.hd_hmax.specs.Prices.{price}

-- ---- tables

-- a cost for each atom of a task, and one for the negation of each, by the atoms' numbers
pub record Table : Type 0 where
  pub atoms : List (Option ℕ)
  pub negations : List (Option ℕ)

-- what a literal costs. Of an atom that the table lacks, the negation costs nothing, and the atom
-- itself is out of reach
abbrev pub cost_in : Table → Literal → Option ℕ
cost_in table l = if l.positive then slice_index_or table.atoms l.atom None else slice_index_or table.negations l.atom (Some 0)

-- the table of so many atoms in which a literal has the cost that f gives it
abbrev pub table_by : ℕ → (Literal → Option ℕ) → Table
table_by n f = record {
  atoms = map (λ i. f (literal true i)) (numbers_below n);
  negations = map (λ i. f (literal false i)) (numbers_below n);
}

-- ---- a round

-- literals together cost as much as the dearest of them, and nothing if there are none
unfoldable pub dearest : Table → List Literal → Option ℕ
dearest table literals = fold (λ c l. greater c (cost_in table l)) (Some 0) literals

-- an action brings an atom about that it adds, and a negation whose atom it deletes and does not
-- add
unfoldable pub brings_about : Action → Literal → Bool
brings_about a l = if l.positive then names_atom a.adds l.atom else (names_atom a.deletes l.atom && not (names_atom a.adds l.atom))

-- what it costs to take an action: its price, and what its condition's literals cost
unfoldable pub cost_by : Task → Table → Action → Option ℕ
cost_by t table a = plus_price (price t a) (dearest table a.condition.literals)

-- the lesser of a literal's cost and what it costs by an action, if the action brings it about
abbrev pub with_action : Task → Table → Literal → Option ℕ → Action → Option ℕ
with_action t table l c a = if brings_about a l then lesser c (cost_by t table a) else c

-- a literal's cost after a round: the least of the cost before it and of what it costs by each
-- action
unfoldable pub lowered : Task → Table → Literal → Option ℕ
lowered t table l = fold (with_action t table l) (cost_in table l) t.actions

-- ---- all rounds

-- before the first round a literal that is true costs nothing, and all others are out of reach
abbrev pub first_cost : State → Literal → Option ℕ
first_cost s l = if literal_holds s l then Some 0 else None

-- the table after so many rounds
abbrev pub table_after : Task → State → ℕ → Table
table_after t s zero = table_by (length t.atoms) (first_cost s)
table_after t s (suc k) = table_by (length t.atoms) (lowered t (table_after t s k))

-- the estimate: what the goal's literals cost after as many rounds as there are literals; none for
-- infinite
unfoldable pub hmax : Task → State → Option ℕ
hmax t s = dearest (table_after t s (2 * length t.atoms)) t.goal.literals
