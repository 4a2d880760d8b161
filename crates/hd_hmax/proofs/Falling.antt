-- The rounds come to rest: after as many rounds as there are literals no cost falls any more.
--
-- A literal whose cost comes to c or below in a round only gets there by one whose cost came there
-- in the round before. That one then counts among those that cost at most c: so each round has one
-- of them more, and there are no more than all.
use Rattle.std.proofs.Common.{◌≡◌, ℕ, zero, suc, ◌*◌, ◌-◌, ◌<◌, ◌≤◌, true, false, List, ◌++◌, map, filter, length, Contains, arith, length-append}
use Rattle.std.specs.List.{list_all}
use Rattle.std.proofs.lemmas.Bool.{both_ways, false_from_ne_true, true_from_ne_false}
use Rattle.std.proofs.lemmas.List.Elements.{Contains-append_left, Contains-append_right}
use Rattle.std.proofs.lemmas.List.FromFn.{length-map-range_with_len}
use Rattle.hd_base.proofs.Members.{Contains-map, Contains-range_with_len}
use Rattle.hd_task.specs.declared.state.State.{State}
use Rattle.hd_task.specs.declared.condition.Literal.{Literal}
use Rattle.hd_task.specs.declared.task.Task.{Task}
use Rattle.hd_task.specs.Effects.{numbers_below}
use Rattle.hd_hmax.specs.Prices.{price}
use Rattle.hd_hmax.specs.Rounds.{cost_in, table_after}
use Rattle.hd_task.specs.Conditions.{literal}
use Rattle.hd_hmax.proofs.Infinite.{up_to-more}
use Rattle.hd_hmax.proofs.Counts.{length-filter-le, length-filter-lt, length-filter-some_fail, failing_member, each_passes}
use Rattle.hd_hmax.proofs.Tables.{affords, IsBroughtAbout, affords-by, affords-later, own_if_new, brought_about_if_new}

-- ---- the literals of a task

abbrev pub all_literals : ℕ → List Literal
all_literals n = map (literal true) (numbers_below n) ++ map (literal false) (numbers_below n)

pub length-all_literals : (n : ℕ) → length (all_literals n) ≡ 2 * n
length-all_literals n =
    let e = length-append (map (literal true) (numbers_below n)) (map (literal false) (numbers_below n)) in
    let a = length-map-range_with_len (literal true) 0 n in
    let b = length-map-range_with_len (literal false) 0 n in
    omega (arith, e, a, b)

pub Contains-all_literals : (n : ℕ) (l : Literal) → l.atom < n → Contains (all_literals n) l
Contains-all_literals n l h =
    let atoms = map (literal true) (numbers_below n) in
    let negations = map (literal false) (numbers_below n) in
    let place = Contains-range_with_len n l.atom h in
    elim l.positive as (λ b. Contains (all_literals n) (literal b l.atom)) [
      | true ↦ Contains-append_left atoms negations (literal true l.atom) (Contains-map (literal true) (numbers_below n) l.atom place)
      | false ↦ Contains-append_right atoms negations (literal false l.atom) (Contains-map (literal false) (numbers_below n) l.atom place)
    ]

-- ---- each round has one more

module _ (t : Task) (s : State) where
  -- a literal that came to cost at most c in the last of k + 1 rounds
  record IsNew (k c : ℕ) (l : Literal) : Type 0 where
    now : affords t s (suc k) c l ≡ true
    before : affords t s k c l ≡ false

  -- a literal that an action needs, and that came to its cost in the round before
  record IsNeeded (k c : ℕ) : Type 0 where
    cost : ℕ
    below : cost ≤ c
    needed : Literal
    new : IsNew k cost needed

  needed_before : (k c : ℕ) (l : Literal) → IsNew (suc k) c l → IsNeeded k c
  needed_before k c l new =
      let by = brought_about_if_new t s (suc k) c l new.now new.before in
      let rest = c - price t by.action in
      let missing : list_all (affords t s k rest) by.action.condition.literals ≡ false =
      false_from_ne_true (list_all (affords t s k rest) by.action.condition.literals)
      (λ e. both_ways (affords t s (suc k) c l) new.before
      (affords-by t s k c l (own_if_new t s (suc k) c l new.now new.before)
      (record { action = by.action; among = by.among; brings = by.brings; cheap = by.cheap; needs = e })))
      in
      let one = failing_member (affords t s k rest) by.action.condition.literals missing in
      record {
        cost = rest;
        below = omega arith;
        needed = one.member;
        new = record {
          now = each_passes (affords t s (suc k) rest) by.action.condition.literals one.member by.needs one.among;
          before = one.is;
        };
      }

  at_least : (k c : ℕ) (l : Literal) → IsNew k c l → k ≤ length (filter (affords t s k c) (all_literals (length t.atoms)))
  at_least zero c l new = omega arith
  at_least (suc k) c l new =
      let all = all_literals (length t.atoms) in
      let need = needed_before k c l new in
      let own : need.needed.atom < length t.atoms = own_if_new t s k need.cost need.needed need.new.now need.new.before in
      let few = at_least k need.cost need.needed need.new in
      let more =
      length-filter-lt (affords t s k need.cost) (affords t s (suc k) need.cost) (affords-later t s k need.cost) all need.needed
      (Contains-all_literals (length t.atoms) need.needed own) need.new.before need.new.now
      in
      let wider =
      length-filter-le (affords t s (suc k) need.cost) (affords t s (suc k) c)
      (λ x. up_to-more need.cost c (cost_in (table_after t s (suc k)) x) need.below) all
      in
      omega (arith, few, more, wider)

  -- after as many rounds as there are literals nothing is new
  pub at_rest : (c : ℕ) (l : Literal) → affords t s (suc (2 * length t.atoms)) c l ≡ true → affords t s (2 * length t.atoms) c l ≡ true
  at_rest c l now =
      let k = 2 * length t.atoms in
      let all = all_literals (length t.atoms) in
      true_from_ne_false (affords t s k c l)
      (λ before.
      let few = at_least k c l (record { now = now; before = before }) in
      let less = length-filter-some_fail (affords t s k c) all l (Contains-all_literals (length t.atoms) l (own_if_new t s k c l now before)) before in
      omega (arith, few, less, length-all_literals (length t.atoms)))

  -- so an action that costs at most c in the end leaves nothing that it brings about at a greater
  -- cost
  pub closed : (c : ℕ) (l : Literal) → l.atom < length t.atoms → IsBroughtAbout t s (2 * length t.atoms) c l → affords t s (2 * length t.atoms) c l ≡ true
  closed c l own by = at_rest c l (affords-by t s (2 * length t.atoms) c l own by)
