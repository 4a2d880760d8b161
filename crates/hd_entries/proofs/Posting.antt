-- What the expansions among outcomes post.
use Rattle.std.proofs.Common.{◌≡◌, ℕ, ◌+◌, ◌-◌, ◌<◌, ◌≤◌, Bool, false, Option, Some, List, inl, inr, [], ◌∷◌, ◌++◌, map, replicate, length, refl, sym, ap, ap₂, ◌∙◌, subst, arith, append_assoc, append-nil, length-append}
use Rattle.std.specs.Prelude.{flat_map}
use Rattle.std.specs.List.{AllByRecursion, AllPairs, fold, range_with_len}
use Rattle.std.proofs.lemmas.Bool.{cases_lt}
use Rattle.std.proofs.lemmas.List.{length-map, get_or_append_left, get_or_push, length_push, replicate-append-replicate}
use Rattle.std.proofs.lemmas.List.Kept.{AllPairs-filter}
use Rattle.std.proofs.lemmas.List.FromFn.{length-range_with_len, get_or-range_with_len}
use Rattle.hd_base.proofs.Lists.{cons_parts}
use Rattle.hd_task.specs.declared.task.Task.{Task}
use Rattle.hd_task.specs.declared.plan.Kid.{Kid}
use Rattle.hd_task.specs.declared.plan.TheConstants.{ROOT_PARENT}
use Rattle.hd_task.specs.Plans.{Node, exec, node}
use Rattle.hd_task.specs.Expansions.{is_applicable, applicable_at}
use Rattle.hd_tables.specs.Kids.{KidsView, kid_from, ComesAfter, HasNone, with_new_entry, with_kid}
use Rattle.hd_node.specs.Children.{ChildView, children_at}
use Rattle.hd_node.specs.Expansion.{ExpansionView}
use Rattle.hd_node.specs.declared.batch.Outcome.{Outcome}
use Rattle.hd_node.specs.declared.batch.Outcome.TheVariants.{Expanded, Duplicate, Bounded}
use Rattle.hd_node.proofs.Steps.{children-actions}
use Rattle.hd_entries.specs.Kids.{kids_of, kids_from}
use Rattle.hd_entries.specs.Settling.{IsOutcomeOfTask, entry_of}
use Rattle.hd_entries.specs.Holding.{node_at}
use Rattle.hd_entries.specs.declared.entry.ExpandedPlan.{ExpandedPlan}
use Rattle.hd_entries.specs.Growing.{entered_by, kids_at, successor_count, with_kids, actions_of, posted_one, posted_all}

-- ---- the successors of one entry

pub entries_with : (actions : List ℕ) (table : KidsView) → (fold with_kid table actions).entries ≡ table.entries
entries_with [] table = refl
entries_with (a ∷ actions) table = entries_with actions (with_kid table a)

kids_with : (actions : List ℕ) (table : KidsView) (n : ℕ) → table.entries - 1 ≡ n → (fold with_kid table actions).kids ≡ table.kids ++ kids_of n actions
kids_with [] table n e = sym (append-nil table.kids)
kids_with (a ∷ actions) table n e =
    kids_with actions (with_kid table a) n e
    ∙ (append_assoc table.kids (kid_from (table.entries - 1) a ∷ []) (kids_of n actions)
    ∙ ap (λ (m : ℕ). table.kids ++ kid_from m a ∷ kids_of n actions) e)

marks_with : (actions : List ℕ) (table : KidsView) → (fold with_kid table actions).marks ≡ table.marks ++ replicate (length actions) false
marks_with [] table = sym (append-nil table.marks)
marks_with (a ∷ actions) table =
    marks_with actions (with_kid table a) ∙ append_assoc table.marks (false ∷ []) (replicate (length actions) false)

entry_room_with : (actions : List ℕ) (table : KidsView) → (fold with_kid table actions).entry_room ≡ table.entry_room
entry_room_with [] table = refl
entry_room_with (a ∷ actions) table = entry_room_with actions (with_kid table a)

kid_room_with : (actions : List ℕ) (table : KidsView) → (fold with_kid table actions).kid_room ≡ table.kid_room - length actions
kid_room_with [] table = omega arith
kid_room_with (a ∷ actions) table = let rest = kid_room_with actions (with_kid table a) in omega (arith, rest)

-- ---- the successors of outcomes

-- the successors of outcomes whose entries are numbered from n on
abbrev pub posted_for : ℕ → List Outcome → List Kid
posted_for n [] = []
posted_for n (Expanded e ∷ outcomes) = kids_of n (actions_of e.children) ++ posted_for (n + 1) outcomes
posted_for n (Duplicate k by ∷ outcomes) = posted_for n outcomes
posted_for n (Bounded k h ∷ outcomes) = posted_for n outcomes

pub posted_entries : (outcomes : List Outcome) (table : KidsView) → (posted_all table outcomes).entries ≡ table.entries + length (entered_by outcomes)
posted_entries [] table = omega arith
posted_entries (Expanded e ∷ outcomes) table =
    let rest = posted_entries outcomes (with_kids table (actions_of e.children)) in
    let one = entries_with (actions_of e.children) (with_new_entry table) in
    omega (arith, rest, one)
posted_entries (Duplicate k by ∷ outcomes) table = posted_entries outcomes table
posted_entries (Bounded k h ∷ outcomes) table = posted_entries outcomes table

pub posted_kids : (outcomes : List Outcome) (table : KidsView) → (posted_all table outcomes).kids ≡ table.kids ++ posted_for table.entries outcomes
posted_kids [] table = sym (append-nil table.kids)
posted_kids (Expanded e ∷ outcomes) table =
    let actions = actions_of e.children in
    let here : (with_new_entry table).entries - 1 ≡ table.entries = omega arith in
    posted_kids outcomes (with_kids table actions)
    ∙ (ap₂ (λ (ks : List Kid) (n : ℕ). ks ++ posted_for n outcomes) (kids_with actions (with_new_entry table) table.entries here) (entries_with actions (with_new_entry table))
    ∙ append_assoc table.kids (kids_of table.entries actions) (posted_for (table.entries + 1) outcomes))
posted_kids (Duplicate k by ∷ outcomes) table = posted_kids outcomes table
posted_kids (Bounded k h ∷ outcomes) table = posted_kids outcomes table

pub posted_marks : (outcomes : List Outcome) (table : KidsView) → (posted_all table outcomes).marks ≡ table.marks ++ replicate (successor_count outcomes) false
posted_marks [] table = sym (append-nil table.marks)
posted_marks (Expanded e ∷ outcomes) table =
    let actions = actions_of e.children in
    let count : length actions ≡ length e.children = length-map e.children (λ (c : ChildView). c.action) in
    posted_marks outcomes (with_kids table actions)
    ∙ (ap (λ (ms : List Bool). ms ++ replicate (successor_count outcomes) false) (marks_with actions (with_new_entry table))
    ∙ (append_assoc table.marks (replicate (length actions) false) (replicate (successor_count outcomes) false)
    ∙ ap (λ (ms : List Bool). table.marks ++ ms)
    (replicate-append-replicate (length actions) (successor_count outcomes) false ∙ ap (λ (n : ℕ). replicate (n + successor_count outcomes) false) count)))
posted_marks (Duplicate k by ∷ outcomes) table =
    let e : successor_count outcomes ≡ 0 + successor_count outcomes = omega arith in
    posted_marks outcomes table ∙ ap (λ (n : ℕ). table.marks ++ replicate n false) e
posted_marks (Bounded k h ∷ outcomes) table =
    let e : successor_count outcomes ≡ 0 + successor_count outcomes = omega arith in
    posted_marks outcomes table ∙ ap (λ (n : ℕ). table.marks ++ replicate n false) e

-- ---- what plans post that lead where outcomes do

pub actions_at : (t : Task) (e : ExpansionView) (r : Option Node) → e.task ≡ t → r ≡ Some (node e.state e.cost) → applicable_at t r ≡ actions_of e.children
actions_at t e r own is =
    ap (applicable_at t) is
    ∙ (sym (children-actions t (node e.state e.cost))
    ∙ ap actions_of (ap (λ (u : Task). children_at u (node e.state e.cost)) (sym own) ∙ sym e.all_children))

pub kids_led :
    (t : Task) (n : ℕ) (outcomes : List Outcome) (more : List (List ℕ)) → AllByRecursion (IsOutcomeOfTask t) outcomes
    → map (exec t) more ≡ map (λ (e : ExpandedPlan). Some (node_at e)) (entered_by outcomes) → kids_from t n more ≡ posted_for n outcomes
kids_led t n [] [] own leads = refl
kids_led t n [] (p ∷ more) own leads = absurd (cc)
kids_led t n (Expanded e ∷ outcomes) [] own leads = absurd (cc)
kids_led t n (Expanded e ∷ outcomes) (p ∷ more) own leads =
    let parts = cons_parts (exec t p) (Some (node e.state e.cost)) (map (exec t) more) (map (λ (x : ExpandedPlan). Some (node_at x)) (entered_by outcomes)) leads in
    ap₂ (λ (actions : List ℕ) (ks : List Kid). kids_of n actions ++ ks)
    (actions_at t e (exec t p) own.0 parts.0)
    (kids_led t (n + 1) outcomes more own.1 parts.1)
kids_led t n (Duplicate k by ∷ outcomes) more own leads = kids_led t n outcomes more own.1 leads
kids_led t n (Bounded k h ∷ outcomes) more own leads = kids_led t n outcomes more own.1 leads

-- ---- actions rise

range_rises : (n : ℕ) → AllPairs (λ (a b : ℕ). a < b) (range_with_len 0 n)
range_rises n = λ i j d lt within.
    let long = length-range_with_len 0 n in
    let left = get_or-range_with_len 0 n i d (omega (arith, lt, within, long)) in
    let right = get_or-range_with_len 0 n j d (omega (arith, within, long)) in
    omega (arith, left, right, lt)

applicable_rises : (t : Task) (r : Option Node) → AllPairs (λ (a b : ℕ). a < b) (applicable_at t r)
unfolding applicable_at
applicable_rises t r = AllPairs-filter (λ (a b : ℕ). a < b) (is_applicable t r) (range_with_len 0 (length t.actions)) (range_rises (length t.actions))

pub children_rise : (e : ExpansionView) → AllPairs (λ (a b : ℕ). a < b) (actions_of e.children)
children_rise e =
    subst (λ (actions : List ℕ). AllPairs (λ (a b : ℕ). a < b) actions) (actions_at e.task e (Some (node e.state e.cost)) refl refl)
    (applicable_rises e.task (Some (node e.state e.cost)))

-- ---- successors that are posted one after the other

-- an action that comes after those of an entry's successors, and after one more, comes after these
pub after_one :
    (kids : List Kid) (n a b : ℕ) → ComesAfter kids n b → a < b → ComesAfter (kids ++ kid_from n a ∷ []) n b
after_one kids n a b after lt = λ i d within is.
    elim (cases_lt i (length kids)) [
      | inl before ↦
          let same = get_or_append_left kids (kid_from n a ∷ []) d i before in
          let less = after i d before (ap (λ (k : Kid). k.parent) (sym same) ∙ is) in
          let read = ap (λ (k : Kid). k.action) same in
          omega (arith, less, read)
      | inr far ↦
          let last : length kids ≡ i = omega (arith, far, within, length_push kids (kid_from n a)) in
          let read = ap (λ (k : Kid). k.action) (get_or_push kids (kid_from n a) d i last) in
          omega (arith, read, lt)
    ]

pub after_nothing : (kids : List Kid) (n a : ℕ) → HasNone kids n → ComesAfter kids n a
after_nothing kids n a none = λ i d within is. absurd (none i d within is)

-- ---- outcomes that are posted one after the other

-- what is left to post once one outcome is posted, and room for it
pub record IsNext (before after : KidsView) (outcomes later : List Outcome) : Type 0 where
  pub left : posted_all after later ≡ posted_all before outcomes
  pub entry_room : length (flat_map entry_of later) ≤ after.entry_room
  pub kid_room : successor_count later ≤ after.kid_room
  pub few : after.entries + length (flat_map entry_of later) ≤ ROOT_PARENT

module _ (before after : KidsView) (outcomes later : List Outcome) (o : Outcome) (at : outcomes ≡ o ∷ later) (entry_room : length (flat_map entry_of outcomes) ≤ before.entry_room) (kid_room : successor_count outcomes ≤ before.kid_room) (few : before.entries + length (flat_map entry_of outcomes) ≤ ROOT_PARENT) where
  pub next_expanded : (e : ExpansionView) → o ≡ Expanded e → after ≡ with_kids before (actions_of e.children) → IsNext before after outcomes later
  next_expanded e is then =
      let whole : outcomes ≡ Expanded e ∷ later = at ∙ ap (λ (x : Outcome). x ∷ later) is in
      let actions = actions_of e.children in
      let long : length actions ≡ length e.children = length-map e.children (λ (c : ChildView). c.action) in
      let entries = ap (λ (os : List Outcome). length (flat_map entry_of os)) whole in
      let kids = ap successor_count whole in
      let entry_left = ap (λ (t : KidsView). t.entry_room) then ∙ entry_room_with actions (with_new_entry before) in
      let kid_left = ap (λ (t : KidsView). t.kid_room) then ∙ kid_room_with actions (with_new_entry before) in
      let count = ap (λ (t : KidsView). t.entries) then ∙ entries_with actions (with_new_entry before) in
      record {
        left = ap (λ (t : KidsView). posted_all t later) then ∙ sym (ap (posted_all before) whole);
        entry_room = omega (arith, entries, entry_left, entry_room);
        kid_room = omega (arith, kids, kid_left, long, kid_room);
        few = omega (arith, entries, count, few);
      }

  pub next_other : ((e : ExpansionView) → o ≡ Expanded e → ⊥) → after ≡ before → IsNext before after outcomes later
  next_other other then =
      let alone = no_expansion o other in
      let entries = ap (λ (os : List Outcome). length (flat_map entry_of os)) at in
      let kids = ap successor_count at in
      let one = alone.1 in
      let none = alone.2 in
      let more = length-append (entry_of o) (flat_map entry_of later) in
      let entry_left = ap (λ (t : KidsView). t.entry_room) then in
      let kid_left = ap (λ (t : KidsView). t.kid_room) then in
      let count = ap (λ (t : KidsView). t.entries) then in
      record {
        left = ap (λ (t : KidsView). posted_all t later) (then ∙ sym (alone.0 before)) ∙ sym (ap (posted_all before) at);
        entry_room = omega (arith, entries, more, one, entry_left, entry_room);
        kid_room = omega (arith, kids, none, kid_left, kid_room);
        few = omega (arith, entries, more, one, count, few);
      }
    where
      no_expansion : (o : Outcome) → ((e : ExpansionView) → o ≡ Expanded e → ⊥) → ((t : KidsView) → posted_one t o ≡ t) × (length (entry_of o) ≡ 0) × (kids_at o ≡ 0)
      no_expansion (Expanded e) h = absurd (h e refl)
      no_expansion (Duplicate k by) h = (λ t. refl, refl, refl)
      no_expansion (Bounded k h) g = (λ t. refl, refl, refl)
