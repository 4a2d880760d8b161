-- An expansion that was made again is recorded without a judgement.
use Rattle.std.proofs.Common.{◌≡◌, ◌∙◌, ◌+◌, ◌<◌, ◌≤◌, ℕ, Bool, true, false, Option, Some, None, List, [], ◌∷◌, set, length, ap, ap₂, arith}
use Rattle.std.specs.Prelude.{flat_map}
use Rattle.std.specs.Option.{option_or}
use Rattle.std.specs.List.{AllByRecursion}
use Rattle.hd_task.specs.Plans.{node}
use Rattle.hd_tables.specs.Kids.{KidsView, with_mark_at}
use Rattle.hd_node.specs.Expansion.{ExpansionView}
use Rattle.hd_node.specs.declared.batch.Outcome.TheVariants.{Expanded}
use Rattle.hd_entries.specs.declared.content.EntriesContent.{EntriesContent}
use Rattle.hd_entries.specs.declared.refusal.Refusal.{Refusal}
use Rattle.hd_entries.specs.Settling.{entry_of, first_refusal, is_marked, is_posted, knows_parent, node_of, place_of, refusal_of, IsOutcomeOfTask}
use Rattle.hd_entries.specs.Holding.{state_of}
use Rattle.hd_entries.specs.Admitting.{marks_after}
use Rattle.hd_entries.proofs.Entering.{expansion_free}

-- what is needed to add an expansion, where the successor is settled already
pub record IsRecorded (c : EntriesContent) (e : ExpansionView) (marked : KidsView) : Type 0 where
  pub own : AllByRecursion (IsOutcomeOfTask c.expanded.task.now) (Expanded e ∷ [])
  pub free : refusal_of (state_of c) [] (Expanded e) ≡ None
  pub nothing : first_refusal (state_of c) [] (Expanded e ∷ []) ≡ None
  pub room : length c.expanded.entries.items + length (flat_map entry_of (Expanded e ∷ [])) ≤ c.most
  pub same_kids : marked.kids ≡ c.kids.kids
  pub same_count : marked.entries ≡ c.kids.entries
  pub same_marks : marked.marks ≡ marks_after (state_of c) (Expanded e ∷ [])

pub recorded :
    (c : EntriesContent) (e : ExpansionView) (wide marked : KidsView) (place : ℕ) → e.task ≡ c.expanded.task.now → length c.expanded.entries.items < c.most
    → knows_parent (state_of c) e.kid ≡ true → is_posted (state_of c) e.kid ≡ true → place ≡ place_of (state_of c) e.kid → is_marked (state_of c) e.kid ≡ false
    → node_of (state_of c) e.kid ≡ Some (node e.state e.cost)
    → wide.kids ≡ c.kids.kids → wide.entries ≡ c.kids.entries → wide.marks ≡ c.kids.marks → marked ≡ with_mark_at wide place true
    → IsRecorded c e marked
recorded c e wide marked place own room known posted stands unsettled leads kids count marks is =
    let b = state_of c in
    let free : refusal_of b [] (Expanded e) ≡ None = expansion_free b e known posted unsettled leads in
    record {
      own = (own, tt);
      free = free;
      nothing = ap (λ (r : Option Refusal). option_or r None) free;
      room = omega (arith, room);
      same_kids = ap (λ (t : KidsView). t.kids) is ∙ kids;
      same_count = ap (λ (t : KidsView). t.entries) is ∙ count;
      same_marks = ap (λ (t : KidsView). t.marks) is ∙ ap₂ (λ (ms : List Bool) (p : ℕ). set ms p true) marks stands;
    }
