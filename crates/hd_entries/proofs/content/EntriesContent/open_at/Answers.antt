use Rattle.std.proofs.Common.{◌≡◌, ◌∙◌, ℕ, ◌<◌, List, get_or, sym, ap}
use Rattle.std.proofs.lemmas.List.{get_or_default}
use Rattle.hd_task.specs.declared.plan.Kid.{Kid}
use Rattle.hd_tables.specs.Kids.{root}
use Rattle.hd_entries.specs.declared.content.EntriesContent.{EntriesContent}
use Rattle.hd_entries.specs.Kids.{posted_by}
use Rattle.hd_entries.specs.Settling.{expansions, knows_parent, is_posted}
use Rattle.hd_entries.specs.Holding.{state_of, posted_count, IsHeld}
use Rattle.hd_entries.proofs.OpenPlaces.{in_table, there_at}
use Rattle.hd_entries.proofs.content.EntriesContent.open_at.Goals as goal

-- what stands there is the successor of the definition
stands_at : (s : EntriesContent) (place : ℕ) (k : Kid) → IsHeld s → place < posted_count (state_of s) → k ≡ get_or s.kids.kids place k → k ≡ get_or (posted_by (state_of s).task (expansions (state_of s))) place root
stands_at s place k held lt is =
    is ∙ (get_or_default s.kids.kids place k root (in_table s place held lt) ∙ ap (λ (ks : List Kid). get_or ks place root) held.posts.posted)

pub kid_at-requires : goal.kid_at-requires
kid_at-requires c = in_table c.args.self.now c.args.place c.requires.held c.requires.within

pub parcel_for-requires-clause-held : goal.parcel_for-requires-clause-held
parcel_for-requires-clause-held c = c.requires.held.plans

pub parcel_for-requires-clause-known : goal.parcel_for-requires-clause-known
parcel_for-requires-clause-known c =
    let s = c.args.self.now in
    ap (knows_parent (state_of s)) (stands_at s c.args.place c.kid_at.result c.requires.held c.requires.within c.kid_at.ensures)
    ∙ (there_at (state_of s) c.requires.held.kept c.args.place c.requires.within).known

pub parcel_for-requires-clause-posted : goal.parcel_for-requires-clause-posted
parcel_for-requires-clause-posted c =
    let s = c.args.self.now in
    ap (is_posted (state_of s)) (stands_at s c.args.place c.kid_at.result c.requires.held c.requires.within c.kid_at.ensures)
    ∙ (there_at (state_of s) c.requires.held.kept c.args.place c.requires.within).posted

pub returns : goal.returns
returns c =
    let s = c.args.self.now in (
      sym c.is_settled.ensures ∙ c.if-is_settled.false,
      c.in_ok-parcel.ensures.kid ∙ stands_at s c.args.place c.kid_at.result c.requires.held c.requires.within c.kid_at.ensures,
      record { task = c.in_ok-parcel.ensures.leads.task; leads = c.in_ok-parcel.ensures.leads.leads },
    )
