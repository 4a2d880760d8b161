use Rattle.std.proofs.Common.{◌≡◌, ◌∙◌, ◌+◌, ℕ, Bool, true, List, [], length, map, inl, inr, sym, ap, ap₂}
use Rattle.std.specs.Prelude.{nat_le}
use Rattle.hd_entries.specs.declared.entry.ExpandedPlan.{ExpandedPlan}
use Rattle.hd_entries.specs.Settling.{BookState, first_refusal}
use Rattle.hd_entries.specs.Holding.{successor_at_entry, state_by, state_of, view_of}
use Rattle.hd_entries.specs.Admitting.{first_wrong}
use Rattle.hd_entries.proofs.Judging.{first_same}
use Rattle.hd_entries.specs.Refusing.{has_room}
use Rattle.hd_entries.proofs.After.{refused_by_first}
use Rattle.hd_entries.proofs.content.EntriesContent.admit.Goals as goal

pub returns-in-Err-clause-refused : goal.returns-in-Err-clause-refused
returns-in-Err-clause-refused c =
    let s = c.args.self.now in
    let t = s.expanded.task.now in
    let os = c.args.outcomes.now in
    let v = view_of s in
    let room : has_room v os ≡ true = ap (λ (n : ℕ). nat_le (length (state_of s).entries + n) s.most) (sym c.count_entries-entry_count.ensures.count) ∙ (sym c.has_room.ensures ∙ c.if-not-has_room.false) in
    let same : state_by t c.make_room.new.entries.items c.make_room.new.kids.marks ≡ state_of s =
    ap₂ (λ (es : List ExpandedPlan) (ms : List Bool). state_by t es ms) c.make_room.ensures.entries c.make_room.ensures.kids.marks
    in
    let first : first_wrong (state_by t c.make_room.new.entries.items c.make_room.new.kids.marks) [] os ≡ first_refusal (state_of s) [] os =
    ap (λ (b : BookState). first_wrong b [] os) same ∙ first_same t (map successor_at_entry s.expanded.entries.items) s.kids.marks c.requires.held.kept os
    in
    elim c.in-Err.ensures.refused [
      | inl memory ↦ inl (memory, room)
      | inr why ↦ inr (refused_by_first v os room ∙ (sym first ∙ why))
    ]

pub returns-in-Ok-clause-accepted : goal.returns-in-Ok-clause-accepted
returns-in-Ok-clause-accepted c =
    let s = c.args.self.now in
    let t = s.expanded.task.now in
    let os = c.args.outcomes.now in
    let v = view_of s in
    let room : has_room v os ≡ true = ap (λ (n : ℕ). nat_le (length (state_of s).entries + n) s.most) (sym c.count_entries-entry_count.ensures.count) ∙ (sym c.has_room.ensures ∙ c.if-not-has_room.false) in
    let same : state_by t c.make_room.new.entries.items c.make_room.new.kids.marks ≡ state_of s =
    ap₂ (λ (es : List ExpandedPlan) (ms : List Bool). state_by t es ms) c.make_room.ensures.entries c.make_room.ensures.kids.marks
    in
    let first : first_wrong (state_by t c.make_room.new.entries.items c.make_room.new.kids.marks) [] os ≡ first_refusal (state_of s) [] os =
    ap (λ (b : BookState). first_wrong b [] os) same ∙ first_same t (map successor_at_entry s.expanded.entries.items) s.kids.marks c.requires.held.kept os
    in
    refused_by_first v os room ∙ (sym first ∙ c.in-Ok.ensures.right)
