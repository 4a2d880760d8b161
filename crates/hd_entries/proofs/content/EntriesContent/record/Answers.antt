use Rattle.std.proofs.Common.{◌≡◌, ◌∙◌, ◌++◌, ℕ, Some, Bool, true, List, [], ◌∷◌, length, get_or, refl, sym, ap, ap₂, arith}
use Rattle.std.proofs.lemmas.Bool.{ltb-true}
use Rattle.std.proofs.lemmas.List.{length-map}
use Rattle.hd_task.specs.declared.task.Task.{Task}
use Rattle.hd_tables.specs.Kids.{KidsView}
use Rattle.hd_task.specs.Plans.{node}
use Rattle.hd_node.specs.Children.{ChildView}
use Rattle.hd_node.specs.declared.batch.Outcome.TheVariants.{Expanded}
use Rattle.hd_entries.specs.declared.entry.ExpandedPlan.{ExpandedPlan}
use Rattle.hd_entries.specs.Kids.{posted_by}
use Rattle.hd_entries.specs.Settling.{expansions, place_of}
use Rattle.hd_entries.specs.Holding.{state_by, state_of}
use Rattle.hd_entries.specs.Growing.{actions_of, best_by, departure_by, entered_by}
use Rattle.hd_entries.proofs.After.{held_after, held_again, same_held, state_after}
use Rattle.hd_entries.proofs.Posting.{actions_at}
use Rattle.hd_entries.proofs.Remaking.{recorded}
use Rattle.hd_entries.proofs.content.EntriesContent.record.Goals as goal

pub settle-requires-clause-within : goal.settle-requires-clause-within
settle-requires-clause-within c =
    let s = c.args.self.now in
    let b = state_of s in
    let k = c.args.outline.now.kid in
    let P = posted_by b.task (expansions b) in
    let posted = ltb-true (place_of b k) (length P) c.requires.posted in
    let kids = ap length (c.in_ok-make_room_for.ensures.same.posted ∙ c.requires.held.posts.posted) in
    omega (arith, posted, kids, c.requires.place)

pub settle-requires-clause-unsettled : goal.settle-requires-clause-unsettled
settle-requires-clause-unsettled c =
    let s = c.args.self.now in
    ap (λ (ms : List Bool). get_or ms c.args.place true) c.in_ok-make_room_for.ensures.marks
    ∙ (ap (λ (p : ℕ). get_or s.kids.marks p true) c.requires.place ∙ c.requires.unsettled)

pub add-requires-clause-successors : goal.add-requires-clause-successors
add-requires-clause-successors c =
    let e = c.args.outline.now in
    let named : c.actions.result.now ≡ actions_of e.children = c.actions.ensures ∙ actions_at e.task e (Some (node e.state e.cost)) refl refl in
    let room = ap (λ (t : KidsView). t.kid_room) c.settle.ensures in
    omega (arith, c.in_ok-make_room_for.ensures.successors, ap length named, length-map e.children (λ (x : ChildView). x.action), room)

pub returns-clause-held : goal.returns-clause-held
returns-clause-held c =
    let s = c.args.self.now in
    let t = s.expanded.task.now in
    let e = c.args.outline.now in
    let os = Expanded e ∷ [] in
    let m = c.make_room_for.new.self in
    let k = c.settle.new.self in
    let same = c.in_ok-make_room_for.ensures.same in
    let a = c.add.ensures in
    let number : length m.expanded.entries.items ≡ length s.expanded.entries.items = ap (λ (es : List ExpandedPlan). length es) same.entries in
    let r = recorded s e m.kids k c.args.place c.requires.task c.requires.room c.requires.known c.requires.posted c.requires.place c.requires.unsettled c.requires.leads same.posted same.entered c.in_ok-make_room_for.ensures.marks c.settle.ensures in
    same_held
    (sym (a.task ∙ same.task))
    (sym (a.entries ∙ ap (λ xs. xs ++ entered_by os) same.entries))
    (sym (a.best ∙ ap₂ (λ b n. best_by b n os) same.best number))
    (sym (a.departure ∙ ap₂ (λ d n. departure_by d n os) same.departure number))
    (sym a.kids)
    (sym (a.most ∙ same.most))
    (held_after t s.expanded.entries.items s.expanded.best s.expanded.departure s.kids s.most c.requires.held os r.own r.nothing r.room k r.same_kids r.same_count r.same_marks)

pub returns-clause-expanded : goal.returns-clause-expanded
returns-clause-expanded c =
    let s = c.args.self.now in
    let t = s.expanded.task.now in
    let e = c.args.outline.now in
    let os = Expanded e ∷ [] in
    let m = c.make_room_for.new.self in
    let k = c.settle.new.self in
    let same = c.in_ok-make_room_for.ensures.same in
    let a = c.add.ensures in
    let r = recorded s e m.kids k c.args.place c.requires.task c.requires.room c.requires.known c.requires.posted c.requires.place c.requires.unsettled c.requires.leads same.posted same.entered c.in_ok-make_room_for.ensures.marks c.settle.ensures in
    record {
      by = e;
      own = c.requires.task;
      kid = refl;
      free = r.free;
      state =
          ap (λ (u : Task). state_by u c.add.new.self.expanded.entries.items c.add.new.self.kids.marks) (a.task ∙ same.task)
          ∙ (ap₂ (λ (es : List ExpandedPlan) (table : KidsView). state_by t es table.marks) (a.entries ∙ ap (λ xs. xs ++ entered_by os) same.entries) a.kids
          ∙ state_after t s.expanded.entries.items s.expanded.best s.expanded.departure s.kids s.most c.requires.held os r.own r.nothing r.room k r.same_kids r.same_count r.same_marks);
    }

pub returns-in_err-make_room_for-clause-held : goal.returns-in_err-make_room_for-clause-held
returns-in_err-make_room_for-clause-held c = held_again c.args.self.now c.make_room_for.new.self c.make_room_for.ensures.same c.make_room_for.ensures.marks c.requires.held
