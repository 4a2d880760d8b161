use Rattle.std.proofs.Common.{◌≡◌, ◌++◌, ◌∙◌, List, length, sym, ap, ap₂, arith, map}
use Rattle.std.specs.Prelude.{flat_map}
use Rattle.hd_task.specs.declared.task.Task.{Task}
use Rattle.hd_tables.specs.Kids.{KidsView}
use Rattle.hd_node.specs.declared.batch.Outcome.{Outcome}
use Rattle.hd_entries.specs.declared.entry.ExpandedPlan.{ExpandedPlan}
use Rattle.hd_entries.specs.Settling.{entry_of}
use Rattle.hd_entries.specs.Holding.{successor_at_entry, settled_count, state_by, state_of}
use Rattle.hd_entries.specs.Admitting.{marks_after}
use Rattle.hd_entries.specs.Growing.{entered_by, best_by, departure_by, posted_all}
use Rattle.hd_entries.proofs.Children.{few_kids}
use Rattle.std.proofs.lemmas.List.{map-append}
use Rattle.hd_entries.proofs.After.{entered_kids, admitted, state_after, held_after, same_held, settles_each, held_again, view_again}
use Rattle.hd_entries.proofs.content.EntriesContent.commit.Goals as goal

pub admit-requires-clause-fits : goal.admit-requires-clause-fits
admit-requires-clause-fits c = few_kids c.args.batch.now.outcomes c.as_slice-outcomes.result.now c.as_slice-outcomes.ensures c.args.batch.now.few

pub accept-requires-clause-few : goal.accept-requires-clause-few
accept-requires-clause-few c =
    let s = c.args.self.now in
    let h = c.requires.held in
    let a = admitted s c.args.batch.now.outcomes c.as_slice-outcomes.result.now c.as_slice-outcomes.ensures c.in-Ok.ensures.accepted in
    let room = a.room in
    let same = ap (λ (os : List Outcome). length (flat_map entry_of os)) c.as_slice-outcomes.ensures in
    let entered = c.in-Ok.ensures.same.entered in
    let count = h.posts.entered in
    let few = h.numbered in
    omega (arith, room, same, entered, count, few)

pub returns-in-Ok-clause-held : goal.returns-in-Ok-clause-held
returns-in-Ok-clause-held c =
    let s = c.args.self.now in
    let t = s.expanded.task.now in
    let m = c.admit.new.self in
    let h = c.requires.held in
    let os = c.args.batch.now.outcomes in
    let stays = c.in-Ok.ensures.same in
    let e = c.accept.ensures in
    let same = c.as_slice-outcomes.ensures in
    let a = admitted s os c.as_slice-outcomes.result.now c.as_slice-outcomes.ensures c.in-Ok.ensures.accepted in
    let marks : m.kids.marks ≡ marks_after (state_of s) os = c.in-Ok.ensures.marks ∙ ap (marks_after (state_of s)) c.as_slice-outcomes.ensures in
    let number : length m.expanded.entries.items ≡ length s.expanded.entries.items = ap (λ (es : List ExpandedPlan). length es) stays.entries in
    same_held
    (sym (e.task ∙ stays.task))
    (sym (e.entries ∙ ap₂ (λ xs os. xs ++ entered_by os) stays.entries same))
    (sym (e.best ∙ (ap₂ (λ b n. best_by b n c.as_slice-outcomes.result.now) stays.best number ∙ ap (λ os. best_by s.expanded.best (length s.expanded.entries.items) os) same)))
    (sym (e.departure ∙ (ap₂ (λ b n. departure_by b n c.as_slice-outcomes.result.now) stays.departure number ∙ ap (λ os. departure_by s.expanded.departure (length s.expanded.entries.items) os) same)))
    (sym (e.kids ∙ ap (λ os. posted_all m.kids os) same))
    (sym (e.most ∙ stays.most))
    (held_after t s.expanded.entries.items s.expanded.best s.expanded.departure s.kids s.most h os c.requires.of_task a.nothing a.room m.kids stays.posted stays.entered marks)

pub returns-in-Ok-clause-state : goal.returns-in-Ok-clause-state
returns-in-Ok-clause-state c =
    let s = c.args.self.now in
    let t = s.expanded.task.now in
    let m = c.admit.new.self in
    let os = c.args.batch.now.outcomes in
    let stays = c.in-Ok.ensures.same in
    let e = c.accept.ensures in
    let same = c.as_slice-outcomes.ensures in
    let a = admitted s os c.as_slice-outcomes.result.now c.as_slice-outcomes.ensures c.in-Ok.ensures.accepted in
    let marks : m.kids.marks ≡ marks_after (state_of s) os = c.in-Ok.ensures.marks ∙ ap (marks_after (state_of s)) c.as_slice-outcomes.ensures in
    ap (λ (u : Task). state_by u c.accept.new.self.expanded.entries.items c.accept.new.self.kids.marks) (e.task ∙ stays.task)
    ∙ (ap₂ (λ (es : List ExpandedPlan) (table : KidsView). state_by t es table.marks)
    (e.entries ∙ ap₂ (λ xs os. xs ++ entered_by os) stays.entries same)
    (e.kids ∙ ap (λ os. posted_all m.kids os) same)
    ∙ state_after t s.expanded.entries.items s.expanded.best s.expanded.departure s.kids s.most c.requires.held os c.requires.of_task a.nothing a.room m.kids stays.posted stays.entered marks)

pub returns-in-Ok-clause-settled : goal.returns-in-Ok-clause-settled
returns-in-Ok-clause-settled c =
    let s = c.args.self.now in
    let t = s.expanded.task.now in
    let m = c.admit.new.self in
    let os = c.args.batch.now.outcomes in
    let stays = c.in-Ok.ensures.same in
    let a = admitted s os c.as_slice-outcomes.result.now c.as_slice-outcomes.ensures c.in-Ok.ensures.accepted in
    let marks : m.kids.marks ≡ marks_after (state_of s) os = c.in-Ok.ensures.marks ∙ ap (marks_after (state_of s)) c.as_slice-outcomes.ensures in
    ap settled_count (returns-in-Ok-clause-state c)
    ∙ settles_each t s.expanded.entries.items s.expanded.best s.expanded.departure s.kids s.most c.requires.held os c.requires.of_task a.nothing a.room m.kids stays.posted stays.entered marks

pub returns-in-Ok-clause-grown : goal.returns-in-Ok-clause-grown
returns-in-Ok-clause-grown c =
    let s = c.args.self.now in
    let stays = c.in-Ok.ensures.same in
    ap (map successor_at_entry) (c.accept.ensures.entries ∙ ap₂ (λ xs os. xs ++ entered_by os) stays.entries c.as_slice-outcomes.ensures)
    ∙ (map-append successor_at_entry s.expanded.entries.items (entered_by c.args.batch.now.outcomes) ∙ ap (λ ks. map successor_at_entry s.expanded.entries.items ++ ks) (entered_kids c.args.batch.now.outcomes))

pub returns-in-Ok-clause-begins : goal.returns-in-Ok-clause-begins
returns-in-Ok-clause-begins c = (flat_map entry_of c.args.batch.now.outcomes, returns-in-Ok-clause-grown c)

pub returns-in-Err-clause-held : goal.returns-in-Err-clause-held
returns-in-Err-clause-held c = held_again c.args.self.now c.admit.new.self c.in-Err.ensures.same c.in-Err.ensures.err c.requires.held

pub returns-in-Err-clause-err : goal.returns-in-Err-clause-err
returns-in-Err-clause-err c = view_again c.args.self.now c.admit.new.self c.in-Err.ensures.same c.in-Err.ensures.err
