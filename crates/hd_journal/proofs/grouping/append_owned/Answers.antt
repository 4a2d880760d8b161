use Rattle.std.proofs.Common.{◌≡◌, List, length, true, sym, ap, ◌∙◌, subst}
use Rattle.std.specs.List.{list_all}
use Rattle.hd_task.specs.declared.plan.Kid.{Kid}
use Rattle.hd_image.specs.Image.{IsGroup, fits_parent}
use Rattle.hd_journal.specs.Group.{GroupView}
use Rattle.hd_journal.specs.Appending.{AppendsOne, Breaks}
use Rattle.hd_journal.proofs.Joining.{appends_one, breaks_one, next_here}
use Rattle.hd_journal.proofs.grouping.append_owned.Goals as goal

pub returns-in-Ok-clause-appended : goal.returns-in-Ok-clause-appended
returns-in-Ok-clause-appended g c =
    let old = c.args.journal.now in
    let new = c.append.new.self in
    let group = c.of-group.result in
    let kids = ap (λ (x : GroupView). x.kids) c.of-group.ensures in
    let e = c.in-Ok.ensures in
    subst (λ (ks : List Kid). AppendsOne old ks new) kids
    (appends_one old new group e.appended (subst (IsGroup old.version) (sym kids) c.requires.group) e.whole e.moments e.settled)

pub returns-in-Err-clause-refused : goal.returns-in-Err-clause-refused
returns-in-Err-clause-refused g c =
    let old = c.args.journal.now in
    let new = c.append.new.self in
    let group = c.of-group.result in
    let kids = ap (λ (x : GroupView). x.kids) c.of-group.ensures in
    let e = c.in-Err.ensures in
    let fit = subst (λ (ks : List Kid). list_all (λ (kid : Kid). fits_parent old.version kid.parent) ks ≡ true) (sym kids) c.requires.fit in
    let first = ap (λ (x : GroupView). x.first) c.of-group.ensures ∙ ap length c.entries.ensures in
    subst (λ (ks : List Kid). Breaks old ks c.in-Err.error new) kids
    (breaks_one old new group c.in-Err.error c.requires.running (next_here old group first fit) e.refused
    (subst (IsGroup old.version) (sym kids) c.requires.group) e.moments)
