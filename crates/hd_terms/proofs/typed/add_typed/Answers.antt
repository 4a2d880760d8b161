use Rattle.std.proofs.Common.{◌≡◌, length, [], List, Some, sym, subst, ap, ◌∙◌, arith}
use Rattle.std.proofs.lemmas.List.{nil_from_length}
use Rattle.std.proofs.lemmas.Result.{err_from_is_err_and}
use Rattle.hd_base.specs.Options.{◌>>=◌}
use Rattle.hd_forms.specs.Forms.{Forms}
use Rattle.hd_forms.specs.Reading.{Refuses}
use Rattle.hd_forms.specs.View.{forms_view}
use Rattle.hd_forms.specs.declared.forms.Form.{Form}
use Rattle.hd_terms.specs.Reading.{items_read, type_behind, typed_after}
use Rattle.hd_terms.proofs.Groups.{typed_by_group, typed-group, Refuses-bind, typed-end}
use Rattle.hd_terms.proofs.typed.add_typed.Goals as goal

pub returns-in_err-of : goal.returns-in_err-of
returns-in_err-of c =
    let p = err_from_is_err_and c.from_residual.result c.from_residual.ensures.1 in
    let l = c.loop-rest in
    let f = forms_view l.rest.now in
    let group = typed-group c.args.kind f l.found.items (length c.behind_items-after.result.now) (length l.rest.now) c.behind_items-after.ensures.len in
    let refused = rw c.behind_items-after.ensures.rest at c.in_err-of.ensures.type_given in
    rw (p.1, p.2) (
    subst (Refuses c.in_err-of.field-0.0) (sym group ∙ l.invariant)
    (Refuses-bind c.in_err-of.field-0.0 _ (typed_by_group c.args.kind l.found.items (items_read c.args.kind f)) refused)
    )

pub loop-rest-preserved : goal.loop-rest-preserved
loop-rest-preserved c =
    let l = c.loop-rest in
    let f = forms_view l.rest.now in
    let group = typed-group c.args.kind f l.found.items (length c.behind_items-after.result.now) (length l.rest.now) c.behind_items-after.ensures.len in
    let given = rw c.behind_items-after.ensures.rest at c.in_ok-of.ensures.type_given in
    rw c.in_ok-add_items.ensures.found (
    sym (group ∙ ap (λ r. r >>= typed_by_group c.args.kind l.found.items (items_read c.args.kind f)) given) ∙ l.invariant
    )

pub returns : goal.returns
returns c =
    let l = c.loop-rest in
    let none : length l.rest.now ≡ 0 = grind arith in
    sym l.invariant
    ∙ ap (λ (fs : List Form). typed_after c.args.kind (forms_view fs) l.found.items []) (nil_from_length l.rest.now none)
    ∙ typed-end c.args.kind l.found.items
