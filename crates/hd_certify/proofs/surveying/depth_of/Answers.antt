use Rattle.std.proofs.Common.{◌≡◌, ◌+◌, slice_get, Some, sym, ap, ◌∙◌, arith}
use Rattle.std.proofs.lemmas.Option.{none-some, slice_get-get_or, slice_get_past}
use Rattle.hd_tables.specs.Kids.{root}
use Rattle.hd_certify.proofs.Surveys.{next_depth, depth_is, depth_small}
use Rattle.hd_certify.proofs.surveying.depth_of.Goals as goal

pub returns-in-Some-get : goal.returns-in-Some-get
returns-in-Some-get c =
    let b = c.args.entries.now.state in
    let n = c.args.number in
    let whole = depth_is b c.requires.kept n c.in-Some.kid c.args.before.now (sym c.in-Some.ensures) c.requires.before in
    let before = c.args.before.now in
    let parent = c.in-Some.kid.parent in
    let found = c.in-Some-get.ensures.lookup.3 in
    let at : slice_get before parent ≡ Some c.in-Some-get.depth.now =
    slice_get-get_or before parent 0 found.0 ∙ ap Some (sym (found.1 0)) in
    let here = whole ∙ ap next_depth at in
    let small = depth_small b c.requires.kept (n + 1) n (omega arith) c.requires.among in
    omega (arith, here, small, c.saturating_add.ensures, c.requires.kept.short, c.requires.among)

pub returns-in-None-get : goal.returns-in-None-get
returns-in-None-get c =
    let b = c.args.entries.now.state in
    sym (depth_is b c.requires.kept c.args.number c.in-Some.kid c.args.before.now (sym c.in-Some.ensures) c.requires.before
    ∙ ap next_depth (slice_get_past c.args.before.now c.in-Some.kid.parent c.in-None-get.ensures.lookup.3))

pub returns-in-None : goal.returns-in-None
returns-in-None c =
    let b = c.args.entries.now.state in
    absurd (none-some _ (c.in-None.ensures ∙ slice_get-get_or b.entries c.args.number root c.requires.among))
