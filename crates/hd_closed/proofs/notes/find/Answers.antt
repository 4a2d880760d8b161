use Rattle.std.proofs.Common.{ℕ, ◌<◌, length, refl, sym, ap, subst, ◌∙◌}
use Rattle.std.proofs.lemmas.Option.{slice_get_read}
use Rattle.hd_closed.specs.Notes.{bucket_at, bucket_head}
use Rattle.hd_closed.proofs.Chains.{IsSearch, left, some_buckets, search_starts, search_within, search_goes_on, search_shortens}
use Rattle.hd_closed.proofs.notes.find.Goals as goal

pub loop-next-init : goal.loop-next-init
loop-next-init c =
    let s = c.args.state.now in
    let heads = c.args.heads.now in
    subst (λ o. IsSearch c.args.rows.now.states (length heads) s o) (sym (c.head_of-next.ensures ∙ ap (λ (h : ℕ). bucket_head heads (bucket_at h (length heads))) c.hash.ensures))
    (search_starts c.args.rows.now.states c.args.notes.now heads c.requires s (some_buckets heads c.is_empty.result c.if-is_empty.false c.is_empty.ensures))

pub bounds-notes-place : goal.bounds-notes-place
bounds-notes-place c =
    let heads = c.args.heads.now in
    let s = c.args.state.now in
    search_within c.args.rows.now.states c.args.notes.now heads c.requires s c.in-Some.place (subst (λ o. IsSearch c.args.rows.now.states (length heads) s o) c.in-Some.is c.loop-next.invariant)

pub loop-next-smaller : goal.loop-next-smaller
loop-next-smaller c =
    let heads = c.args.heads.now in
    let notes = c.args.notes.now in
    let states = c.args.rows.now.states in
    let s = c.args.state.now in
    let n = c.index-notes-place.result in
    let within = search_within states notes heads c.requires s c.in-Some.place (subst (λ o. IsSearch states (length heads) s o) c.in-Some.is c.loop-next.invariant) in
    subst (λ o. left o < left c.loop-next.next) (sym c.get-next.ensures)
    (subst (λ o. left n.before < left o) (sym c.in-Some.is)
    (search_shortens states notes heads c.requires s c.in-Some.place n (slice_get_read notes (length notes) c.in-Some.place n refl within c.index-notes-place.is)))

pub loop-next-preserved : goal.loop-next-preserved
loop-next-preserved c =
    let heads = c.args.heads.now in
    let notes = c.args.notes.now in
    let states = c.args.rows.now.states in
    let s = c.args.state.now in
    let n = c.index-notes-place.result in
    let search_now = subst (λ o. IsSearch states (length heads) s o) c.in-Some.is c.loop-next.invariant in
    let within = search_within states notes heads c.requires s c.in-Some.place search_now in
    subst (λ o. IsSearch states (length heads) s o) (sym c.get-next.ensures)
    (search_goes_on states notes heads c.requires s c.in-Some.place n search_now (slice_get_read notes (length notes) c.in-Some.place n refl within c.index-notes-place.is)
    (λ e. c.stands.ensures.no c.if-stands.false e))
