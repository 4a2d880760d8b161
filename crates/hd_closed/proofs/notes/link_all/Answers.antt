use Rattle.std.proofs.Common.{◌≡◌, ℕ, ◌<◌, Some, length, set, slice_get, refl, sym, ap, ◌∙◌, arith, length-set}
use Rattle.std.proofs.lemmas.Option.{same_Some, slice_get_read}
use Rattle.hd_closed.specs.declared.notes.Note.{Note}
use Rattle.hd_closed.specs.Notes.{bucket_at, bucket_head}
use Rattle.hd_closed.proofs.Chains.{alike_set, chained_set}
use Rattle.hd_closed.proofs.notes.link_all.Goals as goal

pub loop-place-preserved : goal.loop-place-preserved
loop-place-preserved c =
    let inv = c.loop-place.invariant in
    let old = c.args.notes.now.items in
    let notes = c.loop-place.notes.items in
    let heads = c.loop-place.heads.items in
    let place = c.loop-place.place in
    let n = c.index_mut.result.now in
    let read = c.index.result.now in
    let n' : Note = record n { before = c.link-before.result } in
    let alike = inv.alike in
    let many = alike.as_many in
    let lt : place < length notes = omega arith in
    let at : slice_get notes place ≡ Some n = slice_get_read notes (length notes) place n refl lt c.index_mut.ensures.value in
    let at_read : slice_get notes place ≡ Some read = slice_get_read notes (length notes) place read refl lt c.index.ensures in
    let hash : read.hash ≡ n.hash = ap (λ (x : Note). x.hash) (same_Some read n (sym at_read ∙ at)) in
    let len = inv.len in
    let some : 0 < length heads = (let s = c.requires.some in omega arith) in
    record {
      alike = alike_set old notes place n n' alike at (record { hash = refl; value = refl; least = refl });
      len = ap length c.link-before.ensures.heads ∙ (length-set heads (bucket_at read.hash (length heads)) (Some place) ∙ len);
      chained = λ states of.
          chained_set states old notes heads c.link-before.new.heads.items place n n' alike of (inv.chained states of) some at refl
          (c.link-before.ensures.before ∙ ap (λ (h : ℕ). bucket_head heads (bucket_at h (length heads))) hash)
          (c.link-before.ensures.heads ∙ ap (λ (h : ℕ). set heads (bucket_at h (length heads)) (Some place)) hash);
    }
