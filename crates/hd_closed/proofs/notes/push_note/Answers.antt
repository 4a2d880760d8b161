use Rattle.std.proofs.Common.{◌≡◌, ℕ, ◌∷◌, [], ◌++◌, None, Some, length, set, refl, ap, ◌∙◌, rules, arith}
use Rattle.std.proofs.lemmas.Grind.{common_steps}
use Rattle.hd_closed.specs.declared.notes.Note.{Note}
use Rattle.hd_closed.specs.Notes.{note_of, bucket_at}
use Rattle.hd_closed.proofs.Chains.{alike_push, table_push}
use Rattle.hd_closed.proofs.notes.push_note.Goals as goal

pub returns-clause-notes : goal.returns-clause-notes
returns-clause-notes c =
    let notes = c.args.notes.now.items in
    let n : Note = record { hash = c.args.hash; value = c.none.result; least = c.none-2.result; before = c.link-before.result } in
    let items : c.push.new.self.items ≡ notes ++ n ∷ [] = first_of (search rules, grind (arith, common_steps)) in
    alike_push notes c.push.new.self.items (note_of c.args.hash None) n items (record { hash = refl; value = c.none.ensures; least = c.none-2.ensures })

pub returns-clause-table : goal.returns-clause-table
returns-clause-table c = λ states s t is.
    let notes = c.args.notes.now.items in
    let heads = c.args.heads.now.items in
    let n : Note = record { hash = c.args.hash; value = c.none.result; least = c.none-2.result; before = c.link-before.result } in
    let items : c.push.new.self.items ≡ notes ++ n ∷ [] = first_of (search rules, grind (arith, common_steps)) in
    let many : c.len.result ≡ length notes = omega arith in
    table_push states s notes c.push.new.self.items heads c.link-before.new.heads.items c.args.hash n t is c.requires.bucket items refl c.link-before.ensures.before
    (c.link-before.ensures.heads ∙ ap (λ (i : ℕ). set heads (bucket_at c.args.hash (length heads)) (Some i)) many)
