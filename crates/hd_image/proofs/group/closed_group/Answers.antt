use Rattle.std.proofs.Common.{ℕ, List, [], ◌∷◌, ◌++◌, length, ap, ◌∙◌}
use Rattle.std.specs.List.{flat_map}
use Rattle.byteorder.specs.Endian.{little_bytes}
use Rattle.hd_image.specs.Image.{entry_bytes, counted}
use Rattle.hd_image.proofs.group.closed_group.Goals as goal

pub returns-clause-bytes : goal.returns-clause-bytes
unfolding counted
returns-clause-bytes c =
    let kids = c.args.kids.now in
    c.in_ok-push.ensures.items
    ∙ ap (λ (xs : List ℕ). xs ++ 0 ∷ [])
    (c.in_ok-push_entries.ensures.bytes
    ∙ ap (λ (xs : List ℕ). xs ++ flat_map (entry_bytes c.args.version) kids)
    (c.in_ok-push_number.ensures ∙ ap (λ (xs : List ℕ). xs ++ little_bytes 4 (length kids)) c.in_ok-bytes.ensures.items))
