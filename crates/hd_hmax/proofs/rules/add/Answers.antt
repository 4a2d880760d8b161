use Rattle.std.proofs.Common.{◌≡◌, ◌++◌, ◌∷◌, [], List, ℕ, get_or, set, ap, ◌∙◌}
use Rattle.std.proofs.lemmas.List.{get_or_read, set-set}
use Rattle.hd_hmax.proofs.rules.add.Goals as goal

pub returns : goal.returns
returns c =
    let xs = c.args.lists.now.items in
    let taken : c.replace.result ≡ get_or xs c.args.place [] = c.replace.ensures.value ∙ get_or_read xs _ _ c.requires c.index_mut.ensures.value [] in
    set-set xs c.args.place _ _
    ∙ ap (λ (row : List ℕ). set xs c.args.place row)
    (c.from_vec.ensures ∙ (c.in_ok-push.ensures.items ∙ ap (λ (ys : List ℕ). ys ++ c.args.rule ∷ []) (c.into_vec-list.ensures ∙ taken)))
