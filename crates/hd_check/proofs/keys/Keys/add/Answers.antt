use Rattle.std.proofs.Common.{◌∙◌, ap, map, not, sym, refl}
use Rattle.hd_names.proofs.NameLists.{any-keys, keys-insert}
use Rattle.hd_check.proofs.keys.Keys.add.Goals as goal

pub returns-clause-new : goal.returns-clause-new
returns-clause-new c =
    c.in_ok-insert.ensures.added
    ∙ ap not (any-keys (λ k. k.items) c.self.inside.keys.keys _ _ _ _ (sym c.self.view_is) c.in_ok-key.ensures refl)

pub returns-clause-keys : goal.returns-clause-keys
returns-clause-keys c =
    let keys = c.self.inside.keys.keys in
    ap (λ ks. map (λ k. k.items) ks) c.in_ok-insert.ensures.keys ∙ keys-insert (λ k. k.items) keys c.in_ok-key.key
    ∙ (rw (c.in_ok-key.ensures, c.self.view_is) refl)
