use Rattle.std.proofs.Common.{◌∙◌, ap, map, not, sym, string_bytes, refl}
use Rattle.hd_names.proofs.NameLists.{any-keys, keys-insert}
use Rattle.hd_names.proofs.names.NumberedNames.add.Goals as goal

pub returns-clause-new : goal.returns-clause-new
returns-clause-new c =
    c.in_ok-insert.ensures.added
    ∙ ap not (any-keys string_bytes c.self.inside.names.keys _ _ _ _ (sym c.self.view_is) (c.in_ok-text.ensures.ok ∙ c.as_str.ensures) refl)

pub returns-clause-names : goal.returns-clause-names
returns-clause-names c =
    let keys = c.self.inside.names.keys in
    ap (λ ks. map string_bytes ks) c.in_ok-insert.ensures.keys ∙ keys-insert string_bytes keys c.in_ok-text.text
    ∙ (rw (c.in_ok-text.ensures.ok, c.as_str.ensures, c.self.view_is) refl)
