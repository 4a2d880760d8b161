-- Where the terms of an atom lie. (Our own.)
use Rattle.std.specs.Prelude.{List, [], ◌∷◌}
use Rattle.hd_terms.specs.declared.terms.TermStore.{TermStore}
use Rattle.hd_terms.specs.declared.terms.TermStore.TheVariants as held
use Rattle.hd_terms.specs.declared.tree.Term.{Term}

-- the terms that are held
abbrev pub terms_held : TermStore → List Term
terms_held held.None = []
terms_held (held.One item) = item.value ∷ []
terms_held (held.Two items) = items.value
terms_held (held.Many items) = items.value.items
