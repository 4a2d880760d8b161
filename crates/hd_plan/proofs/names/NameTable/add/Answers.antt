use Rattle.std.proofs.Common.{List, ℕ, [], ◌∷◌, ◌++◌, ◌∙◌, ap, ap₂, map}
use Rattle.hd_base.specs.Names.{is_named}
use Rattle.hd_plan.proofs.Finding.{keys-insert}
use Rattle.hd_plan.proofs.names.NameTable.add.Goals as goal

pub returns : goal.returns
returns c =
    ap (λ ks. map (λ k. k.now) ks) c.in_ok-insert.ensures.keys
    ∙ (keys-insert (λ k. k.now) c.self.inside.names.keys c.as_str.result (ap₂ is_named c.self.view_is c.as_str.ensures ∙ c.requires)
    ∙ ap₂ (λ (names : List (List ℕ)) (n : List ℕ). names ++ n ∷ []) c.self.view_is c.as_str.ensures)
