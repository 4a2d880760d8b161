-- Logs that begin with others.
use Rattle.std.proofs.Common.{◌≡◌, List, [], ◌++◌, sym, ap, ◌∙◌, append_assoc, append-nil}
use Rattle.hd_base.specs.Lists.{BeginsWith}

module _ {I : Type 0} where
  pub begins_itself : (log : List I) → BeginsWith log log
  begins_itself log = ([], sym (append-nil log))

  pub begins_same : (a b : List I) → a ≡ b → BeginsWith a b
  begins_same a b e = ([], e ∙ sym (append-nil b))

  pub begins_along : (a b c : List I) → BeginsWith a b → BeginsWith b c → BeginsWith a c
  begins_along a b c p q = (q.0 ++ p.0, p.1 ∙ (ap (λ l. l ++ p.0) q.1 ∙ append_assoc c q.0 p.0))
