-- Logs that begin with others.
use Rattle.std.proofs.Common.{List, [], ◌∷◌, ◌++◌, sym, ap, ◌∙◌, append_assoc, append-nil, Option}
use Rattle.std.specs.List.{AllByRecursion}
use Rattle.hd_desk.specs.declared.view.Seen.{Seen}
use Rattle.hd_desk.specs.Views.{GoesOnFrom}
use Rattle.hd_base.specs.Lists.{BeginsWith}

module _ {I : Type 0} where
  pub begins_itself : (log : List I) → BeginsWith log log
  begins_itself log = ([], sym (append-nil log))

  pub begins_along : (a b c : List I) → BeginsWith a b → BeginsWith b c → BeginsWith a c
  begins_along a b c p q = (q.0 ++ p.0, p.1 ∙ ap (λ l. l ++ p.0) q.1 ∙ append_assoc c q.0 p.0)

module _ {T I : Type 0} where
  pub goes_along : (task : Option T) (a b : List I) (s : Seen T I) → BeginsWith a b → GoesOnFrom task b s → GoesOnFrom task a s
  goes_along task a b s p q = (q.0, begins_along a b s.log p q.1)

  pub goes_each : (task : Option T) (a b : List I) (told : List (Seen T I)) → BeginsWith a b → AllByRecursion (GoesOnFrom task b) told → AllByRecursion (GoesOnFrom task a) told
  goes_each task a b [] p q = tt
  goes_each task a b (s ∷ told) p q = (goes_along task a b s p q.0, goes_each task a b told p q.1)
