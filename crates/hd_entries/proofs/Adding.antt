-- What one outcome more adds.
use Rattle.std.proofs.Common.{◌≡◌, suc, ◌+◌, Some, None, List, [], ◌∷◌, ◌++◌, length, refl, ap, ◌∙◌, arith, append-nil}
use Rattle.std.specs.Prelude.{flat_map}
use Rattle.std.proofs.lemmas.List.Concat.{flat_map-append}
use Rattle.hd_node.specs.declared.batch.Outcome.{Outcome}
use Rattle.hd_node.specs.declared.batch.Outcome.TheVariants.{Expanded, Duplicate, Bounded}
use Rattle.hd_entries.specs.Settling.{expanded_node, entry_of}
use Rattle.hd_entries.specs.Growing.{entry_gained, entered_by, kids_at, successor_count}

-- an outcome that is no expansion adds nothing
pub entered_nothing : (o : Outcome) → expanded_node (Some o) ≡ None → entry_gained o ≡ []
entered_nothing (Expanded e) h = absurd (cc)
entered_nothing (Duplicate k by) h = refl
entered_nothing (Bounded k h) e = refl

pub no_kids : (o : Outcome) → expanded_node (Some o) ≡ None → kids_at o ≡ 0
no_kids (Expanded e) h = absurd (cc)
no_kids (Duplicate k by) h = refl
no_kids (Bounded k h) e = refl

pub entered_by-push : (earlier : List Outcome) (o : Outcome) → entered_by (earlier ++ o ∷ []) ≡ entered_by earlier ++ entry_gained o
entered_by-push earlier o = flat_map-append entry_gained earlier (o ∷ []) ∙ ap (λ xs. entered_by earlier ++ xs) (append-nil (entry_gained o))

pub kids_in-push : (earlier : List Outcome) (o : Outcome) → successor_count (earlier ++ o ∷ []) ≡ successor_count earlier + kids_at o
kids_in-push [] o = omega arith
kids_in-push (x ∷ earlier) o = ap (λ n. kids_at x + n) (kids_in-push earlier o) ∙ omega arith

-- as many entries as expansions
pub entered-count : (outcomes : List Outcome) → length (entered_by outcomes) ≡ length (flat_map entry_of outcomes)
entered-count [] = refl
entered-count (Expanded e ∷ outcomes) = ap suc (entered-count outcomes)
entered-count (Duplicate k by ∷ outcomes) = entered-count outcomes
entered-count (Bounded k h ∷ outcomes) = entered-count outcomes
