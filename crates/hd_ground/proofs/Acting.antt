-- Actions that are made of instances one after the other.
use Rattle.std.proofs.Common.{◌≡◌, ℕ, zero, suc, ◌+◌, ◌<◌, List, [], ◌∷◌, ◌++◌, take, length, Contains, sym, subst, arith}
use Rattle.std.specs.Prelude.{slice_index_or}
use Rattle.std.specs.List.{AllZip}
use Rattle.std.proofs.lemmas.Option.{slice_get_within}
use Rattle.std.proofs.lemmas.List.Elements.{Contains-get_or}
use Rattle.hd_lifted.specs.declared.schema.Ground.{Ground}
use Rattle.hd_lifted.specs.declared.task.LiftedTask.{LiftedTask}
use Rattle.hd_lifted.specs.declared.instance.Instance.{Instance}
use Rattle.hd_task.specs.declared.action.Action.{Action}
use Rattle.hd_lifted.specs.Kept.{IsKept, keep}
use Rattle.hd_lifted.specs.Numbering.{NumbersInstances}
use Rattle.hd_grounding.specs.Grounding.{IsActionOf}

kept_there : (t : LiftedTask) (i : Instance) → IsKept t i → i.schema < length t.schemas
kept_there t i (keep j is statics equalities reached) = slice_get_within t.schemas j.schema is.schema is.is_schema

pub schema_there : (t : LiftedTask) (is : List Instance) (k : ℕ) (i : Instance) → NumbersInstances t is → k < length is → i ≡ slice_index_or is k i
    → i.schema < length t.schemas
schema_there t is k i numbers lt e = kept_there t i ((numbers.exactly i).1 (subst (Contains is) (sym e) (Contains-get_or is k i lt)))

zip_first : {X Y : Type 0} (R : X → Y → Type 0) (xs : List X) (k : ℕ) (d : X) (ys : List Y) (y : Y) → k < length xs → AllZip R (take k xs) ys
    → R (slice_index_or xs k d) y → AllZip R (take (suc k) xs) (ys ++ y ∷ [])
zip_first R [] k d ys y lt all r = absurd (omega (arith, lt))
zip_first R (x ∷ xs) zero d [] y lt all r = (r, tt)
zip_first R (x ∷ xs) zero d (z ∷ ys) y lt all r = absurd all
zip_first R (x ∷ xs) (suc k) d [] y lt all r = absurd all
zip_first R (x ∷ xs) (suc k) d (z ∷ ys) y lt all r = (all.0, zip_first R xs k d ys y (omega (arith, lt)) all.1 r)

pub are_more : (t : LiftedTask) (atoms fluents : List Ground) (is : List Instance) (k n : ℕ) (i : Instance) (bs : List Action) (b : Action)
    → n ≡ k + 1 → k < length is → i ≡ slice_index_or is k i → AllZip (IsActionOf t atoms fluents) (take k is) bs → IsActionOf t atoms fluents i b
    → AllZip (IsActionOf t atoms fluents) (take n is) (bs ++ b ∷ [])
are_more t atoms fluents is k n i bs b e lt at all made =
    let one : suc k ≡ n = omega (arith, e) in
    subst (λ m. AllZip (IsActionOf t atoms fluents) (take m is) (bs ++ b ∷ [])) one
    (zip_first (IsActionOf t atoms fluents) is k i bs b lt all (subst (λ j. IsActionOf t atoms fluents j b) at made))
