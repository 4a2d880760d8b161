-- Deletes and then adds, written one after another, are (s minus Del) union Add.
use Rattle.std.proofs.Common.{◌≡◌, ℕ, ◌<◌, Bool, true, false, cond, not, ◌&&◌, ◌||◌, ◌==◌, List, [], ◌∷◌, length, get_or, set, fold, refl, ap, ◌∙◌, arith, length-set}
use Rattle.std.proofs.lemmas.List.FromFn.{fill_by_all}
use Rattle.hd_base.proofs.Lists.{length-fold, get_or-set}
use Rattle.hd_task.specs.declared.state.State.{State}
use Rattle.hd_task.specs.declared.action.Action.{Action}
use Rattle.hd_task.specs.declared.task.Task.{Task}
use Rattle.hd_task.specs.Effects.{names_atom, atom_after, atoms_after}

-- the bits with this one at a place
abbrev pub put : Bool → List Bool → ℕ → List Bool
put v bits i = set bits i v

twice : (v a b x : Bool) → cond b v (cond a v x) ≡ cond (a || b) v x
twice v true true x = refl
twice v true false x = refl
twice v false b x = refl

-- a bit after writes at several places
put_each_at : (v : Bool) (places : List ℕ) (bits : List Bool) (i : ℕ) → i < length bits → get_or (fold (put v) bits places) i false ≡ cond (names_atom places i) v (get_or bits i false)
put_each_at v [] bits i h = refl
put_each_at v (j ∷ places) bits i h =
    let within : i < length (put v bits j) = omega (arith, length-set bits j v) in
    put_each_at v places (put v bits j) i within
    ∙ ap (λ x. cond (names_atom places i) v x) (get_or-set bits j v i false h)
    ∙ twice v (j == i) (names_atom places i) (get_or bits i false)

as_set : (add delete x : Bool) → cond add true (cond delete false x) ≡ (add || (x && not delete))
as_set true delete x = refl
as_set false true true = refl
as_set false true false = refl
as_set false false true = refl
as_set false false false = refl

pub written_atoms : (t : Task) (s : State) (a : Action) (bits : List Bool) → length s.atoms ≡ length t.atoms → bits ≡ fold (put true) (fold (put false) s.atoms a.deletes) a.adds → bits ≡ atoms_after t s a
written_atoms t s a bits width is =
    let deleted = fold (put false) s.atoms a.deletes in
    let n = length-fold (put false) (λ (bits : List Bool) j. length-set bits j false) a.deletes s.atoms in
    let m = length-fold (put true) (λ (bits : List Bool) j. length-set bits j true) a.adds deleted in
    fill_by_all (atom_after s a) bits (length t.atoms) false (ap length is ∙ (m ∙ (n ∙ width)))
    (λ k h.
    let first : k < length s.atoms = omega (arith, width) in
    let second : k < length deleted = omega (arith, n) in
    ap (λ xs. get_or xs k false) is
    ∙ (put_each_at true a.adds deleted k second
    ∙ (ap (λ x. cond (names_atom a.adds k) true x) (put_each_at false a.deletes s.atoms k first)
    ∙ as_set (names_atom a.adds k) (names_atom a.deletes k) (get_or s.atoms k false))))
