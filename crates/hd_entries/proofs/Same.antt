-- Equal states.
use Rattle.std.proofs.Common.{◌≡◌, Bool, true, false, List, refl, sym, ap, ap₂, ◌∙◌, subst, ℤ}
use Rattle.std.specs.Bool.{beq}
use Rattle.std.specs.Ordering.{int_eq}
use Rattle.std.specs.Cmp.Lexicographic.{pointwise}
use Rattle.std.specs.Cmp.{booleans_Decides}
use Rattle.std.proofs.lemmas.Bool.{and_parts, and_from}
use Rattle.std.proofs.lemmas.Bool.Decides.{Decides-int_eq}
use Rattle.std.proofs.lemmas.Slice.Eq.{slice_eq-Decides}
use Rattle.hd_task.specs.declared.state.State.{State}
use Rattle.hd_pack.specs.Packing.{same_packing}
use Rattle.hd_pack.specs.Laws.{same_equiv}
use Rattle.hd_entries.specs.Settling.{same_state}

pub same_state-true : (s u : State) → same_state s u ≡ true → s ≡ u
same_state-true s u e =
    let parts = and_parts (pointwise beq s.atoms u.atoms) (pointwise int_eq s.fluents u.fluents) e in
    let atoms : s.atoms ≡ u.atoms = (slice_eq-Decides {E = beq} booleans_Decides s.atoms u.atoms (pointwise beq s.atoms u.atoms) refl).0 parts.0 in
    let fluents : s.fluents ≡ u.fluents = (slice_eq-Decides {E = int_eq} Decides-int_eq s.fluents u.fluents (pointwise int_eq s.fluents u.fluents) refl).0 parts.1 in
    ap₂ (λ (a : List Bool) (f : List ℤ). let x : State = record { atoms = a; fluents = f } in x) atoms fluents

pub same_state-refl : (s : State) → same_state s s ≡ true
same_state-refl s =
    and_from (pointwise beq s.atoms s.atoms) (pointwise int_eq s.fluents s.fluents)
    ((slice_eq-Decides {E = beq} booleans_Decides s.atoms s.atoms (pointwise beq s.atoms s.atoms) refl).1 refl)
    ((slice_eq-Decides {E = int_eq} Decides-int_eq s.fluents s.fluents (pointwise int_eq s.fluents s.fluents) refl).1 refl)

-- packings are the same exactly where the states are, if the same packings are of one state
pub packings_tell : (r : Bool) (s u : State) → r ≡ same_packing s u → (r ≡ true → s ≡ u) → r ≡ same_state s u
packings_tell true s u is equal = sym (subst (λ x. same_state s x ≡ true) (equal refl) (same_state-refl s))
packings_tell false s u is equal =
    elim (same_state s u) as (λ b. same_state s u ≡ b → false ≡ b) [
      | true ↦ λ e. is ∙ (ap (same_packing s) (sym (same_state-true s u e)) ∙ same_equiv.refl s)
      | false ↦ λ e. refl
    ] refl

pub packings_tell_back : (r : Bool) (s u : State) → r ≡ same_packing s u → (r ≡ true → s ≡ u) → r ≡ same_state u s
packings_tell_back true s u is equal = sym (subst (λ x. same_state x s ≡ true) (equal refl) (same_state-refl s))
packings_tell_back false s u is equal =
    elim (same_state u s) as (λ b. same_state u s ≡ b → false ≡ b) [
      | true ↦ λ e. is ∙ (ap (same_packing s) (same_state-true u s e) ∙ same_equiv.refl s)
      | false ↦ λ e. refl
    ] refl
