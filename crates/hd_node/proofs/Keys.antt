-- When two packed states with their hashes are the same.
use Rattle.std.proofs.Common.{◌≡◌, ℕ, Bool, sym, ap, ap₂, ◌∙◌}
use Rattle.std.specs.Prelude.{nat_eq, ◌&&◌}
use Rattle.std.proofs.lemmas.Bool.{eq-eqb, ne_eqb}
use Rattle.hd_task.specs.declared.state.State.{State}
use Rattle.hd_zobrist.specs.Hash.{state_hash}
use Rattle.hd_pack.specs.Packing.{same_packing}
use Rattle.hd_node.specs.Hashed.{same_hashed}

pub same_when : (r : Bool) (h k : ℕ) (a b s t : State) → a ≡ s → b ≡ t → h ≡ state_hash a → k ≡ state_hash b → h ≡ k → r ≡ same_packing a b → r ≡ same_hashed s t
unfolding same_hashed
same_when r h k a b s t ea eb eh ek same is =
    let hashes : state_hash s ≡ state_hash t = sym (eh ∙ ap state_hash ea) ∙ (same ∙ (ek ∙ ap state_hash eb)) in
    is ∙ (ap₂ same_packing ea eb ∙ sym (ap (λ (x : Bool). x && same_packing s t) (eq-eqb (state_hash s) (state_hash t) hashes)))

pub different_when : (h k : ℕ) (a b s t : State) → a ≡ s → b ≡ t → h ≡ state_hash a → k ≡ state_hash b → (h ≡ k → ⊥) → nat_eq h k ≡ same_hashed s t
unfolding same_hashed
different_when h k a b s t ea eb eh ek differ =
    let other : state_hash s ≡ state_hash t → ⊥ = λ e. differ (eh ∙ (ap state_hash ea ∙ (e ∙ sym (ek ∙ ap state_hash eb)))) in
    ne_eqb h k differ ∙ sym (ap (λ (x : Bool). x && same_packing s t) (ne_eqb (state_hash s) (state_hash t) other))
