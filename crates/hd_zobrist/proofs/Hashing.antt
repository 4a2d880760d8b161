-- A hash that is updated, and the hash from scratch.
use Rattle.std.proofs.Common.{◌≡◌, ℕ, zero, suc, ◌+◌, ◌<◌, Bool, true, false, not, List, [], ◌∷◌, length, get_or, Some, sym, ap, ◌∙◌, arith}
use Rattle.std.specs.Prelude.{ℤ, set, bit_xor, slice_get, if◌then◌else◌}
use Rattle.std.proofs.lemmas.Option.{none-some, same_Some}
use Rattle.std.specs.Int.Bits.{xor_assoc, xor_self, xor_zero_l, xor_zero_r}
use Rattle.std.proofs.lemmas.Nat.{xor_comm}
use Rattle.hd_task.specs.declared.state.State.{State}
use Rattle.hd_zobrist.specs.declared.change.Change.{Change}
use Rattle.hd_zobrist.specs.Hash.{atom_word, fluent_word, atoms_hash, fluents_hash, state_hash, change_word, updated, changed, IsChangeOf, LeadTo}

-- the last of three comes first
xor_swap : (a b c : ℕ) → bit_xor (bit_xor a b) c ≡ bit_xor (bit_xor a c) b
xor_swap a b c = xor_assoc a b c ∙ (ap (bit_xor a) (xor_comm b c) ∙ sym (xor_assoc a c b))

-- what stands twice goes
xor_twice : (a b : ℕ) → bit_xor (bit_xor a b) b ≡ a
xor_twice a b = xor_assoc a b b ∙ (ap (bit_xor a) (xor_self b) ∙ xor_zero_r a)

plus_zero : (n : ℕ) → n ≡ n + 0
plus_zero n = omega arith

zero_plus : (n : ℕ) → 0 + n ≡ n
zero_plus n = omega arith

plus_suc : (n i : ℕ) → n + 1 + i ≡ n + suc i
plus_suc n i = omega arith

-- an atom that was flipped
flip_word : (b : Bool) (w : ℕ) → bit_xor (if b then w else 0) w ≡ (if not b then w else 0)
flip_word true w = xor_self w
flip_word false w = xor_zero_l w

flip_atoms : (n : ℕ) (bs : List Bool) (i : ℕ) → i < length bs
    → atoms_hash n (set bs i (not (get_or bs i false))) ≡ bit_xor (atoms_hash n bs) (atom_word (n + i))
flip_atoms n [] i lt = omega (arith, lt)
flip_atoms n (b ∷ bs) zero lt =
    ap (λ w. bit_xor w (atoms_hash (n + 1) bs)) (sym (flip_word b (atom_word n)))
    ∙ xor_swap (if b then atom_word n else 0) (atom_word n) (atoms_hash (n + 1) bs)
    ∙ ap (λ m. bit_xor (atoms_hash n (b ∷ bs)) (atom_word m)) (plus_zero n)
flip_atoms n (b ∷ bs) (suc i) lt =
    ap (bit_xor (if b then atom_word n else 0)) (flip_atoms (n + 1) bs i (omega (arith, lt)))
    ∙ sym (xor_assoc (if b then atom_word n else 0) (atoms_hash (n + 1) bs) (atom_word (n + 1 + i)))
    ∙ ap (λ m. bit_xor (atoms_hash n (b ∷ bs)) (atom_word m)) (plus_suc n i)

-- a fluent's value that was replaced
flip_fluent : (old new rest : ℕ) → bit_xor new rest ≡ bit_xor (bit_xor old rest) (bit_xor old new)
flip_fluent old new rest =
    ap (λ w. bit_xor w rest) (sym (xor_zero_l new) ∙ ap (λ w. bit_xor w new) (sym (xor_self old)) ∙ xor_assoc old old new)
    ∙ xor_swap old (bit_xor old new) rest

flip_fluents : (n : ℕ) (vs : List ℤ) (j : ℕ) (before after : ℤ) → slice_get vs j ≡ Some before
    → fluents_hash n (set vs j after) ≡ bit_xor (fluents_hash n vs) (bit_xor (fluent_word (n + j) before) (fluent_word (n + j) after))
flip_fluents n [] j before after e = absurd (none-some before e)
flip_fluents n (v ∷ vs) zero before after e =
    flip_fluent (fluent_word n v) (fluent_word n after) (fluents_hash (n + 1) vs)
    ∙ ap (λ x. bit_xor (bit_xor (fluent_word n v) (fluents_hash (n + 1) vs)) (bit_xor (fluent_word n x) (fluent_word n after))) (same_Some v before e)
    ∙ ap (λ m. bit_xor (fluents_hash n (v ∷ vs)) (bit_xor (fluent_word m before) (fluent_word m after))) (plus_zero n)
flip_fluents n (v ∷ vs) (suc j) before after e =
    ap (bit_xor (fluent_word n v)) (flip_fluents (n + 1) vs j before after e)
    ∙ sym (xor_assoc (fluent_word n v) (fluents_hash (n + 1) vs) (bit_xor (fluent_word (n + 1 + j) before) (fluent_word (n + 1 + j) after)))
    ∙ ap (λ m. bit_xor (fluents_hash n (v ∷ vs)) (bit_xor (fluent_word m before) (fluent_word m after))) (plus_suc n j)

-- one change
pub changed-hash : (s : State) (c : Change) → IsChangeOf s c → state_hash (changed s c) ≡ bit_xor (state_hash s) (change_word c)
unfolding state_hash
changed-hash s (Change.Atom i) is =
    ap (λ w. bit_xor w (fluents_hash 0 s.fluents)) (flip_atoms 0 s.atoms i is ∙ ap (λ m. bit_xor (atoms_hash 0 s.atoms) (atom_word m)) (zero_plus i))
    ∙ xor_swap (atoms_hash 0 s.atoms) (atom_word i) (fluents_hash 0 s.fluents)
changed-hash s (Change.Fluent j before after) is =
    ap (bit_xor (atoms_hash 0 s.atoms)) (flip_fluents 0 s.fluents j before after is
    ∙ ap (λ m. bit_xor (fluents_hash 0 s.fluents) (bit_xor (fluent_word m before) (fluent_word m after))) (zero_plus j))
    ∙ sym (xor_assoc (atoms_hash 0 s.atoms) (fluents_hash 0 s.fluents) (bit_xor (fluent_word j before) (fluent_word j after)))

-- all changes
pub updated-hash : (from to : State) (changes : List Change) → LeadTo from changes to → updated (state_hash from) changes ≡ state_hash to
updated-hash from to [] same = ap state_hash same
updated-hash from to (c ∷ cs) lead =
    ap (λ h. updated h cs) (sym (changed-hash from c lead.0)) ∙ updated-hash (changed from c) to cs lead.1

-- a hash that is that of a state, after the changes from this state on
pub hash_after : (from to : State) (changes : List Change) (old new : ℕ) → new ≡ updated old changes → old ≡ state_hash from → LeadTo from changes to → new ≡ state_hash to
hash_after from to changes old new is was lead = is ∙ (ap (λ h. updated h changes) was ∙ updated-hash from to changes lead)

pub fluents_next : (n hash w total : ℕ) (v : ℤ) (vs : List ℤ) → w ≡ fluent_word n v → bit_xor hash (fluents_hash n (v ∷ vs)) ≡ total
    → bit_xor (bit_xor hash w) (fluents_hash (n + 1) vs) ≡ total
fluents_next n hash w total v vs is all =
    xor_assoc hash w (fluents_hash (n + 1) vs) ∙ (ap (λ x. bit_xor hash (bit_xor x (fluents_hash (n + 1) vs))) is ∙ all)
