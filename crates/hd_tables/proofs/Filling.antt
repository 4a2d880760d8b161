-- Pieces that hold a number of items, as chunks do.
use Rattle.std.proofs.Common.{◌≡◌, ℕ, suc, ◌+◌, ◌-◌, ◌*◌, ◌/◌, ◌%◌, ◌<◌, ◌≤◌, List, [], ◌∷◌, ◌++◌, length, get_or, set, sym, ap, ap₂, ◌∙◌, subst, inl, inr, arith, length-append, append_assoc}
use Rattle.std.specs.Prelude.{flat_map}
use Rattle.std.proofs.lemmas.Bool.{cases_lt}
use Rattle.std.proofs.lemmas.List.{append-nil, nil_from_length, get_or_append_left, get_or-append_right, set-append_left, set-append_right}
use Rattle.std.proofs.lemmas.List.Concat.{flat_map-append}
use Rattle.hd_tables.specs.declared.chunks.TheConstants.{CHUNK}
use Rattle.hd_tables.specs.Chunks.{ArePieces}

module _ {C T : Type 0} (of : C → List T) (large : C → Type 0) where
  pub length-items_in : (cs : List C) (n : ℕ) → ArePieces of large n cs → length (flat_map of cs) ≡ n
  length-items_in [] n h = sym h
  length-items_in (c ∷ cs) n h =
      let ih = length-items_in cs (n - CHUNK) h.2 in
      let e = length-append (of c) (flat_map of cs) in
      let l = h.0 in
      omega (arith, e, ih, l)

  -- there are enough chunks for the items
  pub chunks_enough : (cs : List C) (n : ℕ) → ArePieces of large n cs → n ≤ CHUNK * length cs
  chunks_enough [] n h = omega (arith, h)
  chunks_enough (c ∷ cs) n h = let ih = chunks_enough cs (n - CHUNK) h.2 in omega (arith, ih)

  -- the chunk of an item
  pub chunk_within : (cs : List C) (n i : ℕ) → ArePieces of large n cs → i < n → i / CHUNK < length cs
  chunk_within cs n i h lt = let e = chunks_enough cs n h in omega (arith, e, lt)

  -- the place of an item
  pub item_within : (cs : List C) (n i : ℕ) (e : C) → ArePieces of large n cs → i < n
      → (i / CHUNK < length cs) × (i % CHUNK < length (of (get_or cs (i / CHUNK) e))) × (large (get_or cs (i / CHUNK) e))
  item_within [] n i e h lt = absurd (omega (arith, h, lt))
  item_within (c ∷ cs) n i e h lt =
      elim (cases_lt i CHUNK) [
        | inl near ↦
            let p : 0 ≡ i / CHUNK = omega (arith, near) in
            let l = h.0 in (
              omega (arith, near),
              subst (λ (j : ℕ). i % CHUNK < length (of (get_or (c ∷ cs) j e))) p (omega (arith, near, lt, l)),
              subst (λ (j : ℕ). large (get_or (c ∷ cs) j e)) p h.1,
            )
        | inr far ↦
            let p : suc ((i - CHUNK) / CHUNK) ≡ i / CHUNK = omega (arith, far) in
            let q : (i - CHUNK) % CHUNK ≡ i % CHUNK = omega (arith, far) in
            let ih = item_within cs (n - CHUNK) (i - CHUNK) e h.2 (omega (arith, far, lt)) in
            let a = ih.0 in (
              omega (arith, far, a),
              subst (λ (j : ℕ). i % CHUNK < length (of (get_or (c ∷ cs) j e))) p (subst (λ (k : ℕ). k < length (of (get_or cs ((i - CHUNK) / CHUNK) e))) q ih.1),
              subst (λ (j : ℕ). large (get_or (c ∷ cs) j e)) p ih.2,
            )
      ]

  pub item_read : (cs : List C) (n i : ℕ) (d : T) (e : C) → ArePieces of large n cs → i < n
      → get_or (flat_map of cs) i d ≡ get_or (of (get_or cs (i / CHUNK) e)) (i % CHUNK) d
  item_read [] n i d e h lt = absurd (omega (arith, h, lt))
  item_read (c ∷ cs) n i d e h lt =
      elim (cases_lt i CHUNK) [
        | inl near ↦
            let p : i / CHUNK ≡ 0 = omega (arith, near) in
            let q : i % CHUNK ≡ i = omega (arith, near) in
            let l = h.0 in
            get_or_append_left (of c) (flat_map of cs) d i (omega (arith, l, near, lt))
            ∙ sym (ap₂ (λ (j k : ℕ). get_or (of (get_or (c ∷ cs) j e)) k d) p q)
        | inr far ↦
            let p : i / CHUNK ≡ suc ((i - CHUNK) / CHUNK) = omega (arith, far) in
            let q : i % CHUNK ≡ (i - CHUNK) % CHUNK = omega (arith, far) in
            let l = h.0 in
            get_or-append_right (of c) (flat_map of cs) CHUNK i d (omega (arith, l, far, lt)) far
            ∙ (item_read cs (n - CHUNK) (i - CHUNK) d e h.2 (omega (arith, far, lt))
            ∙ sym (ap₂ (λ (j k : ℕ). get_or (of (get_or (c ∷ cs) j e)) k d) p q))
      ]

  -- where the next item goes
  pub next_within : (cs : List C) (n : ℕ) (e : C) → ArePieces of large n cs → n < CHUNK * length cs
      → (n / CHUNK < length cs) × (length (of (get_or cs (n / CHUNK) e)) ≡ n % CHUNK) × (large (get_or cs (n / CHUNK) e))
  next_within [] n e h lt = absurd (omega (arith, h, lt))
  next_within (c ∷ cs) n e h lt =
      elim (cases_lt n CHUNK) [
        | inl near ↦
            let p : 0 ≡ n / CHUNK = omega (arith, near) in
            let l = h.0 in (
              omega (arith, near),
              subst (λ (j : ℕ). length (of (get_or (c ∷ cs) j e)) ≡ n % CHUNK) p (omega (arith, near, l)),
              subst (λ (j : ℕ). large (get_or (c ∷ cs) j e)) p h.1,
            )
        | inr far ↦
            let p : suc ((n - CHUNK) / CHUNK) ≡ n / CHUNK = omega (arith, far) in
            let q : (n - CHUNK) % CHUNK ≡ n % CHUNK = omega (arith, far) in
            let ih = next_within cs (n - CHUNK) e h.2 (omega (arith, far, lt)) in
            let a = ih.0 in (
              omega (arith, far, a),
              subst (λ (j : ℕ). length (of (get_or (c ∷ cs) j e)) ≡ n % CHUNK) p (ih.1 ∙ q),
              subst (λ (j : ℕ). large (get_or (c ∷ cs) j e)) p ih.2,
            )
      ]

  pub items_pushed : (cs : List C) (n : ℕ) (e w : C) (x : T) → ArePieces of large n cs → n < CHUNK * length cs
      → (of w) ≡ (of (get_or cs (n / CHUNK) e)) ++ x ∷ [] → flat_map of (set cs (n / CHUNK) w) ≡ flat_map of cs ++ x ∷ []
  items_pushed [] n e w x h lt is = absurd (omega (arith, h, lt))
  items_pushed (c ∷ cs) n e w x h lt is =
      elim (cases_lt n CHUNK) [
        | inl near ↦
            let p : n / CHUNK ≡ 0 = omega (arith, near) in
            let z : n - CHUNK ≡ 0 = omega (arith, near) in
            let none : flat_map of cs ≡ [] = nil_from_length (flat_map of cs) (length-items_in cs 0 (subst (λ (k : ℕ). ArePieces of large k cs) z h.2)) in
            let whole : (of w) ≡ (of c) ++ x ∷ [] = is ∙ ap (λ (j : ℕ). (of (get_or (c ∷ cs) j e)) ++ x ∷ []) p in
            ap (λ (j : ℕ). flat_map of (set (c ∷ cs) j w)) p
            ∙ (ap (λ (ys : List T). (of w) ++ ys) none
            ∙ (append-nil (of w)
            ∙ (whole ∙ sym (ap (λ (ys : List T). ((of c) ++ ys) ++ x ∷ []) none ∙ ap (λ (ys : List T). ys ++ x ∷ []) (append-nil (of c))))))
        | inr far ↦
            let p : n / CHUNK ≡ suc ((n - CHUNK) / CHUNK) = omega (arith, far) in
            let there : (of w) ≡ (of (get_or cs ((n - CHUNK) / CHUNK) e)) ++ x ∷ [] = is ∙ ap (λ (j : ℕ). (of (get_or (c ∷ cs) j e)) ++ x ∷ []) p in
            ap (λ (j : ℕ). flat_map of (set (c ∷ cs) j w)) p
            ∙ (ap (λ (ys : List T). (of c) ++ ys) (items_pushed cs (n - CHUNK) e w x h.2 (omega (arith, far, lt)) there)
            ∙ sym (append_assoc (of c) (flat_map of cs) (x ∷ [])))
      ]

  pub chunks_pushed : (cs : List C) (n : ℕ) (w : C) → ArePieces of large n cs → n < CHUNK * length cs
      → length (of w) ≡ n % CHUNK + 1 → large w → ArePieces of large (n + 1) (set cs (n / CHUNK) w)
  chunks_pushed [] n w h lt len room = absurd (omega (arith, h, lt))
  chunks_pushed (c ∷ cs) n w h lt len room =
      elim (cases_lt n CHUNK) [
        | inl near ↦
            let p : 0 ≡ n / CHUNK = omega (arith, near) in
            let z : n - CHUNK ≡ n + 1 - CHUNK = omega (arith, near) in
            subst (λ (j : ℕ). ArePieces of large (n + 1) (set (c ∷ cs) j w)) p
            (omega (arith, near, len), room, subst (λ (k : ℕ). ArePieces of large k cs) z h.2)
        | inr far ↦
            let p : suc ((n - CHUNK) / CHUNK) ≡ n / CHUNK = omega (arith, far) in
            let z : n - CHUNK + 1 ≡ n + 1 - CHUNK = omega (arith, far) in
            let l = h.0 in
            subst (λ (j : ℕ). ArePieces of large (n + 1) (set (c ∷ cs) j w)) p (
              omega (arith, far, l),
              h.1,
              subst (λ (k : ℕ). ArePieces of large k (set cs ((n - CHUNK) / CHUNK) w)) z
                  (chunks_pushed cs (n - CHUNK) w h.2 (omega (arith, far, lt)) (omega (arith, far, len)) room),
            )
      ]

  pub items_put : (cs : List C) (n i : ℕ) (e w : C) (x : T) → ArePieces of large n cs → i < n
      → (of w) ≡ set (of (get_or cs (i / CHUNK) e)) (i % CHUNK) x → flat_map of (set cs (i / CHUNK) w) ≡ set (flat_map of cs) i x
  items_put [] n i e w x h lt is = absurd (omega (arith, h, lt))
  items_put (c ∷ cs) n i e w x h lt is =
      elim (cases_lt i CHUNK) [
        | inl near ↦
            let p : i / CHUNK ≡ 0 = omega (arith, near) in
            let q : i % CHUNK ≡ i = omega (arith, near) in
            let l = h.0 in
            ap (λ (j : ℕ). flat_map of (set (c ∷ cs) j w)) p
            ∙ (ap (λ (ys : List T). ys ++ flat_map of cs) (is ∙ ap₂ (λ (j k : ℕ). set (of (get_or (c ∷ cs) j e)) k x) p q)
            ∙ sym (set-append_left (of c) (flat_map of cs) i x (omega (arith, l, near, lt))))
        | inr far ↦
            let p : i / CHUNK ≡ suc ((i - CHUNK) / CHUNK) = omega (arith, far) in
            let q : i % CHUNK ≡ (i - CHUNK) % CHUNK = omega (arith, far) in
            let l = h.0 in
            ap (λ (j : ℕ). flat_map of (set (c ∷ cs) j w)) p
            ∙ (ap (λ (ys : List T). (of c) ++ ys)
            (items_put cs (n - CHUNK) (i - CHUNK) e w x h.2 (omega (arith, far, lt)) (is ∙ ap₂ (λ (j k : ℕ). set (of (get_or (c ∷ cs) j e)) k x) p q))
            ∙ sym (set-append_right (of c) (flat_map of cs) CHUNK i x (omega (arith, l, far, lt)) far))
      ]

  pub chunks_put : (cs : List C) (n i : ℕ) (e w : C) → ArePieces of large n cs → i < n
      → length (of w) ≡ length (of (get_or cs (i / CHUNK) e)) → large w → ArePieces of large n (set cs (i / CHUNK) w)
  chunks_put [] n i e w h lt len room = absurd (omega (arith, h, lt))
  chunks_put (c ∷ cs) n i e w h lt len room =
      elim (cases_lt i CHUNK) [
        | inl near ↦
            let p : 0 ≡ i / CHUNK = omega (arith, near) in
            subst (λ (j : ℕ). ArePieces of large n (set (c ∷ cs) j w)) p
            (len ∙ (sym (ap (λ (j : ℕ). length (of (get_or (c ∷ cs) j e))) p) ∙ h.0), room, h.2)
        | inr far ↦
            let p : suc ((i - CHUNK) / CHUNK) ≡ i / CHUNK = omega (arith, far) in
            subst (λ (j : ℕ). ArePieces of large n (set (c ∷ cs) j w)) p (
              h.0,
              h.1,
              chunks_put cs (n - CHUNK) (i - CHUNK) e w h.2 (omega (arith, far, lt)) (len ∙ sym (ap (λ (j : ℕ). length (of (get_or (c ∷ cs) j e))) p)) room,
            )
      ]

  -- an empty chunk at the end holds nothing
  pub items_more : (cs : List C) (w : C) → (of w) ≡ [] → flat_map of (cs ++ w ∷ []) ≡ flat_map of cs
  items_more cs w none =
      flat_map-append of cs (w ∷ [])
      ∙ (ap (λ (ys : List T). flat_map of cs ++ (ys ++ [])) none ∙ append-nil (flat_map of cs))

  pub chunks_more : (cs : List C) (n : ℕ) (w : C) → (of w) ≡ [] → large w → ArePieces of large n cs → ArePieces of large n (cs ++ w ∷ [])
  chunks_more [] n w none room h = let e = ap length none in (omega (arith, h, e), room, omega (arith, h))
  chunks_more (c ∷ cs) n w none room h = (h.0, h.1, chunks_more cs (n - CHUNK) w none room h.2)
