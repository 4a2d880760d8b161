-- The bits of atoms of which some are listed.
use Rattle.std.proofs.Common.{◌≡◌, ℕ, ◌+◌, ◌<◌, ◌||◌, Bool, true, false, List, [], ◌∷◌, ◌++◌, map, set, replicate, take, length, get_or, Contains, Some, None, refl, sym, ap, ◌∙◌, subst, true≢false, arith}
use Rattle.std.specs.Prelude.{nat_eq}
use Rattle.std.specs.Cmp.{both_ways}
use Rattle.std.proofs.lemmas.Bool.{eqb-true, eq-eqb}
use Rattle.std.proofs.lemmas.List.{take_more, map-append, length-map, length-set, get_or-map, ext_get_or, get_or-set_same, get_or-set_other}
use Rattle.std.proofs.lemmas.List.Elements.{Contains-get_or}
use Rattle.std.proofs.lemmas.List.Folds.{list_any_more}
use Rattle.std.proofs.lemmas.Option.{same_Some, slice_get-get_or, slice_get_within, get_or_from_slice_get}
use Rattle.hd_base.proofs.Truth.{or-false}
use Rattle.hd_lifted.specs.declared.schema.Ground.{Ground}
use Rattle.hd_lifted.specs.States.{same, is_listed}
use Rattle.hd_lifted.proofs.Sound.{same-true, same-refl}
use Rattle.hd_grounding.specs.Images.{number_of}
use Rattle.hd_grounding.proofs.Numbers.{number_of-place, number_of-none}
use Rattle.hd_images.specs.Order.{IsRising}
use Rattle.hd_images.proofs.Gathered.{number_of-rising}

-- nothing is listed at first
pub none_listed : (forms : List Ground) → replicate (length forms) false ≡ map (is_listed []) forms
none_listed [] = refl
none_listed (g ∷ forms) = ap (λ bs. false ∷ bs) (none_listed forms)

-- one more atom that is listed
listed-more : (listed : List Ground) (i : ℕ) (a g : Ground) → i < length listed → a ≡ get_or listed i a
    → is_listed (take (i + 1) listed) g ≡ (is_listed (take i listed) g || same a g)
listed-more listed i a g lt at =
    list_any_more (λ (b : Ground). same b g) listed i a lt ∙ ap (λ (b : Ground). is_listed (take i listed) g || same b g) (sym at)

true-or : (b : Bool) → (b || true) ≡ true
true-or true = refl
true-or false = refl

-- an atom that has a number sets the bit of that number
pub bits-put : (forms listed : List Ground) (i n : ℕ) (a : Ground) → IsRising forms → i < length listed → a ≡ get_or listed i a → number_of forms a ≡ Some n
    → set (map (is_listed (take i listed)) forms) n true ≡ map (is_listed (take (i + 1) listed)) forms
bits-put forms listed i n a rising lt at is =
    let old : Ground → Bool = is_listed (take i listed) in
    let new : Ground → Bool = is_listed (take (i + 1) listed) in
    let long : length (map old forms) ≡ length forms = length-map forms old in
    let longer : length (map new forms) ≡ length forms = length-map forms new in
    let whole : length (set (map old forms) n true) ≡ length (map old forms) = length-set (map old forms) n true in
    let place = number_of-place forms a n is in
    let inside = slice_get_within forms n a place in
    ext_get_or false (set (map old forms) n true) (map new forms) (omega arith)
    (λ j h.
    let there : j < length forms = omega arith in
    let g = get_or forms j a in
    let now : get_or (map new forms) j false ≡ (old g || same a g) = get_or-map new forms j a false there ∙ listed-more listed i a g lt at in
    elim (nat_eq j n) as (λ b. nat_eq j n ≡ b → get_or (set (map old forms) n true) j false ≡ get_or (map new forms) j false) [
      | true ↦ λ t.
          let here : j ≡ n = eqb-true j n t in
          let one : get_or forms j a ≡ a = ap (λ (m : ℕ). get_or forms m a) here ∙ get_or_from_slice_get forms n a a place in
          (ap (λ (m : ℕ). get_or (set (map old forms) n true) m false) here ∙ get_or-set_same (map old forms) n true false (omega arith))
          ∙ (sym (true-or (old g)) ∙ (ap (λ (b : Bool). old g || b) (sym (ap (same a) one ∙ same-refl a)) ∙ sym now))
      | false ↦ λ f.
          let other : same a g ≡ false =
          both_ways (same a g) false
          (λ t. let e : a ≡ g = same-true a g t in
          absurd (true≢false (sym (ap (λ (m : ℕ). nat_eq j m) (same_Some n j (sym is ∙ (ap (number_of forms) e ∙ number_of-rising forms g j rising (slice_get-get_or forms j a there)))) ∙ eq-eqb j j refl) ∙ f)))
          (λ u. absurd (true≢false (sym u))) in
          get_or-set_other (map old forms) n j true false (λ e. true≢false (sym (eq-eqb j n e) ∙ f))
          ∙ (get_or-map old forms j a false there ∙ (sym (or-false (old g)) ∙ (ap (λ (b : Bool). old g || b) (sym other) ∙ sym now)))
    ] refl)

-- one that has none sets none
pub bits-none : (forms listed : List Ground) (i : ℕ) (a : Ground) → i < length listed → a ≡ get_or listed i a → number_of forms a ≡ None
    → map (is_listed (take i listed)) forms ≡ map (is_listed (take (i + 1) listed)) forms
bits-none forms listed i a lt at none =
    let old : Ground → Bool = is_listed (take i listed) in
    let new : Ground → Bool = is_listed (take (i + 1) listed) in
    let long : length (map old forms) ≡ length forms = length-map forms old in
    let longer : length (map new forms) ≡ length forms = length-map forms new in
    ext_get_or false (map old forms) (map new forms) (omega arith)
    (λ j h.
    let there : j < length forms = omega arith in
    let g = get_or forms j a in
    let other : same a g ≡ false =
    both_ways (same a g) false
    (λ t. absurd (number_of-none forms a none (subst (Contains forms) (sym (same-true a g t)) (Contains-get_or forms j a there))))
    (λ u. absurd (true≢false (sym u))) in
    get_or-map old forms j a false there
    ∙ (sym (or-false (old g)) ∙ (ap (λ (b : Bool). old g || b) (sym other) ∙ (sym (listed-more listed i a g lt at) ∙ sym (get_or-map new forms j a false there)))))

-- one more element of a `map`
pub map_more : {X Y : Type 0} (f : X → Y) (xs : List X) (i : ℕ) (x : X) → i < length xs → x ≡ get_or xs i x
    → map f (take (i + 1) xs) ≡ map f (take i xs) ++ f x ∷ []
map_more f xs i x lt at =
    ap (map f) (take_more xs i x lt ∙ ap (λ y. take i xs ++ y ∷ []) (sym at)) ∙ map-append f (take i xs) (x ∷ [])
