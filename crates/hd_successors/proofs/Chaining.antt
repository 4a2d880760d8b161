-- Chains of the actions that watch an atom first.
use Rattle.std.proofs.Common.{◌≡◌, ℕ, zero, suc, ◌+◌, ◌-◌, ◌*◌, ◌<◌, ◌≤◌, ◌==◌, ◌&&◌, ◌||◌, nat_le, nat_lt, Bool, true, false, cond, List, [], ◌∷◌, ◌++◌, length, get_or, replicate, slice_get, inl, inr, refl, sym, ap, ap₂, ◌∙◌, subst, arith, true≢false}
use Rattle.std.specs.Prelude.{Option, Some, None}
use Rattle.std.proofs.lemmas.Bool.{cases_eq, cases_lt, cases_order, eq-eqb, ne_eqb, eqb-true, le-leb, lt-leb, lt-ltb, le-ltb, and_left, and_right}
use Rattle.std.proofs.lemmas.Option.{slice_get_within, slice_get_past}
use Rattle.std.proofs.lemmas.List.{get_or_append_left, length-set}
use Rattle.std.proofs.Math.Seq.{get_or-append_seam}
use Rattle.hd_base.proofs.Lists.{get_or-set, get_or-replicate_same}
use Rattle.hd_successors.specs.declared.watching.WatchedAtoms.{WatchedAtoms}
use Rattle.hd_successors.specs.declared.watching.WatchedAtoms.TheVariants.{Always, Atoms}
use Rattle.hd_successors.specs.Seeing.{watches_one, is_always, is_in_byte}
use Rattle.hd_successors.proofs.Rows.{and_true, none_below, none_beyond}
use Rattle.hd_successors.specs.Chains.{is_watcher, last_watcher, AreChains, BeginsNone, SkipsNone, last_with, last_in}

-- ---- the last watcher

-- at the end of a chain step
last_step : (ws : List WatchedAtoms) (a n : ℕ) (b : Bool) → is_watcher ws a n ≡ b → last_watcher ws a (suc n) ≡ cond b (suc n) (last_watcher ws a n)
last_step ws a n b e = ap (λ c. cond c (suc n) (last_watcher ws a n)) e

pub last_below : (ws : List WatchedAtoms) (a n : ℕ) → last_watcher ws a n ≤ n
last_below ws a zero = omega arith
last_below ws a (suc n) =
    elim (is_watcher ws a n) as (λ b. cond b (suc n) (last_watcher ws a n) ≤ suc n) [
      | true ↦ omega arith
      | false ↦ let h = last_below ws a n in omega (arith, h)
    ]

-- a watcher below a number stands below the last one's end
pub below_last : (ws : List WatchedAtoms) (a n i : ℕ) → is_watcher ws a i ≡ true → i < n → i < last_watcher ws a n
below_last ws a zero i is lt = absurd (omega (arith, lt))
below_last ws a (suc n) i is lt =
    elim (is_watcher ws a n) as (λ b. is_watcher ws a n ≡ b → i < cond b (suc n) (last_watcher ws a n)) [
      | true ↦ λ _. lt
      | false ↦ λ e.
          elim (cases_eq i n) [
            | inl same ↦ absurd (true≢false (sym is ∙ (ap (is_watcher ws a) same ∙ e)))
            | inr other ↦ below_last ws a n i is (omega (arith, lt, other))
          ]
    ] refl

-- the end of a chain, once more
pub last_again : (ws : List WatchedAtoms) (a n : ℕ) → last_watcher ws a (last_watcher ws a n) ≡ last_watcher ws a n
last_again ws a zero = refl
last_again ws a (suc n) =
    elim (is_watcher ws a n) as (λ b. is_watcher ws a n ≡ b → last_watcher ws a (cond b (suc n) (last_watcher ws a n)) ≡ cond b (suc n) (last_watcher ws a n)) [
      | true ↦ λ e. last_step ws a n true e
      | false ↦ λ e. last_again ws a n
    ] refl

-- where the end of a chain is not 0, a watcher stands below it
pub watcher_at_last : (ws : List WatchedAtoms) (a n : ℕ) → suc n ≡ last_watcher ws a (suc n) → is_watcher ws a n ≡ true
watcher_at_last ws a n e =
    elim (is_watcher ws a n) as (λ b. is_watcher ws a n ≡ b → b ≡ true) [
      | true ↦ λ _. refl
      | false ↦ λ f. absurd (let k = last_below ws a n in let same : suc n ≡ last_watcher ws a n = e ∙ last_step ws a n false f in omega (arith, k, same))
    ] refl

-- what stands beyond the actions watches nothing
past_none : (p : ℕ → Bool) (o : Option WatchedAtoms) → watches_one p o ≡ true → (o ≡ None → ⊥)
past_none p o is none = true≢false (sym is ∙ ap (watches_one p) none)

pub watcher_within : (ws : List WatchedAtoms) (a i : ℕ) → is_watcher ws a i ≡ true → i < length ws
watcher_within ws a i is =
    elim (slice_get ws i) as (λ o. slice_get ws i ≡ o → i < length ws) [
      | None ↦ λ e. absurd (past_none (λ b. b == a) (slice_get ws i) is e)
      | Some w ↦ λ e. slice_get_within ws i w e
    ] refl

-- ---- one action more

-- the chains of no action
pub no_chains : (ws : List WatchedAtoms) (last before : List ℕ) (n : ℕ) → last ≡ replicate n 0 → before ≡ [] → AreChains ws last before 0
no_chains ws last before n el eb = record {
  each_action = ap length eb;
  lasts = λ a lt. ap (λ xs. get_or xs a 0) el ∙ get_or-replicate_same n a 0;
  befores = λ a k lt none is. absurd (omega (arith, none));
}

length-last_with : (last : List ℕ) (w : WatchedAtoms) (k : ℕ) → length (last_with last w k) ≡ length last
length-last_with last Always k = refl
length-last_with last (Atoms i j) k = length-set last i (k + 1)

lasts_more : (ws : List WatchedAtoms) (last : List ℕ) (k a : ℕ) (w : WatchedAtoms) → a < length last → slice_get ws k ≡ Some w → get_or last a 0 ≡ last_watcher ws a k
    → get_or (last_with last w k) a 0 ≡ last_watcher ws a (suc k)
lasts_more ws last k a Always lt is e = e ∙ sym (last_step ws a k false (ap (watches_one (λ b. b == a)) is))
lasts_more ws last k a (Atoms i j) lt is e =
    let next : k + 1 ≡ suc k = omega arith in
    get_or-set last i (k + 1) a 0 lt
    ∙ (ap₂ (λ n m. cond (i == a) n m) next e ∙ sym (last_step ws a k (i == a) (ap (watches_one (λ b. b == a)) is)))

last_in-is : (last : List ℕ) (w : WatchedAtoms) (a : ℕ) → watches_one (λ b. b == a) (Some w) ≡ true → last_in last w ≡ get_or last a 0
last_in-is last Always a is = absurd (true≢false (sym is))
last_in-is last (Atoms i j) a is = ap (λ k. get_or last k 0) (eqb-true i a is)

befores_more : (ws : List WatchedAtoms) (last before : List ℕ) (k a n : ℕ) (w : WatchedAtoms) → AreChains ws last before k → slice_get ws k ≡ Some w → a < length last → n < suc k → is_watcher ws a n ≡ true
    → get_or (before ++ last_in last w ∷ []) n 0 ≡ last_watcher ws a n
befores_more ws last before k a n w chains is lt low watches =
    elim (cases_lt n k) [
      | inl below ↦
          get_or_append_left before (last_in last w ∷ []) 0 n (let e = chains.each_action in omega (arith, below, e))
          ∙ chains.befores a n lt below watches
      | inr above ↦
          let same : n ≡ k = omega (arith, low, above) in
          let end : k ≡ length before = sym chains.each_action in
          let watched : watches_one (λ b. b == a) (Some w) ≡ true = sym (ap (watches_one (λ b. b == a)) is) ∙ (sym (ap (is_watcher ws a) same) ∙ watches) in
          ap (λ m. get_or (before ++ last_in last w ∷ []) m 0) (same ∙ end)
          ∙ (get_or-append_seam before (last_in last w) [] 0
          ∙ (last_in-is last w a watched ∙ (chains.lasts a lt ∙ sym (ap (last_watcher ws a) same))))
    ]

length-push : {A : Type 0} (xs : List A) (x : A) (n : ℕ) → length xs ≡ n → length (xs ++ x ∷ []) ≡ suc n
length-push [] x n e = ap suc e
length-push (y ∷ xs) x n e = let k = length-push xs x (length xs) refl in omega (arith, k, e)

pub more_chains : (ws : List WatchedAtoms) (last before : List ℕ) (k n : ℕ) (w : WatchedAtoms) → AreChains ws last before k → slice_get ws k ≡ Some w → n ≡ suc k
    → AreChains ws (last_with last w k) (before ++ last_in last w ∷ []) n
more_chains ws last before k n w chains is next =
    let size = length-last_with last w k in
    subst (AreChains ws (last_with last w k) (before ++ last_in last w ∷ [])) (sym next) (record {
      each_action = length-push before (last_in last w) k chains.each_action;
      lasts = λ a lt. let within : a < length last = omega (arith, lt, size) in lasts_more ws last k a w within is (chains.lasts a within);
      befores = λ a m lt low watches. befores_more ws last before k a m w chains is (omega (arith, lt, size)) low watches;
    })

-- ---- marks along a chain

-- the marks of those actions of a chain's part from `left` on that pass a test, and others
abbrev pub marked_from : List WatchedAtoms → ℕ → ℕ → (ℕ → Bool) → Bool → ℕ → Bool
marked_from ws a left seen other i = ((is_watcher ws a i && nat_le left i) && seen i) || other

-- at the beginning of a chain nothing is passed
pub none_passed : (ws : List WatchedAtoms) (a i : ℕ) (seen : ℕ → Bool) (other : Bool) → other ≡ marked_from ws a (last_watcher ws a (length ws)) seen other i
none_passed ws a i seen other =
    elim (is_watcher ws a i) as (λ b. is_watcher ws a i ≡ b → other ≡ (((b && nat_le (last_watcher ws a (length ws)) i) && seen i) || other)) [
      | true ↦ λ e. sym (ap (λ b. (b && seen i) || other) (lt-leb (last_watcher ws a (length ws)) i (below_last ws a (length ws) i e (watcher_within ws a i e))))
      | false ↦ λ e. refl
    ] refl

-- one action more of a chain
pub one_passed : (ws : List WatchedAtoms) (a n i : ℕ) (seen : ℕ → Bool) (other : Bool) → suc n ≡ last_watcher ws a (suc n)
    → (((i == n) && seen n) || marked_from ws a (suc n) seen other i) ≡ marked_from ws a (last_watcher ws a n) seen other i
one_passed ws a n i seen other end =
    let here = watcher_at_last ws a n end in
    let low = last_below ws a n in
    elim (cases_order i n) [
      | inl same ↦
          let passed : nat_le (last_watcher ws a n) i ≡ true = le-leb (last_watcher ws a n) i (omega (arith, low, same)) in
          let later : nat_le (suc n) i ≡ false = lt-leb (suc n) i (omega (arith, same)) in
          let watches : is_watcher ws a i ≡ true = ap (is_watcher ws a) same ∙ here in
          ap₂ (λ x y. (x && seen n) || (((y && nat_le (suc n) i) && seen i) || other)) (eq-eqb i n same) watches
          ∙ (ap₂ (λ x y. x || ((y && seen i) || other)) (ap seen (sym same)) later
          ∙ sym (ap₂ (λ x y. ((x && y) && seen i) || other) watches passed))
      | inr (inl before) ↦
          let later : nat_le (suc n) i ≡ false = lt-leb (suc n) i (omega (arith, before)) in
          let differs : (i == n) ≡ false = ne_eqb i n (λ e. omega (arith, before, e)) in
          elim (is_watcher ws a i) as (λ b. is_watcher ws a i ≡ b → (((i == n) && seen n) || (((b && nat_le (suc n) i) && seen i) || other)) ≡ (((b && nat_le (last_watcher ws a n) i) && seen i) || other)) [
            | true ↦ λ e.
                let missed : nat_le (last_watcher ws a n) i ≡ false = lt-leb (last_watcher ws a n) i (below_last ws a n i e before) in
                ap₂ (λ x y. (x && seen n) || ((y && seen i) || other)) differs later ∙ sym (ap (λ y. (y && seen i) || other) missed)
            | false ↦ λ e. ap (λ x. (x && seen n) || other) differs
          ] refl
      | inr (inr after) ↦
          let later : nat_le (suc n) i ≡ true = le-leb (suc n) i (omega (arith, after)) in
          let passed : nat_le (last_watcher ws a n) i ≡ true = le-leb (last_watcher ws a n) i (omega (arith, low, after)) in
          let differs : (i == n) ≡ false = ne_eqb i n (λ e. omega (arith, after, e)) in
          ap₂ (λ x y. (x && seen n) || (((is_watcher ws a i && y) && seen i) || other)) differs later
          ∙ sym (ap (λ y. ((is_watcher ws a i && y) && seen i) || other) passed)
    ]

-- where a chain begins
pub record Begins (ws : List WatchedAtoms) (a e : ℕ) : Type 0 where
  pub end : e ≡ last_watcher ws a e
  pub within : e ≤ length ws
  pub none : (i : ℕ) (seen : ℕ → Bool) (other : Bool) → other ≡ marked_from ws a e seen other i

pub chain_begins : (ws : List WatchedAtoms) (last before xs : List ℕ) (a e : ℕ) → AreChains ws last before (length ws) → xs ≡ last → a < length xs → e ≡ get_or xs a 0 → Begins ws a e
chain_begins ws last before xs a e chains same lt is =
    let begins : e ≡ last_watcher ws a (length ws) =
    is ∙ (ap (λ ys. get_or ys a 0) same ∙ chains.lasts a (let size = ap length same in omega (arith, lt, size))) in
    let low = last_below ws a (length ws) in
    record {
      end = begins ∙ (sym (last_again ws a (length ws)) ∙ ap (last_watcher ws a) (sym begins));
      within = omega (arith, begins, low);
      none = λ i seen other. none_passed ws a i seen other ∙ ap (λ n. marked_from ws a n seen other i) (sym begins);
    }

-- what a step along a chain leads to
pub record Continues (ws : List WatchedAtoms) (a left e : ℕ) : Type 0 where
  pub end : e ≡ last_watcher ws a e
  pub smaller : e < left
  pub one : (i : ℕ) (seen : ℕ → Bool) (other : Bool) → (((i == (left - 1)) && seen (left - 1)) || marked_from ws a left seen other i) ≡ marked_from ws a e seen other i

pub chain_continues : (ws : List WatchedAtoms) (last before xs ys : List ℕ) (a left e : ℕ) → AreChains ws last before (length ws) → xs ≡ last → ys ≡ before → a < length xs → 0 < left → left ≡ last_watcher ws a left → left ≤ length ws
    → get_or ys (left - 1) 0 ≡ e → Continues ws a left e
chain_continues ws last before xs ys a zero e chains ex ey lt some end within is = absurd (omega (arith, some))
chain_continues ws last before xs ys a (suc n) e chains ex ey lt some end within is =
    let own : suc n - 1 ≡ n = omega arith in
    let leads : e ≡ last_watcher ws a n =
    sym is ∙ (ap₂ (λ zs k. get_or zs k 0) ey own ∙ chains.befores a n (let size = ap length ex in omega (arith, lt, size)) (omega (arith, within)) (watcher_at_last ws a n end)) in
    let low = last_below ws a n in
    record {
      end = leads ∙ (sym (last_again ws a n) ∙ ap (last_watcher ws a) (sym leads));
      smaller = omega (arith, leads, low);
      one = λ i seen other.
          ap (λ k. ((i == k) && seen k) || marked_from ws a (suc n) seen other i) own
          ∙ (one_passed ws a n i seen other end ∙ ap (λ k. marked_from ws a k seen other i) (sym leads));
    }

-- ---- the actions that watch nothing

nothing_more : (x y : Bool) → (x || (y && false)) ≡ x
nothing_more true y = refl
nothing_more false true = refl
nothing_more false false = refl

pub always_more : (ws : List WatchedAtoms) (k n i : ℕ) (w : WatchedAtoms) → slice_get ws k ≡ Some w → n ≡ suc k
    → (((i == k) && is_always (Some w)) || (is_always (slice_get ws i) && nat_lt i k)) ≡ (is_always (slice_get ws i) && nat_lt i n)
always_more ws k n i w is next =
    elim (cases_order i k) [
      | inl same ↦
          let own : is_always (slice_get ws i) ≡ is_always (Some w) = ap is_always (ap (slice_get ws) same ∙ is) in
          ap₂ (λ x y. (x && is_always (Some w)) || (is_always (slice_get ws i) && y)) (eq-eqb i k same) (le-ltb i k (omega (arith, same)))
          ∙ (nothing_more (is_always (Some w)) (is_always (slice_get ws i))
          ∙ (sym own ∙ (sym (and_true (is_always (slice_get ws i))) ∙ ap (λ b. is_always (slice_get ws i) && b) (sym (lt-ltb i n (omega (arith, same, next)))))))
      | inr (inl before) ↦
          ap₂ (λ x y. (x && is_always (Some w)) || (is_always (slice_get ws i) && y)) (ne_eqb i k (λ e. omega (arith, before, e))) (lt-ltb i k before)
          ∙ ap (λ b. is_always (slice_get ws i) && b) (sym (lt-ltb i n (omega (arith, before, next))))
      | inr (inr after) ↦
          ap₂ (λ x y. (x && is_always (Some w)) || (is_always (slice_get ws i) && y)) (ne_eqb i k (λ e. omega (arith, after, e))) (le-ltb i k (omega (arith, after)))
          ∙ ap (λ b. is_always (slice_get ws i) && b) (sym (le-ltb i n (omega (arith, after, next))))
    ]

pub always_within : (ws : List WatchedAtoms) (n i : ℕ) → length ws ≤ n → (is_always (slice_get ws i) && nat_lt i n) ≡ is_always (slice_get ws i)
always_within ws n i le =
    elim (cases_lt i (length ws)) [
      | inl lt ↦ ap (λ b. is_always (slice_get ws i) && b) (lt-ltb i n (omega (arith, lt, le))) ∙ and_true (is_always (slice_get ws i))
      | inr far ↦
          let none : is_always (slice_get ws i) ≡ false = ap is_always (slice_get_past ws i far) in
          and_left (is_always (slice_get ws i)) (nat_lt i n) none ∙ sym none
    ]

-- ---- atoms without a chain

-- an atom that an action watches first has a chain
chain_of_watcher : (ws : List WatchedAtoms) (last before : List ℕ) (a i : ℕ) → AreChains ws last before (length ws) → a < length last → is_watcher ws a i ≡ true → 0 < get_or last a 0
chain_of_watcher ws last before a i chains lt is =
    let begins = chains.lasts a lt in
    let below = below_last ws a (length ws) i is (watcher_within ws a i is) in
    omega (arith, begins, below)

-- where no chain begins at a byte's atoms, no action watches one of them first
pub none_in_byte : (ws : List WatchedAtoms) (last before : List ℕ) (byte base i : ℕ) → AreChains ws last before (length ws) → byte < 256 → BeginsNone last base
    → watches_one (λ a. nat_lt a (length last) && is_in_byte byte base a) (slice_get ws i) ≡ false
none_in_byte ws last before byte base i chains fits none =
    elim (slice_get ws i) as (λ o. slice_get ws i ≡ o → watches_one (λ a. nat_lt a (length last) && is_in_byte byte base a) o ≡ false) [
      | None ↦ λ e. refl
      | Some Always ↦ λ e. refl
      | Some (Atoms a j) ↦ λ e.
          elim (cases_lt a (length last)) [
            | inr past ↦ and_left (nat_lt a (length last)) (is_in_byte byte base a) (le-ltb a (length last) past)
            | inl lt ↦
                elim (cases_lt a base) [
                  | inl low ↦ and_right (nat_lt a (length last)) (is_in_byte byte base a) (none_below byte base a low)
                  | inr high ↦
                      elim (cases_lt a (base + 8)) [
                        | inr far ↦ and_right (nat_lt a (length last)) (is_in_byte byte base a) (none_beyond byte base a fits far)
                        | inl near ↦
                            let watches : is_watcher ws a i ≡ true = ap (watches_one (λ b. b == a)) e ∙ eq-eqb a a refl in
                            let some = chain_of_watcher ws last before a i chains lt watches in
                            let zero = none a high near in
                            absurd (omega (arith, some, zero))
                      ]
                ]
          ]
    ] refl

-- eight atoms more
pub skips_more : (last : List ℕ) (headed : List Bool) (b : Bool) → SkipsNone last headed → (b ≡ false → BeginsNone last (8 * length headed)) → SkipsNone last (headed ++ b ∷ [])
skips_more last headed b skips more place within is =
    elim (cases_lt place (length headed)) [
      | inl lt ↦ skips place lt (sym (get_or_append_left headed (b ∷ []) false place lt) ∙ is)
      | inr le ↦
          let size = length-push headed b (length headed) refl in
          let same : place ≡ length headed = omega (arith, le, within, size) in
          let here : b ≡ false = sym (ap (λ k. get_or (headed ++ b ∷ []) k false) same ∙ get_or-append_seam headed b [] false) ∙ is in
          subst (λ k. BeginsNone last (8 * k)) (sym same) (more here)
    ]
