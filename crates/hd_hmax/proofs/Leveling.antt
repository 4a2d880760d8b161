-- The lanes of a group are loaded, and the table of a level is made from those below.
use Rattle.std.proofs.Common.{◌≡◌, ℕ, zero, suc, ◌+◌, ◌*◌, ◌-◌, ◌<◌, ◌≤◌, ◌^◌, ◌==◌, Bool, true, false, cond, not, ◌&&◌, ◌||◌, List, [], ◌∷◌, length, get_or, set, slice_get, Option, Some, None, Contains, inl, inr, refl, sym, ap, ◌∙◌, subst, arith, get_or-set_same, get_or-set_other, length-set}
use Rattle.std.specs.Prelude.{bit_and, ◌/◌, ◌%◌, IfSome}
use Rattle.std.specs.Int.{w64, bit_at, bit_not}
use Rattle.std.specs.List.{All, AllByRecursion, list_all}
use Rattle.std.proofs.lemmas.Bool.{true≢false, cases_lt, eq-eqb, eqb-true, le-leb, and_parts, and_from, or_left, or_right, or_cases}
use mir.Val.{bool_byte}
use Rattle.std.proofs.Math.Nat.{pow-suc}
use Rattle.std.proofs.lemmas.Nat.{div-mul-add, mod-mul-add}
use Rattle.std.proofs.lemmas.Nat.Bits.{bit_at-suc, bit_at-lt, bit_at_lowest}
use Rattle.std.proofs.lemmas.List.Elements.{Contains-get_or}
use Rattle.hd_base.proofs.Tests.{list_all-from_each, list_any-from_contains}
use Rattle.hd_task.specs.declared.state.State.{State}
use Rattle.hd_task.specs.declared.task.Task.{Task}
use Rattle.hd_task.specs.Conditions.{has_atom, literal_holds}
use Rattle.hd_task.specs.Plans.{IsStateOf}
use Rattle.hd_hmax.specs.declared.estimate.EstimateValue.{EstimateValue}
use Rattle.hd_hmax.specs.declared.estimate.EstimateValue.TheVariants.{Cost, Dead}
use Rattle.hd_hmax.specs.Costs.{up_to}
use Rattle.hd_hmax.specs.Rounds.{hmax}
use Rattle.hd_task.specs.Conditions.{literal}
use Rattle.hd_hmax.specs.Rules.{places, place_at, needs, row}
use Rattle.hd_hmax.specs.Working.{final_value}
use Rattle.hd_hmax.specs.Lanes.{bit, is_set, has_all, is_among, table_of, price_at, IsLane, IsSound, IsShut, IsValueOf, AreLevels, AreNeeds}
use Rattle.hd_hmax.proofs.Infinite.{up_to-more}
use Rattle.hd_hmax.proofs.Counts.{each_passes, passing_member}
use Rattle.hd_hmax.proofs.Bits.{bit-and, bit-not, bit-left}
use Rattle.hd_hmax.proofs.Places.{needs-below}
use Rattle.hd_hmax.proofs.Cheapest.{BringRight}
use Rattle.hd_hmax.proofs.Compiling.{brings-below}
use Rattle.hd_hmax.proofs.Starting.{true_is_free}
use Rattle.hd_hmax.proofs.Lanes.{sound_rule, least_level}

-- ---- the lanes of a group

-- an atom's lanes of the last states, so many
pub record AreLanesOf (states : List State) (atom lanes count done : ℕ) : Type 0 where
  pub small : lanes < 2 ^ done
  pub told : (j : ℕ) (s : State) → slice_get states (count - done + j) ≡ Some s → bit lanes j ≡ has_atom s atom

-- a truth value as a number
pub byte_is : (b : Bool) → bool_byte b ≡ cond b 1 0
byte_is true = refl
byte_is false = refl

one_or_none : (b : Bool) → cond b 1 0 < 2
one_or_none true = omega arith
one_or_none false = omega arith

-- a bit is put before the others
bit_put : (lanes j : ℕ) (b : Bool) → bit (2 * lanes + cond b 1 0) (suc j) ≡ bit lanes j
unfolding bit
bit_put lanes j b =
    let turned : 2 * lanes ≡ lanes * 2 = omega arith in
    let half : (2 * lanes + cond b 1 0) / 2 ≡ lanes = ap (λ (x : ℕ). (x + cond b 1 0) / 2) turned ∙ div-mul-add lanes 2 (cond b 1 0) (one_or_none b) in
    ap (λ (x : ℕ). x == 1) (bit_at-suc (2 * lanes + cond b 1 0) j ∙ ap (λ n. bit_at n j) half)

bit_first : (lanes : ℕ) (b : Bool) → bit (2 * lanes + cond b 1 0) 0 ≡ b
unfolding bit
bit_first lanes true =
    let turned : 2 * lanes ≡ lanes * 2 = omega arith in
    ap (λ (x : ℕ). x == 1) (bit_at_lowest (2 * lanes + 1) ∙ (ap (λ (x : ℕ). (x + 1) % 2) turned ∙ mod-mul-add lanes 2 1 (omega arith)))
bit_first lanes false =
    let turned : 2 * lanes ≡ lanes * 2 = omega arith in
    ap (λ (x : ℕ). x == 1) (bit_at_lowest (2 * lanes + 0) ∙ (ap (λ (x : ℕ). (x + 0) % 2) turned ∙ mod-mul-add lanes 2 0 (omega arith)))

told_here : (states : List State) (atom lane : ℕ) (b : Bool) → IfSome (slice_get states lane) (λ s. b ≡ has_atom s atom) → (s : State) → slice_get states lane ≡ Some s → b ≡ has_atom s atom
told_here states atom lane b told s is = subst (λ o. IfSome o (λ s. b ≡ has_atom s atom)) is told

lane_told : (states : List State) (atom lanes count done : ℕ) (b : Bool) → done < count → IfSome (slice_get states (count - 1 - done)) (λ s. b ≡ has_atom s atom)
    → AreLanesOf states atom lanes count done → (j : ℕ) (s : State) → slice_get states (count - (done + 1) + j) ≡ Some s → bit (2 * lanes + cond b 1 0) j ≡ has_atom s atom
lane_told states atom lanes count done b low told f zero s is =
    bit_first lanes b ∙ told_here states atom (count - 1 - done) b told s (ap (slice_get states) (omega (arith, low)) ∙ is)
lane_told states atom lanes count done b low told f (suc j) s is = bit_put lanes j b ∙ f.told j s (ap (slice_get states) (omega (arith, low)) ∙ is)

pub lane_next : (states : List State) (atom lanes count done : ℕ) (b : Bool) → done < count → IfSome (slice_get states (count - 1 - done)) (λ s. b ≡ has_atom s atom)
    → AreLanesOf states atom lanes count done → AreLanesOf states atom (2 * lanes + cond b 1 0) count (done + 1)
lane_next states atom lanes count done b low told f = record {
  small = let less = f.small in let one = one_or_none b in let next : done + 1 ≡ suc done = omega arith in let twice : 2 ^ (done + 1) ≡ 2 ^ done * 2 = ap (λ (n : ℕ). 2 ^ n) next ∙ pow-suc 2 done in omega (arith, less, one, twice);
  told = lane_told states atom lanes count done b low told f;
}

one_of : (x : ℕ) → x < 2 → x ≡ cond (x == 1) 1 0
one_of zero h = refl
one_of (suc zero) h = refl
one_of (suc (suc x)) h = absurd (omega (arith, h))

-- a bit is one or nothing
pub bit_value : (n k : ℕ) → bit_at n k ≡ cond (bit_at n k == 1) 1 0
bit_value n k = one_of (bit_at n k) (bit_at-lt n k)

-- one of eight atoms
pub told_at : (o : Option State) (byte k n : ℕ) → k < 8 → IfSome o (λ s. (i : ℕ) → i < 8 → (bit_at byte i == 1) ≡ has_atom s (n + i)) → IfSome o (λ s. (bit_at byte k == 1) ≡ has_atom s (n + k))
told_at None byte k n h told = tt
told_at (Some s) byte k n h told = told k h

-- states that have so many atoms have fewer too
pub enough_atoms : (states : List State) (n m : ℕ) → m ≤ n → AllByRecursion (λ s. length s.atoms ≡ n) states → AllByRecursion (λ s. m ≤ length s.atoms) states
enough_atoms [] n m low all = tt
enough_atoms (s ∷ states) n m low all = let same = all.0 in (omega (arith, low, same), enough_atoms states n m low all.1)

-- states of a task have all its atoms
pub as_many_atoms : (t : Task) (states : List State) → AllByRecursion (IsStateOf t) states → AllByRecursion (λ s. length s.atoms ≡ length t.atoms) states
as_many_atoms t [] all = tt
as_many_atoms t (s ∷ states) all = (all.0.atoms, as_many_atoms t states all.1)

-- the places of the atoms so far
pub record AreLoaded (states : List State) (n upto : ℕ) (first : List ℕ) : Type 0 where
  pub wide : length first ≡ places n
  pub lanes : (j : ℕ) (s : State) (b : Bool) (i : ℕ) → slice_get states j ≡ Some s → i < upto → is_set first (place_at n b i) j ≡ literal_holds s (literal b i)

module _ (states : List State) (n atom lanes : ℕ) (first : List ℕ) (f : AreLoaded states n atom first) (known : atom ≤ n) (fits : lanes < 2 ^ 64)
    (few : (j : ℕ) (s : State) → slice_get states j ≡ Some s → j < 64) (told : (j : ℕ) (s : State) → slice_get states j ≡ Some s → bit lanes j ≡ has_atom s atom) where
  one : List ℕ
  one = set first atom lanes

  two : List ℕ
  two = set one (n + 1 + atom) (bit_not w64 lanes)

  long : length one ≡ places n
  unfolding one
  long = length-set first atom lanes ∙ f.wide

  old : (b : Bool) (i : ℕ) → i < atom → get_or two (place_at n b i) 0 ≡ get_or first (place_at n b i) 0
  unfolding one two
  old true i h =
      get_or-set_other (set first atom lanes) (n + 1 + atom) i (bit_not w64 lanes) 0 (λ e. omega (arith, e, h)) ∙ get_or-set_other first atom i lanes 0 (λ e. omega (arith, e, h))
  old false i h =
      get_or-set_other (set first atom lanes) (n + 1 + atom) (n + 1 + i) (bit_not w64 lanes) 0 (λ e. omega (arith, e, h)) ∙ get_or-set_other first atom (n + 1 + i) lanes 0 (λ e. omega (arith, e, h, known))

  new : (j : ℕ) (s : State) (b : Bool) → slice_get states j ≡ Some s → is_set two (place_at n b atom) j ≡ literal_holds s (literal b atom)
  unfolding one two
  new j s true there =
      ap (λ x. bit x j)
      (get_or-set_other (set first atom lanes) (n + 1 + atom) atom (bit_not w64 lanes) 0 (λ e. omega (arith, e)) ∙ get_or-set_same first atom lanes 0 (let e = f.wide in omega (arith, e, known)))
      ∙ told j s there
  new j s false there =
      ap (λ x. bit x j) (get_or-set_same (set first atom lanes) (n + 1 + atom) (bit_not w64 lanes) 0 (let e = long in omega (arith, e, known)))
      ∙ (bit-not lanes j fits (few j s there) ∙ ap not (told j s there))

  pub loaded_next : AreLoaded states n (atom + 1) (set (set first atom lanes) (n + 1 + atom) (bit_not w64 lanes))
  unfolding one two
  loaded_next = record {
    wide = length-set (set first atom lanes) (n + 1 + atom) (bit_not w64 lanes) ∙ long;
    lanes = λ j s b i there h.
        elim (cases_lt i atom) [
          | inl before ↦ ap (λ x. bit x j) (old b i before) ∙ f.lanes j s b i there before
          | inr last ↦
              let same : i ≡ atom = omega (arith, h, last) in
              subst (λ x. is_set two (place_at n b x) j ≡ literal_holds s (literal b x)) (sym same) (new j s b there)
        ];
  }

-- ---- rows are within tables

pub needs_within : (t : Task) (rows : List (List ℕ)) → AreNeeds t rows → (q n : ℕ) (ps : List ℕ) → q ≤ length t.actions → ps ≡ row rows q → n ≡ places (length t.atoms) → All (λ p. p < n) ps
needs_within t rows are q n ps known is wide k d h =
    let m = subst (λ xs. Contains xs (get_or ps k d)) (is ∙ are.each q known) (Contains-get_or ps k d h) in
    let low = needs-below t q (get_or ps k d) m in
    omega (arith, low, wide)

pub brings_within : (t : Task) (brings : List (List ℕ)) → BringRight t brings → (q n : ℕ) (ps : List ℕ) → q < length t.actions → ps ≡ row brings q → n ≡ places (length t.atoms) → All (λ p. p < n) ps
brings_within t brings right q n ps known is wide k d h =
    let m = subst (λ xs. Contains xs (get_or ps k d)) is (Contains-get_or ps k d h) in
    let low = brings-below t brings right q (get_or ps k d) known m in
    omega (arith, low, wide)

pub among_if : (ps : List ℕ) (p : ℕ) → Contains ps p → is_among ps p ≡ true
among_if ps p m = list_any-from_contains (λ q. q == p) ps p m (eq-eqb p p refl)

pub if_among : (ps : List ℕ) (p : ℕ) → is_among ps p ≡ true → Contains ps p
if_among ps p e = let k = passing_member (λ q. q == p) ps e in subst (Contains ps) (eqb-true k.member p k.is) k.among

-- ---- actions that cost something, by their numbers, one after the other

-- the actions so far brought about what they do
pub record IsPaid (t : Task) (brings tables : List (List ℕ)) (level : ℕ) (start rest : List ℕ) (upto : ℕ) (room : List ℕ) : Type 0 where
  pub wide : length room ≡ places (length t.atoms)
  pub kept : (p j : ℕ) → j < 64 → is_set start p j ≡ true → is_set room p j ≡ true
  pub shut : (k j : ℕ) → j < 64 → k < upto → 0 < price_at t (get_or rest k 0) → price_at t (get_or rest k 0) ≤ level → IsShut t brings (get_or rest k 0) (table_of tables (level - price_at t (get_or rest k 0))) room j
  pub sound : (s : State) (j : ℕ) → j < 64 → ((c : ℕ) → c < level → IsSound t s c (table_of tables c) j) → IsSound t s level start j → IsSound t s level room j

module _ (t : Task) (brings tables : List (List ℕ)) (right : BringRight t brings) (level : ℕ) (start rest : List ℕ) (i : ℕ) (room : List ℕ) (f : IsPaid t brings tables level start rest i room) where
  abbrev pub q : ℕ
  q = get_or rest i 0

  pub paid_skipped : (0 < price_at t q → price_at t q ≤ level → ⊥) → IsPaid t brings tables level start rest (i + 1) room
  paid_skipped never = record {
    wide = f.wide;
    kept = f.kept;
    shut = λ r j h low some cheap.
        elim (cases_lt r i) [
          | inl before ↦ f.shut r j h before some cheap
          | inr last ↦
              let same : r ≡ i = omega (arith, low, last) in
              absurd (never (subst (λ x. 0 < price_at t (get_or rest x 0)) same some) (subst (λ x. price_at t (get_or rest x 0) ≤ level) same cheap))
        ];
    sound = f.sound;
  }

  module _ (inside : q < length t.actions) (some : 0 < price_at t q) (cheap : price_at t q ≤ level) (new ns ps : List ℕ) (wide : length new ≡ length room) (ns_is : ns ≡ needs t q) (ps_is : ps ≡ row brings q)
      (bits : (p j : ℕ) → j < 64 → is_set new p j ≡ (is_set room p j || (is_among ps p && has_all (table_of tables (level - price_at t q)) j ns))) where
    stays : (p j : ℕ) → j < 64 → is_set room p j ≡ true → is_set new p j ≡ true
    stays p j h e = bits p j h ∙ or_left (is_set room p j) (is_among ps p && has_all (table_of tables (level - price_at t q)) j ns) e

    shut_here : (j : ℕ) → j < 64 → IsShut t brings q (table_of tables (level - price_at t q)) new j
    shut_here j h all p m =
        bits p j h
        ∙ or_right (is_set room p j) (is_among ps p && has_all (table_of tables (level - price_at t q)) j ns)
        (and_from (is_among ps p) (has_all (table_of tables (level - price_at t q)) j ns) (among_if ps p (subst (λ xs. Contains xs p) (sym ps_is) m))
        (ap (has_all (table_of tables (level - price_at t q)) j) ns_is ∙ all))

    sound_here : (s : State) (j : ℕ) → j < 64 → IsSound t s (level - price_at t q) (table_of tables (level - price_at t q)) j → IsSound t s level room j → IsSound t s level new j
    sound_here s j h below there p own e =
        elim (or_cases (is_set room p j) (is_among ps p && has_all (table_of tables (level - price_at t q)) j ns) (sym (bits p j h) ∙ e)) [
          | inl was ↦ there p own was
          | inr by ↦
              let both = and_parts (is_among ps p) (has_all (table_of tables (level - price_at t q)) j ns) by in
              let all : has_all (table_of tables (level - price_at t q)) j (needs t q) ≡ true = ap (has_all (table_of tables (level - price_at t q)) j) (sym ns_is) ∙ both.1 in
              sound_rule t s brings right q level p inside cheap
              (list_all-from_each (λ m. up_to (level - price_at t q) (final_value t s m)) (needs t q)
              (λ m k. below m (needs-below t q m k) (each_passes (λ p. is_set (table_of tables (level - price_at t q)) p j) (needs t q) m all k)))
              (subst (λ xs. Contains xs p) ps_is (if_among ps p both.0))
        ]

    pub paid_next : IsPaid t brings tables level start rest (i + 1) new
    paid_next = record {
      wide = wide ∙ f.wide;
      kept = λ p j h e. stays p j h (f.kept p j h e);
      shut = λ r j h low pays within.
          elim (cases_lt r i) [
            | inl before ↦ λ all p m. stays p j h (f.shut r j h before pays within all p m)
            | inr last ↦
                let same : r ≡ i = omega (arith, low, last) in
                subst (λ x. IsShut t brings (get_or rest x 0) (table_of tables (level - price_at t (get_or rest x 0))) new j) (sym same) (shut_here j h)
          ];
      sound = λ s j h below there. sound_here s j h (below (level - price_at t q) (omega (arith, some, cheap))) (f.sound s j h below there);
    }

-- ---- a level more

-- each place is that of an atom or of a negation
place_split : (n p : ℕ) → p < places n → (b : Bool) × (i : ℕ) × (i ≤ n) × (p ≡ place_at n b i)
place_split n p h =
    elim (cases_lt n p) [
      | inl beyond ↦ (false, p - (n + 1), omega (arith, h, beyond), omega (arith, beyond))
      | inr own ↦ (true, p, own, refl)
    ]

base_sound : (t : Task) (s : State) (first : List ℕ) (j : ℕ) → IsStateOf t s → IsLane t s first j → IsSound t s 0 first j
base_sound t s first j of lane p own e =
    let at = place_split (length t.atoms) p own in
    let true_there = sym (lane at.0 at.1 at.2) ∙ (ap (λ x. is_set first x j) (sym at.3) ∙ e) in
    ap (λ x. up_to 0 (final_value t s x)) at.3
    ∙ (ap (up_to 0) (true_is_free t s at.0 at.1 of at.2 true_there) ∙ le-leb 0 0 (omega arith))

pub levels_none : (t : Task) (brings : List (List ℕ)) (first : List ℕ) (tables : List (List ℕ)) (room : List ℕ) → room ≡ first → AreLevels t brings first 0 tables room
levels_none t brings first tables room same = record {
  grown = λ c p j low. absurd (omega (arith, low));
  shut = λ c q j low. absurd (omega (arith, low));
  sound = λ s j c h of lane low. absurd (omega (arith, low));
  last_grown = λ p j h e. ap (λ x. is_set x p j) same ∙ e;
  last_sound = λ s j h of lane. subst (λ x. IsSound t s 0 x j) (sym same) (base_sound t s first j of lane);
}

module _ (t : Task) (brings : List (List ℕ)) (first : List ℕ) (level : ℕ) (tables : List (List ℕ)) (room new : List ℕ) (f : AreLevels t brings first level tables room) (there : level < length tables)
    (kept : (p j : ℕ) → j < 64 → is_set room p j ≡ true → is_set new p j ≡ true)
    (shut_now : (q j : ℕ) → j < 64 → q < length t.actions → 0 < price_at t q → price_at t q ≤ level → IsShut t brings q (table_of tables (level - price_at t q)) new j)
    (shut_free : (q j : ℕ) → j < 64 → q < length t.actions → price_at t q ≡ 0 → IsShut t brings q new new j)
    (sound_now : (s : State) (j : ℕ) → j < 64 → ((c : ℕ) → c < level → IsSound t s c (table_of tables c) j) → IsSound t s level room j → IsSound t s level new j) where
  below : (c : ℕ) → c < level → table_of (set tables level new) c ≡ table_of tables c
  below c low = get_or-set_other tables level c new [] (λ e. omega (arith, e, low))

  here : table_of (set tables level new) level ≡ new
  here = get_or-set_same tables level new [] there

  sound_last : (s : State) (j : ℕ) → j < 64 → IsStateOf t s → IsLane t s first j → IsSound t s level new j
  sound_last s j h of lane = sound_now s j h (λ c low. f.sound s j c h of lane low) (f.last_sound s j h of lane)

  pub levels_next : AreLevels t brings first (level + 1) (set tables level new) new
  levels_next = record {
    grown = λ c p j low h e.
        elim (cases_lt c level) [
          | inl less ↦ ap (λ x. is_set x p j) (below c less) ∙ f.grown c p j less h e
          | inr last ↦
              let same : c ≡ level = omega (arith, low, last) in
              ap (λ x. is_set (table_of (set tables level new) x) p j) same ∙ (ap (λ x. is_set x p j) here ∙ kept p j h (f.last_grown p j h e))
        ];
    shut = λ c q j low h inside cheap.
        elim (cases_lt c level) [
          | inl less ↦
              subst (λ x. IsShut t brings q x (table_of (set tables level new) c) j) (sym (below (c - price_at t q) (omega (arith, less))))
              (subst (λ x. IsShut t brings q (table_of tables (c - price_at t q)) x j) (sym (below c less)) (f.shut c q j less h inside cheap))
          | inr last ↦
              let same : c ≡ level = omega (arith, low, last) in
              subst (λ x. IsShut t brings q (table_of (set tables level new) (x - price_at t q)) (table_of (set tables level new) x) j) (sym same)
              (elim (cases_lt 0 (price_at t q)) [
                | inl some ↦
                    subst (λ x. IsShut t brings q x (table_of (set tables level new) level) j) (sym (below (level - price_at t q) (omega (arith, some, cheap, same))))
                    (subst (λ x. IsShut t brings q (table_of tables (level - price_at t q)) x j) (sym here) (shut_now q j h inside some (omega (arith, cheap, same))))
                | inr none ↦
                    let free : price_at t q ≡ 0 = omega (arith, none) in
                    let rest : level - price_at t q ≡ level = omega (arith, none) in
                    subst (λ x. IsShut t brings q (table_of (set tables level new) x) (table_of (set tables level new) level) j) (sym rest)
                    (subst (λ x. IsShut t brings q x x j) (sym here) (shut_free q j h inside free))
              ])
        ];
    sound = λ s j c h of lane low.
        elim (cases_lt c level) [
          | inl less ↦ subst (λ x. IsSound t s c x j) (sym (below c less)) (f.sound s j c h of lane less)
          | inr last ↦
              let same : c ≡ level = omega (arith, low, last) in
              subst (λ x. IsSound t s x (table_of (set tables level new) x) j) (sym same) (subst (λ x. IsSound t s level x j) (sym here) (sound_last s j h of lane))
        ];
    last_grown = λ p j h e. kept p j h (f.last_grown p j h e);
    last_sound = λ s j h of lane p own e. up_to-more level (level + 1) (final_value t s p) (omega arith) (sound_last s j h of lane p own e);
  }

-- ---- where nothing more comes

-- where the lanes that have all that an action needs have what it brings about, it is shut
pub stuck_here : (t : Task) (brings : List (List ℕ)) (q : ℕ) (table ns ps : List ℕ) (j : ℕ) → ns ≡ needs t q → ps ≡ row brings q
    → (has_all table j ns ≡ true → has_all table j ps ≡ true) → IsShut t brings q table table j
stuck_here t brings q table ns ps j ns_is ps_is served all p m =
    each_passes (λ p. is_set table p j) ps p (served (ap (has_all table j) ns_is ∙ all)) (subst (λ xs. Contains xs p) (sym ps_is) m)

-- ---- actions that cost nothing, one after the other

-- the actions so far brought about what they do, and nothing new where the table is still the same
pub record IsFreed (t : Task) (brings : List (List ℕ)) (start : List ℕ) (upto : ℕ) (room : List ℕ) (still : Bool) : Type 0 where
  pub wide : length room ≡ places (length t.atoms)
  pub kept : (p j : ℕ) → j < 64 → is_set start p j ≡ true → is_set room p j ≡ true
  pub shut : still ≡ true → (q j : ℕ) → j < 64 → q < upto → price_at t q ≡ 0 → IsShut t brings q room room j
  pub sound : (s : State) (j c : ℕ) → j < 64 → IsSound t s c start j → IsSound t s c room j

module _ (t : Task) (brings : List (List ℕ)) (right : BringRight t brings) (start : List ℕ) (q : ℕ) (room : List ℕ) (still : Bool) (f : IsFreed t brings start q room still) where
  pub freed_same : ((j : ℕ) → j < 64 → price_at t q ≡ 0 → IsShut t brings q room room j) → IsFreed t brings start (q + 1) room still
  freed_same shut = record {
    wide = f.wide;
    kept = f.kept;
    shut = λ is r j h low free.
        elim (cases_lt r q) [
          | inl before ↦ f.shut is r j h before free
          | inr last ↦
              let same : r ≡ q = omega (arith, low, last) in
              subst (λ x. IsShut t brings x room room j) (sym same) (shut j h (subst (λ x. price_at t x ≡ 0) same free))
        ];
    sound = f.sound;
  }

  module _ (inside : q < length t.actions) (free : price_at t q ≡ 0) (lanes : ℕ) (new ns ps : List ℕ) (wide : length new ≡ length room) (ns_is : ns ≡ needs t q) (ps_is : ps ≡ row brings q)
      (only : (j : ℕ) → j < 64 → bit lanes j ≡ true → has_all room j ns ≡ true) (bits : (p j : ℕ) → is_set new p j ≡ (is_set room p j || (is_among ps p && bit lanes j))) where
    free_sound : (s : State) (j c : ℕ) → j < 64 → IsSound t s c room j → IsSound t s c new j
    free_sound s j c h there p own e =
        elim (or_cases (is_set room p j) (is_among ps p && bit lanes j) (sym (bits p j) ∙ e)) [
          | inl was ↦ there p own was
          | inr by ↦
              let both = and_parts (is_among ps p) (bit lanes j) by in
              let all : has_all room j (needs t q) ≡ true = ap (has_all room j) (sym ns_is) ∙ only j h both.1 in
              let rest : c - price_at t q ≡ c = omega (arith, free) in
              sound_rule t s brings right q c p inside (omega (arith, free))
              (subst (λ x. list_all (λ m. up_to x (final_value t s m)) (needs t q) ≡ true) (sym rest)
              (list_all-from_each (λ m. up_to c (final_value t s m)) (needs t q)
              (λ m k. there m (needs-below t q m k) (each_passes (λ p. is_set room p j) (needs t q) m all k))))
              (subst (λ xs. Contains xs p) ps_is (if_among ps p both.0))
        ]

    pub freed_next : IsFreed t brings start (q + 1) new false
    freed_next = record {
      wide = wide ∙ f.wide;
      kept = λ p j h e. bits p j ∙ or_left (is_set room p j) (is_among ps p && bit lanes j) (f.kept p j h e);
      shut = λ no. absurd (true≢false (sym no));
      sound = λ s j c h there. free_sound s j c h (f.sound s j c h there);
    }

-- ---- what is told

left_parts : (o a : Bool) → (o && not (o && a)) ≡ true → (o ≡ true) × (a ≡ false)
left_parts true true e = absurd (true≢false (sym e))
left_parts true false e = (refl, refl)
left_parts false a e = absurd (true≢false (sym e))

value_noted : (t : Task) (s : State) (o a : Bool) (level : ℕ) (value : Option EstimateValue) → (o ≡ true → a ≡ true → hmax t s ≡ Some level) → IsValueOf t s value → IsValueOf t s (cond (o && a) (Some (Cost level)) value)
value_noted t s true true level value f r = sym (f refl refl)
value_noted t s true false level value f r = r
value_noted t s false a level value f r = r

value_dead : (t : Task) (s : State) (o : Bool) (value : Option EstimateValue) → (o ≡ true → hmax t s ≡ None) → IsValueOf t s value → IsValueOf t s (cond o (Some Dead) value)
value_dead t s true value f r = sym (f refl)
value_dead t s false value f r = r

module _ (t : Task) (s : State) (o a j level : ℕ) (value : Option EstimateValue) (h : j < 64) (fits : o < 2 ^ 64) (met : bit a j ≡ up_to level (hmax t s)) (above : bit o j ≡ true → (c : ℕ) → c < level → up_to c (hmax t s) ≡ false) (right : IsValueOf t s value) where
  -- a lane whose goal is met at this level and at none before
  pub looked : IsValueOf t s (cond (bit (bit_and o a) j) (Some (Cost level)) value)
  looked =
      subst (λ b. IsValueOf t s (cond b (Some (Cost level)) value)) (sym (bit-and o a j))
      (value_noted t s (bit o j) (bit a j) level value (λ is all. least_level (hmax t s) level (sym met ∙ all) (above is)) right)

  -- a lane that stays open
  pub still_above : bit (bit_and o (bit_not w64 (bit_and o a))) j ≡ true → (c : ℕ) → c < level + 1 → up_to c (hmax t s) ≡ false
  still_above is c low =
      let parts = left_parts (bit o j) (bit a j) (sym (bit-left o a j fits h) ∙ is) in
      elim (cases_lt c level) [
        | inl less ↦ above parts.0 c less
        | inr more ↦
            let same : c ≡ level = omega (arith, low, more) in
            subst (λ x. up_to x (hmax t s) ≡ false) (sym same) (sym met ∙ parts.1)
      ]

  -- a lane that stays open for ever
  pub looked_dead : (bit (bit_and o (bit_not w64 (bit_and o a))) j ≡ true → hmax t s ≡ None) → IsValueOf t s (cond (bit (bit_and o (bit_not w64 (bit_and o a))) j) (Some Dead) (cond (bit (bit_and o a) j) (Some (Cost level)) value))
  looked_dead dead = value_dead t s (bit (bit_and o (bit_not w64 (bit_and o a))) j) (cond (bit (bit_and o a) j) (Some (Cost level)) value) dead looked
