-- Recipes are followed, in the table of a level.
use Rattle.std.proofs.Common.{◌≡◌, ℕ, ◌+◌, ◌-◌, ◌<◌, ◌≤◌, ◌==◌, Bool, true, false, ◌&&◌, ◌||◌, List, [], ◌∷◌, map, length, get_or, set, take, Contains, inl, inr, refl, sym, ap, ◌∙◌, subst, arith}
use Rattle.std.proofs.Props.{props}
use Rattle.std.specs.Prelude.{bit_or, bit_and}
use Rattle.std.specs.List.{All, list_all}
use Rattle.std.proofs.lemmas.Bool.{cases_lt, and_parts, and_from, or_left, or_right, or_cases}
use Rattle.std.proofs.Math.Logic.{∥∥₁_elim}
use Rattle.std.proofs.lemmas.List.{get_or_past, length-map}
use Rattle.std.proofs.lemmas.List.Elements.{Contains-get_or}
use Rattle.std.proofs.lemmas.List.Folds.{list_any_more}
use Rattle.hd_base.proofs.Members.{Contains-first, Contains-later, Contains-nil}
use Rattle.hd_base.proofs.Tests.{list_all-from_each, list_any-from_contains}
use Rattle.hd_hmax.specs.declared.batches.Recipe.{Recipe}
use Rattle.hd_task.specs.declared.state.State.{State}
use Rattle.hd_task.specs.declared.task.Task.{Task}
use Rattle.hd_hmax.specs.Costs.{up_to}
use Rattle.hd_hmax.specs.Prices.{price}
use Rattle.hd_hmax.specs.Rules.{places, needs, brings_of}
use Rattle.hd_hmax.specs.Working.{final_value}
use Rattle.hd_hmax.specs.Lanes.{bit, is_set, has_all, is_among, table_of, price_at, IsShut, IsSound, AreNeeds}
use Rattle.hd_hmax.specs.Batches.{asks_of, gives_of, is_given, batch, NeedsBelow, GivesBelow, AreBatches, AreFollowed}
use Rattle.hd_hmax.proofs.Counts.{each_passes, passing_member}
use Rattle.hd_hmax.proofs.Cheapest.{BringRight}
use Rattle.hd_hmax.proofs.Compiling.{brings-below}
use Rattle.hd_hmax.proofs.Lanes.{sound_rule}
use Rattle.hd_hmax.proofs.Leveling.{among_if, if_among}
use Rattle.hd_hmax.proofs.Places.{needs-below, price_listed}
use Rattle.hd_hmax.proofs.Bits.{bit-and}
use Rattle.hd_hmax.proofs.Giving.{given}

-- ---- one recipe

all_of_four : (a b c d : Bool) → (((a && b) && c) && d) ≡ (a && (b && (c && (d && true))))
all_of_four true true true true = refl
all_of_four true true true false = refl
all_of_four true true false d = refl
all_of_four true false c d = refl
all_of_four false b c d = refl

pub ready_is : (table : List ℕ) (r : Recipe) (j : ℕ)
    → bit (bit_and (bit_and (bit_and (get_or table r.first 0) (get_or table r.second 0)) (get_or table r.third 0)) (get_or table r.fourth 0)) j ≡ has_all table j (asks_of r)
unfolding asks_of
ready_is table r j =
    let a = get_or table r.first 0 in
    let b = get_or table r.second 0 in
    let c = get_or table r.third 0 in
    let d = get_or table r.fourth 0 in
    bit-and (bit_and (bit_and a b) c) d j
    ∙ (ap (λ x. x && bit d j) (bit-and (bit_and a b) c j ∙ ap (λ x. x && bit c j) (bit-and a b j))
    ∙ all_of_four (bit a j) (bit b j) (bit c j) (bit d j))

both_given : (s g o t l : Bool) → (((s || g) || (o && l)) || (t && l)) ≡ (s || (g || ((o || (t || false)) && l)))
both_given true g o t l = refl
both_given false true o t l = refl
both_given false false true t true = refl
both_given false false true true false = refl
both_given false false true false false = refl
both_given false false false true true = refl
both_given false false false true false = refl
both_given false false false false l = refl

-- one recipe more
module _ (start table old : List ℕ) (recipes : List Recipe) (i lanes : ℕ) (d : Recipe) where
  abbrev pub recipe : Recipe
  recipe = get_or recipes i d

  pub followed_next : i < length recipes → recipe.one < length table
      → recipe.other < length (set table recipe.one (bit_or (get_or table recipe.one 0) lanes))
      → ((j : ℕ) → bit lanes j ≡ has_all old j (asks_of recipe))
      → ((p j : ℕ) → j < 64 → is_set table p j ≡ (is_set start p j || is_given (take i recipes) old p j))
      → (p j : ℕ) → j < 64 → is_set (set (set table recipe.one (bit_or (get_or table recipe.one 0) lanes)) recipe.other (bit_or (get_or (set table recipe.one (bit_or (get_or table recipe.one 0) lanes)) recipe.other 0) lanes)) p j
      ≡ (is_set start p j || is_given (take (i + 1) recipes) old p j)
  unfolding gives_of
  followed_next lt one other ready f p j h =
      let r = get_or recipes i d in
      let next = set table r.one (bit_or (get_or table r.one 0) lanes) in
      given next r.other lanes other p j
      ∙ (ap (λ x. x || (r.other == p && bit lanes j)) (given table r.one lanes one p j ∙ ap (λ x. x || (r.one == p && bit lanes j)) (f p j h))
      ∙ (both_given (is_set start p j) (is_given (take i recipes) old p j) (r.one == p) (r.other == p) (bit lanes j)
      ∙ ap (λ x. is_set start p j || x)
      (ap (λ x. is_given (take i recipes) old p j || (is_among (gives_of r) p && x)) (ready j)
      ∙ sym (list_any_more (λ r. is_among (gives_of r) p && has_all old j (asks_of r)) recipes i d lt))))

-- ---- one batch after the other

-- the batches below a price are followed
pub record IsFollowed (t : Task) (batches : List (List Recipe)) (tables : List (List ℕ)) (level : ℕ) (start : List ℕ) (upto : ℕ) (room : List ℕ) : Type 0 where
  pub wide : length room ≡ places (length t.atoms)
  pub kept : (p j : ℕ) → j < 64 → is_set start p j ≡ true → is_set room p j ≡ true
  pub followed : AreFollowed batches tables level upto room
  pub sound : (s : State) (j : ℕ) → j < 64 → ((c : ℕ) → c < level → IsSound t s c (table_of tables c) j) → IsSound t s level start j → IsSound t s level room j

pub IsFollowed-prop : (t : Task) (batches : List (List Recipe)) (tables : List (List ℕ)) (level : ℕ) (start : List ℕ) (upto : ℕ) (room : List ℕ) → IsProp (IsFollowed t batches tables level start upto room)
IsFollowed-prop t batches tables level start upto room = hlevel props

-- none so far: no price is below 1
pub followed_none : (t : Task) (batches : List (List Recipe)) (tables : List (List ℕ)) (level : ℕ) (start : List ℕ) → length start ≡ places (length t.atoms) → IsFollowed t batches tables level start 1 start
followed_none t batches tables level start wide = record {
  wide = wide;
  kept = λ p j h e. e;
  followed = λ c r p j h some low. absurd (omega (arith, some, low));
  sound = λ s j h below there. there;
}

module _ (t : Task) (asks brings tables : List (List ℕ)) (batches : List (List Recipe)) (rest : List ℕ) (right : BringRight t brings) (are_needs : AreNeeds t asks)
    (are : AreBatches asks brings (map (price t) t.actions) (length t.actions) batches rest) where
  -- the places of recipes are those of the task
  needs_of_recipe : (c : ℕ) (r : Recipe) → Contains (batch batches c) r → (p : ℕ) → Contains (asks_of r) p → p < places (length t.atoms)
  needs_of_recipe c r m p k =
      let by = are.only c r m in
      let inside = by.1 in
      needs-below t by.0 p (subst (λ xs. Contains xs p) (are_needs.each by.0 (omega (arith, inside))) (by.3.only p k))

  pub recipe_needs : (c n : ℕ) (rs : List Recipe) → rs ≡ batch batches c → n ≡ places (length t.atoms) → All (NeedsBelow n) rs
  unfolding asks_of
  recipe_needs c n rs is wide k d h =
      let r = get_or rs k d in
      let m = subst (λ xs. Contains xs r) is (Contains-get_or rs k d h) in
      let low = needs_of_recipe c r m in
      let one = low r.first (Contains-first r.first (r.second ∷ r.third ∷ r.fourth ∷ [])) in
      let two = low r.second (Contains-later r.first (r.second ∷ r.third ∷ r.fourth ∷ []) r.second (Contains-first r.second (r.third ∷ r.fourth ∷ []))) in
      let three =
      low r.third
      (Contains-later r.first (r.second ∷ r.third ∷ r.fourth ∷ []) r.third (Contains-later r.second (r.third ∷ r.fourth ∷ []) r.third (Contains-first r.third (r.fourth ∷ []))))
      in
      let four =
      low r.fourth
      (Contains-later r.first (r.second ∷ r.third ∷ r.fourth ∷ []) r.fourth
      (Contains-later r.second (r.third ∷ r.fourth ∷ []) r.fourth (Contains-later r.third (r.fourth ∷ []) r.fourth (Contains-first r.fourth []))))
      in
      (omega (arith, one, wide), omega (arith, two, wide), omega (arith, three, wide), omega (arith, four, wide))

  gives_of_recipe : (c : ℕ) (r : Recipe) → Contains (batch batches c) r → (p : ℕ) → Contains (gives_of r) p → p < places (length t.atoms)
  gives_of_recipe c r m p k =
      let by = are.only c r m in
      brings-below t brings right by.0 p by.1 (by.3.gives p k)

  pub recipe_gives : (c n : ℕ) (rs : List Recipe) → rs ≡ batch batches c → n ≡ places (length t.atoms) → All (GivesBelow n) rs
  unfolding gives_of
  recipe_gives c n rs is wide k d h =
      let r = get_or rs k d in
      let m = subst (λ xs. Contains xs r) is (Contains-get_or rs k d h) in
      let low = gives_of_recipe c r m in
      let one = low r.one (Contains-first r.one (r.other ∷ [])) in
      let two = low r.other (Contains-later r.one (r.other ∷ []) r.other (Contains-first r.other [])) in
      (omega (arith, one, wide), omega (arith, two, wide))

  module _ (level : ℕ) (start : List ℕ) (c : ℕ) (room : List ℕ) (some : 0 < c) (cheap : c ≤ level) (f : IsFollowed t batches tables level start c room) where
    -- no recipe has this price
    pub batch_skipped : length batches ≤ c → IsFollowed t batches tables level start (c + 1) room
    batch_skipped dear = record {
      wide = f.wide;
      kept = f.kept;
      followed = λ k r p j h pays low m.
          elim (cases_lt k c) [
            | inl before ↦ f.followed k r p j h pays before m
            | inr last ↦ absurd (Contains-nil r (subst (λ xs. Contains xs r) (get_or_past batches k [] (omega (arith, dear, last))) m))
          ];
      sound = f.sound;
    }

    module _ (new : List ℕ) (wide : length new ≡ length room) (bits : (p j : ℕ) → j < 64 → is_set new p j ≡ (is_set room p j || is_given (batch batches c) (table_of tables (level - c)) p j)) where
      still : (p j : ℕ) → j < 64 → is_set room p j ≡ true → is_set new p j ≡ true
      still p j h e = bits p j h ∙ or_left (is_set room p j) (is_given (batch batches c) (table_of tables (level - c)) p j) e

      given_now : (r : Recipe) (p j : ℕ) → j < 64 → Contains (batch batches c) r → has_all (table_of tables (level - c)) j (asks_of r) ≡ true → Contains (gives_of r) p → is_set new p j ≡ true
      given_now r p j h m all gives =
          bits p j h
          ∙ or_right (is_set room p j) (is_given (batch batches c) (table_of tables (level - c)) p j)
          (list_any-from_contains (λ r. is_among (gives_of r) p && has_all (table_of tables (level - c)) j (asks_of r)) (batch batches c) r m
          (and_from (is_among (gives_of r) p) (has_all (table_of tables (level - c)) j (asks_of r)) (among_if (gives_of r) p gives) all))

      sound_now : (s : State) (j : ℕ) → j < 64 → IsSound t s (level - c) (table_of tables (level - c)) j → IsSound t s level room j → IsSound t s level new j
      sound_now s j h below there p own e =
          elim (or_cases (is_set room p j) (is_given (batch batches c) (table_of tables (level - c)) p j) (sym (bits p j h) ∙ e)) [
            | inl was ↦ there p own was
            | inr by ↦
                let k = passing_member (λ r. is_among (gives_of r) p && has_all (table_of tables (level - c)) j (asks_of r)) (batch batches c) by in
                let r = k.member in
                let both = and_parts (is_among (gives_of r) p) (has_all (table_of tables (level - c)) j (asks_of r)) k.is in
                let from = are.only c r k.among in
                let q = from.0 in
                let inside : q < length t.actions = from.1 in
                let paid : price_at t q ≡ c = sym (price_listed t t.actions q) ∙ from.2 in
                sound_rule t s brings right q level p inside (omega (arith, paid, cheap))
                (subst (λ x. list_all (λ m. up_to (level - x) (final_value t s m)) (needs t q) ≡ true) (sym paid)
                (list_all-from_each (λ m. up_to (level - c) (final_value t s m)) (needs t q)
                (λ m n. below m (needs-below t q m n)
                (each_passes (λ p. is_set (table_of tables (level - c)) p j) (asks_of r) m both.1
                (from.3.all m (subst (λ xs. Contains xs m) (sym (are_needs.each q (omega (arith, inside)))) n))))))
                (from.3.gives p (if_among (gives_of r) p both.0))
          ]

      pub batch_followed : IsFollowed t batches tables level start (c + 1) new
      batch_followed = record {
        wide = wide ∙ f.wide;
        kept = λ p j h e. still p j h (f.kept p j h e);
        followed = λ k r p j h pays low m all gives.
            elim (cases_lt k c) [
              | inl before ↦ still p j h (f.followed k r p j h pays before m all gives)
              | inr last ↦
                  let same : k ≡ c = omega (arith, low, last) in
                  given_now r p j h (subst (λ x. Contains (batch batches x) r) same m) (subst (λ x. has_all (table_of tables (level - x)) j (asks_of r) ≡ true) same all) gives
            ];
        sound = λ s j h below there. sound_now s j h (below (level - c) (omega (arith, some, cheap))) (f.sound s j h below there);
      }

  -- the recipes and the rest are all actions
  pub all_paid : (level : ℕ) (room new : List ℕ) → AreFollowed batches tables level (level + 1) room → ((p j : ℕ) → j < 64 → is_set room p j ≡ true → is_set new p j ≡ true)
      → ((q j : ℕ) → j < 64 → Contains rest q → 0 < price_at t q → price_at t q ≤ level → IsShut t brings q (table_of tables (level - price_at t q)) new j)
      → (q j : ℕ) → j < 64 → q < length t.actions → 0 < price_at t q → price_at t q ≤ level → IsShut t brings q (table_of tables (level - price_at t q)) new j
  all_paid level room new followed kept others q j h inside some cheap all p m =
      elim (are.all q p inside m) [
        | inl other ↦ others q j h other some cheap all p m
        | inr by ↦
            let r = by.0 in
            kept p j h
            (followed (price_at t q) r p j h some (omega (arith, cheap)) (subst (λ x. Contains (batch batches x) r) (price_listed t t.actions q) by.1)
            (list_all-from_each (λ m. is_set (table_of tables (level - price_at t q)) m j) (asks_of r)
            (λ k n. each_passes (λ p. is_set (table_of tables (level - price_at t q)) p j) (needs t q) k all (subst (λ xs. Contains xs k) (are_needs.each q (omega (arith, inside))) (by.2.only k n))))
            by.3)
      ]

-- the rest are actions
pub rest_inside : (t : Task) (asks brings : List (List ℕ)) (batches : List (List Recipe)) (rest : List ℕ) → ∥ AreBatches asks brings (map (price t) t.actions) (length t.actions) batches rest ∥₁
    → (xs : List ℕ) → xs ≡ rest → (i : ℕ) → i < length xs → get_or xs i 0 < length t.actions
rest_inside t asks brings batches rest are xs same i h =
    ∥∥₁_elim are (hlevel props) (λ f. f.inside (get_or xs i 0) (subst (λ ys. Contains ys (get_or xs i 0)) same (Contains-get_or xs i 0 h)))

-- there is a row for each action
pub brings_many : (t : Task) (askers brings : List (List ℕ)) → brings ≡ map (brings_of (length t.atoms) askers) t.actions → length brings ≡ length t.actions
brings_many t askers brings are = ap length are ∙ length-map t.actions (brings_of (length t.atoms) askers)
