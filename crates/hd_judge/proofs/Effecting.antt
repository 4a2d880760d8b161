-- The new values of a list of effects, one effect after the other.
use Rattle.std.proofs.Common.{◌≡◌, ℕ, ◌+◌, ◌<◌, Bool, true, false, not, cond, ◌&&◌, ◌||◌, List, [], ◌∷◌, ◌++◌, Contains, Option, Some, None, is_some, take, drop, length, get_or, refl, sym, ap, ap₂, ◌∙◌, subst, true≢false, append_assoc}
use Rattle.std.specs.Prelude.{if◌then◌else◌, ℤ, pos, flat_map, find}
use Rattle.std.specs.List.{list_any, list_all, fold}
use Rattle.std.specs.Option.{option_or}
use Rattle.std.proofs.lemmas.Bool.{and_parts, and_from, or_parts, not-true}
use Rattle.std.proofs.lemmas.List.{take_more, take-append-drop}
use Rattle.std.proofs.lemmas.List.Elements.{Contains-append_right}
use Rattle.std.proofs.lemmas.List.Folds.{find-append, list_any-append, list_all-append}
use Rattle.std.proofs.lemmas.List.Sums.{fold_more, fold_push}
use Rattle.std.proofs.lemmas.Grind.{flat_map-append}
use Rattle.hd_base.specs.Numbers.{fits}
use Rattle.hd_base.proofs.Members.{Contains-first, Contains-later, Contains-flat_map}
use Rattle.hd_base.proofs.Options.{cond_then_some}
use Rattle.hd_base.proofs.Tests.{list_all-from_each}
use Rattle.hd_lifted.specs.declared.schema.Ground.{Ground}
use Rattle.hd_lifted.specs.declared.schema.ChangeKind.{ChangeKind}
use Rattle.hd_lifted.specs.declared.schema.ChangeKind.TheVariants.{Assign, ScaleUp, Increase, Decrease, Cost}
use Rattle.hd_lifted.specs.declared.schema.NumericEffect.{NumericEffect}
use Rattle.hd_lifted.specs.declared.schema.Schema.{Schema}
use Rattle.hd_lifted.specs.States.{Values, same, ground_form_of}
use Rattle.hd_lifted.specs.Expressions.{value_of}
use Rattle.hd_lifted.specs.Effects.{value_by_change, with_effect, with_cost, is_cost, stands_alone, clash, effects_clash, value_after, effect_stays, effects_stay}
use Rattle.hd_lifted.specs.Met.{fluents_in, met_by_effect}
use Rattle.hd_lifted.proofs.Sound.{same-true, same-refl}
use Rattle.hd_lifted.proofs.Passing.{passing-from_any, passes-from_all, fails-from_none}
use Rattle.hd_judge.specs.declared.changes.Changes.{Changes}
use Rattle.hd_lifted.specs.Questions.{is_paid}
use Rattle.hd_judge.specs.Effects.{HaveValues, amount_stays, changes_fluent, value_if_changed, new_value_in, with_change, change_fits, AreChangesOf}
use Rattle.hd_judge.specs.EffectReasons.{departing_effect, new_value_stays, leaving_effect}
use Rattle.hd_judge.proofs.Defined.{values_left, effects_some}
use Rattle.hd_judge.proofs.Failing.{none_where_all}
use Rattle.hd_judge.proofs.Leaving.{and_false}

-- ---- what is there for all effects is there for some

pushed : (es : List NumericEffect) (k : ℕ) (e : NumericEffect) → k < length es → e ≡ get_or es k e → take (k + 1) es ≡ take k es ++ e ∷ []
pushed es k e lt at = take_more es k e lt ∙ ap (λ y. take k es ++ y ∷ []) (sym at)

split_at : (es : List NumericEffect) (k : ℕ) (e : NumericEffect) → k < length es → e ≡ get_or es k e → take k es ++ (e ∷ drop (k + 1) es) ≡ es
split_at es k e lt at =
    sym (append_assoc (take k es) (e ∷ []) (drop (k + 1) es))
    ∙ (ap (λ xs. xs ++ drop (k + 1) es) (sym (pushed es k e lt at)) ∙ take-append-drop (k + 1) es)

pub front_there : (v : Values) (objects : List ℕ) (es : List NumericEffect) (k : ℕ) → HaveValues v (flat_map (met_by_effect objects) es)
    → HaveValues v (flat_map (met_by_effect objects) (take k es))
front_there v objects es k have =
    let met = met_by_effect objects in
    values_left v (flat_map met (take k es)) (flat_map met (drop k es))
    (subst (HaveValues v) (ap (flat_map met) (sym (take-append-drop k es)) ∙ flat_map-append met (take k es) (drop k es)) have)

pub among_there : (v : Values) (objects : List ℕ) (es : List NumericEffect) (e : NumericEffect) → Contains es e
    → HaveValues v (flat_map (met_by_effect objects) es) → HaveValues v (met_by_effect objects e)
among_there v objects es e among have = record { each = λ g c. have.each g (Contains-flat_map (met_by_effect objects) es e g among c) }

among_at : (es : List NumericEffect) (k : ℕ) (e : NumericEffect) → k < length es → e ≡ get_or es k e → Contains es e
among_at es k e lt at =
    subst (λ (xs : List NumericEffect). Contains xs e) (split_at es k e lt at)
    (Contains-append_right (take k es) (e ∷ drop (k + 1) es) e (Contains-first e (drop (k + 1) es)))

pub one_there : (v : Values) (objects : List ℕ) (es : List NumericEffect) (k : ℕ) (e : NumericEffect) → k < length es → e ≡ get_or es k e
    → HaveValues v (flat_map (met_by_effect objects) es) → HaveValues v (met_by_effect objects e)
one_there v objects es k e lt at have = among_there v objects es e (among_at es k e lt at) have

-- what an effect changes is there
changed_there : (v : Values) (objects : List ℕ) (e : NumericEffect) (g : Ground) → HaveValues v (met_by_effect objects e)
    → changes_fluent objects g e ≡ true → is_some (v g) ≡ true
changed_there v objects e g have t =
    let f = ground_form_of objects e.fluent in
    let read = fluents_in objects e.amount in
    let parts = and_parts (not (is_paid e)) (same f g) t in
    let free : is_paid e ≡ false = not-true (is_paid e) parts.0 in
    ap (λ (h : Ground). is_some (v h)) (sym (same-true f g parts.1))
    ∙ have.each f (subst (λ (b : Bool). Contains ((if b then [] else f ∷ []) ++ read) f) (sym free) (Contains-first f read))

-- ---- one more effect

kept_by : (c : ChangeKind) (s : Bool) (x amount : Option ℤ) → not (is_cost c) && s ≡ false → (if s then value_by_change c x amount else x) ≡ x
kept_by c false x amount e = refl
kept_by Assign true x amount e = absurd (true≢false e)
kept_by ScaleUp true x amount e = absurd (true≢false e)
kept_by Increase true x amount e = absurd (true≢false e)
kept_by Decrease true x amount e = absurd (true≢false e)
kept_by Cost true x amount e = refl

kept : (v : Values) (objects : List ℕ) (g : Ground) (e : NumericEffect) (x : Option ℤ) → changes_fluent objects g e ≡ false → with_effect v objects g x e ≡ x
kept v objects g e x none = kept_by e.change (same (ground_form_of objects e.fluent) g) x (value_of v objects e.amount) none

-- effects that change nothing of g leave its value
untouched : (v : Values) (objects : List ℕ) (g : Ground) (es : List NumericEffect) (x : Option ℤ) → list_any (changes_fluent objects g) es ≡ false
    → fold (with_effect v objects g) x es ≡ x
untouched v objects g [] x none = refl
untouched v objects g (e ∷ es) x none =
    let parts = or_parts (changes_fluent objects g e) (list_any (changes_fluent objects g) es) none in
    ap (λ y. fold (with_effect v objects g) y es) (kept v objects g e x parts.0) ∙ untouched v objects g es x parts.1

one_more : (a b : Bool) (W : Option ℤ → Option ℤ) (F old : Option ℤ) → (b ≡ true → is_some F ≡ true) → (b ≡ false → W F ≡ F) → (a ≡ false → F ≡ old)
    → (if a || (b || false) then W F else None) ≡ (if b then W (option_or (if a then F else None) old) else (if a then F else None))
one_more true true W None old some left un = absurd (true≢false (sym (some refl)))
one_more true true W (Some x) old some left un = refl
one_more true false W F old some left un = left refl
one_more false true W F old some left un = ap W (un refl)
one_more false false W F old some left un = refl

pub new_value_more : (v : Values) (objects : List ℕ) (es : List NumericEffect) (k : ℕ) (e : NumericEffect) (g : Ground) → k < length es → e ≡ get_or es k e
    → HaveValues v (flat_map (met_by_effect objects) es)
    → value_if_changed v objects (take (k + 1) es) g ≡ with_change v objects e g (value_if_changed v objects (take k es) g)
new_value_more v objects es k e g lt at have =
    let front = take k es in
    let test = changes_fluent objects g in
    let so_far = fold (with_effect v objects g) (v g) front in
    ap (λ (xs : List NumericEffect). value_if_changed v objects xs g) (pushed es k e lt at)
    ∙ (ap₂ (λ (b : Bool) (x : Option ℤ). if b then x else None) (list_any-append test front (e ∷ [])) (fold_push (with_effect v objects g) (v g) front e)
    ∙ one_more (list_any test front) (test e) (λ x. with_effect v objects g x e) so_far (v g)
    (λ t. effects_some v objects g front (v g) (front_there v objects es k have) (changed_there v objects e g (one_there v objects es k e lt at have) t))
    (λ n. kept v objects g e so_far n) (λ n. untouched v objects g front (v g) n))

pub cost_more : (v : Values) (objects : List ℕ) (es : List NumericEffect) (k : ℕ) (e : NumericEffect) (old new : ℤ) → k < length es → e ≡ get_or es k e
    → fold (with_cost v objects) (Some (pos 0)) (take k es) ≡ Some old → with_cost v objects (Some old) e ≡ Some new
    → fold (with_cost v objects) (Some (pos 0)) (take (k + 1) es) ≡ Some new
cost_more v objects es k e old new lt at was now =
    fold_more (with_cost v objects) (Some (pos 0)) es k e lt
    ∙ (ap₂ (λ (o : Option ℤ) (x : NumericEffect). with_cost v objects o x) was (sym at) ∙ now)

pub changes_more : (v : Values) (objects : List ℕ) (es : List NumericEffect) (k : ℕ) (e : NumericEffect) (old new : Changes) → k < length es → e ≡ get_or es k e
    → HaveValues v (flat_map (met_by_effect objects) es) → AreChangesOf v objects (take k es) old
    → ((g : Ground) → new_value_in new g ≡ with_change v objects e g (new_value_in old g))
    → with_cost v objects (Some old.cost) e ≡ Some new.cost
    → AreChangesOf v objects (take (k + 1) es) new
changes_more v objects es k e old new lt at have so_far values cost = record {
  values = λ g. values g ∙ (ap (with_change v objects e g) (so_far.values g) ∙ sym (new_value_more v objects es k e g lt at have));
  cost = cost_more v objects es k e old.cost new.cost lt at so_far.cost cost;
}

pub stay_more : (v : Values) (objects : List ℕ) (es : List NumericEffect) (k : ℕ) (e : NumericEffect) → k < length es → e ≡ get_or es k e
    → list_all (amount_stays v objects) (take k es) ≡ true → amount_stays v objects e ≡ true → list_all (amount_stays v objects) (take (k + 1) es) ≡ true
stay_more v objects es k e lt at front here =
    ap (list_all (amount_stays v objects)) (pushed es k e lt at)
    ∙ (list_all-append (amount_stays v objects) (take k es) (e ∷ []) ∙ ap₂ (λ (a b : Bool). a && (b && true)) front here)

-- the first amount that departs, where those before it stay
pub departing_at : (v : Values) (objects : List ℕ) (es : List NumericEffect) (k : ℕ) (e : NumericEffect) → k < length es → e ≡ get_or es k e
    → list_all (amount_stays v objects) (take k es) ≡ true → amount_stays v objects e ≡ false → departing_effect v objects es ≡ Some e
departing_at v objects es k e lt at front fails =
    let test : NumericEffect → Bool = λ x. not (amount_stays v objects x) in
    let rest = drop (k + 1) es in
    ap (find test) (sym (split_at es k e lt at))
    ∙ (find-append test (take k es) (e ∷ rest)
    ∙ (ap (λ (o : Option NumericEffect). option_or o (find test (e ∷ rest))) (none_where_all (amount_stays v objects) (take k es) front)
    ∙ ap (λ (b : Bool). cond (not b) (Some e) (find test rest)) fails))

-- ---- an effect that stands alone is the first on its fluent

apart : (s a b : Bool) → b ≡ true → s && (a || b) ≡ false → s ≡ false
apart false a b t e = refl
apart true a b t e = absurd (true≢false (sym t ∙ (or_parts a b e).1))

first_on : (objects : List ℕ) (xs ys : List NumericEffect) (e : NumericEffect) → effects_clash objects (xs ++ (e ∷ ys)) ≡ false → stands_alone e.change ≡ true
    → list_any (changes_fluent objects (ground_form_of objects e.fluent)) xs ≡ false
first_on objects [] ys e none alone = refl
first_on objects (x ∷ xs) ys e none alone =
    let f = ground_form_of objects e.fluent in
    let here = ground_form_of objects x.fluent in
    let parts = or_parts (list_any (clash objects x) (xs ++ (e ∷ ys))) (effects_clash objects (xs ++ (e ∷ ys))) none in
    let at = fails-from_none (clash objects x) (xs ++ (e ∷ ys)) e parts.0 (Contains-append_right xs (e ∷ ys) e (Contains-first e ys)) in
    let unlike = apart (same here f) (stands_alone x.change) (stands_alone e.change) alone at in
    ap₂ (λ (a b : Bool). a || b) (and_false (not (is_paid x)) (same here f) unlike) (first_on objects xs ys e parts.1 alone)

pub scaled_alone : (v : Values) (objects : List ℕ) (es : List NumericEffect) (k : ℕ) (e : NumericEffect) → k < length es → e ≡ get_or es k e
    → effects_clash objects es ≡ false → e.change ≡ ScaleUp → value_if_changed v objects (take k es) (ground_form_of objects e.fluent) ≡ None
scaled_alone v objects es k e lt at none scale =
    let f = ground_form_of objects e.fluent in
    ap (λ (b : Bool). if b then fold (with_effect v objects f) (v f) (take k es) else None)
    (first_on objects (take k es) (drop (k + 1) es) e (ap (effects_clash objects) (split_at es k e lt at) ∙ none) (ap stands_alone scale))

-- ---- all effects

any_among : (objects : List ℕ) (g : Ground) (es : List NumericEffect) (e : NumericEffect) → Contains es e → changes_fluent objects g e ≡ true
    → list_any (changes_fluent objects g) es ≡ true
any_among objects g es e among t =
    elim (list_any (changes_fluent objects g) es) as (λ b. list_any (changes_fluent objects g) es ≡ b → b ≡ true) [
      | true ↦ λ _. refl
      | false ↦ λ none. absurd (true≢false (sym t ∙ fails-from_none (changes_fluent objects g) es e none among))
    ] refl

fits_same : (paid : Bool) (x y : Option ℤ) → (paid ≡ false → x ≡ y) → (paid || fits x) ≡ (paid || fits y)
fits_same true x y same = refl
fits_same false x y same = ap fits (same refl)

-- the new value of an effect's fluent is in the range where the one that was computed is
change-stays : (v : Values) (a : Schema) (objects : List ℕ) (changes : Changes) → AreChangesOf v objects a.effects changes
    → (e : NumericEffect) → Contains a.effects e → change_fits changes objects e ≡ new_value_stays v a objects e
change-stays v a objects changes are e among =
    let f = ground_form_of objects e.fluent in
    fits_same (is_paid e) (new_value_in changes f) (value_after v a objects f)
    (λ free.
    let t : changes_fluent objects f e ≡ true = ap₂ (λ (p s : Bool). not p && s) free (same-refl f) in
    are.values f ∙ ap (λ (b : Bool). if b then value_after v a objects f else None) (any_among objects f a.effects e among t))

-- effects stay in the range where their amounts and their new values do
pub all_stay : (v : Values) (a : Schema) (objects : List ℕ) (changes : Changes) → list_all (amount_stays v objects) a.effects ≡ true
    → AreChangesOf v objects a.effects changes → list_all (change_fits changes objects) a.effects ≡ true → effects_stay v a objects ≡ true
unfolding effects_stay
all_stay v a objects changes stay are fit =
    list_all-from_each (effect_stays v a objects) a.effects
    (λ e c.
    and_from (amount_stays v objects e) (new_value_stays v a objects e) (passes-from_all (amount_stays v objects) a.effects e stay c)
    (sym (change-stays v a objects changes are e c) ∙ passes-from_all (change_fits changes objects) a.effects e fit c))

-- tests that agree on the elements find the same
find_same : {X : Type 0} (p q : X → Bool) (xs : List X) → ((x : X) → Contains xs x → p x ≡ q x) → find p xs ≡ find q xs
find_same p q [] agree = refl
find_same p q (x ∷ xs) agree =
    ap (λ b. cond b (Some x) (find p xs)) (agree x (Contains-first x xs))
    ∙ ap (λ o. cond (q x) (Some x) o) (find_same p q xs (λ y c. agree y (Contains-later x xs y c)))

-- the first that leaves the range by the values that were computed is the first that does
pub leaving : (v : Values) (a : Schema) (objects : List ℕ) (changes : Changes) → AreChangesOf v objects a.effects changes
    → find (λ e. not (change_fits changes objects e)) a.effects ≡ leaving_effect v a objects
leaving v a objects changes are =
    find_same (λ e. not (change_fits changes objects e)) (λ e. not (new_value_stays v a objects e)) a.effects
    (λ e c. ap not (change-stays v a objects changes are e c))

-- a new value that was computed is the fluent's
pub value_is : (v : Values) (a : Schema) (objects : List ℕ) (changes : Changes) (g : Ground) (z : ℤ) → AreChangesOf v objects a.effects changes
    → new_value_in changes g ≡ Some z → value_after v a objects g ≡ Some z
value_is v a objects changes g z are is = (cond_then_some (list_any (changes_fluent objects g) a.effects) (value_after v a objects g) z (sym (are.values g) ∙ is)).1

-- a new value is in the range if that of each effect's fluent is
pub all_fit : (v : Values) (objects : List ℕ) (es : List NumericEffect) (changes : Changes) → AreChangesOf v objects es changes
    → list_all (change_fits changes objects) es ≡ true → (g : Ground) → fits (new_value_in changes g) ≡ true
all_fit v objects es changes are fit g =
    elim (list_any (changes_fluent objects g) es) as (λ b. list_any (changes_fluent objects g) es ≡ b → fits (new_value_in changes g) ≡ true) [
      | true ↦ λ some.
          let p = passing-from_any (changes_fluent objects g) es some in
          let f = ground_form_of objects p.value.fluent in
          let parts = and_parts (not (is_paid p.value)) (same f g) p.passes in
          ap (λ (h : Ground). fits (new_value_in changes h)) (sym (same-true f g parts.1))
          ∙ (ap (λ (b : Bool). b || fits (new_value_in changes f)) (sym (not-true (is_paid p.value) parts.0))
          ∙ passes-from_all (change_fits changes objects) es p.value fit p.among)
      | false ↦ λ none. ap fits (are.values g ∙ ap (λ (b : Bool). if b then fold (with_effect v objects g) (v g) es else None) none)
    ] refl

-- a value where the new ones are put in
placed : (a : Bool) (F old : Option ℤ) → (a ≡ true → is_some F ≡ true) → (a ≡ false → F ≡ old) → option_or (if a then F else None) old ≡ F
placed true None old some un = absurd (true≢false (sym (some refl)))
placed true (Some x) old some un = refl
placed false F old some un = sym (un refl)

pub value_placed : (v : Values) (a : Schema) (objects : List ℕ) (changes : Changes) (g : Ground) → HaveValues v (flat_map (met_by_effect objects) a.effects)
    → AreChangesOf v objects a.effects changes → option_or (new_value_in changes g) (v g) ≡ value_after v a objects g
value_placed v a objects changes g have are =
    let es = a.effects in
    let test = changes_fluent objects g in
    ap (λ (x : Option ℤ). option_or x (v g)) (are.values g)
    ∙ placed (list_any test es) (value_after v a objects g) (v g)
    (λ t. let p = passing-from_any test es t in
    effects_some v objects g es (v g) have (changed_there v objects p.value g (among_there v objects es p.value p.among have) p.passes))
    (λ n. untouched v objects g es (v g) n)
