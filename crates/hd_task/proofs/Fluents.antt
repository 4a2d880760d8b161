-- Effects written one after another, each by the values before, give each fluent the value of its
-- one effect.
use Rattle.std.proofs.Common.{◌≡◌, ℕ, ℤ, pos, ◌<◌, true, false, cond, ◌==◌, nat_lt, ◌&&◌, List, [], ◌∷◌, map, length, get_or, set, fold, Option, Some, None, refl, sym, ap, ◌∙◌, subst, arith, get_or-set_same, get_or-set_other, length-set}
use Rattle.std.specs.Prelude.{find}
use Rattle.std.specs.List.{list_all}
use Rattle.std.proofs.lemmas.Bool.{eqb-true, eqb-false, ne_eqb, and_parts, lt-ltb}
use borrow.Author.Tests.{ltb-true}
use Rattle.std.proofs.lemmas.List.FromFn.{fill_by_all}
use Rattle.hd_base.proofs.Lists.{length-fold}
use Rattle.hd_task.specs.declared.state.State.{State}
use Rattle.hd_task.specs.declared.effect.Effect.{Effect}
use Rattle.hd_task.specs.declared.action.Action.{Action}
use Rattle.hd_task.specs.declared.task.Task.{Task}
use Rattle.hd_task.specs.Effects.{new_value, value_after, fluents_after}
use Rattle.hd_task.specs.WellFormed.{is_rising, is_below_first, action_fits, comparison_reads_below, effect_fits}

-- the values with an effect's new one, by the values f from before the action
abbrev pub write : List ℤ → List ℤ → Effect → List ℤ
write f g e = set g e.fluent (new_value f e)

abbrev fluents_of : List Effect → List ℕ
fluents_of es = map (λ (e : Effect). e.fluent) es

abbrev effect_at : List Effect → ℕ → Option Effect
effect_at es j = find (λ (e : Effect). e.fluent == j) es

-- a number below the first of rising numbers is none of them
below_first : (x y : ℕ) (ys : List ℕ) → x < y → is_below_first y ys ≡ true → is_below_first x ys ≡ true
below_first x y [] h b = refl
below_first x y (z ∷ ys) h b = let k : y < z = ltb-true y z b in lt-ltb x z (omega arith)

none_at : (x : ℕ) (es : List Effect) → is_below_first x (fluents_of es) ≡ true → is_rising (fluents_of es) ≡ true → effect_at es x ≡ None
none_at x [] b r = refl
none_at x (e ∷ es) b r =
    let k : x < e.fluent = ltb-true x e.fluent b in
    let parts = and_parts (is_below_first e.fluent (fluents_of es)) (is_rising (fluents_of es)) r in
    let other : (e.fluent == x) ≡ false = ne_eqb e.fluent x (λ same. omega arith) in
    ap (λ b. cond b (Some e) (effect_at es x)) other
    ∙ none_at x es (below_first x e.fluent (fluents_of es) k parts.0) parts.1

-- what a fluent is worth where the effects are not yet written on it
abbrev value_or : List ℤ → ℤ → Option Effect → ℤ
value_or f v None = v
value_or f v (Some e) = new_value f e

writes_at : (f : List ℤ) (es : List Effect) (g : List ℤ) (k : ℕ) → is_rising (fluents_of es) ≡ true → k < length g → get_or (fold (write f) g es) k (pos 0) ≡ value_or f (get_or g k (pos 0)) (effect_at es k)
writes_at f [] g k r h = refl
writes_at f (e ∷ es) g k r h =
    let parts = and_parts (is_below_first e.fluent (fluents_of es)) (is_rising (fluents_of es)) r in
    let within : k < length (write f g e) = omega (arith, length-set g e.fluent (new_value f e)) in
    let rest = writes_at f es (write f g e) k parts.1 within in
    elim (e.fluent == k) as (λ b. (e.fluent == k) ≡ b → get_or (fold (write f) (write f g e) es) k (pos 0) ≡ value_or f (get_or g k (pos 0)) (cond b (Some e) (effect_at es k))) [
      | true ↦ λ same.
          let is : e.fluent ≡ k = eqb-true e.fluent k same in
          let none : effect_at es k ≡ None = subst (λ j. effect_at es j ≡ None) is (none_at e.fluent es parts.0 parts.1) in
          let written : get_or (write f g e) k (pos 0) ≡ new_value f e = subst (λ j. get_or (set g j (new_value f e)) k (pos 0) ≡ new_value f e) (sym is) (get_or-set_same g k (new_value f e) (pos 0) h) in
          rest ∙ (ap (value_or f (get_or (write f g e) k (pos 0))) none ∙ written)
      | false ↦ λ other.
          rest ∙ ap (λ v. value_or f v (effect_at es k)) (get_or-set_other g e.fluent k (new_value f e) (pos 0) (λ same. eqb-false e.fluent k other (sym same)))
    ] refl

value_or-is : (f : List ℤ) (k : ℕ) (o : Option Effect) → value_or f (get_or f k (pos 0)) o ≡ value_after f k o
value_or-is f k None = refl
value_or-is f k (Some e) = refl

pub written_fluents : (t : Task) (s : State) (a : Action) (values : List ℤ) → length s.fluents ≡ length t.fluents → is_rising (fluents_of a.effects) ≡ true → values ≡ fold (write s.fluents) s.fluents a.effects → values ≡ fluents_after t s a
written_fluents t s a values width rising is =
    fill_by_all (λ j. value_after s.fluents j (effect_at a.effects j)) values (length t.fluents) (pos 0)
    (ap length is ∙ (length-fold (write s.fluents) (λ (g : List ℤ) (e : Effect). length-set g e.fluent (new_value s.fluents e)) a.effects s.fluents ∙ width))
    (λ k h.
    let within : k < length s.fluents = omega (arith, width) in
    ap (λ xs. get_or xs k (pos 0)) is
    ∙ (writes_at s.fluents a.effects s.fluents k rising within
    ∙ value_or-is s.fluents k (effect_at a.effects k)))

-- an action that fits has rising effects
pub rising_effects : (atoms fluents : ℕ) (a : Action) → action_fits atoms fluents a ≡ true → is_rising (fluents_of a.effects) ≡ true
rising_effects atoms fluents a e =
    (and_parts
    ((list_all (λ i. nat_lt i atoms) a.adds && list_all (comparison_reads_below fluents) a.condition.comparisons) && list_all (effect_fits fluents) a.effects)
    (is_rising (fluents_of a.effects)) e).1
