-- Values that are put into a table, the last one first: first values, and new ones.
use Rattle.std.proofs.Common.{◌≡◌, ℕ, ◌+◌, ◌<◌, Bool, true, false, cond, ◌&&◌, List, [], ◌∷◌, ◌++◌, take, length, get_or, Option, Some, None, refl, sym, ap, ◌∙◌, arith}
use Rattle.std.specs.Prelude.{option_map, ℤ, find}
use Rattle.std.specs.Map.{lookup}
use Rattle.std.specs.Option.{option_or}
use Rattle.std.proofs.lemmas.List.{take_more}
use Rattle.std.proofs.lemmas.List.Folds.{find-append}
use Rattle.hd_base.specs.Numbers.{in_range, fits}
use Rattle.hd_lifted.specs.declared.schema.Ground.{Ground}
use Rattle.hd_lifted.specs.declared.task.InitialValue.{InitialValue}
use Rattle.hd_lifted.specs.States.{same, first_value}
use Rattle.hd_lifted.proofs.Sound.{same-true, same-refl}
use Rattle.hd_judge.proofs.Leaving.{and_false}

map_or : (a b : Option InitialValue) → option_map (λ (i : InitialValue). i.value) (option_or a b) ≡ option_or (option_map (λ (i : InitialValue). i.value) a) (option_map (λ (i : InitialValue). i.value) b)
map_or None b = refl
map_or (Some x) b = refl

either : (a : Option ℤ) (found : Bool) (v : InitialValue) (old : Option ℤ)
    → option_or a (cond found (Some v.value) old) ≡ option_or (option_or a (option_map (λ (i : InitialValue). i.value) (cond found (Some v) None))) old
either None true v old = refl
either None false v old = refl
either (Some x) found v old = refl

-- the first value in the front of a list, or else in a table, where the front's last one goes into
-- the table
pub first_value_put : (listed : List InitialValue) (left : ℕ) (v : InitialValue) (g : Ground) (old new : Option ℤ)
    → left < length listed → v ≡ get_or listed left v → new ≡ cond (same v.fluent g) (Some v.value) old
    → option_or (first_value (take left listed) g) new ≡ option_or (first_value (take (left + 1) listed) g) old
first_value_put listed left v g old new lt at now =
    let front = take left listed in
    let test : InitialValue → Bool = λ i. same i.fluent g in
    let more : take (left + 1) listed ≡ front ++ v ∷ [] = take_more listed left v lt ∙ ap (λ y. front ++ y ∷ []) (sym at) in
    ap (option_or (first_value front g)) now
    ∙ (either (first_value front g) (test v) v old
    ∙ ap (λ (o : Option ℤ). option_or o old)
    (sym (ap (λ (xs : List InitialValue). first_value xs g) more
    ∙ (ap (option_map (λ (i : InitialValue). i.value)) (find-append test front (v ∷ [])) ∙ map_or (find test front) (find test (v ∷ []))))))

-- ---- new values

same-sym : (g h : Ground) → same g h ≡ same h g
same-sym g h =
    elim (same g h) as (λ b. same g h ≡ b → b ≡ same h g) [
      | true ↦ λ e. sym (ap (λ (x : Ground). same x g) (sym (same-true g h e)) ∙ same-refl g)
      | false ↦ λ e.
          elim (same h g) as (λ b. same h g ≡ b → false ≡ b) [
            | true ↦ λ t. sym e ∙ (ap (same g) (same-true h g t) ∙ same-refl g)
            | false ↦ λ _. refl
          ] refl
    ] refl

lookup_push : (test : Ground → Bool) (es : List (Ground × ℤ)) (f : Ground) (z : ℤ)
    → lookup test (es ++ (f, z) ∷ []) ≡ option_or (lookup test es) (cond (test f) (Some z) None)
lookup_push test [] f z = refl
lookup_push test (e ∷ es) f z =
    elim (test e.0) as (λ b. cond b (Some e.1) (lookup test (es ++ (f, z) ∷ [])) ≡ option_or (cond b (Some e.1) (lookup test es)) (cond (test f) (Some z) None)) [
      | true ↦ refl
      | false ↦ lookup_push test es f z
    ]

fits_first : (a b : Option ℤ) → fits (option_or a b) ≡ true → fits a ≡ true
fits_first None b fit = refl
fits_first (Some x) b fit = fit

put_next : (a old : Option ℤ) (s : Bool) (z : ℤ) → fits (option_or a (cond s (Some z) None)) ≡ true
    → option_or a (cond (in_range z && s) (Some z) old) ≡ option_or (option_or a (cond s (Some z) None)) old
put_next (Some x) old s z fit = refl
put_next None old true z fit = ap (λ b. cond (b && true) (Some z) old) fit
put_next None old false z fit = ap (λ b. cond b (Some z) old) (and_false (in_range z) false refl)

-- new values that are in the range, the last of which is taken out: those that are left are
pub fits_popped : (whole front : List (Ground × ℤ)) (f : Ground) (z : ℤ) (g : Ground) → whole ≡ front ++ (f, z) ∷ [] → fits (lookup (same g) whole) ≡ true
    → fits (lookup (same g) front) ≡ true
fits_popped whole front f z g popped fit =
    fits_first (lookup (same g) front) (cond (same g f) (Some z) None) (ap fits (sym (ap (lookup (same g)) popped ∙ lookup_push (same g) front f z)) ∙ fit)

-- and it is put into a table
pub put_popped : (whole front : List (Ground × ℤ)) (f : Ground) (z : ℤ) (g : Ground) (old new : Option ℤ) → whole ≡ front ++ (f, z) ∷ []
    → fits (lookup (same g) whole) ≡ true → new ≡ cond (in_range z && same f g) (Some z) old
    → option_or (lookup (same g) front) new ≡ option_or (lookup (same g) whole) old
put_popped whole front f z g old new popped fit now =
    let a = lookup (same g) front in
    let is : lookup (same g) whole ≡ option_or a (cond (same g f) (Some z) None) = ap (lookup (same g)) popped ∙ lookup_push (same g) front f z in
    ap (option_or a) (now ∙ ap (λ b. cond (in_range z && b) (Some z) old) (same-sym f g))
    ∙ (put_next a old (same g f) z (ap fits (sym is) ∙ fit) ∙ ap (λ (o : Option ℤ). option_or o old) (sym is))

-- where none is left, there is none
pub lookup_empty : (test : Ground → Bool) (es : List (Ground × ℤ)) → (0 < length es → ⊥) → lookup test es ≡ None
lookup_empty test [] none = refl
lookup_empty test (e ∷ es) none = absurd (none (omega arith))
