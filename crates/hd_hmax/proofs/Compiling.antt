-- The rules of a task: by place the rules that need it, and by action the places of what it brings
-- about.
use Rattle.std.proofs.Common.{◌≡◌, ℕ, ◌+◌, ◌<◌, ◌≤◌, ◌==◌, nat_le, nat_lt, Bool, true, false, cond, not, ◌&&◌, ◌||◌, List, [], ◌∷◌, ◌++◌, map, filter, length, set, get_or, take, replicate, slice_get, Some, Contains, inl, inr, refl, sym, ap, ap₂, ◌∙◌, subst, arith}
use Rattle.std.proofs.lemmas.Bool.{true≢false, cases_lt, cases_eq, eq-eqb, eqb-true, ne_eqb, le-leb, lt-leb, lt-ltb, le-ltb, ltb-true, and_parts, and_from, cond-true, cond-false, not_from_false}
use Rattle.std.proofs.lemmas.Bool.Decides.{nat_tests}
use Rattle.std.proofs.lemmas.List.{get_or-map, get_or-replicate, get_or_at, get_or_append_left, take_more, map-append, length-map}
use Rattle.std.proofs.lemmas.List.Elements.{Contains-append_left, Contains-append_right, Contains-append_cases, Contains-get_or}
use Rattle.std.proofs.lemmas.Option.{slice_get_within, get_or_from_slice_get}
use Rattle.hd_base.proofs.Lists.{get_or-set}
use Rattle.hd_base.proofs.Members.{Contains-map, Contains-filter, Contains-from_filter, passes-from_filter, IsFrom-from_map}
use Rattle.hd_base.proofs.Tests.{list_any-from_contains}
use Rattle.hd_task.specs.declared.condition.Literal.{Literal}
use Rattle.hd_task.specs.declared.action.Action.{Action}
use Rattle.hd_task.specs.declared.task.Task.{Task}
use Rattle.hd_task.specs.Effects.{names_atom}
use Rattle.hd_hmax.specs.Rounds.{brings_about}
use Rattle.hd_task.specs.Conditions.{literal}
use Rattle.hd_hmax.specs.Rules.{places, place, place_at, asked_by, asked_of, needs, times, row, is_asked, added_places, deleted_places, brings_of, IsTransposed}
use Rattle.hd_hmax.proofs.Counts.{passing_member}
use Rattle.hd_hmax.proofs.Counting.{unit_if, times-nil, times-cons, times-append, times_positive, times_member}
use Rattle.hd_hmax.proofs.Places.{near_own, place_below}
use Rattle.hd_hmax.proofs.Cheapest.{BringRight, slice_get_there}

-- ---- a rule more in a list

no_more : (b c : Bool) → c ≡ false → cond b (unit_if c) 0 ≡ 0
no_more true c e = ap unit_if e
no_more false c e = refl

at_once : (b : Bool) → unit_if b ≡ cond b (unit_if true) 0
at_once true = refl
at_once false = refl

-- a rule was put into the list of a place
pub times-added : (lists : List (List ℕ)) (at rule p q : ℕ) → at < length lists → p < length lists
    → times q (row (set lists at (row lists at ++ rule ∷ [])) p) ≡ times q (row lists p) + cond (rule == q) (unit_if (at == p)) 0
times-added lists at rule p q h k =
    let is = get_or-set lists at (row lists at ++ rule ∷ []) p [] k in
    let more = times-append q (row lists at) (rule ∷ []) in
    let last = times-cons q rule [] in
    let none = times-nil q in
    elim (cases_eq at p) [
      | inl same ↦
          let here : row (set lists at (row lists at ++ rule ∷ [])) p ≡ row lists at ++ rule ∷ [] = is ∙ cond-true (at == p) (row lists at ++ rule ∷ []) (row lists p) (eq-eqb at p same) in
          let now = ap (times q) here in
          let before : times q (row lists at) ≡ times q (row lists p) = ap (λ i. times q (row lists i)) same in
          let once : unit_if (rule == q) ≡ cond (rule == q) (unit_if (at == p)) 0 = at_once (rule == q) ∙ ap (λ b. cond (rule == q) (unit_if b) 0) (sym (eq-eqb at p same)) in
          omega (arith, now, more, last, none, before, once)
      | inr apart ↦
          let there : row (set lists at (row lists at ++ rule ∷ [])) p ≡ row lists p = is ∙ cond-false (at == p) (row lists at ++ rule ∷ []) (row lists p) (ne_eqb at p apart) in
          let now = ap (times q) there in
          let nothing = no_more (rule == q) (at == p) (ne_eqb at p apart) in
          omega (arith, now, nothing)
    ]

-- no literal was gone through yet
pub times-first : (same : Bool) (k p : ℕ) → k ≡ k + cond same (times p []) 0
times-first true k p = let e = times-nil p in omega (arith, e)
times-first false k p = omega arith

-- the places so far, and one more
pub times-place : (n : ℕ) (ls : List Literal) (i at : ℕ) (d : Literal) → i < length ls → at ≡ place n (get_or ls i d) → (p : ℕ)
    → times p (map (place n) (take (i + 1) ls)) ≡ times p (map (place n) (take i ls)) + unit_if (at == p)
times-place n ls i at d h is p =
    let l = get_or ls i d in
    let all =
    ap (λ xs. times p (map (place n) xs)) (take_more ls i d h)
    ∙ (ap (times p) (map-append (place n) (take i ls) (l ∷ [])) ∙ times-append p (map (place n) (take i ls)) (place n l ∷ []))
    in
    let last = times-cons p (place n l) [] in
    let none = times-nil p in
    let same : unit_if (at == p) ≡ unit_if (place n l == p) = ap (λ k. unit_if (k == p)) is in
    omega (arith, all, last, none, same)

-- one literal more was gone through
pub times-next : (same b : Bool) (before now so_far next : ℕ) → now ≡ before + cond same (unit_if b) 0 → next ≡ so_far + unit_if b → (first : ℕ) → before ≡ first + cond same so_far 0 → now ≡ first + cond same next 0
times-next true b before now so_far next e k first h = omega (arith, e, k, h)
times-next false b before now so_far next e k first h = omega (arith, e, h)

-- one rule more was gone through
pub times-rule : (below same : Bool) (asked before now : ℕ) → (below ≡ true → same ≡ false) → before ≡ cond below asked 0 → now ≡ before + cond same asked 0 → now ≡ cond (below || same) asked 0
times-rule true true asked before now apart a b = absurd (true≢false (apart refl))
times-rule true false asked before now apart a b = omega (arith, a, b)
times-rule false true asked before now apart a b = omega (arith, a, b)
times-rule false false asked before now apart a b = omega (arith, a, b)

-- ---- what actions bring about

asked_if_needed : (t : Task) (askers : List (List ℕ)) (counts : List ℕ) → IsTransposed t askers counts → (r p : ℕ) → r ≤ length t.actions → p < places (length t.atoms) → Contains (needs t r) p → is_asked askers p ≡ true
asked_if_needed t askers counts f r p h own m =
    let some = times_positive p (needs t r) m in
    let e = f.each p r own ∙ cond-true (nat_le r (length t.actions)) (times p (needs t r)) 0 (le-leb r (length t.actions) h) in
    let among = times_member r (row askers p) (omega (arith, some, e)) in
    let long = among.1 in
    not_from_false (length (row askers p) == 0) (ne_eqb (length (row askers p)) 0 (λ z. omega (arith, long, z)))

positive : (n : ℕ) → not (n == 0) ≡ true → 0 < n
positive n e =
    elim (cases_lt 0 n) [
      | inl h ↦ h
      | inr z ↦ absurd (true≢false (sym e ∙ ap not (eq-eqb n 0 (omega (arith, z)))))
    ]

needed_if_asked : (t : Task) (askers : List (List ℕ)) (counts : List ℕ) → IsTransposed t askers counts → (p : ℕ) → p < places (length t.atoms) → is_asked askers p ≡ true → (r : ℕ) × (r ≤ length t.actions) × Contains (needs t r) p
needed_if_asked t askers counts f p own asked =
    let long : 0 < length (row askers p) = positive (length (row askers p)) asked in
    let q = get_or (row askers p) 0 0 in
    let some = times_positive q (row askers p) (Contains-get_or (row askers p) 0 0 long) in
    elim (cases_lt (length t.actions) q) [
      | inl beyond ↦
          let none : times q (row askers p) ≡ 0 = f.each p q own ∙ cond-false (nat_le q (length t.actions)) (times p (needs t q)) 0 (lt-leb q (length t.actions) beyond) in
          absurd (omega (arith, some, none))
      | inr known ↦
          let e = f.each p q own ∙ cond-true (nat_le q (length t.actions)) (times p (needs t q)) 0 (le-leb q (length t.actions) known) in
          (q, known, times_member p (needs t q) (omega (arith, some, e)))
    ]

-- the places of an action's row are those of what it brings about and a rule needs
module _ (t : Task) (askers : List (List ℕ)) (counts : List ℕ) (f : IsTransposed t askers counts) (a : Action) where
  named : (atoms : List ℕ) (i : ℕ) → Contains atoms i → names_atom atoms i ≡ true
  named atoms i m = list_any-from_contains (λ j. j == i) atoms i m (eq-eqb i i refl)

  among : (atoms : List ℕ) (i : ℕ) → names_atom atoms i ≡ true → Contains atoms i
  among atoms i e =
      let k = passing_member (λ j. j == i) atoms e in
      subst (Contains atoms) (eqb-true k.member i k.is) k.among

  all_added : (i : ℕ) → i < length t.atoms → brings_about a (literal true i) ≡ true → is_asked askers (place_at (length t.atoms) true i) ≡ true → Contains (brings_of (length t.atoms) askers a) (place_at (length t.atoms) true i)
  unfolding brings_about
  all_added i own brings asked =
      Contains-append_left (added_places (length t.atoms) askers a.adds) (deleted_places (length t.atoms) askers a.adds a.deletes) i
      (Contains-filter (λ i. nat_lt i (length t.atoms) && is_asked askers i) a.adds i (among a.adds i brings) (and_from (nat_lt i (length t.atoms)) (is_asked askers i) (lt-ltb i (length t.atoms) own) asked))

  all_deleted : (i : ℕ) → i < length t.atoms → brings_about a (literal false i) ≡ true → is_asked askers (place_at (length t.atoms) false i) ≡ true → Contains (brings_of (length t.atoms) askers a) (place_at (length t.atoms) false i)
  unfolding brings_about
  all_deleted i own brings asked =
      let both = and_parts (names_atom a.deletes i) (not (names_atom a.adds i)) brings in
      Contains-append_right (added_places (length t.atoms) askers a.adds) (deleted_places (length t.atoms) askers a.adds a.deletes) (length t.atoms + 1 + i)
      (Contains-map (λ i. length t.atoms + 1 + i) (filter (λ i. nat_lt i (length t.atoms) && (is_asked askers (length t.atoms + 1 + i) && not (names_atom a.adds i))) a.deletes) i
      (Contains-filter (λ i. nat_lt i (length t.atoms) && (is_asked askers (length t.atoms + 1 + i) && not (names_atom a.adds i))) a.deletes i (among a.deletes i both.0)
      (and_from (nat_lt i (length t.atoms)) (is_asked askers (length t.atoms + 1 + i) && not (names_atom a.adds i)) (lt-ltb i (length t.atoms) own)
      (and_from (is_asked askers (length t.atoms + 1 + i)) (not (names_atom a.adds i)) asked both.1))))

  pub all_in_row : (b : Bool) (i : ℕ) → i < length t.atoms → brings_about a (literal b i) ≡ true → is_asked askers (place_at (length t.atoms) b i) ≡ true → Contains (brings_of (length t.atoms) askers a) (place_at (length t.atoms) b i)
  all_in_row true i own brings asked = all_added i own brings asked
  all_in_row false i own brings asked = all_deleted i own brings asked

  -- a place of the row
  pub record IsBrought (p : ℕ) : Type 0 where
    pub positive : Bool
    pub atom : ℕ
    pub own : atom < length t.atoms
    pub is : p ≡ place_at (length t.atoms) positive atom
    pub brings : brings_about a (literal positive atom) ≡ true
    pub asked : is_asked askers p ≡ true

  added_is : (p : ℕ) → Contains (added_places (length t.atoms) askers a.adds) p → IsBrought p
  unfolding brings_about
  added_is p m =
      let both = and_parts (nat_lt p (length t.atoms)) (is_asked askers p) (passes-from_filter (λ i. nat_lt i (length t.atoms) && is_asked askers i) a.adds p m) in
      record {
        positive = true;
        atom = p;
        own = ltb-true p (length t.atoms) both.0;
        is = refl;
        brings = named a.adds p (Contains-from_filter (λ i. nat_lt i (length t.atoms) && is_asked askers i) a.adds p m);
        asked = both.1;
      }

  deleted_is : (p : ℕ) → Contains (deleted_places (length t.atoms) askers a.adds a.deletes) p → IsBrought p
  unfolding brings_about
  deleted_is p m =
      let test : ℕ → Bool = λ i. nat_lt i (length t.atoms) && (is_asked askers (length t.atoms + 1 + i) && not (names_atom a.adds i)) in
      let from = IsFrom-from_map (λ i. length t.atoms + 1 + i) (filter test a.deletes) p m in
      let i = from.source in
      let both = and_parts (nat_lt i (length t.atoms)) (is_asked askers (length t.atoms + 1 + i) && not (names_atom a.adds i)) (passes-from_filter test a.deletes i from.among) in
      let rest = and_parts (is_asked askers (length t.atoms + 1 + i)) (not (names_atom a.adds i)) both.1 in
      record {
        positive = false;
        atom = i;
        own = ltb-true i (length t.atoms) both.0;
        is = sym from.is;
        brings = and_from (names_atom a.deletes i) (not (names_atom a.adds i)) (named a.deletes i (Contains-from_filter test a.deletes i from.among)) rest.1;
        asked = ap (is_asked askers) (sym from.is) ∙ rest.0;
      }

  pub row_is : (p : ℕ) → Contains (brings_of (length t.atoms) askers a) p → IsBrought p
  row_is p m =
      elim (Contains-append_cases (added_places (length t.atoms) askers a.adds) (deleted_places (length t.atoms) askers a.adds a.deletes) p m) [
        | inl k ↦ added_is p k
        | inr k ↦ deleted_is p k
      ]

row_of_map : (f : Action → List ℕ) (actions : List Action) (q : ℕ) (a : Action) → slice_get actions q ≡ Some a → row (map f actions) q ≡ f a
row_of_map f actions q a is =
    get_or-map f actions q a [] (slice_get_within actions q a is) ∙ ap f (get_or_from_slice_get actions q a a is)

pub bring_right : (t : Task) (askers : List (List ℕ)) (counts : List ℕ) (brings : List (List ℕ)) → IsTransposed t askers counts → brings ≡ map (brings_of (length t.atoms) askers) t.actions → BringRight t brings
bring_right t askers counts brings f are = record {
  all = λ q a l is own by r known need.
      let at : row brings q ≡ brings_of (length t.atoms) askers a = ap (λ rows. row rows q) are ∙ row_of_map (brings_of (length t.atoms) askers) t.actions q a is in
      let same : place (length t.atoms) l ≡ place_at (length t.atoms) l.positive l.atom = ap (place_at (length t.atoms) l.positive) (near_own (length t.atoms) l.atom own) in
      let asked = asked_if_needed t askers counts f r (place (length t.atoms) l) known (place_below (length t.atoms) l) need in
      subst (λ ps. Contains ps (place (length t.atoms) l)) (sym at)
      (subst (Contains (brings_of (length t.atoms) askers a)) (sym same) (all_in_row t askers counts f a l.positive l.atom own by (ap (is_asked askers) (sym same) ∙ asked)));
  only = λ q a p is m.
      let at : row brings q ≡ brings_of (length t.atoms) askers a = ap (λ rows. row rows q) are ∙ row_of_map (brings_of (length t.atoms) askers) t.actions q a is in
      let k = row_is t askers counts f a p (subst (λ ps. Contains ps p) at m) in
      let l = literal k.positive k.atom in
      let same : p ≡ place (length t.atoms) l = k.is ∙ ap (place_at (length t.atoms) k.positive) (sym (near_own (length t.atoms) k.atom k.own)) in
      let own = place_below (length t.atoms) l in
      let needed = needed_if_asked t askers counts f p (omega (arith, own, same)) k.asked in
      (l, same, k.own, k.brings, needed);
}

-- the places of rows are there
pub brings-below : (t : Task) (brings : List (List ℕ)) → BringRight t brings → (q p : ℕ) → q < length t.actions → Contains (row brings q) p → p < places (length t.atoms)
brings-below t brings right q p h m =
    let a = slice_get_there t.actions q h in
    let of = right.only q a.0 p a.1 m in
    let own = place_below (length t.atoms) of.0 in
    let same = of.1 in
    omega (arith, own, same)

-- ---- the rules, one after the other

-- if nothing was put into the lists
pub no_rules_yet : (lists : List (List ℕ)) (count p q k : ℕ) → lists ≡ replicate count [] → p < count → times q (row lists p) ≡ cond (nat_lt q 0) k 0
no_rules_yet lists count p q k are h =
    let empty : times q (row lists p) ≡ 0 = ap (λ (xs : List (List ℕ)). times q (row xs p)) are ∙ (ap (times q) (get_or-replicate count p [] [] h) ∙ times-nil q) in
    empty ∙ sym (cond-false (nat_lt q 0) k 0 (le-ltb q 0 (omega arith)))

lt_next : (q r : ℕ) → nat_lt q (r + 1) ≡ (nat_lt q r || (r == q))
lt_next q r = grind (arith, nat_tests)

same_needs : (t : Task) (p q r : ℕ) → cond (r == q) (times p (needs t r)) 0 ≡ cond (r == q) (times p (needs t q)) 0
same_needs t p q r =
    elim (cases_eq r q) [
      | inl same ↦ ap (λ k. cond (r == q) (times p (needs t k)) 0) same
      | inr apart ↦ cond-false (r == q) (times p (needs t r)) 0 (ne_eqb r q apart) ∙ sym (cond-false (r == q) (times p (needs t q)) 0 (ne_eqb r q apart))
    ]

-- what a rule needs, by the literals of its condition
pub needs_by : (t : Task) (r n : ℕ) (ls : List Literal) → n ≡ length t.atoms → ls ≡ asked_by t (slice_get t.actions r) → map (place n) (asked_of n ls) ≡ needs t r
unfolding needs
needs_by t r n ls same are = ap₂ (λ (k : ℕ) (xs : List Literal). map (place k) (asked_of k xs)) same are

-- one rule more was gone through
pub rule_through : (t : Task) (before now : List (List ℕ)) (p q r : ℕ) (all : List ℕ) → all ≡ needs t r → times q (row now p) ≡ times q (row before p) + cond (r == q) (times p all) 0
    → times q (row before p) ≡ cond (nat_lt q r) (times p (needs t q)) 0 → times q (row now p) ≡ cond (nat_lt q (r + 1)) (times p (needs t q)) 0
rule_through t before now p q r all are more so_far =
    times-rule (nat_lt q r) (r == q) (times p (needs t q)) (times q (row before p)) (times q (row now p))
    (λ below. ne_eqb r q (λ e. let h = ltb-true q r below in omega (arith, e, h))) so_far
    (more ∙ ap (λ k. times q (row before p) + k) (ap (λ xs. cond (r == q) (times p xs) 0) are ∙ same_needs t p q r))
    ∙ ap (λ b. cond b (times p (needs t q)) 0) (sym (lt_next q r))

pub counted_through : (t : Task) (counts now : List ℕ) (r k n : ℕ) (ls : List Literal) → length counts ≡ r → now ≡ counts ++ k ∷ [] → k ≡ length (asked_of n ls) → map (place n) (asked_of n ls) ≡ needs t r
    → ((q : ℕ) → q < r → get_or counts q 0 ≡ length (needs t q)) → (q : ℕ) → q < r + 1 → get_or now q 0 ≡ length (needs t q)
counted_through t counts now r k n ls long more is are so_far q h =
    ap (λ xs. get_or xs q 0) more
    ∙ elim (cases_lt q r) [
      | inl old ↦ get_or_append_left counts (k ∷ []) 0 q (omega (arith, old, long)) ∙ so_far q old
      | inr new ↦
          let same : q ≡ r = omega (arith, h, new) in
          get_or_at counts k [] 0 q (omega (arith, long, same))
          ∙ (is ∙ (sym (length-map (asked_of n ls) (place n)) ∙ (ap length are ∙ ap (λ k. length (needs t k)) (sym same))))
    ]

-- the needs of one rule more
pub needs_through : (t : Task) (rows now : List (List ℕ)) (these : List ℕ) (r : ℕ) → length rows ≡ r → now ≡ rows ++ these ∷ [] → these ≡ needs t r
    → ((q : ℕ) → q < r → row rows q ≡ needs t q) → (q : ℕ) → q < r + 1 → row now q ≡ needs t q
needs_through t rows now these r long more is so_far q h =
    ap (λ xs. row xs q) more
    ∙ elim (cases_lt q r) [
      | inl old ↦ get_or_append_left rows (these ∷ []) [] q (omega (arith, old, long)) ∙ so_far q old
      | inr new ↦
          let same : q ≡ r = omega (arith, h, new) in
          get_or_at rows these [] [] q (omega (arith, long, same)) ∙ (is ∙ ap (needs t) (sym same))
    ]
