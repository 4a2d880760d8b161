-- What is read and changed in numbers has a number, where what is met has one.
use Rattle.std.proofs.Common.{◌≡◌, ℕ, Bool, true, List, [], ◌∷◌, map, length, Contains, Option, Some, None, inl, inr, refl, ap, ◌∙◌, subst}
use Rattle.std.specs.Prelude.{nat_lt, flat_map, option_map, unwrap_or}
use Rattle.std.specs.List.{list_all}
use Rattle.std.proofs.lemmas.Bool.{and_from}
use Rattle.std.proofs.lemmas.List.Folds.{list_all-map}
use Rattle.std.proofs.lemmas.List.Elements.{Contains-append_left, Contains-append_right}
use Rattle.std.proofs.lemmas.Option.{none-some, same_Some}
use Rattle.hd_base.specs.declared.expression.Operand.{Operand}
use Rattle.hd_base.specs.declared.expression.Operand.TheVariants.{Number, Fluent}
use Rattle.hd_base.specs.Expression.{Expression, leaf, negate, binary}
use Rattle.hd_base.proofs.Members.{Contains-first, Contains-cons_cases, Contains-nil, Contains-flat_map, Contains-from_flat_map}
use Rattle.hd_base.proofs.Tests.{list_all-from_each}
use Rattle.hd_lifted.specs.declared.schema.AppliedSymbol.{AppliedSymbol}
use Rattle.hd_lifted.specs.declared.schema.Ground.{Ground}
use Rattle.hd_lifted.specs.declared.schema.Literal as lifted_literal
use Rattle.hd_lifted.specs.declared.schema.Comparison as lifted_comparison
use Rattle.hd_lifted.specs.declared.schema.NumericEffect.{NumericEffect}
use Rattle.hd_lifted.specs.declared.schema.ChangeKind as lifted_change
use Rattle.hd_lifted.specs.declared.schema.ChangeKind.TheVariants as lifted_changes
use Rattle.hd_lifted.specs.States.{ground_form_of}
use Rattle.hd_task.specs.declared.condition.Literal.{Literal}
use Rattle.hd_task.specs.declared.effect.SumPart.{SumPart}
use Rattle.hd_task.specs.declared.effect.ValueChange.{ValueChange}
use Rattle.hd_task.specs.WellFormed.{reads_below, comparison_reads_below, term_reads_below, change_reads_below}
use Rattle.hd_lifted.specs.Met.{fluents_in, met_by_comparison, changed_by, met_by_effect}
use Rattle.hd_grounding.specs.Images.{number_of, if_any, numbers_of, literal_of, expression_of, comparison_of, term_by, term_of, change_by, change_of}
use Rattle.hd_task.specs.Conditions.{literal}
use Rattle.hd_grounding.proofs.Numbers.{number_of-place, number_of-there}
use Rattle.hd_grounding.proofs.Named.{below}

-- ---- numbers

pub if_any-some : {X : Type 0} (o : Option X) (x : X) → Contains (if_any o) x → o ≡ Some x
if_any-some None x c = absurd (Contains-nil x c)
if_any-some (Some y) x c = elim (Contains-cons_cases y [] x c) [ inl e ↦ ap Some e | inr c ↦ absurd (Contains-nil x c) ]

pub number_below : (forms : List Ground) (g : Ground) (k : ℕ) → number_of forms g ≡ Some k → nat_lt k (length forms) ≡ true
number_below forms g k e = below forms k g (number_of-place forms g k e)

pub numbers_below : (forms : List Ground) (objects : List ℕ) (xs : List AppliedSymbol) → list_all (λ i. nat_lt i (length forms)) (numbers_of forms objects xs) ≡ true
numbers_below forms objects xs =
    list_all-from_each (λ i. nat_lt i (length forms)) (numbers_of forms objects xs) (λ i c.
    let from = Contains-from_flat_map (λ a. if_any (number_of forms (ground_form_of objects a))) xs i c in
    number_below forms (ground_form_of objects from.0) i (if_any-some (number_of forms (ground_form_of objects from.0)) i from.2))

literal_below : (n : ℕ) (positive : Bool) (o : Option ℕ) (l : Literal) → ((k : ℕ) → o ≡ Some k → nat_lt k n ≡ true)
    → option_map (literal positive) o ≡ Some l → nat_lt l.atom n ≡ true
literal_below n positive None l each e = absurd (none-some l e)
literal_below n positive (Some k) l each e = subst (λ (m : Literal). nat_lt m.atom n ≡ true) (same_Some (literal positive k) l e) (each k refl)

pub literals_below : (forms : List Ground) (objects : List ℕ) (ls : List lifted_literal.Literal)
    → list_all (λ (l : Literal). nat_lt l.atom (length forms)) (flat_map (literal_of forms objects) ls) ≡ true
literals_below forms objects ls =
    list_all-from_each (λ (l : Literal). nat_lt l.atom (length forms)) (flat_map (literal_of forms objects) ls) (λ l c.
    let from = Contains-from_flat_map (literal_of forms objects) ls l c in
    let g = ground_form_of objects from.0.atom in
    literal_below (length forms) from.0.positive (number_of forms g) l (number_below forms g)
    (if_any-some (option_map (literal from.0.positive) (number_of forms g)) l from.2))

-- ---- expressions

module _ (fluents : List Ground) (objects : List ℕ) where
  abbrev pub AreRead : List Ground → Type 0
  AreRead met = (g : Ground) → Contains met g → Contains fluents g

  pub expression_reads : (e : Expression (Operand AppliedSymbol)) → AreRead (fluents_in objects e) → reads_below (length fluents) (expression_of fluents objects e) ≡ true
  expression_reads (leaf (Number v)) read = refl
  expression_reads (leaf (Fluent a)) read =
      let g = ground_form_of objects a in
      let k = number_of-there fluents g (read g (Contains-first g [])) in
      ap (λ o. reads_below (length fluents) (leaf (Fluent (unwrap_or o 0)))) k.is ∙ number_below fluents g k.number k.is
  expression_reads (negate x) read = expression_reads x read
  expression_reads (binary o x y) read =
      and_from (reads_below (length fluents) (expression_of fluents objects x)) (reads_below (length fluents) (expression_of fluents objects y))
      (expression_reads x (λ g c. read g (Contains-append_left (fluents_in objects x) (fluents_in objects y) g c)))
      (expression_reads y (λ g c. read g (Contains-append_right (fluents_in objects x) (fluents_in objects y) g c)))

  pub comparisons_read : (cs : List lifted_comparison.Comparison) → AreRead (flat_map (met_by_comparison objects) cs)
      → list_all (comparison_reads_below (length fluents)) (map (comparison_of fluents objects) cs) ≡ true
  comparisons_read [] read = refl
  comparisons_read (c ∷ cs) read =
      let one : AreRead (met_by_comparison objects c) = λ g m. read g (Contains-append_left (met_by_comparison objects c) (flat_map (met_by_comparison objects) cs) g m) in
      let rest : AreRead (flat_map (met_by_comparison objects) cs) =
      λ g m. read g (Contains-append_right (met_by_comparison objects c) (flat_map (met_by_comparison objects) cs) g m) in
      and_from (comparison_reads_below (length fluents) (comparison_of fluents objects c))
      (list_all (comparison_reads_below (length fluents)) (map (comparison_of fluents objects) cs))
      (and_from (reads_below (length fluents) (expression_of fluents objects c.left)) (reads_below (length fluents) (expression_of fluents objects c.right))
      (expression_reads c.left (λ g m. one g (Contains-append_left (fluents_in objects c.left) (fluents_in objects c.right) g m)))
      (expression_reads c.right (λ g m. one g (Contains-append_right (fluents_in objects c.left) (fluents_in objects c.right) g m))))
      (comparisons_read cs rest)

  -- ---- changes

  -- the amounts of these effects are read
  abbrev pub HaveReadAmounts : List NumericEffect → Type 0
  HaveReadAmounts es = (e : NumericEffect) → Contains es e → AreRead (fluents_in objects e.amount)

  pub amounts_read : (es : List NumericEffect) → AreRead (flat_map (met_by_effect objects) es) → HaveReadAmounts es
  amounts_read es read e among g c =
      read g (Contains-flat_map (met_by_effect objects) es e g among (Contains-append_right (changed_by objects e) (fluents_in objects e.amount) g c))

  term_reads : (n : ℕ) (c : lifted_change.ChangeKind) (x : Expression (Operand ℕ)) → reads_below n x ≡ true → term_reads_below n (term_by c x) ≡ true
  term_reads n lifted_changes.Assign x e = e
  term_reads n lifted_changes.ScaleUp x e = e
  term_reads n lifted_changes.Increase x e = e
  term_reads n lifted_changes.Decrease x e = e
  term_reads n lifted_changes.Cost x e = e

  change_reads : (n : ℕ) (c : lifted_change.ChangeKind) (x : Expression (Operand ℕ)) (terms : List SumPart)
      → reads_below n x ≡ true → list_all (term_reads_below n) terms ≡ true → change_reads_below n (change_by c x terms) ≡ true
  change_reads n lifted_changes.Assign x terms e all = e
  change_reads n lifted_changes.ScaleUp x terms e all = e
  change_reads n lifted_changes.Increase x terms e all = all
  change_reads n lifted_changes.Decrease x terms e all = all
  change_reads n lifted_changes.Cost x terms e all = all

  pub changes_read : (es : List NumericEffect) (c : ValueChange) → HaveReadAmounts es → change_of fluents objects es ≡ Some c → change_reads_below (length fluents) c ≡ true
  changes_read [] c read e = absurd (none-some c e)
  changes_read (f ∷ es) c read e =
      let n = length fluents in
      let x = expression_of fluents objects f.amount in
      let terms = map (term_of fluents objects) (f ∷ es) in
      let each : list_all (λ (h : NumericEffect). term_reads_below n (term_of fluents objects h)) (f ∷ es) ≡ true =
      list_all-from_each (λ (h : NumericEffect). term_reads_below n (term_of fluents objects h)) (f ∷ es)
      (λ h among. term_reads n h.change (expression_of fluents objects h.amount) (expression_reads h.amount (read h among))) in
      let all : list_all (term_reads_below n) terms ≡ true = list_all-map (term_reads_below n) (term_of fluents objects) (f ∷ es) ∙ each in
      subst (λ (d : ValueChange). change_reads_below n d ≡ true) (same_Some (change_by f.change x terms) c e)
      (change_reads n f.change x terms (expression_reads f.amount (read f (Contains-first f es))) all)
