-- A condition holds in a state of the domain exactly where its image holds in the task's.
use Rattle.std.proofs.Common.{◌≡◌, ℕ, Bool, true, false, not, ◌&&◌, List, [], ◌∷◌, map, Contains, Option, Some, None, refl, sym, ap, ◌∙◌}
use Rattle.std.specs.Prelude.{if◌then◌else◌, flat_map, option_map, unwrap_or, neg_ℤ}
use Rattle.std.specs.List.{list_all}
use Rattle.std.proofs.lemmas.List.Folds.{list_all-append}
use Rattle.std.proofs.lemmas.List.Elements.{Contains-append_left, Contains-append_right}
use Rattle.hd_base.specs.declared.expression.Operand.{Operand}
use Rattle.hd_base.specs.declared.expression.Operand.TheVariants.{Number, Fluent}
use Rattle.hd_base.specs.Expression.{Expression, leaf, negate, binary}
use Rattle.hd_base.specs.Numbers.{result_of}
use Rattle.hd_base.specs.Values.{of_both}
use Rattle.hd_base.proofs.Members.{Contains-first, Contains-later}
use Rattle.hd_lifted.specs.declared.schema.AppliedSymbol.{AppliedSymbol}
use Rattle.hd_lifted.specs.declared.schema.Ground.{Ground}
use Rattle.hd_lifted.specs.declared.schema.Literal as lifted_literal
use Rattle.hd_lifted.specs.declared.schema.Comparison as lifted_comparison
use Rattle.hd_lifted.specs.declared.schema.Condition as lifted_condition
use Rattle.hd_lifted.specs.States as domain
use Rattle.hd_lifted.specs.Expressions as lifted_value
use Rattle.hd_lifted.specs.Conditions as meaning
use Rattle.hd_task.specs.declared.state.State.{State}
use Rattle.hd_task.specs.Conditions.{has_atom, literal_holds, comparison_holds, literals_hold, holds}
use Rattle.hd_task.specs.Expressions.{fluent_of, value_of}
use Rattle.hd_lifted.specs.Met.{fluents_in, met_by_comparison}
use Rattle.hd_lifted.proofs.Sound.{and-true}
use Rattle.hd_grounding.specs.Images.{number_of, if_any, literal_of, expression_of, comparison_of, condition_of}
use Rattle.hd_task.specs.Conditions.{literal}
use Rattle.hd_grounding.specs.Agreement.{Agree, IsNumbered}
use Rattle.hd_grounding.proofs.Numbers.{number_of-place, number_of-none, number_of-there}

module _ (atoms fluents : List Ground) (s : domain.State) (n : State) (agree : Agree atoms fluents s n) (objects : List ℕ) where
  -- ---- expressions

  fluent_agrees : (g : Ground) → Contains fluents g → s.values g ≡ Some (fluent_of n.fluents (unwrap_or (number_of fluents g) 0))
  fluent_agrees g c =
      let k = number_of-there fluents g c in
      agree.same_values k.number g k.place ∙ ap (λ o. Some (fluent_of n.fluents (unwrap_or o 0))) (sym k.is)

  pub value_agrees :
      (e : Expression (Operand AppliedSymbol)) → ((g : Ground) → Contains (fluents_in objects e) g → Contains fluents g)
      → lifted_value.value_of s.values objects e ≡ Some (value_of n.fluents (expression_of fluents objects e))
  value_agrees (leaf (Number v)) read = refl
  value_agrees (leaf (Fluent a)) read = fluent_agrees (domain.ground_form_of objects a) (read (domain.ground_form_of objects a) (Contains-first (domain.ground_form_of objects a) []))
  value_agrees (negate x) read = ap (option_map neg_ℤ) (value_agrees x read)
  value_agrees (binary o x y) read =
      let left = value_agrees x (λ g c. read g (Contains-append_left (fluents_in objects x) (fluents_in objects y) g c)) in
      let right = value_agrees y (λ g c. read g (Contains-append_right (fluents_in objects x) (fluents_in objects y) g c)) in
      ap (λ v. of_both (result_of o) v (lifted_value.value_of s.values objects y)) left
      ∙ ap (of_both (result_of o) (Some (value_of n.fluents (expression_of fluents objects x)))) right

  -- ---- comparisons

  comparison_agrees :
      (c : lifted_comparison.Comparison) → ((g : Ground) → Contains (met_by_comparison objects c) g → Contains fluents g)
      → meaning.comparison_holds s.values objects c ≡ comparison_holds n.fluents (comparison_of fluents objects c)
  comparison_agrees c read =
      let left = value_agrees c.left (λ g k. read g (Contains-append_left (fluents_in objects c.left) (fluents_in objects c.right) g k)) in
      let right = value_agrees c.right (λ g k. read g (Contains-append_right (fluents_in objects c.left) (fluents_in objects c.right) g k)) in
      ap (λ v. meaning.relation_holds_if c.relation v (lifted_value.value_of s.values objects c.right)) left
      ∙ ap (meaning.relation_holds_if c.relation (Some (value_of n.fluents (expression_of fluents objects c.left)))) right

  comparisons_agree :
      (cs : List lifted_comparison.Comparison) → ((g : Ground) → Contains (flat_map (met_by_comparison objects) cs) g → Contains fluents g)
      → list_all (meaning.comparison_holds s.values objects) cs ≡ list_all (comparison_holds n.fluents) (map (comparison_of fluents objects) cs)
  comparisons_agree [] read = refl
  comparisons_agree (c ∷ cs) read =
      let first = comparison_agrees c (λ g k. read g (Contains-append_left (met_by_comparison objects c) (flat_map (met_by_comparison objects) cs) g k)) in
      let rest = comparisons_agree cs (λ g k. read g (Contains-append_right (met_by_comparison objects c) (flat_map (met_by_comparison objects) cs) g k)) in
      ap (λ b. b && list_all (meaning.comparison_holds s.values objects) cs) first
      ∙ ap (λ b. comparison_holds n.fluents (comparison_of fluents objects c) && b) rest

  -- ---- literals

  literal_agrees :
      (positive : Bool) (g : Ground) (o : Option ℕ) → number_of atoms g ≡ o → (positive ≡ true → Contains atoms g)
      → (if positive then s.atoms g else not (s.atoms g)) ≡ list_all (literal_holds n) (if_any (option_map (literal positive) o))
  literal_agrees true g None e wanted = absurd (number_of-none atoms g e (wanted refl))
  literal_agrees false g None e wanted = ap not (agree.others g (number_of-none atoms g e))
  literal_agrees positive g (Some k) e wanted =
      ap (λ b. if positive then b else not b) (agree.same_atoms k g (number_of-place atoms g k e))
      ∙ sym (and-true (if positive then has_atom n k else not (has_atom n k)))

  literals_agree :
      (ls : List lifted_literal.Literal)
      → ((l : lifted_literal.Literal) → Contains ls l → l.positive ≡ true → Contains atoms (domain.ground_form_of objects l.atom))
      → list_all (meaning.literal_holds s.atoms objects) ls ≡ list_all (literal_holds n) (flat_map (literal_of atoms objects) ls)
  literals_agree [] wanted = refl
  literals_agree (l ∷ ls) wanted =
      let g = domain.ground_form_of objects l.atom in
      let first = literal_agrees l.positive g (number_of atoms g) refl (wanted l (Contains-first l ls)) in
      let rest = literals_agree ls (λ m c. wanted m (Contains-later l ls m c)) in
      ap (λ b. b && list_all (meaning.literal_holds s.atoms objects) ls) first
      ∙ (ap (λ b. list_all (literal_holds n) (literal_of atoms objects l) && b) rest
      ∙ sym (list_all-append (literal_holds n) (literal_of atoms objects l) (flat_map (literal_of atoms objects) ls)))

  -- ---- conditions

  turned : (a b : Bool) → (a && b) ≡ (not (not b) && a)
  turned true true = refl
  turned true false = refl
  turned false true = refl
  turned false false = refl

  -- the conditions on atoms and objects hold in both or in neither
  pub atoms_hold_alike : (c : lifted_condition.Condition) → IsNumbered atoms fluents objects c → meaning.literals_hold s objects c ≡ literals_hold n (condition_of atoms fluents objects c)
  atoms_hold_alike c numbered =
      let equal = list_all (meaning.equality_holds objects) c.equalities in
      ap (λ b. b && equal) (literals_agree c.literals numbered.wanted)
      ∙ turned (list_all (literal_holds n) (flat_map (literal_of atoms objects) c.literals)) equal

  pub condition_agrees :
      (c : lifted_condition.Condition) → IsNumbered atoms fluents objects c
      → meaning.holds s objects c ≡ holds n (condition_of atoms fluents objects c)
  unfolding meaning.holds holds
  condition_agrees c numbered =
      ap (λ b. b && meaning.comparisons_hold s objects c) (atoms_hold_alike c numbered)
      ∙ ap (λ b. literals_hold n (condition_of atoms fluents objects c) && b) (comparisons_agree c.comparisons numbered.read)
