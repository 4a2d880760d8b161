-- In texts without a fault the metric's function is used as a cost alone.
use Rattle.hd_base.proofs.Tests.{position_or_len-lt}
use Rattle.hd_base.proofs.Options.{false-from_none, option_or_none, true-from_none}
use Rattle.std.proofs.Common.{◌≡◌, ◌≢◌, ℕ, ◌==◌, Bool, true, false, not, List, [], ◌∷◌, ◌++◌, map, length, get_or, Option, Some, None, refl, sym, ap, ◌∙◌, eq-eqb}
use Rattle.std.proofs.lemmas.Bool.{false≢true, lt-ltb, ne_eqb}
use Rattle.std.proofs.lemmas.Option.{none-some}
use Rattle.std.proofs.lemmas.List.Quantifiers.{position-Some}
use Rattle.std.proofs.lemmas.Slice.Eq.{bytes_eq-Decides}
use Rattle.std.specs.Prelude.{if◌then◌else◌}
use Rattle.std.specs.List.{AllByRecursion, position, prefix_len}
use Rattle.std.specs.Str.{bytes_eq}
use Rattle.hd_forms.specs.declared.word.ChangeWord as words
use Rattle.hd_forms.specs.declared.word.ChangeWord.TheVariants as changes
use Rattle.hd_terms.specs.declared.typed.ItemKind.TheVariants as kinds
use Rattle.hd_terms.specs.declared.tree.Atom.{Atom}
use Rattle.hd_terms.specs.declared.tree.Condition.{Condition}
use Rattle.hd_terms.specs.declared.tree.Condition.TheVariants as conditions
use Rattle.hd_terms.specs.declared.tree.Effect.{Effect}
use Rattle.hd_terms.specs.declared.tree.Effect.TheVariants as effects
use Rattle.hd_terms.specs.declared.tree.FluentChange.{FluentChange}
use Rattle.hd_base.specs.Expression as trees
use Rattle.hd_terms.specs.declared.tree.Leaf.{Leaf}
use Rattle.hd_terms.specs.declared.tree.Leaf.TheVariants.{Number, Fluent}
use Rattle.hd_pddl.specs.declared.tree.Action.{Action}
use Rattle.hd_pddl.specs.declared.tree.Init.{Init}
use Rattle.hd_pddl.specs.declared.tree.Init.TheVariants as inits
use Rattle.hd_lifted.specs.declared.task.InitialValue.{InitialValue}
use Rattle.hd_lifted.specs.Effects.{is_cost}
use Rattle.hd_names.specs.declared.fault.NameFault.TheVariants.{UnknownName}
use Rattle.hd_names.specs.declared.scope.Scope.{Scope}
use Rattle.hd_names.specs.declared.table.Table.{Table}
use Rattle.hd_base.specs.Options.{◌or◌}
use Rattle.hd_base.specs.Names.{is_named}
use Rattle.hd_names.specs.Names.{name_number, or_zero, unknown_in, spelled, duplicate_in, declared_fault}
use Rattle.hd_check.specs.Terms.{parameters_of, arity_fault, arguments_fault, applied_fault, expression_fault, lifted_expression}
use Rattle.hd_check.specs.Conditions.{part_fault, condition_fault, comparisons_in}
use Rattle.hd_check.specs.Effects.{effect_fault, effects_fault, change_fault, is_metric, lifted_change, lifted_effect, changes_in}
use Rattle.hd_check.specs.Schemas.{parameters_in, body_fault, action_fault, actions_fault, schema_with, lifted_schema}
use Rattle.hd_check.specs.Initial.{fluent_of, first_values}
use Rattle.hd_metric.specs.Metric.{read_in, read_by_part, read_by_condition, change_of_metric, misused_by_change, misused_by_effect, misused_by_action, misused_by_actions}
use Rattle.hd_check.specs.Fault.{name_fault}
use Rattle.hd_check.proofs.Telling.{name_none}
use Rattle.hd_lifted.specs.MetricUse.{IsFreeOf, ComparesWithout, IsCostOf, CountsCost}

-- ---- numbers of names

-- a name that is one of these has a place
position-there : (names : List (List ℕ)) (n : List ℕ) → is_named names n ≡ true → position (bytes_eq n) names ≡ Some (name_number names n)
position-there names n e =
    let lt = position_or_len-lt (bytes_eq n) names e in
    rw (lt-ltb (prefix_len (λ x. not (bytes_eq n x)) names) (length names) lt) refl

-- the number is the metric's for its name alone
same_name : (names : List (List ℕ)) (m n : List ℕ) (f : ℕ) → position (bytes_eq m) names ≡ Some f → is_named names n ≡ true
    → name_number names n ≡ f → bytes_eq n m ≡ true
same_name names m n f is named same =
    let first = position-Some (bytes_eq m) names f [] is in
    let second = position-Some (bytes_eq n) names (name_number names n) [] (position-there names n named) in
    let at_f : m ≡ get_or names f [] = (bytes_eq-Decides m (get_or names f [])).0 first.1 in
    let at_n : n ≡ get_or names (name_number names n) [] = (bytes_eq-Decides n (get_or names (name_number names n) [])).0 second.1 in
    (bytes_eq-Decides n m).1 (at_n ∙ ap (λ k. get_or names k []) same ∙ sym at_f)

same_number : (names : List (List ℕ)) (m n : List ℕ) (f : ℕ) → position (bytes_eq m) names ≡ Some f → bytes_eq n m ≡ true → name_number names n ≡ f
same_number names m n f is same =
    ap (λ (k : List ℕ). name_number names k) ((bytes_eq-Decides n m).0 same) ∙ ap or_zero is

other_number : (names : List (List ℕ)) (m n : List ℕ) (f : ℕ) → position (bytes_eq m) names ≡ Some f → is_named names n ≡ true
    → bytes_eq n m ≡ false → name_number names n ≢ f
other_number names m n f is named other same = false≢true (sym other ∙ same_name names m n f is named same)

fluent_named : (s : Scope) (ps : Table ℕ) (a : Atom) → applied_fault s.functions s ps a ≡ None → is_named s.functions.names a.name.name ≡ true
fluent_named s ps a e =
    let parts = option_or_none (name_fault (unknown_in kinds.Name s.functions.names a.name)) (arity_fault s.functions a or arguments_fault s ps a.terms (parameters_of s.functions a.name)) e in
    true-from_none (is_named s.functions.names a.name.name) (UnknownName (spelled kinds.Name a.name.name) a.name.at) (name_none (unknown_in kinds.Name s.functions.names a.name) parts.0)

-- ---- what reads it

-- an expression that doesn't read it
pub reads_not : (s : Scope) (ps : Table ℕ) (m : List ℕ) (f : ℕ) → position (bytes_eq m) s.functions.names ≡ Some f → (x : trees.Expression Leaf)
    → expression_fault s ps x ≡ None → read_in m x ≡ None → IsFreeOf f (lifted_expression s ps x)
reads_not s ps m f is (trees.leaf (Number at v)) e r = tt
reads_not s ps m f is (trees.leaf (Fluent a)) e r =
    other_number s.functions.names m a.name.name f is (fluent_named s ps a e) (false-from_none (bytes_eq a.name.name m) a.name.at r)
reads_not s ps m f is (trees.negate x) e r = reads_not s ps m f is x e r
reads_not s ps m f is (trees.binary o x y) e r =
    let parts = option_or_none (expression_fault s ps x) (expression_fault s ps y) e in
    let reads = option_or_none (read_in m x) (read_in m y) r in
    (reads_not s ps m f is x parts.0 reads.0, reads_not s ps m f is y parts.1 reads.1)

-- a condition that doesn't
pub compares_not : (s : Scope) (ps : Table ℕ) (m : List ℕ) (f : ℕ) → position (bytes_eq m) s.functions.names ≡ Some f → (cs : List Condition)
    → condition_fault s ps cs ≡ None → read_by_condition m cs ≡ None → AllByRecursion (ComparesWithout f) (comparisons_in s ps cs)
compares_not s ps m f is [] e r = tt
compares_not s ps m f is (conditions.Atom a ∷ cs) e r =
    compares_not s ps m f is cs (option_or_none (part_fault s ps (conditions.Atom a)) (condition_fault s ps cs) e).1 r
compares_not s ps m f is (conditions.NotAtom a ∷ cs) e r =
    compares_not s ps m f is cs (option_or_none (part_fault s ps (conditions.NotAtom a)) (condition_fault s ps cs) e).1 r
compares_not s ps m f is (conditions.Equal x y ∷ cs) e r =
    compares_not s ps m f is cs (option_or_none (part_fault s ps (conditions.Equal x y)) (condition_fault s ps cs) e).1 r
compares_not s ps m f is (conditions.NotEqual x y ∷ cs) e r =
    compares_not s ps m f is cs (option_or_none (part_fault s ps (conditions.NotEqual x y)) (condition_fault s ps cs) e).1 r
compares_not s ps m f is (conditions.Compare c ∷ cs) e r =
    let parts = option_or_none (part_fault s ps (conditions.Compare c)) (condition_fault s ps cs) e in
    let sides = option_or_none (expression_fault s ps c.left) (expression_fault s ps c.right) parts.0 in
    let reads = option_or_none (read_by_part m (conditions.Compare c)) (read_by_condition m cs) r in
    let both = option_or_none (read_in m c.left) (read_in m c.right) reads.0 in
    ((reads_not s ps m f is c.left sides.0 both.0, reads_not s ps m f is c.right sides.1 both.1), compares_not s ps m f is cs parts.1 reads.1)

-- ---- what changes it

-- only an increase of the metric is a cost
not_cost : (w : words.ChangeWord) → is_cost (lifted_change false w) ≡ false
not_cost changes.Assign = refl
not_cost changes.ScaleUp = refl
not_cost changes.Increase = refl
not_cost changes.Decrease = refl

a_cost : (m : List ℕ) (c : FluentChange) (w : words.ChangeWord) → change_of_metric m c w ≡ None
    → (is_cost (lifted_change true w) ≡ true) × (read_in m c.amount ≡ None)
a_cost m c changes.Assign e = absurd (none-some c.fluent.name.at (sym e))
a_cost m c changes.ScaleUp e = absurd (none-some c.fluent.name.at (sym e))
a_cost m c changes.Increase e = (refl, e)
a_cost m c changes.Decrease e = absurd (none-some c.fluent.name.at (sym e))

counts : (s : Scope) (ps : Table ℕ) (m : List ℕ) (f : ℕ) → position (bytes_eq m) s.functions.names ≡ Some f
    → s.metric ≡ Some f → (c : FluentChange) → change_fault s ps c ≡ None → misused_by_change m c ≡ None
    → IsCostOf f (lifted_effect s ps c)
counts s ps m f is metric c e r = by (bytes_eq c.fluent.name.name m) refl where
  by : (b : Bool) → bytes_eq c.fluent.name.name m ≡ b → IsCostOf f (lifted_effect s ps c)
  by true same =
      let told : change_of_metric m c c.change ≡ None =
      sym (ap (λ (b : Bool). if b then change_of_metric m c c.change else read_in m c.amount) same) ∙ r in
      let parts = option_or_none (applied_fault s.functions s ps c.fluent) (expression_fault s ps c.amount) e in
      let number : name_number s.functions.names c.fluent.name.name ≡ f = same_number s.functions.names m c.fluent.name.name f is same in
      let both = a_cost m c c.change told in
      let here : is_metric s.metric (name_number s.functions.names c.fluent.name.name) ≡ true =
      ap (λ (o : Option ℕ). is_metric o (name_number s.functions.names c.fluent.name.name)) metric ∙ eq-eqb f (name_number s.functions.names c.fluent.name.name) (sym number) in
      let cost : is_cost (lifted_change (is_metric s.metric (name_number s.functions.names c.fluent.name.name)) c.change) ≡ true =
      ap (λ (b : Bool). is_cost (lifted_change b c.change)) here ∙ both.0 in
      record {
        cost = cost ∙ sym (eq-eqb (name_number s.functions.names c.fluent.name.name) f number);
        amount = reads_not s ps m f is c.amount parts.1 both.1;
      }
  by false other =
      let told : read_in m c.amount ≡ None =
      sym (ap (λ (b : Bool). if b then change_of_metric m c c.change else read_in m c.amount) other) ∙ r in
      let parts = option_or_none (applied_fault s.functions s ps c.fluent) (expression_fault s ps c.amount) e in
      let number = other_number s.functions.names m c.fluent.name.name f is (fluent_named s ps c.fluent parts.0) other in
      let here : is_metric s.metric (name_number s.functions.names c.fluent.name.name) ≡ false =
      ap (λ (o : Option ℕ). is_metric o (name_number s.functions.names c.fluent.name.name)) metric
      ∙ ne_eqb f (name_number s.functions.names c.fluent.name.name) (λ same. number (sym same)) in
      let cost : is_cost (lifted_change (is_metric s.metric (name_number s.functions.names c.fluent.name.name)) c.change) ≡ false =
      ap (λ (b : Bool). is_cost (lifted_change b c.change)) here ∙ not_cost c.change in
      record {
        cost = cost ∙ sym (ne_eqb (name_number s.functions.names c.fluent.name.name) f number);
        amount = reads_not s ps m f is c.amount parts.1 told;
      }

changes_count : (s : Scope) (ps : Table ℕ) (m : List ℕ) (f : ℕ) → position (bytes_eq m) s.functions.names ≡ Some f
    → s.metric ≡ Some f → (es : List Effect) → effects_fault s ps es ≡ None → misused_by_effect m es ≡ None
    → AllByRecursion (IsCostOf f) (changes_in s ps es)
changes_count s ps m f is metric [] e r = tt
changes_count s ps m f is metric (effects.Add a ∷ es) e r =
    changes_count s ps m f is metric es (option_or_none (effect_fault s ps (effects.Add a)) (effects_fault s ps es) e).1 r
changes_count s ps m f is metric (effects.Delete a ∷ es) e r =
    changes_count s ps m f is metric es (option_or_none (effect_fault s ps (effects.Delete a)) (effects_fault s ps es) e).1 r
changes_count s ps m f is metric (effects.Change c ∷ es) e r =
    let parts = option_or_none (change_fault s ps c) (effects_fault s ps es) e in
    let uses = option_or_none (misused_by_change m c) (misused_by_effect m es) r in
    (counts s ps m f is metric c parts.0 uses.0, changes_count s ps m f is metric es parts.1 uses.1)

schema_counts : (s : Scope) (ps : Table ℕ) (m : List ℕ) (f : ℕ) → position (bytes_eq m) s.functions.names ≡ Some f
    → s.metric ≡ Some f → (a : Action) → body_fault s ps a ≡ None → misused_by_action m a ≡ None → CountsCost f (schema_with s ps a)
unfolding body_fault schema_with
schema_counts s ps m f is metric a e r =
    let parts = option_or_none (condition_fault s ps a.precondition) (effects_fault s ps a.effect) e in
    let uses = option_or_none (read_by_condition m a.precondition) (misused_by_effect m a.effect) r in
    record {
      comparisons = compares_not s ps m f is a.precondition parts.0 uses.0;
      effects = changes_count s ps m f is metric a.effect parts.1 uses.1;
    }

action_counts : (s : Scope) (m : List ℕ) (f : ℕ) → position (bytes_eq m) s.functions.names ≡ Some f
    → s.metric ≡ Some f → (a : Action) → action_fault s a ≡ None → misused_by_action m a ≡ None → CountsCost f (lifted_schema s a)
unfolding action_fault lifted_schema
action_counts s m f is metric a e r =
    let parts = option_or_none (name_fault (declared_fault kinds.Variable s.types [] a.parameters)) (body_fault s (parameters_in s a) a) e in
    schema_counts s (parameters_in s a) m f is metric a parts.1 r

-- actions that use the metric's function as they may
pub actions_count : (s : Scope) (m : List ℕ) (f : ℕ) → position (bytes_eq m) s.functions.names ≡ Some f
    → s.metric ≡ Some f → (names : List (List ℕ)) (as' : List Action) → actions_fault s names as' ≡ None
    → misused_by_actions m as' ≡ None → AllByRecursion (CountsCost f) (map (lifted_schema s) as')
actions_count s m f is metric names [] e r = tt
actions_count s m f is metric names (a ∷ as') e r =
    let parts = option_or_none (name_fault (duplicate_in kinds.Name names a.name)) (action_fault s a or actions_fault s (names ++ a.name.name ∷ []) as') e in
    let later = option_or_none (action_fault s a) (actions_fault s (names ++ a.name.name ∷ []) as') parts.1 in
    let uses = option_or_none (misused_by_action m a) (misused_by_actions m as') r in
    (action_counts s m f is metric a later.0 uses.0, actions_count s m f is metric (names ++ a.name.name ∷ []) as' later.1 uses.1)

-- ---- first values

other_value : (f k : ℕ) (b : Bool) (v : InitialValue) (vs : List InitialValue) → b ≡ (f == k) → v.fluent.symbol ≡ k
    → AllByRecursion (λ (w : InitialValue). w.fluent.symbol ≢ f) vs
    → AllByRecursion (λ (w : InitialValue). w.fluent.symbol ≢ f) ((if b then [] else v ∷ []) ++ vs)
other_value f k true v vs is same others = others
other_value f k false v vs is same others = ((λ e. false≢true (is ∙ eq-eqb f k (sym e ∙ same))), others)

-- no first value is of the metric's function
pub values_without : (s : Scope) (f : ℕ) → s.metric ≡ Some f → (is : List Init)
    → AllByRecursion (λ (v : InitialValue). v.fluent.symbol ≢ f) (first_values s is)
values_without s f metric [] = tt
values_without s f metric (inits.Atom a ∷ is) = values_without s f metric is
values_without s f metric (inits.NotAtom a ∷ is) = values_without s f metric is
values_without s f metric (inits.Value v ∷ is) =
    other_value f (name_number s.functions.names v.fluent.name.name) (is_metric s.metric (name_number s.functions.names v.fluent.name.name))
    (record { fluent = fluent_of s v; value = v.value }) (first_values s is)
    (ap (λ (o : Option ℕ). is_metric o (name_number s.functions.names v.fluent.name.name)) metric) refl (values_without s f metric is)
