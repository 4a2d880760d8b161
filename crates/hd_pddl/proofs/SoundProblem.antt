-- What is read of problems is in the grammar.
use Rattle.std.proofs.Common.{◌≡◌, ℕ, ℤ, cond, List, [], ◌∷◌, ◌++◌, Option, Some, None, sym, ap, subst, ◌∙◌, append_assoc}
use Rattle.std.proofs.lemmas.Option.{same_Some}
use Rattle.hd_base.proofs.Options.{cond_then_some}
use Rattle.std.proofs.lemmas.List.{append-nil}
use Rattle.std.specs.Prelude.{codes}
use Rattle.hd_lex.specs.declared.token.Operator as signs
use Rattle.hd_lex.specs.declared.token.Operator.TheVariants.{Equal}
use Rattle.hd_forms.specs.declared.names.NameAt.{NameAt}
use Rattle.hd_forms.specs.declared.word.FormWord.TheVariants.{Not, Name, Keyword, Operator, Number}
use Rattle.hd_forms.specs.Forms.{Forms, none, word, list}
use Rattle.hd_base.specs.Options.{◌>>=◌}
use Rattle.hd_forms.specs.Reading.{name_at, number_at, group_at, end_at, forms_behind_name, forms_behind_keyword}
use Rattle.hd_forms.proofs.Inverting.{bind_some, end_at-some, group_at-some, name_at-some, number_at-some, forms_behind_name-some, forms_behind_keyword-some}
use Rattle.hd_terms.specs.declared.tree.Atom.{Atom}
use Rattle.hd_terms.specs.declared.tree.Condition.{Condition}
use Rattle.hd_terms.specs.declared.tree.Typed.{Typed}
use Rattle.hd_terms.specs.Reading.{is_equal, atom_of, negated_atom_of, condition_at}
use Rattle.hd_terms.proofs.SoundParts.{IsAtom-atom_of}
use Rattle.hd_terms.proofs.SoundLists.{IsNegated-negated_atom_of, is_equal-true, IsConditionAt-condition_at}
use Rattle.hd_pddl.specs.declared.tree.Init.{Init}
use Rattle.hd_pddl.specs.declared.tree.Init.TheVariants as inits
use Rattle.hd_pddl.specs.declared.tree.ProblemAst.{ProblemAst}
use Rattle.hd_pddl.specs.Sections as x
use Rattle.hd_pddl.specs.Sections.{IsSection}
use Rattle.hd_pddl.specs.Problem as g
use Rattle.hd_pddl.specs.Problem.{HasDomainName, initial_value, IsInitial, AreInitial, HasInit, HasGoal, IsMetric, made_problem, IsProblem}
use Rattle.hd_pddl.specs.Reading.{section_at, behind_requirements, head_at, names_at, problem_domain_at, value_of, initial_of, initial_after, init_at, goal_at, metric_in, metric_of, problem_in, problem_of}
use Rattle.hd_pddl.proofs.SoundSections.{IsSection-section_at, HasItems-names_at, SkipsRequirements-behind_requirements, IsDefinition-head_at}

HasDomainName-problem_domain_at : (f : Forms) (y : NameAt × Forms) → problem_domain_at f ≡ Some y → HasDomainName f y.0 y.1
unfolding problem_domain_at
HasDomainName-problem_domain_at f y e =
    let s =
    bind_some (section_at (codes "domain") f) (λ z. name_at z.0 >>= λ n. end_at n.1 >>= λ _. Some (n.0, z.1)) y e in
    let t = bind_some (name_at s.0.0) (λ n. end_at n.1 >>= λ _. Some (n.0, s.0.1)) y s.2 in
    let u = bind_some (end_at t.0.1) (λ _. Some (t.0.0, s.0.1)) y t.2 in
    let inside : s.0.0 ≡ word t.0.0.at (Name t.0.0.name) none =
    name_at-some s.0.0 t.0 t.1 ∙ ap (word t.0.0.at (Name t.0.0.name)) (end_at-some t.0.1 u.0 u.1) in
    let section : IsSection (codes "domain") f (word t.0.0.at (Name t.0.0.name) none) s.0.1 =
    subst (λ (z : Forms). IsSection (codes "domain") f z s.0.1) inside (IsSection-section_at (codes "domain") f s.0 s.1) in
    subst (λ (z : NameAt × Forms). HasDomainName f z.0 z.1) (same_Some (t.0.0, s.0.1) y u.2) (g.domain section)

-- ---- initial facts

IsInitial-negated_atom_of : (at : ℕ) (f : Forms) (i : Init) → (negated_atom_of f >>= λ t. Some (inits.NotAtom t)) ≡ Some i
    → IsInitial (word at Not f) i
IsInitial-negated_atom_of at f i e =
    let s = bind_some (negated_atom_of f) (λ t. Some (inits.NotAtom t)) i e in
    let p = IsNegated-negated_atom_of f s.0 s.1 in
    let made : IsInitial (word at Not (list p.alone.from p.inside p.alone.to none)) (inits.NotAtom s.0) = g.not_atom p.atom in
    subst (IsInitial (word at Not f)) (same_Some (inits.NotAtom s.0) i s.2)
    (subst (λ (z : Forms). IsInitial (word at Not z) (inits.NotAtom s.0)) p.alone.whole made)

abbrev v1 : Atom → ℤ × ℕ × Forms → Option Init
v1 t v = end_at v.2 >>= λ _. Some (initial_value t v.0 v.1)

abbrev v0 : Forms × Forms → Option Init
v0 z = atom_of z.0 >>= λ t. number_at z.1 >>= v1 t

IsInitial-value_of : (a : ℕ) (f : Forms) (i : Init) → value_of f ≡ Some i → IsInitial (word a (Operator Equal) f) i
unfolding value_of
IsInitial-value_of a f i e =
    let s = bind_some (group_at f) v0 i e in
    let t = bind_some (atom_of s.0.0) (λ t. number_at s.0.1 >>= v1 t) i s.2 in
    let u = bind_some (number_at s.0.1) (v1 t.0) i t.2 in
    let v = bind_some (end_at u.0.2) (λ _. Some (initial_value t.0 u.0.0 u.0.1)) i u.2 in
    let p = group_at-some f s.0 s.1 in
    let its = initial_value t.0 u.0.0 u.0.1 in
    let number : s.0.1 ≡ word u.0.1 (Number u.0.0) none =
    number_at-some s.0.1 u.0 u.1 ∙ ap (word u.0.1 (Number u.0.0)) (end_at-some u.0.2 v.0 v.1) in
    let whole : list p.0 s.0.0 p.1 (word u.0.1 (Number u.0.0) none) ≡ f = ap (list p.0 s.0.0 p.1) (sym number) ∙ sym p.2 in
    let made : IsInitial (word a (Operator Equal) (list p.0 s.0.0 p.1 (word u.0.1 (Number u.0.0) none))) its =
    g.value (IsAtom-atom_of s.0.0 t.0 t.1) in
    subst (IsInitial (word a (Operator Equal) f)) (same_Some its i v.2)
    (subst (λ (z : Forms). IsInitial (word a (Operator Equal) z) its) whole made)

IsInitial-operator : (a : ℕ) (o : signs.Operator) (f : Forms) (i : Init) → cond (is_equal o) (value_of f) None ≡ Some i
    → IsInitial (word a (Operator o) f) i
IsInitial-operator a o f i e =
    let t = cond_then_some (is_equal o) (value_of f) i e in
    subst (λ (q : signs.Operator). IsInitial (word a (Operator q) f) i) (sym (is_equal-true o t.0)) (IsInitial-value_of a f i t.1)

IsInitial-atom_of : (f : Forms) (i : Init) → (atom_of f >>= λ t. Some (inits.Atom t)) ≡ Some i → IsInitial f i
IsInitial-atom_of f i e =
    let s = bind_some (atom_of f) (λ t. Some (inits.Atom t)) i e in
    subst (IsInitial f) (same_Some (inits.Atom s.0) i s.2) (g.atom (IsAtom-atom_of f s.0 s.1))

IsInitial-initial_of : (f : Forms) (i : Init) → initial_of f ≡ Some i → IsInitial f i
unfolding initial_of
IsInitial-initial_of (word at Not rest) i e = IsInitial-negated_atom_of at rest i e
IsInitial-initial_of (word at (Operator o) rest) i e = IsInitial-operator at o rest i e
IsInitial-initial_of f i e = IsInitial-atom_of f i e

AreInitial-initial_after : (f : Forms) (found is : List Init) → initial_after f found ≡ Some is
    → (ms : List Init) × AreInitial f ms × (is ≡ found ++ ms)
unfolding initial_after
AreInitial-initial_after none found is e = ([], g.end, sym (same_Some found is e) ∙ sym (append-nil found))
AreInitial-initial_after (word at w rest) found is e = absurd cc
AreInitial-initial_after (list a inside b rest) found is e =
    let s = bind_some (initial_of inside) (λ i. initial_after rest (found ++ i ∷ [])) is e in
    let q = AreInitial-initial_after rest (found ++ s.0 ∷ []) is s.2 in
    (s.0 ∷ q.0, g.one (IsInitial-initial_of inside s.0 s.1) q.1, q.2 ∙ append_assoc found (s.0 ∷ []) q.0)

HasInit-init_at : (f : Forms) (y : List Init × Forms) → init_at f ≡ Some y → HasInit f y.0 y.1
unfolding init_at
HasInit-init_at f y e =
    let s = bind_some (section_at (codes "init") f) (λ z. initial_after z.0 [] >>= λ is. Some (is, z.1)) y e in
    let t = bind_some (initial_after s.0.0 []) (λ is. Some (is, s.0.1)) y s.2 in
    let q = AreInitial-initial_after s.0.0 [] t.0 t.1 in
    let made : HasInit f t.0 s.0.1 =
    g.init (IsSection-section_at (codes "init") f s.0 s.1) (subst (AreInitial s.0.0) (sym q.2) q.1) in
    subst (λ (z : List Init × Forms). HasInit f z.0 z.1) (same_Some (t.0, s.0.1) y t.2) made

-- ---- goal and metric

HasGoal-goal_at : (f : Forms) (y : List Condition × Forms) → goal_at f ≡ Some y → HasGoal f y.0 y.1
unfolding goal_at
HasGoal-goal_at f y e =
    let s =
    bind_some (section_at (codes "goal") f) (λ z. condition_at z.0 >>= λ c. end_at c.1 >>= λ _. Some (c.0, z.1)) y e in
    let t = bind_some (condition_at s.0.0) (λ c. end_at c.1 >>= λ _. Some (c.0, s.0.1)) y s.2 in
    let u = bind_some (end_at t.0.1) (λ _. Some (t.0.0, s.0.1)) y t.2 in
    let c = IsConditionAt-condition_at s.0.0 t.0 t.1 in
    let inside : s.0.0 ≡ list c.from c.inside c.to none = sym c.whole ∙ ap (list c.from c.inside c.to) (end_at-some t.0.1 u.0 u.1) in
    let section : IsSection (codes "goal") f (list c.from c.inside c.to none) s.0.1 =
    subst (λ (z : Forms). IsSection (codes "goal") f z s.0.1) inside (IsSection-section_at (codes "goal") f s.0 s.1) in
    subst (λ (z : List Condition × Forms). HasGoal f z.0 z.1) (same_Some (t.0.0, s.0.1) y u.2) (g.goal section c.are)

-- what stands in a metric, its closing parentheses left out
abbrev metric_forms : ℕ → ℕ → ℕ → NameAt → ℕ → Forms
metric_forms k m b n c =
    word k (Keyword (codes "metric")) (word m (Name (codes "minimize")) (list b (word n.at (Name n.name) none) c none))

-- these forms stand in a metric
record IsMetricOf (f : Forms) (n : NameAt) : Type 0 where
  k : ℕ
  m : ℕ
  b : ℕ
  c : ℕ
  whole : metric_forms k m b n c ≡ f

abbrev m3 : Forms → NameAt × Forms → Option NameAt
m3 more n = end_at n.1 >>= λ _. end_at more >>= λ _. Some n.0

abbrev m2 : Forms × Forms → Option NameAt
m2 z = name_at z.0 >>= m3 z.1

abbrev m1 : Forms → Option NameAt
m1 f = group_at f >>= m2

abbrev m0 : Forms → Option NameAt
m0 f = forms_behind_name (codes "minimize") f >>= m1

IsMetricOf-metric_in : (f : Forms) (n : NameAt) → metric_in f ≡ Some n → IsMetricOf f n
unfolding metric_in
IsMetricOf-metric_in f n e =
    let s0 = bind_some (forms_behind_keyword (codes "metric") f) m0 n e in
    let s1 = bind_some (forms_behind_name (codes "minimize") s0.0) m1 n s0.2 in
    let s2 = bind_some (group_at s1.0) m2 n s1.2 in
    let s3 = bind_some (name_at s2.0.0) (m3 s2.0.1) n s2.2 in
    let s4 = bind_some (end_at s3.0.1) (λ _. end_at s2.0.1 >>= λ _. Some s3.0.0) n s3.2 in
    let s5 = bind_some (end_at s2.0.1) (λ _. Some s3.0.0) n s4.2 in
    let keyword = forms_behind_keyword-some (codes "metric") f s0.0 s0.1 in
    let minimize = forms_behind_name-some (codes "minimize") s0.0 s1.0 s1.1 in
    let group = group_at-some s1.0 s2.0 s2.1 in
    let its_name = name_at-some s2.0.0 s3.0 s3.1 in
    let alone = end_at-some s3.0.1 s4.0 s4.1 in
    let last = end_at-some s2.0.1 s5.0 s5.1 in
    let whole : metric_forms keyword.0 minimize.0 group.0 s3.0.0 group.1 ≡ f = cc in
    subst (IsMetricOf f) (same_Some s3.0.0 n s5.2)
    (record { k = keyword.0; m = minimize.0; b = group.0; c = group.1; whole = whole })

IsMetric-metric_of : (f : Forms) (m : Option NameAt) → metric_of f ≡ Some m → IsMetric f m
unfolding metric_of
IsMetric-metric_of none m e = subst (IsMetric none) (same_Some None m e) g.absent
IsMetric-metric_of (word at w rest) m e = absurd cc
IsMetric-metric_of (list a inside b rest) m e =
    let s = bind_some (metric_in inside) (λ n. end_at rest >>= λ _. Some (Some n)) m e in
    let t = bind_some (end_at rest) (λ _. Some (Some s.0)) m s.2 in
    let p = IsMetricOf-metric_in inside s.0 s.1 in
    let last = end_at-some rest t.0 t.1 in
    let whole : list a (metric_forms p.k p.m p.b s.0 p.c) b none ≡ list a inside b rest =
    ap (λ (z : Forms). list a z b none) p.whole ∙ ap (list a inside b) (sym last) in
    let made : IsMetric (list a (metric_forms p.k p.m p.b s.0 p.c) b none) (Some s.0) = g.present x.section in
    subst (IsMetric (list a inside b rest)) (same_Some (Some s.0) m t.2)
    (subst (λ (z : Forms). IsMetric z (Some s.0)) whole made)

-- ---- problems

abbrev p5 : NameAt → NameAt → List Typed → List Init → List Condition × Forms → Option ProblemAst
p5 n d os is goal = metric_of goal.1 >>= λ m. Some (made_problem n d os is goal.0 m)

abbrev p4 : NameAt → NameAt → List Typed → List Init × Forms → Option ProblemAst
p4 n d os is = goal_at is.1 >>= p5 n d os is.0

abbrev p3 : NameAt → NameAt → List Typed × Forms → Option ProblemAst
p3 n d os = init_at os.1 >>= p4 n d os.0

abbrev p2 : NameAt → NameAt → Forms → Option ProblemAst
p2 n d later = names_at (codes "objects") later >>= p3 n d

abbrev p1 : NameAt → NameAt × Forms → Option ProblemAst
p1 n its = behind_requirements its.1 >>= p2 n its.0

abbrev p0 : NameAt × Forms → Option ProblemAst
p0 head = problem_domain_at head.1 >>= p1 head.0

IsProblem-problem_in : (f inside : Forms) (t : ProblemAst) (a b : ℕ) → f ≡ list a inside b none → problem_in inside ≡ Some t
    → IsProblem f t
unfolding problem_in
IsProblem-problem_in f inside t a b outer e =
    let s0 = bind_some (head_at (codes "problem") inside) p0 t e in
    let s1 = bind_some (problem_domain_at s0.0.1) (p1 s0.0.0) t s0.2 in
    let s2 = bind_some (behind_requirements s1.0.1) (p2 s0.0.0 s1.0.0) t s1.2 in
    let s3 = bind_some (names_at (codes "objects") s2.0) (p3 s0.0.0 s1.0.0) t s2.2 in
    let s4 = bind_some (init_at s3.0.1) (p4 s0.0.0 s1.0.0 s3.0.0) t s3.2 in
    let s5 = bind_some (goal_at s4.0.1) (p5 s0.0.0 s1.0.0 s3.0.0 s4.0.0) t s4.2 in
    let s6 =
    bind_some (metric_of s5.0.1) (λ m. Some (made_problem s0.0.0 s1.0.0 s3.0.0 s4.0.0 s5.0.0 m)) t s5.2 in
    let its = made_problem s0.0.0 s1.0.0 s3.0.0 s4.0.0 s5.0.0 s6.0 in
    let is : IsProblem f its =
    g.problem (IsDefinition-head_at (codes "problem") f inside s0.0 a b outer s0.1) (HasDomainName-problem_domain_at s0.0.1 s1.0 s1.1)
    (SkipsRequirements-behind_requirements s1.0.1 s2.0 s2.1) (HasItems-names_at (codes "objects") s2.0 s3.0 s3.1) (HasInit-init_at s3.0.1 s4.0 s4.1)
    (HasGoal-goal_at s4.0.1 s5.0 s5.1) (IsMetric-metric_of s5.0.1 s6.0 s6.1) in
    subst (IsProblem f) (same_Some its t s6.2) is

pub IsProblem-problem_of : (f : Forms) (t : ProblemAst) → problem_of f ≡ Some t → IsProblem f t
unfolding problem_of
IsProblem-problem_of f t e =
    let s0 = bind_some (group_at f) (λ x. problem_in x.0 >>= λ tree. end_at x.1 >>= λ _. Some tree) t e in
    let s1 = bind_some (problem_in s0.0.0) (λ tree. end_at s0.0.1 >>= λ _. Some tree) t s0.2 in
    let s2 = bind_some (end_at s0.0.1) (λ _. Some s1.0) t s1.2 in
    let p = group_at-some f s0.0 s0.1 in
    let outer : f ≡ list p.0 s0.0.0 p.1 none = p.2 ∙ ap (list p.0 s0.0.0 p.1) (end_at-some s0.0.1 s2.0 s2.1) in
    subst (IsProblem f) (same_Some s1.0 t s2.2) (IsProblem-problem_in f s0.0.0 s1.0 p.0 p.1 outer s1.1)
