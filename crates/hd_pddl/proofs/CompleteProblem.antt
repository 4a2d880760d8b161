-- What the grammar says of problems is read.
use Rattle.std.proofs.Common.{◌≡◌, ℕ, false, List, [], ◌∷◌, ◌++◌, Option, Some, None, refl, sym, ap, ◌∙◌, append_assoc}
use Rattle.std.proofs.lemmas.List.{append-nil}
use Rattle.std.specs.Prelude.{codes}
use Rattle.std.specs.Str.{bytes_eq}
use Rattle.hd_forms.specs.declared.names.NameAt.{NameAt}
use Rattle.hd_forms.specs.Forms.{Forms}
use Rattle.hd_terms.specs.Atoms as a
use Rattle.hd_terms.specs.declared.tree.Condition.{Condition}
use Rattle.hd_terms.proofs.CompleteParts.{atom_of-IsAtom}
use Rattle.hd_terms.proofs.CompleteLists.{negated_atom_of-IsAtom, condition_at-AreConditions}
use Rattle.hd_pddl.specs.declared.tree.Init.{Init}
use Rattle.hd_pddl.specs.declared.tree.ProblemAst.{ProblemAst}
use Rattle.hd_pddl.specs.Sections as s
use Rattle.hd_pddl.specs.Problem as g
use Rattle.hd_pddl.specs.Problem.{HasDomainName, IsInitial, AreInitial, HasInit, HasGoal, IsMetric, IsProblem}
use Rattle.hd_pddl.specs.Reading.{section_at, head_at, names_of, names_at, problem_domain_at, value_of, initial_of, initial_after, init_at, goal_at, metric_in, metric_of, problem_in, problem_of}
use Rattle.hd_pddl.proofs.CompleteSections.{section_at-IsSection, section_at-other, items_or-HasItems, section_at-HasItems, names_of-AreTyped, behind_requirements-SkipsRequirements}

initial_of-IsInitial : {f : Forms} {i : Init} → IsInitial f i → initial_of f ≡ Some i
unfolding initial_of value_of
initial_of-IsInitial (g.atom (a.atom {at = at} {n = n} r)) = rw (atom_of-IsAtom (a.atom {at = at} {n = n} r)) refl
initial_of-IsInitial (g.not_atom {c = c} {d = d} p) = rw (negated_atom_of-IsAtom c d p) refl
initial_of-IsInitial (g.value p) = rw (atom_of-IsAtom p) refl

initial_after-AreInitial : {f : Forms} {is : List Init} → AreInitial f is
    → (found : List Init) → initial_after f found ≡ Some (found ++ is)
unfolding initial_after
initial_after-AreInitial g.end found = ap Some (sym (append-nil found))
initial_after-AreInitial (g.one {i = i} {is = is} p r) found =
    rw (initial_of-IsInitial p) (initial_after-AreInitial r (found ++ i ∷ []) ∙ ap Some (append_assoc found (i ∷ []) is))

problem_domain_at-HasDomainName : {f more : Forms} {n : NameAt} → HasDomainName f n more → problem_domain_at f ≡ Some (n, more)
unfolding problem_domain_at
problem_domain_at-HasDomainName (g.domain t) = rw (section_at-IsSection (codes "domain") refl t) refl

init_at-HasInit : {f more : Forms} {is : List Init} → HasInit f is more → init_at f ≡ Some (is, more)
unfolding init_at
init_at-HasInit (g.init t p) = rw (section_at-IsSection (codes "init") refl t, initial_after-AreInitial p []) refl

-- the initial facts are no other section
section_at-HasInit : (k : List ℕ) {f more : Forms} {is : List Init} → bytes_eq (codes "init") k ≡ false → HasInit f is more
    → section_at k f ≡ None
section_at-HasInit k other (g.init t p) = section_at-other (codes "init") k other t

goal_at-HasGoal : {f more : Forms} {cs : List Condition} → HasGoal f cs more → goal_at f ≡ Some (cs, more)
unfolding goal_at
goal_at-HasGoal (g.goal t p) = rw (section_at-IsSection (codes "goal") refl t, condition_at-AreConditions p) refl

metric_of-IsMetric : {f : Forms} {m : Option NameAt} → IsMetric f m → metric_of f ≡ Some m
unfolding metric_of metric_in
metric_of-IsMetric g.absent = refl
metric_of-IsMetric (g.present s.section) = refl

pub problem_of-IsProblem : {f : Forms} {t : ProblemAst} → IsProblem f t → problem_of f ≡ Some t
unfolding problem_of problem_in head_at names_at
problem_of-IsProblem (g.problem s.define d q os is c m) =
    let objects = codes "objects" in
    let requirements = codes "requirements" in
    rw (
      problem_domain_at-HasDomainName d,
      behind_requirements-SkipsRequirements q (section_at-HasItems objects requirements refl os (section_at-HasInit requirements refl is)),
      items_or-HasItems names_of names_of-AreTyped objects refl os (section_at-HasInit objects refl is),
      init_at-HasInit is,
      goal_at-HasGoal c,
      metric_of-IsMetric m,
    ) refl
