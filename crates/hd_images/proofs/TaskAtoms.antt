-- The atoms that are reached and those that the goal names are the task's.
use Rattle.std.proofs.Common.{◌≢◌, ◌<◌, ◌↔◌, List, [], ◌++◌, length, Contains, inl, inr, subst}
use Rattle.std.specs.List.{AllPairs}
use Rattle.std.proofs.lemmas.List.Elements.{Contains-append_left, Contains-append_right, Contains-append_cases}
use Rattle.hd_base.proofs.Members.{Contains-nil, Contains-map, IsFrom-from_map}
use Rattle.hd_lifted.specs.declared.schema.Ground.{Ground}
use Rattle.hd_lifted.specs.declared.task.LiftedTask.{LiftedTask}
use Rattle.hd_lifted.specs.Kept.{IsReachable}
use Rattle.hd_lifted.specs.Numbering.{form_key, HasExactly, IsTaskAtom, reached, wanted, NumbersAtoms}
use Rattle.hd_grounding.specs.Faults.{IsTooLarge}
use Rattle.hd_images.specs.Meeting.{with_forms, goal_atom, goal_atoms}
use Rattle.hd_images.proofs.MeetingForms.{with_forms-second, with_forms-cases}

-- these are the atoms that can be reached
abbrev AreReached : LiftedTask → List Ground → Type 0
AreReached t atoms = (g : Ground) → IsReachable t g ↔ Contains atoms g

gathered : (t : LiftedTask) (atoms : List Ground) → AreReached t atoms → (g : Ground) → IsTaskAtom t g → Contains (with_forms [] (atoms ++ goal_atoms t)) g
gathered t atoms are g (reached r) =
    with_forms-second [] (atoms ++ goal_atoms t) g (Contains-append_left atoms (goal_atoms t) g ((are g).0 r))
gathered t atoms are g (wanted l c e) =
    with_forms-second [] (atoms ++ goal_atoms t) g
    (Contains-append_right atoms (goal_atoms t) g (subst (Contains (goal_atoms t)) e (Contains-map goal_atom t.goal.literals l c)))

is_atom : (t : LiftedTask) (atoms : List Ground) → AreReached t atoms → (g : Ground) → Contains (with_forms [] (atoms ++ goal_atoms t)) g → IsTaskAtom t g
is_atom t atoms are g c =
    elim (with_forms-cases [] (atoms ++ goal_atoms t) g c) [
      | inl k ↦ absurd (Contains-nil g k)
      | inr k ↦ elim (Contains-append_cases atoms (goal_atoms t) g k) [
        | inl m ↦ reached ((are g).1 m)
        | inr m ↦ let from = IsFrom-from_map goal_atom t.goal.literals g m in wanted from.source from.among from.is
      ]
    ]

pub NumbersAtoms-from_gathered : (t : LiftedTask) (atoms numbers : List Ground) → ((g : Ground) → IsReachable t g ↔ Contains atoms g)
    → HasExactly (Contains (with_forms [] (atoms ++ goal_atoms t))) form_key numbers → NumbersAtoms t numbers
NumbersAtoms-from_gathered t atoms numbers are numbered = record {
  exactly = λ g. (λ a. (numbered.exactly g).0 (gathered t atoms are g a), λ c. is_atom t atoms are g ((numbered.exactly g).1 c));
  rising = numbered.rising;
}

pub IsTooLarge-from_gathered : (t : LiftedTask) (reached : List Ground) → ((g : Ground) → IsReachable t g ↔ Contains reached g)
    → AllPairs (λ (g h : Ground). g ≢ h) (with_forms [] (reached ++ goal_atoms t)) → 1048576 < length (with_forms [] (reached ++ goal_atoms t))
    → IsTooLarge t
IsTooLarge-from_gathered t found are apart over =
    IsTooLarge.atoms (record { some = with_forms [] (found ++ goal_atoms t); all = is_atom t found are; distinct = apart; more = over })
