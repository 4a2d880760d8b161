-- The states of a lifted task: which ground atoms are true, and what values the ground fluents have
-- (PDDL 2.1).
use Rattle.std.specs.Prelude.{ℕ, Bool, ◌&&◌, ◌==◌, List, map, Option, ℤ, find, nat_eq, option_map, slice_index_or}
use Rattle.std.specs.List.{list_any}
use Rattle.std.specs.Cmp.Lexicographic.{pointwise}
use Rattle.hd_lifted.specs.declared.schema.Argument.{Argument}
use Rattle.hd_lifted.specs.declared.schema.Argument.TheVariants.{Parameter, Object}
use Rattle.hd_lifted.specs.declared.schema.AppliedSymbol.{AppliedSymbol}
use Rattle.hd_lifted.specs.declared.schema.Ground.{Ground}
use Rattle.hd_lifted.specs.declared.task.InitialValue.{InitialValue}
use Rattle.hd_lifted.specs.declared.task.LiftedTask.{LiftedTask}

-- the values of the ground fluents: a fluent may have none
abbrev pub Values : Type 0
Values = Ground → Option ℤ

-- a state: the atoms that are true, and the values
pub record State : Type 0 where
  pub atoms : Ground → Bool
  pub values : Values

-- ---- ground forms

-- two ground forms are the same: they have one symbol and the same objects, place by place
abbrev pub same : Ground → Ground → Bool
same g h = (g.symbol == h.symbol) && pointwise nat_eq g.objects h.objects

-- the object that an argument stands for, where the parameters stand for these objects
abbrev pub object_of : List ℕ → Argument → ℕ
object_of objects (Parameter k) = slice_index_or objects k 0
object_of objects (Object o) = o

-- an atom or a fluent with objects in the place of its arguments
abbrev pub ground_form_of : List ℕ → AppliedSymbol → Ground
ground_form_of objects a = record { symbol = a.symbol; objects = map (object_of objects) a.arguments }

-- ---- the initial state

-- an atom is true at first if it is listed
abbrev pub is_listed : List Ground → Ground → Bool
is_listed atoms g = list_any (λ a. same a g) atoms

-- the first value that is listed for a fluent, if there is one
abbrev pub first_value : List InitialValue → Ground → Option ℤ
first_value values g = option_map (λ (i : InitialValue). i.value) (find (λ (i : InitialValue). same i.fluent g) values)

-- the state at first: what is not listed is false, or has no value
unfoldable pub initial_state : LiftedTask → State
initial_state t = record { atoms = is_listed t.atoms; values = first_value t.values }
