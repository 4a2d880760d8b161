-- What a task of numbers has of a lifted one, and in which order it is numbered. (Our own.)
use Rattle.std.specs.Prelude.{◌≡◌, ◌≢◌, ℕ, ◌<◌, List, [], ◌∷◌, length, Contains, ◌↔◌}
use Rattle.std.specs.List.{AllPairs}
use Rattle.std.specs.Ordering.{nat_cmp}
use Rattle.std.specs.Cmp.Lexicographic.{slice_cmp}
use Rattle.std.specs.declared.cmp.Ordering.TheVariants.{Less}
use Rattle.hd_lifted.specs.declared.schema.Ground.{Ground}
use Rattle.hd_lifted.specs.declared.schema.Literal.{Literal}
use Rattle.hd_lifted.specs.declared.task.LiftedTask.{LiftedTask}
use Rattle.hd_lifted.specs.States.{ground_form_of}
use Rattle.hd_lifted.specs.declared.instance.Instance.{Instance}
use Rattle.hd_lifted.specs.Plans.{IsInstance}
use Rattle.hd_lifted.specs.Kept.{IsKept, IsReachable}
use Rattle.hd_lifted.specs.Met.{met_by, met_by_goal}

-- ---- what there is

-- an atom of the task: it is reachable, or the goal names it, also to be false
pub data IsTaskAtom (t : LiftedTask) (g : Ground) : Type 0 where
  reached : IsReachable t g → IsTaskAtom t g
  wanted : (l : Literal) → Contains t.goal.literals l → ground_form_of [] l.atom ≡ g → IsTaskAtom t g

-- a fluent of the task: a kept instance meets it, or the goal
pub data IsTaskFluent (t : LiftedTask) (g : Ground) : Type 0 where
  met : (i : Instance) (is : IsInstance t i) → IsKept t i → Contains (met_by i.objects is.schema) g → IsTaskFluent t g
  wanted : Contains (met_by_goal t) g → IsTaskFluent t g

-- ---- its order

-- a list of numbers comes before another: by the first place where they differ, or where the one
-- ends
abbrev pub ComesBefore : List ℕ → List ℕ → Type 0
ComesBefore xs ys = slice_cmp nat_cmp xs ys ≡ Less

-- instances by their schema's number, then by their objects, the first parameter's first
abbrev pub instance_key : Instance → List ℕ
instance_key i = i.schema ∷ i.objects

-- atoms and fluents by their predicate's or function's number, then by their objects
abbrev pub form_key : Ground → List ℕ
form_key g = g.symbol ∷ g.objects

-- a list has exactly these, in the order of their keys
pub record HasExactly {X : Type 0} (Is : X → Type 0) (key : X → List ℕ) (xs : List X) : Type 0 where
  pub exactly : (x : X) → Is x ↔ Contains xs x
  pub rising : AllPairs (λ x y. ComesBefore (key x) (key y)) xs

-- ---- how many there are

-- there are more than so many of a kind: a list of them, none twice, is longer
pub record HasMoreThan {X : Type 0} (Is : X → Type 0) (limit : ℕ) : Type 0 where
  pub some : List X
  pub all : (x : X) → Contains some x → Is x
  pub distinct : AllPairs (λ x y. x ≢ y) some
  pub more : limit < length some

-- ---- the numberings of a task

-- a list numbers the kept instances, the atoms, or the fluents
abbrev pub NumbersInstances : LiftedTask → List Instance → Type 0
NumbersInstances t instances = HasExactly (IsKept t) instance_key instances

-- a list has exactly the atoms of the task, in their order
abbrev pub NumbersAtoms : LiftedTask → List Ground → Type 0
NumbersAtoms t atoms = HasExactly (IsTaskAtom t) form_key atoms

-- a list has exactly the fluents of the task, in their order
abbrev pub NumbersFluents : LiftedTask → List Ground → Type 0
NumbersFluents t fluents = HasExactly (IsTaskFluent t) form_key fluents
