-- What the code keeps while it takes a step: new values beside the old ones, and the sum of the
-- costs so far. (Our own.)
use Rattle.std.specs.Prelude.{◌≡◌, ℕ, Bool, true, not, ◌&&◌, ◌||◌, if◌then◌else◌, List, Contains, Option, Some, None, is_some, IfSome, ℤ, pos}
use Rattle.hd_base.specs.Numbers.{IsNear}
use Rattle.std.specs.List.{list_any, fold}
use Rattle.std.specs.Map.{lookup}
use Rattle.std.specs.Option.{option_or}
use Rattle.hd_base.specs.Numbers.{fits}
use Rattle.hd_lifted.specs.declared.schema.Ground.{Ground}
use Rattle.hd_lifted.specs.declared.schema.NumericEffect.{NumericEffect}
use Rattle.hd_lifted.specs.States.{Values, same, ground_form_of}
use Rattle.hd_lifted.specs.Expressions.{stays_in_range}
use Rattle.hd_lifted.specs.Effects.{with_effect, with_cost}
use Rattle.hd_judge.specs.declared.changes.Changes.{Changes}
use Rattle.hd_lifted.specs.Questions.{is_paid}

-- fluents that have a value
pub record HaveValues (v : Values) (fluents : List Ground) : Type 0 where
  pub each : (g : Ground) → Contains fluents g → is_some (v g) ≡ true

-- ---- amounts

-- each subexpression of an effect's amount is in the range
abbrev pub amount_stays : Values → List ℕ → NumericEffect → Bool
amount_stays v objects e = stays_in_range v objects e.amount

-- ---- new values

-- an effect changes the fluent g: a cost changes none
abbrev pub changes_fluent : List ℕ → Ground → NumericEffect → Bool
changes_fluent objects g e = not (is_paid e) && same (ground_form_of objects e.fluent) g

-- the value of g after these effects, if one of them changes it
abbrev pub value_if_changed : Values → List ℕ → List NumericEffect → Ground → Option ℤ
value_if_changed v objects es g = if list_any (changes_fluent objects g) es then fold (with_effect v objects g) (v g) es else None

-- the new value of g after one more effect
abbrev pub with_change : Values → List ℕ → NumericEffect → Ground → Option ℤ → Option ℤ
with_change v objects e g new = if changes_fluent objects g e then with_effect v objects g (option_or new (v g)) e else new

-- the new value that the table has of g, if it has one
abbrev pub new_value_in : Changes → Ground → Option ℤ
new_value_in changes g = lookup (same g) changes.values.entries

-- the new values and the sum are this near to 0
pub record AreNear (distance : ℕ) (changes : Changes) : Type 0 where
  pub values : (g : Ground) → IfSome (new_value_in changes g) (IsNear distance (pos 0))
  pub cost : IsNear distance (pos 0) changes.cost

-- they are those of these effects
pub record AreChangesOf (v : Values) (objects : List ℕ) (es : List NumericEffect) (changes : Changes) : Type 0 where
  pub values : (g : Ground) → new_value_in changes g ≡ value_if_changed v objects es g
  pub cost : fold (with_cost v objects) (Some (pos 0)) es ≡ Some changes.cost

-- ---- judging them

-- the new value of an effect's fluent is in the range
abbrev pub change_fits : Changes → List ℕ → NumericEffect → Bool
change_fits changes objects e = is_paid e || fits (new_value_in changes (ground_form_of objects e.fluent))
