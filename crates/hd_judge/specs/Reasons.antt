-- Why a condition on atoms and objects does not hold, and why comparisons don't, or depart from the
-- range. (The order is our own.)
use Rattle.std.specs.Prelude.{◌≡◌, ℕ, Bool, true, false, not, ◌⊎◌, List, Option, Some, MatchOption, find}
use Rattle.std.specs.List.{list_all}
use Rattle.hd_lifted.specs.declared.schema.Ground.{Ground}
use Rattle.hd_lifted.specs.declared.schema.Literal.{Literal}
use Rattle.hd_lifted.specs.declared.schema.Equality.{Equality}
use Rattle.hd_lifted.specs.declared.schema.Comparison.{Comparison}
use Rattle.hd_lifted.specs.declared.schema.Condition.{Condition}
use Rattle.hd_lifted.specs.States.{Values, State}
use Rattle.hd_lifted.specs.Expressions.{stays_in_range}
use Rattle.hd_lifted.specs.Conditions.{literal_holds, equality_holds, comparison_holds, comparison_stays}
use Rattle.hd_judge.specs.declared.reason.DepartingPart.{DepartingPart}
use Rattle.hd_judge.specs.declared.reason.Reason.{Reason}
use Rattle.hd_judge.specs.declared.reason.Reason.TheVariants as reasons
use Rattle.hd_judge.specs.declared.comparison.Compared.{Compared}
use Rattle.hd_judge.specs.declared.comparison.Compared.TheVariants as compared
use Rattle.hd_judge.specs.Departures.{IsDeparture}

-- the first literal that does not hold
abbrev pub failing_literal : (Ground → Bool) → List ℕ → List Literal → Option Literal
failing_literal atoms objects literals = find (λ l. not (literal_holds atoms objects l)) literals

-- the first equality that does not hold
abbrev pub failing_equality : List ℕ → List Equality → Option Equality
failing_equality objects equalities = find (λ e. not (equality_holds objects e)) equalities

-- the first comparison with a subexpression out of the range
abbrev pub departing_comparison : Values → List ℕ → List Comparison → Option Comparison
departing_comparison v objects comparisons = find (λ c. not (comparison_stays v objects c)) comparisons

-- the first comparison that does not hold
abbrev pub failing_comparison : Values → List ℕ → List Comparison → Option Comparison
failing_comparison v objects comparisons = find (λ c. not (comparison_holds v objects c)) comparisons

-- where a comparison leaves the range, its left side first
abbrev pub IsDepartureOfComparison : Values → List ℕ → Comparison → DepartingPart → Type 0
IsDepartureOfComparison v objects c d =
    IsDeparture v objects c.left d.part.now d.value
    ⊎ ((stays_in_range v objects c.left ≡ true) × IsDeparture v objects c.right d.part.now d.value)

-- what the computation of a comparison comes to
abbrev pub MeansCompared : Values → List ℕ → Comparison → Compared → Type 0
MeansCompared v objects c (compared.Holds b) = (comparison_stays v objects c ≡ true) × (comparison_holds v objects c ≡ b)
MeansCompared v objects c (compared.Departs d) = (comparison_stays v objects c ≡ false) × IsDepartureOfComparison v objects c d

-- this is why comparisons do not hold, or depart: the first departure of the first one that
-- departs; or, where none does, the first that does not hold
abbrev pub IsReasonOfComparisons : Values → List ℕ → List Comparison → Reason → Type 0
IsReasonOfComparisons v objects cs (reasons.Subexpression d) =
    (of : Comparison) × (departing_comparison v objects cs ≡ Some of) × IsDepartureOfComparison v objects of d
IsReasonOfComparisons v objects cs (reasons.Comparison c) =
    (list_all (comparison_stays v objects) cs ≡ true) × (failing_comparison v objects cs ≡ Some c.now)
IsReasonOfComparisons v objects cs _ = ⊥

-- comparisons stay in the range, and hold
abbrev pub HoldWithin : Values → List ℕ → List Comparison → Type 0
HoldWithin v objects cs = (list_all (comparison_stays v objects) cs ≡ true) × (list_all (comparison_holds v objects) cs ≡ true)

-- that, or nothing, where all comparisons stay in the range and hold
abbrev pub ExplainsComparisons : Values → List ℕ → List Comparison → Option Reason → Type 0
ExplainsComparisons v objects cs answer =
    MatchOption answer (HoldWithin v objects cs) (IsReasonOfComparisons v objects cs)

-- this is why a condition on atoms and objects does not hold: the first literal that does not hold;
-- or, where all do, the first equality that does not
abbrev pub IsReasonOfLiterals : State → List ℕ → Condition → Reason → Type 0
IsReasonOfLiterals s objects c (reasons.Literal l) = failing_literal s.atoms objects c.literals ≡ Some l.now
IsReasonOfLiterals s objects c (reasons.Equality e) =
    (list_all (literal_holds s.atoms objects) c.literals ≡ true) × (failing_equality objects c.equalities ≡ Some e)
IsReasonOfLiterals s objects c _ = ⊥
