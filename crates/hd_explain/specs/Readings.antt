-- The fluents that a reason speaks of, with their values. (Our own.)
use Rattle.std.specs.Prelude.{ℕ, List, [], ◌∷◌, flat_map, if◌then◌else◌}
use Rattle.hd_lifted.specs.declared.schema.Ground.{Ground}
use Rattle.hd_lifted.specs.States.{Values, ground_form_of}
use Rattle.hd_lifted.specs.declared.schema.NumericEffect.{NumericEffect}
use Rattle.hd_lifted.specs.Effects.{is_cost}
use Rattle.hd_lifted.specs.Met.{fluents_in, met_by_comparison}
use Rattle.hd_judge.specs.Effects.{changes_fluent}
use Rattle.hd_judge.specs.declared.reason.Reason.{Reason}
use Rattle.hd_judge.specs.declared.reason.Reason.TheVariants as reasons
use Rattle.hd_explain.specs.declared.reading.Reading.{Reading}

-- a fluent with its value
abbrev pub reading_at : Values → Ground → Reading
reading_at v g = record { fluent = g; value = v g }

-- the fluents that the amounts of the cost read, from the left
abbrev pub paid_fluents : List ℕ → List NumericEffect → List Ground
paid_fluents objects es = flat_map (λ e. if is_cost e.change then fluents_in objects e.amount else []) es

-- the fluents that the amounts of the effects on a fluent read, from the left
abbrev pub changing_fluents : List ℕ → Ground → List NumericEffect → List Ground
changing_fluents objects g es = flat_map (λ e. if changes_fluent objects g e then fluents_in objects e.amount else []) es

-- the fluents that a comparison or a subexpression reads, from the left; the one whose new value is
-- told, and then those that the amounts of all effects on it read; or those of a cost
abbrev pub fluents_of : List ℕ → Reason → List Ground
fluents_of objects (reasons.Literal l) = []
fluents_of objects (reasons.Equality e) = []
fluents_of objects (reasons.Comparison c) = met_by_comparison objects c.now
fluents_of objects (reasons.Subexpression d) = fluents_in objects d.part.now
fluents_of objects (reasons.NewValue n) =
    ground_form_of objects n.effect.now.fluent ∷ changing_fluents objects (ground_form_of objects n.effect.now.fluent) n.effects.now
fluents_of objects (reasons.NegativeCost c) = paid_fluents objects c.effects.now
fluents_of objects (reasons.PlanCost c) = paid_fluents objects c.effects.now
