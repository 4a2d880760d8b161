-- That a task, and what it is made of, may be shared by threads.
use denote.RattleType.{RattleType}
use denote.Param.Send.{IsSync, sendable}
use denote.Param.SendFields.{declared_sync, FieldsHave}
use denote.Builtin.{u32}
use Rattle.std.proofs.Crossing.{crosses}
use Rattle.std.proofs.MapsCrossing as maps
use Rattle.hd_base.specs.contracts.expression.Expr as expr
use Rattle.hd_base.specs.contracts.expression.Operand as operand
use Rattle.hd_base.specs.contracts.sequence.Sequence as sequence
use Rattle.hd_base.specs.contracts.name.Name as name
use Rattle.hd_base.specs.contracts.relation.Relation as relation
use Rattle.hd_base.proofs.expression.Expr.TheLaws.TheKnot as knot
use Rattle.hd_base.proofs.expression.Operand.TheSendSync as operand_cross
use Rattle.hd_base.proofs.operation.Operation.TheSendSync as operation_cross
use Rattle.hd_base.proofs.relation.Relation.TheSendSync as relation_cross
use Rattle.hd_task.proofs.condition.Literal.TheSendSync as literal_cross
use Rattle.hd_task.specs.contracts.task.Task as task
use Rattle.hd_task.specs.contracts.condition.Condition as condition
use Rattle.hd_task.specs.contracts.condition.Comparison as comparison
use Rattle.hd_task.specs.contracts.condition.Literal as literal
use Rattle.hd_task.specs.contracts.effect.Effect as effect
use Rattle.hd_task.specs.contracts.effect.ValueChange as change
use Rattle.hd_task.specs.contracts.effect.SumPart as term
use Rattle.hd_task.specs.contracts.action.Action as action
use Rattle.hd_task.specs.contracts.form.Names as names
use Rattle.hd_task.specs.contracts.form.GroundForm as form
use Rattle.hd_task.specs.contracts.state.State as state

pub sequence_sync : (R : RattleType) → IsSync R → IsSync (sequence.the_row R)
sequence_sync R s = search (sendable, crosses) depth 20

pub name_sync : IsSync name.the_row
name_sync = search (sendable, crosses, maps.crosses) depth 20

pub names_sync : IsSync names.the_row
names_sync = let s = sequence_sync name.the_row name_sync in declared_sync names.the_type (s, (s, (s, (s, tt))))

pub form_sync : IsSync form.the_row
form_sync = search (sendable, crosses) depth 20

pub state_sync : IsSync state.the_row
state_sync = search (sendable, crosses) depth 20

literal_sync : IsSync literal.the_row
literal_sync = literal_cross.the_sync

operand_sync : IsSync (operand.the_row u32)
operand_sync = operand_cross.the_sync u32 (search sendable)

expr_sync : IsSync (expr.the_row (operand.the_row u32))
expr_sync = search (sendable, crosses, knot.crosses, operand_cross.the_sync, operation_cross.the_sync) depth 60

relation_sync : IsSync relation.the_row
relation_sync = relation_cross.the_sync

pub comparison_sync : IsSync comparison.the_row
comparison_sync = declared_sync comparison.the_type (expr_sync, (relation_sync, (expr_sync, tt)))

pub condition_sync : IsSync condition.the_row
condition_sync =
    let literals = sequence_sync literal.the_row literal_sync in
    let comparisons = sequence_sync comparison.the_row comparison_sync in
    declared_sync condition.the_type (literals, (comparisons, (search sendable, tt)))

term_sync : IsSync term.the_row
term_sync = search (sendable, expr_sync) depth 20

change_sync : IsSync change.the_row
change_sync = let terms = sequence_sync term.the_row term_sync in search (sendable, expr_sync) depth 20

effect_sync : IsSync effect.the_row
effect_sync = declared_sync effect.the_type (search sendable, (change_sync, tt))

action_parts : FieldsHave IsSync action.the_type.parts
action_parts = let numbers = sequence_sync u32 (search sendable) in
    let effects = sequence_sync effect.the_row effect_sync in
    let exprs = sequence_sync (expr.the_row (operand.the_row u32)) expr_sync in
    (form_sync, (condition_sync, (numbers, (numbers, (effects, (exprs, tt))))))

pub action_sync : IsSync action.the_row
action_sync = declared_sync action.the_type action_parts

pub task_sync : IsSync task.the_row
task_sync =
    let forms = sequence_sync form.the_row form_sync in
    let actions = sequence_sync action.the_row action_sync in
    declared_sync task.the_type (names_sync, (forms, (forms, (state_sync, (actions, (condition_sync, (search sendable, tt)))))))
