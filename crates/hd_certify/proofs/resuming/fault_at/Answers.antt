use Rattle.std.proofs.Common.{sym, subst}
use Rattle.hd_certify.specs.Error.{IsRecoverRefusal}
use Rattle.hd_certify.proofs.Refusing.{one_of_them, full_told, memory_told, entry_there, entry_told}
use Rattle.hd_certify.proofs.resuming.fault_at.Goals as goal

pub returns-in-Full : goal.returns-in-Full
returns-in-Full c = λ t most few is. full_told t most few c.args.entries.now c.args.number c.args.refusal c.in-Full.is is

pub returns-in-NoMemory : goal.returns-in-NoMemory
returns-in-NoMemory c = λ t most few is. memory_told t most few c.args.entries.now c.args.number c.args.refusal c.in-NoMemory.is is

pub damaged_at-requires : goal.damaged_at-requires
damaged_at-requires c = entry_there c.requires.0 c.requires.1 c.requires.2 c.args.entries.now c.args.number c.args.refusal (one_of_them c.args.refusal c.in-UnknownParent.is) c.requires.3

pub returns-in-UnknownParent : goal.returns-in-UnknownParent
returns-in-UnknownParent c = λ t most few is.
    subst (IsRecoverRefusal t most c.args.entries.now) (sym c.damaged_at.ensures.1)
    (entry_told t most few c.args.entries.now c.args.number c.args.refusal c.damaged_at.ensures.0 (one_of_them c.args.refusal c.in-UnknownParent.is) c.damaged_at.ensures.2 is)
