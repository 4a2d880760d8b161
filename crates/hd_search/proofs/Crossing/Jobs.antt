-- That what a worker's thread has may go to it.
use mathlib.Core.List.{List, [], ◌∷◌}
use Prim.Native.Nat.{ℕ}
use denote.RattleType.{RattleType}
use denote.Ref.{NamedLft}
use denote.Struct.Field.{row_field}
use denote.Struct.Tuple.{TupleAt, type_at}
use denote.Param.Send.{IsSend, IsSync, sendable}
use denote.Param.SendFields.{declared_send, as_row_send, FieldsHave}
use Rattle.std.specs.declared.sync.ledger.Ledger as ledger
use Rattle.std.proofs.alloc.Global.TheSendSync as global
use Rattle.hd_search.specs.contracts.starting.Job as job
use Rattle.hd_search.proofs.Crossing.Desks.{desk_sync, workplace_send}

module _ (s t : NamedLft) (L A G R : RattleType) (g : ledger.Ghosts L.Denot) (h : ledger.Ghosts A.Denot) where
  job_parts : IsSync G → IsSync R → FieldsHave IsSend (job.the_type s t L A G R g h).parts
  job_parts of_gate of_rt = let whole = desk_sync t L A g h in (
    search (sendable) depth 10,
    (global.the_send, (search (sendable) depth 10, (workplace_send t L A g h, (search sendable, (search sendable, (search sendable, (search (sendable) depth 10, (search (sendable) depth 10, tt)))))))),
  )

  job_send : IsSync G → IsSync R → IsSend (job.the_row s t L A G R g h)
  job_send of_gate of_rt = declared_send (job.the_type s t L A G R g h) (job_parts of_gate of_rt)

  -- a closure that has captured it
  pub captured_send : (name : List ℕ) → IsSync G → IsSync R → IsSend (TupleAt name (job.the_row s t L A G R g h ∷ []))
  captured_send name of_gate of_rt = let J = job.the_row s t L A G R g h in declared_send (type_at name (J ∷ [])) (as_row_send (row_field J) (job_send of_gate of_rt), tt)
