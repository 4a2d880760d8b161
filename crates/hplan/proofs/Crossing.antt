-- That the gate of a search may be shared by its threads.
use denote.RattleType.{RattleType}
use denote.Ref.{NamedLft}
use denote.Param.Send.{IsSync, sendable}
use denote.Param.SendFields.{declared_sync, FieldsHave}
use Rattle.std.proofs.Crossing.{crosses}
use Rattle.std.proofs.alloc.Global.TheSendSync as global
use Rattle.hd_search.proofs.Crossing.Tasks.{task_sync}
use Rattle.hd_search.proofs.watch.Watch.TheSendSync as watch
use Rattle.hplan.specs.contracts.watching.Watching as watching

module _ (w : NamedLft) (R H : RattleType) where
  watching_parts : IsSync R → IsSync H → FieldsHave IsSync (watching.the_type w R H).parts
  watching_parts of_rt of_host = (
    search sendable,
    (
      global.the_sync,
      (
        search (sendable, task_sync) depth 10,
        (
          search sendable,
          (
            search (sendable, crosses, watch.the_sync) depth 20,
            (
              search (sendable, crosses) depth 20,
              (
                search (sendable, crosses) depth 20,
                (
                  search (sendable, crosses) depth 20,
                  (
                    search (sendable, crosses) depth 20,
                    (search (sendable, crosses) depth 20, (search (sendable, crosses) depth 20, tt)),
                  ),
                ),
              ),
            ),
          ),
        ),
      ),
    ),
  )

  pub watching_sync : IsSync R → IsSync H → IsSync (watching.the_row w R H)
  watching_sync of_rt of_host = declared_sync (watching.the_type w R H) (watching_parts of_rt of_host)
