use Rattle.hd_world.proofs.Owning.{again_kept, in_one_place, open_at_owner, closed_at_owner}
use Rattle.hd_world.proofs.answer_laws.resumptions_lose_no_kid.Goals as goal

pub returns : goal.returns
returns c = record {
  once = λ t most workers entries k short free some. in_one_place t entries (again_kept t entries short free) workers most k some;
  open_kids = λ t workers entries k short free posted other. open_at_owner t entries (again_kept t entries short free) workers k posted other;
  closed = λ t workers entries n short free lt. closed_at_owner t entries (again_kept t entries short free) workers n lt;
}
