use Rattle.hd_world.proofs.Opened.{same_calls, same_file}
use Rattle.hd_world.proofs.disk_laws.contents_are_opened_in_one_way.Goals as goal

pub returns : goal.returns
returns c = record {
  calls = λ digest content calls other f g a b. same_calls digest content calls other f g a b;
  file = λ digest content calls other f g a b. same_file digest content calls other f g a b;
}
