use Rattle.hd_world.proofs.Opened.{left_opened, left_found}
use Rattle.hd_world.proofs.disk_laws.what_stops_left_is_opened.Goals as goal

pub returns : goal.returns
returns c = record {
  some = λ digest doing content len sound left. let o = left_opened digest doing content len sound left in (o.calls, o.file, o.is);
  found = λ digest doing content calls f len sound left o. left_found digest doing content calls f len sound left o;
}
