-- What is played where stops fill, is played where they may leave anything.
use Rattle.std.proofs.Common.{ℕ, Option, List, [], ◌∷◌}
use Rattle.hd_task.specs.declared.task.Task.{Task}
use Rattle.hd_world.specs.declared.moves.Move.{Move}
use Rattle.hd_world.specs.declared.moves.Move.TheVariants.{Resume, Pop, Take, Expand, Commit, Redeem, Push, Offer, Load, Pull, Flush, Ack, Stop}
use Rattle.hd_world.specs.declared.moves.StopAt.{StopAt}
use Rattle.hd_world.specs.Seats.{Run}
use Rattle.hd_world.specs.Stops.{File, Anything}
use Rattle.hd_world.specs.World.{World, Stopped, Running, StopsIn, Falls, IsNone, ResumesTo, IsNot, IsRefused, IsStopped, IsOpened, StepsOn, StepsFrom, StepsTo, Plays}
use Rattle.hd_world.specs.Filling.{Filled}

stops_so : (digest : List ℕ) (f : File) (r : Run) (stop : StopAt) (w : World) → StopsIn Filled digest f r stop w → StopsIn Anything digest f r stop w
stops_so digest f r stop w (Falls content within leaves is) = Falls content within leaves.left is
stops_so digest f r stop w (IsNone past is) = IsNone past is

resumes_so : (t : Task) (digest content : List ℕ) (workers : ℕ) (stop : Option StopAt) (w : World) → ResumesTo Filled t digest content workers stop w
    → ResumesTo Anything t digest content workers stop w
resumes_so t digest content workers stop w (IsNot may is) = IsNot may is
resumes_so t digest content workers stop w (IsRefused may not is) = IsRefused may not is
resumes_so t digest content workers stop w (IsStopped calls f at after may o e within leaves is) =
    IsStopped calls f at after may o e within leaves.left is
resumes_so t digest content workers stop w (IsOpened calls f may o behind is) = IsOpened calls f may o behind is

on_so : (t : Task) (digest : List ℕ) (f : File) (r : Run) (m : Move) (w : World) → StepsOn Filled t digest f r m w → StepsOn Anything t digest f r m w
on_so t digest f r (Resume workers stop) w s = s
on_so t digest f r (Pop k) w s = s
on_so t digest f r (Take k) w s = s
on_so t digest f r (Expand k place) w s = s
on_so t digest f r (Commit k) w s = s
on_so t digest f r (Redeem k) w s = s
on_so t digest f r (Push k) w s = s
on_so t digest f r (Offer k) w s = s
on_so t digest f r (Load k) w s = s
on_so t digest f r Pull w s = s
on_so t digest f r Flush w s = s
on_so t digest f r Ack w s = s
on_so t digest f r (Stop stop) w s = stops_so digest f r stop w s

from_so : (t : Task) (digest content : List ℕ) (m : Move) (w : World) → StepsFrom Filled t digest content m w → StepsFrom Anything t digest content m w
from_so t digest content (Resume workers stop) w s = resumes_so t digest content workers stop w s
from_so t digest content (Pop k) w s = s
from_so t digest content (Take k) w s = s
from_so t digest content (Expand k place) w s = s
from_so t digest content (Commit k) w s = s
from_so t digest content (Redeem k) w s = s
from_so t digest content (Push k) w s = s
from_so t digest content (Offer k) w s = s
from_so t digest content (Load k) w s = s
from_so t digest content Pull w s = s
from_so t digest content Flush w s = s
from_so t digest content Ack w s = s
from_so t digest content (Stop stop) w s = s

pub steps_so : (t : Task) (digest : List ℕ) (w w' : World) (m : Move) → StepsTo Filled t digest w m w' → StepsTo Anything t digest w m w'
steps_so t digest (Stopped content) w' m s = from_so t digest content m w' s
steps_so t digest (Running f r) w' m s = on_so t digest f r m w' s

pub plays_so : (t : Task) (digest : List ℕ) (moves : List Move) (w w' : World) → Plays Filled t digest w moves w' → Plays Anything t digest w moves w'
plays_so t digest [] w w' plays = plays
plays_so t digest (m ∷ moves) w w' plays = (plays.0, steps_so t digest w plays.0 m plays.1, plays_so t digest moves plays.0 w' plays.2)
