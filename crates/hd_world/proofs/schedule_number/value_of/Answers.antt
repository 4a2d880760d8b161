use Rattle.std.proofs.Common.{◌≡◌, Ok}
use Rattle.std.specs.Str.Parse.{digits_value}
use Rattle.std.proofs.lemmas.Str.{IsUtf8-from_ascii}
use Rattle.hd_world.proofs.ScheduleNumbers.{number-ascii, number-parses}
use Rattle.hd_world.proofs.schedule_number.value_of.Goals as goal

pub unreachable-requires : goal.unreachable-requires
unreachable-requires c = c.in_default.ensures.cases.0 (IsUtf8-from_ascii c.args.digits.now (number-ascii c.args.digits.now c.requires))

pub unreachable-requires-in_default-parse : goal.unreachable-requires-in_default-parse
unreachable-requires-in_default-parse c =
    let read = rw c.in-Ok.ensures.cases.0 at c.parse.ensures.value.0 in
    let is : c.parse.result ≡ Ok (digits_value 10 c.args.digits.now) = number-parses c.args.digits.now _ read c.requires in
    cc

pub returns : goal.returns
returns c =
    let read = rw c.in-Ok.ensures.cases.0 at c.parse.ensures.value.0 in
    let is : c.parse.result ≡ Ok (digits_value 10 c.args.digits.now) = number-parses c.args.digits.now _ read c.requires in
    cc
