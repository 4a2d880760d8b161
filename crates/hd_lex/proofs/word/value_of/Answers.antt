use Rattle.std.proofs.Common.{◌≡◌, Ok}
use Rattle.std.specs.Str.Parse.{digits_value}
use Rattle.std.proofs.lemmas.Str.{IsUtf8-from_ascii}
use Rattle.hd_lex.proofs.Digits.{digits-ascii, number_parts, number-parses, number-small}
use Rattle.hd_lex.proofs.word.value_of.Goals as goal

pub unreachable-requires : goal.unreachable-requires
unreachable-requires c =
    c.in_default.ensures.cases.0 (IsUtf8-from_ascii c.args.digits.now (digits-ascii c.args.digits.now (number_parts c.args.digits.now c.requires).digits))

pub unreachable-requires-in_default-parse : goal.unreachable-requires-in_default-parse
unreachable-requires-in_default-parse c =
    let read = rw c.in-Ok.ensures.cases.0 at c.parse.ensures.value.0 in
    let is : c.parse.result ≡ Ok (digits_value 10 c.args.digits.now) = number-parses c.args.digits.now _ read c.requires in
    cc

pub returns-clause-value : goal.returns-clause-value
returns-clause-value c =
    let read = rw c.in-Ok.ensures.cases.0 at c.parse.ensures.value.0 in
    let is : c.parse.result ≡ Ok (digits_value 10 c.args.digits.now) = number-parses c.args.digits.now _ read c.requires in
    cc

pub returns-clause-small : goal.returns-clause-small
returns-clause-small c =
    let read = rw c.in-Ok.ensures.cases.0 at c.parse.ensures.value.0 in
    let is : c.parse.result ≡ Ok (digits_value 10 c.args.digits.now) = number-parses c.args.digits.now _ read c.requires in
    let value : c.in-Ok-parse.value ≡ digits_value 10 c.args.digits.now = cc in
    rw value (number-small c.args.digits.now c.requires)
