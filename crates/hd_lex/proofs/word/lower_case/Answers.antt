use Rattle.std.proofs.lemmas.Str.{IsUtf8-from_ascii}
use Rattle.hd_lex.proofs.word.lower_case.Goals as goal

pub unreachable-requires : goal.unreachable-requires
unreachable-requires c = c.in_default.ensures.cases.0 (IsUtf8-from_ascii c.args.text.now c.requires)
