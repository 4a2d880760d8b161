use Rattle.std.proofs.Common.{◌∙◌, ◌*◌}
use Rattle.hd_zobrist.proofs.Wrapping.{word-wraps_more}
use Rattle.hd_zobrist.proofs.words.place_word.Goals as goal

pub returns : goal.returns
returns c = c.word.ensures ∙ word-wraps_more (2 * c.args.fluent) 1
