use Rattle.std.proofs.Common.{◌∙◌, ◌*◌}
use Rattle.hd_zobrist.proofs.Wrapping.{word-wraps}
use Rattle.hd_zobrist.proofs.words.atom_word.Goals as goal

pub returns : goal.returns
returns c = c.word.ensures ∙ word-wraps (2 * c.args.atom)
