use Rattle.std.proofs.Common.{ap, ◌∙◌}
use Rattle.rand_core.specs.Stream.{next_u64}
use Rattle.rand_core.specs.Steps.{stream_of}
use Rattle.hd_zobrist.specs.Hash.{word}
use Rattle.hd_zobrist.proofs.words.word.Goals as goal

pub returns : goal.returns
unfolding word next_u64 stream_of
returns c = ap (λ p. p.0) c.next_u64.ensures ∙ ap word c.seed_from_u64.ensures.same
