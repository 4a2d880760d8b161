use Rattle.std.proofs.Common.{refl}
use Rattle.hd_zobrist.specs.Hash.{word, fluent_word, state_hash}
use Rattle.hd_zobrist.proofs.laws.a_hash_computes.Goals as goal

pub returns-clause-one_atom : goal.returns-clause-one_atom
unfolding word state_hash
returns-clause-one_atom c = refl

pub returns-clause-fluent : goal.returns-clause-fluent
unfolding word fluent_word state_hash
returns-clause-fluent c = refl
