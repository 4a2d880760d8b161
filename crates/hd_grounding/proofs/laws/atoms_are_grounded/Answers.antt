use Rattle.hd_grounding.proofs.Changing.{atom_agrees}
use Rattle.hd_grounding.proofs.laws.atoms_are_grounded.Goals as goal

pub returns : goal.returns
returns c t atoms fluents objects a b s n k g numbers agree of at =
    atom_agrees atoms numbers.rising fluents objects a b s n k g agree of at
