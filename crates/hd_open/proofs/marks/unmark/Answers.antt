use Rattle.hd_open.proofs.Marking.{unmark_here, unmark_else}
use Rattle.hd_open.proofs.marks.unmark.Goals as goal

pub returns-clause-here : goal.returns-clause-here
returns-clause-here c = unmark_here c.args.words.now.items c.args.at c.index_mut.result.now c.requires.within

pub returns-clause-others : goal.returns-clause-others
returns-clause-others c = unmark_else c.args.words.now.items c.args.at c.index_mut.result.now c.requires.within c.index_mut.ensures.value
