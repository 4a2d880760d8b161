use Rattle.hplan.proofs.engine.write_told.Goals as goal

pub returns-in-Err-clause-refusal : goal.returns-in-Err-clause-refusal
returns-in-Err-clause-refusal g c = record {
  error = c.in-Err.error;
  short = c.in-Err.ensures.short;
  memory = c.in-Err.ensures.no_memory;
  answered = c.in-Err.ensures.fault;
  told = c.unwritten.ensures;
}
