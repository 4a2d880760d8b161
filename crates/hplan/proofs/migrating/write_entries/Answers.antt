use Rattle.std.proofs.Common.{refl, sym, ◌∙◌}
use Rattle.hplan.specs.Migrating.{OneName, OfMemory}
use Rattle.hplan.proofs.Moving.{unwritten_by}
use Rattle.hplan.proofs.Shelves.{same_bytes}
use Rattle.hplan.proofs.migrating.write_entries.Goals as goal

pub returns-then-eq-clause-refusal : goal.returns-then-eq-clause-refusal
returns-then-eq-clause-refusal g c = OneName (same_bytes c.args.from.now c.args.to.now (sym c.eq.ensures ∙ c.if-eq.true)) refl

pub returns-in_default-clause-refusal : goal.returns-in_default-clause-refusal
returns-in_default-clause-refusal g c = OfMemory refl

pub returns-in-Err-clause-refusal : goal.returns-in-Err-clause-refusal
returns-in-Err-clause-refusal g c =
    unwritten_by c.args.domain.now c.args.problem.now c.args.extent c.args.from.now c.args.to.now _ _ _ c.args.named.now.dropped
    c.args.named.now.kids.items _ _ c.in-Err.fault c.requires.read c.digest_of.ensures c.deref.ensures.value c.in-Err.ensures.refusal
