use Rattle.std.proofs.Common.{◌≡◌, ◌≤◌, List, length, ap, subst, sym, ◌∙◌}
use Rattle.std.specs.Prelude.{IfSome}
use Rattle.crossbeam_queue.specs.Passes.{view}
use Rattle.hd_node.specs.declared.batch.Batch.{Batch}
use Rattle.hd_node.specs.declared.batch.Outcome.{Outcome}
use Rattle.hd_node.specs.declared.batch.TheConstants.{MAX_OUTCOMES}
use Rattle.hd_entries.specs.Growing.{successor_count}
use Rattle.hd_entries.proofs.Children.{few_kids}
use Rattle.hd_turns.specs.Calls.{batch_of, after_batch, after_numbering}
use Rattle.hd_threads.proofs.Batches.{batch_in}
use Rattle.hd_threads.specs.Tally.{tally_of}
use Rattle.hd_threads.proofs.working.commit_next.Goals as goal

pub count_kids-kids-requires : goal.count_kids-kids-requires
count_kids-kids-requires g c = record { fits = few_kids c.in-Some.batch.outcomes c.as_slice-outcomes.result.now c.as_slice-outcomes.ensures c.in-Some.batch.few }

pub tally_of-tally-requires : goal.tally_of-tally-requires
tally_of-tally-requires g c = record { few = subst (λ (xs : List Outcome). length xs ≤ MAX_OUTCOMES) (sym c.as_slice-outcomes.ensures) c.in-Some.batch.few }

pub returns-in-Ok-clause-committed : goal.returns-in-Ok-clause-committed
returns-in-Ok-clause-committed g c =
    let p = c.args.place.now in
    let w = p.worker in
    let outcomes = c.in-Some.batch.outcomes in
    let taken = c.in-Ok.taken in
    let these : outcomes ≡ batch_of w = subst (λ o. IfSome o (λ (b : Batch). b.outcomes ≡ batch_of w)) c.in-Some.is c.in_ok-batch.ensures.batch in
    let given : c.next_batch.new.self ≡ after_batch w = subst (λ o. IfSome o (λ _. c.next_batch.new.self ≡ after_batch w)) c.in-Some.is c.in_ok-batch.ensures.given in (
      batch_in (view p.pass).seen.log p.share.amount p.seat w (view c.commit_batch.new.pass).seen.log c.commit_batch.new.share.amount c.offer.new.seat c.committed.new.self
          taken.ticket (view p.pass).seen.task outcomes taken.first taken.bound
          c.requires.task these c.in-Ok.ensures.committed c.in-Ok.ensures.from c.in-Ok.ensures.to (c.committed.ensures ∙ ap (after_numbering taken.first) given) c.in-Ok.ensures.counted c.offer.ensures.offers,
      c.count_kids-kids.ensures ∙ ap successor_count (c.as_slice-outcomes.ensures ∙ these),
      c.tally_of-tally.ensures.tally ∙ ap tally_of (c.as_slice-outcomes.ensures ∙ these),
    )
