use Rattle.std.proofs.Common.{refl}
use Rattle.hd_entries.proofs.Children.{few_kids}
use Rattle.hd_entries.proofs.releasing.Parcels.of.Goals as goal

pub invariant_of-result : goal.invariant_of-result
invariant_of-result c = record {
  of_task = c.requires.of_task;
  numbered = c.requires.numbered;
  fits = few_kids c.args.batch.outcomes c.args.batch.outcomes refl c.args.batch.few;
}
