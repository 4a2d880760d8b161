use Rattle.std.proofs.Common.{[], refl, arith}
use Rattle.hd_entries.proofs.Again.{nothing_kept}
use Rattle.hd_entries.proofs.Faultless.{kept_from, legal_from, no_faults}
use Rattle.hd_entries.proofs.laws.faultless_entries_are_legal.Goals as goal

pub returns : goal.returns
returns c = record {
  legal = λ t entries short. (
    λ free. legal_from t entries (kept_from t entries [] (nothing_kept t) (omega (arith, short)) free),
    λ legal. no_faults t entries [] legal.0 refl legal.1 legal.2,
  );
  kept = λ t entries short free. kept_from t entries [] (nothing_kept t) (omega (arith, short)) free;
}
