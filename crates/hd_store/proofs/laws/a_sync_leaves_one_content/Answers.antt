use Rattle.std.proofs.Common.{[], ◌∷◌, refl}
use Rattle.hd_store.specs.declared.change.DiskChange.TheVariants.{Sync}
use Rattle.hd_store.specs.Past.{made_step}
use Rattle.hd_store.proofs.Leaving.{at_rest, rests}
use Rattle.hd_store.proofs.laws.a_sync_leaves_one_content.Goals as goal

pub returns : goal.returns
returns c = record {
  start = λ start. at_rest start [] tt;
  sync = λ start now steps. at_rest start (made_step Sync now ∷ steps) refl;
  left = rests;
}
