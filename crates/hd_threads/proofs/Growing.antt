-- A journal that becomes a later one.
use Rattle.std.proofs.Common.{◌≡◌, ℕ, List, [], ◌++◌, refl, sym, ap, subst, ◌∙◌, append_assoc, append-nil}
use Rattle.hd_task.specs.declared.plan.Kid.{Kid}
use Rattle.hd_store.specs.declared.store.Store.{Ghosts}
use Rattle.hd_journal.specs.declared.journal.Journal.{Journal}
use Rattle.hd_journal.specs.Journal.{IsOf, kids_of}
use Rattle.hd_base.specs.Lists.{BeginsWith}
use Rattle.hd_threads.specs.Growing.{JournalGrows}

pub begins_itself : (kids : List Kid) → BeginsWith kids kids
begins_itself kids = ([], sym (append-nil kids))

pub begins_through : (a b c : List Kid) → BeginsWith b a → BeginsWith c b → BeginsWith c a
begins_through a b c x y = (x.0 ++ y.0, y.1 ∙ (ap (λ ks. ks ++ y.0) x.1 ∙ append_assoc a x.0 y.0))

pub grows_itself : {S : Type 0} {G : Ghosts S} (old new : Journal S G) → new ≡ old → JournalGrows old new
grows_itself old new e = subst (λ j. JournalGrows old j) (sym e) (record {
  version = refl;
  begins = begins_itself (kids_of old);
  failed = refl;
  stuck = λ _. refl;
  groups = λ digest groups is. ([], subst (λ gs. IsOf digest gs old) (sym (append-nil groups)) is);
})

pub grows_through : {S : Type 0} {G : Ghosts S} (a b c : Journal S G) → JournalGrows a b → JournalGrows b c → JournalGrows a c
grows_through a b c x y = record {
  version = y.version ∙ x.version;
  begins = begins_through (kids_of a) (kids_of b) (kids_of c) x.begins y.begins;
  failed = y.failed ∙ x.failed;
  stuck = λ e. y.stuck (x.failed ∙ e) ∙ x.stuck e;
  groups = λ digest groups is.
      let first = x.groups digest groups is in
      let second = y.groups digest (groups ++ first.0) first.1 in
      (first.0 ++ second.0, subst (λ gs. IsOf digest gs c) (append_assoc groups first.0 second.0) second.1);
}
