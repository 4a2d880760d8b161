-- What is not told of texts: why a search has no answer, and why a text is not written.
use Rattle.std.proofs.Common.{inl, inr, ℕ, List, Option, Ok, Err, subst}
use Rattle.std.specs.Prelude.{Result, IfErr}
use Rattle.std.specs.declared.io.ErrorKind.{ErrorKind}
use Rattle.hd_task.specs.declared.task.Task.{Task}
use Rattle.hd_store.specs.declared.error.StoreError.{StoreError}
use Rattle.hd_store.specs.declared.error.StoreError.TheVariants as store
use Rattle.hd_plan.specs.declared.output.WriteFault.{WriteFault}
use Rattle.hd_plan.specs.declared.output.WriteFault.TheVariants as unwritten
use Rattle.hplan.specs.declared.fault.Fault.{Fault}
use Rattle.hplan.specs.declared.fault.Fault.TheVariants.{Device, NoMemory}
use Rattle.hplan.specs.declared.kept.Start.{Start}
use Rattle.hplan.specs.Answer.{IsUnwritten}
use Rattle.hplan.specs.Fault.{IsTextFault, store_in, TellsUnwritten}
use Rattle.hplan.specs.Kept.{FailsIn, InFile, HasNoSolution, OfMemory, OfMemoryLater, OfThreads, OfFile, OfEntry, OfSearch}

unlent : (error : StoreError) → ¬ IsTextFault (store_in error)
unlent store.NoMemory of = of
unlent store.Failed of = of

unsolved : (start : Start) (t : Task) (digest before after : List ℕ) (f : Fault) → HasNoSolution start t digest before after f → ¬ IsTextFault f
unsolved start t digest before after f (OfMemory told) of = of
unsolved start t digest before after f (OfMemoryLater kept) of = of
unsolved start t digest before after f (OfThreads kept) of = of
unsolved start t digest before after f (OfFile error told) of = of
unsolved start t digest before after f (OfEntry at faulty) of = of
unsolved start t digest before after f (OfSearch fault told) of = of

fails : (start : Start) (old new : Option (List ℕ)) (t : Task) (digest : List ℕ) (f : Fault) → FailsIn (InFile start old new) t digest f → ¬ IsTextFault f
fails start old new t digest f (inl k) of = unlent k.0 (subst IsTextFault k.1 of)
fails start old new t digest f (inr k) of = unsolved start t digest k.before k.after f k.holds of

unwritten_by : (error : WriteFault) (f : Fault) → TellsUnwritten error f → ¬ IsTextFault f
unwritten_by unwritten.NoMemory f told of = let no : IsTextFault NoMemory = subst IsTextFault told of in no
unwritten_by (unwritten.Device kind) f (inl k) of = let no : IsTextFault NoMemory = subst IsTextFault k.1 of in no
unwritten_by (unwritten.Device kind) f (inr k) of = let no : IsTextFault Device = subst IsTextFault k.1 of in no

-- whatever is then to be shown
pub search_not_blamed : {X : Type 0} (start : Start) (old new : Option (List ℕ)) (t : Task) (digest : List ℕ) (P : Type 0) (r : Result X Fault)
    → IfErr r (FailsIn (InFile start old new) t digest) → IfErr r (λ f. IsTextFault f → P)
search_not_blamed start old new t digest P (Ok x) told = tt
search_not_blamed start old new t digest P (Err f) told = λ of. absurd (fails start old new t digest f told of)

pub output_not_blamed : {X : Type 0} (text : List ℕ) (old new : Option (List ℕ)) (before noted : Option ErrorKind) (P : Type 0) (r : Result X Fault)
    → IfErr r (IsUnwritten text old new before noted) → IfErr r (λ f. IsTextFault f → P)
output_not_blamed text old new before noted P (Ok x) told = tt
output_not_blamed text old new before noted P (Err f) told = λ of. absurd (unwritten_by told.error f told.told of)
