-- Threads and how they ended stand in the order of the workers' numbers.
use Rattle.std.proofs.Common.{◌≡◌, ℕ, ◌+◌, ◌-◌, ◌<◌, List, [], ◌∷◌, ◌++◌, length, sym, ap, ◌∙◌, arith, suc}
use Rattle.std.specs.Prelude.{slice_index_or}
use Rattle.std.specs.declared.thread.PromisedHandle.{PromisedHandle}
use Rattle.hd_threads.specs.Ends.{EndView}
use Rattle.hd_search.specs.declared.starting.OfWorker.{OfWorker}
use Rattle.hd_search.specs.Fault.{AreEndsInOrder, AreThreadsInOrder}

-- an end has the number that the thread at this place promised
pub record IsEndAt (threads : List (PromisedHandle EndView OfWorker)) (i : ℕ) (end : EndView) : Type 0 where
  pub handle : PromisedHandle EndView OfWorker
  pub handle_is : handle ≡ slice_index_or threads i handle
  pub id : end.id ≡ handle.promise.id

pub ends_in_order :
    (threads : List (PromisedHandle EndView OfWorker)) (ends : List EndView) (from n : ℕ) → length ends ≡ n → n ≡ length threads → AreThreadsInOrder from threads
    → ((i : ℕ) (d : EndView) → i < n → IsEndAt threads i (slice_index_or ends i d)) → AreEndsInOrder from ends
ends_in_order threads [] from n many same order each = tt
ends_in_order [] (end ∷ ends) from n many same order each = absurd (omega (arith, many, same))
ends_in_order (thread ∷ threads) (end ∷ ends) from n many same order each =
    let first = each 0 end (omega (arith, many)) in (
      first.id ∙ (ap (λ h. h.promise.id) first.handle_is ∙ order.0),
      ends_in_order threads ends (from + 1) (n - 1) (omega (arith, many)) (omega (arith, many, same)) order.1 (λ i d below.
          let later = each (suc i) d (omega (arith, below)) in record { handle = later.handle; handle_is = later.handle_is; id = later.id }),
    )

-- one more thread, of the next number
pub with_next :
    (threads : List (PromisedHandle EndView OfWorker)) (thread : PromisedHandle EndView OfWorker) (from id : ℕ) → AreThreadsInOrder from threads → from + length threads ≡ id
    → thread.promise.id ≡ id → AreThreadsInOrder from (threads ++ thread ∷ [])
with_next [] thread from id order many of = (omega (arith, many, of), tt)
with_next (first ∷ threads) thread from id order many of = (order.0, with_next threads thread (from + 1) id order.1 (omega (arith, many)) of)

pub one_longer : (threads : List (PromisedHandle EndView OfWorker)) (thread : PromisedHandle EndView OfWorker) (id : ℕ) → length threads ≡ id → length (threads ++ thread ∷ []) ≡ id + 1
one_longer [] thread id many = omega (arith, many)
one_longer (first ∷ threads) thread id many = let more = one_longer threads thread (id - 1) (omega (arith, many)) in omega (arith, many, more)
