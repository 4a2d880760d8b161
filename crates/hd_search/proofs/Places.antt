-- The workers of a search, and their places.
use Rattle.std.proofs.Common.{◌≡◌, ℕ, zero, suc, ◌+◌, ◌≤◌, List, [], ◌∷◌, ◌++◌, map, length, refl, sym, ap, subst, ◌∙◌, arith}
use Rattle.std.specs.List.{AllByRecursion, range_with_len}
use Rattle.std.proofs.lemmas.List.FromFn.{length-map-range_with_len}
use Rattle.std.proofs.lemmas.List.{length-map}
use Rattle.hd_base.proofs.Lists.{cons_parts}
use Rattle.hd_task.specs.declared.task.Task.{Task}
use Rattle.hd_task.specs.declared.plan.Kid.{Kid}
use Rattle.hd_turns.specs.Worker.{WorkerView}
use Rattle.hd_recovery.specs.Recovered.{recovered_worker, recovered_workers}
use Rattle.hd_zobrist.specs.declared.owners.TheConstants.{MAX_WORKERS}
use Rattle.hd_threads.specs.declared.placing.Desk.{Desk}
use Rattle.hd_threads.specs.declared.placing.Workplace.{Workplace}
use Rattle.hd_threads.specs.Placing.{IsReadyAt}
use Rattle.hd_search.specs.Opening.{IsFresh, AreWorkersInOrder, AreAt}

-- ---- the workers that a search goes on with

fresh_each : (t : Task) (f : ℕ → WorkerView) → ((id : ℕ) → IsFresh t (f id)) → (ids : List ℕ) → AllByRecursion (IsFresh t) (map f ids)
fresh_each t f fresh [] = tt
fresh_each t f fresh (id ∷ ids) = (fresh id, fresh_each t f fresh ids)

-- they have given no batch
pub fresh_all : (t : Task) (entries : List Kid) (workers : ℕ) → AllByRecursion (IsFresh t) (recovered_workers t entries workers)
fresh_all t entries workers = fresh_each t (λ id. recovered_worker t entries id workers) (λ id. record { task = refl; numbered = refl }) (range_with_len 0 workers)

-- they are as many as is asked for
pub length_all : (t : Task) (entries : List Kid) (workers : ℕ) → length (recovered_workers t entries workers) ≡ workers
length_all t entries workers = length-map-range_with_len (λ id. recovered_worker t entries id workers) 0 workers

-- ---- their places

module _ {L A : Type 0} where
  -- the workers at places
  abbrev pub workers_at : List (Workplace L A) → List WorkerView
  workers_at places = map (λ (p : Workplace L A). p.worker) places

  -- a worker more is at its place
  pub one_more : (places : List (Workplace L A)) (p : Workplace L A) (rest whole : List WorkerView) → workers_at places ++ p.worker ∷ rest ≡ whole → workers_at (places ++ p ∷ []) ++ rest ≡ whole
  one_more [] p rest whole e = e
  one_more (q ∷ places) p rest whole e = ap (λ (ws : List WorkerView). q.worker ∷ ws) (one_more places p rest (workers_at places ++ p.worker ∷ rest) refl) ∙ e

  numbered_from : (t : Task) (entries : List Kid) (workers from n : ℕ) (places : List (Workplace L A)) → workers_at places ≡ map (λ id. recovered_worker t entries id workers) (range_with_len from n) → AreWorkersInOrder from workers places
  numbered_from t entries workers from n [] e = tt
  numbered_from t entries workers from zero (p ∷ places) e = absurd (cc)
  numbered_from t entries workers from (suc n) (p ∷ places) e =
      let parts =
      cons_parts p.worker (recovered_worker t entries from workers) (workers_at places)
      (map (λ id. recovered_worker t entries id workers) (range_with_len (from + 1) n)) e
      in
      (ap (λ (w : WorkerView). w.id) parts.0, ap (λ (w : WorkerView). w.workers) parts.0, numbered_from t entries workers (from + 1) n places parts.1)

  -- all workers are at their places
  pub opened_at : (t : Task) (entries : List Kid) (workers : ℕ) (d : Desk L A) (places : List (Workplace L A)) → AllByRecursion (IsReadyAt d) places → workers_at places ≡ recovered_workers t entries workers → length d.boxes ≡ workers → workers ≤ MAX_WORKERS → AreAt d places
  opened_at t entries workers d places each same boxes few =
      let count : length places ≡ workers =
      sym (length-map places (λ (p : Workplace L A). p.worker)) ∙ (ap length same ∙ length_all t entries workers)
      in
      record {
        each = each;
        numbered = subst (λ (n : ℕ). AreWorkersInOrder 0 n places) (sym count) (numbered_from t entries workers 0 workers places same);
        boxes = count ∙ sym boxes;
        few = omega (arith, count, few);
      }

  -- the same places, of as many, have the same numbers
  pub numbered_same : (from workers others : ℕ) (places same : List (Workplace L A)) → workers ≡ others → places ≡ same → AreWorkersInOrder from workers places → AreWorkersInOrder from others same
  numbered_same from workers others places same count e numbered = subst (λ (n : ℕ). AreWorkersInOrder from n same) count (subst (AreWorkersInOrder from workers) e numbered)
