-- What a request keeps. (Our own.)
use Rattle.std.specs.Prelude.{ℕ, ◌≤◌, IfSome}
use Rattle.hd_words.specs.declared.request.Request.{Request}
use Rattle.hd_words.specs.declared.request.Request.TheVariants.{Solve, Resume, Certify, Migrate, Inspect, Survey, Ground, Validate, Replay}
use Rattle.hd_words.specs.declared.request.Search.{Search}
use Rattle.hd_words.specs.declared.request.TheConstants.{MAX_WORKERS, MAX_LIMIT, MAX_INTERVAL}

-- a number of workers
abbrev pub IsWorkers : ℕ → Type 0
IsWorkers workers = (1 ≤ workers) × (workers ≤ MAX_WORKERS)

-- a number of expansions that a search stops at
abbrev pub IsLimit : ℕ → Type 0
IsLimit limit = (1 ≤ limit) × (limit ≤ MAX_LIMIT)

-- a number of seconds between two lines about a search
abbrev pub IsInterval : ℕ → Type 0
IsInterval seconds = (1 ≤ seconds) × (seconds ≤ MAX_INTERVAL)

-- a search has 1 to 64 workers; if it has a limit, one of 1 to 2^40 - 2; and if it reports how it
-- stands, it does so each second, or less often, up to once a day
pub record IsSearchOf (s : Search) : Type 0 where
  pub workers : IsWorkers s.workers
  pub limit : IfSome s.limit IsLimit
  pub progress : IfSome s.progress IsInterval

-- a request to solve or to resume is of such a search; no other has one
abbrev pub IsWithin : Request → Type 0
IsWithin (Solve domain problem journal search plan) = IsSearchOf search
IsWithin (Resume domain problem journal search plan) = IsSearchOf search
IsWithin (Certify domain problem journal stats) = Unit {0}
IsWithin (Migrate domain problem journal to salvage) = Unit {0}
IsWithin (Inspect journal) = Unit {0}
IsWithin (Survey domain problem journal) = Unit {0}
IsWithin (Ground domain problem) = Unit {0}
IsWithin (Validate domain problem plan trace) = Unit {0}
IsWithin (Replay domain problem schedule) = Unit {0}
