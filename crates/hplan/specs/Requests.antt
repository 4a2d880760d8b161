-- Which requests are of searches, and which of journals. (Our own.)
use Rattle.hd_words.specs.declared.request.Request.{Request}
use Rattle.hd_words.specs.declared.request.Request.TheVariants.{Solve, Resume, Certify, Migrate, Inspect, Survey, Ground, Validate, Replay}

-- a request asks for something else than a search
abbrev pub AsksNoSearch : Request → Type 0
AsksNoSearch (Solve domain problem journal search plan) = ⊥
AsksNoSearch (Resume domain problem journal search plan) = ⊥
AsksNoSearch (Certify domain problem journal stats) = Unit {0}
AsksNoSearch (Migrate domain problem journal to salvage) = Unit {0}
AsksNoSearch (Inspect journal) = Unit {0}
AsksNoSearch (Survey domain problem journal) = Unit {0}
AsksNoSearch (Ground domain problem) = Unit {0}
AsksNoSearch (Validate domain problem plan trace) = Unit {0}
AsksNoSearch (Replay domain problem schedule) = Unit {0}

-- a request asks something of a journal that it names, and is no search
abbrev pub AsksOfJournal : Request → Type 0
AsksOfJournal (Solve domain problem journal search plan) = ⊥
AsksOfJournal (Resume domain problem journal search plan) = ⊥
AsksOfJournal (Certify domain problem journal stats) = Unit {0}
AsksOfJournal (Migrate domain problem journal to salvage) = Unit {0}
AsksOfJournal (Inspect journal) = Unit {0}
AsksOfJournal (Survey domain problem journal) = Unit {0}
AsksOfJournal (Ground domain problem) = ⊥
AsksOfJournal (Validate domain problem plan trace) = ⊥
AsksOfJournal (Replay domain problem schedule) = ⊥
