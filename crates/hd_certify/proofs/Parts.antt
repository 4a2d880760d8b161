-- Successors that are looked at some at a time.
use Rattle.std.proofs.Common.{◌≡◌, ℕ, ◌+◌, ◌<◌, true, false, Option, Some, List, [], ◌∷◌, ◌++◌, map, length, get_or, sym, ap, ◌∙◌, append-nil, append_assoc}
use Rattle.std.specs.Prelude.{slice_index_or}
use Rattle.std.proofs.lemmas.List.{get_or-map, length-map, map-append}
use Rattle.hd_task.specs.declared.state.State.{State}
use Rattle.hd_task.specs.Plans.{Node}
use Rattle.hd_tables.specs.Kids.{root}
use Rattle.hd_entries.specs.Kids.{posted_by}
use Rattle.hd_entries.specs.Settling.{BookState, IsBookKept, expansions, node_of}
use Rattle.hd_entries.specs.Holding.{posted_count}
use Rattle.hd_entries.specs.Resuming.{open_before, posted_nodes}
use Rattle.hd_entries.specs.Waiting.{IsAgain}
use Rattle.hd_entries.proofs.OpenPlaces.{open_here, places_are, within_posted}
use Rattle.hd_certify.specs.declared.gathering.MetNode.{MetNode}
use Rattle.hd_certify.specs.Gathering.{node_met, nodes_met}

-- there are as many nodes as posted successors
pub as_many : (b : BookState) → IsBookKept b → (states : List State) (ms : List MetNode) → nodes_met states ms ≡ posted_nodes b → length ms ≡ posted_count b
as_many b kept states ms are =
    sym (length-map ms (λ (m : MetNode). Some (node_met states m)))
    ∙ (ap length are ∙ (length-map (posted_by b.task (expansions b)) (node_of b) ∙ places_are b kept))

-- the node at a place is that of the successor there
node_here : (b : BookState) → IsBookKept b → (states : List State) (ms : List MetNode) → nodes_met states ms ≡ posted_nodes b → (place : ℕ) → place < posted_count b → place < length ms → (m : MetNode) → m ≡ get_or ms place m
    → Some (node_met states m) ≡ node_of b (get_or (posted_by b.task (expansions b)) place root)
node_here b kept states ms are place lt inside m at =
    let P = posted_by b.task (expansions b) in
    ap (λ (x : MetNode). Some (node_met states x)) at
    ∙ (sym (get_or-map (λ (x : MetNode). Some (node_met states x)) ms place m (Some (node_met states m)) inside)
    ∙ (ap (λ (rs : List (Option Node)). get_or rs place (Some (node_met states m))) are
    ∙ get_or-map (node_of b) P place root (Some (node_met states m)) (within_posted b kept place lt)))

-- a place whose successor is an entry
pub passed : (b : BookState) → IsBookKept b → IsAgain b → (place : ℕ) → place < posted_count b → slice_index_or b.marks place true ≡ true → (from : ℕ) (states : List State) (ms : List MetNode)
    → map (node_of b) (open_before b from) ++ nodes_met states ms ≡ map (node_of b) (open_before b place) → map (node_of b) (open_before b from) ++ nodes_met states ms ≡ map (node_of b) (open_before b (place + 1))
passed b kept again place lt mark from states ms before =
    before ∙ ap (map (node_of b)) (sym (open_here b kept again place lt true mark ∙ append-nil (open_before b place)))

-- a place whose successor is none
pub added :
    (b : BookState) → IsBookKept b → IsAgain b → (place : ℕ) → place < posted_count b → slice_index_or b.marks place true ≡ false → (from : ℕ) (states : List State) (all ms : List MetNode) → nodes_met states all ≡ posted_nodes b
    → place < length all → (m : MetNode) → m ≡ get_or all place m
    → map (node_of b) (open_before b from) ++ nodes_met states ms ≡ map (node_of b) (open_before b place) → map (node_of b) (open_before b from) ++ nodes_met states (ms ++ m ∷ []) ≡ map (node_of b) (open_before b (place + 1))
added b kept again place lt mark from states all ms are inside m at before =
    let k = get_or (posted_by b.task (expansions b)) place root in
    ap (λ (rs : List (Option Node)). map (node_of b) (open_before b from) ++ rs) (map-append (λ (x : MetNode). Some (node_met states x)) ms (m ∷ []))
    ∙ (sym (append_assoc (map (node_of b) (open_before b from)) (nodes_met states ms) (Some (node_met states m) ∷ []))
    ∙ (ap (λ (rs : List (Option Node)). rs ++ Some (node_met states m) ∷ []) before
    ∙ (ap (λ (o : Option Node). map (node_of b) (open_before b place) ++ o ∷ []) (node_here b kept states all are place lt inside m at)
    ∙ (sym (map-append (node_of b) (open_before b place) (k ∷ [])) ∙ ap (map (node_of b)) (sym (open_here b kept again place lt false mark))))))
