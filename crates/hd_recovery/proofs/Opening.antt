-- The nodes of successors that are no entries, place by place.
use Rattle.std.proofs.Common.{◌≡◌, ℕ, ◌+◌, ◌<◌, ◌≤◌, Option, List, ◌++◌, map, flat_map, sym, ap, ◌∙◌}
use Rattle.std.proofs.lemmas.Grind.{flat_map-append}
use Rattle.hd_node.specs.Parcel.{ParcelView}
use Rattle.hd_entries.specs.Settling.{BookState, IsBookKept}
use Rattle.hd_entries.specs.Holding.{Released, parcel_of, posted_count}
use Rattle.hd_entries.specs.Resuming.{open_before, open_in, open_kids, IsOpenAt}
use Rattle.hd_entries.specs.Waiting.{IsAgain}
use Rattle.hd_entries.proofs.OpenPlaces as opening
use Rattle.hd_recovery.specs.Recovered.{nodes_before, open_at, open_nodes}
use Rattle.hd_recovery.proofs.Teams.{all_open}

-- one place more
pub nodes_more : (b : BookState) → IsBookKept b → IsAgain b → (place : ℕ) → place < posted_count b → (o : Option ParcelView) → IsOpenAt b place o → nodes_before b place ++ map parcel_of (open_in o) ≡ nodes_before b (place + 1)
nodes_more b kept again place lt o at =
    ap (λ (rs : List Released). nodes_before b place ++ rs) (all_open b (open_in o) (opening.open_leads b place o at))
    ∙ (sym (flat_map-append (open_at b) (open_before b place) (map (λ (p : ParcelView). p.kid) (open_in o)))
    ∙ ap (flat_map (open_at b)) (opening.open_more b kept again place lt o at))

-- all places
pub all_nodes : (b : BookState) → IsBookKept b → IsAgain b → (n : ℕ) → posted_count b ≤ n → nodes_before b n ≡ open_nodes b.task b.entries
all_nodes b kept again n le =
    ap (flat_map (open_at b)) (opening.all_open b kept n le)
    ∙ ap (λ (s : BookState). flat_map (open_at s) (open_kids b.task b.entries)) again
