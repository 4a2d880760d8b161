-- Entries whose states stand apart: the entry of a number, and one more.
use Rattle.std.proofs.Common.{◌≡◌, ℕ, zero, suc, ◌<◌, List, [], ◌∷◌, ◌++◌, Some, length, get_or, slice_get, refl, sym, ap, ap₂, ◌∙◌, arith}
use Rattle.std.proofs.lemmas.Option.{same_Some}
use Rattle.hd_task.specs.declared.state.State.{State}
use Rattle.hd_zobrist.specs.Hash.{state_hash}
use Rattle.hd_entries.specs.declared.entry.ExpandedPlan.{ExpandedPlan}
use Rattle.hd_entries.specs.declared.entry.Label.{Label}
use Rattle.hd_entries.specs.Table.{entry_from, labelled_entries, AreLabels}

-- there are as many entries as labels, and as states
pub labels_count : (ls : List Label) (ss : List State) → AreLabels ls ss → length (labelled_entries ls ss) ≡ length ls
labels_count [] ss all = refl
labels_count (l ∷ ls) [] all = absurd all
labels_count (l ∷ ls) (s ∷ ss) all = ap suc (labels_count ls ss all.1)

pub states_count : (ls : List Label) (ss : List State) → AreLabels ls ss → length (labelled_entries ls ss) ≡ length ss
states_count [] [] all = refl
states_count [] (s ∷ ss) all = absurd all
states_count (l ∷ ls) [] all = absurd all
states_count (l ∷ ls) (s ∷ ss) all = ap suc (states_count ls ss all.1)

-- a label and a state of one number are those of an entry
pub record IsEntryAt (ls : List Label) (ss : List State) (i : ℕ) (l : Label) (s : State) (e : ExpandedPlan) : Type 0 where
  pub hash : l.hash ≡ state_hash s
  pub there : entry_from l s ≡ get_or (labelled_entries ls ss) i e

pub entry_at :
    (ls : List Label) (ss : List State) (i : ℕ) (l : Label) (s : State) (e : ExpandedPlan) → AreLabels ls ss → i < length ls → l ≡ get_or ls i l → slice_get ss i ≡ Some s
    → IsEntryAt ls ss i l s e
entry_at [] ss i l s e all lt label state = absurd (omega (arith, lt))
entry_at (k ∷ ls) [] i l s e all lt label state = absurd all
entry_at (k ∷ ls) (u ∷ ss) zero l s e all lt label state =
    let same : u ≡ s = same_Some u s state in
    record {
      hash = ap (λ (m : Label). m.hash) label ∙ (all.0 ∙ ap state_hash same);
      there = ap₂ entry_from label (sym same);
    }
entry_at (k ∷ ls) (u ∷ ss) (suc i) l s e all lt label state =
    let r = entry_at ls ss i l s e all.1 (omega (arith, lt)) label state in
    record { hash = r.hash; there = r.there }

-- ---- one more

pub labels_push : (ls : List Label) (ss : List State) (l : Label) (s : State) → AreLabels ls ss → l.hash ≡ state_hash s → AreLabels (ls ++ l ∷ []) (ss ++ s ∷ [])
labels_push [] [] l s all hash = (hash, tt)
labels_push [] (u ∷ ss) l s all hash = absurd all
labels_push (k ∷ ls) [] l s all hash = absurd all
labels_push (k ∷ ls) (u ∷ ss) l s all hash = (all.0, labels_push ls ss l s all.1 hash)

pub entries_push : (ls : List Label) (ss : List State) (l : Label) (s : State) → AreLabels ls ss → labelled_entries (ls ++ l ∷ []) (ss ++ s ∷ []) ≡ labelled_entries ls ss ++ entry_from l s ∷ []
entries_push [] [] l s all = refl
entries_push [] (u ∷ ss) l s all = absurd all
entries_push (k ∷ ls) [] l s all = absurd all
entries_push (k ∷ ls) (u ∷ ss) l s all = ap (λ (es : List ExpandedPlan). entry_from k u ∷ es) (entries_push ls ss l s all.1)
