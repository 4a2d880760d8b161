-- A journal on a store that is one of a run: its entries, and the calls that append to it.
use Rattle.std.proofs.Common.{◌≡◌, ℕ, ◌+◌, ◌==◌, ◌&&◌, Bool, true, Some, List, [], ◌∷◌, ◌++◌, length, map, refl, sym, ap, ap₂, ◌∙◌, if◌then◌else◌}
use Rattle.std.specs.Prelude.{flat_map}
use Rattle.std.specs.List.{list_all}
use Rattle.std.proofs.lemmas.List.{map-append, length-map}
use Rattle.hd_task.specs.declared.plan.Kid.{Kid}
use Rattle.hd_store.specs.declared.store.Store.{Ghosts}
use Rattle.hd_image.specs.declared.version.Version.{Version}
use Rattle.hd_image.specs.declared.header.TheConstants.{FIRST_GATE}
use Rattle.hd_image.specs.Image.{fits_parent, opened, front, entry_width, entries_of, entries_in}
use Rattle.hd_journal.specs.declared.journal.Journal.{Journal}
use Rattle.hd_journal.specs.Answers as journals
use Rattle.hd_journal.specs.Group.{GroupView}
use Rattle.hd_journal.specs.Journal.{IsOf, append_calls, kid_of, kids_of}
use Rattle.hd_world.specs.Stops as stops
use Rattle.hd_world.specs.Stops.{File, is_next, appending}

group_kids : (v : Version) (at : ℕ) (kids : List Kid) → map kid_of (entries_of v at kids) ≡ kids
group_kids v at [] = refl
group_kids v at (k ∷ kids) = ap (λ (ks : List Kid). k ∷ ks) (group_kids v (at + entry_width v) kids)

all_kids : (v : Version) (gate : ℕ) (groups : List (List Kid)) → map kid_of (entries_in v gate groups) ≡ flat_map (λ (kids : List Kid). kids) groups
all_kids v gate [] = refl
all_kids v gate (g ∷ groups) =
    map-append kid_of (entries_of v (gate + 5) g) (entries_in v (gate + length (opened v g)) groups)
    ∙ ap₂ (λ (xs ys : List Kid). xs ++ ys) (group_kids v (gate + 5) g) (all_kids v (gate + length (opened v g)) groups)

module _ {S : Type 0} {G : Ghosts S} (digest : List ℕ) (f : File) (journal : Journal S G) (is : IsOf digest f.groups journal) where
  pub journal_kids : kids_of journal ≡ stops.journal_entries f
  journal_kids = ap (map kid_of) is.entries ∙ all_kids journal.version FIRST_GATE f.groups

  pub journal_count : length journal.entries.items ≡ length (stops.journal_entries f)
  journal_count = sym (length-map journal.entries.items kid_of) ∙ ap length journal_kids

  module _ (version : journal.version ≡ f.version) where
    pub next_same : (g : GroupView) → journals.is_next journal g ≡ is_next f g
    next_same g =
        ap₂ (λ (n : ℕ) (v : Version). (g.first == n) && list_all (λ (k : Kid). fits_parent v k.parent) g.kids) journal_count version

    pub calls_same : (g : GroupView) → journals.is_next journal g ≡ true → appending f digest (Some g) ≡ append_calls journal.version journal.last_gate g.kids
    calls_same g next =
        let gate = length (front f.version digest f.groups) in
        ap (λ (b : Bool). if b then append_calls f.version gate g.kids else []) (sym (next_same g) ∙ next)
        ∙ (ap (λ (n : ℕ). append_calls f.version n g.kids) (sym (is.gate ∙ ap (λ (v : Version). length (front v digest f.groups)) version))
        ∙ ap (λ (v : Version). append_calls v journal.last_gate g.kids) (sym version))
