-- Beginnings of the entries of a legal list.
use Rattle.std.proofs.Common.{◌≡◌, ℕ, ◌≤◌, Bool, true, not, ◌&&◌, Option, Some, None, is_some, List, [], ◌∷◌, fold, take, drop, length, refl, sym, ap, ap₂, ◌∙◌, subst, arith}
use Rattle.std.proofs.lemmas.Bool.{le-leb}
use Rattle.std.proofs.lemmas.Option.{none-some}
use Rattle.std.proofs.lemmas.List.{length-take, take_at, take-append-drop}
use Rattle.std.proofs.lemmas.List.Sums.{fold-append}
use Rattle.hd_task.specs.declared.task.Task.{Task}
use Rattle.hd_task.specs.declared.plan.Kid.{Kid}
use Rattle.hd_task.specs.Entries.{plans_of, with_entry}
use Rattle.hd_task.proofs.Growing.{legal_take}
use Rattle.hd_image.specs.Image.{most_of}
use Rattle.hd_entries.specs.Resuming.{AreLegal}
use Rattle.hd_entries.proofs.Faultless.{no_faults}
use Rattle.hd_entries.proofs.Naming.{length-plans_of}
use Rattle.hd_entries.proofs.Walking.{goes_on}
use Rattle.hd_world.specs.Stops.{File, journal_entries}
use Rattle.hd_world.specs.World.{is_recovered}

nothing : (ks : List Kid) → fold with_entry None ks ≡ None
nothing [] = refl
nothing (k ∷ ks) = nothing ks

-- the first entries name the first plans
pub named_take : (entries : List Kid) (expanded : List (List ℕ)) (n : ℕ) → n ≤ length entries → plans_of entries ≡ Some expanded
    → plans_of (take n entries) ≡ Some (take n expanded)
named_take entries expanded n within named =
    let first = take n entries in
    let rest = drop n entries in
    let parts : fold with_entry (plans_of first) rest ≡ Some expanded =
    sym (fold-append with_entry (Some []) first rest) ∙ (ap plans_of (take-append-drop n entries) ∙ named) in
    elim (plans_of first) as (λ o. plans_of first ≡ o → fold with_entry o rest ≡ Some expanded → plans_of first ≡ Some (take n expanded)) [
      | None ↦ λ is e. absurd (none-some expanded (sym (nothing rest) ∙ e))
      | Some plans ↦ λ is e.
          let on = goes_on rest plans expanded e in
          let count : length plans ≡ n = omega (arith, length-plans_of first plans is, length-take n entries, within) in
          is ∙ ap Some (sym (ap (take n) on.is ∙ take_at plans on.more n count))
    ] refl parts

-- a beginning of a legal list's entries is one of a legal list
pub legal_beginning : (t : Task) (entries : List Kid) (n : ℕ) → n ≤ length entries → AreLegal t entries → AreLegal t (take n entries)
legal_beginning t entries n within legal =
    (take n legal.0, named_take entries legal.0 n within legal.1, legal_take t legal.0 n legal.2)

-- a search goes on from the entries of a legal list that are not too many
pub recovered_from : (t : Task) (f : File) → AreLegal t (journal_entries f) → length (journal_entries f) ≤ most_of f.version → is_recovered t f ≡ true
recovered_from t f legal few =
    ap₂ (λ (x y : Bool). x && y) (le-leb (length (journal_entries f)) (most_of f.version) few)
    (ap (λ (o : Option _). not (is_some o)) (no_faults t (journal_entries f) [] legal.0 refl legal.1 legal.2))

pub beginning_recovered : (t : Task) (f : File) (entries : List Kid) (n : ℕ) → AreLegal t entries → n ≤ length entries
    → length entries ≤ most_of f.version → journal_entries f ≡ take n entries → is_recovered t f ≡ true
beginning_recovered t f entries n legal within few is =
    recovered_from t f (subst (AreLegal t) (sym is) (legal_beginning t entries n within legal))
    (omega (arith, ap length is, length-take n entries, few, within))
