-- What a stop leaves of a run, and what goes on from it.
use Rattle.std.proofs.Common.{◌≡◌, inl, inr, ℕ, zero, suc, ◌≤◌, Bool, true, false, Option, Some, None, List, [], ◌∷◌, ◌++◌, take, length, refl, sym, ap, ◌∙◌, subst, arith, append-nil, if◌then◌else◌}
use Rattle.std.proofs.lemmas.List.Concat.{flat_map-append}
use Rattle.hd_store.specs.Device.{Device}
use Rattle.hd_store.proofs.Leaving.{at_rest as rests_there}
use Rattle.hd_task.specs.declared.task.Task.{Task}
use Rattle.hd_task.specs.declared.plan.Kid.{Kid}
use Rattle.hd_task.specs.Expansions.{IsLegal}
use Rattle.hd_image.specs.Image.{front, most_of}
use Rattle.hd_journal.specs.Group.{GroupView}
use Rattle.hd_journal.specs.Journal.{append_calls}
use Rattle.hd_entries.specs.Resuming.{AreLegal}
use Rattle.hd_entries.specs.Settling.{expansions}
use Rattle.hd_book.specs.Queue as queues
use Rattle.hd_book.specs.Queue.{group_end}
use Rattle.hd_book.proofs.Ends.{first_above, group_within}
use Rattle.hd_world.specs.Headline.{MayBeLeft, MayBeLeftBy}
use Rattle.hd_world.specs.Order.{group_in, StandsInJournal, NoneIsOut, IsPulled, IsAppended}
use Rattle.hd_world.specs.Seats.{Run}
use Rattle.hd_world.specs.Sound.{IsSound}
use Rattle.hd_world.specs.Stops.{File, journal_entries, with_appended, at_rest, appending, journal_bytes, is_next, stopped_in}
use Rattle.hd_world.proofs.Ordering.{between_joins}
use Rattle.hd_world.proofs.Sounding.{group_ready}
use Rattle.hd_world.specs.Left.{Appending, HasGroups, IsLeft, IsFoundAfter, StopMayLeave}
use Rattle.hd_world.specs.Lasting.{doing_in, GoesOnFrom, IsResting}
use Rattle.hd_world.proofs.Beginnings.{beginning_recovered}
use Rattle.hd_world.proofs.Leaving.{append_stop}

-- ---- a stop

-- the journal as it stands
pub whole_left : (digest : List ℕ) (f : File) (group : Option GroupView) → IsLeft digest (doing_in f group) (journal_bytes digest f)
whole_left digest f None = record { behind = []; whole = refl }
whole_left digest f (Some g) = inl (record { behind = []; whole = refl })

none_made : (d : Device) (c : ℕ) → stopped_in d [] c ≡ d
none_made d zero = refl
none_made d (suc c) = refl

-- where no call is made
nothing_stopped : (digest : List ℕ) (f : File) (group : Option GroupView) (c : ℕ) (content : List ℕ)
    → StopMayLeave (stopped_in (at_rest (journal_bytes digest f)) [] c) content → IsLeft digest (doing_in f group) content
nothing_stopped digest f group c content stop =
    let whole = journal_bytes digest f in
    let left : StopMayLeave (at_rest whole) content = subst (λ (d : Device). StopMayLeave d content) (none_made (at_rest whole) c) stop in
    subst (IsLeft digest (doing_in f group)) (sym (rests_there whole [] tt content left)) (whole_left digest f group)

group_stopped : (digest : List ℕ) (f : File) (g : GroupView) (c : ℕ) (content : List ℕ) (next : Bool)
    → StopMayLeave (stopped_in (at_rest (journal_bytes digest f)) (if next then append_calls f.version (length (front f.version digest f.groups)) g.kids else []) c) content
    → IsLeft digest (Appending f g.kids) content
group_stopped digest f g c content true stop = append_stop digest f g.kids c content stop
group_stopped digest f g c content false stop = nothing_stopped digest f (Some g) c content stop

pub run_stopped : (digest : List ℕ) (f : File) (group : Option GroupView) (c : ℕ) (content : List ℕ)
    → StopMayLeave (stopped_in (at_rest (journal_bytes digest f)) (appending f digest group) c) content → IsLeft digest (doing_in f group) content
run_stopped digest f None c content stop = nothing_stopped digest f None c content stop
run_stopped digest f (Some g) c content stop = group_stopped digest f g c content (is_next f g) stop

-- ---- what is found then

-- of a run's entries a journal has a beginning, which a stop may leave
pub record IsCut (f : File) (r : Run) (found : File) : Type 0 where
  pub left : ℕ
  pub may : MayBeLeft r left
  pub version : found.version ≡ f.version
  pub entries : journal_entries found ≡ take left r.book.state.entries
  pub no_fewer : r.book.batches.queue.acknowledged ≤ left
  pub among : left ≤ length r.book.state.entries

one_more : (f : File) (kids : List Kid) → journal_entries (with_appended kids f) ≡ journal_entries f ++ kids
one_more f kids =
    flat_map-append (λ (ks : List Kid). ks) f.groups (kids ∷ []) ∙ ap (λ (ks : List Kid). journal_entries f ++ ks) (append-nil kids)

module _ (t : Task) (f : File) (r : Run) (x : IsSound t f r) where
  abbrev q : queues.QueueView
  q = r.book.batches.queue

  abbrev entries : List Kid
  entries = r.book.state.entries

  above : q.acknowledged ≤ group_end q
  above = first_above q.acknowledged q.ends q.out x.order.queue.batches

  within : group_end q ≤ length entries
  within = omega (arith, group_within q.acknowledged q.ends q.out x.order.queue.batches, x.order.counted)

  acknowledged_left : (g : File) → g ≡ f → MayBeLeft r q.acknowledged → journal_entries f ≡ take q.acknowledged entries → IsCut f r g
  acknowledged_left g same may is = record {
    left = q.acknowledged;
    may = may;
    version = ap (λ (h : File). h.version) same;
    entries = ap journal_entries same ∙ is;
    no_fewer = omega arith;
    among = omega (arith, above, within);
  }

  found_by : (g : File) → StandsInJournal f entries q r.group r.flushed → IsFoundAfter (doing_in f r.group) g → IsCut f r g
  found_by g (NoneIsOut out none nothing is) found =
      acknowledged_left g (subst (λ (o : Option GroupView). IsFoundAfter (doing_in f o) g) none found)
      (subst (λ (o : Option GroupView). MayBeLeftBy r.book r.group o q.acknowledged) (sym nothing)
      (subst (λ (o : Option GroupView). MayBeLeftBy r.book o None q.acknowledged) (sym none) refl)) is
  found_by g (IsPulled out near its nothing is) found =
      let may : (n : ℕ) → MayBeLeftBy r.book (Some (group_in entries q)) None n → MayBeLeft r n =
      λ n m. subst (λ (o : Option GroupView). MayBeLeftBy r.book r.group o n) (sym nothing)
      (subst (λ (o : Option GroupView). MayBeLeftBy r.book o None n) (sym its) m) in
      elim (subst (λ (o : Option GroupView). IsFoundAfter (doing_in f o) g) its found) [
        | inl same ↦ acknowledged_left g same (may q.acknowledged (inl refl)) is
        | inr more ↦
            let kids = (group_in entries q).kids in
            record {
              left = group_end q;
              may = may (group_end q) (inr refl);
              version = ap (λ (h : File). h.version) more;
              entries =
                  ap journal_entries more
                  ∙ (one_more f kids
                  ∙ (ap (λ (ks : List Kid). ks ++ kids) is ∙ between_joins entries q.acknowledged (group_end q) above));
              no_fewer = above;
              among = within;
            }
      ]
  found_by g (IsAppended out none its is) found =
      let same : g ≡ f = subst (λ (o : Option GroupView). IsFoundAfter (doing_in f o) g) none found in
      record {
        left = group_end q;
        may = subst (λ (o : Option GroupView). MayBeLeftBy r.book r.group o (group_end q)) (sym its) refl;
        version = ap (λ (h : File). h.version) same;
        entries = ap journal_entries same ∙ is;
        no_fewer = above;
        among = within;
      }

  pub run_found : (g : File) → IsFoundAfter (doing_in f r.group) g → IsCut f r g
  run_found g found = found_by g x.order.stands found

  -- ---- a search goes on from it

  legal : AreLegal t entries
  legal =
      let b = r.book.state in
      (expansions b, x.truth.kept.named, subst (λ (u : Task). IsLegal u (expansions b)) x.truth.of_task x.truth.kept.marked.legal)

  pub run_goes_on : GoesOnFrom t (doing_in f r.group)
  run_goes_on g found =
      let c = run_found g found in
      let few : length entries ≤ most_of g.version = omega (arith, x.order.few, x.order.most_is, ap most_of c.version) in
      beginning_recovered t g entries c.left legal c.among few c.entries

  groups_by : (o : Option GroupView) → r.group ≡ o → HasGroups (doing_in f o)
  groups_by None e = x.order.sound
  groups_by (Some g) e = (x.order.sound, (group_ready t f r x g e).of_file)

  pub run_groups : HasGroups (doing_in f r.group)
  run_groups = groups_by r.group refl

  -- what a stop leaves of a run
  pub run_rests : (digest content : List ℕ) → IsLeft digest (doing_in f r.group) content → IsResting t digest content
  run_rests digest content left = record { doing = doing_in f r.group; groups = run_groups; left = left; on = run_goes_on }
