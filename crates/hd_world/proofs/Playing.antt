-- Worlds that a schedule comes to: each is sound, and what resumptions make of what stops left.
use Rattle.std.proofs.Common.{◌≡◌, inl, inr, ℕ, ◌≤◌, Bool, true, false, not, nat_le, Option, Some, None, is_some, List, [], ◌∷◌, length, refl, sym, ap, ◌∙◌, subst, arith, true≢false, if◌then◌else◌}
use Rattle.std.proofs.lemmas.Bool.{and_parts, leb-true}
use Rattle.hd_base.proofs.Lists.{AllByRecursion-push}
use Rattle.hd_task.specs.declared.task.Task.{Task}
use Rattle.hd_image.specs.declared.header.TheConstants.{DIGEST_LEN}
use Rattle.hd_image.specs.Image.{IsGroup, most_of}
use Rattle.hd_journal.specs.Group.{GroupView}
use Rattle.hd_entries.specs.declared.refusal.Refusal.{Refusal}
use Rattle.hd_entries.specs.Resuming.{first_fault}
use Rattle.hd_zobrist.specs.declared.owners.TheConstants.{MAX_WORKERS}
use Rattle.hd_world.specs.declared.moves.Move.{Move}
use Rattle.hd_world.specs.declared.moves.Move.TheVariants.{Resume, Pop, Take, Expand, Commit, Redeem, Push, Offer, Load, Pull, Flush, Ack, Stop}
use Rattle.hd_world.specs.declared.moves.StopAt.{StopAt}
use Rattle.hd_world.specs.Headline.{Rests}
use Rattle.hd_world.specs.Seats.{Run}
use Rattle.hd_world.specs.Sound.{IsSound}
use Rattle.hd_world.specs.Starting.{run_after}
use Rattle.hd_world.specs.Stops.{File, Anything, AreGroups, IsUnopened, journal_entries, with_appended, journal_bytes, is_next}
use Rattle.hd_world.specs.World.{World, Stopped, Running, flushed_to, StopsIn, Falls, IsNone, MayResume, is_recovered, recovered, ResumesTo, IsNot, IsRefused, IsStopped, IsOpened, MovesRunning, StepsOn, StepsFrom, StepsTo, Plays, IsBeginning, IsEmpty, IsJournal, LeadsTo}
use Rattle.hd_world.proofs.Sounding.{starts_sound, turns_sound, flush_sound}
use Rattle.hd_world.specs.Left.{Doing, Making, Standing, Appending, HasGroups, IsLeft, IsFoundAfter}
use Rattle.hd_world.specs.Lasting.{doing_in, GoesOnFrom, IsGoneOn, IsResting, IsSoundWorld}
use Rattle.hd_world.proofs.Halting.{whole_left, run_stopped, run_rests}
use Rattle.hd_world.proofs.Leaving.{open_stop}
use Rattle.hd_world.proofs.Opened.{left_found, left_not_refused}

-- ---- worlds

abbrev content_in : World → List ℕ
content_in (Stopped content) = content
content_in (Running f r) = []

abbrev file_in : File → World → File
file_in other (Stopped content) = other
file_in other (Running f r) = f

abbrev run_in : Run → World → Run
run_in other (Stopped content) = other
run_in other (Running f r) = r

pub not_running : (content : List ℕ) (f : File) (r : Run) → Stopped content ≡ Running f r → ⊥
not_running content f r e = cc

-- ---- a run that stops

pub flush_runs : (f : File) (r : Run) (group : Option GroupView) (content : List ℕ) → Stopped content ≡ flushed_to f r group → ⊥
flush_runs f r None content e = not_running content f r e
flush_runs f r (Some g) content e =
    elim (is_next f g) as (λ b. Stopped content ≡ (if b then Running (with_appended g.kids f) (record r { group = None; flushed = Some g }) else Running f r) → ⊥) [
      | true ↦ λ e. not_running content (with_appended g.kids f) (record r { group = None; flushed = Some g }) e
      | false ↦ λ e. not_running content f r e
    ] e

module _ (t : Task) (digest : List ℕ) (f : File) (r : Run) (content : List ℕ) where
  ended : (m : Move) → MovesRunning t digest f r m (Stopped content) → IsLeft digest (doing_in f r.group) content
  ended m s =
      elim s [
        | inl on ↦ absurd (not_running content f on.0 on.2)
        | inr end ↦ subst (IsLeft digest (doing_in f r.group)) (sym (ap content_in end.1)) (whole_left digest f r.group)
      ]

  fallen : (stop : StopAt) → StopsIn Anything digest f r stop (Stopped content) → IsLeft digest (doing_in f r.group) content
  fallen stop (Falls left within leaves is) =
      subst (IsLeft digest (doing_in f r.group)) (sym (ap content_in is)) (run_stopped digest f r.group stop.call left leaves)
  fallen stop (IsNone past is) = absurd (not_running content f r is)

  pub run_left : (m : Move) → StepsOn Anything t digest f r m (Stopped content) → IsLeft digest (doing_in f r.group) content
  run_left (Resume workers stop) s = absurd (not_running content f r s)
  run_left (Pop k) s = ended (Pop k) s
  run_left (Take k) s = ended (Take k) s
  run_left (Expand k place) s = ended (Expand k place) s
  run_left (Commit k) s = ended (Commit k) s
  run_left (Redeem k) s = ended (Redeem k) s
  run_left (Push k) s = ended (Push k) s
  run_left (Offer k) s = ended (Offer k) s
  run_left (Load k) s = ended (Load k) s
  run_left Pull s = ended Pull s
  run_left Flush s = absurd (flush_runs f r r.group content s)
  run_left Ack s = ended Ack s
  run_left (Stop stop) s = fallen stop s

-- ---- a resumption

-- the journals that may be found have groups
found_groups : (doing : Doing) (f : File) → HasGroups doing → IsFoundAfter doing f → AreGroups f
found_groups Making f groups found = subst AreGroups (sym found) tt
found_groups (Standing g) f groups found = subst AreGroups (sym found) groups
found_groups (Appending g next) f groups found =
    elim found [
      | inl same ↦ subst AreGroups (sym same) groups.0
      | inr more ↦ subst AreGroups (sym more) (AllByRecursion-push (IsGroup g.version) g.groups next groups.0 groups.1)
    ]

workers_some : (workers : ℕ) (stop : Option StopAt) → MayResume workers stop → (1 ≤ workers) × (workers ≤ MAX_WORKERS)
workers_some workers None may = may
workers_some workers (Some at) may = (may.0, may.1)

pub recovered_is : (t : Task) (digest : List ℕ) (workers : ℕ) (f : File) → is_recovered t f ≡ true
    → recovered t digest workers f ≡ Running f (run_after t (most_of f.version) workers (journal_entries f))
recovered_is t digest workers f e =
    ap (λ (b : Bool). if b then Running f (run_after t (most_of f.version) workers (journal_entries f)) else Stopped (journal_bytes digest f)) e

-- a search that goes on from a journal is sound
pub faultless : (o : Option (ℕ × Refusal)) → not (is_some o) ≡ true → o ≡ None
faultless None e = refl
faultless (Some fault) e = absurd (true≢false (sym e))

pub resumed_sound : (t : Task) (f : File) (workers : ℕ) → AreGroups f → is_recovered t f ≡ true
    → IsSound t f (run_after t (most_of f.version) workers (journal_entries f))
resumed_sound t f workers groups e =
    let parts = and_parts (nat_le (length (journal_entries f)) (most_of f.version)) (not (is_some (first_fault t [] (journal_entries f)))) e in
    starts_sound t f workers groups (faultless (first_fault t [] (journal_entries f)) parts.1) (leb-true (length (journal_entries f)) (most_of f.version) parts.0)

module _ (t : Task) (digest : List ℕ) (doing : Doing) (len : length digest ≡ DIGEST_LEN) (groups : HasGroups doing) (on : GoesOnFrom t doing) where
  unrefused : (content : List ℕ) → IsLeft digest doing content → IsUnopened digest content → ⊥
  unrefused content left u = u.of_content (left_not_refused digest doing content u.error len groups left u.why)

  resumption : (content : List ℕ) (workers : ℕ) (stop : Option StopAt) (w : World) → IsLeft digest doing content
      → ResumesTo Anything t digest content workers stop w → IsGoneOn t digest doing w
  resumption content workers stop w left (IsNot may is) = subst (IsGoneOn t digest doing) (sym is) left
  resumption content workers stop w left (IsRefused may not is) = absurd (unrefused content left not)
  resumption content workers stop w left (IsStopped calls f at after may o e within leaves is) =
      subst (IsGoneOn t digest doing) (sym is) (open_stop digest doing content calls f at.call after len groups left o leaves)
  resumption content workers stop w left (IsOpened calls f may o behind is) =
      let found : IsFoundAfter doing f = left_found digest doing content calls f len groups left o in
      let few = workers_some workers stop may in
      subst (IsGoneOn t digest doing) (sym (is ∙ recovered_is t digest workers f (on f found)))
      (found, record { workers = workers; some = few.0; most = few.1; is = refl })

  -- so a search that goes on is the one after the entries of such a journal, with the workers of
  -- the resumption
  pub resumed_with : (content : List ℕ) (workers : ℕ) (stop : Option StopAt) (f : File) (r : Run) → IsLeft digest doing content
      → ResumesTo Anything t digest content workers stop (Running f r)
      → IsFoundAfter doing f × (1 ≤ workers) × (workers ≤ MAX_WORKERS) × (r ≡ run_after t (most_of f.version) workers (journal_entries f))
  resumed_with content workers stop f r left (IsNot may is) = absurd (not_running content f r (sym is))
  resumed_with content workers stop f r left (IsRefused may not is) = absurd (not_running content f r (sym is))
  resumed_with content workers stop f r left (IsStopped calls g at after may o e within leaves is) = absurd (not_running after f r (sym is))
  resumed_with content workers stop f r left (IsOpened calls g may o behind is) =
      let found : IsFoundAfter doing g = left_found digest doing content calls g len groups left o in
      let same = is ∙ recovered_is t digest workers g (on g found) in
      let file : f ≡ g = ap (file_in f) same in
      let few = workers_some workers stop may in (
        subst (IsFoundAfter doing) (sym file) found,
        few.0,
        few.1,
        ap (run_in r) same ∙ ap (λ (h : File). run_after t (most_of h.version) workers (journal_entries h)) (sym file),
      )

  -- a move while nothing runs
  pub gone_on : (content : List ℕ) (m : Move) (w : World) → IsLeft digest doing content → StepsTo Anything t digest (Stopped content) m w → IsGoneOn t digest doing w
  gone_on content (Resume workers stop) w left s = resumption content workers stop w left s
  gone_on content (Pop k) w left s = subst (IsGoneOn t digest doing) (sym s) left
  gone_on content (Take k) w left s = subst (IsGoneOn t digest doing) (sym s) left
  gone_on content (Expand k place) w left s = subst (IsGoneOn t digest doing) (sym s) left
  gone_on content (Commit k) w left s = subst (IsGoneOn t digest doing) (sym s) left
  gone_on content (Redeem k) w left s = subst (IsGoneOn t digest doing) (sym s) left
  gone_on content (Push k) w left s = subst (IsGoneOn t digest doing) (sym s) left
  gone_on content (Offer k) w left s = subst (IsGoneOn t digest doing) (sym s) left
  gone_on content (Load k) w left s = subst (IsGoneOn t digest doing) (sym s) left
  gone_on content Pull w left s = subst (IsGoneOn t digest doing) (sym s) left
  gone_on content Flush w left s = subst (IsGoneOn t digest doing) (sym s) left
  gone_on content Ack w left s = subst (IsGoneOn t digest doing) (sym s) left
  gone_on content (Stop stop) w left s = subst (IsGoneOn t digest doing) (sym s) left

  -- moves during which nothing runs
  pub rested : (moves : List Move) (content left : List ℕ) → IsLeft digest doing content → Rests t digest content moves left → IsLeft digest doing left
  rested [] content left x rests = subst (IsLeft digest doing) (sym rests) x
  rested (m ∷ moves) content left x rests = rested moves rests.0 left (gone_on content m (Stopped rests.0) x rests.1) rests.2

  pub gone_sound : (w : World) → IsGoneOn t digest doing w → IsSoundWorld t digest w
  gone_sound (Stopped content) x = record { doing = doing; groups = groups; left = x; on = on }
  gone_sound (Running f r) x =
      subst (IsSound t f) (sym x.1.is) (resumed_sound t f x.1.workers (found_groups doing f groups x.0) (on f x.0))

  pub resumption_sound : (content : List ℕ) (workers : ℕ) (stop : Option StopAt) (w : World) → IsLeft digest doing content
      → ResumesTo Anything t digest content workers stop w → IsSoundWorld t digest w
  resumption_sound content workers stop w left s = gone_sound w (resumption content workers stop w left s)

-- ---- each move

module _ (t : Task) (digest : List ℕ) (len : length digest ≡ DIGEST_LEN) where
  module _ (f : File) (r : Run) (x : IsSound t f r) where
    stopped : (content : List ℕ) → IsLeft digest (doing_in f r.group) content → IsSoundWorld t digest (Stopped content)
    stopped content left = run_rests t f r x digest content left

    turned : (m : Move) (w : World) → MovesRunning t digest f r m w → IsSoundWorld t digest w
    turned m w s =
        elim s [
          | inl on ↦ subst (IsSoundWorld t digest) (sym on.2) (turns_sound t f r x m on.0 on.1)
          | inr end ↦ subst (IsSoundWorld t digest) (sym end.1) (stopped (journal_bytes digest f) (whole_left digest f r.group))
        ]

    flushed : (group : Option GroupView) (w : World) → r.group ≡ group → w ≡ flushed_to f r group → IsSoundWorld t digest w
    flushed None w e s = subst (IsSoundWorld t digest) (sym s) x
    flushed (Some g) w e s =
        let after = record r { group = None; flushed = Some g } in
        elim (is_next f g) as (λ b. w ≡ (if b then Running (with_appended g.kids f) after else Running f r) → IsSoundWorld t digest w) [
          | true ↦ λ s. subst (IsSoundWorld t digest) (sym s) (flush_sound t f r x g e)
          | false ↦ λ s. subst (IsSoundWorld t digest) (sym s) x
        ] s

    falls : (stop : StopAt) (w : World) → StopsIn Anything digest f r stop w → IsSoundWorld t digest w
    falls stop w (Falls left within leaves is) =
        subst (IsSoundWorld t digest) (sym is) (stopped left (run_stopped digest f r.group stop.call left leaves))
    falls stop w (IsNone past is) = subst (IsSoundWorld t digest) (sym is) x

    run_step : (m : Move) (w : World) → StepsOn Anything t digest f r m w → IsSoundWorld t digest w
    run_step (Resume workers stop) w s = subst (IsSoundWorld t digest) (sym s) x
    run_step (Pop k) w s = turned (Pop k) w s
    run_step (Take k) w s = turned (Take k) w s
    run_step (Expand k place) w s = turned (Expand k place) w s
    run_step (Commit k) w s = turned (Commit k) w s
    run_step (Redeem k) w s = turned (Redeem k) w s
    run_step (Push k) w s = turned (Push k) w s
    run_step (Offer k) w s = turned (Offer k) w s
    run_step (Load k) w s = turned (Load k) w s
    run_step Pull w s = turned Pull w s
    run_step Flush w s = flushed r.group w refl s
    run_step Ack w s = turned Ack w s
    run_step (Stop stop) w s = falls stop w s

  rest_step : (content : List ℕ) (x : IsResting t digest content) (m : Move) (w : World) → StepsFrom Anything t digest content m w → IsSoundWorld t digest w
  rest_step content x (Resume workers stop) w s = resumption_sound t digest x.doing len x.groups x.on content workers stop w x.left s
  rest_step content x (Pop k) w s = subst (IsSoundWorld t digest) (sym s) x
  rest_step content x (Take k) w s = subst (IsSoundWorld t digest) (sym s) x
  rest_step content x (Expand k place) w s = subst (IsSoundWorld t digest) (sym s) x
  rest_step content x (Commit k) w s = subst (IsSoundWorld t digest) (sym s) x
  rest_step content x (Redeem k) w s = subst (IsSoundWorld t digest) (sym s) x
  rest_step content x (Push k) w s = subst (IsSoundWorld t digest) (sym s) x
  rest_step content x (Offer k) w s = subst (IsSoundWorld t digest) (sym s) x
  rest_step content x (Load k) w s = subst (IsSoundWorld t digest) (sym s) x
  rest_step content x Pull w s = subst (IsSoundWorld t digest) (sym s) x
  rest_step content x Flush w s = subst (IsSoundWorld t digest) (sym s) x
  rest_step content x Ack w s = subst (IsSoundWorld t digest) (sym s) x
  rest_step content x (Stop stop) w s = subst (IsSoundWorld t digest) (sym s) x

  pub step_sound : (w w' : World) (m : Move) → IsSoundWorld t digest w → StepsTo Anything t digest w m w' → IsSoundWorld t digest w'
  step_sound (Stopped content) w' m x s = rest_step content x m w' s
  step_sound (Running f r) w' m x s = run_step f r x m w' s

  pub plays_sound : (moves : List Move) (w w' : World) → IsSoundWorld t digest w → Plays Anything t digest w moves w' → IsSoundWorld t digest w'
  plays_sound [] w w' x plays = subst (IsSoundWorld t digest) (sym plays) x
  plays_sound (m ∷ moves) w w' x plays = plays_sound moves plays.0 w' (step_sound w plays.0 m x plays.1) plays.2

  -- ---- from what a schedule begins with

  -- what stops may have left of a search that was before, which is that of this journal alone
  pub record IsBegun (start : List ℕ) (f : File) : Type 0 where
    pub doing : Doing
    pub groups : HasGroups doing
    pub left : IsLeft digest doing start
    pub on : GoesOnFrom t doing
    pub found : (g : File) → IsFoundAfter doing g → g ≡ f

  pub begun : (start : List ℕ) (f : File) → IsBeginning t digest start f → IsBegun start f
  begun start f (IsEmpty none first) = record {
    doing = Making;
    groups = tt;
    left = subst (IsLeft digest Making) (sym none) (inl (omega arith));
    on = λ g found. ap (is_recovered t) found;
    found = λ g found. found ∙ sym first;
  }
  begun start f (IsJournal is groups on) = record {
    doing = Standing f;
    groups = groups;
    left = subst (IsLeft digest (Standing f)) (sym is) (whole_left digest f None);
    on = λ g found. ap (is_recovered t) found ∙ on;
    found = λ g found. found;
  }

  pub reached_sound : (start : List ℕ) (f : File) → IsBeginning t digest start f → (moves : List Move) (w : World) → LeadsTo Anything t digest start moves w → IsSoundWorld t digest w
  reached_sound start f begins moves w reaches =
      let b = begun start f begins in
      plays_sound moves (Stopped start) w (record { doing = b.doing; groups = b.groups; left = b.left; on = b.on }) reaches
