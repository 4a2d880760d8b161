-- Moves of a run that go on.
use Rattle.std.proofs.Common.{◌≡◌, inl, ℕ, ◌<◌, ◌≤◌, Bool, true, false, ◌||◌, nat_le, cond, Option, Some, None, is_some, List, [], ◌∷◌, ◌++◌, length, refl, sym, ap, ap₂, ◌∙◌, subst, arith, true≢false, if◌then◌else◌}
use Rattle.std.specs.Prelude.{option_map, ◌==◌, Result, Ok, Err, is_ok, IfOk, OnOk, OnErr}
use Rattle.std.proofs.lemmas.Bool.{leb-true, leb-false, eqb-true, ne_eqb}
use Rattle.std.proofs.lemmas.Option.{same_Some, none-some}
use Rattle.hd_task.specs.declared.task.Task.{Task}
use Rattle.hd_task.specs.declared.plan.Kid.{Kid}
use Rattle.hd_store.specs.declared.store.Store.{Ghosts}
use Rattle.hd_image.specs.Image.{front}
use Rattle.hd_journal.specs.declared.journal.Journal.{Journal}
use Rattle.hd_journal.specs.Answers as journals
use Rattle.hd_journal.specs.Group.{GroupView}
use Rattle.hd_journal.specs.Journal.{IsOf, append_calls, device_of}
use Rattle.hd_journal.specs.Moments.{IsSettled}
use Rattle.std.specs.declared.ops.Range.{Range}
use Rattle.hd_book.specs.Queue.{QueueView, group_next, group_out, group_end, fitting}
use Rattle.hd_book.specs.Queue.{with_group as with_group_out}
use Rattle.hd_book.specs.View.{BookView}
use Rattle.hd_book.specs.Groups.{next_group, group_of, is_group_out}
use Rattle.hd_book.specs.Steps.{after_take, after_flush}
use Rattle.hd_world.specs.declared.moves.Move.{Move}
use Rattle.hd_world.specs.declared.moves.Move.TheVariants as moves
use Rattle.hd_world.specs.declared.moves.StopAt.{StopAt}
use Rattle.hd_world.specs.Seats.{Run}
use Rattle.hd_world.specs.Moves.{TurnsTo, pulled_to, pulled, acked_of, acked}
use Rattle.hd_world.specs.Stops.{File, with_appended, is_next, appending}
use Rattle.hd_world.specs.World.{Running, flushed_to, IsNone, StepsTo}
use Rattle.hd_world.specs.Order.{StandsInJournal, NoneIsOut, IsPulled, IsAppended}
use Rattle.hd_world.specs.Sound.{IsSound}
use Rattle.hd_world.proofs.Sounding.{group_ready}
use Rattle.hd_world.proofs.Journals.{next_same}
use Rattle.hd_world.specs.Filling.{Filled}
use Rattle.hd_world.proofs.Fillings.{steps_so}
use Rattle.hd_world.proofs.Playing.{step_sound}
use Rattle.hd_replay.specs.declared.run.Out.{Out}
use Rattle.hd_replay.specs.declared.run.Out.TheVariants.{Nothing, Pulled, Flushed}
use Rattle.hd_replay.specs.Held.{IsSoundRun, pulled_in, flushed_in}
use Rattle.hd_replay.specs.Journals.{StandsAs, Runs, Flushes, Goes, calls_in, stop_in}

-- ---- a group that was pulled

-- it may be appended
pub is_ready : (t : Task) (f : File) (r : Run) (g : GroupView) → IsSound t f r → r.group ≡ Some g → is_next f g ≡ true
is_ready t f r g x e = (group_ready t f r x g e).next

-- by so many calls
calls_of : (f : File) (digest : List ℕ) (g : GroupView) → is_next f g ≡ true
    → appending f digest (Some g) ≡ append_calls f.version (length (front f.version digest f.groups)) g.kids
calls_of f digest g e = ap (λ (b : Bool). if b then append_calls f.version (length (front f.version digest f.groups)) g.kids else []) e

pub count_of : (t : Task) (f : File) (r : Run) (digest : List ℕ) (group : Option GroupView) → IsSound t f r → r.group ≡ group
    → length (appending f digest group) ≡ calls_in group
count_of t f r digest None x e = refl
count_of t f r digest (Some g) x e = ap length (calls_of f digest g (is_ready t f r g x e))

pub calls_are : (f : File) (digest : List ℕ) (g : GroupView) → is_next f g ≡ true
    → append_calls f.version (length (front f.version digest f.groups)) g.kids ≡ appending f digest (Some g)
calls_are f digest g e = sym (calls_of f digest g e)

-- where the journal says that it is the next one, it is
pub next_by : {S : Type 0} {G : Ghosts S} (digest : List ℕ) (f : File) (journal : Journal S G) (g : GroupView) → StandsAs digest f journal
    → journals.is_next journal g ≡ true → is_next f g ≡ true
next_by digest f journal g s e = sym (next_same digest f journal s.is_of s.version g) ∙ e

-- ---- `flush`

pub flushed_on : (f : File) (r : Run) (g : GroupView) → r.group ≡ Some g → is_next f g ≡ true
    → flushed_to f r r.group ≡ Running (with_appended g.kids f) (record r { group = None; flushed = Some g })
flushed_on f r g e next =
    ap (flushed_to f r) e
    ∙ ap (λ (b : Bool). if b then Running (with_appended g.kids f) (record r { group = None; flushed = Some g }) else Running f r) next

pub flushed_none : (f : File) (r : Run) → r.group ≡ None → flushed_to f r r.group ≡ Running f r
flushed_none f r e = ap (flushed_to f r) e

-- ---- `pull`

-- where a group is out, none is next
out_none : (entries : List Kid) (q : QueueView) → 1 ≤ q.out → option_map (group_of entries) (group_next q) ≡ None
out_none entries q some =
    ap (λ (b : Bool). option_map (group_of entries) (cond b (group_out (with_group_out q)) None)) (ne_eqb q.out 0 (λ e. omega (arith, e, some)))

some_out : (f : File) (entries : List Kid) (q : QueueView) (group flushed : Option GroupView) → StandsInJournal f entries q group flushed
    → (is_some group || is_some flushed) ≡ true → 1 ≤ q.out
some_out f entries q group flushed (NoneIsOut out none nothing is) e =
    absurd (true≢false (sym e ∙ ap₂ (λ (g h : Option GroupView). is_some g || is_some h) none nothing))
some_out f entries q group flushed (IsPulled out near its nothing is) e = out
some_out f entries q group flushed (IsAppended out none its is) e = out

-- so none is pulled
pub pulled_not : (t : Task) (f : File) (r : Run) → IsSound t f r → (is_some r.group || is_some r.flushed) ≡ true → pulled r ≡ r
pulled_not t f r x e =
    ap (pulled_to r) (out_none r.book.state.entries r.book.batches.queue (some_out f r.book.state.entries r.book.batches.queue r.group r.flushed x.order.stands e))

-- if none is next, nothing is taken
abbrev taken_if : QueueView → Bool → QueueView
taken_if q b = record q { out = cond b (fitting q) q.out }

none_fits : (q : QueueView) → cond {A = Option (Range ℕ)} (fitting q == 0) None (Some (record { start = q.acknowledged; end = group_end (record q { out = fitting q }) })) ≡ None
    → fitting q ≡ 0
none_fits q e =
    elim (fitting q == 0) as (λ b. (fitting q == 0) ≡ b
    → cond {A = Option (Range ℕ)} b None (Some (record { start = q.acknowledged; end = group_end (record q { out = fitting q }) })) ≡ None → fitting q ≡ 0) [
      | true ↦ λ is e. eqb-true (fitting q) 0 is
      | false ↦ λ is e. absurd (cc)
    ] refl e

taken_same : (q : QueueView) → group_next q ≡ None → with_group_out q ≡ q
taken_same q e =
    elim (q.out == 0) as (λ b. (q.out == 0) ≡ b → cond {A = Option (Range ℕ)} b (group_out (taken_if q b)) None ≡ None → taken_if q b ≡ q) [
      | true ↦ λ is e. ap (λ (n : ℕ). let x : QueueView = record q { out = n } in x) (none_fits q e ∙ sym (eqb-true q.out 0 is))
      | false ↦ λ is e. refl
    ] refl e

none_given : {X Y : Type 0} (g : X → Y) (o : Option X) → option_map g o ≡ None → o ≡ None
none_given g None e = refl
none_given g (Some x) e = absurd (cc)

pub taken_none : (b : BookView) → next_group b ≡ None → after_take b ≡ b
taken_none b e =
    ap (λ (q : QueueView). let x : BookView = record b { batches = record b.batches { queue = q } } in x)
    (taken_same b.batches.queue (none_given (group_of b.state.entries) (group_next b.batches.queue) e))

pub pulled_none : (r : Run) → next_group r.book ≡ None → pulled r ≡ r
pulled_none r e = ap (pulled_to r) e

pub pulled_some : (r : Run) (g : GroupView) → next_group r.book ≡ Some g → pulled r ≡ record r { book = after_take r.book; group = Some g }
pulled_some r g e = ap (pulled_to r) e

-- ---- moves

-- after a step that goes on, the run is sound again
pub goes_by : {S : Type 0} {G : Ghosts S} (t : Task) (digest : List ℕ) (f f' : File) (r r' : Run) (m : Move) (journal journal' : Journal S G)
    → Runs t digest f journal r → StandsAs digest f' journal' → StepsTo Filled t digest (Running f r) m (Running f' r')
    → Goes t digest f r m journal' r'
goes_by t digest f f' r r' m journal journal' x stands step = record {
  file = f';
  steps = step;
  runs = record {
    sound = step_sound t digest x.stands.is_of.digest_len (Running f r) (Running f' r') m x.sound (steps_so t digest (Running f r) (Running f' r') m step);
    stands = stands;
  };
}

no_stop : (calls : ℕ) (stop : StopAt) → cond {A = Option StopAt} (nat_le stop.call calls) (Some stop) None ≡ None → calls < stop.call
no_stop calls stop e =
    leb-false stop.call calls
    (elim (nat_le stop.call calls) as (λ b. cond {A = Option StopAt} b (Some stop) None ≡ None → b ≡ false) [
      | true ↦ λ e. absurd (cc)
      | false ↦ λ e. refl
    ] e)

-- whether a move is `flush`
abbrev pub is_flush : Move → Bool
is_flush (moves.Resume workers stop) = false
is_flush (moves.Pop k) = false
is_flush (moves.Take k) = false
is_flush (moves.Expand k place) = false
is_flush (moves.Commit k) = false
is_flush (moves.Redeem k) = false
is_flush (moves.Push k) = false
is_flush (moves.Offer k) = false
is_flush (moves.Load k) = false
is_flush moves.Pull = false
is_flush moves.Flush = true
is_flush moves.Ack = false
is_flush (moves.Stop stop) = false

module _ (t : Task) (digest : List ℕ) (f : File) (r r' : Run) (x : IsSound t f r) where
  stays : (m : Move) → r' ≡ r → Running f r' ≡ Running f r
  stays m e = ap (Running f) e

  -- a turn is a step
  pub turn_steps : (m : Move) → is_flush m ≡ false → stop_in r.group m ≡ None → TurnsTo t r m r' → StepsTo Filled t digest (Running f r) m (Running f r')
  turn_steps (moves.Resume workers stop) not_so none turn = ap (Running f) turn
  turn_steps (moves.Pop k) not_so none turn = inl (r', turn, refl)
  turn_steps (moves.Take k) not_so none turn = inl (r', turn, refl)
  turn_steps (moves.Expand k place) not_so none turn = inl (r', turn, refl)
  turn_steps (moves.Commit k) not_so none turn = inl (r', turn, refl)
  turn_steps (moves.Redeem k) not_so none turn = inl (r', turn, refl)
  turn_steps (moves.Push k) not_so none turn = inl (r', turn, refl)
  turn_steps (moves.Offer k) not_so none turn = inl (r', turn, refl)
  turn_steps (moves.Load k) not_so none turn = inl (r', turn, refl)
  turn_steps moves.Pull not_so none turn = inl (r', turn, refl)
  turn_steps moves.Flush not_so none turn = absurd (true≢false not_so)
  turn_steps moves.Ack not_so none turn = inl (r', turn, refl)
  turn_steps (moves.Stop stop) not_so none turn =
      IsNone (subst (λ (n : ℕ). n < stop.call) (sym (count_of t f r digest r.group x refl)) (no_stop (calls_in r.group) stop none)) (ap (Running f) turn)

-- ---- the group that is out, in and out of a run

-- a run with the group that left it
pub put_back : (r : Run) (out : Out) → pulled_in out ≡ r.group → flushed_in out ≡ r.flushed
    → (let x : Run = record r { group = pulled_in out; flushed = flushed_in out } in x) ≡ r
put_back r out group flushed =
    ap₂ (λ (g h : Option GroupView). let x : Run = record r { group = g; flushed = h } in x) group flushed

pub not_pulled : (out : Out) → ((g : GroupView) → out ≡ Pulled g → ⊥) → pulled_in out ≡ None
not_pulled Nothing not_so = refl
not_pulled (Pulled g) not_so = absurd (not_so g refl)
not_pulled (Flushed g) not_so = refl

pub not_flushed : (out : Out) → ((g : GroupView) → out ≡ Flushed g → ⊥) → flushed_in out ≡ None
not_flushed Nothing not_so = refl
not_flushed (Pulled g) not_so = refl
not_flushed (Flushed g) not_so = absurd (not_so g refl)

-- ---- `ack`

pub acked_none : (r : Run) → r.flushed ≡ None → r ≡ acked r
acked_none r e = sym (ap (acked_of r) e)

acked_by : (r : Run) (g : GroupView) (book : BookView) (b : Bool) → r.group ≡ None → cond b (book ≡ after_flush r.book) (book ≡ r.book)
    → (let x : Run = record r { book = book; group = None; flushed = None } in x)
    ≡ cond {A = Run} b (record r { book = after_flush r.book; flushed = None }) (record r { flushed = None })
acked_by r g book true none is =
    ap₂ (λ (x : BookView) (h : Option GroupView). let y : Run = record r { book = x; group = h; flushed = None } in y) is (sym none)
acked_by r g book false none is =
    ap₂ (λ (x : BookView) (h : Option GroupView). let y : Run = record r { book = x; group = h; flushed = None } in y) is (sym none)

pub acked_is : {X E : Type 0} (r : Run) (g : GroupView) (book : BookView) (said : Result X E) → r.group ≡ None → r.flushed ≡ Some g
    → is_ok said ≡ is_group_out r.book g → OnOk said (book ≡ after_flush r.book) → OnErr said (book ≡ r.book)
    → (let x : Run = record r { book = book; group = None; flushed = None } in x) ≡ acked r
acked_is r g book (Ok x) none e out ok err =
    acked_by r g book true none ok
    ∙ (ap (λ (b : Bool). cond {A = Run} b (record r { book = after_flush r.book; flushed = None }) (record r { flushed = None })) out
    ∙ sym (ap (acked_of r) e))
acked_is r g book (Err error) none e out ok err =
    acked_by r g book false none err
    ∙ (ap (λ (b : Bool). cond {A = Run} b (record r { book = after_flush r.book; flushed = None }) (record r { flushed = None })) out
    ∙ sym (ap (acked_of r) e))

-- ---- a move

pub sound_run : {S : Type 0} {G : Ghosts S} (t : Task) (digest : List ℕ) (f : File) (journal : Journal S G) (r : Run) → Runs t digest f journal r → IsSoundRun r
sound_run t digest f journal r x = (f, subst (λ (u : Task). IsSound u f r) (sym x.sound.truth.of_task) x.sound)

not_flush : (m : Move) → (m ≡ moves.Flush → ⊥) → is_flush m ≡ false
not_flush (moves.Resume workers stop) not_so = refl
not_flush (moves.Pop k) not_so = refl
not_flush (moves.Take k) not_so = refl
not_flush (moves.Expand k place) not_so = refl
not_flush (moves.Commit k) not_so = refl
not_flush (moves.Redeem k) not_so = refl
not_flush (moves.Push k) not_so = refl
not_flush (moves.Offer k) not_so = refl
not_flush (moves.Load k) not_so = refl
not_flush moves.Pull not_so = refl
not_flush moves.Flush not_so = absurd (not_so refl)
not_flush moves.Ack not_so = refl
not_flush (moves.Stop stop) not_so = refl

pub on_ok : {X E : Type 0} (P Q : Type 0) (said : Result X E) → (P → Q) → OnOk said P → OnOk said Q
on_ok P Q (Ok x) f p = f p
on_ok P Q (Err e) f p = p

module _ {S : Type 0} {G : Ghosts S} (t : Task) (digest : List ℕ) (f : File) (r r' : Run) (journal journal' : Journal S G) (x : Runs t digest f journal r) where
  pub flush_goes : Flushes digest f r journal' r' → Goes t digest f r moves.Flush journal' r'
  flush_goes fl = goes_by t digest f fl.file r r' moves.Flush journal journal' x fl.stands (sym fl.flushed)

  pub turn_goes : (m : Move) → (m ≡ moves.Flush → ⊥) → stop_in r.group m ≡ None → journal' ≡ journal → TurnsTo r.book.state.task r m r'
      → Goes t digest f r m journal' r'
  turn_goes m not_so none same turn =
      goes_by t digest f f r r' m journal journal' x (subst (StandsAs digest f) (sym same) x.stands)
      (turn_steps t digest f r r' x.sound m (not_flush m not_so) none (subst (λ (u : Task). TurnsTo u r m r') x.sound.truth.of_task turn))

-- ---- moves of the group, where a run is seen through its view

abbrev bare : Run → Run
bare r = record r { group = None; flushed = None }

abbrev with_group_out_of : Run → Out → Run
with_group_out_of r out = record r { group = pulled_in out; flushed = flushed_in out }

pub first_none : (a b : Option GroupView) → (is_some a || is_some b) ≡ false → a ≡ None
first_none None b e = refl
first_none (Some g) b e = absurd (true≢false e)

pub second_none : (a b : Option GroupView) → (is_some a || is_some b) ≡ false → b ≡ None
second_none None None e = refl
second_none None (Some g) e = absurd (true≢false e)
second_none (Some g) b e = absurd (true≢false e)

pub pull_turns : (v r r' : Run) (book : BookView) (g : GroupView) → v ≡ r → r' ≡ with_group_out_of (record v { book = book }) (Pulled g) → book ≡ after_take v.book
    → Some g ≡ next_group v.book → (is_some r.group || is_some r.flushed) ≡ false → r' ≡ pulled r
pull_turns v r r' book g is out taken next none =
    subst (λ (x : Run). (is_some x.group || is_some x.flushed) ≡ false → r' ≡ pulled x) is
    (λ e.
    out
    ∙ (ap₂ (λ (b : BookView) (h : Option GroupView). let x : Run = record v { book = b; group = Some g; flushed = h } in x) taken (sym (second_none v.group v.flushed e))
    ∙ sym (pulled_some v g (sym next)))) none

pub pull_not : (v r : Run) (book : BookView) → v ≡ r → book ≡ after_take v.book → None ≡ next_group v.book → (let x : Run = record v { book = book } in x) ≡ pulled r
pull_not v r book is taken next =
    subst (λ (x : Run). (let y : Run = record v { book = book } in y) ≡ pulled x) is
    (ap (λ (b : BookView). let y : Run = record v { book = b } in y) (taken ∙ taken_none v.book (sym next)) ∙ sym (pulled_none v (sym next)))

pub ack_turns : {X E : Type 0} (v r : Run) (g : GroupView) (book : BookView) (said : Result X E) → v ≡ bare r → r.group ≡ None → r.flushed ≡ Some g
    → is_ok said ≡ is_group_out v.book g → OnOk said (book ≡ after_flush v.book) → OnErr said (book ≡ v.book)
    → (let x : Run = record v { book = book } in x) ≡ acked r
ack_turns v r g book said is none e =
    subst (λ (x : Run). is_ok said ≡ is_group_out x.book g → OnOk said (book ≡ after_flush x.book) → OnErr said (book ≡ x.book)
    → (let y : Run = record x { book = book } in y) ≡ acked r) (sym is)
    (λ out ok err. acked_is r g book said none e out ok err)

pub back_same : (r mid r' : Run) (out : Out) → mid ≡ bare r → r' ≡ with_group_out_of mid out → pulled_in out ≡ r.group → flushed_in out ≡ r.flushed → r' ≡ r
back_same r mid r' out is back group flushed =
    back ∙ (ap (λ (x : Run). with_group_out_of x out) is ∙ put_back r out group flushed)

pub ack_same : (r mid r' : Run) (out : Out) → mid ≡ bare r → r' ≡ with_group_out_of mid out → pulled_in out ≡ r.group → flushed_in out ≡ r.flushed
    → ((g : GroupView) → out ≡ Flushed g → ⊥) → r' ≡ acked r
ack_same r mid r' out is back group flushed not_so =
    back_same r mid r' out is back group flushed ∙ acked_none r (sym flushed ∙ not_flushed out not_so)

-- ---- `flush`, so

pub flush_same : {S : Type 0} {G : Ghosts S} (digest : List ℕ) (f : File) (r mid r' : Run) (journal : Journal S G) (out : Out) → StandsAs digest f journal → mid ≡ bare r
    → r' ≡ with_group_out_of mid out → pulled_in out ≡ r.group → flushed_in out ≡ r.flushed → ((g : GroupView) → out ≡ Pulled g → ⊥)
    → Flushes digest f r journal r'
flush_same digest f r mid r' journal out s is back group flushed not_so = record {
  file = f;
  flushed = flushed_none f r (sym group ∙ not_pulled out not_so) ∙ ap (Running f) (sym (back_same r mid r' out is back group flushed));
  stands = s;
}

pub flush_turns : {S : Type 0} {G : Ghosts S} (digest : List ℕ) (f : File) (r mid r' : Run) (journal journal' : Journal S G) (g h : GroupView)
    → StandsAs digest f journal → r.group ≡ Some g → mid ≡ bare r → h ≡ g → r' ≡ with_group_out_of mid (Flushed h) → journals.IsAppended journal g journal'
    → IsOf digest (f.groups ++ g.kids ∷ []) journal' → IsSettled (device_of journal') → Flushes digest f r journal' r'
flush_turns digest f r mid r' journal journal' g h s e is same back a of_groups settled = record {
  file = with_appended g.kids f;
  flushed =
      flushed_on f r g e (next_by digest f journal g s a.next)
      ∙ ap (Running (with_appended g.kids f))
      (sym (back ∙ (ap (λ (x : Run). with_group_out_of x (Flushed h)) is ∙ ap (λ (k : GroupView). with_group_out_of r (Flushed k)) same)));
  stands = record { is_of = of_groups; version = a.version ∙ s.version; settled = settled };
}

-- ---- a stop that falls

falls_by : (calls : ℕ) (stop at : StopAt) → cond {A = Option StopAt} (nat_le stop.call calls) (Some stop) None ≡ Some at → (stop ≡ at) × (at.call ≤ calls)
falls_by calls stop at e =
    elim (nat_le stop.call calls) as (λ b. (nat_le stop.call calls) ≡ b → cond {A = Option StopAt} b (Some stop) None ≡ Some at → (stop ≡ at) × (at.call ≤ calls)) [
      | true ↦ λ is e.
          let same = same_Some stop at e in
          (same, subst (λ (s : StopAt). s.call ≤ calls) same (leb-true stop.call calls is))
      | false ↦ λ is e. absurd (none-some at e)
    ] refl e

pub falls_here : (group : Option GroupView) (m : Move) (at : StopAt) → stop_in group m ≡ Some at → (m ≡ moves.Stop at) × (at.call ≤ calls_in group)
falls_here group (moves.Resume workers stop) at e = absurd (none-some at e)
falls_here group (moves.Pop k) at e = absurd (none-some at e)
falls_here group (moves.Take k) at e = absurd (none-some at e)
falls_here group (moves.Expand k place) at e = absurd (none-some at e)
falls_here group (moves.Commit k) at e = absurd (none-some at e)
falls_here group (moves.Redeem k) at e = absurd (none-some at e)
falls_here group (moves.Push k) at e = absurd (none-some at e)
falls_here group (moves.Offer k) at e = absurd (none-some at e)
falls_here group (moves.Load k) at e = absurd (none-some at e)
falls_here group moves.Pull at e = absurd (none-some at e)
falls_here group moves.Flush at e = absurd (none-some at e)
falls_here group moves.Ack at e = absurd (none-some at e)
falls_here group (moves.Stop stop) at e =
    let x = falls_by (calls_in group) stop at e in (ap (λ (s : StopAt). moves.Stop s) x.0, x.1)

-- ---- answers

pub ok_given : {X E : Type 0} (P : Type 0) (said : Result X E) → ((e : E) → said ≡ Err e → ⊥) → OnOk said P → P
ok_given P (Ok x) not_err p = p
ok_given P (Err e) not_err p = absurd (not_err e refl)

pub if_ok : {X E : Type 0} (P Q : X → Type 0) (said : Result X E) → ((x : X) → P x → Q x) → IfOk said P → IfOk said Q
if_ok P Q (Ok x) f p = f x p
if_ok P Q (Err e) f p = p
