-- A run stays in order with its journal over each move.
use Rattle.std.proofs.Common.{◌≡◌, ℕ, zero, suc, ◌+◌, ◌-◌, ◌<◌, ◌≤◌, ◌==◌, ◌&&◌, nat_lt, Bool, true, false, cond, Option, Some, None, List, [], ◌∷◌, ◌++◌, take, drop, length, refl, sym, ap, ap₂, ◌∙◌, subst, arith, length-append, append-nil}
use Rattle.std.specs.List.{list_all, AllByRecursion}
use Rattle.std.specs.declared.ops.Range.{Range}
use Rattle.std.proofs.lemmas.Bool.{and_from, lt-ltb, eq-eqb, eqb-true, eqb-false}
use Rattle.std.proofs.lemmas.Option.{none-some, same_Some}
use Rattle.std.proofs.lemmas.List.{take-append-le, drop-append-le, length-take-le, length-drop}
use Rattle.std.proofs.lemmas.Grind.{flat_map-append}
use Rattle.std.proofs.Math.Seq.{take-add}
use Rattle.hd_base.proofs.Lists.{AllByRecursion-push}
use Rattle.hd_task.specs.declared.plan.Kid.{Kid}
use Rattle.hd_tables.specs.Kids.{same_kid}
use Rattle.hd_image.specs.Image.{IsGroup, fits_parent, most_of}
use Rattle.hd_journal.specs.Group.{GroupView}
use Rattle.hd_entries.proofs.Accepting.{same_kid-refl}
use Rattle.hd_book.specs.declared.queue.TheConstants.{MAX_GROUP}
use Rattle.hd_book.specs.Queue as queues
use Rattle.hd_book.specs.Queue.{QueueView, end_of, group_end, group_out, group_next, is_out, fitting, with_batch, with_group, without_group, queue_from, AreBatches, IsQueue}
use Rattle.hd_book.proofs.Ends.{end_of-append, end_of_parts, AreBatches-drop, first_above, group_above, group_within}
use Rattle.hd_book.proofs.Taking.{group_next_busy, with_group_next, is_group, is_queue_pushed, is_queue_taken}
use Rattle.hd_book.specs.View.{BookView}
use Rattle.hd_book.specs.Groups.{entries_between, group_of, begins_with, is_group_out}
use Rattle.hd_world.specs.Stops.{File, journal_entries, with_appended as grown, is_next}
use Rattle.hd_world.specs.Order.{group_in, StandsInJournal, NoneIsOut, IsPulled, IsAppended, AgreesWithJournal}
use Rattle.hd_world.proofs.Writing.{IsWritable, all_fit, all_held}
use Rattle.hd_world.proofs.Lists.{AllByRecursion-take, AllByRecursion-drop}

-- ---- entries between two numbers

pub between_front : (xs ys : List Kid) (first end : ℕ) → first ≤ end → end ≤ length xs → entries_between (xs ++ ys) first end ≡ entries_between xs first end
between_front xs ys first end le within =
    ap (take (end - first)) (drop-append-le first xs ys (omega (arith, le, within)))
    ∙ take-append-le (end - first) (drop first xs) ys (omega (arith, le, within, length-drop first xs))

pub between_joins : (xs : List Kid) (first end : ℕ) → first ≤ end → take first xs ++ entries_between xs first end ≡ take end xs
between_joins xs first end le =
    let whole : first + (end - first) ≡ end = omega (arith, le) in
    sym (take-add first (end - first) xs) ∙ ap (λ (n : ℕ). take n xs) whole

pub length-between : (xs : List Kid) (first end : ℕ) → first ≤ end → end ≤ length xs → length (entries_between xs first end) ≡ end - first
length-between xs first end le within = length-take-le (end - first) (drop first xs) (omega (arith, le, within, length-drop first xs))

begins-take : (n : ℕ) (xs : List Kid) → begins_with (take n xs) xs ≡ true
begins-take zero xs = refl
begins-take (suc n) [] = refl
begins-take (suc n) (x ∷ xs) = and_from (same_kid x x) (begins_with (take n xs) xs) (same_kid-refl x) (begins-take n xs)

module _ (f : File) (entries : List Kid) (most : ℕ) (q : QueueView) (halted : Bool) (group flushed : Option GroupView) (x : AgreesWithJournal f entries most q halted group flushed) where
  -- the group that is out lies within the entries
  pub end_within : group_end q ≤ length entries
  end_within = omega (arith, group_within q.acknowledged q.ends q.out x.queue.batches, x.counted)

  pub end_above : q.acknowledged ≤ group_end q
  end_above = first_above q.acknowledged q.ends q.out x.queue.batches

  pub acknowledged_within : q.acknowledged ≤ length entries
  acknowledged_within = omega (arith, end_within, end_above)

  -- ---- a batch is accepted

  module _ (new : List Kid) (few : length new ≤ MAX_GROUP) (room : length entries + length new ≤ most) where
    abbrev later : QueueView
    later = with_batch (length new) q

    same_end : group_end later ≡ group_end q
    same_end =
        elim (length new == 0) as (λ y. end_of q.acknowledged (take q.out (cond y q.ends (q.ends ++ (queues.entries_in_all q + length new) ∷ []))) ≡ group_end q) [
          | true ↦ refl
          | false ↦ ap (end_of q.acknowledged) (take-append-le q.out q.ends ((queues.entries_in_all q + length new) ∷ []) x.queue.out)
        ]

    count_later : queues.entries_in_all later ≡ length (entries ++ new)
    count_later =
        elim (length new == 0) as (λ y. (length new == 0) ≡ y → end_of q.acknowledged (cond y q.ends (q.ends ++ (queues.entries_in_all q + length new) ∷ [])) ≡ length (entries ++ new)) [
          | true ↦ λ e. omega (arith, x.counted, length-append entries new, eqb-true (length new) 0 e)
          | false ↦ λ _.
              end_of-append q.acknowledged q.ends ((queues.entries_in_all q + length new) ∷ [])
              ∙ omega (arith, x.counted, length-append entries new)
        ] refl

    queue_later : IsQueue later
    queue_later =
        elim (length new == 0) as (λ y. (length new == 0) ≡ y → IsQueue (record q { ends = cond y q.ends (q.ends ++ (queues.entries_in_all q + length new) ∷ []) })) [
          | true ↦ λ _. record { batches = x.queue.batches; out = x.queue.out }
          | false ↦ λ e.
              let some : 0 < length new = omega (arith, eqb-false (length new) 0 e) in
              is_queue_pushed q (length new) (queues.entries_in_all q + length new) (q.ends ++ (queues.entries_in_all q + length new) ∷ []) x.queue some few refl refl
        ] refl

    group_later : group_in (entries ++ new) later ≡ group_in entries q
    group_later =
        ap (λ (end : ℕ). group_of (entries ++ new) (record { start = q.acknowledged; end = end })) same_end
        ∙ ap (λ (kids : List Kid). let g : GroupView = record { first = q.acknowledged; kids = kids } in g) (between_front entries new q.acknowledged (group_end q) end_above end_within)

    front_later : (n : ℕ) → n ≤ length entries → take n (entries ++ new) ≡ take n entries
    front_later n le = take-append-le n entries new le

    stands_later : StandsInJournal f entries q group flushed → StandsInJournal f (entries ++ new) later group flushed
    stands_later (NoneIsOut out none nothing is) = NoneIsOut out none nothing (is ∙ sym (front_later q.acknowledged acknowledged_within))
    stands_later (IsPulled out near its nothing is) =
        IsPulled out (omega (arith, near, same_end)) (its ∙ ap (λ (g : GroupView). Some g) (sym group_later)) nothing (is ∙ sym (front_later q.acknowledged acknowledged_within))
    stands_later (IsAppended out none its is) =
        IsAppended out none (its ∙ ap (λ (g : GroupView). Some g) (sym group_later)) (is ∙ (sym (front_later (group_end q) end_within) ∙ ap (λ (n : ℕ). take n (entries ++ new)) (sym same_end)))

    pub commit_orderly : AgreesWithJournal f (entries ++ new) most later halted group flushed
    commit_orderly = record {
      running = x.running;
      queue = queue_later;
      counted = count_later;
      most_is = x.most_is;
      few = omega (arith, room, length-append entries new);
      sound = x.sound;
      stands = stands_later x.stands;
    }

  -- ---- a group is pulled

  next_by : (n : ℕ) (r : Range ℕ) → q.out ≡ 0 → n ≡ fitting q → group_next q ≡ Some r → (1 ≤ n) × (r ≡ record { start = q.acknowledged; end = end_of q.acknowledged (take n q.ends) })
  next_by n r free all e =
      let same : group_next q ≡ group_out (record q { out = n }) =
      ap (λ (m : ℕ). cond (m == 0) (group_out (with_group q)) None) free ∙ ap group_out (with_group_next q n free all)
      in
      elim (n == 0) as (λ y. (n == 0) ≡ y → cond {A = Option (Range ℕ)} y None (Some (record { start = q.acknowledged; end = end_of q.acknowledged (take n q.ends) })) ≡ Some r → (1 ≤ n) × (r ≡ record { start = q.acknowledged; end = end_of q.acknowledged (take n q.ends) })) [
        | true ↦ λ _ e. absurd (none-some r e)
        | false ↦ λ some e. (omega (arith, eqb-false n 0 some), sym (same_Some _ r e))
      ] refl (sym same ∙ e)

  stands_pulled : (r : Range ℕ) → group_next q ≡ Some r → StandsInJournal f entries q group flushed → AgreesWithJournal f entries most (with_group q) halted (Some (group_of entries r)) flushed
  stands_pulled r e (NoneIsOut out none nothing is) =
      let n = fitting q in
      let its = next_by n r out refl e in
      let g = is_group q n x.queue its.0 refl in
      let later : QueueView = record q { out = n } in
      subst (λ (v : QueueView). AgreesWithJournal f entries most v halted (Some (group_of entries r)) flushed) (sym (with_group_next q n out refl))
      (record {
        running = x.running;
        queue = is_queue_taken q n x.queue g.among;
        counted = x.counted;
        most_is = x.most_is;
        few = x.few;
        sound = x.sound;
        stands = IsPulled its.0 g.near (ap (λ (v : Range ℕ). Some (group_of entries v)) its.1) nothing is;
      })
  stands_pulled r e (IsPulled out near its nothing is) = absurd (none-some r (sym (group_next_busy q out) ∙ e))
  stands_pulled r e (IsAppended out none its is) = absurd (none-some r (sym (group_next_busy q out) ∙ e))

  pub pull_orderly : (r : Range ℕ) → group_next q ≡ Some r → AgreesWithJournal f entries most (with_group q) halted (Some (group_of entries r)) flushed
  pull_orderly r e = stands_pulled r e x.stands

  -- ---- a group is appended

  abbrev kids : List Kid
  kids = entries_between entries q.acknowledged (group_end q)

  module _ (writable : AllByRecursion (IsWritable (length entries)) entries) where
    kids_writable : AllByRecursion (IsWritable (length entries)) kids
    kids_writable =
        AllByRecursion-take (IsWritable (length entries)) (group_end q - q.acknowledged) (drop q.acknowledged entries)
        (AllByRecursion-drop (IsWritable (length entries)) q.acknowledged entries writable)

    few_parents : length entries ≤ most_of f.version
    few_parents = omega (arith, x.few, x.most_is)

    kids_next : journal_entries f ≡ take q.acknowledged entries → is_next f (group_in entries q) ≡ true
    kids_next is =
        let count : length (journal_entries f) ≡ q.acknowledged = ap length is ∙ length-take-le q.acknowledged entries acknowledged_within in
        and_from (q.acknowledged == length (journal_entries f)) (list_all (λ (k : Kid). fits_parent f.version k.parent) kids)
        (eq-eqb q.acknowledged (length (journal_entries f)) (sym count))
        (all_fit f.version (length entries) kids few_parents kids_writable)

    kids_group : 1 ≤ q.out → group_end q ≤ q.acknowledged + MAX_GROUP → IsGroup f.version kids
    kids_group out near =
        let above : q.acknowledged < group_end q = group_above q.acknowledged q.ends q.out x.queue.batches out x.queue.out in
        let count = length-between entries q.acknowledged (group_end q) end_above end_within in
        record {
          some = omega (arith, above, count);
          most = omega (arith, near, count);
          held = all_held f.version (length entries) kids few_parents kids_writable;
        }

    -- what is so of a group that was pulled
    pub record IsReady (g : GroupView) : Type 0 where
      pub next : is_next f g ≡ true
      pub of_file : IsGroup f.version g.kids
      pub after : AgreesWithJournal (grown g.kids f) entries most q halted None (Some g)
      pub kids_are : g.kids ≡ kids

    ready_by : (g : GroupView) → group ≡ Some g → StandsInJournal f entries q group flushed → IsReady g
    ready_by g e (NoneIsOut out none nothing is) = absurd (none-some g (sym none ∙ e))
    ready_by g e (IsAppended out none its is) = absurd (none-some g (sym none ∙ e))
    ready_by g e (IsPulled out near its nothing is) =
        let same : group_in entries q ≡ g = same_Some (group_in entries q) g (sym its ∙ e) in
        let sound = kids_group out near in
        subst IsReady same (record {
          next = kids_next is;
          of_file = sound;
          after = record {
            running = x.running;
            queue = x.queue;
            counted = x.counted;
            most_is = x.most_is;
            few = x.few;
            sound = AllByRecursion-push (IsGroup f.version) f.groups kids x.sound sound;
            stands = IsAppended out refl refl
                (flat_map-append (λ (kids : List Kid). kids) f.groups (kids ∷ [])
                ∙ (ap₂ (λ (xs ys : List Kid). xs ++ ys) is (append-nil kids)
                ∙ between_joins entries q.acknowledged (group_end q) end_above));
          };
          kids_are = refl;
        })

    pub ready : (g : GroupView) → group ≡ Some g → IsReady g
    ready g e = ready_by g e x.stands

  -- ---- the group of the entries that are out is the one that is out

  all_out : (g : GroupView) → 1 ≤ q.out → group_in entries q ≡ g → (b : BookView) → b.state.entries ≡ entries → b.batches.queue ≡ q → is_group_out b g ≡ true
  all_out g out same b es qs =
      let count = length-between entries q.acknowledged (group_end q) end_above end_within in
      let end : q.acknowledged + length kids ≡ group_end q = omega (arith, count, end_above) in
      let all : is_out q q.acknowledged (q.acknowledged + length kids) ≡ true =
      and_from (nat_lt 0 q.out && (q.acknowledged == q.acknowledged)) (q.acknowledged + length kids == group_end q)
      (and_from (nat_lt 0 q.out) (q.acknowledged == q.acknowledged) (lt-ltb 0 q.out out) (eq-eqb q.acknowledged q.acknowledged refl))
      (eq-eqb (q.acknowledged + length kids) (group_end q) end)
      in
      let tested : (begins_with kids (drop q.acknowledged entries) && is_out q q.acknowledged (q.acknowledged + length kids)) ≡ true =
      and_from (begins_with kids (drop q.acknowledged entries)) (is_out q q.acknowledged (q.acknowledged + length kids)) (begins-take (group_end q - q.acknowledged) (drop q.acknowledged entries)) all
      in
      ap (is_group_out b) (sym same)
      ∙ (ap₂ (λ (ks : List Kid) (v : QueueView). begins_with kids (drop q.acknowledged ks) && is_out v q.acknowledged (q.acknowledged + length kids)) es qs ∙ tested)

  pulled_by : (g : GroupView) → group ≡ Some g → StandsInJournal f entries q group flushed → (b : BookView) → b.state.entries ≡ entries → b.batches.queue ≡ q
      → is_group_out b g ≡ true
  pulled_by g e (NoneIsOut out none nothing is) = absurd (none-some g (sym none ∙ e))
  pulled_by g e (IsAppended out none its is) = absurd (none-some g (sym none ∙ e))
  pulled_by g e (IsPulled out near its nothing is) = all_out g out (same_Some (group_in entries q) g (sym its ∙ e))

  pub is_pulled : (g : GroupView) → group ≡ Some g → (b : BookView) → b.state.entries ≡ entries → b.batches.queue ≡ q → is_group_out b g ≡ true
  is_pulled g e = pulled_by g e x.stands

  -- ---- a group is acknowledged

  out_by : (g : GroupView) → flushed ≡ Some g → StandsInJournal f entries q group flushed
      → ((b : BookView) → b.state.entries ≡ entries → b.batches.queue ≡ q → is_group_out b g ≡ true) × AgreesWithJournal f entries most (without_group q) halted group None
  out_by g e (NoneIsOut out none nothing is) = absurd (none-some g (sym nothing ∙ e))
  out_by g e (IsPulled out near its nothing is) = absurd (none-some g (sym nothing ∙ e))
  out_by g e (IsAppended out none its is) = (
    all_out g out (same_Some (group_in entries q) g (sym its ∙ e)),
    record {
      running = x.running;
      queue = record { batches = AreBatches-drop q.acknowledged q.ends q.out x.queue.batches; out = omega arith };
      counted = end_of_parts q.acknowledged q.ends q.out ∙ x.counted;
      most_is = x.most_is;
      few = x.few;
      sound = x.sound;
      stands = NoneIsOut refl none refl is;
    },
  )

  pub is_acked : (g : GroupView) → flushed ≡ Some g
      → ((b : BookView) → b.state.entries ≡ entries → b.batches.queue ≡ q → is_group_out b g ≡ true) × AgreesWithJournal f entries most (without_group q) halted group None
  is_acked g e = out_by g e x.stands
