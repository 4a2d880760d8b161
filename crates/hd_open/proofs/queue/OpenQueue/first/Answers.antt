use Rattle.std.proofs.Common.{Some, inl, inr}
use Rattle.hd_open.proofs.Queueing.{cleared_queue, cleared_same, empty_below, all_empty, bucket_within, first_among, least_small, least_large, found_dead}
use Rattle.hd_open.proofs.queue.OpenQueue.first.Goals as goal

pub returns-in-Some-clause-cleared : goal.returns-in-Some-clause-cleared
returns-in-Some-clause-cleared c =
    let q = c.args.self.now in
    let small = c.first_small.new.small in
    cleared_queue c.args.words.now q (record { alloc = q.alloc; small = small; least = c.in-Some.total; large = q.large; dead = q.dead })
    c.requires.orderly c.first_small.ensures.cleared c.first_small.ensures.len
    (empty_below c.args.words.now q small.items c.in-Some.total c.requires.orderly c.first_small.ensures.cleared c.in-Some.ensures.empty)
    (λ t k marked held. held) (λ t k held. held) (cleared_same c.args.words.now q.dead)

pub returns-in-Some-clause-first : goal.returns-in-Some-clause-first
returns-in-Some-clause-first c =
    let q = c.args.self.now in
    let small = c.first_small.new.small in
    let total = c.in-Some.total in
    record {
      total = Some total;
      has = inl (first_among _ c.in-Some.arrival c.in-Some.ensures.first);
      marked = c.in-Some.ensures.marked;
      least = least_small (record { alloc = q.alloc; small = small; least = total; large = q.large; dead = q.dead }) total c.in-Some.arrival
          (returns-in-Some-clause-cleared c).orderly (bucket_within small.items total c.in-Some.arrival c.in-Some.ensures.first) c.in-Some.ensures.first
          (empty_below c.args.words.now q small.items total c.requires.orderly c.first_small.ensures.cleared c.in-Some.ensures.empty);
    }

pub returns-in-Some-first_large-clause-cleared : goal.returns-in-Some-first_large-clause-cleared
returns-in-Some-first_large-clause-cleared c =
    let q = c.args.self.now in
    let small = c.first_small.new.small in
    cleared_queue c.args.words.now q (record { alloc = q.alloc; small = small; least = c.len-self.result; large = c.first_large.new.large; dead = q.dead })
    c.requires.orderly c.first_small.ensures.cleared c.first_small.ensures.len
    (λ t lt. all_empty c.args.words.now q small.items c.requires.orderly c.first_small.ensures.cleared c.in_default.ensures.none t)
    c.first_large.ensures.stays c.first_large.ensures.only (cleared_same c.args.words.now q.dead)

pub returns-in-Some-first_large-clause-first : goal.returns-in-Some-first_large-clause-first
returns-in-Some-first_large-clause-first c =
    let q = c.args.self.now in
    let small = c.first_small.new.small in
    let total = c.in-Some-first_large.field-0-0 in
    record {
      total = Some total;
      has = inr c.in-Some-first_large.ensures.member;
      marked = c.in-Some-first_large.ensures.marked;
      least = least_large (record { alloc = q.alloc; small = small; least = c.len-self.result; large = c.first_large.new.large; dead = q.dead }) total
          c.in-Some-first_large.arrival (all_empty c.args.words.now q small.items c.requires.orderly c.first_small.ensures.cleared c.in_default.ensures.none)
          c.in-Some-first_large.ensures.least;
    }

pub returns-clause-cleared : goal.returns-clause-cleared
returns-clause-cleared c =
    let q = c.args.self.now in
    let small = c.first_small.new.small in
    cleared_queue c.args.words.now q
    (record { alloc = q.alloc; small = small; least = c.len-self.result; large = c.first_large.new.large; dead = c.first_waiting.new.arrivals })
    c.requires.orderly c.first_small.ensures.cleared c.first_small.ensures.len
    (λ t lt. all_empty c.args.words.now q small.items c.requires.orderly c.first_small.ensures.cleared c.in_default.ensures.none t)
    c.first_large.ensures.stays c.first_large.ensures.only c.first_waiting.ensures.cleared

pub returns-clause-first : goal.returns-clause-first
returns-clause-first c =
    let q = c.args.self.now in
    let small = c.first_small.new.small in
    found_dead c.args.words.now
    (record { alloc = q.alloc; small = small; least = c.len-self.result; large = c.first_large.new.large; dead = c.first_waiting.new.arrivals })
    c.first_waiting.result (returns-clause-cleared c).orderly
    (all_empty c.args.words.now q small.items c.requires.orderly c.first_small.ensures.cleared c.in_default.ensures.none)
    c.in_default-first_large.ensures.none c.first_waiting.ensures.first c.first_waiting.ensures.marked
