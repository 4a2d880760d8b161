use Rattle.std.proofs.Common.{◌≡◌, ◌+◌, ℕ, inr, length, Err, sym, subst, ◌∙◌, arith, rules, tests}
use Rattle.std.proofs.lemmas.Iterator.Consumers.{YieldsList-turn, YieldsList-end}
use Rattle.std.proofs.lemmas.Iterator.Splits.{YieldsList-from_slice_split}
use Rattle.std.proofs.lemmas.List.{length_push}
use Rattle.hd_world.specs.declared.schedule_line.Said.TheVariants as said
use Rattle.hd_world.specs.Schedule.{said_of, is_line_feed, schedule_of}
use Rattle.hd_world.proofs.ScheduleLines.{silent_read, move_read, bad_read, text_read}
use Rattle.hd_world.proofs.schedule.moves_of.Goals as goal

pub loop-line-preserved-in-Silent : goal.loop-line-preserved-in-Silent
loop-line-preserved-in-Silent c =
    let at = YieldsList-turn (YieldsList-from_slice_split _ is_line_feed c.args.text.now (cc) (cc) (cc) (λ x r q k. search (rules, tests))) c.loop-line.yielded _ c.loop-line.yielded_by _ _ c.in-Some.line c.in-Some.is c.next.ensures.steps in
    let is : said_of c.in-Some.line.now ≡ said.Silent = sym c.in_ok-said_of.ensures ∙ c.in-Silent.is in
    let n = length_push c.loop-line.yielded c.in-Some.line in
    record {
      counted = omega (arith, n, c.loop-line.invariant.counted);
      read = rw n (silent_read c.args.text.now (length c.loop-line.yielded) c.loop-line.moves.items c.in-Some.line.now c.loop-line.invariant.read at is);
    }

pub loop-line-preserved : goal.loop-line-preserved
loop-line-preserved c =
    let at = YieldsList-turn (YieldsList-from_slice_split _ is_line_feed c.args.text.now (cc) (cc) (cc) (λ x r q k. search (rules, tests))) c.loop-line.yielded _ c.loop-line.yielded_by _ _ c.in-Some.line c.in-Some.is c.next.ensures.steps in
    let is : said_of c.in-Some.line.now ≡ said.Move c.in-Move.step = sym c.in_ok-said_of.ensures ∙ c.in-Move.is in
    let n = length_push c.loop-line.yielded c.in-Some.line in
    record {
      counted = omega (arith, n, c.loop-line.invariant.counted);
      read = rw n (move_read c.args.text.now (length c.loop-line.yielded) c.loop-line.moves.items c.push.new.self.items c.in-Some.line.now c.in-Move.step c.loop-line.invariant.read at is c.in_ok-push-in-Move.ensures.items);
    }

pub returns-in-Bad-clause-refusal : goal.returns-in-Bad-clause-refusal
returns-in-Bad-clause-refusal c =
    let at = YieldsList-turn (YieldsList-from_slice_split _ is_line_feed c.args.text.now (cc) (cc) (cc) (λ x r q k. search (rules, tests))) c.loop-line.yielded _ c.loop-line.yielded_by _ _ c.in-Some.line c.in-Some.is c.next.ensures.steps in
    let is : said_of c.in-Some.line.now ≡ said.Bad = sym c.in_ok-said_of.ensures ∙ c.in-Bad.is in
    inr (subst (λ (k : ℕ). schedule_of c.args.text.now ≡ Err (k + 1)) (sym c.loop-line.invariant.counted)
    (bad_read c.args.text.now (length c.loop-line.yielded) c.loop-line.moves.items c.in-Some.line.now c.loop-line.invariant.read at is))

pub returns-clause-answer : goal.returns-clause-answer
returns-clause-answer c =
    let whole = YieldsList-end (YieldsList-from_slice_split _ is_line_feed c.args.text.now (cc) (cc) (cc) (λ x r q k. search (rules, tests))) c.loop-line.yielded _ c.loop-line.yielded_by _ _ c.in-None.is c.next.ensures.steps in
    text_read c.args.text.now (length c.loop-line.yielded) c.loop-line.moves.items c.loop-line.invariant.read whole.1
