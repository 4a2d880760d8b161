use Rattle.std.proofs.Common.{List, get_or, refl, sym, subst, arith}
use Rattle.hd_certify.specs.declared.surveyed.ValueCount.{ValueCount}
use Rattle.hd_certify.specs.Survey.{IsTableOf}
use Rattle.hd_certify.proofs.Rows.{counted_on, whole_table}
use Rattle.hd_certify.proofs.tables.rows_of.Goals as goal

pub loop-place-preserved : goal.loop-place-preserved
loop-place-preserved c =
    let values = c.args.values.now in
    let place = c.loop-place.place in
    record {
      rows =
          counted_on values place c.loop-place.rows.items c.loop-place.last (get_or values place 0) c.loop-place-test.true refl
          c.loop-place.invariant.rows c.requires c.count_on.new.rows.items c.count_on.new.last c.in_ok-count_on.ensures;
    }

pub returns : goal.returns
returns c =
    let values = c.args.values.now in
    subst (λ (rows : List ValueCount). IsTableOf values rows) (sym c.in_ok-push.ensures.items)
    (whole_table values c.loop-place.place c.loop-place.rows.items c.loop-place.last (omega (arith, c.loop-place-test.false)) c.loop-place.invariant.rows)
