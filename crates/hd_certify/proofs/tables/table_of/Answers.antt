use Rattle.std.proofs.Common.{List, ℕ, sym, subst}
use Rattle.hd_certify.specs.declared.surveyed.ValueCount.{ValueCount}
use Rattle.hd_certify.specs.Survey.{IsTableOf}
use Rattle.hd_certify.proofs.Rows.{table_sorted}
use Rattle.hd_certify.proofs.tables.table_of.Goals as goal

pub returns : goal.returns
returns c =
    subst (λ (rows : List ValueCount). IsTableOf c.args.values.items rows) (sym c.from_vec.ensures)
    (table_sorted c.args.values.items c.sort.new.self.items c.in_ok-rows.rows.items c.in_ok-sort.ensures.permutation
    (subst (λ (vs : List ℕ). IsTableOf vs c.in_ok-rows.rows.items) c.deref.ensures.value c.in_ok-rows.ensures))
