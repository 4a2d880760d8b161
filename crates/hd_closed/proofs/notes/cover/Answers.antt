use Rattle.std.proofs.Common.{◌≤◌, length, arith}
use Rattle.hd_closed.proofs.Chains.{table_anew}
use Rattle.hd_closed.proofs.notes.cover.Goals as goal

pub returns-clause-table : goal.returns-clause-table
returns-clause-table c =
    let t = c.requires.table in
    let len = c.link_all.ensures.len in
    let grown = c.in_ok-grown.ensures.len in
    let enough : length c.args.notes.now.items ≤ length c.link_all.new.heads.items = omega arith in
    table_anew c.args.rows.now.states c.args.notes.now.items c.link_all.new.notes.items c.args.heads.now.items c.link_all.new.heads.items t c.link_all.ensures.alike
    (c.link_all.ensures.chained c.args.rows.now.states t.notes_of) enough
