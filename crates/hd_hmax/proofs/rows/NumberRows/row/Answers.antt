use Rattle.std.proofs.Common.{◌-◌, ℕ, List, length, take, drop, ap, ap₂, ◌∙◌, arith}
use Rattle.std.proofs.Math.Facts.{Fits-of_lt}
use Rattle.std.proofs.lemmas.List.{get_or_read}
use Rattle.hd_hmax.proofs.Starts.{row_at}
use Rattle.hd_hmax.proofs.rows.NumberRows.row.Goals as goal

pub index-start-requires : goal.index-start-requires
index-start-requires c =
    let r = c.self.inside in
    let k = row_at r.starts.items r.items.items c.args.self.now c.args.number c.self.view_is c.self.invariant c.requires in
    omega (arith, k.start_within, r.starts.ok.0)

pub overflow_add-number : goal.overflow_add-number
overflow_add-number c =
    let r = c.self.inside in
    let k = row_at r.starts.items r.items.items c.args.self.now c.args.number c.self.view_is c.self.invariant c.requires in
    Fits-of_lt (omega (arith, k.end_within, r.starts.ok.0, r.starts.ok.1, r.starts.small))

pub index-end-requires : goal.index-end-requires
index-end-requires c =
    let r = c.self.inside in
    let k = row_at r.starts.items r.items.items c.args.self.now c.args.number c.self.view_is c.self.invariant c.requires in
    omega (arith, k.end_within, r.starts.ok.0)

pub split_at-requires : goal.split_at-requires
split_at-requires c =
    let r = c.self.inside in
    let k = row_at r.starts.items r.items.items c.args.self.now c.args.number c.self.view_is c.self.invariant c.requires in
    let start = get_or_read r.starts.items _ _ k.start_within c.index-start.ensures 0 in
    let size = ap length c.as_slice.ensures.value in
    omega (arith, k.rises, k.within, start, size)

pub overflow_sub-end : goal.overflow_sub-end
overflow_sub-end c =
    let r = c.self.inside in
    let k = row_at r.starts.items r.items.items c.args.self.now c.args.number c.self.view_is c.self.invariant c.requires in
    let start = get_or_read r.starts.items _ _ k.start_within c.index-start.ensures 0 in
    let end = get_or_read r.starts.items _ _ k.end_within c.index-end.ensures 0 in
    omega (arith, k.rises, start, end)

pub split_at-requires-2 : goal.split_at-requires-2
split_at-requires-2 c =
    let r = c.self.inside in
    let k = row_at r.starts.items r.items.items c.args.self.now c.args.number c.self.view_is c.self.invariant c.requires in
    let start = get_or_read r.starts.items _ _ k.start_within c.index-start.ensures 0 in
    let end = get_or_read r.starts.items _ _ k.end_within c.index-end.ensures 0 in
    let size = ap length c.as_slice.ensures.value in
    let back = c.split_at.ensures.back_len in
    omega (arith, k.rises, k.within, start, end, size, back)

pub returns : goal.returns
returns c =
    let r = c.self.inside in
    let k = row_at r.starts.items r.items.items c.args.self.now c.args.number c.self.view_is c.self.invariant c.requires in
    let start = get_or_read r.starts.items _ _ k.start_within c.index-start.ensures 0 in
    let end = get_or_read r.starts.items _ _ k.end_within c.index-end.ensures 0 in
    c.split_at-2.ensures.front
    ∙ (ap₂ (λ (n : ℕ) (xs : List ℕ). take n xs) (ap₂ (λ (a b : ℕ). a - b) end start) (c.split_at.ensures.back ∙ ap₂ (λ (n : ℕ) (xs : List ℕ). drop n xs) start c.as_slice.ensures.value)
    ∙ k.is)
