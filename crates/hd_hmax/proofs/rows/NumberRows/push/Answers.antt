use Rattle.std.proofs.Common.{◌≡◌, ◌++◌, ◌∷◌, [], List, ℕ, length, ap, ◌∙◌}
use Rattle.hd_hmax.proofs.Starts.{laid_pushed, rows_laid}
use Rattle.hd_hmax.proofs.rows.NumberRows.push.Goals as goal

pub invariant_of-self-2 : goal.invariant_of-self-2
invariant_of-self-2 c =
    let r = c.self.inside in
    let end : c.len.result ≡ length c.extend_from_slice.new.self.items = c.len.ensures ∙ c.extend_from_slice.new.self.ok.0 in
    let last = c.in_ok-push.ensures.items ∙ ap (λ (xs : List ℕ). xs ++ c.len.result ∷ []) c.in_ok-reserve.ensures.items in
    laid_pushed r.starts.items r.items.items c.args.row.now _ _ c.len.result c.self.invariant c.in_ok-extend_from_slice.ensures.items end last

pub returns : goal.returns
returns c =
    let r = c.self.inside in
    let end : c.len.result ≡ length c.extend_from_slice.new.self.items = c.len.ensures ∙ c.extend_from_slice.new.self.ok.0 in
    let last = c.in_ok-push.ensures.items ∙ ap (λ (xs : List ℕ). xs ++ c.len.result ∷ []) c.in_ok-reserve.ensures.items in
    rows_laid r.starts.items r.items.items c.args.row.now _ _ c.len.result c.self.invariant c.in_ok-extend_from_slice.ensures.items end last
    ∙ ap (λ (rows : List (List ℕ)). rows ++ c.args.row.now ∷ []) c.self.view_is
