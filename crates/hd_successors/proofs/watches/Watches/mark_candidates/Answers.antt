use Rattle.std.proofs.Common.{◌||◌, ◌&&◌, ◌∙◌, ap, sym, slice_get}
use Rattle.hd_task.specs.Conditions.{has_atom}
use Rattle.hd_successors.specs.Seeing.{watches_one, other_passes}
use Rattle.hd_base.specs.Bits.{bit_in}
use Rattle.hd_successors.proofs.Rows.{seen_parts}
use Rattle.hd_successors.proofs.watches.Watches.mark_candidates.Goals as goal

pub returns : goal.returns
returns c =
    λ i.
    let watch = slice_get c.args.self.now.watched i in
    c.mark_seen.ensures i
    ∙ (ap (λ b. (watches_one (has_atom c.args.state.now) watch && other_passes (has_atom c.args.state.now) watch) || b) (ap (λ ws. bit_in ws i) c.copy_from_slice.ensures.after ∙ c.requires.always i)
    ∙ sym (seen_parts c.args.state.now watch))
