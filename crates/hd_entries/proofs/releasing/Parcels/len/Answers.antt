use Rattle.std.proofs.Common.{length, sym, ap, ◌∙◌}
use Rattle.hd_entries.specs.Growing.{successor_count}
use Rattle.hd_entries.specs.Releasing.{ParcelsView}
use Rattle.hd_entries.proofs.Children.{released_count}
use Rattle.hd_entries.proofs.releasing.Parcels.len.Goals as goal

pub returns : goal.returns
returns c =
    let p = c.self.inside in
    c.kids_of.ensures
    ∙ (ap successor_count c.as_slice.ensures ∙ (sym (released_count p.first p.outcomes) ∙ ap (λ (v : ParcelsView). length v.kids) c.self.view_is))
