use Rattle.std.proofs.Common.{◌≡◌, ◌+◌, ◌-◌, set, sym, ap, ◌∙◌, subst}
use Rattle.hd_hmax.specs.Lanes.{table_of, price_at, IsShut, IsSound, AreLevels}
use Rattle.hd_hmax.proofs.Leveling.{levels_next}
use Rattle.hd_hmax.proofs.levels.make.Goals as goal

pub returns-clause-levels : goal.returns-clause-levels
returns-clause-levels c whole first f =
    let r = c.args.rules.now in
    let t = r.task.now in
    let level = c.args.level in
    let tables = c.args.tables.now.items in
    let room = c.args.room.now.items in
    let new = c.bring_free-is_whole.new.room.items in
    let e = c.bring_paid.ensures in
    let d = c.bring_free-is_whole.ensures in
    let same = c.as_slice.ensures.value in
    let kept : c.keep.new.tables.items ≡ set tables level new = c.keep.ensures ∙ ap (set tables level) c.deref.ensures.value in
    subst (λ x. AreLevels t r.brings first (level + 1) x new) (sym kept)
    (levels_next t r.brings first level tables room new f c.requires.there (λ p j h is. d.kept p j h (e.kept p j h is))
    (λ q j h inside some cheap all p m. d.kept p j h (subst (λ x. IsShut t r.brings q (table_of x (level - price_at t q)) c.bring_paid.new.room.items j) same (e.shut q j h inside some cheap) all p m))
    (d.shut whole)
    (λ s j h below there. d.sound s j level h (e.sound s j h (λ k low. subst (λ x. IsSound t s k (table_of x k) j) (sym same) (below k low)) there)))
