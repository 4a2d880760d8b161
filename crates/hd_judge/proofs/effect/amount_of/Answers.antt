use Rattle.std.proofs.Common.{Some, is_some, sym, ap, ◌∙◌, SFits, rules}
use Rattle.std.specs.Int.{w64}
use Rattle.std.proofs.lemmas.Int.{to_z-of_z}
use Rattle.hd_base.specs.Numbers.{fits}
use Rattle.hd_judge.specs.Tables.{reached_in}
use Rattle.hd_judge.proofs.Changing.{stays-fits}
use Rattle.hd_judge.proofs.Defined.{amount_some}
use Rattle.hd_judge.proofs.Leaving.{departs-stays}
use Rattle.hd_judge.proofs.effect.amount_of.Goals as goal

pub unwrap-requires : goal.unwrap-requires
unwrap-requires c =
    let judged = rw c.in-Value.is at c.in_ok-amount.ensures in
    ap is_some (sym judged.1) ∙ amount_some (reached_in c.args.place.now).state.values c.args.objects.now c.args.effect.now c.requires.there

pub returns-in-Value-clause-amount : goal.returns-in-Value-clause-amount
returns-in-Value-clause-amount c =
    let judged = rw c.in-Value.is at c.in_ok-amount.ensures in
    let fits_amount : SFits w64 c.unwrap.result = search rules in
    (judged.0, judged.1 ∙ (c.unwrap.ensures ∙ ap Some (sym (to_z-of_z w64 c.unwrap.result fits_amount))))

pub returns-in-Value-clause-in_range : goal.returns-in-Value-clause-in_range
returns-in-Value-clause-in_range c =
    let judged = rw c.in-Value.is at c.in_ok-amount.ensures in
    let fits_amount : SFits w64 c.unwrap.result = search rules in
    ap fits (sym (judged.1 ∙ (c.unwrap.ensures ∙ ap Some (sym (to_z-of_z w64 c.unwrap.result fits_amount)))))
    ∙ stays-fits (reached_in c.args.place.now).state.values c.args.objects.now c.args.effect.now.amount judged.0

pub returns-in-Departs-clause-amount : goal.returns-in-Departs-clause-amount
returns-in-Departs-clause-amount c =
    let d = rw c.in-Departs.is at c.in_ok-amount.ensures in
    (departs-stays (reached_in c.args.place.now).state.values c.args.objects.now c.args.effect.now.amount c.in-Departs.departure.part.now c.in-Departs.departure.value d, d)
