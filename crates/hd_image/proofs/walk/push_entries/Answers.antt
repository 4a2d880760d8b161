use Rattle.std.proofs.Common.{◌≡◌, ℕ, ◌-◌, ◌<◌, List, ◌++◌, length, drop, sym, ap, ap₂, ◌∙◌, subst, arith}
use Rattle.std.proofs.lemmas.List.{length-take, length-drop, take-append-drop}
use Rattle.hd_image.specs.declared.entry.Entry.{Entry}
use Rattle.hd_image.specs.Image.{entry_width}
use Rattle.hd_image.specs.Walking.{AreWhole, HasAdded}
use Rattle.hd_image.proofs.Strides.{added_more, whole_rest}
use Rattle.hd_image.proofs.walk.push_entries.Goals as goal

pub loop-rest-preserved : goal.loop-rest-preserved
loop-rest-preserved c =
    let v = c.args.version in
    let bytes = c.args.bytes.now in
    let rest = c.loop-rest.rest.now in
    let front = c.split_at.result.0.now in
    let after = c.split_at.result.1.now in
    let width = c.entry_width-width.ensures in
    let front_len = ap length c.split_at.ensures.front in
    let taken = length-take c.entry_width-width.result rest in
    let some : 0 < length rest = omega (arith, c.split_at.ensures.front_len, front_len, taken, width) in
    let back : after ≡ drop (entry_width v) rest = c.split_at.ensures.back ∙ ap (λ (n : ℕ). drop n rest) width in
    let back_len = ap length back in
    let left = length-drop (entry_width v) rest in
    let shorter = c.loop-rest.invariant.within in
    let within = c.requires.within in
    let split : rest ≡ front ++ after =
    sym (ap₂ (λ (xs ys : List ℕ). xs ++ ys) c.split_at.ensures.front c.split_at.ensures.back ∙ take-append-drop c.entry_width-width.result rest) in
    record {
      whole = subst (AreWhole v) (sym back) (whole_rest v rest c.loop-rest.invariant.whole some);
      within = omega (arith, back_len, left, shorter);
      added = subst (λ (es : List Entry). HasAdded v (c.args.end - length bytes) bytes after c.args.entries.now.items es)
          (sym c.in_ok-push.ensures.items)
          (added_more v (c.args.end - length bytes) bytes rest front after c.args.entries.now.items c.loop-rest.entries.items c.kid_in-parent.result
          (c.args.end - length rest)
          c.loop-rest.invariant.added split c.kid_in-parent.ensures.bytes c.kid_in-parent.ensures.held (omega (arith, shorter, within)));
    }
