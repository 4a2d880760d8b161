use Rattle.std.proofs.Common.{◌≡◌, ℕ, ◌+◌, ◌-◌, ◌≤◌, List, [], length, take, drop, slice_index, sym, ap, subst, arith}
use Rattle.std.proofs.lemmas.List.{length-drop}
use Rattle.hd_image.specs.declared.entry.Entry.{Entry}
use Rattle.hd_image.specs.declared.header.TheConstants.{FIRST_GATE}
use Rattle.hd_image.specs.Reading.{HasGroup}
use Rattle.hd_image.specs.Walking.{HasWalked}
use Rattle.hd_image.proofs.Digits.{bytes-drop}
use Rattle.hd_image.proofs.Strides.{range_from, walked_none, torn_here, stride}
use Rattle.hd_image.proofs.walk.walk.Goals as goal

pub loop-rest-init : goal.loop-rest-init
loop-rest-init c =
    let content = c.args.content.now in
    let v = c.args.version in
    let same = range_from 38 content in
    let size = length-drop 38 content in
    let len = ap length same in
    let long = c.requires in
    let rest = take (length content - 38) (drop 38 content) in
    record {
      within = omega (arith, len, size);
      walked = subst (λ (es : List Entry). HasWalked v (drop FIRST_GATE content) rest es) (sym c.in-Ok.ensures.items)
          (subst (λ (xs : List ℕ). HasWalked v (drop FIRST_GATE content) xs []) (sym same)
          (walked_none v (drop FIRST_GATE content) (omega (arith, size, long))));
    }

pub returns-in_default-group_len-clause-refused : goal.returns-in_default-group_len-clause-refused
returns-in_default-group_len-clause-refused c =
    let content = c.args.content.now in
    let v = c.args.version in
    let rest = c.loop-rest.rest.now in
    let size = length-drop 38 content in
    let long = c.requires in
    let within = c.loop-rest.invariant.within in
    let at_gate : slice_index rest 0 ≡ 1 = omega (arith, c.loop-rest-test.true) in
    torn_here v (drop FIRST_GATE content) rest (length content - length rest) c.loop-rest.entries.items c.loop-rest.invariant.walked at_gate
    (subst (λ (xs : List ℕ). ¬ HasGroup v xs) (range_from 1 rest) c.in_default-group_len.ensures.none) (omega (arith, size, long, within))

pub loop-rest-preserved : goal.loop-rest-preserved
loop-rest-preserved c =
    let content = c.args.content.now in
    let v = c.args.version in
    let rest = c.loop-rest.rest.now in
    let next = c.split_at.result.1.now in
    let size = length-drop 38 content in
    let long = c.requires in
    let within = c.loop-rest.invariant.within in
    let next_len = ap length c.split_at.ensures.back in
    let left = length-drop (1 + c.in-Some.len) rest in
    let at_gate : slice_index rest 0 ≡ 1 = omega (arith, c.loop-rest-test.true) in
    let fewer : length next ≤ length content = omega (arith, next_len, left, within) in
    record {
      within = fewer;
      walked = stride v (drop FIRST_GATE content) rest c.split_at.result.0.now next c.in-Some.len
          (length content - length next) c.loop-rest.entries.items c.push_entries.new.entries.items
          c.loop-rest.invariant.walked at_gate
          (bytes-drop 38 content
          (λ i. omega (arith, c.type_inv.content i))) c.in-Some.ensures.some c.split_at.ensures.front c.split_at.ensures.back
          c.in-Ok-push_entries.ensures (omega (arith, size, long, fewer));
    }
