use Rattle.std.proofs.Common.{◌≡◌, ◌+◌, ◌-◌, List, length, drop, slice_index, slice_range, sym, ap, ◌∙◌, subst, arith}
use Rattle.std.specs.List.{flat_map}
use Rattle.std.proofs.lemmas.List.{length-append, length-drop}
use Rattle.hd_image.specs.declared.entry.Entry.{Entry}
use Rattle.hd_image.specs.declared.header.TheConstants.{FIRST_GATE}
use Rattle.hd_image.specs.Image.{opened}
use Rattle.hd_image.specs.Walking.{HasWalked}
use Rattle.hd_image.proofs.Strides.{same_slices, refused_by, found_journal}
use Rattle.hd_image.proofs.reading.read.Goals as goal

pub returns-in-Ok-clause-found : goal.returns-in-Ok-clause-found
returns-in-Ok-clause-found c =
    let content = c.args.content.now in
    let v = c.in-Some.version in
    let body = drop FIRST_GATE content in
    let rest = c.in-Ok.walked.1.now in
    let w = c.in-Ok.ensures.walked in
    let some = w.some in
    let long = c.in-Some.ensures.long in
    let left = length-drop 38 content in
    let size : length body ≡ length (flat_map (opened v) w.groups) + length rest = ap length w.whole
    ∙ length-append (flat_map (opened v) w.groups) rest in
    let same : slice_range content 6 FIRST_GATE ≡ c.args.digest.now =
    same_slices (slice_range content 6 FIRST_GATE) c.as_slice.result.now c.ne.result c.ne.ensures c.if-ne.false ∙ c.as_slice.ensures in
    found_journal content (slice_index content 0) v (slice_range content 6 FIRST_GATE) c.args.digest.now body rest c.from_vec.result
    (length content - length rest) (length rest - 1)
    c.in-Some.ensures.some same (subst (λ (es : List Entry). HasWalked v body rest es) (sym c.from_vec.ensures) w) c.in-Ok.ensures.ended
    (omega (arith, size, left, long)) (omega (arith, some))

pub returns-in-Err-clause-refused : goal.returns-in-Err-clause-refused
returns-in-Err-clause-refused c =
    let content = c.args.content.now in
    let same : slice_range content 6 FIRST_GATE ≡ c.args.digest.now =
    same_slices (slice_range content 6 FIRST_GATE) c.as_slice.result.now c.ne.result c.ne.ensures c.if-ne.false ∙ c.as_slice.ensures in
    refused_by content (slice_index content 0) c.in-Some.version (slice_range content 6 FIRST_GATE) c.args.digest.now
    (drop FIRST_GATE content) c.in-Err.error
    c.in-Some.ensures.some same c.in-Err.ensures.refused
