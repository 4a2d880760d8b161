use Rattle.std.proofs.Common.{ℕ, List, ◌++◌, ap, ap₂, ◌∙◌, append_assoc}
use Rattle.byteorder.specs.Endian.{little_bytes}
use Rattle.hd_image.specs.Image.{parent_width, parent_number, entry_bytes}
use Rattle.hd_image.proofs.group.push_entry.Goals as goal

pub returns-clause-bytes : goal.returns-clause-bytes
unfolding entry_bytes
returns-clause-bytes c =
    let v = c.args.version in
    let kid = c.args.kid.now in
    let action = little_bytes 4 kid.action in
    c.in_ok-push_number-2.ensures
    ∙ (ap (λ (xs : List ℕ). xs ++ action) (c.in_ok-push_number.ensures
    ∙ ap₂ (λ (w n : ℕ). c.args.bytes.now.items ++ little_bytes w n) c.parent_width.ensures c.number_of-number.ensures)
    ∙ append_assoc c.args.bytes.now.items (little_bytes (parent_width v) (parent_number v kid.parent)) action)
