use Rattle.std.proofs.Common.{ℕ, ◌+◌, ◌*◌, ◌<◌, ap, ◌∙◌, subst}
use Rattle.hd_image.specs.declared.entry.TheConstants.{MAX_GROUP}
use Rattle.hd_image.specs.Image.{entry_width}
use Rattle.hd_image.proofs.Strides.{no_count, count_least, count_most, not_within}
use Rattle.hd_image.proofs.walk.group_len.Goals as goal
use Rattle.hd_image.proofs.walk.group_len.Goals.{then-count-lt1-via-then-count-lt1, then-count-lt1-via-else-count-lt1+then-count-gt-MAX_GROUP}

pub returns-then-behind-lt4-clause-none : goal.returns-then-behind-lt4-clause-none
returns-then-behind-lt4-clause-none c = no_count c.args.version c.args.behind.now c.if-behind-lt4.true

pub returns-then-count-lt1-clause-none : goal.returns-then-count-lt1-clause-none
returns-then-count-lt1-clause-none c =
    elim c.then-count-lt1.branch [
      | then-count-lt1-via-then-count-lt1 w ↦
          count_least c.args.version c.args.behind.now (subst (λ (n : ℕ). n < 1) c.read_u32-count.ensures w.if-count-lt1.true)
      | then-count-lt1-via-else-count-lt1+then-count-gt-MAX_GROUP w ↦
          count_most c.args.version c.args.behind.now (subst (λ (n : ℕ). MAX_GROUP < n) c.read_u32-count.ensures w.if-count-gt-MAX_GROUP.true)
    ]

pub returns-else-len-behind-clause-none : goal.returns-else-len-behind-clause-none
returns-else-len-behind-clause-none c =
    not_within c.args.version c.args.behind.now (4 + c.entries_len-len.result)
    (ap (λ (n : ℕ). 4 + n) (c.entries_len-len.ensures.len ∙ ap (λ (n : ℕ). entry_width c.args.version * n) c.read_u32-count.ensures))
    c.if-len-behind.false
