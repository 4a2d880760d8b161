use Rattle.std.proofs.Common.{rules, ◌≡◌, true, slice_range, ◌∙◌}
use Rattle.std.specs.Prelude.{codes}
use Rattle.std.proofs.lemmas.Option.{IfSome_then}
use Rattle.hd_image.proofs.Heads.{is_headed}
use Rattle.hd_image.proofs.Strides.{same_slices}
use Rattle.hd_image.proofs.header.headed.Goals as goal

pub returns-clause-some : goal.returns-clause-some
returns-clause-some c =
    let letters : slice_range c.args.content.now 1 5 ≡ codes "HDPJ" =
    same_slices (slice_range c.args.content.now 1 5) c.as_slice.result.now c.ne.result c.ne.ensures c.if-ne.false ∙ c.as_slice.ensures in
    let sound : c.is_head.result ≡ true = search rules in
    IfSome_then c.of_byte.result c.of_byte.ensures.some
    (λ v byte. is_headed c.args.content.now v c.if-content-le-FIRST_GATE.false letters byte (c.is_head.ensures.0 sound))
