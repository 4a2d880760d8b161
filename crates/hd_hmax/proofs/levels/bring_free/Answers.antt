use Rattle.hd_hmax.proofs.levels.bring_free.Goals as goal

pub loop-preserved : goal.loop-preserved
loop-preserved c =
    let f = c.loop.invariant in
    let e = c.pass_free.ensures in
    record {
      wide = e.wide;
      kept = λ p j h is. e.kept p j h (f.kept p j h is);
      sound = λ s j d h there. e.sound s j d h (f.sound s j d h there);
    }
