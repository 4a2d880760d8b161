use Rattle.std.proofs.Common.{◌≡◌, ◌≤◌, ◌==◌, length, sym, ap, ◌∙◌, subst}
use Rattle.hd_store.specs.declared.change.DiskChange.TheVariants.{Cut}
use Rattle.hd_store.specs.declared.error.TheConstants.{MOST_FAILURES}
use Rattle.hd_store.specs.declared.file.FileStore.{FileStore}
use Rattle.hd_store.specs.Bytes.{IsPartOfCut}
use Rattle.hd_store.specs.Calls.{BreaksOff}
use Rattle.hd_store.specs.Device.{content_of}
use Rattle.hd_store.specs.FileStore.{device_of}
use Rattle.hd_store.proofs.Failing.{cut_failed}
use Rattle.hd_store.proofs.file.FileStoreStore.cut.Goals as goal

pub returns-then-has_failed-clause-failed : goal.returns-then-has_failed-clause-failed
returns-then-has_failed-clause-failed c =
    let same : c.begin.new.self ≡ c.args.self.now = c.in_ok-begin.ensures.begun in
    subst (λ (old : FileStore). BreaksOff (device_of old) (Cut c.args.len) (IsPartOfCut (content_of (device_of old)) c.args.len) (device_of c.break_off.new.self)) same
    (cut_failed c.begin.new.self c.break_off.new.self c.args.len
    (subst (λ (s : FileStore). c.args.len ≤ length (content_of (device_of s))) (sym same) c.requires)
    (ap (λ (s : FileStore). s.is_broken) same ∙ c.in_ok-begin.ensures.running)
    (ap (λ (s : FileStore). s.failures == MOST_FAILURES) same ∙ c.in_ok-begin.ensures.few)
    (ap (λ (s : FileStore). s.image.history.start) c.break_off.ensures ∙ c.break_cut.ensures.0)
    (ap (λ (s : FileStore). s.image.history.steps) c.break_off.ensures ∙ c.break_cut.ensures.1)
    (ap (λ (s : FileStore). s.failures) c.break_off.ensures)
    (ap (λ (s : FileStore). s.is_broken) c.break_off.ensures))
