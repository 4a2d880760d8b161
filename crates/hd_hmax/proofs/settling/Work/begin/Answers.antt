use Rattle.std.proofs.Common.{◌≡◌, ◌+◌, [], true, Bool, ℕ, List, length, replicate, sym, ap, ◌∙◌, subst, arith}
use Rattle.std.proofs.lemmas.List.{length-replicate}
use Rattle.hd_hmax.specs.Rules.{places}
use Rattle.hd_hmax.specs.Working.{Waits, IsLeftCounted, IsAtLevel, AreReady}
use Rattle.hd_hmax.proofs.Counting.{unfinished_most}
use Rattle.hd_hmax.proofs.Starting.{first_counted, first_fair, first_ready}
use Rattle.hd_hmax.proofs.settling.Work.begin.Goals as goal

pub copy_all-requires : goal.copy_all-requires
copy_all-requires c =
    let r = c.args.rules.now in
    let a = ap length c.as_slice.ensures.value in
    let b = r.of_task.transposed.rules in
    let d = c.requires.width.left in
    omega (arith, a, b, d)

pub returns-clause-width : goal.returns-clause-width
returns-clause-width c =
    let r = c.args.rules.now in
    let w = c.requires.width in
    record {
      pending = ap length c.open_all.ensures ∙ (length-replicate (length c.args.self.now.pending.items) true ∙ w.pending);
      left = ap length (c.copy_all.ensures ∙ c.as_slice.ensures.value) ∙ r.of_task.transposed.rules;
      run = let a = w.run in let e = c.drop_rules.ensures.capacity in omega (arith, a, e);
      heap = let a = w.heap in let e = c.drop_rules.ensures.heap_capacity in omega (arith, a, e);
    }

pub returns-clause-counted : goal.returns-clause-counted
returns-clause-counted c =
    let r = c.args.rules.now in
    let t = r.task.now in
    let pending : c.open_all.new.pending.items ≡ replicate (places (length t.atoms)) true = c.open_all.ensures ∙ ap (λ (k : ℕ). replicate k true) c.requires.width.pending in
    let left = c.copy_all.ensures ∙ c.as_slice.ensures.value in
    subst (λ (xs : List Bool). IsLeftCounted t xs c.copy_all.new.left.items []) (sym pending)
    (subst (λ (ys : List ℕ). IsLeftCounted t (replicate (places (length t.atoms)) true) ys []) (sym left) (first_counted t r.askers r.counts.items r.of_task.transposed))

pub returns-clause-fair : goal.returns-clause-fair
returns-clause-fair c =
    λ s.
    let t = c.args.rules.now.task.now in
    let pending : c.open_all.new.pending.items ≡ replicate (places (length t.atoms)) true = c.open_all.ensures ∙ ap (λ (k : ℕ). replicate k true) c.requires.width.pending in
    subst (λ (xs : List Bool). IsAtLevel t s xs (Waits c.drop_rules.new.self) 0 []) (sym pending) (first_fair t s (Waits c.drop_rules.new.self) c.drop_rules.ensures.empty)

pub returns-clause-ready : goal.returns-clause-ready
returns-clause-ready c =
    let r = c.args.rules.now in
    let t = r.task.now in
    let left = c.copy_all.ensures ∙ c.as_slice.ensures.value in
    subst (λ (ys : List ℕ). AreReady t r.brings c.open_all.new.pending.items ys (Waits c.drop_rules.new.self) (length t.actions + 1)) (sym left)
    (first_ready t r.askers r.counts.items r.of_task.transposed r.brings c.open_all.new.pending.items (Waits c.drop_rules.new.self) (length t.actions + 1))

pub returns-clause-room : goal.returns-clause-room
returns-clause-room c =
    let r = c.args.rules.now in
    let w = c.requires.width in
    let f = c.drop_rules.ensures in
    let most = unfinished_most c.copy_all.new.left.items in
    let left = ap length (c.copy_all.ensures ∙ c.as_slice.ensures.value) ∙ r.of_task.transposed.rules in
    let a = f.len in
    let b = f.late in
    record {
      run = omega (arith, most, left, a);
      heap = omega (arith, most, left, b);
      run_room = let d = w.run in let e = f.capacity in omega (arith, d, e);
      heap_room = let d = w.heap in let e = f.heap_capacity in omega (arith, d, e);
    }
