-- A value of no bytes is made. What it shows is chosen here, as the contract says it: one step more
-- than the history before it.
use Rattle.std.proofs.Common.{◌≡◌, [], ◌∷◌, refl, take}
use Rattle.std.proofs.raw_atomic.Walks.{proved}
use mir.Syntax.{named}
use mir.Val.{vstruct, vnil}
use base.Logic.{emp, via, fst∗}
use types.Kit.{‵, raw, ◌$◌, ◌∵◌, !, qed, move, suffices, done}
use types.Run.{no_more, returns, enter}
use types.Part.{agg}
use types.ByLocal.{alloc_all, pass_all, free_all, look_at, sets}
use denote.Exit.{yes}
use denote.RattleType.{owns}
use denote.Ref.{shr_vals, shr_Tells}
use denote.Shadow.{pure_i}
use denote.Signature.{plain, types_at}
use denote.Triple.Entry.{alive}
use denote.Triple.Walked.{says, stay_none_ref, Stays, walk_of, ends_at, Goes-none_ref}
use Rattle.hd_store.specs.declared.history.History.{History}
use Rattle.hd_store.specs.contracts.history.History.with_step as f
use Rattle.hd_store.specs.contracts.history.History as history
use Rattle.hd_store.specs.contracts.change.DiskChange as change
use Rattle.hd_store.specs.contracts.platter.Platter as platter
use Rattle.hd_store.proofs.history.History.with_step.Statement.{statement}
use Rattle.hd_store.proofs.history.History.with_step.Code as code

abbrev stayed : Stays f.ended.signature.params f.ended.kept
stayed = (
  stay_none_ref (0 ∷ []) tt (plain (λ _. history.the_row)) yes,
  (stay_none_ref (1 ∷ []) tt (plain (λ _. change.the_row)) yes, (stay_none_ref (2 ∷ []) tt (plain (λ _. platter.the_row)) yes, tt)),
)

pub with_step_spec : {M : Type 1} → statement M
with_step_spec 𝓤 𝓛 𝓜 𝓡 wired =
    let c = f.clauses 𝓛 𝓜.mem 𝓡.returns in
    proved 𝓛 f.ended stayed c 𝓜 𝓡 (
      Goes-none_ref 𝓛 3 (0 ∷ []) tt (plain (λ _. history.the_row)) yes,
      (Goes-none_ref 𝓛 3 (1 ∷ []) tt (plain (λ _. change.the_row)) yes, (Goes-none_ref 𝓛 3 (2 ∷ []) tt (plain (λ _. platter.the_row)) yes, tt)),
    )
    f.Key.name code.function (code.unfolded 𝓤 𝓛.H 𝓜 𝓡 wired)
    (λ κs. (shr_vals, (shr_vals, (shr_vals, tt))))
    (λ κs. (shr_Tells (named 0) κs.0 history.the_row, (shr_Tells (named 1) κs.1.0 change.the_row, (shr_Tells (named 2) κs.1.1.0 platter.the_row, tt))))
    (λ κs qs bounds a g are.
    let y : (walk_of 𝓛 f.ended stayed c).Ghost = ((κs, qs, bounds, a, (shr_vals a.0, (shr_vals a.1.0, (shr_vals a.1.1.0, tt)))), g) in
    let now = take a.1.1.0.now.len a.1.1.0.now.bytes.items in
    let made : History = record { start = a.0.now.start; steps = record { change = a.1.0.now; now = now } ∷ a.0.now.steps } in
    let shown : (made.start ≡ a.0.now.start) × (made.steps ≡ record { change = a.1.0.now; now = now } ∷ a.0.now.steps) = (refl, refl) in
    via 𝓤 _ (fst∗ 𝓤 _ (emp 𝓤)) (qed 𝓛 (raw (alive 𝓛 f.signature κs qs) ∷ ‵ (owns (types_at f.signature.params κs) a y.0.4) ∷ []) ∵
    enter ! _ _ _ _ _ $ alloc_all ! (λ l. pass_all ! refl ((tt, tt), ((tt, tt), ((tt, tt), tt))) $ sets ! (agg ! (no_more !)) refl (tt, tt) $
    returns ! (look_at ! 0 refl) $ free_all ! refl $
    suffices ! _ (ends_at 𝓛 f.ended stayed c y (vstruct vnil) made (tt, (tt, (tt, tt))) (tt, (tt, (tt, tt)))) $
    says ! shown $
    pure_i ! (history.the_row.own_val made (vstruct vnil ∷ [])) ((λ vss. (tt, tt)), tt) ((tt, (refl, tt)), tt) $
    move ! (1 ∷ 2 ∷ 0 ∷ []) $ done !)))
