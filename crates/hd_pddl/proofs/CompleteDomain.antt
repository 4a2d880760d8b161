-- What the grammar says of domains is read.
use Rattle.std.proofs.Common.{◌≡◌, ℕ, Bool, true, false, List, [], ◌∷◌, ◌++◌, Some, None, refl, sym, ap, ◌∙◌, append_assoc}
use Rattle.std.proofs.lemmas.List.{append-nil}
use Rattle.std.specs.Prelude.{codes}
use Rattle.std.specs.Str.{bytes_eq}
use Rattle.hd_forms.specs.Forms.{Forms}
use Rattle.hd_terms.proofs.CompleteTyped.{typed_after-AreTyped}
use Rattle.hd_terms.proofs.CompleteLists.{condition_at-AreConditions, effect_at-AreEffects}
use Rattle.hd_pddl.specs.declared.tree.Action.{Action}
use Rattle.hd_pddl.specs.declared.tree.DomainAst.{DomainAst}
use Rattle.hd_pddl.specs.declared.tree.Signature.{Signature}
use Rattle.hd_pddl.specs.Sections as s
use Rattle.hd_pddl.specs.Domain as g
use Rattle.hd_pddl.specs.Domain.{IsSignature, AreSignatures, AreFunctions, IsAction, AreActions, IsDomain}
use Rattle.hd_pddl.specs.Reading.{section_at, head_at, names_of, names_at, signature_of, signatures_after, signatures_of, predicates_at, functions_after, functions_of, functions_at, precondition_at, action_effect_at, action_head_at, action_of, actions_after, domain_in, domain_of}
use Rattle.hd_pddl.proofs.CompleteSections.{items_or-HasItems, section_at-HasItems, names_of-AreTyped, behind_requirements-SkipsRequirements}

-- ---- predicates and functions

signature_of-IsSignature : {f : Forms} {t : Signature} → IsSignature f t → signature_of f ≡ Some t
unfolding signature_of
signature_of-IsSignature (g.signature p) = rw (typed_after-AreTyped p []) refl

signatures_after-AreSignatures : {f : Forms} {ts : List Signature} → AreSignatures f ts
    → (found : List Signature) → signatures_after f found ≡ Some (found ++ ts)
unfolding signatures_after
signatures_after-AreSignatures g.end found = ap Some (sym (append-nil found))
signatures_after-AreSignatures (g.one {s = t} {ss = ts} p r) found =
    rw (signature_of-IsSignature p) (signatures_after-AreSignatures r (found ++ t ∷ []) ∙ ap Some (append_assoc found (t ∷ []) ts))

signatures_of-AreSignatures : (f : Forms) (ts : List Signature) → AreSignatures f ts → signatures_of f ≡ Some ts
unfolding signatures_of
signatures_of-AreSignatures f ts p = signatures_after-AreSignatures p []

functions_after-AreFunctions : {f : Forms} {ts : List Signature} → AreFunctions f ts
    → (behind : Bool) (found : List Signature) → functions_after behind f found ≡ Some (found ++ ts)
unfolding functions_after
functions_after-AreFunctions g.end behind found = ap Some (sym (append-nil found))
functions_after-AreFunctions (g.one {s = t} {ss = ts} p r) behind found =
    rw (signature_of-IsSignature p) (functions_after-AreFunctions r true (found ++ t ∷ []) ∙ ap Some (append_assoc found (t ∷ []) ts))
functions_after-AreFunctions (g.numbers {s = t} {ss = ts} p r) behind found =
    rw (signature_of-IsSignature p) (functions_after-AreFunctions r false (found ++ t ∷ []) ∙ ap Some (append_assoc found (t ∷ []) ts))

functions_of-AreFunctions : (f : Forms) (ts : List Signature) → AreFunctions f ts → functions_of f ≡ Some ts
unfolding functions_of
functions_of-AreFunctions f ts p = functions_after-AreFunctions p false []

-- ---- actions

action_of-IsAction : {f : Forms} {t : Action} → IsAction f t → action_of f ≡ Some t
unfolding action_of action_head_at precondition_at action_effect_at
action_of-IsAction (g.action v s.absent s.absent) = rw (typed_after-AreTyped v []) refl
action_of-IsAction (g.action v (s.present p) s.absent) = rw (typed_after-AreTyped v [], condition_at-AreConditions p) refl
action_of-IsAction (g.action v s.absent (s.present q)) = rw (typed_after-AreTyped v [], effect_at-AreEffects q) refl
action_of-IsAction (g.action v (s.present p) (s.present q)) = rw (typed_after-AreTyped v [], condition_at-AreConditions p, effect_at-AreEffects q) refl

actions_after-AreActions : {f : Forms} {ts : List Action} → AreActions f ts
    → (found : List Action) → actions_after f found ≡ Some (found ++ ts)
unfolding actions_after
actions_after-AreActions g.end found = ap Some (sym (append-nil found))
actions_after-AreActions (g.one {t = t} {ts = ts} p r) found =
    rw (action_of-IsAction p) (actions_after-AreActions r (found ++ t ∷ []) ∙ ap Some (append_assoc found (t ∷ []) ts))

-- actions are no other section
section_at-AreActions : (k : List ℕ) {f : Forms} {ts : List Action} → bytes_eq (codes "action") k ≡ false → AreActions f ts
    → section_at k f ≡ None
unfolding section_at
section_at-AreActions k other g.end = refl
section_at-AreActions k other (g.one (g.action v p q) r) = rw other refl

-- ---- domains

pub domain_of-IsDomain : {f : Forms} {t : DomainAst} → IsDomain f t → domain_of f ≡ Some t
unfolding domain_of domain_in head_at names_at predicates_at functions_at
domain_of-IsDomain (g.domain s.define q ts cs ps fs acts) =
    let functions = codes "functions" in
    let predicates = codes "predicates" in
    let constants = codes "constants" in
    let types = codes "types" in
    let requirements = codes "requirements" in
    rw (
      behind_requirements-SkipsRequirements q
          (section_at-HasItems types requirements refl ts (section_at-HasItems constants requirements refl cs (section_at-HasItems predicates requirements refl ps
          (section_at-HasItems functions requirements refl fs (section_at-AreActions requirements refl acts))))),
      items_or-HasItems names_of names_of-AreTyped types refl ts
          (section_at-HasItems constants types refl cs (section_at-HasItems predicates types refl ps (section_at-HasItems functions types refl fs
          (section_at-AreActions types refl acts)))),
      items_or-HasItems names_of names_of-AreTyped constants refl cs
          (section_at-HasItems predicates constants refl ps (section_at-HasItems functions constants refl fs (section_at-AreActions constants refl acts))),
      items_or-HasItems signatures_of signatures_of-AreSignatures predicates refl ps
          (section_at-HasItems functions predicates refl fs (section_at-AreActions predicates refl acts)),
      items_or-HasItems functions_of functions_of-AreFunctions functions refl fs (section_at-AreActions functions refl acts),
      actions_after-AreActions acts [],
    ) refl
