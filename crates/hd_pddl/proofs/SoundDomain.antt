-- What is read of domains is in the grammar.
use Rattle.std.proofs.Common.{◌≡◌, ℕ, Bool, true, false, ◌&&◌, cond, List, [], ◌∷◌, ◌++◌, Option, Some, None, refl, sym, ap, subst, ◌∙◌, append_assoc}
use Rattle.std.proofs.lemmas.Option.{same_Some}
use Rattle.hd_base.proofs.Options.{cond_then_some}
use Rattle.std.proofs.lemmas.Bool.{and_parts}
use Rattle.std.proofs.lemmas.Slice.Eq.{bytes_eq-Decides}
use Rattle.std.proofs.lemmas.List.{append-nil}
use Rattle.std.specs.Prelude.{codes}
use Rattle.std.specs.Str.{bytes_eq}
use Rattle.hd_lex.specs.declared.token.Operator.TheVariants.{Minus}
use Rattle.hd_forms.specs.declared.names.NameAt.{NameAt}
use Rattle.hd_forms.specs.declared.word.FormWord.{FormWord}
use Rattle.hd_forms.specs.declared.word.FormWord.TheVariants.{Name, Keyword, Operator}
use Rattle.hd_forms.specs.Forms.{Forms, none, word, list}
use Rattle.hd_base.specs.Options.{◌>>=◌}
use Rattle.hd_forms.specs.Reading.{name_in, name_at, group_at, end_at, forms_behind_keyword}
use Rattle.hd_forms.proofs.Inverting.{bind_some, end_at-some, group_at-some, name_at-some, name_in-some, forms_behind_keyword-some}
use Rattle.hd_terms.specs.declared.tree.Condition.{Condition}
use Rattle.hd_terms.specs.declared.tree.Effect.{Effect}
use Rattle.hd_terms.specs.declared.tree.Typed.{Typed}
use Rattle.hd_terms.specs.declared.typed.ItemKind.TheVariants as kinds
use Rattle.hd_terms.specs.Typed.{AreTyped}
use Rattle.hd_terms.specs.Conditions.{AreConditions}
use Rattle.hd_terms.specs.Effects.{AreEffects}
use Rattle.hd_terms.specs.Reading.{is_minus_term, typed_after}
use Rattle.hd_terms.proofs.SoundTyped.{AreTyped-typed_after, is_minus_term-true}
use Rattle.hd_terms.proofs.SoundLists.{IsConditionAt-condition_at, IsEffectAt-effect_at}
use Rattle.hd_pddl.specs.declared.tree.Action.{Action}
use Rattle.hd_pddl.specs.declared.tree.DomainAst.{DomainAst}
use Rattle.hd_pddl.specs.declared.tree.Signature.{Signature}
use Rattle.hd_pddl.specs.Sections as x
use Rattle.hd_pddl.specs.Sections.{HasItems, HasPart}
use Rattle.hd_pddl.specs.Domain as g
use Rattle.hd_pddl.specs.Domain.{made_signature, IsSignature, AreSignatures, AreFunctions, made_action, IsAction, AreActions, made_domain, IsDomain}
use Rattle.hd_pddl.specs.Reading.{section_at, behind_requirements, head_at, names_at, signature_of, signatures_after, signatures_of, predicates_at, functions_after, numbers_after, functions_of, functions_at, condition_or, precondition_at, effect_or, action_effect_at, action_head_at, action_of, actions_after, domain_in, domain_of}
use Rattle.hd_pddl.proofs.SoundSections.{HasItems-items_or, HasItems-names_at, SkipsRequirements-behind_requirements, IsDefinition-head_at}

-- ---- predicates and functions

IsSignature-signature_of : (f : Forms) (t : Signature) → signature_of f ≡ Some t → IsSignature f t
unfolding signature_of
IsSignature-signature_of f t e =
    let s = bind_some (name_at f) (λ n. typed_after kinds.Variable n.1 [] [] >>= λ ps. Some (made_signature n.0 ps)) t e in
    let u = bind_some (typed_after kinds.Variable s.0.1 [] []) (λ ps. Some (made_signature s.0.0 ps)) t s.2 in
    let made : IsSignature (word s.0.0.at (Name s.0.0.name) s.0.1) (made_signature s.0.0 u.0) =
    g.signature (AreTyped-typed_after kinds.Variable s.0.1 u.0 u.1) in
    subst (IsSignature f) (same_Some (made_signature s.0.0 u.0) t u.2)
    (subst (λ (y : Forms). IsSignature y (made_signature s.0.0 u.0)) (sym (name_at-some f s.0 s.1)) made)

AreSignatures-signatures_after : (f : Forms) (found ts : List Signature) → signatures_after f found ≡ Some ts
    → (ms : List Signature) × AreSignatures f ms × (ts ≡ found ++ ms)
unfolding signatures_after
AreSignatures-signatures_after none found ts e = ([], g.end, sym (same_Some found ts e) ∙ sym (append-nil found))
AreSignatures-signatures_after (word at w rest) found ts e = absurd cc
AreSignatures-signatures_after (list a inside b rest) found ts e =
    let s = bind_some (signature_of inside) (λ t. signatures_after rest (found ++ t ∷ [])) ts e in
    let q = AreSignatures-signatures_after rest (found ++ s.0 ∷ []) ts s.2 in
    (s.0 ∷ q.0, g.one (IsSignature-signature_of inside s.0 s.1) q.1, q.2 ∙ append_assoc found (s.0 ∷ []) q.0)

AreSignatures-signatures_of : (f : Forms) (ts : List Signature) → signatures_of f ≡ Some ts → AreSignatures f ts
unfolding signatures_of
AreSignatures-signatures_of f ts e = let q = AreSignatures-signatures_after f [] ts e in subst (AreSignatures f) (sym q.2) q.1

HasItems-predicates_at : (f : Forms) (y : List Signature × Forms) → predicates_at f ≡ Some y
    → HasItems AreSignatures (codes "predicates") f y.0 y.1
unfolding predicates_at
HasItems-predicates_at f y e =
    HasItems-items_or signatures_of AreSignatures-signatures_of (codes "predicates") f y (section_at (codes "predicates") f) refl e

-- more functions, after `- number` where it may stand
data AreMore : Bool → Forms → List Signature → Type 0 where
  plain : {behind : Bool} {f : Forms} {ts : List Signature} → AreFunctions f ts → AreMore behind f ts
  numbers : {c d : ℕ} {rest : Forms} {ts : List Signature}
      → AreFunctions rest ts
      → AreMore true (word c (Operator Minus) (word d (Name (codes "number")) rest)) ts

-- a function before more
AreFunctions-before : (a b : ℕ) (inside rest : Forms) (s : Signature) (ts : List Signature) → IsSignature inside s
    → AreMore true rest ts → AreFunctions (list a inside b rest) (s ∷ ts)
AreFunctions-before a b inside rest s ts p (plain r) = g.one p r
AreFunctions-before a b inside rest s ts p (numbers r) = g.numbers p r

-- where no number may stand, there is none
AreFunctions-no_number : (f : Forms) (ts : List Signature) → AreMore false f ts → AreFunctions f ts
AreFunctions-no_number f ts (plain r) = r

record ReadsMore (behind : Bool) (f : Forms) (found ts : List Signature) : Type 0 where
  own : List Signature
  are : AreMore behind f own
  all : ts ≡ found ++ own

-- from what is read after `- number`
ReadsMore-numbers : (at b : ℕ) (w v : FormWord) (rest : Forms) (found ts : List Signature) (n : List ℕ)
    → w ≡ Operator Minus → v ≡ Name n → n ≡ codes "number" → ReadsMore false rest found ts
    → ReadsMore true (word at w (word b v rest)) found ts
ReadsMore-numbers at b w v rest found ts n minus name number q =
    let whole : word at (Operator Minus) (word b (Name (codes "number")) rest) ≡ word at w (word b v rest) = cc in
    record {
      own = q.own;
      are = subst (λ (y : Forms). AreMore true y q.own) whole (numbers (AreFunctions-no_number rest q.own q.are));
      all = q.all;
    }

ReadsMore-functions_after : (behind : Bool) (f : Forms) (found ts : List Signature) → functions_after behind f found ≡ Some ts
    → ReadsMore behind f found ts
unfolding functions_after
ReadsMore-functions_after behind none found ts e =
    record { own = []; are = plain g.end; all = sym (same_Some found ts e) ∙ sym (append-nil found) }
ReadsMore-functions_after behind (list a inside b rest) found ts e =
    let s = bind_some (signature_of inside) (λ t. functions_after true rest (found ++ t ∷ [])) ts e in
    let q = ReadsMore-functions_after true rest (found ++ s.0 ∷ []) ts s.2 in
    record {
      own = s.0 ∷ q.own;
      are = plain (AreFunctions-before a b inside rest s.0 q.own (IsSignature-signature_of inside s.0 s.1) q.are);
      all = q.all ∙ append_assoc found (s.0 ∷ []) q.own;
    }
ReadsMore-functions_after behind (word at w none) found ts e =
    let t = cond_then_some (is_minus_term w && behind) (numbers_after none found) ts e in
    let wrong = t.1 in
    absurd cc
ReadsMore-functions_after behind (word at w (list a inside b rest)) found ts e =
    let t = cond_then_some (is_minus_term w && behind) (numbers_after (list a inside b rest) found) ts e in
    let wrong = t.1 in
    absurd cc
ReadsMore-functions_after behind (word at w (word b v rest)) found ts e =
    let t = cond_then_some (is_minus_term w && behind) (numbers_after (word b v rest) found) ts e in
    let two = and_parts (is_minus_term w) behind t.0 in
    let s =
    bind_some (name_in v) (λ n. cond (bytes_eq n (codes "number")) (functions_after false rest found) None) ts t.1 in
    let u = cond_then_some (bytes_eq s.0 (codes "number")) (functions_after false rest found) ts s.2 in
    let q = ReadsMore-functions_after false rest found ts u.1 in
    let made = ReadsMore-numbers at b w v rest found ts s.0 (is_minus_term-true w two.0) (name_in-some v s.0 s.1)
    ((bytes_eq-Decides s.0 (codes "number")).0 u.0) q in
    subst (λ (c : Bool). ReadsMore c (word at w (word b v rest)) found ts) (sym two.1) made

AreFunctions-functions_of : (f : Forms) (ts : List Signature) → functions_of f ≡ Some ts → AreFunctions f ts
unfolding functions_of
AreFunctions-functions_of f ts e =
    let q = ReadsMore-functions_after false f [] ts e in
    subst (AreFunctions f) (sym q.all) (AreFunctions-no_number f q.own q.are)

HasItems-functions_at : (f : Forms) (y : List Signature × Forms) → functions_at f ≡ Some y
    → HasItems AreFunctions (codes "functions") f y.0 y.1
unfolding functions_at
HasItems-functions_at f y e =
    HasItems-items_or functions_of AreFunctions-functions_of (codes "functions") f y (section_at (codes "functions") f) refl e

-- ---- actions

HasPart-condition_or : (f : Forms) (r : Option Forms) (y : List Condition × Forms)
    → forms_behind_keyword (codes "precondition") f ≡ r → condition_or r f ≡ Some y
    → HasPart AreConditions (codes "precondition") f y.0 y.1
HasPart-condition_or f (Some rest) y is e =
    let k = forms_behind_keyword-some (codes "precondition") f rest is in
    let c = IsConditionAt-condition_at rest y e in
    let whole : word k.0 (Keyword (codes "precondition")) (list c.from c.inside c.to y.1) ≡ f =
    ap (word k.0 (Keyword (codes "precondition"))) c.whole ∙ sym k.1 in
    let made : HasPart AreConditions (codes "precondition")
    (word k.0 (Keyword (codes "precondition")) (list c.from c.inside c.to y.1)) y.0 y.1 = x.present c.are in
    subst (λ (z : Forms). HasPart AreConditions (codes "precondition") z y.0 y.1) whole made
HasPart-condition_or f None y is e =
    subst (λ (z : List Condition × Forms). HasPart AreConditions (codes "precondition") f z.0 z.1) (same_Some ([], f) y e) x.absent

HasPart-precondition_at : (f : Forms) (y : List Condition × Forms) → precondition_at f ≡ Some y
    → HasPart AreConditions (codes "precondition") f y.0 y.1
unfolding precondition_at
HasPart-precondition_at f y e = HasPart-condition_or f (forms_behind_keyword (codes "precondition") f) y refl e

HasPart-effect_or : (f : Forms) (r : Option Forms) (y : List Effect × Forms)
    → forms_behind_keyword (codes "effect") f ≡ r → effect_or r f ≡ Some y
    → HasPart AreEffects (codes "effect") f y.0 y.1
HasPart-effect_or f (Some rest) y is e =
    let k = forms_behind_keyword-some (codes "effect") f rest is in
    let c = IsEffectAt-effect_at rest y e in
    let whole : word k.0 (Keyword (codes "effect")) (list c.from c.inside c.to y.1) ≡ f =
    ap (word k.0 (Keyword (codes "effect"))) c.whole ∙ sym k.1 in
    let made : HasPart AreEffects (codes "effect")
    (word k.0 (Keyword (codes "effect")) (list c.from c.inside c.to y.1)) y.0 y.1 = x.present c.are in
    subst (λ (z : Forms). HasPart AreEffects (codes "effect") z y.0 y.1) whole made
HasPart-effect_or f None y is e =
    subst (λ (z : List Effect × Forms). HasPart AreEffects (codes "effect") f z.0 z.1) (same_Some ([], f) y e) x.absent

HasPart-action_effect_at : (f : Forms) (y : List Effect × Forms) → action_effect_at f ≡ Some y
    → HasPart AreEffects (codes "effect") f y.0 y.1
unfolding action_effect_at
HasPart-action_effect_at f y e = HasPart-effect_or f (forms_behind_keyword (codes "effect") f) y refl e

-- an action's forms, up to what stands after its parameters
abbrev action_forms : ℕ → NameAt → ℕ → ℕ → Forms → ℕ → Forms → Forms
action_forms a n b c parameters d more =
    word a (Keyword (codes "action")) (word n.at (Name n.name) (word b (Keyword (codes "parameters")) (list c parameters d more)))

-- the head of an action
record IsHead (f : Forms) (n : NameAt) (vs : List Typed) (more : Forms) : Type 0 where
  a : ℕ
  b : ℕ
  c : ℕ
  d : ℕ
  parameters : Forms
  whole : action_forms a n b c parameters d more ≡ f
  are : AreTyped kinds.Variable parameters vs

abbrev a3 : NameAt → Forms × Forms → Option (NameAt × List Typed × Forms)
a3 n y = typed_after kinds.Variable y.0 [] [] >>= λ vs. Some (n, vs, y.1)

abbrev a2 : NameAt → Forms → Option (NameAt × List Typed × Forms)
a2 n f = group_at f >>= a3 n

abbrev a1 : NameAt × Forms → Option (NameAt × List Typed × Forms)
a1 y = forms_behind_keyword (codes "parameters") y.1 >>= a2 y.0

abbrev a0 : Forms → Option (NameAt × List Typed × Forms)
a0 f = name_at f >>= a1

IsHead-action_head_at : (f : Forms) (y : NameAt × List Typed × Forms) → action_head_at f ≡ Some y → IsHead f y.0 y.1 y.2
unfolding action_head_at
IsHead-action_head_at f y e =
    let s0 = bind_some (forms_behind_keyword (codes "action") f) a0 y e in
    let s1 = bind_some (name_at s0.0) a1 y s0.2 in
    let s2 = bind_some (forms_behind_keyword (codes "parameters") s1.0.1) (a2 s1.0.0) y s1.2 in
    let s3 = bind_some (group_at s2.0) (a3 s1.0.0) y s2.2 in
    let s4 = bind_some (typed_after kinds.Variable s3.0.0 [] []) (λ vs. Some (s1.0.0, vs, s3.0.1)) y s3.2 in
    let head = forms_behind_keyword-some (codes "action") f s0.0 s0.1 in
    let its_name = name_at-some s0.0 s1.0 s1.1 in
    let parameters = forms_behind_keyword-some (codes "parameters") s1.0.1 s2.0 s2.1 in
    let group = group_at-some s2.0 s3.0 s3.1 in
    let whole : action_forms head.0 s1.0.0 parameters.0 group.0 s3.0.0 group.1 s3.0.1 ≡ f = cc in
    let made : IsHead f s1.0.0 s4.0 s3.0.1 =
    record {
      a = head.0;
      b = parameters.0;
      c = group.0;
      d = group.1;
      parameters = s3.0.0;
      whole = whole;
      are = AreTyped-typed_after kinds.Variable s3.0.0 s4.0 s4.1;
    } in
    subst (λ (z : NameAt × List Typed × Forms). IsHead f z.0 z.1 z.2) (same_Some (s1.0.0, s4.0, s3.0.1) y s4.2) made

abbrev t1 : NameAt → List Typed → List Condition → List Effect × Forms → Option Action
t1 n vs pre eff = end_at eff.1 >>= λ _. Some (made_action n vs pre eff.0)

abbrev t0 : NameAt → List Typed → List Condition × Forms → Option Action
t0 n vs pre = action_effect_at pre.1 >>= t1 n vs pre.0

IsAction-action_of : (f : Forms) (t : Action) → action_of f ≡ Some t → IsAction f t
unfolding action_of
IsAction-action_of f t e =
    let h = bind_some (action_head_at f) (λ y. precondition_at y.2 >>= t0 y.0 y.1) t e in
    let p = bind_some (precondition_at h.0.2) (t0 h.0.0 h.0.1) t h.2 in
    let q = bind_some (action_effect_at p.0.1) (t1 h.0.0 h.0.1 p.0.0) t p.2 in
    let r = bind_some (end_at q.0.1) (λ _. Some (made_action h.0.0 h.0.1 p.0.0 q.0.0)) t q.2 in
    let head = IsHead-action_head_at f h.0 h.1 in
    let its = made_action h.0.0 h.0.1 p.0.0 q.0.0 in
    let effect : HasPart AreEffects (codes "effect") p.0.1 q.0.0 none =
    subst (HasPart AreEffects (codes "effect") p.0.1 q.0.0) (end_at-some q.0.1 r.0 r.1) (HasPart-action_effect_at p.0.1 q.0 q.1) in
    let made : IsAction (action_forms head.a h.0.0 head.b head.c head.parameters head.d h.0.2) its =
    g.action head.are (HasPart-precondition_at h.0.2 p.0 p.1) effect in
    subst (IsAction f) (same_Some its t r.2) (subst (λ (y : Forms). IsAction y its) head.whole made)

AreActions-actions_after : (f : Forms) (found ts : List Action) → actions_after f found ≡ Some ts
    → (ms : List Action) × AreActions f ms × (ts ≡ found ++ ms)
unfolding actions_after
AreActions-actions_after none found ts e = ([], g.end, sym (same_Some found ts e) ∙ sym (append-nil found))
AreActions-actions_after (word at w rest) found ts e = absurd cc
AreActions-actions_after (list a inside b rest) found ts e =
    let s = bind_some (action_of inside) (λ t. actions_after rest (found ++ t ∷ [])) ts e in
    let q = AreActions-actions_after rest (found ++ s.0 ∷ []) ts s.2 in
    (s.0 ∷ q.0, g.one (IsAction-action_of inside s.0 s.1) q.1, q.2 ∙ append_assoc found (s.0 ∷ []) q.0)

-- ---- domains

abbrev d5 : NameAt → List Typed → List Typed → List Signature → List Signature × Forms → Option DomainAst
d5 n ts cs ps fs = actions_after fs.1 [] >>= λ acts. Some (made_domain n ts cs ps fs.0 acts)

abbrev d4 : NameAt → List Typed → List Typed → List Signature × Forms → Option DomainAst
d4 n ts cs ps = functions_at ps.1 >>= d5 n ts cs ps.0

abbrev d3 : NameAt → List Typed → List Typed × Forms → Option DomainAst
d3 n ts cs = predicates_at cs.1 >>= d4 n ts cs.0

abbrev d2 : NameAt → List Typed × Forms → Option DomainAst
d2 n ts = names_at (codes "constants") ts.1 >>= d3 n ts.0

abbrev d1 : NameAt → Forms → Option DomainAst
d1 n f = names_at (codes "types") f >>= d2 n

abbrev d0 : NameAt × Forms → Option DomainAst
d0 head = behind_requirements head.1 >>= d1 head.0

IsDomain-domain_in : (f inside : Forms) (t : DomainAst) (a b : ℕ) → f ≡ list a inside b none → domain_in inside ≡ Some t
    → IsDomain f t
unfolding domain_in
IsDomain-domain_in f inside t a b outer e =
    let s0 = bind_some (head_at (codes "domain") inside) d0 t e in
    let s1 = bind_some (behind_requirements s0.0.1) (d1 s0.0.0) t s0.2 in
    let s2 = bind_some (names_at (codes "types") s1.0) (d2 s0.0.0) t s1.2 in
    let s3 = bind_some (names_at (codes "constants") s2.0.1) (d3 s0.0.0 s2.0.0) t s2.2 in
    let s4 = bind_some (predicates_at s3.0.1) (d4 s0.0.0 s2.0.0 s3.0.0) t s3.2 in
    let s5 = bind_some (functions_at s4.0.1) (d5 s0.0.0 s2.0.0 s3.0.0 s4.0.0) t s4.2 in
    let s6 =
    bind_some (actions_after s5.0.1 []) (λ acts. Some (made_domain s0.0.0 s2.0.0 s3.0.0 s4.0.0 s5.0.0 acts)) t s5.2 in
    let acts = AreActions-actions_after s5.0.1 [] s6.0 s6.1 in
    let its = made_domain s0.0.0 s2.0.0 s3.0.0 s4.0.0 s5.0.0 s6.0 in
    let is : IsDomain f its =
    g.domain (IsDefinition-head_at (codes "domain") f inside s0.0 a b outer s0.1) (SkipsRequirements-behind_requirements s0.0.1 s1.0 s1.1)
    (HasItems-names_at (codes "types") s1.0 s2.0 s2.1) (HasItems-names_at (codes "constants") s2.0.1 s3.0 s3.1)
    (HasItems-predicates_at s3.0.1 s4.0 s4.1) (HasItems-functions_at s4.0.1 s5.0 s5.1)
    (subst (AreActions s5.0.1) (sym acts.2) acts.1) in
    subst (IsDomain f) (same_Some its t s6.2) is

pub IsDomain-domain_of : (f : Forms) (t : DomainAst) → domain_of f ≡ Some t → IsDomain f t
unfolding domain_of
IsDomain-domain_of f t e =
    let s0 = bind_some (group_at f) (λ y. domain_in y.0 >>= λ tree. end_at y.1 >>= λ _. Some tree) t e in
    let s1 = bind_some (domain_in s0.0.0) (λ tree. end_at s0.0.1 >>= λ _. Some tree) t s0.2 in
    let s2 = bind_some (end_at s0.0.1) (λ _. Some s1.0) t s1.2 in
    let p = group_at-some f s0.0 s0.1 in
    let outer : f ≡ list p.0 s0.0.0 p.1 none = p.2 ∙ ap (list p.0 s0.0.0 p.1) (end_at-some s0.0.1 s2.0 s2.1) in
    subst (IsDomain f) (same_Some s1.0 t s2.2) (IsDomain-domain_in f s0.0.0 s1.0 p.0 p.1 outer s1.1)
