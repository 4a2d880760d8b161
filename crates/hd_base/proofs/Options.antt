-- Options: what the value of a test, or of the first of two options, reports.
use Rattle.std.proofs.Common.{◌≡◌, Bool, true, false, cond, Option, Some, None, is_some, refl, sym, true≢false}
use Rattle.std.specs.Option.{option_or, IsSomeAnd, unwrap_or}
use Rattle.std.proofs.lemmas.Option.{none-some}

pub option_or_none : {A : Type 0} (a b : Option A) → option_or a b ≡ None → (a ≡ None) × (b ≡ None)
option_or_none (Some x) b e = absurd (none-some x (sym e))
option_or_none None b e = (refl, e)

pub IsSomeAnd-weaker : {X : Type 0} (P Q : X → Type 0) (o : Option X) → ((x : X) → P x → Q x) → IsSomeAnd o P → IsSomeAnd o Q
IsSomeAnd-weaker P Q None f h = h
IsSomeAnd-weaker P Q (Some x) f h = f x h

pub cond_then_some : {A : Type 0} (b : Bool) (o : Option A) (y : A) → cond b o None ≡ Some y → (b ≡ true) × (o ≡ Some y)
cond_then_some true o y e = (refl, e)
cond_then_some false o y e = absurd (none-some y e)

pub cond_else_some : {A : Type 0} (b : Bool) (o : Option A) (y : A) → cond b None o ≡ Some y → (b ≡ false) × (o ≡ Some y)
cond_else_some true o y e = absurd (none-some y e)
cond_else_some false o y e = (refl, e)

pub true-from_none : {A : Type 0} (b : Bool) (x : A) → cond b None (Some x) ≡ None → b ≡ true
true-from_none true x e = refl
true-from_none false x e = absurd (none-some x (sym e))

pub false-from_none : {A : Type 0} (b : Bool) (x : A) → cond b (Some x) None ≡ None → b ≡ false
false-from_none true x e = absurd (none-some x (sym e))
false-from_none false x e = refl

pub some-unwrap_or : {A : Type 0} (o : Option A) (d : A) → is_some o ≡ true → o ≡ Some (unwrap_or o d)
some-unwrap_or None d e = absurd (true≢false (sym e))
some-unwrap_or (Some x) d e = refl
