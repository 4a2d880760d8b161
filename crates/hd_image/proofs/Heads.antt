-- Headers: where one stands, and that it is the only one.
use Rattle.std.proofs.Common.{◌≡◌, ◌≢◌, inl, inr, ℕ, ◌+◌, ◌-◌, ◌<◌, ◌≤◌, ◌==◌, ◌↔◌, true, false, true≢false, List, [], ◌∷◌, ◌++◌, length, drop, slice_index, slice_range, refl, sym, ap, ap₂, ◌∙◌, subst, arith}
use Rattle.std.specs.Prelude.{codes}
use Rattle.std.proofs.lemmas.Bool.{eqb-true}
use Rattle.std.proofs.lemmas.List.{length-append, length-take, length-drop, take-append-drop, take_at, drop_at}
use Rattle.hd_image.specs.declared.version.Version.{Version}
use Rattle.hd_image.specs.declared.header.TheConstants.{FIRST_GATE}
use Rattle.hd_image.specs.Image.{version_byte}
use Rattle.hd_image.specs.Reading.{IsHalfMade, IsHead, IsHeaded}
use Rattle.hd_image.proofs.Numbering.{version_one}

-- ---- a header that was being made

pub half_made : (content : List ℕ) → 1 < length content → length content ≤ 39 → slice_index content 0 ≡ 0 → IsHalfMade content
half_made [] some short closed = absurd (omega (arith, some))
half_made (b ∷ rest) some short closed =
    record { rest = rest; closed = ap (λ (c : ℕ). c ∷ rest) closed; some = omega (arith, some); short = omega (arith, short) }

pub not_half_short : (content : List ℕ) → length content < 2 → ¬ IsHalfMade content
not_half_short content short h = let size = ap length h.closed in let some = h.some in omega (arith, short, size, some)

pub not_half_long : (content : List ℕ) → 39 < length content → ¬ IsHalfMade content
not_half_long content long h = let size = ap length h.closed in let short = h.short in omega (arith, long, size, short)

pub half_closed : (content : List ℕ) → IsHalfMade content → slice_index content 0 ≡ 0
half_closed content h = ap (λ (xs : List ℕ). slice_index xs 0) h.closed

-- ---- tests

pub false_iff : {P : Type 0} → ¬ P → (false ≡ true) ↔ P
false_iff not = (λ e. absurd (true≢false (sym e)), λ p. absurd (not p))

pub true_iff : {P : Type 0} → P → (true ≡ true) ↔ P
true_iff p = (λ e. p, λ q. refl)

pub half_iff : (content : List ℕ) → 2 ≤ length content → length content ≤ 39 → ((slice_index content 0 == 0) ≡ true) ↔ IsHalfMade content
half_iff content some short =
    (λ e. half_made content (omega (arith, some)) short (eqb-true (slice_index content 0) 0 e), λ h. ap (λ (n : ℕ). n == 0) (half_closed content h))

pub head_closed : (head behind : ℕ) → head ≡ 0 → ¬ IsHead head behind
head_closed head behind closed gate = elim gate [ inl is ↦ let one = is.0 in omega (arith, closed, one) | inr is ↦ is.0 closed ]

pub head_iff : (head behind : ℕ) → head ≢ 1 → head ≢ 0 → ((behind == 1) ≡ true) ↔ IsHead head behind
head_iff head behind not_one not_null = (
  λ e. inr (not_null, not_one, eqb-true behind 1 e),
  λ gate. elim gate [ inl is ↦ absurd (not_one is.0) | inr is ↦ ap (λ (n : ℕ). n == 1) is.2 ],
)

-- ---- a header that stands at the front

pub behind_some : (head behind : ℕ) → IsHead head behind → 1 ≤ behind
behind_some head behind gate = elim gate [ inl is ↦ is.1 | inr opening ↦ let one = opening.2 in omega (arith, one) ]

-- what the bytes of a header are
pub record HeadBytes (content : List ℕ) (head : ℕ) (v : Version) (digest body : List ℕ) : Type 0 where
  pub long : FIRST_GATE < length content
  pub size : length content ≡ FIRST_GATE + length body
  pub gate_is : slice_index content 0 ≡ head
  pub letters : slice_range content 1 5 ≡ codes "HDPJ"
  pub version : slice_index content 5 ≡ version_byte v
  pub digest_is : slice_range content 6 FIRST_GATE ≡ digest
  pub body_is : drop FIRST_GATE content ≡ body

pub head_bytes : (content : List ℕ) (head : ℕ) (v : Version) (digest body : List ℕ) → IsHeaded content head v digest body
    → HeadBytes content head v digest body
head_bytes content head v digest body h =
    let whole = h.whole in
    let len = h.digest_len in
    let parts = length-append digest body in
    let sizes = ap length whole in
    let some = behind_some head (length body) h.gate in
    record {
      long = omega (arith, sizes, parts, len, some);
      size = omega (arith, sizes, parts, len);
      gate_is = ap (λ (xs : List ℕ). slice_index xs 0) whole;
      letters = ap (λ (xs : List ℕ). slice_range xs 1 5) whole;
      version = ap (λ (xs : List ℕ). slice_index xs 5) whole;
      digest_is = ap (λ (xs : List ℕ). slice_range xs 6 FIRST_GATE) whole ∙ take_at digest body 32 len;
      body_is = ap (λ (xs : List ℕ). drop FIRST_GATE xs) whole ∙ drop_at digest body 32 len;
    }

-- ---- no header

abbrev pub NoHead : List ℕ → Type 0
NoHead content = (head : ℕ) (v : Version) (digest body : List ℕ) → ¬ IsHeaded content head v digest body

pub no_head_short : (content : List ℕ) → length content ≤ FIRST_GATE → NoHead content
no_head_short content short head v digest body h = let long = (head_bytes content head v digest body h).long in omega (arith, short, long)

pub no_head_letters : (content : List ℕ) → slice_range content 1 5 ≢ codes "HDPJ" → NoHead content
no_head_letters content other head v digest body h = other (head_bytes content head v digest body h).letters

pub no_head_version : (content : List ℕ) → ((v : Version) → slice_index content 5 ≢ version_byte v) → NoHead content
no_head_version content none head v digest body h = none v (head_bytes content head v digest body h).version

pub no_head_gate : (content : List ℕ) → ¬ IsHead (slice_index content 0) (length content - FIRST_GATE) → NoHead content
no_head_gate content none head v digest body h =
    let bytes = head_bytes content head v digest body h in
    let size = bytes.size in
    let rest : length content - FIRST_GATE ≡ length body = omega (arith, size) in
    none (subst (λ (n : ℕ). IsHead (slice_index content 0) n) (sym rest) (subst (λ (g : ℕ). IsHead g (length body)) (sym bytes.gate_is) h.gate))

-- ---- a header from its parts

-- content in the parts of a header
pub split_head : (content : List ℕ) → FIRST_GATE < length content
    → content ≡ slice_index content 0
    ∷ (slice_range content 1 5 ++ slice_index content 5 ∷ (slice_range content 6 FIRST_GATE ++ drop FIRST_GATE content))
split_head [] long = absurd (omega (arith, long))
split_head (a ∷ []) long = absurd (omega (arith, long))
split_head (a ∷ b ∷ []) long = absurd (omega (arith, long))
split_head (a ∷ b ∷ c ∷ []) long = absurd (omega (arith, long))
split_head (a ∷ b ∷ c ∷ d ∷ []) long = absurd (omega (arith, long))
split_head (a ∷ b ∷ c ∷ d ∷ e ∷ []) long = absurd (omega (arith, long))
split_head (a ∷ b ∷ c ∷ d ∷ e ∷ f ∷ rest) long = ap (λ (xs : List ℕ). a ∷ b ∷ c ∷ d ∷ e ∷ f ∷ xs) (sym (take-append-drop 32 rest))

pub is_headed : (content : List ℕ) (v : Version) → FIRST_GATE < length content → slice_range content 1 5 ≡ codes "HDPJ"
    → slice_index content 5 ≡ version_byte v
    → IsHead (slice_index content 0) (length content - FIRST_GATE)
    → IsHeaded content (slice_index content 0) v (slice_range content 6 FIRST_GATE) (drop FIRST_GATE content)
is_headed content v long letters version gate = record {
  whole = split_head content long
      ∙ ap₂ (λ (xs : List ℕ) (b : ℕ). slice_index content 0 ∷
      (xs ++ b ∷ (slice_range content 6 FIRST_GATE ++ drop FIRST_GATE content))) letters version;
  digest_len = let behind = length-drop 6 content in let size = length-take 32 (drop 6 content) in omega (arith, behind, size, long);
  gate = subst (λ (n : ℕ). IsHead (slice_index content 0) n) (sym (length-drop FIRST_GATE content)) gate;
}

-- ---- one header

pub record SameHead (head : ℕ) (v : Version) (digest body : List ℕ) (head' : ℕ) (v' : Version) (digest' body' : List ℕ) : Type 0 where
  pub heads : head ≡ head'
  pub versions : v ≡ v'
  pub digests : digest ≡ digest'
  pub bodies : body ≡ body'

pub headed_one : (content : List ℕ) (head head' : ℕ) (v v' : Version) (digest digest' body body' : List ℕ) → IsHeaded content head v digest body
    → IsHeaded content head' v' digest' body'
    → SameHead head v digest body head' v' digest' body'
headed_one content head head' v v' digest digest' body body' h h' =
    let a = head_bytes content head v digest body h in
    let b = head_bytes content head' v' digest' body' h' in
    record {
      heads = sym a.gate_is ∙ b.gate_is;
      versions = version_one v v' (sym a.version ∙ b.version);
      digests = sym a.digest_is ∙ b.digest_is;
      bodies = sym a.body_is ∙ b.body_is;
    }
