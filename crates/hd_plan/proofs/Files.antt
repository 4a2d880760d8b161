-- What a whole text reads as, and its first bad line.
use Rattle.std.proofs.Common.{◌≡◌, ◌⊎◌, inl, inr, ℕ, zero, suc, ◌+◌, ◌-◌, ◌<◌, ◌≤◌, List, [], ◌∷◌, ◌++◌, length, take, drop, refl, sym, ap, ap₂, subst, ◌∙◌, append_assoc, arith, length-drop}
use Rattle.std.specs.List.{prefix_len}
use Rattle.std.proofs.lemmas.List.{append-nil, take_rest}
use Rattle.hd_lex.specs.Byte.{is_line_byte}
use Rattle.hd_plan.specs.declared.text_error.PlanTextError.{PlanTextError}
use Rattle.hd_plan.specs.declared.text_error.PlanTextError.TheVariants as errors
use Rattle.hd_plan.specs.declared.step.Step.{Step}
use Rattle.hd_plan.specs.Reading as reading
use Rattle.hd_plan.specs.Reading.{LineSays, Adds, IsPlanReadTo, IsLineFault}
use Rattle.hd_plan.specs.Text as texts
use Rattle.hd_plan.specs.Text.{IsSilent, IsStepLine, IsGoodLine, IsFirstLine, ReadsAs, IsFirstBadLine, IsPlanTextFault}
use Rattle.hd_plan.proofs.Lines.{step_unique, silent-no_step, line_decide, first-some, same_line, same_rest, first_line, first_cut}

-- nothing has a first line
nothing-first : {line rest : List ℕ} → IsFirstLine [] line rest → ⊥
nothing-first f = let some = first-some f in omega (arith, some)

-- ---- one answer

-- a text reads as one list of steps
pub reads_unique : {text : List ℕ} {a b : List Step} → ReadsAs text a → ReadsAs text b → a ≡ b
reads_unique texts.nothing texts.nothing = refl
reads_unique texts.nothing (texts.silent g t n) = absurd (nothing-first g)
reads_unique texts.nothing (texts.step g t n) = absurd (nothing-first g)
reads_unique (texts.silent f s m) texts.nothing = absurd (nothing-first f)
reads_unique (texts.step f s m) texts.nothing = absurd (nothing-first f)
reads_unique (texts.silent f s m) (texts.silent {steps = steps} g t n) =
    reads_unique m (subst (λ (r : List ℕ). ReadsAs r steps) (sym (same_rest f g)) n)
reads_unique (texts.silent f s m) (texts.step g t n) =
    absurd (silent-no_step (subst IsSilent (same_line f g) s) t)
reads_unique (texts.step f s m) (texts.silent g t n) =
    absurd (silent-no_step (subst IsSilent (same_line g f) t) s)
reads_unique (texts.step f s m) (texts.step {first = first} {steps = steps} g t n) =
    ap₂ (λ (x : Step) (xs : List Step). x ∷ xs)
    (step_unique s (subst (λ (l : List ℕ). IsStepLine l first) (sym (same_line f g)) t))
    (reads_unique m (subst (λ (r : List ℕ). ReadsAs r steps) (sym (same_rest f g)) n))

-- a text that reads as steps has no bad line
pub reads-no_bad : {text : List ℕ} {a : List Step} {n : ℕ} → ReadsAs text a → IsFirstBadLine text n → ⊥
reads-no_bad texts.nothing (texts.here g bad) = nothing-first g
reads-no_bad texts.nothing (texts.later g good more) = nothing-first g
reads-no_bad (texts.silent f s m) (texts.here g bad) = bad (inl (subst IsSilent (same_line f g) s))
reads-no_bad (texts.silent f s m) (texts.later {n = n} g good more) =
    reads-no_bad m (subst (λ (r : List ℕ). IsFirstBadLine r n) (sym (same_rest f g)) more)
reads-no_bad (texts.step {first = first} f s m) (texts.here g bad) =
    bad (inr (first, subst (λ (l : List ℕ). IsStepLine l first) (same_line f g) s))
reads-no_bad (texts.step f s m) (texts.later {n = n} g good more) =
    reads-no_bad m (subst (λ (r : List ℕ). IsFirstBadLine r n) (sym (same_rest f g)) more)

-- a text has one first bad line
pub bad_unique : {text : List ℕ} {a b : ℕ} → IsFirstBadLine text a → IsFirstBadLine text b → a ≡ b
bad_unique (texts.here f bad) (texts.here g worse) = refl
bad_unique (texts.here f bad) (texts.later g good more) = absurd (bad (subst IsGoodLine (same_line g f) good))
bad_unique (texts.later f good more) (texts.here g bad) = absurd (bad (subst IsGoodLine (same_line f g) good))
bad_unique (texts.later f good more) (texts.later {n = n} g well also) =
    ap (λ (k : ℕ). 1 + k) (bad_unique more (subst (λ (r : List ℕ). IsFirstBadLine r n) (sym (same_rest f g)) also))

-- ---- each text

-- a text reads as steps, or has a first bad line
pub record IsEither (text : List ℕ) : Type 0 where
  pub one : ((steps : List Step) × ReadsAs text steps) ⊎ ((n : ℕ) × IsFirstBadLine text n)

-- after a silent line
silent_first : {text line rest : List ℕ} → IsFirstLine text line rest → IsSilent line → IsEither rest → IsEither text
silent_first f s more =
    elim more.one [
      | inl reads ↦ record { one = inl (reads.0, texts.silent f s reads.1) }
      | inr bad ↦ record { one = inr (1 + bad.0, texts.later f (inl s) bad.1) }
    ]

-- after a step
step_first : {text line rest : List ℕ} (s : Step) → IsFirstLine text line rest → IsStepLine line s → IsEither rest → IsEither text
step_first s f is more =
    elim more.one [
      | inl reads ↦ record { one = inl (s ∷ reads.0, texts.step f is reads.1) }
      | inr bad ↦ record { one = inr (1 + bad.0, texts.later f (inr (s, is)) bad.1) }
    ]

line_first : {text line rest : List ℕ} → IsFirstLine text line rest → IsEither rest → IsEither text
line_first {line = line} f more =
    elim (line_decide line).one [
      | inl silent ↦ silent_first f silent more
      | inr other ↦ elim other [
        | inl step ↦ step_first step.0 f step.1 more
        | inr bad ↦ record { one = inr (1, texts.here f bad) }
      ]
    ]

-- after the first line less is left
rest_shorter : (text : List ℕ) (n k : ℕ) → 0 < length text → length text ≤ suc k → length (drop 1 (drop n text)) ≤ k
rest_shorter text n k some few = omega (arith, length-drop n text, length-drop 1 (drop n text))

either_within : (k : ℕ) (text : List ℕ) → length text ≤ k → IsEither text
either_within k [] few = record { one = inl ([], texts.nothing) }
either_within zero (x ∷ xs) few = absurd (omega arith)
either_within (suc k) (x ∷ xs) few =
    let n = prefix_len is_line_byte (x ∷ xs) in
    line_first (first_line (x ∷ xs) (omega arith))
    (either_within k (drop 1 (drop n (x ∷ xs))) (rest_shorter (x ∷ xs) n k (omega arith) few))

pub text_reads_or_bad : (text : List ℕ) → IsEither text
text_reads_or_bad text = either_within (length text) text (omega arith)

-- ---- the loop over lines

pub adds_silent : (line : List ℕ) (old : List Step) → IsSilent line → Adds line old old
adds_silent line old s = record { said = []; says = reading.silent s; added = sym (append-nil old) }

pub adds_step : (line : List ℕ) (old new : List Step) (s : Step) → IsStepLine line s → new ≡ old ++ (s ∷ []) → Adds line old new
adds_step line old new s is added = record { said = s ∷ []; says = reading.step is; added = added }

pub read_start : (text : List ℕ) → IsPlanReadTo text [] 0 text
read_start text = record {
  good = λ more reads. reads;
  bad = λ n bad. subst (IsFirstBadLine text) (omega arith) bad;
}

-- what a line says is good
says-good : {line : List ℕ} {said : List Step} → LineSays line said → IsGoodLine line
says-good (reading.silent s) = inl s
says-good (reading.step {s = s} is) = inr (s, is)

says-reads : {text line rest : List ℕ} {said more : List Step} → IsFirstLine text line rest → LineSays line said
    → ReadsAs rest more → ReadsAs text (said ++ more)
says-reads f (reading.silent s) reads = texts.silent f s reads
says-reads f (reading.step is) reads = texts.step f is reads

read_more : (text : List ℕ) (steps all : List Step) (number : ℕ) (rest line behind : List ℕ) (said : List Step)
    → IsPlanReadTo text steps number rest → IsFirstLine rest line behind → LineSays line said → all ≡ steps ++ said
    → IsPlanReadTo text all (number + 1) behind
read_more text steps all number rest line behind said so_far f says added = record {
  good = λ more reads.
      let same : steps ++ (said ++ more) ≡ all ++ more = sym (append_assoc steps said more) ∙ ap (λ l. l ++ more) (sym added) in
      subst (ReadsAs text) same (so_far.good (said ++ more) (says-reads f says reads));
  bad = λ n bad.
      let same : number + (1 + n) ≡ number + 1 + n = omega arith in
      subst (IsFirstBadLine text) same (so_far.bad (1 + n) (texts.later f (says-good says) bad));
}

-- the rest is empty: all is read
pub read_all : (text : List ℕ) (steps : List Step) (number : ℕ) (rest : List ℕ) → IsPlanReadTo text steps number rest
    → length rest ≡ 0 → ReadsAs text steps
read_all text steps number [] so_far none = subst (ReadsAs text) (append-nil steps) (so_far.good [] texts.nothing)
read_all text steps number (x ∷ xs) so_far none = absurd (omega (arith, none))

-- the fault of a line is that of the text
read_fault : (text : List ℕ) (steps : List Step) (number next : ℕ) (rest line behind : List ℕ) (error : PlanTextError)
    → IsPlanReadTo text steps number rest → IsFirstLine rest line behind → next ≡ number + 1 → IsLineFault line next error
    → (error ≡ errors.NoMemory) ⊎ IsPlanTextFault text error
read_fault text steps number next rest line behind errors.NoMemory so_far f is fault = inl refl
read_fault text steps number next rest line behind (errors.BadLine n) so_far f is fault =
    inr (subst (IsFirstBadLine text) (sym is ∙ sym fault.0) (so_far.bad 1 (texts.here f fault.1)))

-- a turn of the loop: what the first line of the rest says is added
pub read_turn : (text : List ℕ) (steps all : List Step) (number : ℕ) (rest : List ℕ) (len : ℕ)
    → IsPlanReadTo text steps number rest → 0 < length rest → len ≡ prefix_len is_line_byte rest → Adds (take len rest) steps all
    → IsPlanReadTo text all (number + 1) (drop 1 (take (length rest - len) (drop len rest)))
read_turn text steps all number rest len so_far some is adds =
    read_more text steps all number rest _ _ adds.said so_far (first_cut rest len some is) adds.says adds.added

-- its error is the fault of the text
pub read_refused : (text : List ℕ) (steps : List Step) (number : ℕ) (rest : List ℕ) (len : ℕ) (error : PlanTextError)
    → IsPlanReadTo text steps number rest → 0 < length rest → len ≡ prefix_len is_line_byte rest
    → IsLineFault (take len rest) (number + 1) error → (error ≡ errors.NoMemory) ⊎ IsPlanTextFault text error
read_refused text steps number rest len error so_far some is fault =
    read_fault text steps number (number + 1) rest _ _ error so_far (first_cut rest len some is) refl fault

-- less is left
pub read_less : (rest : List ℕ) (len : ℕ) → 0 < length rest → length (drop 1 (take (length rest - len) (drop len rest))) < length rest
read_less rest len some =
    let left : length (take (length rest - len) (drop len rest)) ≡ length (drop len rest) = ap length (take_rest rest len) in
    omega (arith, length-drop 1 (take (length rest - len) (drop len rest)), length-drop len rest, left)

-- ---- what is answered, and what is reported

-- a text that reads as steps is refused for lack of memory alone
pub good_refused : (text : List ℕ) (error : PlanTextError) (steps : List Step) → ReadsAs text steps
    → (error ≡ errors.NoMemory) ⊎ IsPlanTextFault text error → error ≡ errors.NoMemory
good_refused text errors.NoMemory steps reads told = refl
good_refused text (errors.BadLine n) steps reads (inl e) = e
good_refused text (errors.BadLine n) steps reads (inr bad) = absurd (reads-no_bad reads bad)

-- a text with a bad line is not answered
pub bad_answered : (text : List ℕ) (steps : List Step) (fault : PlanTextError) → IsPlanTextFault text fault → ReadsAs text steps → ⊥
bad_answered text steps errors.NoMemory is reads = is
bad_answered text steps (errors.BadLine n) is reads = reads-no_bad reads is

-- and told no other fault
pub bad_refused : (text : List ℕ) (error fault : PlanTextError) → IsPlanTextFault text fault
    → (error ≡ errors.NoMemory) ⊎ IsPlanTextFault text error → (error ≡ errors.NoMemory) ⊎ (error ≡ fault)
bad_refused text error errors.NoMemory is told = absurd is
bad_refused text errors.NoMemory (errors.BadLine n) is told = inl refl
bad_refused text (errors.BadLine m) (errors.BadLine n) is (inl e) = inl e
bad_refused text (errors.BadLine m) (errors.BadLine n) is (inr bad) = inr (ap (λ k. errors.BadLine k) (bad_unique bad is))
