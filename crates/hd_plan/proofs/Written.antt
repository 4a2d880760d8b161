-- What is written is read back.
use Rattle.std.proofs.Common.{◌≡◌, ℕ, ◌+◌, ◌<◌, ◌^◌, List, [], ◌∷◌, ◌++◌, length, flat_map, Bool, true, refl, sym, ap, subst, ◌∙◌, append_assoc, arith, rules}
use Rattle.std.specs.Prelude.{codes, decimal}
use Rattle.std.specs.Char.{is_ascii_alphabetic, is_ascii_digit}
use Rattle.std.specs.Str.Parse.{digits_value}
use Rattle.std.specs.List.{list_all, AllByRecursion, AllZip}
use Rattle.std.proofs.lemmas.Bool.{and_parts, and_from}
use Rattle.std.proofs.lemmas.Bool.Decides.{nat_tests}
use Rattle.std.proofs.lemmas.List.{append-nil}
use Rattle.std.proofs.lemmas.List.Folds.{list_all-append}
use Rattle.std.proofs.lemmas.Fmt.{digits_decimal}
use Rattle.std.proofs.lemmas.Str.Parse.{IsNumeralModel, numerals_by_value}
use Rattle.hd_lex.specs.declared.byte.Class.TheVariants as classes
use Rattle.hd_lex.specs.declared.token.Token.{Token}
use Rattle.hd_lex.specs.declared.token.Word.{Word}
use Rattle.hd_lex.specs.declared.token.Word.TheVariants as words
use Rattle.hd_lex.specs.Byte.{class_of, is_word, is_word_byte, is_name_byte, is_line_byte}
use Rattle.hd_lex.specs.Text as lexer
use Rattle.hd_lex.specs.Text.{Placed, IsEnd, IsRun, AreWords, IsTokenOf}
use Rattle.hd_lex.specs.Word as table
use Rattle.hd_lex.specs.Word.{is_name, IsSign}
use Rattle.hd_plan.specs.declared.step.Step.{Step}
use Rattle.hd_plan.specs.PlanText.{arg_text, step_text, step_line, cost_line, plan_text}
use Rattle.hd_plan.specs.Reading.{token_words}
use Rattle.hd_plan.specs.Text as texts
use Rattle.hd_plan.specs.Text.{is_plain_byte, step_words, IsSilent, IsStepLine, IsLowerName, IsStep, ReadsAs}
use Rattle.hd_plan.proofs.Shapes.{closed}

-- ---- the bytes of a step

name_byte-class : (x : ℕ) → is_name_byte x ≡ true → class_of x ≡ classes.Word
name_byte-class x e = grind (arith, nat_tests)

name_byte-word : (x : ℕ) → is_name_byte x ≡ true → is_word_byte x ≡ true
name_byte-word x e = ap is_word (name_byte-class x e)

name_byte-line : (x : ℕ) → is_name_byte x ≡ true → is_line_byte x ≡ true
name_byte-line x e = grind (arith, nat_tests)

name_byte-plain : (x : ℕ) → is_name_byte x ≡ true → is_plain_byte x ≡ true
name_byte-plain x e = grind (arith, nat_tests)

digit-line : (x : ℕ) → is_ascii_digit x ≡ true → is_line_byte x ≡ true
digit-line x e = grind (arith, nat_tests)

letter-name_byte : (x : ℕ) → is_ascii_alphabetic x ≡ true → is_name_byte x ≡ true
letter-name_byte x e = grind (arith, nat_tests)

-- all pass a test that is weaker
all_weaker : (p q : ℕ → Bool) → ((x : ℕ) → p x ≡ true → q x ≡ true) → (xs : List ℕ) → list_all p xs ≡ true → list_all q xs ≡ true
all_weaker p q weaker [] e = refl
all_weaker p q weaker (x ∷ xs) e =
    let parts = and_parts (p x) (list_all p xs) e in
    and_from _ _ (weaker x parts.0) (all_weaker p q weaker xs parts.1)

all_both : (p : ℕ → Bool) (xs ys : List ℕ) → list_all p xs ≡ true → list_all p ys ≡ true → list_all p (xs ++ ys) ≡ true
all_both p xs ys e f = list_all-append p xs ys ∙ and_from _ _ e f

-- a test that the bytes of steps pass
record IsWide (p : ℕ → Bool) : Type 0 where
  pub names : (x : ℕ) → is_name_byte x ≡ true → p x ≡ true
  pub opening : p 40 ≡ true
  pub closing : p 41 ≡ true
  pub space : p 32 ≡ true

name_all : (p : ℕ → Bool) → ((x : ℕ) → is_name_byte x ≡ true → p x ≡ true) → (name : List ℕ) → is_name name ≡ true
    → list_all p name ≡ true
name_all p wide [] e = refl
name_all p wide (x ∷ xs) e =
    let parts = and_parts (is_ascii_alphabetic x) (list_all is_name_byte xs) e in
    and_from _ _ (wide x (letter-name_byte x parts.0)) (all_weaker is_name_byte p wide xs parts.1)

args_all : (p : ℕ → Bool) → IsWide p → (args : List (List ℕ)) → AllByRecursion IsLowerName args
    → list_all p (flat_map arg_text args ++ (41 ∷ [])) ≡ true
args_all p wide [] are = and_from _ _ wide.closing refl
args_all p wide (a ∷ rest_args) are =
    let front : list_all p (arg_text a) ≡ true = and_from _ _ wide.space (name_all p wide.names a are.0.spelled) in
    let rest : list_all p (flat_map arg_text rest_args ++ (41 ∷ [])) ≡ true = args_all p wide rest_args are.1 in
    ap (list_all p) (append_assoc (arg_text a) (flat_map arg_text rest_args) (41 ∷ [])) ∙ all_both p (arg_text a) _ front rest

-- a step, its parenthesis first
step_shape : (s : Step) → step_text s ≡ 40 ∷ (s.name ++ (flat_map arg_text s.args ++ (41 ∷ [])))
step_shape s = append_assoc (codes "(" ++ s.name) (flat_map arg_text s.args) (41 ∷ [])

step_all : (p : ℕ → Bool) → IsWide p → (s : Step) → IsStep s → list_all p (step_text s) ≡ true
step_all p wide s is =
    ap (list_all p) (step_shape s)
    ∙ and_from _ _ wide.opening
    (all_both p s.name (flat_map arg_text s.args ++ (41 ∷ [])) (name_all p wide.names s.name is.name.spelled) (args_all p wide s.args is.args))

-- ---- the words of a step

-- the text from this place on has just these words
record Has (at : ℕ) (text : List ℕ) (said : List Word) : Type 0 where
  pub words : List Placed
  pub tokens : List Token
  pub are_words : AreWords at text words
  pub each : AllZip IsTokenOf words tokens
  pub are : token_words tokens ≡ said

has_nothing : (at : ℕ) → Has at [] []
has_nothing at = record { words = []; tokens = []; are_words = lexer.nothing; each = tt; are = refl }

has_parenthesis : (at x : ℕ) (w : Word) (rest : List ℕ) (said : List Word) → class_of x ≡ classes.Parenthesis
    → IsSign (x ∷ []) w → Has (at + 1) rest said → Has at (x ∷ rest) (w ∷ said)
has_parenthesis at x w rest said is sign more = record {
  words = record { at = at; bytes = x ∷ [] } ∷ more.words;
  tokens = record { from = at; to = at + 1; word = w } ∷ more.tokens;
  are_words = lexer.parenthesis is more.are_words;
  each = (record { from = refl; to = refl; word = table.IsWord.sign sign }, more.each);
  are = ap (λ (l : List Word). w ∷ l) more.are;
}

-- a name has a byte
name-some : (name : List ℕ) → is_name name ≡ true → 0 < length name
name-some [] e = absurd cc
name-some (x ∷ xs) e = omega arith

has_name : (at : ℕ) (name rest : List ℕ) (said : List Word) → IsLowerName name → IsEnd is_word_byte rest
    → Has (at + length name) rest said → Has at (name ++ rest) (words.Name name ∷ said)
has_name at name rest said is end more =
    let run : IsRun is_word_byte (name ++ rest) name rest =
    record { parts = refl; all = name_all is_word_byte name_byte-word name is.spelled; longest = end } in
    record {
      words = record { at = at; bytes = name } ∷ more.words;
      tokens = record { from = at; to = at + length name; word = words.Name name } ∷ more.tokens;
      are_words = lexer.word (name-some name is.spelled) run more.are_words;
      each = (record { from = refl; to = refl; word = table.IsWord.name is }, more.each);
      are = ap (λ (l : List Word). words.Name name ∷ l) more.are;
    }

has_space : (at : ℕ) (rest : List ℕ) (said : List Word) → Has (at + 1) rest said → Has at (32 ∷ rest) said
has_space at rest said more = record {
  words = more.words;
  tokens = more.tokens;
  are_words = lexer.blank refl more.are_words;
  each = more.each;
  are = more.are;
}

args-end : (args : List (List ℕ)) → IsEnd is_word_byte (flat_map arg_text args ++ (41 ∷ []))
args-end [] = refl
args-end (a ∷ rest_args) = refl

has_args : (at : ℕ) (args : List (List ℕ)) → AllByRecursion IsLowerName args
    → Has at (flat_map arg_text args ++ (41 ∷ [])) (closed args)
has_args at [] are = has_parenthesis at 41 words.CloseParenthesis [] [] refl table.close_parenthesis (has_nothing (at + 1))
has_args at (a ∷ rest_args) are =
    let rest : List ℕ = flat_map arg_text rest_args ++ (41 ∷ []) in
    let more = has_args (at + 1 + length a) rest_args are.1 in
    let name = has_name (at + 1) a rest (closed rest_args) are.0 (args-end rest_args) more in
    subst (λ (t : List ℕ). Has at t (closed (a ∷ rest_args))) (sym (append_assoc (arg_text a) (flat_map arg_text rest_args) (41 ∷ [])))
    (has_space at (a ++ rest) (closed (a ∷ rest_args)) name)

has_step : (s : Step) → IsStep s → Has 0 (step_text s) (step_words s)
has_step s is =
    let rest : List ℕ = flat_map arg_text s.args ++ (41 ∷ []) in
    let args = has_args (0 + 1 + length s.name) s.args is.args in
    subst (λ (t : List ℕ). Has 0 t (step_words s)) (sym (step_shape s))
    (has_parenthesis 0 40 words.OpenParenthesis (s.name ++ rest) (words.Name s.name ∷ closed s.args) refl table.open_parenthesis
    (has_name (0 + 1) s.name rest (closed s.args) is.name (args-end s.args) args))

step-is_line : (s : Step) → IsStep s → IsStepLine (step_text s) s
step-is_line s is =
    let has = has_step s is in
    record {
      tokens = has.tokens;
      are_tokens = record { words = has.words; are_words = has.are_words; each = has.each };
      are_words = has.are;
      plain = step_all is_plain_byte (record { names = name_byte-plain; opening = refl; closing = refl; space = refl }) s is;
    }

step-one_line : (s : Step) → IsStep s → list_all is_line_byte (step_text s) ≡ true
step-one_line s is =
    step_all is_line_byte (record { names = name_byte-line; opening = refl; closing = refl; space = refl }) s is

-- ---- the line of the cost

numerals : IsNumeralModel (λ ds. list_all is_ascii_digit ds ≡ true) (digits_value 10)
numerals = numerals_by_value _ (search rules)

-- what stands after the semicolon
abbrev cost_words : ℕ → List ℕ
cost_words cost = codes " cost = " ++ decimal cost

cost-one_line : (cost : ℕ) → cost < 2 ^ 64 → list_all is_line_byte (cost_words cost) ≡ true
cost-one_line cost small =
    all_both is_line_byte (codes " cost = ") (decimal cost) refl
    (all_weaker is_ascii_digit is_line_byte digit-line (decimal cost) (digits_decimal numerals cost small))

cost-silent : (cost : ℕ) → cost < 2 ^ 64 → IsSilent (59 ∷ cost_words cost)
cost-silent cost small = record {
  words = [];
  are_words = lexer.comment {line = cost_words cost} refl
      (record { parts = sym (append-nil (cost_words cost)); all = cost-one_line cost small; longest = tt }) lexer.nothing;
  each = tt;
}

cost_line-reads : (cost : ℕ) → cost < 2 ^ 64 → ReadsAs (cost_line cost) []
cost_line-reads cost small =
    let line : List ℕ = 59 ∷ cost_words cost in
    let same : line ++ (10 ∷ []) ≡ cost_line cost = refl in
    let first : texts.IsFirstLine (line ++ (10 ∷ [])) line [] = texts.ended (cost-one_line cost small) in
    subst (λ (t : List ℕ). ReadsAs t []) same (texts.silent first (cost-silent cost small) texts.nothing)

-- ---- the text of a plan

pub plan_text_reads : (steps : List Step) (cost : ℕ) → cost < 2 ^ 64 → AllByRecursion IsStep steps
    → ReadsAs (plan_text steps cost) steps
plan_text_reads [] cost small are = cost_line-reads cost small
plan_text_reads (s ∷ ss) cost small are =
    let rest : List ℕ = flat_map step_line ss in
    let behind : List ℕ = rest ++ cost_line cost in
    let split : plan_text (s ∷ ss) cost ≡ step_text s ++ (10 ∷ behind) =
    append_assoc (step_line s) rest (cost_line cost) ∙ append_assoc (step_text s) (10 ∷ []) behind in
    let first : texts.IsFirstLine (step_text s ++ (10 ∷ behind)) (step_text s) behind = texts.ended (step-one_line s are.0) in
    subst (λ (t : List ℕ). ReadsAs t (s ∷ ss)) (sym split)
    (texts.step first (step-is_line s are.0) (plan_text_reads ss cost small are.1))
