-- The words of a step.
use Rattle.std.proofs.Common.{◌≡◌, List, [], ◌∷◌, ◌++◌, map, ℕ, Bool, true, false, ◌&&◌, Option, Some, None, refl, sym, ap, ap₂, ◌∙◌, append_assoc}
use Rattle.std.proofs.lemmas.Bool.{and_parts}
use Rattle.std.proofs.lemmas.Option.{same_Some}
use Rattle.hd_lex.specs.declared.token.Word.{Word}
use Rattle.hd_lex.specs.declared.token.Word.TheVariants as words
use Rattle.hd_plan.specs.declared.step.Step.{Step}
use Rattle.hd_plan.specs.Text.{step_words}
use Rattle.hd_plan.specs.Reading.{name_in, is_open, is_close, is_none, behind_args, args_by, args_of, step_by_name, step_of}

-- ---- single words

name_in-is : (w : Word) (n : List ℕ) → name_in w ≡ Some n → w ≡ words.Name n
name_in-is words.OpenParenthesis n e = absurd cc
name_in-is words.CloseParenthesis n e = absurd cc
name_in-is (words.Name m) n e = ap (λ x. words.Name x) (same_Some m n e)
name_in-is (words.Variable m) n e = absurd cc
name_in-is (words.Keyword m) n e = absurd cc
name_in-is (words.Number m) n e = absurd cc
name_in-is (words.SignedNumber m) n e = absurd cc
name_in-is (words.Operator m) n e = absurd cc

is_open-is : (w : Word) → is_open w ≡ true → w ≡ words.OpenParenthesis
is_open-is words.OpenParenthesis e = refl
is_open-is words.CloseParenthesis e = absurd cc
is_open-is (words.Name m) e = absurd cc
is_open-is (words.Variable m) e = absurd cc
is_open-is (words.Keyword m) e = absurd cc
is_open-is (words.Number m) e = absurd cc
is_open-is (words.SignedNumber m) e = absurd cc
is_open-is (words.Operator m) e = absurd cc

is_close-is : (w : Word) → is_close w ≡ true → w ≡ words.CloseParenthesis
is_close-is words.OpenParenthesis e = absurd cc
is_close-is words.CloseParenthesis e = refl
is_close-is (words.Name m) e = absurd cc
is_close-is (words.Variable m) e = absurd cc
is_close-is (words.Keyword m) e = absurd cc
is_close-is (words.Number m) e = absurd cc
is_close-is (words.SignedNumber m) e = absurd cc
is_close-is (words.Operator m) e = absurd cc

is_none-is : (ws : List Word) → is_none ws ≡ true → ws ≡ []
is_none-is [] e = refl
is_none-is (w ∷ ws) e = absurd cc

-- ---- names up to the closing parenthesis

-- these names and the closing parenthesis
abbrev pub closed : List (List ℕ) → List Word
closed names = map (λ n. words.Name n) names ++ (words.CloseParenthesis ∷ [])

pub args-read : (names : List (List ℕ)) → args_of (closed names) ≡ Some names
unfolding args_of
args-read [] = refl
args-read (n ∷ ns) = let more : args_of (closed ns) ≡ Some ns = args-read ns in rw more refl

args_by-words : (w : Word) (ws : List Word) (names : List (List ℕ)) (n : Option (List ℕ)) (ends : Bool) (more : Option (List (List ℕ)))
    → name_in w ≡ n → (is_close w && is_none ws) ≡ ends
    → ((ns : List (List ℕ)) → more ≡ Some ns → ws ≡ closed ns)
    → args_by n ends more ≡ Some names → w ∷ ws ≡ closed names
args_by-words w ws names (Some n) ends (Some ns) is end rest e =
    ap₂ (λ (x : Word) (xs : List Word). x ∷ xs) (name_in-is w n is) (rest ns refl)
    ∙ ap closed (same_Some (n ∷ ns) names e)
args_by-words w ws names (Some n) ends None is end rest e = absurd cc
args_by-words w ws names None true more is end rest e =
    let p = and_parts (is_close w) (is_none ws) end in
    ap₂ (λ (x : Word) (xs : List Word). x ∷ xs) (is_close-is w p.0) (is_none-is ws p.1)
    ∙ ap closed (same_Some [] names e)
args_by-words w ws names None false more is end rest e = absurd cc

args-words : (ws : List Word) (names : List (List ℕ)) → args_of ws ≡ Some names → ws ≡ closed names
unfolding args_of
args-words [] names e = absurd cc
args-words (w ∷ ws) names e =
    args_by-words w ws names (name_in w) (is_close w && is_none ws) (args_of ws) refl refl (args-words ws) e

-- ---- steps

-- the words of a step are that step
pub step-read : (s : Step) → step_of (step_words s) ≡ Some s
step-read s = let args : args_of (closed s.args) ≡ Some s.args = args-read s.args in rw args refl

step_by-words : (w v : Word) (ws : List Word) (s : Step) (o : Bool) (n : Option (List ℕ)) (found : Option (List (List ℕ)))
    → is_open w ≡ o → name_in v ≡ n → args_of ws ≡ found → step_by_name o n found ≡ Some s → w ∷ v ∷ ws ≡ step_words s
step_by-words w v ws s false n found is named args e = absurd cc
step_by-words w v ws s true None found is named args e = absurd cc
step_by-words w v ws s true (Some n) None is named args e = absurd cc
step_by-words w v ws s true (Some n) (Some found) is named args e =
    let rest : v ∷ ws ≡ words.Name n ∷ closed found =
    ap₂ (λ (x : Word) (xs : List Word). x ∷ xs) (name_in-is v n named) (args-words ws found args) in
    ap₂ (λ (x : Word) (xs : List Word). x ∷ xs) (is_open-is w is) rest
    ∙ ap step_words (same_Some (record { name = n; args = found }) s e)

-- words that are a step are its words
pub step-words : (ws : List Word) (s : Step) → step_of ws ≡ Some s → ws ≡ step_words s
step-words [] s e = absurd cc
step-words (w ∷ []) s e = absurd cc
step-words (w ∷ v ∷ ws) s e =
    step_by-words w v ws s (is_open w) (name_in v) (args_of ws) refl refl refl e

-- ---- the loop over names

-- names before, and then one more
pub behind_args_more : (front : List (List ℕ)) (n : List ℕ) (more : Option (List (List ℕ)))
    → behind_args front (behind_args (n ∷ []) more) ≡ behind_args (front ++ (n ∷ [])) more
behind_args_more front n None = refl
behind_args_more front n (Some names) = ap (λ l. Some l) (sym (append_assoc front (n ∷ []) names))

pub behind_args_nil : (more : Option (List (List ℕ))) → behind_args [] more ≡ more
behind_args_nil None = refl
behind_args_nil (Some names) = refl
