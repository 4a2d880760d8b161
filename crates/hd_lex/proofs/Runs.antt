-- A text has exactly one longest run at its front.
use Rattle.std.proofs.Common.{◌≡◌, ℕ, suc, ◌+◌, List, [], ◌∷◌, ◌++◌, length, take, drop, Bool, true, false, refl, sym, ap, ap₂, ◌∙◌, arith, length-append}
use Rattle.std.proofs.Math.Seq.{take-append_seam, drop-append_seam}
use Rattle.std.proofs.lemmas.List.{take-append-drop}
use Rattle.std.specs.List.{prefix_len, list_all}
use Rattle.std.proofs.lemmas.Bool.{and_parts}
use Rattle.hd_base.proofs.Tests.{list_all-take_while}
use Rattle.hd_lex.specs.Text.{IsEnd, IsRun}

-- after the longest front that passes the test fails
front-ends_one : (test : ℕ → Bool) (x : ℕ) (xs : List ℕ) (b : Bool) → test x ≡ b
    → IsEnd test (drop (prefix_len test xs) xs)
    → IsEnd test (drop (prefix_len test (x ∷ xs)) (x ∷ xs))
front-ends_one test x xs true e more =
    let one : 1 + prefix_len test xs ≡ suc (prefix_len test xs) = omega arith in
    rw (e, one) more
front-ends_one test x xs false e more = rw e e

front-ends : (test : ℕ → Bool) (xs : List ℕ) → IsEnd test (drop (prefix_len test xs) xs)
front-ends test [] = tt
front-ends test (x ∷ xs) = front-ends_one test x xs (test x) refl (front-ends test xs)

-- each text has a run
pub run_of : (test : ℕ → Bool) (text : List ℕ)
    → IsRun test text (take (prefix_len test text) text) (drop (prefix_len test text) text)
run_of test text = record {
  parts = sym (take-append-drop (prefix_len test text) text);
  all = list_all-take_while test text;
  longest = front-ends test text;
}

-- how long a run is
run-len : (test : ℕ → Bool) (run rest : List ℕ) → list_all test run ≡ true → IsEnd test rest
    → prefix_len test (run ++ rest) ≡ length run
run-len test [] [] all end = refl
run-len test [] (y ∷ ys) all end = rw end refl
run-len test (x ∷ xs) rest all end =
    let p = and_parts (test x) (list_all test xs) all in
    let more : prefix_len test (xs ++ rest) ≡ length xs = run-len test xs rest p.1 end in
    rw (p.0, more) (omega arith)

pub prefix_len-run : (test : ℕ → Bool) {text run rest : List ℕ} → IsRun test text run rest
    → prefix_len test text ≡ length run
prefix_len-run test {run =
    run} {rest = rest} is = ap (prefix_len test) is.parts ∙ run-len test run rest is.all is.longest

-- each text has at most one run
pub take-run : (test : ℕ → Bool) {text run rest : List ℕ} → IsRun test text run rest
    → take (prefix_len test text) text ≡ run
take-run test {run =
    run} {rest = rest} is = ap₂ (λ (n : ℕ) (xs : List ℕ). take n xs) (prefix_len-run test is) is.parts ∙ take-append_seam run rest

pub drop-run : (test : ℕ → Bool) {text run rest : List ℕ} → IsRun test text run rest
    → drop (prefix_len test text) text ≡ rest
drop-run test {run =
    run} {rest = rest} is = ap₂ (λ (n : ℕ) (xs : List ℕ). drop n xs) (prefix_len-run test is) is.parts ∙ drop-append_seam run rest

-- a run and its rest are as long as the text
pub run-lengths : (test : ℕ → Bool) {text run rest : List ℕ} → IsRun test text run rest
    → length run + length rest ≡ length text
run-lengths test {run = run} {rest = rest} is = sym (ap length is.parts ∙ length-append run rest)
