use Rattle.std.proofs.Common.{◌≡◌, ℕ, List, length, map, take, ◌++◌, sym, subst, ◌∙◌, ap}
use Rattle.std.proofs.lemmas.List.{length-map}
use Rattle.std.proofs.Math.Seq.{take-append_seam}
use Rattle.std.proofs.lemmas.Str.{IsUtf8-from_ascii}
use Rattle.std.proofs.lemmas.Str.Ascii.{IsAscii-map, lowercase_ascii}
use Rattle.std.specs.Char.{to_ascii_lowercase}
use Rattle.std.specs.Str.{IsAscii, IsUtf8}
use Rattle.hd_base.proofs.name.folded_inside.Goals as goal

-- the folded text stands in front
folded_front : (text front behind : List ℕ) → front ≡ map to_ascii_lowercase text
    → take (length text) (front ++ behind) ≡ map to_ascii_lowercase text
folded_front text front behind is =
    rw is (ap (λ (n : ℕ). take n (map to_ascii_lowercase text ++ behind)) (sym (length-map text to_ascii_lowercase))
    ∙ take-append_seam (map to_ascii_lowercase text) behind)

pub returns-clause-text : goal.returns-clause-text
returns-clause-text c = (
  c.requires.short,
  ∣ rw (folded_front c.args.text.now _ _ (c.make_ascii_lowercase.ensures.after ∙ ap (map to_ascii_lowercase) (c.copy_from_slice.ensures.after ∙ c.as_bytes.ensures.value))) (IsUtf8-from_ascii _ (IsAscii-map to_ascii_lowercase _ lowercase_ascii c.requires.ascii)) ∣₁,
)
