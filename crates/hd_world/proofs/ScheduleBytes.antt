-- What is written of a byte in hexadecimal digits.
use Rattle.std.proofs.Common.{◌≡◌, ℕ, ◌<◌, ◌^◌, ◌-◌, ◌++◌, Some, false, ap, ◌∙◌}
use Rattle.std.specs.Prelude.{codes, decimal}
use Rattle.std.specs.Fmt.{◌++?◌, digits, digits_output, styled_digits_output, format_spec, padded_integral, shown_prefix, radix_prefix}
use Rattle.std.specs.Option.{option_map}
use Rattle.std.proofs.lemmas.Fmt.{hex_byte}
use Rattle.hd_world.specs.MoveText.{byte_text}

-- what `{:02x}` writes
byte_written : (byte : ℕ) (d : _) (s : _) → byte < 2 ^ 8 → digits_output d ≡ Some (digits 16 false byte)
    → s ≡ format_spec 32 0 4 2 (2 ^ 64 - 1) → styled_digits_output d s ≡ Some (byte_text byte)
byte_written byte d s small digits_are spec_is =
    ap (option_map (padded_integral s false (shown_prefix s (radix_prefix d.base)))) digits_are
    ∙ (ap (λ t. Some (padded_integral t false (shown_prefix t (radix_prefix d.base)) (digits 16 false byte))) spec_is
    ∙ ap (λ x. Some x) (hex_byte false byte small))

-- a number, a space and a byte
pub stop_written : (call byte : ℕ) (d : _) (s : _) → byte < 2 ^ 8 → digits_output d ≡ Some (digits 16 false byte)
    → s ≡ format_spec 32 0 4 2 (2 ^ 64 - 1)
    → (Some (decimal call) ++? (Some (codes " ") ++? styled_digits_output d s)) ≡ Some (decimal call ++ (codes " " ++ byte_text byte))
stop_written call byte d s small digits_are spec_is =
    ap (λ o. Some (decimal call) ++? (Some (codes " ") ++? o)) (byte_written byte d s small digits_are spec_is)
