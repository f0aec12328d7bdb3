-- The characters of a footer.
use Rattle.std.proofs.Common.{◌≡◌, Option, Some, None, option_map, chars, String, string_bytes, refl}

pub footer_chars : {Z : Type 0} (footer : Option (String Z)) →
    option_map (λ t. chars (string_bytes t)) footer ≡ option_map chars (option_map string_bytes footer)
footer_chars None = refl
footer_chars (Some t) = refl
