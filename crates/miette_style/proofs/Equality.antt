-- What `==` of texts says of their characters.
use Rattle.std.proofs.Common.{◌≡◌, sym, ap, ◌∙◌, String, Global, encode_utf8_all}
use Rattle.std.proofs.lemmas.Str.{IsUtf8-string_bytes, chars-encodes}
use Rattle.std.specs.Prelude.{chars, string_bytes}
use Rattle.std.specs.Bool.{Decides}
use Rattle.std.specs.String.{string_eq}
use Rattle.miette_lines.proofs.Equality.{texts}

same_bytes : (x y : String Global) → chars (string_bytes x) ≡ chars (string_bytes y) → string_bytes x ≡ string_bytes y
same_bytes x y e =
    let u = IsUtf8-string_bytes x in
    let v = IsUtf8-string_bytes y in
    let same : u.0 ≡ v.0 = sym (chars-encodes u.0 u.1.0) ∙
    (ap chars u.1.1 ∙ (e ∙ (ap chars (sym v.1.1) ∙ chars-encodes v.0 v.1.0))) in
    sym u.1.1 ∙ (ap encode_utf8_all same ∙ v.1.1)

pub spelled : (x y : String Global) → Decides (string_eq x y) (chars (string_bytes x) ≡ chars (string_bytes y))
spelled x y = let bytes = texts x y in (λ h. ap chars (bytes.0 h), λ e. bytes.1 (same_bytes x y e))
