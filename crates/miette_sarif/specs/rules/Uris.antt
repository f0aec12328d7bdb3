-- Names of sources, and addresses, as URIs (RFC 3986).
use Rattle.std.specs.Prelude.{ℕ, List, [], ◌∷◌, ◌++◌, take, drop, codes, Bool, false, ◌&&◌, ◌||◌, ◌==◌}
use Rattle.std.specs.Prelude.{if◌then◌else◌, position, Option, Some, None, is_some}
use Rattle.std.specs.Char.{is_ascii_alphabetic, is_ascii_alphanumeric, is_ascii_hexdigit}
use Rattle.std.specs.Option.{option_map_or}
use Rattle.percent_encoding.specs.Percent.{percent_encode}
use Rattle.miette_sarif.specs.declared.uri.TheConstants.{SEGMENT, PATH, ADDRESS}

-- ---- schemes

-- a letter, a digit, `+`, `-` or `.`
abbrev pub is_scheme_byte : ℕ → Bool
is_scheme_byte x = is_ascii_alphanumeric x || ((x == 43) || ((x == 45) || (x == 46)))

-- The bytes after the `:` of a scheme, whose first letter is already skipped. There are none if another byte comes
-- before the `:`.
abbrev pub after_scheme_bytes : List ℕ → Option (List ℕ)
after_scheme_bytes [] = None
after_scheme_bytes (x ∷ xs) = if x == 58 then Some xs else if is_scheme_byte x then after_scheme_bytes xs else None

-- the bytes after the `:` of a scheme; none if there is no scheme
abbrev pub after_scheme : List ℕ → Option (List ℕ)
after_scheme [] = None
after_scheme (x ∷ xs) = if is_ascii_alphabetic x then after_scheme_bytes xs else None

-- whether a text begins with a scheme and `:`
abbrev pub is_absolute_uri : List ℕ → Bool
is_absolute_uri text = is_some (after_scheme text)

-- whether `//` comes first
abbrev pub begins_with_slashes : List ℕ → Bool
begins_with_slashes (a ∷ b ∷ rest) = (a == 47) && (b == 47)
begins_with_slashes _ = false

-- whether a text begins with a scheme and `://`
abbrev pub has_authority : List ℕ → Bool
has_authority text = option_map_or begins_with_slashes (after_scheme text) false

-- ---- escapes

abbrev pub begins_with_hex : List ℕ → Bool
begins_with_hex (a ∷ b ∷ rest) = is_ascii_hexdigit a && is_ascii_hexdigit b
begins_with_hex _ = false

-- An address as a URI. Bytes that no URI may have are percent-encoded. Existing escapes are kept.
abbrev pub address_uri : List ℕ → List ℕ
address_uri [] = []
address_uri (x ∷ xs) =
    (if (x == 37) && begins_with_hex xs then x ∷ [] else percent_encode ADDRESS (x ∷ [])) ++ address_uri xs

-- A path. A `:` is kept after the first `/`, where it can't be taken for a scheme's.
abbrev pub path_at : List ℕ → Option ℕ → List ℕ
path_at path None = percent_encode SEGMENT path
path_at path (Some at) = percent_encode SEGMENT (take at path) ++ percent_encode PATH (drop at path)

abbrev pub path_uri : List ℕ → List ℕ
path_uri path = path_at path (position (λ x. x == 47) path)

abbrev pub begins_with_slash : List ℕ → Bool
begins_with_slash [] = false
begins_with_slash (x ∷ xs) = x == 47

-- A name as a URI. A name with a scheme and `://` is an address. A name that begins with `/` becomes a `file` URI. Any
-- other name is a relative path.
abbrev pub name_uri : List ℕ → List ℕ
name_uri name =
    if has_authority name then address_uri name
    else if begins_with_slash name then codes "file://" ++ path_uri name
    else path_uri name
