-- Values that a text may represent.
use Rattle.std.specs.Prelude.{IsUtf8, List, [], ◌∷◌, ⊤}
use Rattle.miette_json.specs.rules.Json.{Json}
use Rattle.miette_json.specs.rules.Denotes.{Token, structural, text, whole, tokens_then}

abbrev pub TextsAreUtf8 : List Token → Type 0
TextsAreUtf8 [] = ⊤
TextsAreUtf8 (structural x ∷ ts) = TextsAreUtf8 ts
TextsAreUtf8 (text s ∷ ts) = IsUtf8 s × TextsAreUtf8 ts
TextsAreUtf8 (whole n ∷ ts) = TextsAreUtf8 ts

-- each string and each key of the value is UTF-8
abbrev pub HasUtf8Texts : Json → Type 0
HasUtf8Texts v = TextsAreUtf8 (tokens_then v [])
