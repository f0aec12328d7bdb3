-- The options of `job` that describe a terminal.
use Rattle.std.specs.Prelude.{ℕ, List, [], ◌∷◌, ◌++◌, Option, Some, None, Bool, true, false, codes, decimal, option_map}
use Rattle.std.specs.Prelude.{if◌then◌else◌, string_bytes}
use Rattle.miette_style.specs.declared.theme.Terminal.{Terminal}

abbrev pub width_words : Option ℕ → List (List ℕ)
width_words None = []
width_words (Some n) = codes "--term-width" ∷ (decimal n ∷ [])

abbrev pub color_name : Option Bool → List ℕ
color_name None = codes "none"
color_name (Some false) = codes "ansi"
color_name (Some true) = codes "rgb"

abbrev pub yes_or_no : Bool → List ℕ
yes_or_no is = if is then codes "yes" else codes "no"

abbrev pub graphics_words : Option (List ℕ) → List (List ℕ)
graphics_words None = []
graphics_words (Some text) = codes "--no-graphics" ∷ (text ∷ [])

-- The width if it is known, the colors, Unicode and links, and the variable `NO_GRAPHICS`.
abbrev pub terminal_words : Terminal → List (List ℕ)
terminal_words t =
    width_words t.width
    ++ (codes "--term-color" ∷ (color_name t.color
    ∷ (codes "--term-unicode" ∷ (yes_or_no t.unicode
    ∷ (codes "--term-links" ∷ (yes_or_no t.hyperlinks ∷ graphics_words (option_map string_bytes t.no_graphics)))))))
