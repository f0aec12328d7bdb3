-- The codes of colours and styles, and the sequences that begin and end a style.
use Rattle.std.specs.Prelude.{ℕ, Bool, if◌then◌else◌, List, [], ◌∷◌, ◌++◌, decimal, codes, Option, Some}
use Rattle.std.specs.Prelude.{None}
use Rattle.miette_style.specs.declared.style.Color.{Color}
use Rattle.miette_style.specs.declared.style.Color.TheVariants.{Red, Green, Yellow, Blue, Magenta, Cyan, Rgb}
use Rattle.miette_style.specs.declared.style.Style.{Style}

abbrev pub foreground : Color → List ℕ
foreground Red = codes "31"
foreground Green = codes "32"
foreground Yellow = codes "33"
foreground Blue = codes "34"
foreground Magenta = codes "35"
foreground Cyan = codes "36"
foreground (Rgb r g b) = codes "38;2;" ++ decimal r ++ codes ";" ++ decimal g ++ codes ";" ++ decimal b

abbrev pub foreground_codes : Option Color → List (List ℕ)
foreground_codes None = []
foreground_codes (Some c) = foreground c ∷ []

abbrev pub flag : Bool → List ℕ → List (List ℕ)
flag b code = if b then code ∷ [] else []

-- the codes of a style; none if it is plain
abbrev pub style_codes : Style → List (List ℕ)
style_codes s = foreground_codes s.fg ++ flag s.bold (codes "1") ++ flag s.dimmed (codes "2")
    ++ flag s.italic (codes "3") ++ flag s.underline (codes "4")

-- codes, each after a `;`
abbrev pub after_separators : List (List ℕ) → List ℕ
after_separators [] = []
after_separators (x ∷ xs) = 59 ∷ x ++ after_separators xs

-- codes with `;` between them
abbrev pub separated_codes : List (List ℕ) → List ℕ
separated_codes [] = []
separated_codes (x ∷ xs) = x ++ after_separators xs

abbrev pub escape : ℕ
escape = 27

abbrev pub colour_start : Style → List ℕ
colour_start s = escape ∷ 91 ∷ separated_codes (style_codes s) ++ 109 ∷ []

abbrev pub colour_stop : List ℕ
colour_stop = escape ∷ 91 ∷ 48 ∷ 109 ∷ []

-- codes with `;` between them, and before them if other codes precede
abbrev pub further_codes : Bool → List (List ℕ) → List ℕ
further_codes some cs = if some then after_separators cs else separated_codes cs
