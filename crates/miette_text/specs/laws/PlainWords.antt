-- Texts in which both separators find the same words.
use Rattle.std.specs.Prelude.{ℕ, Bool, true, not, ◌&&◌, ◌||◌, ◌==◌, List, [], ◌∷◌}
use Rattle.std.specs.List.{list_any}
use Rattle.miette_text.specs.rules.Wrapping.{is_alphanumeric, is_space}

-- `# & * < = > @ ^ _ ~ - " '` and the backquote
abbrev pub signs : List ℕ
signs = 35 ∷ 38 ∷ 42 ∷ 60 ∷ 61 ∷ 62 ∷ 64 ∷ 94 ∷ 95 ∷ 126 ∷ 45 ∷ 34 ∷ 39 ∷ 96 ∷ []

-- a space, an ASCII letter or digit, or one of the signs
abbrev pub is_plain_code : ℕ → Bool
is_plain_code c = is_space c || is_alphanumeric c || list_any (λ s. s == c) signs

-- `. , : ;`
abbrev pub is_point : ℕ → Bool
is_point c = (c == 46) || (c == 44) || (c == 58) || (c == 59)

-- plain characters, and points that don't follow a space
abbrev pub plain_after : ℕ → List ℕ → Bool
plain_after before [] = true
plain_after before (c ∷ cs) = (is_plain_code c || (is_point c && not (is_space before))) && plain_after c cs

abbrev pub is_plain_text : List ℕ → Bool
is_plain_text = plain_after 0
