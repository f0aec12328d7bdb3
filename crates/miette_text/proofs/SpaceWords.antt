-- Words that are told apart by spaces, cell by cell.
use Rattle.std.proofs.Common.{◌≡◌, ℕ, Bool, true, false, not, ◌&&◌, List, [], ◌∷◌, map, refl, sym, ap, ◌∙◌}
use Rattle.std.proofs.Common.{if◌then◌else◌}
use Rattle.miette_lines.specs.rules.Lists.{is_nil, onto}
use Rattle.miette_runs.specs.rules.Cells.{TaggedChar}
use Rattle.miette_text.specs.declared.options.WordSeparator.TheVariants.{AsciiSpace}
use Rattle.miette_text.specs.rules.Wrapping.{Word, is_space, pieces, word_of, words}
use Rattle.miette_text.specs.steps.Ends.{spaced_words, with_letter, with_space}
use Rattle.miette_text.proofs.Ending.{space_letter}

abbrev no_word : Word
no_word = record { letters = []; spaces = [] }

-- one more in front, by whether it is a space
abbrev fronted : Bool → TaggedChar → Word → Word
fronted s c w =
    if s && is_nil w.letters then record { letters = []; spaces = c ∷ w.spaces }
    else record { letters = c ∷ w.letters; spaces = w.spaces }

abbrev all_fronted : Bool → TaggedChar → List Word → List Word
all_fronted s c [] = fronted s c no_word ∷ []
all_fronted s c (w ∷ ws) = fronted s c w ∷ ws

words-onto : (c : TaggedChar) (ps : List (List TaggedChar)) → map word_of (onto c ps)
    ≡ all_fronted (is_space c.code) c (map word_of ps)
words-onto c [] = refl
words-onto c (p ∷ ps) = refl

abbrev spaced : Bool → TaggedChar → List Word → List Word
spaced b c ws = if b then with_space c ws else with_letter c ws

letter-front : (c : TaggedChar) (ws : List Word) → all_fronted false c ws ≡ with_letter c ws
letter-front c [] = refl
letter-front c (w ∷ ws) = refl

space-front : (c d : TaggedChar) (ws : List Word) → all_fronted true c (with_space d ws)
    ≡ with_space c (with_space d ws)
space-front c d [] = refl
space-front c d (w ∷ ws) = elim w.letters as (λ ls.
    all_fronted true c (with_space d (record { letters = ls; spaces = w.spaces } ∷ ws))
    ≡ with_space c (with_space d (record { letters = ls; spaces = w.spaces } ∷ ws))) [ [] ↦ refl | l ∷ ls ↦ refl ]

step : (s b : Bool) (c d : TaggedChar) (ws : List Word) →
    (if s && not b then fronted s c no_word ∷ spaced b d ws else all_fronted s c (spaced b d ws))
    ≡ spaced s c (spaced b d ws)
step false b c d ws = letter-front c (spaced b d ws)
step true false c d ws = sym (space_letter c d ws)
step true true c d ws = space-front c d ws

one : (s : Bool) (c : TaggedChar) → fronted s c no_word ∷ [] ≡ spaced s c []
one true c = refl
one false c = refl

spaced-pieces : (before : List ℕ) (cs : List TaggedChar) → map word_of (pieces AsciiSpace before cs) ≡ spaced_words cs
spaced-pieces before [] = refl
spaced-pieces before (c ∷ []) = one (is_space c.code) c
spaced-pieces before (c ∷ d ∷ ds) =
    let ps = pieces AsciiSpace (c.code ∷ before) (d ∷ ds) in
    let s = is_space c.code in
    elim (s && not (is_space d.code)) as (λ v. map word_of (if v then (c ∷ []) ∷ ps else onto c ps)
    ≡ (if v then fronted s c no_word ∷ map word_of ps else all_fronted s c (map word_of ps))) [
      | true ↦ refl
      | false ↦ words-onto c ps
    ]
    ∙ ap (λ ws. if s && not (is_space d.code) then fronted s c no_word ∷ ws else all_fronted s c ws)
    (spaced-pieces (c.code ∷ before) (d ∷ ds))
    ∙ step s (is_space d.code) c d (spaced_words ds)

pub words-spaced : (cs : List TaggedChar) → words AsciiSpace cs ≡ spaced_words cs
words-spaced cs = spaced-pieces [] cs
