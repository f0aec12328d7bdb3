-- Words, one after another.
use Rattle.std.proofs.Common.{◌≡◌, ℕ, ◌+◌, ◌<◌, ◌≤◌, List, [], ◌∷◌, ◌++◌, Option, Some, String, length, get_or, codes}
use Rattle.std.proofs.Common.{map, string_bytes, take, sym, ap, ◌∙◌, append_assoc}
use Rattle.std.specs.Prelude.{decimal, option_map}
use Rattle.std.proofs.lemmas.List.{map-append, take_all}
use Rattle.std.specs.declared.alloc.Global.{Global}
use Rattle.miette_read.proofs.Steps.{next_taken}
use Rattle.miette_show.specs.rules.TerminalWords.{graphics_words, width_words}

-- one word more of those that are passed
pub words_more : (xs : List (String Global)) (i : ℕ) (x : String Global) (old now new : List (List ℕ))
    → i < length xs → x ≡ get_or xs i x → now ≡ old ++ map string_bytes (take i xs) → new ≡ now ++ string_bytes x ∷ []
    → new ≡ old ++ map string_bytes (take (i + 1) xs)
words_more xs i x old now new h is inv pushed =
    pushed ∙ ap (λ l. l ++ string_bytes x ∷ []) inv
    ∙ append_assoc old (map string_bytes (take i xs)) (string_bytes x ∷ [])
    ∙ ap (λ l. old ++ l) (sym (ap (map string_bytes) (next_taken xs i x h is)
    ∙ map-append string_bytes (take i xs) (x ∷ [])))

-- all of them
pub words_all : (xs : List (String Global)) (i : ℕ) (old now : List (List ℕ)) → length xs ≤ i
    → now ≡ old ++ map string_bytes (take i xs) → now ≡ old ++ map string_bytes xs
words_all xs i old now end inv = inv ∙ ap (λ l. old ++ map string_bytes l) (take_all i xs end)

-- ---- a word and its value, where there is one

pub width_said : (o : Option ℕ) (n : ℕ) (t : List ℕ) (old new : List (List ℕ)) → o ≡ Some n → t ≡ decimal n
    → new ≡ old ++ (codes "--term-width" ∷ (t ∷ [])) → new ≡ old ++ width_words o
width_said o n t old new is said e =
    e ∙ ap (λ l. old ++ l) (ap (λ (x : List ℕ). codes "--term-width" ∷ (x ∷ [])) said ∙ sym (ap width_words is))

pub graphics_said : (o : Option (String Global)) (text : String Global) (t : List ℕ) (old new : List (List ℕ))
    → o ≡ Some text → t ≡ string_bytes text → new ≡ old ++ (codes "--no-graphics" ∷ (t ∷ []))
    → new ≡ old ++ graphics_words (option_map string_bytes o)
graphics_said o text t old new is said e =
    e ∙ ap (λ l. old ++ l) (ap (λ (x : List ℕ). codes "--no-graphics" ∷ (x ∷ [])) said
    ∙ sym (ap (λ (p : Option (String Global)). graphics_words (option_map string_bytes p)) is))
