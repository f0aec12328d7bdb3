-- What comes after a frame is shorter.
use Rattle.std.proofs.Common.{◌≡◌, ℕ, ◌<◌, List, [], ◌∷◌, ◌++◌, eqb, leb, Option, Some}
use Rattle.std.proofs.Common.{None}
use Rattle.std.proofs.Common.{sym, arith, length, length-drop, subst}
use Rattle.std.specs.Option.{option_and_then, option_or}
use Rattle.miette_lines.proofs.Cases.{by_cases}
use Rattle.miette_language_server.specs.rules.Frames.{Frame, cut, first_frame, ends_header, known_length, length_from}
use Rattle.miette_language_server.specs.rules.Frames.{content_length_in}
use Rattle.miette_language_server.proofs.Headers.{after_all, after_row, within_row}

abbrev IsAfter : List ℕ → Option (ℕ × List ℕ) → Type 0
IsAfter bytes None = Unit {0}
IsAfter bytes (Some it) = length it.1 < length bytes

known_after : (known : Option ℕ) (b : ℕ) (bs : List ℕ) → IsAfter (b ∷ bs) (known_length known bs)
known_after None b bs = tt
known_after (Some n) b bs = omega arith

further : (b : ℕ) (bs : List ℕ) (o : Option (ℕ × List ℕ)) → IsAfter bs o → IsAfter (b ∷ bs) o
further b bs None h = tt
further b bs (Some it) h = omega (arith, h)

header_after : (known : Option ℕ) (row bytes : List ℕ) → IsAfter bytes (length_from known row bytes)
header_after known row [] = tt
header_after known row (b ∷ bs) =
    by_cases {C = IsAfter (b ∷ bs) (length_from known row (b ∷ bs))} (eqb b 10)
    (λ t. by_cases {C = IsAfter (b ∷ bs) (length_from known row (b ∷ bs))} (ends_header row)
    (λ e. subst (IsAfter (b ∷ bs)) (sym (after_all known row b bs t e)) (known_after known b bs))
    (λ e. subst (IsAfter (b ∷ bs)) (sym (after_row known row b bs t e))
    (further b bs (length_from (option_or (content_length_in row) known) [] bs)
    (header_after (option_or (content_length_in row) known) [] bs))))
    (λ f. subst (IsAfter (b ∷ bs)) (sym (within_row known row b bs f))
    (further b bs (length_from known (row ++ b ∷ []) bs) (header_after known (row ++ b ∷ []) bs)))

abbrev IsFrameAfter : List ℕ → Option Frame → Type 0
IsFrameAfter bytes None = Unit {0}
IsFrameAfter bytes (Some f) = length f.rest < length bytes

cut_after : (bytes : List ℕ) (n : ℕ) (rest : List ℕ) → length rest < length bytes → IsFrameAfter bytes (cut n rest)
cut_after bytes n rest h = by_cases {C = IsFrameAfter bytes (cut n rest)} (leb n (length rest))
    (λ t. rw t (omega (arith, h, length-drop n rest))) (λ f. rw f tt)

frame_after : (bytes : List ℕ) (o : Option (ℕ × List ℕ)) → IsAfter bytes o
    → IsFrameAfter bytes (option_and_then (λ (it : ℕ × List ℕ). cut it.0 it.1) o)
frame_after bytes None h = tt
frame_after bytes (Some it) h = cut_after bytes it.0 it.1 h

pub shorter : (bytes : List ℕ) (f : Frame) → first_frame bytes ≡ Some f → length f.rest < length bytes
shorter bytes f e = subst (IsFrameAfter bytes) e
    (frame_after bytes (length_from None [] bytes) (header_after None [] bytes))
