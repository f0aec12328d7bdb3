-- Where edits lie: the line of an offset, and its text.
use Rattle.std.proofs.Common.{◌≡◌, ℕ, zero, suc, ◌+◌, ◌-◌, ◌≤◌, List, [], ◌∷◌, length, drop, refl, sym}
use Rattle.std.proofs.Common.{ap, ap₂, ◌∙◌, arith, Option}
use Rattle.std.specs.Prelude.{slice_get, slice_range}
use Rattle.std.specs.Option.{option_map_or}
use Rattle.std.proofs.lemmas.List.{take_all, length-drop}
use Rattle.std.proofs.lemmas.Option.{slice_get_past}
use Rattle.miette_lines.specs.rules.Lines.{Line, lines_from, lines_of, line_of, line_start}
use Rattle.miette_lines.proofs.Cuts.{few_lines}
use Rattle.miette_lines.proofs.Only.{lines_between}
use Rattle.miette_columns.specs.rules.Cells.{characters}
use Rattle.miette_columns.specs.rules.Columns.{column}
use Rattle.miette_narrated.specs.rules.Fixes.{EditPlace, numbered_line_text, edit_place_at}
use Rattle.miette_narrated.specs.steps.EditPlaces.{line_text_at}

get_dropped : {X : Type 0} (xs : List X) (k : ℕ) → slice_get (drop k xs) 0 ≡ slice_get xs k
get_dropped [] zero = refl
get_dropped [] (suc k) = refl
get_dropped (x ∷ xs) zero = refl
get_dropped (x ∷ xs) (suc k) = get_dropped xs k

-- after the last line the bytes end
start_past : (bytes : List ℕ) → line_start bytes (length (lines_of bytes)) ≡ length bytes
unfolding line_start
start_past bytes =
    ap (λ (o : Option Line). option_map_or (λ l. l.start) o (length bytes))
    (slice_get_past (lines_of bytes) (length (lines_of bytes)) (omega arith))

range_to_end : {X : Type 0} (xs : List X) (k : ℕ) → slice_range xs k (length xs) ≡ drop k xs
range_to_end xs k = take_all (length xs - k) (drop k xs) (omega (arith, length-drop k xs))

-- the lines from one on are those of the bytes from its start on
lines_on : (bytes : List ℕ) (k : ℕ) → k ≤ length (lines_of bytes)
    → lines_from (line_start bytes k) (drop (line_start bytes k) bytes) ≡ drop k (lines_of bytes)
lines_on bytes k le =
    let s : ℕ = line_start bytes k in
    ap (λ bs. lines_from s bs) (sym (range_to_end bytes s))
    ∙ ap (λ n. lines_from s (slice_range bytes s n)) (sym (start_past bytes))
    ∙ lines_between bytes k (length (lines_of bytes)) le ∙ range_to_end (lines_of bytes) k

pub text_there : (bytes : List ℕ) (at : ℕ)
    → line_text_at bytes (line_start bytes (line_of bytes at)) ≡ numbered_line_text bytes (line_of bytes at)
text_there bytes at =
    let k : ℕ = line_of bytes at in
    ap (λ (o : Option Line). option_map_or (λ l. slice_range bytes l.start l.text_end) o [])
    (ap (λ (ls : List Line). slice_get ls 0) (lines_on bytes k (few_lines bytes at)) ∙ get_dropped (lines_of bytes) k)

abbrev pub place : ℕ → ℕ → EditPlace
place line before = record { line = line; before = before }

-- the place of an offset, from the start and the number of its line and the columns of that line's text
pub placed : (bytes : List ℕ) (at start number line before kept : ℕ) (columns : List ℕ)
    → start ≡ line_start bytes (line_of bytes at - 0) → number ≡ line_of bytes at → kept ≡ start
    → columns ≡ line_text_at bytes kept → before ≡ column (at - start) (characters columns) → line ≡ number + 1
    → place line before ≡ edit_place_at bytes at
placed bytes at start number line before kept columns es en ek ec eb el =
    let same : line_of bytes at - 0 ≡ line_of bytes at = omega arith in
    let s : start ≡ line_start bytes (line_of bytes at) = es ∙ ap (line_start bytes) same in
    ap₂ place (el ∙ ap (λ n. n + 1) en)
    (eb ∙ ap₂ (λ n t. column (at - n) (characters t)) s (ec ∙ ap (line_text_at bytes) (ek ∙ s) ∙ text_there bytes at))
