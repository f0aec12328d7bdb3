-- What the rows of the rules spell.
use Rattle.std.proofs.Common.{◌≡◌, ℕ, true, false, not, ◌&&◌, List, [], ◌∷◌, ◌++◌, map, flat_map, refl, sym, ap, ap₂}
use Rattle.std.proofs.Common.{◌∙◌, append_assoc, append-nil, if◌then◌else◌}
use Rattle.std.proofs.lemmas.List.{map-append}
use Rattle.std.specs.List.{concat}
use Rattle.miette_runs.specs.rules.Sequences.{Token, Character, Sequence, spell}
use Rattle.miette_text.specs.rules.Wrapping.{Cuts, TextLine, Word, is_space, cell_tokens, cut_words}
use Rattle.miette_text.specs.rules.Wrapping.{text_line_rows}
use Rattle.miette_text.specs.rules.Wrapping.{rows, text_rows, trimmed_row, only_spaces, tokens_of_words, with_rest}
use Rattle.miette_text.specs.rules.Wrapping.{joined_rows, line_feed}
use Rattle.miette_runs.specs.rules.Cells.{TaggedChar}
use Rattle.miette_text.specs.steps.Ends.{all_spaces, row_cells}
use Rattle.miette_text.proofs.RowTexts.{shown, lines_of, after_row, joined_lines}
use Rattle.miette_runs.proofs.Appending.{spell-append}

-- ---- what rows spell

pub spell-tags : (ms : List (List ℕ)) → spell (map Sequence ms) ≡ concat ms
spell-tags [] = refl
spell-tags (m ∷ ms) = ap (λ xs. m ++ xs) (spell-tags ms)

only-tags : (ms : List (List ℕ)) (ts : List Token) → only_spaces (map Sequence ms ++ ts) ≡ only_spaces ts
only-tags [] ts = refl
only-tags (m ∷ ms) ts = only-tags ms ts

trimmed-tags : (ms : List (List ℕ)) (ts : List Token) → trimmed_row (map Sequence ms ++ ts) ≡ map Sequence ms
    ++ trimmed_row ts
trimmed-tags [] ts = refl
trimmed-tags (m ∷ ms) ts = ap (λ xs. Sequence m ∷ xs) (trimmed-tags ms ts)

only-cells : (cs : List TaggedChar) → only_spaces (flat_map cell_tokens cs) ≡ all_spaces cs
only-cells [] = refl
only-cells (c ∷ cs) = ap only_spaces (append_assoc (map Sequence c.tags) (Character c.code ∷ [])
    (flat_map cell_tokens cs)) ∙ only-tags c.tags (Character c.code ∷ flat_map cell_tokens cs)
    ∙ ap (λ b. is_space c.code && b) (only-cells cs)

pub spell-trimmed : (cs : List TaggedChar) → spell (trimmed_row (flat_map cell_tokens cs)) ≡ shown cs
spell-trimmed [] = refl
spell-trimmed (c ∷ cs) =
    ap (λ ts. spell (trimmed_row ts)) (append_assoc (map Sequence c.tags) (Character c.code ∷ [])
    (flat_map cell_tokens cs))
    ∙ ap spell (trimmed-tags c.tags (Character c.code ∷ flat_map cell_tokens cs))
    ∙ spell-append (map Sequence c.tags) (trimmed_row (Character c.code ∷ flat_map cell_tokens cs))
    ∙ ap₂ (λ us vs. us ++ vs) (spell-tags c.tags)
    (ap (λ b. spell (if is_space c.code && b then trimmed_row (flat_map cell_tokens cs) else Character c.code
    ∷ trimmed_row (flat_map cell_tokens cs))) (only-cells cs)
    ∙ elim (is_space c.code && all_spaces cs) as (λ b. spell
    (if b then trimmed_row (flat_map cell_tokens cs) else Character c.code ∷ trimmed_row (flat_map cell_tokens cs))
    ≡ (if not b then c.code ∷ [] else []) ++ shown cs) [
      | true ↦ spell-trimmed cs
      | false ↦ ap (λ xs. c.code ∷ xs) (spell-trimmed cs)
    ])

pub spell-rows : (rest : List (List ℕ)) (rs : List (List Word)) → map spell (with_rest rest (map tokens_of_words rs))
    ≡ lines_of rest (map row_cells rs)
spell-rows rest [] = refl
spell-rows rest (r ∷ []) = ap (λ x. x ∷ []) (spell-append (tokens_of_words r) (map Sequence rest)
    ∙ ap₂ (λ us vs. us ++ vs) (spell-trimmed (row_cells r)) (spell-tags rest))
spell-rows rest (r ∷ s ∷ rs) = ap₂ (λ x xs. x ∷ xs) (spell-trimmed (row_cells r)) (spell-rows rest (s ∷ rs))

spell-after : (further : List Token) (r : List Token) (rs : List (List Token)) → 10
    ∷ spell (joined_rows further further (r ∷ rs)) ≡ after_row (spell further) (map spell (r ∷ rs))
spell-after further r [] = ap (λ xs. 10 ∷ xs) (spell-append further r)
    ∙ ap (λ xs. (10 ∷ spell further) ++ xs) (sym (append-nil (spell r)))
spell-after further r (s ∷ rs) =
    ap (λ xs. 10 ∷ xs) (spell-append (further ++ r) (line_feed ∷ joined_rows further further (s ∷ rs))
    ∙ ap₂ (λ us vs. us ++ vs) (spell-append further r) (spell-after further s rs)
    ∙ append_assoc (spell further) (spell r) (after_row (spell further) (map spell (s ∷ rs))))

pub spell-joined : (first further : List Token) (rs : List (List Token)) → spell (joined_rows first further rs)
    ≡ joined_lines (spell first) (spell further) (map spell rs)
spell-joined first further [] = refl
spell-joined first further (r ∷ []) = spell-append first r ∙ ap (λ xs. spell first ++ xs) (sym (append-nil (spell r)))
spell-joined first further (r ∷ s ∷ rs) =
    spell-append (first ++ r) (line_feed ∷ joined_rows further further (s ∷ rs))
    ∙ ap₂ (λ us vs. us ++ vs) (spell-append first r) (spell-after further s rs)
    ∙ append_assoc (spell first) (spell r) (after_row (spell further) (map spell (s ∷ rs)))

-- ---- what the rows of pieces spell

-- the lines of a piece
abbrev pub piece_lines : Cuts → ℕ → ℕ → TextLine → List (List ℕ)
piece_lines cuts room further p = lines_of p.rest (map row_cells (rows room further (cut_words cuts p.cells)))

-- the lines of pieces
abbrev pub lines_from : Cuts → ℕ → ℕ → List TextLine → List (List ℕ)
lines_from cuts room further [] = []
lines_from cuts room further (p ∷ ps) = piece_lines cuts room further p ++ lines_from cuts further further ps

spell-piece_rows : (cuts : Cuts) (room further : ℕ) (p : TextLine) → map spell (text_line_rows cuts room further p)
    ≡ piece_lines cuts room further p
spell-piece_rows cuts room further p = spell-rows p.rest (rows room further (cut_words cuts p.cells))

pub spell-text_rows : (cuts : Cuts) (room further : ℕ) (ps : List TextLine) → map spell (text_rows cuts room further ps)
    ≡ lines_from cuts room further ps
spell-text_rows cuts room further [] = refl
spell-text_rows cuts room further (p ∷ ps) =
    map-append spell (text_line_rows cuts room further p) (text_rows cuts further further ps)
    ∙ ap₂ (λ us vs. us ++ vs) (spell-piece_rows cuts room further p) (spell-text_rows cuts further further ps)

pub piece-printed : (cuts : Cuts) (room further : ℕ) (indent : List Token) (p : TextLine)
    → spell (joined_rows [] indent (text_line_rows cuts room further p))
    ≡ joined_lines [] (spell indent) (piece_lines cuts room further p)
piece-printed cuts room further indent p = spell-joined [] indent (text_line_rows cuts room further p)
    ∙ ap (joined_lines [] (spell indent)) (spell-piece_rows cuts room further p)

pub text-printed : (cuts : Cuts) (room further : ℕ) (indent : List Token) (ps : List TextLine)
    → spell (joined_rows [] indent (text_rows cuts room further ps))
    ≡ joined_lines [] (spell indent) (lines_from cuts room further ps)
text-printed cuts room further indent ps = spell-joined [] indent (text_rows cuts room further ps)
    ∙ ap (joined_lines [] (spell indent)) (spell-text_rows cuts room further ps)
