-- Rows, packed from the front.
use Rattle.std.proofs.Common.{◌≡◌, ℕ, ◌+◌, Bool, true, false, ◌&&◌, nat_lt, List, [], ◌∷◌, ◌++◌, map, refl, sym, ap}
use Rattle.std.proofs.Common.{ap₂, ◌∙◌, append_assoc, append-nil, if◌then◌else◌, zero-add}
use Rattle.std.proofs.lemmas.List.Sums.{sum_by-append}
use Rattle.miette_text.specs.rules.Wrapping.{Word, columns, word_cells, rows, rows_after}
use Rattle.miette_runs.specs.rules.Cells.{TaggedChar, width}
use Rattle.miette_text.specs.steps.Ends.{row_cells}
use Rattle.miette_lines.specs.rules.Lists.{onto}

abbrev pub pack : Bool → List TaggedChar → ℕ → ℕ → ℕ → List Word → List (List TaggedChar)
pack started row used room further [] = row ∷ []
pack started row used room further (w ∷ ws) =
    if started && nat_lt room (used + columns w.letters) then row
    ∷ pack true (w.letters ++ w.spaces) (columns w.letters + columns w.spaces) further further ws
    else pack true (row ++ w.letters ++ w.spaces) (used + (columns w.letters + columns w.spaces)) room further ws

abbrev glue : List TaggedChar → List (List TaggedChar) → List (List TaggedChar)
glue row [] = row ∷ []
glue row (r ∷ rs) = (row ++ r) ∷ rs

columns-word : (w : Word) → columns (word_cells w) ≡ columns w.letters + columns w.spaces
columns-word w = sum_by-append (λ c. width c.code) w.letters w.spaces

glue-onto : (row : List TaggedChar) (w : Word) (rs : List (List Word)) → glue row (map row_cells (onto w rs))
    ≡ glue (row ++ w.letters ++ w.spaces) (map row_cells rs)
glue-onto row w [] = ap (λ us. (row ++ us) ∷ []) (append-nil (word_cells w))
    ∙ ap (λ us. us ∷ []) (sym (append_assoc row w.letters w.spaces))
glue-onto row w (r ∷ rs) = ap (λ us. us ∷ map row_cells rs)
    (sym (append_assoc row (word_cells w) (row_cells r)) ∙ ap (λ us. us ++ row_cells r)
    (sym (append_assoc row w.letters w.spaces)))

glue-nothing : (w : Word) (rs : List (List Word)) → map row_cells (onto w rs)
    ≡ glue (w.letters ++ w.spaces) (map row_cells rs)
glue-nothing w [] = ap (λ us. us ∷ []) (append-nil (word_cells w))
glue-nothing w (r ∷ rs) = refl

packed : (row : List TaggedChar) (used room further : ℕ) (ws : List Word) → pack true row used room further ws
    ≡ glue row (map row_cells (rows_after used room further ws))
packed row used room further [] = ap (λ us. us ∷ []) (sym (append-nil row))
packed row used room further (w ∷ ws) = elim (nat_lt room (used + columns w.letters)) as (λ b.
    (if b then row ∷ pack true (w.letters ++ w.spaces) (columns w.letters + columns w.spaces) further further ws
    else pack true (row ++ w.letters ++ w.spaces) (used + (columns w.letters + columns w.spaces)) room further ws)
    ≡ glue row (map row_cells (if b then [] ∷ onto w (rows_after (columns (word_cells w)) further further ws)
    else onto w (rows_after (used + columns (word_cells w)) room further ws)))) [
      | true ↦
          ap₂ (λ us vs. us ∷ vs) (sym (append-nil row)) (packed (w.letters ++ w.spaces)
          (columns w.letters + columns w.spaces) further further ws
          ∙ ap (λ n. glue (w.letters ++ w.spaces) (map row_cells (rows_after n further further ws)))
          (sym (columns-word w))
          ∙ sym (glue-nothing w (rows_after (columns (word_cells w)) further further ws)))
      | false ↦
          packed (row ++ w.letters ++ w.spaces) (used + (columns w.letters + columns w.spaces)) room further ws
          ∙ ap (λ n. glue (row ++ w.letters ++ w.spaces) (map row_cells (rows_after (used + n) room further ws)))
          (sym (columns-word w))
          ∙ sym (glue-onto row w (rows_after (used + columns (word_cells w)) room further ws))
    ]

pub pack-rows : (room further : ℕ) (ws : List Word) → pack false [] 0 room further ws
    ≡ map row_cells (rows room further ws)
pack-rows room further [] = refl
pack-rows room further (w ∷ ws) =
    packed (w.letters ++ w.spaces) (0 + (columns w.letters + columns w.spaces)) room further ws
    ∙ ap (λ n. glue (w.letters ++ w.spaces) (map row_cells (rows_after n room further ws)))
    (zero-add (columns w.letters + columns w.spaces) ∙ sym (columns-word w))
    ∙ sym (glue-nothing w (rows_after (columns (word_cells w)) room further ws))
