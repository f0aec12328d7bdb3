-- What is printed after a text as its rows are made is what these rows print.
use Rattle.std.proofs.Common.{◌≡◌, ℕ, List, [], ◌∷◌, ◌++◌, map, sym, ap, ◌∙◌, append_assoc, append-nil}
use Rattle.miette_runs.specs.rules.Runs.{print, printed_run}
use Rattle.miette_style.specs.rules.Codes.{style_codes, colour_start, colour_stop}
use Rattle.miette_style.specs.declared.style.Style.{Style}
use Rattle.miette_style.specs.rules.Rows.{Row}
use Rattle.miette_style.specs.views.Printouts.{Printout, printout_of, start_of, stop_of, ended_text, put, ◌⊕◌}
use Rattle.miette_style.specs.views.Tokens.{begins, row_end, row_tokens, run_tokens, rows_tokens, styled_tokens}
use Rattle.miette_style.proofs.Paging.{put_append, text_put}
use Rattle.miette_graphical_rules.specs.rules.DiagnosticText.{rows_text}
use Rattle.miette_graphical_rules.proofs.RowTexts.{run_codes}
use Rattle.miette_graphical_rules.specs.rules.Snippets.{run_text, runs_of_row}

grouped : (a b c d : List ℕ) → ((a ++ b) ++ c) ++ d ≡ a ++ ((b ++ c) ++ d)
grouped a b c d = ap (λ x. x ++ d) (append_assoc a b c) ∙ append_assoc a (b ++ c) d

-- the characters of a run between what begins and ends its style
between_by : (text : List ℕ) (style : Style) (c : ℕ) (cs : List ℕ) (codes : List (List ℕ)) →
    ((text ++ elim codes [ [] ↦ [] | x ∷ xs ↦ colour_start style ]) ++ c ∷ cs)
    ++ elim codes [ [] ↦ [] | x ∷ xs ↦ colour_stop ]
    ≡ text ++ elim codes [ [] ↦ c ∷ cs | x ∷ xs ↦ colour_start style ++ (c ∷ cs) ++ colour_stop ]
between_by text style c cs [] = append-nil ((text ++ []) ++ c ∷ cs) ∙ ap (λ t. t ++ c ∷ cs) (append-nil text)
between_by text style c cs (x ∷ xs) = grouped text (colour_start style) (c ∷ cs) colour_stop

between : (text : List ℕ) (style : Style) (c : ℕ) (cs : List ℕ) → ((text ++ start_of style) ++ c ∷ cs) ++ stop_of style
    ≡ text ++ printed_run style (c ∷ cs)
between text style c cs = between_by text style c cs (style_codes style)

-- a run
run_put : (p : Printout) (style : Style) (codes : List ℕ) → ended_text (p ⊕ styled_tokens style codes) ≡ ended_text p
    ++ printed_run style codes
run_put p style [] = sym (append-nil (ended_text p))
run_put p style (c ∷ cs) = ap ended_text (text_put (put p (begins style)) c cs) ∙ between (ended_text p) style c cs

-- a row without its end
row_put : (p : Printout) (row : Row) → ended_text (p ⊕ row_tokens row) ≡ ended_text p ++ print (runs_of_row row)
row_put p [] = sym (append-nil (ended_text p))
row_put p (run ∷ row) =
    ap ended_text (sym (put_append p (run_tokens run) (row_tokens row)))
    ∙ row_put (p ⊕ run_tokens run) row
    ∙ ap (λ t. t ++ print (runs_of_row row)) (run_put p run.style (map (λ p. p.code) run.glyphs)
    ∙ ap (λ codes. ended_text p ++ printed_run run.style codes) (sym (run_codes run)))
    ∙ append_assoc (ended_text p) (printed_run run.style (run_text run)) (print (runs_of_row row))

-- rows, where a row begins
pub rows_printed : (text : List ℕ) (rows : List Row) → ended_text (printout_of text ⊕ rows_tokens rows) ≡ text
    ++ rows_text (map runs_of_row rows)
rows_printed text [] = sym (append-nil text)
rows_printed text (row ∷ rows) =
    ap ended_text (sym (put_append (printout_of text) (row_tokens row) (row_end ∷ rows_tokens rows)))
    ∙ rows_printed (ended_text (printout_of text ⊕ row_tokens row) ++ 10 ∷ []) rows
    ∙ ap (λ t. (t ++ 10 ∷ []) ++ rows_text (map runs_of_row rows)) (row_put (printout_of text) row)
    ∙ append_assoc (text ++ print (runs_of_row row)) (10 ∷ []) (rows_text (map runs_of_row rows))
    ∙ append_assoc text (print (runs_of_row row)) (10 ∷ rows_text (map runs_of_row rows))
    ∙ ap (λ t. text ++ t) (sym (append_assoc (print (runs_of_row row)) (10 ∷ []) (rows_text (map runs_of_row rows))))
