-- The parts of spans in a line, and the row of their marks.
use Rattle.miette_style.specs.views.Printouts.{Printout, ◌⊕◌}
use Rattle.std.proofs.Common.{ℕ, zero, suc, ◌+◌, ◌-◌, ◌<◌, ◌≤◌, ◌≡◌, Bool, true, false, cond, List, [], ◌∷◌, ◌++◌, map}
use Rattle.std.proofs.Common.{length, drop, get_or, replicate, refl, sym, ap, ◌∙◌, append_assoc, append-nil, arith}
use Rattle.std.proofs.lemmas.List.{at_drop_more, at_drop_all, map-append}
use Rattle.miette_style.specs.declared.style.Style.{Style}
use Rattle.miette_style.specs.rules.Styles.{plain}
use Rattle.miette_protocol.specs.rules.Reading.{Span}
use Rattle.miette_style.specs.rules.Rows.{Row, Run, glyph_of}
use Rattle.miette_style.specs.views.Tokens.{RowToken, begins, row_end, row_tokens, rows_tokens, run_tokens}
use Rattle.miette_style.specs.views.Tokens.{styled_tokens}
use Rattle.miette_style.specs.views.Tokens.{text_tokens}
use Rattle.miette_style.proofs.Paging.{put_append, put_nil}
use Rattle.miette_labels.specs.declared.placed.PlacedLabel.{PlacedLabel}
use Rattle.miette_labels.specs.rules.Labels.{DrawnLabel}
use Rattle.miette_labels.specs.views.ProgramLabels.{drawn_of}
use Rattle.miette_snippet_rules.specs.declared.underlines.Underline.{Underline as MadeUnderline}
use Rattle.miette_snippet_rules.specs.rules.LabelRows.{blank}
use Rattle.miette_snippet_rules.specs.rules.Frames.{other_start}
use Rattle.miette_snippet_rules.specs.rules.SnippetSettings.{SnippetSettings}
use Rattle.miette_snippet_rules.specs.views.MadeUnderlines.{underline_of}
use Rattle.miette_snippet_rules.proofs.RowTokens.{then, blank_told}
use Rattle.miette_snippet_frames.proofs.TextRows.{parts_then, row_done}
use Rattle.miette_fix_rows.specs.rules.DiffRows.{before_some, row_if_some}
use Rattle.miette_fix_rows.specs.rules.DiffTexts.{has_bytes, part_in, parts_in, sign_runs}

-- a part more, if it has a byte
part_put : (b : Bool) (items : List PlacedLabel) (part : PlacedLabel) (rest : List DrawnLabel)
    → map drawn_of (items ++ cond b (part ∷ []) []) ++ rest ≡ map drawn_of items ++ cond b (drawn_of part ∷ rest) rest
part_put true items part rest =
    ap (λ xs. xs ++ rest) (map-append drawn_of items (part ∷ []))
    ∙ append_assoc (map drawn_of items) (drawn_of part ∷ []) rest
part_put false items part rest = ap (λ xs. map drawn_of xs ++ rest) (append-nil items)

pub parts_more : (start bytes : ℕ) (style : Style) (spans : List Span) (i : ℕ) (d : Span) (items new : List PlacedLabel)
    (part : PlacedLabel) (whole : List DrawnLabel) → i < length spans
    → drawn_of part ≡ part_in start bytes style (get_or spans i d)
    → new ≡ items ++ cond (has_bytes (drawn_of part)) (part ∷ []) []
    → map drawn_of items ++ parts_in start bytes style (drop i spans) ≡ whole
    → map drawn_of new ++ parts_in start bytes style (drop (i + 1) spans) ≡ whole
parts_more start bytes style spans i d items new part whole lt p n inv =
    let rest : List DrawnLabel = parts_in start bytes style (drop (i + 1) spans) in
    ap (λ xs. map drawn_of xs ++ rest) n ∙ part_put (has_bytes (drawn_of part)) items part rest
    ∙ ap (λ (x : DrawnLabel). map drawn_of items ++ cond (has_bytes x) (x ∷ rest) rest) p
    ∙ ap (λ xs. map drawn_of items ++ xs) (sym (at_drop_more (parts_in start bytes style) spans i d lt)) ∙ inv

pub parts_end : (items : List PlacedLabel) (rest whole : List DrawnLabel) → rest ≡ []
    → map drawn_of items ++ rest ≡ whole → map drawn_of items ≡ whole
parts_end items rest whole e inv =
    sym (append-nil (map drawn_of items)) ∙ ap (λ xs. map drawn_of items ++ xs) (sym e) ∙ inv

-- ---- the row of marks

codes_same : (w : ℕ → ℕ) (many code : ℕ) → map (λ p. p.code) (replicate many (glyph_of w code)) ≡ replicate many code
codes_same w zero code = refl
codes_same w (suc many) code = ap (λ r. code ∷ r) (codes_same w many code)

pub sign_more : (v : SnippetSettings) (sign : ℕ) (marks : List MadeUnderline) (i reached gap many : ℕ)
    (d : MadeUnderline)
    (row spaced begun new whole : Printout) → i < length marks → gap ≡ (get_or marks i d).from - reached
    → many ≡ (get_or marks i d).until - (get_or marks i d).from → spaced ≡ row ⊕ styled_tokens plain (replicate gap 32)
    → begun ≡ spaced ⊕ begins (get_or marks i d).label.style ∷ [] → new ≡ begun ⊕ text_tokens (replicate many sign)
    → row ⊕ row_tokens (sign_runs v sign reached (map underline_of (drop i marks))) ≡ whole
    → new ⊕ row_tokens (sign_runs v sign (get_or marks i d).until (map underline_of (drop (i + 1) marks))) ≡ whole
sign_more v sign marks i reached gap many d row spaced begun new whole lt z k s b n h =
    let m : MadeUnderline = get_or marks i d in
    let run : Run = record { style = m.label.style; glyphs = replicate (m.until - m.from) (glyph_of v.width sign) } in
    let signs : List RowToken = styled_tokens m.label.style (replicate (m.until - m.from) sign) in
    let rest : List RowToken = row_tokens (sign_runs v sign m.until (map underline_of (drop (i + 1) marks))) in
    let put : new ≡ spaced ⊕ signs =
    then spaced (begins m.label.style ∷ []) (text_tokens (replicate many sign)) b n
    ∙ ap (λ x. spaced ⊕ styled_tokens m.label.style (replicate x sign)) k in
    ap (λ r. r ⊕ rest) (put ∙ ap (λ r. r ⊕ signs) (s ∙ ap (λ x. row ⊕ styled_tokens plain (replicate x 32)) z))
    ∙ put_append (row ⊕ styled_tokens plain (replicate (m.from - reached) 32)) signs rest
    ∙ put_append row (styled_tokens plain (replicate (m.from - reached) 32)) (signs ++ rest)
    ∙ ap (λ r. row ⊕ (r ++ (signs ++ rest))) (sym (blank_told v (m.from - reached)))
    ∙ ap (λ r. row ⊕ (run_tokens (blank v (m.from - reached)) ++ (r ++ rest)))
    (ap (styled_tokens m.label.style) (sym (codes_same v.width (m.until - m.from) sign)))
    ∙ ap (λ xs. row ⊕ row_tokens (sign_runs v sign reached xs)) (sym (at_drop_more (map underline_of) marks i d lt))
    ∙ h

pub sign_end : (v : SnippetSettings) (sign : ℕ) (marks : List MadeUnderline) (i reached : ℕ) (row whole : Printout)
    → length marks ≤ i → row ⊕ row_tokens (sign_runs v sign reached (map underline_of (drop i marks))) ≡ whole → row
    ≡ whole
sign_end v sign marks i reached row whole le h =
    sym (put_nil row)
    ∙ ap (λ xs. row ⊕ row_tokens (sign_runs v sign reached xs)) (sym (at_drop_all (map underline_of) marks i le)) ∙ h

pub no_marks_put : (s : SnippetSettings) (w sign : ℕ) (marks : List MadeUnderline) (p : Printout) → length marks ≡ 0
    → p ≡ p ⊕ rows_tokens (before_some (other_start s w) (row_if_some (sign_runs s sign 0 (map underline_of marks))))
no_marks_put s w sign [] p e = refl
no_marks_put s w sign (m ∷ ms) p e = absurd (omega (arith, e))

pub marks_put : (s : SnippetSettings) (w sign : ℕ) (marks : List MadeUnderline) (p a b n : Printout) → 0 < length marks
    → a ≡ p ⊕ row_tokens (other_start s w) → b ≡ a ⊕ row_tokens (sign_runs s sign 0 (map underline_of marks))
    → n ≡ b ⊕ row_end ∷ []
    → n ≡ p ⊕ rows_tokens (before_some (other_start s w) (row_if_some (sign_runs s sign 0 (map underline_of marks))))
marks_put s w sign [] p a b n some ha hb hn = absurd (omega (arith, some))
marks_put s w sign (m ∷ ms) p a b n some ha hb hn =
    let row : Row = sign_runs s sign 0 (map underline_of (m ∷ ms)) in
    row_done (other_start s w ++ row) p b n (parts_then (other_start s w) row p a b ha hb) hn
