-- The rows of a fix, from those of its frames.
use Rattle.std.proofs.Common.{ℕ, ◌+◌, ◌-◌, ◌≡◌, true, false, eqb, List, [], ◌∷◌, ◌++◌, Option, Some}
use Rattle.std.proofs.Common.{length, refl, sym, ap, ap₂, ◌∙◌, subst, arith}
use Rattle.std.specs.Prelude.{option_copied}
use Rattle.std.proofs.lemmas.Bool.{eqb-true}
use Rattle.miette_protocol.specs.rules.Reading.{Source, Span}
use Rattle.miette_style.specs.views.Printouts.{Printout, ◌⊕◌}
use Rattle.miette_style.specs.views.Tokens.{rows_tokens}
use Rattle.miette_snippet_rules.specs.rules.Frames.{top_row_of, bottom_row}
use Rattle.miette_snippet_rules.specs.rules.SnippetSettings.{SnippetSettings}
use Rattle.miette_snippet_rules.specs.views.SnippetSettings.{settings_of}
use Rattle.miette_fixes.specs.declared.error.FixError.{FixError}
use Rattle.miette_fixes.specs.rules.Applying.{by_offset, edits_error}
use Rattle.miette_fixes.specs.rules.Edits.{Replacement, end_of}
use Rattle.miette_fixes.specs.views.Ordered.{FitFrom}
use Rattle.miette_fix_rows.specs.rules.DiffFrames.{DiffFrame, frames_from, frames_of}
use Rattle.miette_fix_rows.specs.rules.DiffRows.{fix_rows, frame_rows, frame_width, place_at, rows_of_frames}
use Rattle.miette_fix_rows.specs.rules.DiffRows.{rows_of_diff_lines, fix_rows_unless}
use Rattle.miette_fix_rows.specs.rules.DiffTexts.{deleted_spans, inserted_from, inserted_spans}
use Rattle.miette_fix_rows.specs.rules.Hunks.{Change, Hunk, changes, diff, diff_from}
use Rattle.miette_fix_drawing.specs.declared.frames.FixDrawing.{FixDrawing}
use Rattle.miette_fix_drawing.specs.steps.Framing.{context_over, drawn_frame, drawn_frames}
use Rattle.miette_fix_drawing.specs.steps.Spans.{AreApart, AreApartFrom}
use Rattle.miette_fix_drawing.specs.views.Frames.{first_position}

-- ---- what edits delete and insert

deleted_from : (n at : ℕ) (edits : List Replacement) → FitFrom n at edits → AreApartFrom at (deleted_spans edits)
deleted_from n at [] h = tt
deleted_from n at (edit ∷ edits) h = (h.0, deleted_from n (end_of edit) edits h.2)

pub deleted_apart : (n : ℕ) (edits : List Replacement) (spans : List Span) → FitFrom n 0 edits
    → spans ≡ deleted_spans edits → AreApart spans
deleted_apart n edits spans h e = subst (AreApartFrom 0) (sym e) (deleted_from n 0 edits h)

inserted_apart_from : (old new : ℕ) (edits : List Replacement) → AreApartFrom new (inserted_from old new edits)
inserted_apart_from old new [] = tt
inserted_apart_from old new (edit ∷ edits) = (
  omega arith,
  inserted_apart_from (end_of edit) (new + (edit.span.offset - old) + length edit.text) edits,
)

pub inserted_apart : (edits : List Replacement) (spans : List Span) → spans ≡ inserted_spans edits → AreApart spans
inserted_apart edits spans e = subst (AreApartFrom 0) (sym e) (inserted_apart_from 0 0 edits)

-- ---- the frames

frame_is : (drawing : FixDrawing) (whole : Source) (edits : List Replacement) (frame : DiffFrame)
    → whole.bytes ≡ drawing.source.now → whole.name ≡ option_copied drawing.name
    → drawing.deleted.now ≡ deleted_spans edits → drawing.inserted.now ≡ inserted_spans edits
    → drawn_frame drawing frame ≡ frame_rows (settings_of drawing.settings) whole edits frame
frame_is drawing whole edits frame bytes name deleted inserted =
    let s : SnippetSettings = settings_of drawing.settings in
    let w : ℕ = frame_width frame in
    ap₂ (λ n bs. top_row_of s w n true (Some (place_at bs frame.place))
    ∷ rows_of_diff_lines (context_over drawing w) frame.at frame.lines ++ bottom_row s w ∷ []) (sym name) (sym bytes)
    ∙ ap₂ (λ ds is. top_row_of s w whole.name true (Some (place_at whole.bytes frame.place))
    ∷ rows_of_diff_lines (record { settings = s; number_width = w; deleted = ds; inserted = is }) frame.at frame.lines
    ++ bottom_row s w ∷ []) deleted inserted

drawn_are : (drawing : FixDrawing) (whole : Source) (edits : List Replacement) (frames : List DiffFrame)
    → whole.bytes ≡ drawing.source.now → whole.name ≡ option_copied drawing.name
    → drawing.deleted.now ≡ deleted_spans edits → drawing.inserted.now ≡ inserted_spans edits
    → drawn_frames drawing frames ≡ rows_of_frames (settings_of drawing.settings) whole edits frames
drawn_are drawing whole edits [] bytes name deleted inserted = refl
drawn_are drawing whole edits (frame ∷ frames) bytes name deleted inserted =
    ap₂ (λ rs ss. rs ++ ss) (frame_is drawing whole edits frame bytes name deleted inserted)
    (drawn_are drawing whole edits frames bytes name deleted inserted)

-- the frames of what edits change
pub drawn_put : (drawing : FixDrawing) (whole : Source) (edits : List Replacement) (made : List Change)
    (hunks : List Hunk) (after : List (List ℕ)) (p n : Printout)
    → whole.bytes ≡ drawing.source.now → whole.name ≡ option_copied drawing.name
    → drawing.deleted.now ≡ deleted_spans (by_offset edits) → drawing.inserted.now ≡ inserted_spans (by_offset edits)
    → made ≡ changes drawing.source.now edits → hunks ≡ (diff_from drawing.source.now 0 made).hunks
    → after ≡ (diff_from drawing.source.now 0 made).after_hunks
    → n ≡ p ⊕ rows_tokens (drawn_frames drawing
    (frames_from drawing.settings.layout.now.context_lines after false first_position hunks))
    → n ≡ p ⊕ rows_tokens (rows_of_frames (settings_of drawing.settings) whole (by_offset edits)
    (frames_of (settings_of drawing.settings).layout.context_lines (diff whole.bytes edits)))
drawn_put drawing whole edits made hunks after p n bytes name deleted inserted c h b put =
    let k : ℕ = drawing.settings.layout.now.context_lines in
    put
    ∙ ap₂ (λ ls hs. p ⊕ rows_tokens (drawn_frames drawing (frames_from k ls false first_position hs))) b h
    ∙ ap (λ cs. p ⊕ rows_tokens (drawn_frames drawing (frames_of k (diff_from drawing.source.now 0 cs)))) c
    ∙ ap (λ bs. p ⊕ rows_tokens (drawn_frames drawing (frames_of k (diff bs edits)))) (sym bytes)
    ∙ ap (λ rs. p ⊕ rows_tokens rs) (drawn_are drawing whole (by_offset edits) (frames_of k (diff whole.bytes edits))
    bytes name deleted inserted)

-- ---- the rows of a fix

rows_by : (s : SnippetSettings) (whole : Source) (edits : List Replacement) (r : Option FixError)
    → eqb (length edits) 0 ≡ false → edits_error (length whole.bytes) edits ≡ r
    → fix_rows_unless s whole edits r ≡ fix_rows s whole false edits
rows_by s whole [] r some h = absurd (cc)
rows_by s whole (edit ∷ edits) r some h = ap (fix_rows_unless s whole (edit ∷ edits)) (sym h)

no_rows : (s : SnippetSettings) (whole : Source) (edits : List Replacement) (p : Printout)
    → eqb (length edits) 0 ≡ true → p ≡ p ⊕ rows_tokens (fix_rows s whole false edits)
no_rows s whole [] p none = refl
no_rows s whole (edit ∷ edits) p none =
    absurd (let z : length (edit ∷ edits) ≡ 0 = eqb-true (length (edit ∷ edits)) 0 none in omega (arith, z))

pub no_edit_drawn : (s : SnippetSettings) (whole : Source) (given edits : List Replacement) (p : Printout)
    → given ≡ edits → eqb (length given) 0 ≡ true → p ≡ p ⊕ rows_tokens (fix_rows s whole false edits)
no_edit_drawn s whole given edits p g e = no_rows s whole edits p (sym (ap (λ es. eqb (length es) 0) g) ∙ e)

pub edits_drawn : (s : SnippetSettings) (whole : Source) (bytes : List ℕ) (size : ℕ)
    (given again edits : List Replacement) (r : Option FixError) (p n : Printout) → given ≡ edits → eqb (length given) 0
    ≡ false → whole.bytes ≡ bytes
    → size ≡ length bytes → again ≡ edits → edits_error size again ≡ r → n
    ≡ p ⊕ rows_tokens (fix_rows_unless s whole edits r)
    → n ≡ p ⊕ rows_tokens (fix_rows s whole false edits)
edits_drawn s whole bytes size given again edits r p n g e b k a h put =
    put ∙ ap (λ rs. p ⊕ rows_tokens rs) (rows_by s whole edits r (sym (ap (λ es. eqb (length es) 0) g) ∙ e)
    (ap (λ bs. edits_error (length bs) edits) b ∙ ap₂ edits_error (sym k) (sym a) ∙ h))
