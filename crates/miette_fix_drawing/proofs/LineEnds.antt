-- The ends of a line, span by span.
use Rattle.std.proofs.Common.{ℕ, ◌+◌, ◌<◌, ◌≡◌, Bool, true, false, cond, List, [], ◌∷◌, ◌++◌, length, drop, get_or}
use Rattle.std.proofs.Common.{refl, sym, ap, ◌∙◌, append_assoc, append-nil}
use Rattle.std.specs.List.{filter}
use Rattle.std.proofs.lemmas.List.{at_drop_more}
use Rattle.miette_protocol.specs.rules.Reading.{Span}
use Rattle.miette_labels.specs.rules.Labels.{DrawnLabel}
use Rattle.miette_style.specs.rules.Styles.{plain}
use Rattle.miette_snippet_rules.specs.rules.Underlines.{MeasuredText, marks}
use Rattle.miette_snippet_rules.specs.rules.SnippetSettings.{SnippetSettings}
use Rattle.miette_fix_rows.specs.rules.DiffTexts.{edit_column, ends_at, edit_ends, has_bytes, measured_line, part_in}
use Rattle.miette_fix_drawing.specs.steps.Ends.{all_ends, span_ends}

ends_put : (text : MeasuredText) (start bytes : ℕ) (b : Bool) (s : Span) (ss : List Span)
    → cond b (span_ends text start bytes s) [] ++ all_ends text start bytes ss
    ≡ all_ends text start bytes (cond b (s ∷ ss) ss)
ends_put text start bytes true s ss = refl
ends_put text start bytes false s ss = refl

pub ends_more : (text : MeasuredText) (start bytes : ℕ) (on : Span → Bool) (spans : List Span) (i : ℕ) (d : Span)
    (items new whole : List ℕ) → i < length spans
    → new ≡ items ++ cond (on (get_or spans i d)) (span_ends text start bytes (get_or spans i d)) []
    → items ++ all_ends text start bytes (filter on (drop i spans)) ≡ whole
    → new ++ all_ends text start bytes (filter on (drop (i + 1) spans)) ≡ whole
ends_more text start bytes on spans i d items new whole lt n inv =
    let s : Span = get_or spans i d in
    let ss : List Span = filter on (drop (i + 1) spans) in
    let own : List ℕ = cond (on s) (span_ends text start bytes s) [] in
    ap (λ xs. xs ++ all_ends text start bytes ss) n ∙ append_assoc items own (all_ends text start bytes ss)
    ∙ ap (λ xs. items ++ xs) (ends_put text start bytes (on s) s ss)
    ∙ ap (λ xs. items ++ all_ends text start bytes xs) (sym (at_drop_more (filter on) spans i d lt)) ∙ inv

pub ends_end : (items rest whole : List ℕ) → rest ≡ [] → items ++ rest ≡ whole → items ≡ whole
ends_end items rest whole e inv = sym (append-nil items) ∙ ap (λ xs. items ++ xs) (sym e) ∙ inv

-- the ends of all spans of a line are those of each
alike : (text : MeasuredText) (part : DrawnLabel) (b : Bool) (none : List ℕ)
    → cond b (ends_at (marks text (part ∷ []))) none ≡ cond b (ends_at (marks text (cond b (part ∷ []) []))) none
alike text part true none = refl
alike text part false none = refl

pub all_alike : (s : SnippetSettings) (start : ℕ) (line : List ℕ) (spans : List Span)
    → all_ends (measured_line s start line) start (length line) spans ≡ edit_ends s start line spans
all_alike s start line [] = refl
all_alike s start line (span ∷ spans) =
    let text : MeasuredText = measured_line s start line in
    let part : DrawnLabel = part_in start (length line) plain span in
    let none : List ℕ = edit_column s start line span ∷ [] in
    ap (λ xs. xs ++ all_ends text start (length line) spans) (alike text part (has_bytes part) none)
    ∙ ap (λ xs. cond (has_bytes part) (ends_at (marks text (cond (has_bytes part) (part ∷ []) []))) none ++ xs)
    (all_alike s start line spans)
