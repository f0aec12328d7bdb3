-- A highlighter without a state answers each line by itself. So where every source always reads, the text is the one
-- under the answers by line.
use Rattle.std.proofs.Common.{◌≡◌, ℕ, ◌+◌, Bool, true, false, List, [], ◌∷◌, ◌++◌, map, length, refl, sym, ap, ap₂}
use Rattle.std.proofs.Common.{subst, ◌∙◌, Option, Some, None, is_some, option_map, append-nil, if◌then◌else◌, Result}
use Rattle.std.proofs.Common.{Ok, Err, OnOk, encode_utf8_all, drop}
use Rattle.std.proofs.lemmas.Bool.{and_parts}
use Rattle.miette_lines.specs.rules.Lines.{Line}
use Rattle.miette_runs.specs.rules.Cutting.{trim_trailing_feeds}
use Rattle.miette_protocol.specs.views.Meaning.{Label}
use Rattle.miette_tree.specs.rules.Diagnosis.{Diagnosis}
use Rattle.miette_protocol.specs.rules.Reading.{Source, Span, Contents}
use Rattle.miette_protocol.specs.declared.protocol.Severity.{Severity}
use Rattle.miette_highlight.specs.rules.HighlighterCalls.{Call, Leads, AnsweredBy, asked, restarted}
use Rattle.miette_highlight.specs.rules.HighlighterCalls.{listed_pieces as counted}
use Rattle.miette_highlight.specs.rules.Pieces.{StyledPiece}
use Rattle.miette_labels.specs.rules.Answers.{Highlight, first_of}
use Rattle.miette_labels.specs.rules.Around.{group_context}
use Rattle.miette_labels.specs.rules.Contexts.{contents, lines_of_contents}
use Rattle.miette_labels.specs.rules.Groups.{Refusal, first_refusal, groups_of, in_order}
use Rattle.miette_labels.specs.rules.Labels.{DrawnLabel}
use Rattle.miette_snippet_rules.specs.rules.FoldedLabels.{LabelExtent, extents_of_labels}
use Rattle.miette_snippet_rules.specs.rules.SnippetSettings as snippets
use Rattle.miette_snippet_rules.specs.rules.Frames.{refused_row, top_row, bottom_row, number_width}
use Rattle.miette_snippet_rules.specs.rules.Gutters.{gutter_columns}
use Rattle.miette_snippet_rules.specs.rules.Highlighting.{group_calls, highlight_of, line_calls, piece_of, pieces_by}
use Rattle.miette_snippet_rules.specs.rules.Highlighting.{texts_of}
use Rattle.miette_snippet_rules.specs.rules.SnippetLayout.{all_snippets, cells_of, drawn_labels, left_out}
use Rattle.miette_snippet_rules.specs.rules.SnippetLayout.{line_or_break, place_of, rows_of_lines, rows_unless}
use Rattle.miette_snippet_rules.specs.rules.SnippetLayout.{end_settings, settings_around}
use Rattle.miette_tree.specs.rules.Tree.{Tree, tree, Cause, diagnostic, texts, Trees, no_trees, more_trees, effective}
use Rattle.miette_tree.specs.rules.Reads.{always_reads}
use Rattle.miette_tree.specs.views.Handler.{AppendsOne}
use Rattle.miette_graphical_rules.specs.rules.PossibleAnswers.{IsTextByCalls, AreAnswers, AreCauseAnswers}
use Rattle.miette_graphical_rules.specs.rules.PossibleAnswers.{AreRelatedAnswers}
use Rattle.miette_graphical_rules.specs.rules.PossibleAnswers.{AreAnswersOver, IsAnswer}
use Rattle.miette_graphical_rules.specs.rules.Answers.{DiagnosticAnswer, Answers, RelatedAnswers, SourceAnswer}
use Rattle.miette_graphical_rules.specs.rules.Answers.{SourceAnswers}
use Rattle.miette_graphical_rules.specs.rules.Answers.{first_source}
use Rattle.miette_graphical_rules.specs.rules.Answers.{pieces_listed, own_answer}
use Rattle.miette_graphical_rules.specs.rules.Answers.{cause_answers, related_answers, first_answers, later_answers}
use Rattle.miette_graphical_rules.specs.rules.ByLine.{answers_by, causes_by, labels_by, own_by, related_by, source_by}
use Rattle.miette_graphical_rules.specs.rules.ByLine.{sources_by}
use Rattle.miette_graphical_rules.specs.rules.Calls.{calls_over, cause_calls, own_calls, related_calls, report_calls}
use Rattle.miette_graphical_rules.specs.rules.Calls.{source_calls}
use Rattle.miette_graphical_rules.specs.rules.Indents.{narrow_settings}
use Rattle.miette_graphical_rules.specs.rules.DiagnosticText.{fixes_text, help_text, rows_text, title_text, under_arrow}
use Rattle.miette_graphical_rules.specs.rules.PrintedDiagnostics.{all_read, diagnostics_of, over, printed_causes}
use Rattle.miette_graphical_rules.specs.rules.PrintedDiagnostics.{printed_related, reads_all}
use Rattle.miette_graphical_rules.specs.rules.GraphicalSettings.{GraphicalSettings}
use Rattle.miette_graphical_rules.specs.rules.Snippets.{drawn_fix, rows_over, snippet_settings, shown_rows, source_rows}
use Rattle.miette_graphical_rules.specs.rules.Snippets.{whole_drawing}
use Rattle.miette_graphical_rules.specs.rules.Sources.{LabelledSource, after_labels, drawn_with, snippets_after}
use Rattle.miette_graphical_rules.specs.rules.Sources.{reads_for, snippets_with, sources_of, sources_read}
use Rattle.miette_graphical_rules.specs.rules.Text.{are_last, body_over, causes_text, drawn_text, ends_there}
use Rattle.miette_graphical_rules.specs.rules.Text.{inner_over}
use Rattle.miette_graphical_rules.specs.rules.Text.{only_if, related_text, report_text}
use Rattle.miette_graphical_rules.proofs.GroupRows.{groups_given, none_listed}
use Rattle.miette_graphical_rules.proofs.Lists.{both_read}
use Rattle.miette_graphical_rules.proofs.Outermost.{if_same, report_over}
use Rattle.miette_graphical_rules.specs.steps.PrintedParts.{printed_inner, printed_sibling}
use Rattle.miette_snippet_rules.specs.rules.SnippetLayout.{snippet_context}

-- ---- the calls of parts

parts_by : (f : List ℕ → List StyledPiece) (xs ys : List Call) → AnsweredBy f (xs ++ ys) → AnsweredBy f xs
    × AnsweredBy f ys
parts_by f [] ys h = (tt, h)
parts_by f (restarted read ∷ xs) ys h = parts_by f xs ys h
parts_by f (asked line pieces ∷ xs) ys h = let k = parts_by f xs ys h.1 in ((h.0, k.0), k.1)

-- ---- rows

same_highlights : (hs : List Highlight) → map highlight_of (map piece_of hs) ≡ hs
same_highlights [] = refl
same_highlights (h ∷ hs) = ap (λ r. h ∷ r) (same_highlights hs)

lines_by : (f : List ℕ → List StyledPiece) (out : ℕ → Line → Bool) (gap : Bool) (s : snippets.SnippetSettings)
    (w columns : ℕ)
    (labels : List DrawnLabel) (source : List ℕ) (number : ℕ) (pieces : List (List Highlight)) (ls : List Line)
    → AnsweredBy f (line_calls (texts_of source ls) pieces) →
    rows_of_lines out gap (snippet_context s w columns labels (cells_of s source)) number pieces ls
    ≡ rows_of_lines out gap (snippet_context s w columns labels (cells_of s source)) number
    (map (λ text. map highlight_of (counted (f text))) (texts_of source ls)) ls
lines_by f out gap s w columns labels source number pieces [] h = refl
lines_by f out gap s w columns labels source number pieces (l ∷ ls) h =
    ap₂ (λ p r. line_or_break gap (out number l) (snippet_context s w columns labels (cells_of s source)) l number p
    ++ r)
    (sym (same_highlights (first_of pieces)) ∙ ap (map highlight_of) h.0)
    (lines_by f out (out number l) s w columns labels source (number + 1) (drop 1 pieces) ls h.1)

snippets_by : (f : List ℕ → List StyledPiece) (s : snippets.SnippetSettings) (label_extents : List LabelExtent)
    (source : Source)
    (labels : List Label) (pieces : List (List (List Highlight))) (groups : List Span)
    → AnsweredBy f (group_calls s.layout.context_lines source groups pieces) →
    all_snippets s label_extents source labels pieces groups ≡ all_snippets s label_extents source labels
    (pieces_by f s.layout.context_lines source groups) groups
snippets_by f s label_extents source labels pieces [] h = refl
snippets_by f s label_extents source labels pieces (group ∷ groups) h =
    let held : Contents = contents s.layout.context_lines source group in
    let drawn : List DrawnLabel = drawn_labels s (length source.bytes) labels in
    let k = parts_by f (line_calls (texts_of source.bytes (lines_of_contents held)) (first_of pieces))
    (group_calls s.layout.context_lines source groups (drop 1 pieces)) h in
    ap₂ (λ rows more. (top_row s held (place_of source group labels) ∷ rows ++ bottom_row s (number_width held) ∷ [])
    ++ more)
    (lines_by f (left_out s held.line (lines_of_contents held) label_extents) false s (number_width held)
    (gutter_columns drawn (lines_of_contents held)) drawn source.bytes (held.line + 1) (first_of pieces)
    (lines_of_contents held) k.0)
    (snippets_by f s label_extents source labels (drop 1 pieces) groups k.1)

unless_by : (f : List ℕ → List StyledPiece) (l : snippets.SnippetSettings) (source : Source) (labels : List Label)
    (pieces : List (List (List Highlight))) (refused : Option Refusal) →
    AnsweredBy f (if is_some refused then [] else group_calls (group_context l.layout.context_lines labels) source
    (groups_of l.layout.context_lines source [] labels) pieces) →
    rows_unless l source labels (pieces_listed pieces) (option_map (refused_row l) refused)
    ≡ rows_unless l source labels (labels_by f l.layout.context_lines source labels)
    (option_map (refused_row l) refused)
unless_by f l source labels pieces (Some r) h = refl
unless_by f l source labels pieces None h =
    let groups = groups_of l.layout.context_lines source [] labels in
    let others = pieces_by f (group_context l.layout.context_lines labels) source groups in
    groups_given l source labels (pieces_listed pieces) (none_listed pieces)
    ∙ ap Some (snippets_by f (settings_around l labels) (extents_of_labels l.layout.label_lines l.layout.context_lines
    source
    labels) source labels
    pieces groups h)
    ∙ sym (groups_given l source labels (pieces_listed others) (none_listed others))

-- the rows over one source, where no read of it failed
source_rows_by : (f : List ℕ → List StyledPiece) (s : GraphicalSettings) (source : Option Source) (labels : List Label)
    (a : SourceAnswer) → a ≡ pieces_listed a.pieces
    → AnsweredBy f (source_calls s.layout source labels a)
    → source_rows s source labels a ≡ source_rows s source labels (source_by f s.layout source labels)
source_rows_by f s None labels a e h = refl
source_rows_by f s (Some source) labels a e h =
    let l = end_settings (snippet_settings s) false source labels in
    ap (λ x. source_rows s (Some source) labels x) e
    ∙ ap shown_rows (unless_by f l source (in_order labels) a.pieces (first_refusal source.bytes [] (in_order labels))
    (subst (λ x. AnsweredBy f (source_calls s.layout (Some source) labels x)) e h))

-- over several, in whatever settings answers are possible for them
over_by : (f : List ℕ → List StyledPiece) (l : snippets.SnippetSettings) (blank : Bool) (s : GraphicalSettings)
    (sources : List LabelledSource) (a : SourceAnswers) → AreAnswersOver l blank sources a → sources_read sources ≡ true
    → AnsweredBy f (calls_over s.layout sources a)
    → rows_over s sources a ≡ rows_over s sources (sources_by f s.layout sources)
over_by f l blank s [] a h e b = refl
over_by f l blank s (it ∷ more) a h e b =
    let p = and_parts (always_reads it.source it.labels) (sources_read more) e in
    let k = parts_by f (source_calls s.layout it.source it.labels (first_source a))
    (calls_over s.layout more (drop 1 a)) b in
    ap₂ (λ x y. x ++ y)
    (source_rows_by f s it.source it.labels (first_source a) (h.0.read p.0) k.0)
    (over_by f (snippets_after (length it.labels) l) blank (after_labels (length it.labels) s) more (drop 1 a) h.1 p.1
    k.1)

-- what is drawn of a diagnostic
rows_by : (f : List ℕ → List StyledPiece) (l : snippets.SnippetSettings) (blank : Bool) (s : GraphicalSettings)
    (source : Option Source) (m : Diagnosis) (a : DiagnosticAnswer) → IsAnswer l blank source m a
    → reads_all (over source m) ≡ true → AnsweredBy f (own_calls s.layout source m a) →
    drawn_text whole_drawing s m source a
    ≡ drawn_text whole_drawing s m source (own_by f s.layout source m)
rows_by f l blank s source m a h e b =
    let p = and_parts (sources_read (sources_of source m)) (reads_for source m.fixes) e in
    ap₂ (λ rows fails. rows_text rows ++ help_text s m.help ++ fixes_text s (map (drawn_fix s source fails) m.fixes))
    (over_by f (snippets_with m.snippets l) blank (drawn_with m.snippets s) (sources_of source m) a.sources h.sources
    p.0 b)
    (h.fixes p.1)

-- ---- texts

mutual
  cause_text_by : (f : List ℕ → List StyledPiece) (l : snippets.SnippetSettings) (blank : Bool) (s : GraphicalSettings)
      (outer : Option Severity) (inherited : Option Source) (c : Cause) (a : Answers) (nested : Bool)
      → s.related_as_nested
      ≡ nested
      →
      AreCauseAnswers l blank inherited c a → all_read (printed_causes nested inherited c) ≡ true
      → AnsweredBy f (cause_calls s.layout nested inherited c a) →
      causes_text whole_drawing s outer inherited c a ≡ causes_text whole_drawing s outer inherited c
      (causes_by f s.layout inherited c)
  cause_text_by f l blank s outer inherited (texts ts) a nested w h e b = refl
  cause_text_by f l blank s outer inherited (diagnostic (tree m own c r)) a nested w h e b =
      let source = effective own inherited in
      let n = narrow_settings s outer (ends_there c) in
      let p = both_read (printed_inner nested source (tree m own c r)) (printed_causes nested inherited c) e in
      let q = and_parts (reads_all (over source m)) (all_read (printed_related nested source r)) p.0
      in
      let more = related_calls s.layout nested source r (related_answers a) in
      let k = parts_by f (own_calls s.layout source m (own_answer a) ++ more)
      (cause_calls s.layout nested inherited c (cause_answers a)) b in
      let j = parts_by f (own_calls s.layout source m (own_answer a)) more k.0 in
      ap₂ (λ x y. x ++ y)
      (ap (under_arrow s outer (ends_there c))
      (ap₂ (inner_over n m) (rows_by f l blank n source m (own_answer a) h.0 q.0 j.0)
      (related_text_by f l blank n m.severity source r (related_answers a) nested w h.1 q.1 j.1)))
      (cause_text_by f l blank s outer inherited c (cause_answers a) nested w h.2 p.1 k.1)

  related_text_by : (f : List ℕ → List StyledPiece) (l : snippets.SnippetSettings) (blank : Bool)
      (s : GraphicalSettings)
      (outer : Option Severity) (inherited : Option Source) (ts : Trees) (more : RelatedAnswers) (nested : Bool)
      → s.related_as_nested ≡ nested →
      AreRelatedAnswers l blank inherited ts more → all_read (printed_related nested inherited ts) ≡ true
      → AnsweredBy f (related_calls s.layout nested inherited ts more) →
      related_text whole_drawing s outer inherited ts more ≡ related_text whole_drawing s outer inherited ts
      (related_by f s.layout inherited ts)
  related_text_by f l blank s outer inherited no_trees more nested w h e b = refl
  related_text_by f l blank s outer inherited (more_trees (tree m own c r) ts) more true w h e b =
      let source = effective own inherited in
      let n = narrow_settings s outer (are_last ts) in
      let a = first_answers more in
      let p = both_read (printed_inner true source (tree m own c r)) (printed_related true inherited ts) e in
      let q = and_parts (reads_all (over source m)) (all_read (printed_related true source r)) p.0 in
      let own_ones = own_calls s.layout source m (own_answer a) in
      let below = related_calls s.layout true source r (related_answers a) in
      let k = parts_by f (own_ones ++ below) (related_calls s.layout true inherited ts
      (later_answers more)) b in
      let j = parts_by f own_ones below k.0 in
      ap₂ (λ x y. x ++ y)
      (if_same s.related_as_nested _ _ _ _
      (λ y. ap (λ x. under_arrow s outer (are_last ts) (trim_trailing_feeds x))
      (ap₂ (inner_over n m) (rows_by f l blank n source m (own_answer a) h.0 q.0 j.0)
      (related_text_by f l blank n m.severity source r (related_answers a) true w h.2 q.1 j.1)))
      (λ y. absurd (cc)))
      (related_text_by f l blank s outer inherited ts (later_answers more) true w h.3 p.1 k.1)
  related_text_by f l blank s outer inherited (more_trees (tree m own c r) ts) more false w h e b =
      let source = effective own inherited in
      let a = first_answers more in
      let p = both_read (printed_sibling false source (tree m own c r)) (printed_related false inherited ts) e in
      let q = and_parts (reads_all (over source m))
      (all_read (printed_causes false source c ++ printed_related false source r)) p.0 in
      let o = both_read (printed_causes false source c) (printed_related false source r) q.1 in
      let caused = cause_calls s.layout false source c (cause_answers a) in
      let own_ones = own_calls s.layout source m (own_answer a) in
      let below = related_calls s.layout false source r (related_answers a) in
      let k = parts_by f (caused ++ (own_ones ++ below)) (related_calls s.layout false inherited ts
      (later_answers more)) b in
      let i = parts_by f caused (own_ones ++ below) k.0 in
      let j = parts_by f own_ones below i.1 in
      ap₂ (λ x y. x ++ y)
      (if_same s.related_as_nested _ _ _ _
      (λ y. absurd (cc))
      (λ y. ap (λ x. title_text s m ++ body_over s m x
      (causes_text whole_drawing s m.severity source c (cause_answers a))
      (related_text whole_drawing s m.severity source r (related_answers a)))
      (rows_by f l blank s source m (own_answer a) h.0 q.0 j.0)
      ∙ ap₂ (λ x y. title_text s m ++ body_over s m (drawn_text whole_drawing s m source
      (own_by f s.layout source m)) x y)
      (cause_text_by f l blank s m.severity source c (cause_answers a) false w h.1 o.0 i.0)
      (related_text_by f l blank s m.severity source r (related_answers a) false w h.2 o.1 j.1)))
      (related_text_by f l blank s outer inherited ts (later_answers more) false w h.3 p.1 k.1)

root_text_by : (f : List ℕ → List StyledPiece) (l : snippets.SnippetSettings) (blank : Bool) (s : GraphicalSettings)
    (m : Diagnosis)
    (own : Option Source) (c : Cause) (a : Answers) (chain : Bool) →
    (chain ≡ true → AreCauseAnswers l blank own c a) → all_read
    (if chain then printed_causes s.related_as_nested own c else [])
    ≡ true → AnsweredBy f (if chain then cause_calls s.layout s.related_as_nested own c a else []) →
    only_if chain (causes_text whole_drawing s m.severity own c a)
    ≡ only_if chain (causes_text whole_drawing s m.severity own c (causes_by f s.layout own c))
root_text_by f l blank s m own c a true h e b = cause_text_by f l blank s m.severity own c a s.related_as_nested refl
    (h refl) e b
root_text_by f l blank s m own c a false h e b = refl

report_text_by : (f : List ℕ → List StyledPiece) (s : GraphicalSettings) (blank : Bool) (t : Tree) (a : Answers)
    → AreAnswers s blank t a → all_read (diagnostics_of s t) ≡ true → AnsweredBy f (report_calls s t a) →
    report_text whole_drawing s t a ≡ report_text whole_drawing s t (answers_by f s.layout t)
report_text_by f s blank (tree m own c r) a h e b =
    let l = snippet_settings s in
    let causes = if s.cause_chain then printed_causes s.related_as_nested own c else [] in
    let p = and_parts (reads_all (over own m))
    (all_read (causes ++ printed_related s.related_as_nested own r)) e
    in
    let q = both_read causes (printed_related s.related_as_nested own r) p.1 in
    let caused = if s.cause_chain then cause_calls s.layout s.related_as_nested own c (cause_answers a)
    else [] in
    let own_ones = own_calls s.layout own m (own_answer a) in
    let below = related_calls s.layout s.related_as_nested own r (related_answers a) in
    let k = parts_by f caused (own_ones ++ below) b in
    let j = parts_by f own_ones below k.1 in
    ap (λ x. report_over s m x (only_if s.cause_chain (causes_text whole_drawing s m.severity own c (cause_answers a)))
    (related_text whole_drawing s m.severity own r (related_answers a)))
    (rows_by f l blank s own m (own_answer a) h.0 p.0 j.0)
    ∙ ap₂ (report_over s m (drawn_text whole_drawing s m own
    (own_by f s.layout own m)))
    (root_text_by f l blank s m own c (cause_answers a) s.cause_chain h.1 q.0 k.0)
    (related_text_by f l blank s m.severity own r (related_answers a) s.related_as_nested refl h.2 q.1 j.1)

-- ---- what was appended

stateless-text : (s : GraphicalSettings) (blank : Bool) (before after : List Call → Type 0) (t : Tree)
    (old new : List ℕ)
    → AppendsOne (IsTextByCalls whole_drawing s blank (λ calls. Leads before calls after) t) old new
    → (f : List ℕ → List StyledPiece) → ((calls : List Call) → before calls → AnsweredBy f calls) → after []
    → all_read (diagnostics_of s t) ≡ true
    → new ≡ old ++ encode_utf8_all (report_text whole_drawing s t (answers_by f s.layout t))
stateless-text s blank before after t old new ok f by over reads =
    let given = ok.is_given.1 in
    let calls = report_calls s t given.0 in
    let answered : AnsweredBy f calls = subst (AnsweredBy f) (append-nil calls) (by (calls ++ []) (given.2 [] over)) in
    ok.appended ∙ ap (λ x. old ++ x) (ok.is_given.2 ∙ ap encode_utf8_all
    (given.3 ∙ report_text_by f s blank t given.0 given.1 reads answered))

pub rendered-stateless : {A E : Type 0} (r : Result A E) (s : GraphicalSettings) (blank : Bool)
    (before after : List Call → Type 0) (t : Tree) (old new : List ℕ)
    → OnOk r (AppendsOne (IsTextByCalls whole_drawing s blank (λ calls. Leads before calls after) t) old new)
    → OnOk r ((f : List ℕ → List StyledPiece) → ((calls : List Call) → before calls → AnsweredBy f calls) → after []
    → all_read (diagnostics_of s t) ≡ true
    → new ≡ old ++ encode_utf8_all (report_text whole_drawing s t (answers_by f s.layout t)))
rendered-stateless (Err e) s blank before after t old new ok = tt
rendered-stateless (Ok x) s blank before after t old new ok = stateless-text s blank before after t old new ok
