-- Where the calls before determine what a highlighter answers, and every source always reads, a report has one text:
-- two answers are the same call after call, and so is what is drawn by them.
use Rattle.std.proofs.Common.{◌≡◌, ℕ, ◌+◌, Bool, true, false, List, [], ◌∷◌, ◌++◌, map, length, refl, sym, ap, ap₂}
use Rattle.std.proofs.Common.{subst, ◌∙◌, Option, Some, None, is_some, option_map, append-nil, append_assoc}
use Rattle.std.proofs.Common.{if◌then◌else◌, encode_utf8_all, drop}
use Rattle.std.specs.Prelude.{slice_range}
use Rattle.std.proofs.lemmas.Bool.{and_parts}
use Rattle.miette_lines.specs.rules.Lines.{Line}
use Rattle.miette_runs.specs.rules.Cutting.{trim_trailing_feeds}
use Rattle.miette_protocol.specs.views.Meaning.{Label}
use Rattle.miette_tree.specs.rules.Diagnosis.{Diagnosis}
use Rattle.miette_protocol.specs.rules.Reading.{Source, Span, Contents}
use Rattle.miette_protocol.specs.declared.protocol.Severity.{Severity}
use Rattle.miette_highlight.specs.rules.HighlighterCalls.{Call, Leads, asked, restarted}
use Rattle.miette_highlight.specs.rules.Pieces.{StyledPiece}
use Rattle.miette_labels.specs.rules.Answers.{Highlight, first_of}
use Rattle.miette_labels.specs.rules.Around.{group_context}
use Rattle.miette_labels.specs.rules.Contexts.{contents, lines_of_contents}
use Rattle.miette_labels.specs.rules.Groups.{Refusal, first_refusal, groups_of, in_order}
use Rattle.miette_labels.specs.rules.Labels.{DrawnLabel}
use Rattle.miette_snippet_rules.specs.rules.FoldedLabels.{LabelExtent, extents_of_labels}
use Rattle.miette_snippet_rules.specs.rules.SnippetSettings as snippets
use Rattle.miette_snippet_rules.specs.rules.Frames.{refused_row, top_row, bottom_row, number_width}
use Rattle.miette_snippet_rules.specs.rules.Gutters.{gutter_columns}
use Rattle.miette_snippet_rules.specs.rules.Highlighting.{decoded_text, group_calls, highlight_of, line_calls}
use Rattle.miette_snippet_rules.specs.rules.Highlighting.{piece_of, texts_of}
use Rattle.miette_snippet_rules.specs.rules.SnippetLayout.{all_snippets, cells_of, drawn_labels, end_settings}
use Rattle.miette_snippet_rules.specs.rules.SnippetLayout.{SnippetContext, snippet_context, line_or_break, place_of}
use Rattle.miette_snippet_rules.specs.rules.SnippetLayout.{left_out, rows_of_lines, rows_unless, settings_around}
use Rattle.miette_tree.specs.rules.Tree.{Tree, tree, Cause, diagnostic, texts, Trees, no_trees, more_trees, effective}
use Rattle.miette_tree.specs.rules.Reads.{always_reads}
use Rattle.miette_graphical_rules.specs.rules.PossibleAnswers.{IsTextByCalls, AreAnswers, AreCauseAnswers}
use Rattle.miette_graphical_rules.specs.rules.PossibleAnswers.{AreRelatedAnswers}
use Rattle.miette_graphical_rules.specs.rules.PossibleAnswers.{AreAnswersOver, IsAnswer}
use Rattle.miette_graphical_rules.specs.rules.Answers.{DiagnosticAnswer, Answers, RelatedAnswers, SourceAnswer}
use Rattle.miette_graphical_rules.specs.rules.Answers.{SourceAnswers}
use Rattle.miette_graphical_rules.specs.rules.Answers.{first_source, pieces_listed, own_answer}
use Rattle.miette_graphical_rules.specs.rules.Answers.{cause_answers, related_answers, first_answers, later_answers}
use Rattle.miette_graphical_rules.specs.rules.Calls.{calls_over, cause_calls, own_calls, related_calls, report_calls}
use Rattle.miette_graphical_rules.specs.rules.Calls.{source_calls}
use Rattle.miette_graphical_rules.specs.rules.Indents.{narrow_settings}
use Rattle.miette_graphical_rules.specs.rules.DiagnosticText.{fixes_text, help_text, rows_text, title_text, under_arrow}
use Rattle.miette_graphical_rules.specs.rules.PrintedDiagnostics.{all_read, diagnostics_of, over, printed_causes}
use Rattle.miette_graphical_rules.specs.rules.PrintedDiagnostics.{printed_related, reads_all}
use Rattle.miette_graphical_rules.specs.rules.GraphicalSettings.{GraphicalSettings}
use Rattle.miette_graphical_rules.specs.rules.Snippets.{drawn_fix, rows_over, snippet_settings, shown_rows, source_rows}
use Rattle.miette_graphical_rules.specs.rules.Snippets.{whole_drawing}
use Rattle.miette_graphical_rules.specs.rules.Sources.{LabelledSource, after_labels, drawn_with, snippets_after}
use Rattle.miette_graphical_rules.specs.rules.Sources.{reads_for, snippets_with, sources_of, sources_read}
use Rattle.miette_graphical_rules.specs.rules.Text.{are_last, body_over, causes_text, drawn_text, ends_there}
use Rattle.miette_graphical_rules.specs.rules.Text.{inner_over}
use Rattle.miette_graphical_rules.specs.rules.Text.{only_if, related_text, report_text}
use Rattle.miette_graphical_rules.proofs.GroupRows.{groups_given, none_listed}
use Rattle.miette_graphical_rules.proofs.Lists.{both_read}
use Rattle.miette_graphical_rules.proofs.Outermost.{report_over}
use Rattle.miette_graphical_rules.specs.steps.PrintedParts.{printed_inner, printed_sibling}
use Rattle.miette_graphical_laws.specs.laws.Determined.{IsDetermined}

-- Calls by two answers: where both may follow the same earlier ones, they are the same, and this holds.
record Determine (follow : List Call → Type 0) (some others : List Call) (holds : Type 0) : Type 0 where
  pub once : (earlier later after : List Call) → follow (earlier ++ (some ++ later))
      → follow (earlier ++ (others ++ after)) → (some ≡ others) × holds

no_calls : {follow : List Call → Type 0} {P : Type 0} → P → Determine follow [] [] P
no_calls p = record { once = λ earlier later after h k. (refl, p) }

so_that : {follow : List Call → Type 0} {xs ys : List Call} {P R : Type 0} → Determine follow xs ys P → (P → R)
    → Determine follow xs ys R
so_that d f = record {
  once = λ earlier later after h k. let one = d.once earlier later after h k in (one.0, f one.1);
}

regroup : (earlier xs ys later : List Call) → earlier ++ ((xs ++ ys) ++ later) ≡ (earlier ++ xs) ++ (ys ++ later)
regroup earlier xs ys later =
    ap (λ zs. earlier ++ zs) (append_assoc xs ys later) ∙ sym (append_assoc earlier xs (ys ++ later))

in_turn : {follow : List Call → Type 0} {xs ys us vs : List Call} {P R : Type 0} → Determine follow xs ys P
    → Determine follow us vs R → Determine follow (xs ++ us) (ys ++ vs) (P × R)
in_turn {follow = follow} {xs = xs} {ys = ys} {us = us} {vs = vs} d e = record {
  once = λ earlier later after h k.
      let one = d.once earlier (us ++ later) (vs ++ after)
      (subst (λ zs. follow (earlier ++ zs)) (append_assoc xs us later) h)
      (subst (λ zs. follow (earlier ++ zs)) (append_assoc ys vs after) k) in
      let two = e.once (earlier ++ xs) later after
      (subst follow (regroup earlier xs us later) h)
      (subst (λ zs. follow ((earlier ++ zs) ++ (vs ++ after))) (sym one.0)
      (subst follow (regroup earlier ys vs after) k)) in
      (ap₂ (λ zs ws. zs ++ ws) one.0 two.0, (one.1, two.1));
}

restart : (follow : List Call → Type 0) (read : Contents)
    → Determine follow (restarted read ∷ []) (restarted read ∷ []) (Unit {0})
restart follow read = record { once = λ earlier later after h k. (refl, tt) }

answer : (follow : List Call → Type 0) → IsDetermined follow → (line : List ℕ) (some others : List StyledPiece)
    → Determine follow (asked line some ∷ []) (asked line others ∷ []) (some ≡ others)
answer follow same line some others = record {
  once = λ earlier later after h k.
      let one = same earlier line some others later after h k in (ap (λ ps. asked line ps ∷ []) one, one);
}

-- ---- rows

listed_again : (hs : List Highlight) → map highlight_of (map piece_of hs) ≡ hs
listed_again [] = refl
listed_again (h ∷ hs) = ap (λ r. h ∷ r) (listed_again hs)

listed_alike : (hs ks : List Highlight) → map piece_of hs ≡ map piece_of ks → hs ≡ ks
listed_alike hs ks e = sym (listed_again hs) ∙ ap (map highlight_of) e ∙ listed_again ks

lines : (follow : List Call → Type 0) → IsDetermined follow → (out : ℕ → Line → Bool) (gap : Bool)
    (c : SnippetContext) (source : List ℕ) (number : ℕ) (some others : List (List Highlight)) (ls : List Line)
    → Determine follow (line_calls (texts_of source ls) some) (line_calls (texts_of source ls) others)
    (rows_of_lines out gap c number some ls ≡ rows_of_lines out gap c number others ls)
lines follow same out gap c source number some others [] = no_calls refl
lines follow same out gap c source number some others (l ∷ ls) =
    let text = decoded_text (slice_range source l.start l.text_end) in
    let d = in_turn (answer follow same text (map piece_of (first_of some)) (map piece_of (first_of others)))
    (lines follow same out (out number l) c source (number + 1) (drop 1 some) (drop 1 others) ls) in
    so_that d (λ e. ap₂ (λ ps rows. line_or_break gap (out number l) c l number ps ++ rows)
    (listed_alike (first_of some) (first_of others) e.0) e.1)

snippets_of : (follow : List Call → Type 0) → IsDetermined follow → (s : snippets.SnippetSettings)
    (label_extents : List LabelExtent) (source : Source) (labels : List Label)
    (some others : List (List (List Highlight)))
    (groups : List Span)
    → Determine follow (group_calls s.layout.context_lines source groups some)
    (group_calls s.layout.context_lines source groups others)
    (all_snippets s label_extents source labels some groups ≡ all_snippets s label_extents source labels others groups)
snippets_of follow same s label_extents source labels some others [] = no_calls refl
snippets_of follow same s label_extents source labels some others (group ∷ groups) =
    let held : Contents = contents s.layout.context_lines source group in
    let drawn : List DrawnLabel = drawn_labels s (length source.bytes) labels in
    let first = lines follow same (left_out s held.line (lines_of_contents held) label_extents) false
    (snippet_context s (number_width held) (gutter_columns drawn (lines_of_contents held)) drawn
    (cells_of s source.bytes))
    source.bytes (held.line + 1) (first_of some) (first_of others) (lines_of_contents held) in
    let more = snippets_of follow same s label_extents source labels (drop 1 some) (drop 1 others) groups in
    let d = in_turn (in_turn (restart follow held) first) more in
    so_that d (λ e. ap₂ (λ rows later. (top_row s held (place_of source group labels) ∷ rows
    ++ bottom_row s (number_width held) ∷ []) ++ later) e.0.1 e.1)

unless : (follow : List Call → Type 0) → IsDetermined follow → (l : snippets.SnippetSettings) (source : Source)
    (labels : List Label) (some others : List (List (List Highlight))) (refused : Option Refusal)
    → Determine follow
    (if is_some refused then [] else group_calls (group_context l.layout.context_lines labels) source
    (groups_of l.layout.context_lines source [] labels) some)
    (if is_some refused then [] else group_calls (group_context l.layout.context_lines labels) source
    (groups_of l.layout.context_lines source [] labels) others)
    (rows_unless l source labels (pieces_listed some) (option_map (refused_row l) refused)
    ≡ rows_unless l source labels (pieces_listed others) (option_map (refused_row l) refused))
unless follow same l source labels some others (Some r) = no_calls refl
unless follow same l source labels some others None =
    let d = snippets_of follow same (settings_around l labels) (extents_of_labels l.layout.label_lines
    l.layout.context_lines
    source labels) source labels some others (groups_of l.layout.context_lines source [] labels) in
    so_that d (λ e. groups_given l source labels (pieces_listed some) (none_listed some) ∙ ap Some e
    ∙ sym (groups_given l source labels (pieces_listed others) (none_listed others)))

-- over one source, where no read of it failed
over_one : (follow : List Call → Type 0) → IsDetermined follow → (s : GraphicalSettings) (source : Option Source)
    (labels : List Label) (a b : SourceAnswer) → a ≡ pieces_listed a.pieces → b ≡ pieces_listed b.pieces
    → Determine follow (source_calls s.layout source labels a)
    (source_calls s.layout source labels b)
    (source_rows s source labels a ≡ source_rows s source labels b)
over_one follow same s None labels a b p q = no_calls refl
over_one follow same s (Some source) labels a b p q =
    let layout = s.layout in
    let D : SourceAnswer → SourceAnswer → Type 0 = λ x y. Determine follow
    (source_calls layout (Some source) labels x) (source_calls layout (Some source) labels y)
    (source_rows s (Some source) labels x ≡ source_rows s (Some source) labels y) in
    let d = unless follow same (end_settings (snippet_settings s) false source labels) source (in_order labels) a.pieces
    b.pieces
    (first_refusal source.bytes [] (in_order labels)) in
    let listed : D (pieces_listed a.pieces) (pieces_listed b.pieces) = so_that d (λ e. ap shown_rows e) in
    subst (λ x. D x b) (sym p) (subst (λ y. D (pieces_listed a.pieces) y) (sym q) listed)

over_each : (follow : List Call → Type 0) → IsDetermined follow → (l : snippets.SnippetSettings) (blank : Bool)
    (s : GraphicalSettings) (sources : List LabelledSource) (a b : SourceAnswers) → AreAnswersOver l blank sources a
    → AreAnswersOver l blank sources b → sources_read sources ≡ true
    → Determine follow (calls_over s.layout sources a) (calls_over s.layout sources b)
    (rows_over s sources a ≡ rows_over s sources b)
over_each follow same l blank s [] a b h k e = no_calls refl
over_each follow same l blank s (it ∷ more) a b h k e =
    let p = and_parts (always_reads it.source it.labels) (sources_read more) e in
    let first = over_one follow same s it.source it.labels (first_source a) (first_source b) (h.0.read p.0)
    (k.0.read p.0) in
    let later = over_each follow same (snippets_after (length it.labels) l) blank (after_labels (length it.labels) s)
    more (drop 1 a) (drop 1 b) h.1 k.1 p.1 in
    let d = in_turn first later in
    so_that d (λ r. ap₂ (λ x y. x ++ y) r.0 r.1)

own : (follow : List Call → Type 0) → IsDetermined follow → (l : snippets.SnippetSettings) (blank : Bool)
    (s : GraphicalSettings) (source : Option Source) (m : Diagnosis) (a b : DiagnosticAnswer)
    → IsAnswer l blank source m a
    → IsAnswer l blank source m b → reads_all (over source m) ≡ true
    → Determine follow (own_calls s.layout source m a) (own_calls s.layout source m b)
    (drawn_text whole_drawing s m source a ≡ drawn_text whole_drawing s m source b)
own follow same l blank s source m a b h k e =
    let p = and_parts (sources_read (sources_of source m)) (reads_for source m.fixes) e in
    let d = over_each follow same (snippets_with m.snippets l) blank (drawn_with m.snippets s) (sources_of source m)
    a.sources b.sources h.sources k.sources p.0 in
    so_that d (λ r. ap₂ (λ rows fails. rows_text rows ++ help_text s m.help ++ fixes_text s (map (drawn_fix s source
    fails) m.fixes)) r (h.fixes p.1 ∙ sym (k.fixes p.1)))

-- ---- texts, by what is drawn in them

first_alike : (nested : Bool) (x u y v more others : List ℕ) → nested ≡ true → x ≡ u → more ≡ others
    → (if nested then x else y) ++ more ≡ (if nested then u else v) ++ others
first_alike true x u y v more others w e later = ap₂ (λ text texts. text ++ texts) e later
first_alike false x u y v more others w e later = absurd (cc)

second_alike : (nested : Bool) (x u y v more others : List ℕ) → nested ≡ false → y ≡ v → more ≡ others
    → (if nested then x else y) ++ more ≡ (if nested then u else v) ++ others
second_alike true x u y v more others w e later = absurd (cc)
second_alike false x u y v more others w e later = ap₂ (λ text texts. text ++ texts) e later

body_alike : (s : GraphicalSettings) (m : Diagnosis) (u v x y p q : List ℕ) → u ≡ v → x ≡ y → p ≡ q
    → title_text s m ++ body_over s m u x p ≡ title_text s m ++ body_over s m v y q
body_alike s m u v x y p q drawn caused below =
    ap (λ text. title_text s m ++ body_over s m text x p) drawn
    ∙ ap₂ (λ text texts. title_text s m ++ body_over s m v text texts) caused below

over_alike : (s : GraphicalSettings) (m : Diagnosis) (u v x y p q : List ℕ) → u ≡ v → x ≡ y → p ≡ q
    → report_over s m u x p ≡ report_over s m v y q
over_alike s m u v x y p q drawn caused below =
    ap (λ text. report_over s m text x p) drawn ∙ ap₂ (λ text texts. report_over s m v text texts) caused below

cause_alike : (s : GraphicalSettings) (outer : Option Severity) (inherited its : Option Source) (m : Diagnosis)
    (c : Cause)
    (r : Trees) (a b : Answers)
    → drawn_text whole_drawing (narrow_settings s outer (ends_there c)) m (effective its inherited) (own_answer a)
    ≡ drawn_text whole_drawing (narrow_settings s outer (ends_there c)) m (effective its inherited) (own_answer b)
    → related_text whole_drawing (narrow_settings s outer (ends_there c)) m.severity (effective its inherited) r
    (related_answers a)
    ≡ related_text whole_drawing (narrow_settings s outer (ends_there c)) m.severity (effective its inherited) r
    (related_answers b)
    → causes_text whole_drawing s outer inherited c (cause_answers a)
    ≡ causes_text whole_drawing s outer inherited c (cause_answers b)
    → causes_text whole_drawing s outer inherited (diagnostic (tree m its c r)) a
    ≡ causes_text whole_drawing s outer inherited (diagnostic (tree m its c r)) b
cause_alike s outer inherited its m c r a b rows below more =
    ap₂ (λ text texts. text ++ texts) (ap (under_arrow s outer (ends_there c))
    (ap₂ (inner_over (narrow_settings s outer (ends_there c)) m) rows below)) more

nested_alike : (s : GraphicalSettings) (outer : Option Severity) (inherited its : Option Source) (m : Diagnosis)
    (c : Cause)
    (r ts : Trees) (a b : RelatedAnswers) → s.related_as_nested ≡ true
    → drawn_text whole_drawing (narrow_settings s outer (are_last ts)) m (effective its inherited)
    (own_answer (first_answers a))
    ≡ drawn_text whole_drawing (narrow_settings s outer (are_last ts)) m (effective its inherited)
    (own_answer (first_answers b))
    → related_text whole_drawing (narrow_settings s outer (are_last ts)) m.severity (effective its inherited) r
    (related_answers (first_answers a))
    ≡ related_text whole_drawing (narrow_settings s outer (are_last ts)) m.severity (effective its inherited) r
    (related_answers (first_answers b))
    → related_text whole_drawing s outer inherited ts (later_answers a)
    ≡ related_text whole_drawing s outer inherited ts (later_answers b)
    → related_text whole_drawing s outer inherited (more_trees (tree m its c r) ts) a
    ≡ related_text whole_drawing s outer inherited (more_trees (tree m its c r) ts) b
nested_alike s outer inherited its m c r ts a b w rows below more =
    first_alike s.related_as_nested _ _ _ _ _ _ w
    (ap (λ text. under_arrow s outer (are_last ts) (trim_trailing_feeds text))
    (ap₂ (inner_over (narrow_settings s outer (are_last ts)) m) rows below)) more

sibling_alike : (s : GraphicalSettings) (outer : Option Severity) (inherited its : Option Source) (m : Diagnosis)
    (c : Cause)
    (r ts : Trees) (a b : RelatedAnswers) → s.related_as_nested ≡ false
    → drawn_text whole_drawing s m (effective its inherited) (own_answer (first_answers a))
    ≡ drawn_text whole_drawing s m (effective its inherited) (own_answer (first_answers b))
    → causes_text whole_drawing s m.severity (effective its inherited) c (cause_answers (first_answers a))
    ≡ causes_text whole_drawing s m.severity (effective its inherited) c (cause_answers (first_answers b))
    → related_text whole_drawing s m.severity (effective its inherited) r (related_answers (first_answers a))
    ≡ related_text whole_drawing s m.severity (effective its inherited) r (related_answers (first_answers b))
    → related_text whole_drawing s outer inherited ts (later_answers a)
    ≡ related_text whole_drawing s outer inherited ts (later_answers b)
    → related_text whole_drawing s outer inherited (more_trees (tree m its c r) ts) a
    ≡ related_text whole_drawing s outer inherited (more_trees (tree m its c r) ts) b
sibling_alike s outer inherited its m c r ts a b w rows caused below more =
    second_alike s.related_as_nested _ _ _ _ _ _ w (body_alike s m _ _ _ _ _ _ rows caused below) more

-- ---- texts

mutual
  causes : (follow : List Call → Type 0) → IsDetermined follow → (l : snippets.SnippetSettings) (blank : Bool)
      (s : GraphicalSettings) (outer : Option Severity) (inherited : Option Source) (c : Cause) (a b : Answers)
      (nested : Bool)
      → s.related_as_nested ≡ nested → AreCauseAnswers l blank inherited c a → AreCauseAnswers l blank inherited c b
      → all_read (printed_causes nested inherited c) ≡ true
      → Determine follow (cause_calls s.layout nested inherited c a)
      (cause_calls s.layout nested inherited c b)
      (causes_text whole_drawing s outer inherited c a ≡ causes_text whole_drawing s outer inherited c b)
  causes follow same l blank s outer inherited (texts ts) a b nested w h k e = no_calls refl
  causes follow same l blank s outer inherited (diagnostic (tree m its c r)) a b nested w h k e =
      let source = effective its inherited in
      let n = narrow_settings s outer (ends_there c) in
      let p = both_read (printed_inner nested source (tree m its c r)) (printed_causes nested inherited c) e in
      let q = and_parts (reads_all (over source m)) (all_read (printed_related nested source r)) p.0 in
      let rows = own follow same l blank n source m (own_answer a) (own_answer b) h.0 k.0 q.0 in
      let below = related follow same l blank n m.severity source r (related_answers a) (related_answers b) nested w
      h.1 k.1 q.1 in
      let more = causes follow same l blank s outer inherited c (cause_answers a) (cause_answers b) nested w h.2 k.2
      p.1 in
      let d = in_turn (in_turn rows below) more in
      so_that d (λ z. cause_alike s outer inherited its m c r a b z.0.0 z.0.1 z.1)

  related : (follow : List Call → Type 0) → IsDetermined follow → (l : snippets.SnippetSettings) (blank : Bool)
      (s : GraphicalSettings) (outer : Option Severity) (inherited : Option Source) (ts : Trees) (a b : RelatedAnswers)
      (nested : Bool) → s.related_as_nested ≡ nested → AreRelatedAnswers l blank inherited ts a
      → AreRelatedAnswers l blank inherited ts b → all_read (printed_related nested inherited ts) ≡ true
      → Determine follow (related_calls s.layout nested inherited ts a)
      (related_calls s.layout nested inherited ts b)
      (related_text whole_drawing s outer inherited ts a ≡ related_text whole_drawing s outer inherited ts b)
  related follow same l blank s outer inherited no_trees a b nested w h k e = no_calls refl
  related follow same l blank s outer inherited (more_trees (tree m its c r) ts) a b true w h k e =
      let source = effective its inherited in
      let n = narrow_settings s outer (are_last ts) in
      let x = first_answers a in
      let y = first_answers b in
      let p = both_read (printed_inner true source (tree m its c r)) (printed_related true inherited ts) e in
      let q = and_parts (reads_all (over source m)) (all_read (printed_related true source r)) p.0 in
      let rows = own follow same l blank n source m (own_answer x) (own_answer y) h.0 k.0 q.0 in
      let below = related follow same l blank n m.severity source r (related_answers x) (related_answers y) true w
      h.2 k.2 q.1 in
      let more = related follow same l blank s outer inherited ts (later_answers a) (later_answers b) true w h.3 k.3
      p.1 in
      let d = in_turn (in_turn rows below) more in
      so_that d (λ z. nested_alike s outer inherited its m c r ts a b w z.0.0 z.0.1 z.1)
  related follow same l blank s outer inherited (more_trees (tree m its c r) ts) a b false w h k e =
      let source = effective its inherited in
      let x = first_answers a in
      let y = first_answers b in
      let p = both_read (printed_sibling false source (tree m its c r)) (printed_related false inherited ts) e in
      let q = and_parts (reads_all (over source m))
      (all_read (printed_causes false source c ++ printed_related false source r)) p.0 in
      let o = both_read (printed_causes false source c) (printed_related false source r) q.1 in
      let caused = causes follow same l blank s m.severity source c (cause_answers x) (cause_answers y) false w h.1
      k.1 o.0 in
      let rows = own follow same l blank s source m (own_answer x) (own_answer y) h.0 k.0 q.0 in
      let below = related follow same l blank s m.severity source r (related_answers x) (related_answers y) false w
      h.2 k.2 o.1 in
      let more = related follow same l blank s outer inherited ts (later_answers a) (later_answers b) false w h.3 k.3
      p.1 in
      let d = in_turn (in_turn caused (in_turn rows below)) more in
      so_that d (λ z. sibling_alike s outer inherited its m c r ts a b w z.0.1.0 z.0.0 z.0.1.1 z.1)

root : (follow : List Call → Type 0) → IsDetermined follow → (l : snippets.SnippetSettings) (blank : Bool)
    (s : GraphicalSettings) (m : Diagnosis) (its : Option Source) (c : Cause) (a b : Answers) (chain : Bool)
    → (chain ≡ true → AreCauseAnswers l blank its c a) → (chain ≡ true → AreCauseAnswers l blank its c b)
    → all_read (if chain then printed_causes s.related_as_nested its c else []) ≡ true
    → Determine follow (if chain then cause_calls s.layout s.related_as_nested its c a else [])
    (if chain then cause_calls s.layout s.related_as_nested its c b else [])
    (only_if chain (causes_text whole_drawing s m.severity its c a)
    ≡ only_if chain (causes_text whole_drawing s m.severity its c b))
root follow same l blank s m its c a b true h k e =
    causes follow same l blank s m.severity its c a b s.related_as_nested refl (h refl) (k refl) e
root follow same l blank s m its c a b false h k e = no_calls refl

report : (follow : List Call → Type 0) → IsDetermined follow → (s : GraphicalSettings) (blank : Bool) (t : Tree)
    (a b : Answers) → AreAnswers s blank t a → AreAnswers s blank t b → all_read (diagnostics_of s t) ≡ true
    → Determine follow (report_calls s t a) (report_calls s t b)
    (report_text whole_drawing s t a ≡ report_text whole_drawing s t b)
report follow same s blank (tree m its c r) a b h k e =
    let l = snippet_settings s in
    let printed = if s.cause_chain then printed_causes s.related_as_nested its c else [] in
    let p = and_parts (reads_all (over its m)) (all_read (printed ++ printed_related s.related_as_nested its r)) e in
    let q = both_read printed (printed_related s.related_as_nested its r) p.1 in
    let caused = root follow same l blank s m its c (cause_answers a) (cause_answers b) s.cause_chain h.1 k.1 q.0 in
    let rows = own follow same l blank s its m (own_answer a) (own_answer b) h.0 k.0 p.0 in
    let below = related follow same l blank s m.severity its r (related_answers a) (related_answers b)
    s.related_as_nested refl h.2 k.2 q.1 in
    let d = in_turn caused (in_turn rows below) in
    so_that d (λ z. over_alike s m _ _ _ _ _ _ z.1.0 z.0 z.1.1)

-- ---- what is printed

-- by calls that may happen
pub one-followed : (follow : List Call → Type 0) (s : GraphicalSettings) (blank : Bool) (t : Tree) (x y : List ℕ)
    → IsDetermined follow → all_read (diagnostics_of s t) ≡ true → IsTextByCalls whole_drawing s blank follow t x
    → IsTextByCalls whole_drawing s blank follow t y → x ≡ y
one-followed follow s blank t x y same reads h k =
    let some = h.1 in
    let others = k.1 in
    let none_after = λ (calls : List Call) (happened : follow calls). subst follow (sym (append-nil calls)) happened in
    let d = report follow same s blank t some.0 others.0 some.1 others.1 reads in
    let one = d.once [] [] [] (none_after (report_calls s t some.0) some.2)
    (none_after (report_calls s t others.0) others.2) in
    h.2 ∙ ap encode_utf8_all (some.3 ∙ one.1 ∙ sym others.3) ∙ sym k.2

-- by calls that lead to a state which none need follow
ended : (before after : List Call → Type 0) (s : GraphicalSettings) (blank : Bool) (t : Tree) (x : List ℕ) → after []
    → IsTextByCalls whole_drawing s blank (λ calls. Leads before calls after) t x
    → IsTextByCalls whole_drawing s blank before t x
ended before after s blank t x none h =
    let asked = h.1 in
    (h.0, (asked.0, asked.1, subst before (append-nil (report_calls s t asked.0)) (asked.2 [] none), asked.3), h.2)

pub one-text : (follow after other : List Call → Type 0) (s : GraphicalSettings) (blank : Bool) (t : Tree)
    (x y : List ℕ)
    → IsDetermined follow → after [] → other [] → all_read (diagnostics_of s t) ≡ true
    → IsTextByCalls whole_drawing s blank (λ calls. Leads follow calls after) t x
    → IsTextByCalls whole_drawing s blank (λ calls. Leads follow calls other) t y → x ≡ y
one-text follow after other s blank t x y same none nothing reads h k =
    one-followed follow s blank t x y same reads (ended follow after s blank t x none h)
    (ended follow other s blank t y nothing k)
