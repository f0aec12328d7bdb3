use Rattle.std.proofs.Common.{ℕ, ◌≡◌, ◌≤◌, true, List, [], ◌∷◌, Option, Some, None, IfSome, refl, ap, ◌∙◌}
use Rattle.std.proofs.Common.{length}
use Rattle.std.proofs.Common.{sym}
use Rattle.std.proofs.Common.{subst}
use Rattle.std.specs.List.{AllByRecursion}
use Rattle.miette_protocol.specs.views.Meaning.{Label}
use Rattle.miette_protocol.specs.rules.Reading.{Source}
use Rattle.miette_labels.specs.rules.Contexts.{contents}
use Rattle.miette_labels.specs.rules.Groups.{in_order}
use Rattle.miette_columns.specs.rules.Cells.{Cell}
use Rattle.miette_style.specs.rules.Rows.{glyphs_of}
use Rattle.miette_snippet_rules.specs.rules.CutLines.{dots, dots_width, limit_of, shown_runs}
use Rattle.miette_snippet_rules.specs.rules.PrintedCells.{cells_width}
use Rattle.miette_snippet_laws.specs.laws.Cuts.{FitsLimit}
use Rattle.miette_graphical_rules.specs.rules.Answers.{pieces_listed}
use Rattle.miette_graphical_rules.specs.rules.GraphicalSettings.{GraphicalSettings}
use Rattle.miette_graphical_rules.specs.laws.SnippetTheorems.{EndsAreDrawn, LabelsAreFolded, LinesAreShown}
use Rattle.miette_graphical_rules.specs.laws.SnippetTheorems.{UnderlinesAreApart}
use Rattle.miette_graphical_rules.specs.laws.SnippetTheorems.{TextsAreConnected}
use Rattle.miette_graphical_rules.specs.laws.SnippetTheorems.{EndsAfter, SnippetIsConnected, context_around}
use Rattle.miette_graphical_rules.specs.laws.SnippetTheorems.{drawn_labels, groups_of}
use Rattle.miette_graphical_rules.specs.laws.SnippetTheorems.{group_settings, label_settings}
use Rattle.miette_graphical_rules.specs.laws.SnippetTheorems.{context_numbers, unfolded, CutsAreExact, LinesThatFitStay}
use Rattle.miette_graphical_rules.specs.laws.SnippetTheorems.{SnippetStays}
use Rattle.miette_graphical_rules.specs.laws.SnippetTheorems.{cells_under}
use Rattle.miette_graphical_rules.specs.laws.SnippetTheorems.{ends_under, line_number}
use Rattle.miette_graphical_rules.specs.rules.Sources.{HoldsOfSources, LabelledSource, after_labels, drawn_with}
use Rattle.miette_graphical_rules.specs.rules.Sources.{sources_of}
use Rattle.miette_graphical_rules.specs.rules.PrintedDiagnostics.{HoldsOfPrinted, PrintedDiagnostic, diagnostics_of}
use Rattle.miette_graphical_rules.specs.rules.Snippets.{snippet_settings, shown_rows, source_rows}
use Rattle.miette_labels.specs.rules.Answers.{Answers}
use Rattle.miette_snippet_rules.specs.rules.SnippetLayout.{end_settings, snippet_rows}
use Rattle.miette_graphical_rules.proofs.GroupRows.{none_listed}
use Rattle.miette_graphical_rules.proofs.EndShown.{context_set, end_shown, none_fewer}
use Rattle.miette_snippet_laws.specs.laws.Ends.{draws_ends}
use Rattle.miette_snippet_rules.specs.rules.SnippetSettings.{folded_at}
use Rattle.miette_graphical_rules.proofs.ShownLabelLines.{labels_have_lines}
use Rattle.miette_graphical_rules.proofs.NarrowCharacters.{is_narrow}
use Rattle.miette_graphical_rules.proofs.laws.snippets_law.Goals as goal

each : {A : Type 0} (P : A → Type 0) → ((x : A) → P x) → (xs : List A) → AllByRecursion P xs
each P f [] = tt
each P f (x ∷ xs) = (f x, each P f xs)

over_sources : (P : GraphicalSettings → LabelledSource → Type 0) → ((s : GraphicalSettings) (it : LabelledSource)
    → P s it)
    → (s : GraphicalSettings) (sources : List LabelledSource) → HoldsOfSources P s sources
over_sources P f s [] = tt
over_sources P f s (it ∷ more) = (f s it, over_sources P f (after_labels (length it.labels) s) more)

-- what holds of all labels over a source, in whatever settings, holds of each source of each printed diagnostic
everywhere : (P : GraphicalSettings → LabelledSource → Type 0) → ((s : GraphicalSettings) (it : LabelledSource)
    → P s it)
    → (s : GraphicalSettings) (ps : List PrintedDiagnostic) → AllByRecursion (HoldsOfPrinted P s) ps
everywhere P f s ps =
    each (HoldsOfPrinted P s) (λ p. over_sources P f (drawn_with p.meaning.snippets s) (sources_of p.source p.meaning))
    ps

if_some : {A : Type 0} (P : A → Type 0) → ((x : A) → P x) → (o : Option A) → IfSome o P
if_some P f None = tt
if_some P f (Some x) = f x

if_is : {A : Type 0} (P : A → Type 0) (o : Option A) → ((x : A) → o ≡ Some x → P x) → IfSome o P
if_is P None f = tt
if_is P (Some x) f = f x refl

-- the rows with labels folded to `limit` lines, in which nothing is left out
short_rows : (limit : ℕ) (s : GraphicalSettings) (source : Source) (labels : List Label) (answers : Answers)
    → s.layout.label_lines
    ≡ Some limit →
    snippet_rows (folded_at (Some limit) (end_settings (snippet_settings s) answers.end_fails source labels)) source
    labels answers
    ≡ snippet_rows (folded_at None (end_settings (snippet_settings s) answers.end_fails source labels)) source labels
    answers →
    source_rows s (Some source) labels answers ≡ source_rows (unfolded s) (Some source) labels answers
short_rows limit s source labels answers e h =
    ap (λ o. shown_rows (snippet_rows (folded_at o (end_settings (snippet_settings s) answers.end_fails source labels))
    source labels answers)) e
    ∙ ap shown_rows h

pub returns-clause-lines : goal.returns-clause-lines
returns-clause-lines c = λ s t. everywhere LinesAreShown (λ s p.
    let labels = p.labels in
    if_some _ (λ source reads accepted context.
    let maximal = c.ranges_are_maximal.ensures (context_numbers s source labels) in record {
      rows = λ pieces. ap (λ rows. shown_rows rows) (c.snippets_draw_ranges.ensures (label_settings s source labels)
          source labels (pieces_listed pieces) context accepted (none_listed pieces));
      groups = c.groups_are_ranges.ensures (context_around s source labels) source [] labels context tt;
      whole = maximal.0;
      consecutive = maximal.1;
      parted = maximal.2;
      own = labels_have_lines (context_around s source labels) source.bytes labels;
    }) p.source) s (diagnostics_of s t)

pub returns-clause-marks : goal.returns-clause-marks
returns-clause-marks c = λ s t. everywhere UnderlinesAreApart (λ s p.
    if_some _ (λ source k. record {
      apart = c.underlines_are_apart.ensures.row (snippet_settings s) (drawn_labels s source p.labels)
          source.bytes (line_number source k);
      anchors = c.underlines_are_apart.ensures.row_anchors (snippet_settings s)
          (drawn_labels s source p.labels) source.bytes (line_number source k);
    }) p.source) s (diagnostics_of s t)

-- a line fits within the limit that there is
fits_in : (o : Option ℕ) (limit : ℕ) (cells : List Cell) → o ≡ Some limit → cells_width 0 cells ≤ limit_of limit
    → FitsLimit o cells
fits_in o limit cells some le = subst (λ (it : Option ℕ). FitsLimit it cells) (sym some) le

pub returns-clause-cuts : goal.returns-clause-cuts
returns-clause-cuts c = λ s t. everywhere CutsAreExact (λ s p.
    let labels = p.labels in
    if_some _ (λ source k limit some.
    let lay = snippet_settings s in
    let drawn = drawn_labels s source labels in
    let line = line_number source k in
    let cells = cells_under s source k in record {
      wide = c.wide_lines_are_cut.ensures.wide lay drawn source.bytes line limit some;
      fits = λ le. c.wide_lines_are_cut.ensures.fits lay drawn source.bytes line
          (fits_in s.layout.line_columns limit cells some le);
      exact = λ cut is. record {
        reach = c.lines_are_cut_by_reach.ensures lay drawn source.bytes line limit cut some is;
        printed = λ pieces. ap (λ o. glyphs_of (shown_runs (dots lay.theme) o pieces cells)) is
            ∙ c.cut_lines_are_parted.ensures.printed (dots lay.theme) pieces cut;
        marks = c.underlines_keep_their_characters.ensures.marks lay drawn source.bytes line cut is;
      };
      narrow = λ pieces. c.cut_rows_are_narrow.ensures.bound lay drawn source.bytes line pieces limit some;
      ends = λ widest wide. c.cut_rows_are_narrow.ensures.ends lay source.bytes line (dots_width s.theme.characters)
          widest (ends_under s source labels k) wide;
    }) p.source) s (diagnostics_of s t)

pub returns-clause-fits : goal.returns-clause-fits
returns-clause-fits c = λ s t. everywhere LinesThatFitStay (λ s p.
    let labels = p.labels in
    if_some _ (λ source. (
      each (SnippetStays s source labels)
          (λ group label_extents pieces fit. c.lines_that_fit_stay.ensures.snippet (group_settings s source labels)
          label_extents
          (drawn_labels s source labels) source.bytes
          (contents (group_settings s source labels).layout.context_lines source group) pieces fit)
          (groups_of s source labels),
      λ fit pieces. ap shown_rows (c.lines_that_fit_stay.ensures.rows (label_settings s source labels) source labels
          (pieces_listed pieces) fit),
    )) p.source) s (diagnostics_of s t)

pub returns-clause-texts : goal.returns-clause-texts
returns-clause-texts c = λ s t. everywhere TextsAreConnected (λ s p.
    let labels = p.labels in
    if_some _ (λ source narrow. each (SnippetIsConnected s source labels)
    (λ group pieces. c.connectors_lead_to_texts.ensures (group_settings s source labels) (drawn_labels s source labels)
    source.bytes
    (contents (group_settings s source labels).layout.context_lines source group) pieces
    (is_narrow s.theme.characters narrow))
    (groups_of s source labels)) p.source) s (diagnostics_of s t)

pub returns-clause-ends : goal.returns-clause-ends
returns-clause-ends c = λ s t. everywhere EndsAreDrawn (λ s p.
    let labels = p.labels in
    if_some _ (λ source.
    let after : draws_ends (group_settings s source labels) (length source.bytes) (in_order labels) ≡ true
    → EndsAfter s source labels = λ drawn. record {
      lines = c.ends_are_drawn.ensures.lines (group_settings s source labels) source.bytes (in_order labels) drawn;
      marks = λ k pieces. c.ends_are_drawn.ensures.row (snippet_settings s) (drawn_labels s source labels)
          source.bytes (line_number source k) pieces;
    } in (
      after,
      end_shown s source labels after,
      λ none pieces. ap (λ lines. shown_rows (snippet_rows (record (snippet_settings s) {
        layout = record s.layout { context_lines = lines };
      }) source labels (pieces_listed pieces))) (context_set s source labels none)
          ∙ ap (λ rows. shown_rows rows) (c.ends_are_drawn.ensures.others s.layout.end_labels (snippet_settings s)
          source labels (pieces_listed pieces) (none_fewer (length source.bytes) s.layout.context_lines labels none)),
    )) p.source) s (diagnostics_of s t)

pub returns-clause-folds : goal.returns-clause-folds
returns-clause-folds c = λ s t. everywhere LabelsAreFolded (λ s p.
    let labels = p.labels in
    if_some _ (λ source. if_is _ s.layout.label_lines (λ limit is reads accepted context. record {
      ends = c.ranges_end_kept.ensures (Some limit) (context_around s source labels) source.bytes labels context;
      inside = λ k. c.left_out_lines_are_inside.ensures.inside _ _ limit (context_around s source labels) source.bytes
          labels k context;
      same = λ k. c.left_out_lines_are_inside.ensures.same _ _ limit (context_around s source labels) source.bytes
          labels k
          context;
      pairs = c.left_out_lines_are_inside.ensures.pairs limit (context_around s source labels) source.bytes labels;
      near = c.left_out_lines_are_inside.ensures.near limit (context_around s source labels) source.bytes labels;
      short = λ fit pieces. short_rows limit s source labels (pieces_listed pieces) is
          (c.short_labels_stay.ensures (label_settings s source labels) limit source labels (pieces_listed pieces)
          context accepted
          (none_listed pieces) fit);
    })) p.source) s (diagnostics_of s t)
