-- The rows of snippets under answers: where nothing fails, they are those in which nothing is listed.
use Rattle.std.proofs.Common.{◌≡◌, ◌≢◌, ℕ, Bool, true, false, if◌then◌else◌, inl, inr, List, [], ◌∷◌, refl, sym}
use Rattle.std.proofs.Common.{ap, ap₂, ◌∙◌, subst, Option, Some, None, is_some, option_map, length, ◌<◌, arith, ◌++◌}
use Rattle.std.proofs.lemmas.Bool.{cases_Bool}
use Rattle.miette_protocol.specs.views.Meaning.{Label}
use Rattle.miette_protocol.specs.rules.Reading.{Source}
use Rattle.miette_labels.specs.rules.Answers.{Highlight, AlwaysReads}
use Rattle.miette_highlight.specs.rules.HighlighterCalls.{Call}
use Rattle.miette_layout.specs.views.PrintedSnippets.{MayGive}
use Rattle.miette_snippet_rules.specs.rules.SnippetSettings as snippets
use Rattle.miette_snippet_rules.specs.rules.Frames.{refused_row}
use Rattle.miette_labels.specs.rules.Around.{group_context}
use Rattle.miette_labels.specs.rules.Groups.{first_refusal, groups_of, in_order}
use Rattle.miette_snippet_rules.specs.rules.Highlighting.{SnippetsHavePieces, calls_of_labels, group_calls}
use Rattle.miette_snippet_rules.specs.rules.Highlighting.{snippet_calls}
use Rattle.miette_snippet_rules.specs.rules.SnippetLayout.{snippet_rows, rows_unless}
use Rattle.miette_snippet_rules.specs.rules.SnippetLayout.{end_lines, end_settings, rows_of_labels}
use Rattle.miette_snippet_rules.specs.declared.options.LayoutOptions.{LayoutOptions}
use Rattle.miette_snippet_rules.proofs.NoPieces.{none_have}
use Rattle.miette_style.specs.rules.Rows.{Row}
use Rattle.miette_style.specs.views.Tokens.{rows_tokens}
use Rattle.miette_style.specs.views.Printouts.{Printout, printout_of, ended_text, ◌⊕◌}
use Rattle.miette_tree.specs.views.Handler.{AppendsOne}
use Rattle.miette_graphical_rules.specs.rules.Answers.{SourceAnswer, nothing_listed, pieces_listed, source_unlisted}
use Rattle.miette_graphical_rules.specs.rules.PossibleAnswers.{AreAnswersOver, HasRows, HasPieces, IsAnswer, IsAnswerOf}
use Rattle.miette_tree.specs.rules.Diagnosis.{Diagnosis}
use Rattle.miette_tree.specs.rules.Reads.{always_reads}
use Rattle.miette_graphical_rules.specs.rules.DiagnosticText.{rows_text}
use Rattle.miette_graphical_rules.specs.rules.Sources.{LabelledSource, labelled, snippets_after, snippets_with}
use Rattle.miette_graphical_rules.specs.rules.Sources.{sources_of}
use Rattle.miette_graphical_rules.specs.rules.GraphicalSettings.{GraphicalSettings}
use Rattle.miette_graphical_rules.specs.rules.Snippets.{snippet_settings, shown_rows, source_rows}
use Rattle.miette_graphical_rules.proofs.PrintedRows.{rows_printed}
use Rattle.miette_graphical.specs.views.PartTexts.{AreDrawn, IsSourceDrawn}
use Rattle.miette_graphical.specs.views.Painting.{printing}
use Rattle.miette_labels.proofs.NoFailures.{grouped_none}
use Rattle.miette_graphical_rules.proofs.GroupRows.{groups_given, none_listed, refusal_none}

unless_same : (s : snippets.SnippetSettings) (source : Source) (labels : List Label) (a : SourceAnswer)
    (refused : Option Row)
    → AlwaysReads a →
    rows_unless s source labels a refused ≡ rows_unless s source labels (pieces_listed a.pieces) refused
unless_same s source labels a (Some row) h = refl
unless_same s source labels a None h = groups_given s source labels a h
    ∙ sym (groups_given s source labels (pieces_listed a.pieces) (none_listed a.pieces))

around_same : (s : snippets.SnippetSettings) (source : Source) (labels : List Label) (a : SourceAnswer) → AlwaysReads
    a →
    snippet_rows s source labels a ≡ snippet_rows s source labels (pieces_listed a.pieces)
around_same s source labels a h =
    ap (λ r. rows_unless s source (in_order labels) a (option_map (refused_row s) r))
    (refusal_none source.bytes a.label_fails (in_order labels) h.labels)
    ∙ unless_same s source (in_order labels) a (option_map (refused_row s)
    (first_refusal source.bytes [] (in_order labels)))
    h

-- with the lines of context that labels at the source's end ask for
pub rows_same : (s : snippets.SnippetSettings) (source : Source) (labels : List Label) (a : SourceAnswer) → AlwaysReads
    a →
    rows_of_labels s source labels a ≡ rows_of_labels s source labels (pieces_listed a.pieces)
rows_same s source labels a h =
    ap (λ fails. snippet_rows (end_settings s fails source labels) source labels a) h.end
    ∙ around_same (end_settings s false source labels) source labels a h

some_unless : (s : snippets.SnippetSettings) (source : Source) (labels : List Label)
    (pieces : List (List (List Highlight))) (refused : Option Row)
    → is_some (rows_unless s source labels (pieces_listed pieces) refused) ≡ true
some_unless s source labels pieces (Some row) = refl
some_unless s source labels pieces None = ap is_some (groups_given s source labels (pieces_listed pieces)
    (none_listed pieces))

-- where no read failed there are rows
pub always_rows : (s : snippets.SnippetSettings) (source : Option Source) (labels : List Label)
    (pieces : List (List (List Highlight))) → HasRows s source labels (pieces_listed pieces)
always_rows s None labels pieces = tt
always_rows s (Some source) labels pieces =
    some_unless (end_settings s false source labels) source (in_order labels) pieces
    (option_map (refused_row (end_settings s false source labels)) (first_refusal source.bytes [] (in_order labels)))

never_none : (s : snippets.SnippetSettings) (source : Source) (labels : List Label)
    (pieces : List (List (List Highlight))) (refused : Option Row)
    → rows_unless s source labels (pieces_listed pieces) refused ≢ None
never_none s source labels pieces (Some row) e = absurd (cc)
never_none s source labels pieces None e = let k = sym
    (groups_given s source labels (pieces_listed pieces) (none_listed pieces)) ∙ e in absurd (cc)

no_rows_fail : (s : snippets.SnippetSettings) (source : Source) (labels : List Label) (a : SourceAnswer) → AlwaysReads a
    → rows_of_labels s source labels a ≡ None → ⊥
no_rows_fail s source labels a h n =
    never_none (end_settings s false source labels) source (in_order labels) a.pieces
    (option_map (refused_row (end_settings s false source labels)) (first_refusal source.bytes [] (in_order labels)))
    (sym (rows_same s source labels a h) ∙ n)

-- ---- no pieces

no_pieces : (s : snippets.SnippetSettings) (blank : Bool) (source : Option Source) (labels : List Label)
    → HasPieces s blank source labels source_unlisted
no_pieces s blank None labels = tt
no_pieces s blank (Some source) labels =
    none_have (group_context (end_lines s.layout false source labels) (in_order labels)) blank source
    (groups_of (end_lines s.layout false source labels) source [] (in_order labels))

-- where nothing is listed, nothing failed
pub unlisted_is : (s : snippets.SnippetSettings) (blank : Bool) (source : Option Source) (labels : List Label)
    (reads : Bool) → IsAnswerOf s blank source labels reads source_unlisted
unlisted_is s blank source labels reads = record {
  read = λ h. refl;
  plain = λ b. refl;
  pieces =
      no_pieces s blank source labels;
  rows = always_rows s source labels [];
}

-- the same over several sources
nothing_over : (l : snippets.SnippetSettings) (blank : Bool) (sources : List LabelledSource)
    → AreAnswersOver l blank sources []
nothing_over l blank [] = tt
nothing_over l blank (it ∷ more) = (
  unlisted_is l blank it.source it.labels (always_reads it.source it.labels),
  nothing_over (snippets_after (length it.labels) l) blank more,
)

-- of a diagnostic
pub nothing_is : (l : snippets.SnippetSettings) (blank : Bool) (source : Option Source) (m : Diagnosis)
    → IsAnswer l blank source m nothing_listed
nothing_is l blank source m = record {
  sources = nothing_over (snippets_with m.snippets l) blank (sources_of source m);
  fixes = λ h. refl;
}

page_given : (text : List ℕ) (rows : Option (List Row)) (page : Printout) → Some page
    ≡ option_map (λ rows. printout_of text ⊕ rows_tokens rows) rows → ended_text page ≡ text
    ++ rows_text (shown_rows rows)
page_given text None page e = absurd (cc)
page_given text (Some rows) page e = let same : page ≡ printout_of text ⊕ rows_tokens rows = cc in ap ended_text same
    ∙ rows_printed text rows

rows_some : (before : Printout) (rows : Option (List Row)) (page : Printout) → Some page
    ≡ option_map (λ rows. before ⊕ rows_tokens rows) rows → is_some rows ≡ true
rows_some before None page e = absurd (cc)
rows_some before (Some rows) page e = refl

rows_none : (before : Printout) (rows : Option (List Row)) → None ≡ option_map (λ rows. before ⊕ rows_tokens rows) rows
    → rows ≡ None
rows_none before None e = refl
rows_none before (Some rows) e = absurd (cc)

-- the calls for the snippets of some labels where no read failed
calls_same : (context : ℕ) (source : Source) (labels : List Label) (a : SourceAnswer) → AlwaysReads a
    → snippet_calls context source labels a ≡ snippet_calls context source labels (pieces_listed a.pieces)
calls_same context source labels a h =
    ap₂ (λ r groups. if is_some r then [] else group_calls (group_context context (in_order labels)) source groups
    a.pieces)
    (refusal_none source.bytes a.label_fails (in_order labels) h.labels)
    (grouped_none context source a.join_fails (in_order labels) h.joins)

asked_same : (layout : LayoutOptions) (source : Source) (labels : List Label) (a : SourceAnswer) → AlwaysReads a
    → calls_of_labels layout source labels a ≡ calls_of_labels layout source labels (pieces_listed a.pieces)
asked_same layout source labels a h =
    ap (λ fails. snippet_calls (end_lines layout fails source labels) source labels a) h.end
    ∙ calls_same (end_lines layout false source labels) source labels a h

-- the pieces, where the read for the source's end didn't fail
pieces_same : (layout : LayoutOptions) (blank : Bool) (source : Source) (labels : List Label) (a : SourceAnswer)
    → AlwaysReads a
    → SnippetsHavePieces (group_context (end_lines layout a.end_fails source labels) (in_order labels)) blank source
    (groups_of (end_lines layout a.end_fails source labels) source a.join_fails (in_order labels)) a.pieces
    → SnippetsHavePieces (group_context (end_lines layout false source labels) (in_order labels)) blank source
    (groups_of (end_lines layout false source labels) source [] (in_order labels)) a.pieces
pieces_same layout blank source labels a h k =
    let lines : Bool → ℕ = λ fails. end_lines layout fails source labels in
    subst (λ groups. SnippetsHavePieces (group_context (lines false) (in_order labels)) blank source groups a.pieces)
    (grouped_none (lines false) source a.join_fails (in_order labels) h.joins)
    (subst (λ fails. SnippetsHavePieces (group_context (lines fails) (in_order labels)) blank source
    (groups_of (lines fails) source a.join_fails (in_order labels)) a.pieces) h.end k)

drawn_text : {happen : List Call → Type 0} (u s : GraphicalSettings) (source : Source) (labels : List Label)
    (blank : Bool)
    (before : List ℕ) (page : Printout) →
    (g : MayGive (record { settings = snippet_settings s; blank = blank; happen = happen }) source labels
    (printout_of before) (Some page))
    → AreDrawn s source labels (record { settings = u; blank = blank; happen = happen })
    (rows_text (source_rows s (Some source) labels g.answers))
drawn_text {happen} u s source labels blank before page g =
    let l = snippet_settings s in
    let a = g.answers in
    elim (cases_Bool source.always_reads) [
      | inl reads ↦ (
        pieces_listed a.pieces,
        record {
          read = λ h. refl;
          plain = g.plain;
          pieces = pieces_same l.layout blank source labels a (g.always reads) g.pieces;
          rows = always_rows l (Some source) labels a.pieces;
        },
        subst happen (asked_same s.layout source labels a (g.always reads)) g.calls,
        ap (λ r. rows_text (shown_rows r)) (rows_same l source labels a (g.always reads)),
      )
      | inr fails ↦ (
        a,
        record {
          read = λ h. absurd (cc);
          plain = g.plain;
          pieces = g.pieces;
          rows =
              rows_some (printout_of before) (rows_of_labels l source labels a) page g.is;
        },
        g.calls,
        refl,
      )
    ]

pub drawn_page : {happen : List Call → Type 0} (u s : GraphicalSettings) (source : Source) (labels : List Label)
    (blank : Bool)
    (before : List ℕ) (page : Printout) →
    MayGive (record { settings = snippet_settings s; blank = blank; happen = happen }) source labels
    (printout_of before) (Some page)
    → AppendsOne (AreDrawn s source labels (record { settings = u; blank = blank; happen = happen })) before
    (ended_text page)
drawn_page {happen} u s source labels blank before page g =
    let l = snippet_settings s in
    let a = g.answers in
    let text : List ℕ = rows_text (source_rows s (Some source) labels a) in
    record {
      text = text;
      is_given = drawn_text u s source labels blank before page g;
      appended =
          page_given before (rows_of_labels l source labels a) page g.is;
    }

pub refused_page : {happen : List Call → Type 0} (s : GraphicalSettings) (source : Source) (labels : List Label)
    (blank : Bool)
    (before : Printout) →
    MayGive (record { settings = snippet_settings s; blank = blank; happen = happen }) source labels before None
    → source.always_reads ≡ false
refused_page s source labels blank before g =
    elim (cases_Bool source.always_reads) [
      | inl reads ↦ absurd (no_rows_fail (snippet_settings s) source labels g.answers (g.always reads)
          (rows_none before (rows_of_labels (snippet_settings s) source labels g.answers) g.is))
      | inr fails ↦ fails
    ]

-- ---- the snippets over one source

pub drawn_nowhere : (u s : GraphicalSettings) (blank : Bool) (now : List Call → Type 0) (labels : List Label)
    → IsSourceDrawn s (labelled None labels) (printing u blank now now) []
drawn_nowhere u s blank now labels = (
  source_unlisted,
  unlisted_is (snippet_settings s) blank None labels (always_reads None labels),
  (λ later h. h),
  refl,
)

pub drawn_unlabelled : (u s : GraphicalSettings) (blank : Bool) (now : List Call → Type 0) (source : Source)
    (labels : List Label) → labels ≡ [] → IsSourceDrawn s (labelled (Some source) labels) (printing u blank now now) []
drawn_unlabelled u s blank now source labels e =
    subst (λ ls. IsSourceDrawn s (labelled (Some source) ls) (printing u blank now now) []) (sym e) (
      source_unlisted,
      unlisted_is (snippet_settings s) blank (Some source) [] true,
      (λ later h. h),
      refl,
    )

pub empty_list : {A : Type 0} (xs : List A) → length xs < 1 → xs ≡ []
empty_list [] h = refl
empty_list (x ∷ xs) h = absurd (omega arith)
