-- Snippets one after the other, and what the whole gives.
use Rattle.miette_style.proofs.Paging.{put_append, put_nil}
use Rattle.miette_style.specs.views.Printouts.{Printout, ◌⊕◌}
use Rattle.std.proofs.Common.{ℕ, zero, suc, ◌+◌, ◌<◌, ◌≤◌, ◌≡◌, Bool, true, false, cond, List, [], ◌∷◌, ◌++◌, length}
use Rattle.std.proofs.Common.{map, drop, get_or, Option, Some, None, ◌&&◌, ◌||◌, refl, sym, ap, ap₂, ◌∙◌, subst, arith}
use Rattle.std.proofs.Common.{All, append_assoc}
use Rattle.std.specs.Option.{option_map}
use Rattle.std.specs.Prelude.{is_some, if◌then◌else◌}
use Rattle.std.specs.Str.{chars}
use Rattle.std.proofs.lemmas.List.{drop_all, length-map, drop_more}
use Rattle.miette_lines.specs.rules.Lines.{Line}
use Rattle.miette_protocol.specs.views.Meaning.{Label}
use Rattle.miette_protocol.specs.rules.Reading.{Span, Source, Contents}
use Rattle.miette_highlight.specs.rules.HighlighterCalls.{Call, Leads, restarted}
use Rattle.miette_labels.specs.declared.groups.LabelGroup.{LabelGroup}
use Rattle.miette_labels.specs.declared.primary.Place.{Place as Found}
use Rattle.miette_labels.specs.declared.reading.ReadLabel.{ReadLabel}
use Rattle.miette_labels.specs.declared.reading.ReadLabels.{ReadLabels}
use Rattle.miette_labels.specs.declared.reading.ReadLabels.TheVariants as reads
use Rattle.miette_labels.specs.declared.reading.RefusalReason.{RefusalReason}
use Rattle.miette_labels.specs.declared.reading.RefusalReason.TheVariants as reasons
use Rattle.miette_labels.specs.declared.placed.PlacedLabel.{PlacedLabel}
use Rattle.miette_style.specs.rules.Rows.{Row}
use Rattle.miette_labels.specs.rules.Answers.{Answers, Highlight, first_of}
use Rattle.miette_labels.specs.rules.Around.{has_own_context, group_context}
use Rattle.miette_labels.specs.rules.Contexts.{contents, lines_of_contents}
use Rattle.miette_layout.specs.views.PrintedSnippets.{GivesAround}
use Rattle.miette_snippet_rules.specs.rules.FoldedLabels.{LabelExtent, extents_of_labels}
use Rattle.miette_snippet_rules.specs.rules.Frames.{Place, refused_row, top_row, bottom_row}
use Rattle.miette_snippet_rules.specs.rules.Frames.{number_width}
use Rattle.miette_labels.specs.views.ProgramLabels.{drawn_of, label_at}
use Rattle.miette_snippet_rules.specs.rules.Gutters.{gutter_columns}
use Rattle.miette_labels.specs.rules.Groups.{in_order, first_refusal, groups_of, some_fails, AreInBounds}
use Rattle.miette_snippet_rules.specs.rules.Highlighting.{EachHasPieces, SnippetsHavePieces, texts_of, line_calls}
use Rattle.miette_snippet_rules.specs.rules.Highlighting.{group_calls}
use Rattle.miette_labels.specs.rules.Labels.{DrawnLabel, drawn_from, some_shows_end}
use Rattle.miette_snippet_rules.specs.rules.SnippetLayout.{snippet, all_snippets, drawn_labels, line_or_break, left_out}
use Rattle.miette_snippet_rules.specs.rules.SnippetLayout.{settings_around, rows_unless, place_of, body_rows}
use Rattle.miette_snippet_frames.specs.views.ContentsRows.{cells_in, contents_snippet, PutsRows}
use Rattle.miette_labels.specs.views.Placing.{source_end_from_reads, placement_of, placements_from}
use Rattle.miette_labels.specs.views.Primary.{chosen_label, PointsTo, is_unread}
use Rattle.miette_labels.specs.views.Reads.{IsRead, AreContents, AreGroups, IsGroupsResult, IsUnread, AreRead}
use Rattle.miette_labels.specs.views.Reads.{reason_name}
use Rattle.miette_style.specs.views.Tokens.{rows_tokens}
use Rattle.miette_labels.proofs.RefusedLabel.{none_refused}
use Rattle.miette_labels.proofs.NoFailures.{some_none}
use Rattle.miette_layout.proofs.PrimaryOfReads.{framed_place, place_is, unread_fails}
use Rattle.miette_labels.proofs.LabelEnds.{placed_drawn}
use Rattle.miette_labels.proofs.SourceEnd.{shows_around, told_is}
use Rattle.miette_layout.proofs.HighlightedPieces.{snippets_plain, calls_plain}
use Rattle.miette_labels.specs.views.Sweeping.{AreSorted}
use Rattle.miette_layout.proofs.ReadRows.{placed_sorted, contents_body, contents_texts, contents_texts_are}
use Rattle.miette_snippet_rules.proofs.RowTokens.{told_rows-append}
use Rattle.miette_snippet_rules.proofs.NoPieces.{none_have}
use Rattle.miette_labels.proofs.OwnContexts.{own_ordered}
use Rattle.miette_labels.proofs.RefusedLabel.{read_of, all_accepted}
use Rattle.miette_labels.proofs.SortedLabels.{label_got}
use Rattle.miette_snippet_rules.specs.rules.SnippetLayout.{snippet_context, rows_of_lines}
use Rattle.miette_snippet_rules.specs.rules.SnippetSettings.{SnippetSettings}

-- the drawn labels are the same with either number
drawn_around : (s : SnippetSettings) (n : ℕ) (ls : List Label) → drawn_labels (settings_around s ls) n ls
    ≡ drawn_labels s n ls
drawn_around s n ls = ap (λ b. drawn_from (s.layout.end_labels && b) s.theme.styles.highlights n 0 ls)
    (shows_around s.layout.context_lines n ls)

-- a group's span
abbrev pub spans_grouped : List LabelGroup → List Span
spans_grouped groups = map (λ group. group.span) groups

-- the first `i` groups are drawn: whatever pieces the others have, there are pieces for all
abbrev pub AreDrawn : SnippetSettings → List LabelExtent → Source → List Label → Bool → (List Call → Type 0)
    → (List Call → Type 0) → List LabelGroup → ℕ → Printout → Printout → Type 0
AreDrawn s label_extents source labels blank begun now groups i before page =
    (more : List (List (List Highlight))) → SnippetsHavePieces s.layout.context_lines blank source
    (spans_grouped (drop i groups))
    more →
    (all : List (List (List Highlight))) × SnippetsHavePieces s.layout.context_lines blank source (spans_grouped groups)
    all
    × ((later : List Call) → now (group_calls s.layout.context_lines source (spans_grouped (drop i groups)) more
    ++ later)
    → begun (group_calls s.layout.context_lines source (spans_grouped groups) all ++ later))
    × (page ⊕ rows_tokens (all_snippets s label_extents source (in_order labels) more (spans_grouped (drop i groups)))
    ≡ before ⊕ rows_tokens (all_snippets s label_extents source (in_order labels) all (spans_grouped groups)))

pub none_drawn : (s : SnippetSettings) (label_extents : List LabelExtent) (source : Source) (labels : List Label)
    (blank : Bool)
    (begun : List Call → Type 0) (groups : List LabelGroup) (page : Printout)
    → AreDrawn s label_extents source labels blank begun begun groups 0 page page
none_drawn s label_extents source labels blank begun groups page = λ more h. (more, h, (λ later k. k), refl)

snippet_same : (s : SnippetSettings) (label_extents : List LabelExtent) (source : Source) (labels : List Label)
    (span : Span)
    (drawn : List DrawnLabel) (held : Contents) (place : Option Place) (pieces : List (List Highlight)) →
    drawn ≡ drawn_labels s (length source.bytes) labels → held ≡ contents s.layout.context_lines source span → place
    ≡ place_of source span labels →
    contents_snippet s label_extents drawn held place pieces ≡ snippet s label_extents source labels span pieces
snippet_same s label_extents source labels span drawn held place pieces d l p =
    ap (λ c. contents_snippet s label_extents drawn c place pieces) l
    ∙ ap (λ c. contents_snippet s label_extents drawn (contents s.layout.context_lines source span) c pieces) p
    ∙ ap (λ rows. top_row s (contents s.layout.context_lines source span) (place_of source span labels) ∷ rows
    ++ bottom_row s (number_width (contents s.layout.context_lines source span)) ∷ [])
    (contents_body s label_extents drawn s.layout.context_lines source span pieces)
    ∙ ap (λ c. top_row s (contents s.layout.context_lines source span) (place_of source span labels)
    ∷ body_rows s label_extents c source.bytes (contents s.layout.context_lines source span) pieces
    ++ bottom_row s (number_width (contents s.layout.context_lines source span)) ∷ []) d

-- the lines of context don't matter to rows of a read's contents
rows_around : (out : ℕ → Line → Bool) (gap : Bool) (s : SnippetSettings) (c w columns : ℕ) (drawn : List DrawnLabel)
    (start : ℕ) (bytes : List ℕ) (number : ℕ) (pieces : List (List Highlight)) (lines : List Line) →
    rows_of_lines out gap (snippet_context (record s { layout = record s.layout { context_lines = c } }) w columns drawn
    (cells_in (record s { layout = record s.layout { context_lines = c } }) start bytes)) number pieces lines
    ≡ rows_of_lines out gap (snippet_context s w columns drawn (cells_in s start bytes)) number pieces lines
rows_around out gap s c w columns drawn start bytes number pieces [] = refl
rows_around out gap s c w columns drawn start bytes number pieces (line ∷ lines) =
    ap (λ r. line_or_break gap (out number line) (snippet_context s w columns drawn (cells_in s start bytes)) line
    number (first_of pieces) ++ r) (rows_around out (out number line) s c w columns drawn start bytes (number + 1)
    (drop 1 pieces) lines)

snippet_around : (s : SnippetSettings) (c : ℕ) (label_extents : List LabelExtent) (drawn : List DrawnLabel)
    (held : Contents)
    (place : Option Place) (pieces : List (List Highlight))
    → contents_snippet (record s { layout = record s.layout { context_lines = c } }) label_extents drawn held place
    pieces
    ≡ contents_snippet s label_extents drawn held place pieces
snippet_around s c label_extents drawn held place pieces =
    ap (λ rows. top_row s held place ∷ rows ++ bottom_row s (number_width held) ∷ [])
    (rows_around (left_out s held.line (lines_of_contents held) label_extents) false s c (number_width held)
    (gutter_columns drawn (lines_of_contents held)) drawn held.span.offset held.bytes (held.line + 1) pieces
    (lines_of_contents held))

pub puts_around : (s : SnippetSettings) (c : ℕ) (blank : Bool) (happen : List Call → Type 0) (texts : List (List ℕ))
    (label_extents : List LabelExtent) (drawn : List DrawnLabel) (held : Contents) (place : Option Place)
    (page more : Printout) →
    PutsRows blank happen texts (contents_snippet s label_extents drawn held place) page more
    → PutsRows blank happen texts (contents_snippet (record s { layout = record s.layout { context_lines = c } })
    label_extents drawn held place) page more
puts_around s c blank happen texts label_extents drawn held place page more h = record {
  pieces = h.pieces;
  are = h.are;
  calls = h.calls;
  is = h.is ∙ ap (λ rows. page ⊕ rows_tokens rows) (sym (snippet_around s c label_extents drawn held place h.pieces));
}

-- the rows of one group more
group_step : (s : SnippetSettings) (label_extents : List LabelExtent) (source : Source) (labels : List Label)
    (groups : List LabelGroup)
    (i : ℕ) (group : LabelGroup) (pieces : List (List Highlight)) (later : List (List (List Highlight)))
    (page more : Printout) (drawn : List DrawnLabel) (place : Option Place) →
    spans_grouped (drop i groups) ≡ group.span ∷ spans_grouped (drop (i + 1) groups)
    → AreContents s.layout.context_lines source group.span group.contents →
    drawn ≡ drawn_labels s (length source.bytes) (in_order labels) → place
    ≡ place_of source group.span (in_order labels) →
    more ≡ page ⊕ rows_tokens (contents_snippet s label_extents drawn group.contents place pieces) →
    more ⊕ rows_tokens (all_snippets s label_extents source (in_order labels) later
    (spans_grouped (drop (i + 1) groups)))
    ≡ page ⊕ rows_tokens (all_snippets s label_extents source (in_order labels) (pieces ∷ later)
    (spans_grouped (drop i groups)))
group_step s label_extents source labels groups i group pieces later page more drawn place front contents_are d p e =
    let ls : List Label = in_order labels in
    let rest : List Row = all_snippets s label_extents source ls later (spans_grouped (drop (i + 1) groups)) in
    let own : List Row = snippet s label_extents source ls group.span pieces in
    ap (λ m. m ⊕ rows_tokens rest) e
    ∙ put_append page (rows_tokens (contents_snippet s label_extents drawn group.contents place pieces))
    (rows_tokens rest)
    ∙ ap (λ rows. page ⊕ (rows_tokens rows ++ rows_tokens rest))
    (snippet_same s label_extents source ls group.span drawn group.contents place pieces d contents_are.is p)
    ∙ ap (λ t. page ⊕ t) (sym (told_rows-append own rest))
    ∙ ap (λ ss. page ⊕ rows_tokens (all_snippets s label_extents source ls (pieces ∷ later) ss)) (sym front)

pub drawn_more : (s : SnippetSettings) (label_extents : List LabelExtent) (source : Source) (labels : List Label)
    (blank : Bool)
    (begun was now : List Call → Type 0) (groups : List LabelGroup) (i : ℕ) (group : LabelGroup)
    (before page more : Printout)
    (drawn : List DrawnLabel) (place : Option Place) →
    AreDrawn s label_extents source labels blank begun was groups i before page → i < length groups → group
    ≡ get_or groups i group → AreContents s.layout.context_lines source group.span group.contents →
    drawn ≡ drawn_labels s (length source.bytes) (in_order labels) → place
    ≡ place_of source group.span (in_order labels) →
    PutsRows blank (λ calls. Leads was (restarted group.contents ∷ calls) now) (contents_texts group.contents)
    (contents_snippet s label_extents drawn group.contents place) page more
    → AreDrawn s label_extents source labels blank begun now groups (i + 1) before more
drawn_more s label_extents source labels blank begun was now groups i group before page more drawn place h lt is
    contents_are
    d p e =
    λ later own.
    let front : spans_grouped (drop i groups) ≡ group.span ∷ spans_grouped (drop (i + 1) groups) =
    ap spans_grouped (drop_more groups i group lt) ∙ ap (λ (g : LabelGroup). g.span
    ∷ spans_grouped (drop (i + 1) groups))
    (sym is) in
    let mine : EachHasPieces blank (texts_of source.bytes
    (lines_of_contents (contents s.layout.context_lines source group.span)))
    e.pieces =
    subst (λ (ts : List (List ℕ)). EachHasPieces blank ts e.pieces)
    (ap contents_texts contents_are.is ∙ contents_texts_are s.layout.context_lines source group.span) e.are in
    let all = h (e.pieces ∷ later) (subst (λ (ss : List Span). SnippetsHavePieces s.layout.context_lines blank source ss
    (e.pieces ∷ later)) (sym front) (mine, own)) in
    let read : Contents = contents s.layout.context_lines source group.span in
    let lines : List Call = line_calls (texts_of source.bytes (lines_of_contents read)) e.pieces in
    let others : List Call = group_calls s.layout.context_lines source (spans_grouped (drop (i + 1) groups)) later in
    let called : Leads was (restarted read ∷ lines) now =
    subst (λ (ts : List (List ℕ)). Leads was (restarted read ∷ line_calls ts e.pieces) now)
    (contents_texts_are s.layout.context_lines source group.span)
    (subst (λ (c : Contents). Leads was (restarted c ∷ line_calls (contents_texts c) e.pieces) now) contents_are.is
    e.calls) in (
      all.0,
      all.1,
      (λ calls k. all.2 calls (subst (λ (ss : List Span). was
          (group_calls s.layout.context_lines source ss (e.pieces ∷ later) ++ calls)) (sym front)
          (subst (λ (cs : List Call). was (restarted read ∷ cs)) (sym (append_assoc lines others calls))
          (called (others ++ calls) k)))),
      group_step s label_extents source labels groups i group e.pieces later page more drawn place front contents_are d
          p e.is
          ∙ all.3,
    )

-- all groups are drawn
pub record IsWhole (s : SnippetSettings) (label_extents : List LabelExtent) (source : Source) (labels : List Label)
    (blank : Bool)
    (happen : List Call → Type 0) (groups : List LabelGroup) (before page : Printout) : Type 0 where
  pub pieces : List (List (List Highlight))
  pub have : SnippetsHavePieces s.layout.context_lines blank source (spans_grouped groups) pieces
  pub plain : blank ≡ true → pieces ≡ []
  pub calls : happen (group_calls s.layout.context_lines source (spans_grouped groups) pieces)
  pub is : page ≡ before ⊕ rows_tokens (all_snippets s label_extents source (in_order labels) pieces
      (spans_grouped groups))

-- where lines are left plain there are no pieces
unless_plain : (s : SnippetSettings) (label_extents : List LabelExtent) (source : Source) (labels : List Label)
    (blank : Bool)
    (happen : List Call → Type 0) (groups : List LabelGroup) (before page : Printout)
    (pieces : List (List (List Highlight)))
    →
    SnippetsHavePieces s.layout.context_lines blank source (spans_grouped groups) pieces
    → happen (group_calls s.layout.context_lines source (spans_grouped groups) pieces) → page ≡ before
    ⊕ rows_tokens (all_snippets s label_extents source (in_order labels) pieces (spans_grouped groups))
    → IsWhole s label_extents source labels blank happen groups before page
unless_plain s label_extents source labels true happen groups before page pieces h c e = record {
  pieces = [];
  have = none_have s.layout.context_lines true source (spans_grouped groups);
  plain = λ b. refl;
  calls = subst happen (calls_plain s.layout.context_lines source (spans_grouped groups) pieces h) c;
  is = e ∙ ap (λ rows. before ⊕ rows_tokens rows) (snippets_plain s label_extents source (in_order labels) pieces
      (spans_grouped groups) h);
}
unless_plain s label_extents source labels false happen groups before page pieces h c e =
    record { pieces = pieces; have = h; plain = λ b. absurd (cc); calls = c; is = e }

pub all_drawn : (s : SnippetSettings) (label_extents : List LabelExtent) (source : Source) (labels : List Label)
    (blank : Bool)
    (begun now : List Call → Type 0) (groups : List LabelGroup) (i : ℕ) (before page : Printout)
    → AreDrawn s label_extents source labels blank begun now groups i before page → length groups ≤ i →
    IsWhole s label_extents source labels blank (λ calls. Leads begun calls now) groups before page
all_drawn s label_extents source labels blank begun now groups i before page h le =
    let none : drop i groups ≡ [] = drop_all i groups le in
    let all = h [] (none_have s.layout.context_lines blank source (spans_grouped (drop i groups))) in
    unless_plain s label_extents source labels blank (λ calls. Leads begun calls now) groups before page all.0 all.1
    (λ later k. all.2 later (subst (λ (gs : List LabelGroup). now
    (group_calls s.layout.context_lines source (spans_grouped gs) [] ++ later)) (sym none) k))
    (sym (put_nil page) ∙ ap (λ gs. page ⊕ rows_tokens (all_snippets s label_extents source (in_order labels) []
    (spans_grouped gs))) (sym none) ∙ all.3)

-- the labels' groups

none_refused_here : (context : ℕ) (source : Source) (labels : List Label) (reads : List ReadLabel)
    → map (read_of labels) reads ≡ in_order labels → All (IsRead context source labels) reads →
    first_refusal source.bytes [] (in_order labels) ≡ None
none_refused_here context source labels reads order h =
    none_refused source.bytes [] (in_order labels) tt (subst (λ (ls : List Label). AreInBounds source.bytes ls) order
    (all_accepted context source labels reads h))

-- the answers where every label is accepted
abbrev answered : List Bool → List Bool → List (List (List Highlight)) → Answers
answered joins places pieces = record {
  end_fails = false;
  label_fails = [];
  join_fails = joins;
  place_fails = places;
  pieces = pieces;
}

-- all snippets were drawn
pub gives_rows : (s : SnippetSettings) (source : Source) (labels : List Label) (blank : Bool)
    (happen : List Call → Type 0) (reads : List ReadLabel) (groups : List LabelGroup) (before page : Printout)
    → map (read_of labels) reads ≡ in_order labels →
    All (IsRead s.layout.context_lines source labels) reads
    → AreGroups s.layout.context_lines source (in_order labels) groups
    → IsWhole (settings_around s (in_order labels)) (extents_of_labels s.layout.label_lines s.layout.context_lines
    source
    (in_order labels))
    source labels blank happen groups before page →
    GivesAround (record { settings = s; blank = blank; happen = happen }) source labels before (Some page)
gives_rows s source labels blank happen reads groups before page order h g e =
    let ls : List Label = in_order labels in
    let s' : SnippetSettings = settings_around s ls in
    let answers : Answers = answered g.fails [] e.pieces in
    let spans : List Span = groups_of s.layout.context_lines source g.fails ls in
    record {
      answers = answers;
      always = λ a. record { end = refl; labels = tt; joins = g.always a; places = tt };
      pieces = subst (λ (gs : List Span). SnippetsHavePieces s'.layout.context_lines blank source gs e.pieces) g.are
          e.have;
      plain = e.plain;
      calls = subst (λ r. happen (if is_some r then [] else group_calls s'.layout.context_lines source spans e.pieces))
          (sym (none_refused_here s.layout.context_lines source labels reads order h))
          (subst (λ (gs : List Span). happen (group_calls s'.layout.context_lines source gs e.pieces)) g.are e.calls);
      is = ap Some (e.is ∙ ap (λ gs. before ⊕ rows_tokens (all_snippets s'
          (extents_of_labels s.layout.label_lines s.layout.context_lines source ls) source ls e.pieces gs)) g.are)
          ∙ sym (ap₂ (λ a b. option_map (λ rows. before ⊕ rows_tokens rows)
          (cond (a || b) None (Some (all_snippets s' (extents_of_labels s.layout.label_lines s.layout.context_lines
          source ls)
          source ls
          e.pieces spans)))) g.read (some_none [] spans tt))
          ∙ sym (ap (λ r. option_map (λ rows. before ⊕ rows_tokens rows)
          (rows_unless s source ls answers (option_map (refused_row s) r)))
          (none_refused_here s.layout.context_lines source labels reads order h));
    }

-- the answers up to a place that can't be read
abbrev fails_at : ℕ → List Bool
fails_at zero = true ∷ []
fails_at (suc i) = false ∷ fails_at i

one_fails : (i : ℕ) (groups : List Span) → i < length groups → some_fails (fails_at i) groups ≡ true
one_fails i [] lt = absurd (omega (arith, lt))
one_fails zero (g ∷ gs) lt = refl
one_fails (suc i) (g ∷ gs) lt = one_fails i gs (omega (arith, lt))

-- a place can't be read
pub gives_none : (s : SnippetSettings) (source : Source) (labels : List Label) (blank : Bool)
    (happen : List Call → Type 0) (own : Bool) (reads : List ReadLabel) (groups : List LabelGroup) (i : ℕ) (span : Span)
    (found : Found) (before : Printout) → map (read_of labels) reads ≡ in_order labels →
    All (IsRead s.layout.context_lines source labels) reads
    → AreGroups s.layout.context_lines source (in_order labels) groups → i < length groups
    →
    PointsTo source (chosen_label own span None reads) found → is_unread found ≡ true
    → GivesAround (record { settings = s; blank = blank; happen = happen }) source labels before None
gives_none s source labels blank happen own reads groups i span found before order h g lt p u =
    let ls : List Label = in_order labels in
    let s' : SnippetSettings = settings_around s ls in
    let answers : Answers = answered g.fails (fails_at i) [] in
    let spans : List Span = groups_of s.layout.context_lines source g.fails ls in
    let failed : source.always_reads ≡ false = unread_fails s.layout.context_lines source labels own span reads found h
    p u in
    let many : i < length spans = omega (
      arith,
      lt,
      ap length g.are,
      length-map groups
          (λ (group : LabelGroup). group.span),
    )
    in
    record {
      answers = answers;
      always = λ a. cc;
      pieces = none_have s'.layout.context_lines blank source spans;
      plain = λ b. refl;
      calls = tt;
      is = sym (ap₂ (λ a b. option_map (λ rows. before ⊕ rows_tokens rows)
          (cond (a || b) None (Some (all_snippets s' (extents_of_labels s.layout.label_lines s.layout.context_lines
          source ls)
          source ls []
          spans)))) g.read (one_fails i spans many))
          ∙ sym (ap (λ r. option_map (λ rows. before ⊕ rows_tokens rows)
          (rows_unless s source ls answers (option_map (refused_row s) r)))
          (none_refused_here s.layout.context_lines source labels reads order h));
    }

-- the read of a group failed
pub gives_unread : (s : SnippetSettings) (source : Source) (labels : List Label) (blank : Bool)
    (happen : List Call → Type 0) (reads : List ReadLabel) (before : Printout) → map (read_of labels) reads
    ≡ in_order labels → All (IsRead s.layout.context_lines source labels) reads →
    IsUnread s.layout.context_lines source (in_order labels) →
    GivesAround (record { settings = s; blank = blank; happen = happen }) source labels before None
gives_unread s source labels blank happen reads before order h g =
    let ls : List Label = in_order labels in
    let s' : SnippetSettings = settings_around s ls in
    let answers : Answers = answered g.fails [] [] in
    let spans : List Span = groups_of s.layout.context_lines source g.fails ls in
    record {
      answers = answers;
      always = λ a. let no : source.always_reads ≡ false = g.always in cc;
      pieces = none_have s'.layout.context_lines blank source spans;
      plain = λ b. refl;
      calls = tt;
      is = sym (ap (λ b. option_map (λ rows. before ⊕ rows_tokens rows)
          (cond (b || some_fails [] spans) None (Some (all_snippets s'
          (extents_of_labels s.layout.label_lines s.layout.context_lines source ls)
          source ls [] spans)))) g.unread)
          ∙ sym (ap (λ r. option_map (λ rows. before ⊕ rows_tokens rows)
          (rows_unless s source ls answers (option_map (refused_row s) r)))
          (none_refused_here s.layout.context_lines source labels reads order h));
    }

-- the labels as they are drawn, in order
pub drawn_is : (s : SnippetSettings) (source : Source) (labels : List Label) (reads : List ReadLabel) (end : Option ℕ)
    (placed : List PlacedLabel) → map (read_of labels) reads ≡ in_order labels →
    All (IsRead s.layout.context_lines source labels) reads → end ≡ cond s.layout.end_labels
    (source_end_from_reads reads) None
    → map placement_of placed ≡ placements_from end s.theme.styles.highlights 0 labels reads →
    map drawn_of placed ≡ drawn_labels (settings_around s (in_order labels)) (length source.bytes) (in_order labels)
drawn_is s source labels reads end placed order h told e =
    let n : ℕ = length source.bytes in
    let ends : Bool = s.layout.end_labels && some_shows_end s.layout.context_lines n (in_order labels) in
    placed_drawn ends s.theme.styles.highlights s.layout.context_lines source labels reads placed h
    (e ∙ ap (λ x. placements_from x s.theme.styles.highlights 0 labels reads)
    (told ∙ told_is s.layout.end_labels s.layout.context_lines source labels reads h order))
    ∙ ap (drawn_from ends s.theme.styles.highlights n 0) order
    ∙ sym (drawn_around s n (in_order labels))

-- they come by offset
pub placed_rise : (s : SnippetSettings) (source : Source) (labels : List Label) (reads : List ReadLabel)
    (end : Option ℕ) (placed : List PlacedLabel) → map (read_of labels) reads ≡ in_order labels →
    All (IsRead s.layout.context_lines source labels) reads → end ≡ cond s.layout.end_labels
    (source_end_from_reads reads) None
    → map placement_of placed ≡ placements_from end s.theme.styles.highlights 0 labels reads → AreSorted placed
placed_rise s source labels reads end placed order h told e =
    placed_sorted (s.layout.end_labels && some_shows_end s.layout.context_lines (length source.bytes)
    (in_order labels)) s.theme.styles.highlights s.layout.context_lines source labels reads placed h order
    (e ∙ ap (λ x. placements_from x s.theme.styles.highlights 0 labels reads)
    (told ∙ told_is s.layout.end_labels s.layout.context_lines source labels reads h order))

pub place_ordered : (context : ℕ) (source : Source) (labels : List Label) (own : Bool) (group : Span)
    (reads : List ReadLabel) (found : Found) → own ≡ has_own_context labels → map (read_of labels) reads
    ≡ in_order labels →
    All (IsRead context source labels) reads → PointsTo source (chosen_label own group None reads) found
    → is_unread found ≡ false → framed_place found ≡ place_of source group (in_order labels)
place_ordered context source labels own group reads found which order h p u =
    place_is context source labels own group reads found (which ∙ sym (own_ordered labels)
    ∙ ap has_own_context (sym order)) h p
    u ∙ ap (place_of source group) order

-- the characters of a reason's name
named : (reason : RefusalReason) → chars (reason_name reason) ≡ reason_name reason
unfolding chars
named reasons.IoError = refl
named reasons.OutOfBounds = refl

-- a label is refused
pub gives_refused : (s : SnippetSettings) (source : Source) (labels order : List Label) (blank : Bool)
    (happen : List Call → Type 0) (read : ReadLabels) (index : ℕ) (reason : RefusalReason) (label : Label)
    (text : List ℕ) (before page : Printout) →
    AreRead s.layout.context_lines source labels order read → read ≡ reads.Refused index reason → order
    ≡ in_order labels → label
    ≡ get_or labels index label → text ≡ reason_name reason →
    page ≡ before ⊕ rows_tokens (refused_row s (record { label = label; name = chars text }) ∷ []) → happen []
    → GivesAround (record { settings = s; blank = blank; happen = happen }) source labels before (Some page)
gives_refused s source labels order blank happen read index reason label text before page h is same at called e nothing
    =
    let name : List ℕ = chars text in
    let names : name ≡ reason_name reason = ap chars called ∙ named reason in
    let k : AreRead s.layout.context_lines source labels order (reads.Refused index reason) =
    subst (λ (r : ReadLabels). AreRead s.layout.context_lines source labels order r) is h in
    let ls : List Label = in_order labels in
    let fails : List Bool = k.0 in
    let own : label_at labels index ≡ label = label_got labels index label k.3 ∙ sym at in
    let refused : first_refusal source.bytes fails ls ≡ Some (record { label = label; name = name }) =
    ap (first_refusal source.bytes fails) (sym same) ∙ k.2 ∙ ap (λ l. Some (record
    { label = l; name = reason_name reason })) own
    ∙ ap (λ n. Some (record { label = label; name = n })) (sym names) in
    let answers : Answers = record {
      end_fails = false;
      label_fails = fails;
      join_fails = [];
      place_fails = [];
      pieces = [];
    } in
    record {
      answers = answers;
      always = λ a. record { end = refl; labels = k.1 a; joins = tt; places = tt };
      pieces = none_have (group_context s.layout.context_lines ls) blank source
          (groups_of s.layout.context_lines source [] ls);
      plain = λ b. refl;
      calls = subst (λ r. happen (if is_some r then [] else group_calls (group_context s.layout.context_lines ls) source
          (groups_of s.layout.context_lines source [] ls) [])) (sym refused) nothing;
      is = ap Some e
          ∙ sym (ap (λ r. option_map (λ rows. before ⊕ rows_tokens rows)
          (rows_unless s source ls answers (option_map (refused_row s) r))) refused);
    }

pub groups_contents : (context : ℕ) (source : Source) (labels : List Label) (groups : List LabelGroup) (i : ℕ)
    (group : LabelGroup) → AreGroups context source labels groups → i < length groups → group ≡ get_or groups i group →
    AreContents (group_context context labels) source group.span group.contents
groups_contents context source labels groups i group h lt is =
    subst (λ (g : LabelGroup). AreContents (group_context context labels) source g.span g.contents) (sym is)
    (h.contents_are i group lt)

pub none_grouped : (context : ℕ) (source : Source) (labels : List Label) (r : Option (List LabelGroup))
    → IsGroupsResult context source labels r → r ≡ None → IsUnread context source labels
none_grouped context source labels r h is = subst (λ (o : Option (List LabelGroup)). IsGroupsResult context source
    labels o) is h
