-- What a highlighter may answer for the lines of snippets.
use Rattle.std.specs.Prelude.{ℕ, ◌≡◌, ◌≢◌, true, List, [], ◌∷◌, ◌++◌, map, slice_range, encode_utf8_all, Option, Bool}
use Rattle.std.specs.Prelude.{Some, None, is_some, if◌then◌else◌, drop}
use Rattle.std.specs.Option.{option_map_or}
use Rattle.bstr.specs.Utf8.{lossy_chars}
use Rattle.miette_lines.specs.rules.Lines.{Line}
use Rattle.miette_protocol.specs.views.Meaning.{Label}
use Rattle.miette_protocol.specs.rules.Reading.{Span, Source}
use Rattle.miette_highlight.specs.rules.HighlighterCalls.{Call, Leads, asked, listed_pieces, restarted}
use Rattle.miette_highlight.specs.rules.Pieces.{CutsLine, StyledPiece}
use Rattle.miette_labels.specs.rules.Answers.{Answers, Highlight, first_of}
use Rattle.miette_labels.specs.rules.Around.{group_context}
use Rattle.miette_labels.specs.rules.Contexts.{contents, lines_of_contents}
use Rattle.miette_labels.specs.rules.Groups.{in_order, first_refusal, groups_of}
use Rattle.miette_snippet_rules.specs.declared.options.LayoutOptions.{LayoutOptions}
use Rattle.miette_snippet_rules.specs.rules.SnippetLayout.{end_lines}

-- whether lines stay plain: there is no highlighter, or a blank one
abbrev pub leaves_plain : {H : Type 0} → (H → Bool) → Option H → Bool
leaves_plain is_blank highlighter = option_map_or is_blank highlighter true

-- a line's text as a highlighter gets it, with U+FFFD for invalid bytes
abbrev pub decoded_text : List ℕ → List ℕ
decoded_text bytes = encode_utf8_all (lossy_chars bytes)

-- a piece: a length in bytes and a style
abbrev pub piece_of : Highlight → StyledPiece
piece_of h = (h.bytes, h.style)

abbrev pub highlight_of : StyledPiece → Highlight
highlight_of piece = record { bytes = piece.0; style = piece.1 }

-- The pieces of a line make up its text, unless there are none. One plain piece counts as none. There are none if lines
-- stay plain.
pub record ArePieces (blank : Bool) (text : List ℕ) (pieces : List Highlight) : Type 0 where
  pub cut : pieces ≢ [] → CutsLine text (map piece_of pieces)
  pub none : blank ≡ true → pieces ≡ []

-- the same for each of several texts
abbrev pub EachHasPieces : Bool → List (List ℕ) → List (List Highlight) → Type 0
EachHasPieces blank [] pieces = Unit {0}
EachHasPieces blank (text ∷ texts) pieces = ArePieces blank text (first_of pieces)
    × EachHasPieces blank texts (drop 1 pieces)

-- the texts of lines
abbrev pub texts_of : List ℕ → List Line → List (List ℕ)
texts_of source lines = map (λ line. decoded_text (slice_range source line.start line.text_end)) lines

-- the same for each line of each snippet, with `context` lines of context
abbrev pub SnippetsHavePieces : ℕ → Bool → Source → List Span → List (List (List Highlight)) → Type 0
SnippetsHavePieces context blank source [] pieces = Unit {0}
SnippetsHavePieces context blank source (group ∷ groups) pieces =
    EachHasPieces blank (texts_of source.bytes (lines_of_contents (contents context source group))) (first_of pieces)
    × SnippetsHavePieces context blank source groups (drop 1 pieces)

-- ---- the calls on a highlighter

-- what may follow for a highlighter; anything if there is none
abbrev pub follows : {H : Type 0} → (H → List Call → Type 0) → Option H → List Call → Type 0
follows may_follow None calls = Unit {0}
follows may_follow (Some highlighter) calls = may_follow highlighter calls

-- calls that take it from one state to another
abbrev pub AreCallsOn : {H : Type 0} → (H → List Call → Type 0) → Option H → Option H → List Call → Type 0
AreCallsOn may_follow old new = λ calls. Leads (follows may_follow old) calls (follows may_follow new)

-- one call for each text, in order, with these pieces as answers
abbrev pub line_calls : List (List ℕ) → List (List Highlight) → List Call
line_calls [] pieces = []
line_calls (text ∷ texts) pieces = asked text (map piece_of (first_of pieces)) ∷ line_calls texts (drop 1 pieces)

-- for each snippet with `context` lines of context: one restart with its read, then one call for each line
abbrev pub group_calls : ℕ → Source → List Span → List (List (List Highlight)) → List Call
group_calls context source [] pieces = []
group_calls context source (group ∷ groups) pieces =
    restarted (contents context source group)
    ∷ line_calls (texts_of source.bytes (lines_of_contents (contents context source group))) (first_of pieces)
    ++ group_calls context source groups (drop 1 pieces)

-- the calls for the snippets of labels with `context` lines of context; none if a label is out of bounds
abbrev pub snippet_calls : ℕ → Source → List Label → Answers → List Call
snippet_calls context source labels answers =
    if is_some (first_refusal source.bytes answers.label_fails (in_order labels)) then []
    else group_calls (group_context context (in_order labels)) source
    (groups_of context source answers.join_fails (in_order labels)) answers.pieces

-- the calls for the snippets of a diagnostic's labels over a source
abbrev pub calls_of_labels : LayoutOptions → Source → List Label → Answers → List Call
calls_of_labels layout source labels answers =
    snippet_calls (end_lines layout answers.end_fails source labels) source labels answers

-- ---- a highlighter without state

-- the pieces of each line of each snippet, if they depend only on the line's text
abbrev pub pieces_by : (List ℕ → List StyledPiece) → ℕ → Source → List Span → List (List (List Highlight))
pieces_by answer context source groups = map (λ group.
    map (λ text. map highlight_of (listed_pieces (answer text)))
    (texts_of source.bytes (lines_of_contents (contents context source group)))) groups
