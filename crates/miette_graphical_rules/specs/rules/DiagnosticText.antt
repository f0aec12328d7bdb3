-- The parts of one diagnostic's text.
use Rattle.std.specs.Prelude.{ℕ, Bool, List, [], ◌∷◌, ◌++◌, codes, chars, Option, Some, None}
use Rattle.miette_runs.specs.rules.Runs.{Fragment, Styled, LinkTo, LinkEnd, print}
use Rattle.miette_style.specs.declared.style.Style.{Style}
use Rattle.miette_tree.specs.rules.Diagnosis.{Diagnosis}
use Rattle.miette_protocol.specs.rules.Reading.{Source}
use Rattle.miette_protocol.specs.declared.protocol.Severity.{Severity}
use Rattle.miette_graphical_rules.specs.rules.GraphicalSettings.{GraphicalSettings, severity_style}
use Rattle.miette_graphical_rules.specs.declared.settings.UrlMode.{UrlMode}
use Rattle.miette_graphical_rules.specs.declared.settings.UrlMode.TheVariants.{Links, Text, Hidden}
use Rattle.miette_graphical_rules.specs.rules.Answers.{DiagnosticAnswer}
use Rattle.miette_graphical_rules.specs.rules.Indents.{bare_text, wrapped_under, icon_indent, bar_indent, arrow_indent}
use Rattle.miette_graphical_rules.specs.rules.Indents.{stem_indent, help_indent, further_help_indent, footer_indent}
use Rattle.miette_graphical_rules.specs.rules.Indents.{fix_indent, further_fix_indent}
use Rattle.miette_tree.specs.rules.DiagnosticParts.{severity_title}

abbrev pub line_feed : List ℕ
line_feed = 10 ∷ []

-- the end of the row, and a blank row
abbrev pub blank_row : List Fragment
blank_row = bare_text (10 ∷ 10 ∷ []) ∷ []

-- ---- header

-- the code and a space, in a link
abbrev pub linked_code : Style → Option (List ℕ) → List Fragment
linked_code style None = []
linked_code style (Some code) = Styled style (chars code ++ 32 ∷ []) ∷ []

-- the URL after the code
abbrev pub url_after : GraphicalSettings → Option (List ℕ) → List Fragment
url_after s None = []
url_after s (Some url) = bare_text (codes " (") ∷ Styled s.theme.styles.link (chars url) ∷ bare_text (codes ")") ∷ []

abbrev pub link_header : GraphicalSettings → Style → List ℕ → Option (List ℕ) → List Fragment
link_header s style url code = LinkTo (chars url) ∷ linked_code style code ++ Styled s.theme.styles.link s.link_text
    ∷ LinkEnd
    ∷ blank_row

abbrev pub code_header : Style → Option (List ℕ) → List Fragment → List Fragment
code_header style None after = []
code_header style (Some code) after = Styled style (chars code) ∷ after ++ blank_row

abbrev pub header_by : UrlMode → GraphicalSettings → Style → Option (List ℕ) → Option (List ℕ) → List Fragment
header_by Links s style (Some url) code = link_header s style url code
header_by Links s style None code = code_header style code []
header_by Text s style url code = code_header style code (url_after s url)
header_by Hidden s style url code = code_header style code []

-- A link to the URL with the code and the link text, or the code followed by the URL in text mode, or nothing.
abbrev pub header : GraphicalSettings → Diagnosis → List Fragment
header s m = header_by s.urls s (severity_style s m.severity) m.url m.code

-- ---- message, help, footer

abbrev pub message_text : GraphicalSettings → Diagnosis → List ℕ
message_text s m = wrapped_under s (icon_indent s m.severity) (bar_indent s m.severity) (chars m.message) ++ line_feed

abbrev pub help_text : GraphicalSettings → Option (List ℕ) → List ℕ
help_text s None = []
help_text s (Some help) = wrapped_under s (help_indent s) further_help_indent (chars help) ++ line_feed

abbrev pub footer_of : GraphicalSettings → Option (List ℕ) → List ℕ
footer_of s None = []
footer_of s (Some footer) = line_feed ++ wrapped_under s footer_indent footer_indent footer ++ line_feed

-- a blank row and the footer
abbrev pub footer_text : GraphicalSettings → List ℕ
footer_text s = footer_of s s.footer

-- ---- causes and related reports

-- a cause, or a nested related report, under its arrow
abbrev pub under_arrow : GraphicalSettings → Option Severity → Bool → List ℕ → List ℕ
under_arrow s outer is_last text = wrapped_under s (arrow_indent s outer is_last) (stem_indent s outer is_last) text
    ++ line_feed

-- a related report's header, or the end of its row
abbrev pub header_or_end : List Fragment → List Fragment
header_or_end [] = bare_text line_feed ∷ []
header_or_end (s ∷ ss) = s ∷ ss

abbrev pub title_text : GraphicalSettings → Diagnosis → List ℕ
title_text s m = line_feed ++ severity_title m.severity ++ print (header_or_end (header s m))

-- ---- snippets

-- The rows of a diagnostic's snippets, in runs. They depend on the settings, the effective source, the diagnostic and
-- the answers.
abbrev pub SnippetRows : Type 0
SnippetRows = GraphicalSettings → Option Source → Diagnosis → DiagnosticAnswer → List (List Fragment)

abbrev pub rows_text : List (List Fragment) → List ℕ
rows_text [] = []
rows_text (row ∷ rows) = print row ++ line_feed ++ rows_text rows

-- ---- fixes

-- a fix as it is shown: the bytes of its message, and the rows below it in runs
pub record ShownFix : Type 0 where
  pub message : List ℕ
  pub rows : List (List Fragment)

-- a diagnostic's fixes, by the same inputs as its snippets
abbrev pub ShownFixes : Type 0
ShownFixes = GraphicalSettings → Option Source → Diagnosis → DiagnosticAnswer → List ShownFix

-- the wrapped message, and the rows
abbrev pub fix_text : GraphicalSettings → ShownFix → List ℕ
fix_text s fix =
    wrapped_under s (fix_indent s) further_fix_indent (chars fix.message) ++ line_feed ++ rows_text fix.rows

abbrev pub fixes_text : GraphicalSettings → List ShownFix → List ℕ
fixes_text s [] = []
fixes_text s (fix ∷ fixes) = fix_text s fix ++ fixes_text s fixes

-- ---- what is drawn

-- The drawing of a diagnostic over its sources: the rows of its snippets, and its fixes.
pub record Drawing : Type 0 where
  pub rows : SnippetRows
  pub fixes : ShownFixes
