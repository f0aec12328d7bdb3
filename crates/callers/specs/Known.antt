-- What is known of the graphical reports of one diagnostic.
use Rattle.std.specs.Prelude.{◌≡◌, ℕ, false, List, [], ◌∷◌, Some, None, codes, encode_utf8_all}
use Rattle.miette_protocol.specs.views.Diagnostic.{message_alone}
use Rattle.miette_protocol.specs.views.Meaning.{Label}
use Rattle.miette_protocol.specs.rules.Reading.{Source, named_source, plain_source}
use Rattle.miette_tree.specs.rules.Diagnosis.{plain_diagnosis}
use Rattle.miette_tree.specs.rules.Tree.{Tree, single_report, with_source}
use Rattle.miette_style.specs.rules.Themes.{ansi_styles, no_styles, unicode_characters}
use Rattle.miette_snippet_rules.specs.rules.Underlines.{Underline}
use Rattle.miette_snippet_rules.specs.rules.Numbers.{ranges}
use Rattle.miette_highlight.specs.rules.HighlighterCalls.{AnsweredBy}
use Rattle.miette_highlight.specs.rules.Pieces.{plain_pieces}
use Rattle.miette_graphical_rules.specs.rules.Answers.{Answers}
use Rattle.miette_graphical_rules.specs.rules.Calls.{report_calls}
use Rattle.miette_graphical_rules.specs.rules.GraphicalSettings.{GraphicalSettings, default_settings}
use Rattle.miette_graphical_rules.specs.rules.Snippets.{whole_drawing}
use Rattle.miette_graphical_rules.specs.rules.Text.{report_text}
use Rattle.miette_graphical_rules.specs.laws.SnippetTheorems.{AreSeparateUnderlines, ShowsRanges, SnippetIsConnected}
use Rattle.miette_graphical_rules.specs.laws.SnippetTheorems.{groups_of, underlines_under}
use Rattle.miette_graphical_rules.specs.laws.SnippetTheorems.{context_numbers}
use Rattle.std.specs.List.{AllByRecursion}

-- ---- the report: a label on the one letter of a name, in the second of two lines

abbrev pub settings_file : Source
settings_file = named_source (plain_source (codes "port = 80\nhost = x\n")) (codes "app.toml") None

abbrev pub name_label : Label
name_label = record {
  text = Some (codes "this name");
  span = record { offset = 17; len = 1 };
  primary = false;
  context = None;
}

abbrev pub warning_tree : Tree
warning_tree = with_source settings_file
    (single_report (plain_diagnosis (record (message_alone (codes "no such host"))
    { labels = Some (name_label ∷ []) })))

-- ---- how it is drawn

abbrev pub in_colours : GraphicalSettings
in_colours = default_settings (record { characters = unicode_characters; styles = ansi_styles })

abbrev pub plain : GraphicalSettings
plain = default_settings (record { characters = unicode_characters; styles = no_styles })

-- ---- what its snippet shows

-- Lines 0 and 1, in one frame.
pub record ShowsBothLines (s : GraphicalSettings) : Type 0 where
  pub lines : ranges (context_numbers s settings_file (name_label ∷ [])) ≡ (0 ∷ 1 ∷ []) ∷ []
  pub shown : ShowsRanges s settings_file (name_label ∷ [])

-- The columns of an underline.
abbrev pub columns_of : Underline → List ℕ
columns_of mark = mark.from ∷ mark.until ∷ []

-- Line 1 has one underline, at column 7, and nothing overlaps it.
pub record HasOwnMark (s : GraphicalSettings) : Type 0 where
  pub columns : AllByRecursion (λ mark. columns_of mark ≡ 7 ∷ 8 ∷ []) (underlines_under s settings_file
      (name_label ∷ []) 1)
  pub own : AreSeparateUnderlines (underlines_under s settings_file (name_label ∷ []) 1)

-- In each snippet, the label's text is connected to its underline.
abbrev pub TextHangs : GraphicalSettings → Type 0
TextHangs s = AllByRecursion (SnippetIsConnected s settings_file (name_label ∷ []))
    (groups_of s settings_file (name_label ∷ []))

-- The row of the second line, with its line feed.
abbrev pub host_row : List ℕ
host_row = encode_utf8_all (codes " 2 │ host = x\n")

-- ---- how a highlighter that leaves lines plain is asked

-- The text of that warning if the highlighter gives one plain piece for each line.
pub record IsAskedPlainly (text : List ℕ) : Type 0 where
  pub answers : Answers
  pub plainly : AnsweredBy plain_pieces (report_calls plain warning_tree answers)
  pub is : text ≡ encode_utf8_all (report_text whole_drawing plain warning_tree answers)
