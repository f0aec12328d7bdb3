-- The rows that a snippet prints.
use Rattle.std.specs.Prelude.{Bool, List, map}
use Rattle.std.specs.Option.{option_map}
use Rattle.miette_highlight.specs.rules.HighlighterCalls.{Call}
use Rattle.miette_labels.specs.rules.Contexts.{lines_of_contents}
use Rattle.miette_layout.specs.declared.snippet.SnippetDrawing.{SnippetDrawing}
use Rattle.miette_layout.specs.declared.snippet.Snippet.{Snippet}
use Rattle.miette_snippet_folds.specs.views.ExtentIndex.{extent_view}
use Rattle.miette_snippet_frames.specs.views.Places.{place_at}
use Rattle.miette_snippet_rules.specs.views.SnippetSettings.{settings_of}
use Rattle.miette_labels.specs.views.ProgramLabels.{drawn_of}
use Rattle.miette_style.specs.views.Printouts.{Printout}
use Rattle.miette_snippet_frames.specs.views.ContentsRows.{texts_in, contents_snippet, PutsRows}

-- The page got the rows of a snippet; the highlighter got the texts of its lines.
abbrev pub PutsSnippet : Bool → (List Call → Type 0) → SnippetDrawing → Snippet → Printout → Printout → Type 0
PutsSnippet blank happen drawing snippet before after =
    PutsRows blank happen
    (texts_in snippet.contents.now.span.offset snippet.contents.now.bytes (lines_of_contents snippet.contents.now))
    (contents_snippet (settings_of drawing.settings) (map extent_view drawing.label_extents.now)
    (map drawn_of drawing.placed.now) snippet.contents.now (option_map place_at snippet.place)) before after
