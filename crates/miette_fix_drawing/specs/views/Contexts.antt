-- What the rows of a fix are drawn with, in code.
use Rattle.miette_snippet_rules.specs.views.SnippetSettings.{settings_of}
use Rattle.miette_fix_rows.specs.rules.DiffRows.{DiffContext}
use Rattle.miette_fix_drawing.specs.declared.segments.DiffDrawing.{DiffDrawing}

abbrev pub context_with : DiffDrawing → DiffContext
context_with drawing = record {
  settings = settings_of drawing.frame.settings;
  number_width = drawing.frame.number_width;
  deleted = drawing.deleted.now;
  inserted = drawing.inserted.now;
}
