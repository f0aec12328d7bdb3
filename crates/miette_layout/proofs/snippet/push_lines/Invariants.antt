use Rattle.std.proofs.Common.{◌≡◌, ◌+◌, ◌-◌, length, map}
use Rattle.miette_snippet_rules.specs.views.SnippetSettings.{settings_of}
use Rattle.miette_lines.specs.rules.Lines.{lines_from}
use Rattle.miette_labels.specs.views.ProgramLabels.{drawn_of}
use Rattle.miette_snippet_rules.specs.rules.FoldedLabels.{leaves_out, line_at}
use Rattle.miette_snippet_rules.specs.rules.SnippetLayout.{left_out}
use Rattle.miette_snippet_folds.specs.views.ExtentIndex.{extent_view}
use Rattle.miette_snippet_rules.specs.rules.Highlighting.{leaves_plain, follows}
use Rattle.miette_labels.specs.views.Sweeping.{IsAt}
use Rattle.miette_layout.proofs.ReadRows.{AreLined}
use Rattle.miette_snippet_folds.proofs.Starts.{Begins}
use Rattle.miette_layout.proofs.snippet.push_lines.Given as goal

abbrev pub invariant-loop-at : goal.invariant-loop-at
invariant-loop-at g l = record {
  lined : AreLined (left_out (settings_of l.body.frame.settings) l.body.before
      (lines_from l.body.start l.body.bytes.now) (map extent_view l.body.label_extents.now)) l.gap
      (settings_of l.body.frame.settings) l.body.frame.number_width l.body.gutter
      (map drawn_of l.labels) l.body.start l.body.bytes.now (l.body.before + 1)
      (leaves_plain g.H.Highlighter.is_blank l.initial.highlighter)
      (follows g.H.Highlighter.may_follow l.initial.highlighter) (follows g.H.Highlighter.may_follow l.highlighter)
      l.at (l.body.before + l.place + 1) l.initial.page l.page;
  before : l.gap ≡ leaves_out l.body.frame.settings.layout.now.label_lines (lines_from l.body.start l.body.bytes.now)
      (map extent_view l.body.label_extents.now) (l.place - 1)
      (line_at (lines_from l.body.start l.body.bytes.now) (l.place - 1));
  begun : Begins l.body.start l.body.bytes.now (l.body.start + l.at) l.place;
  state : IsAt l.labels (l.body.start + l.at) l.sweep.next l.sweep.running.items;
  stays : leaves_plain g.H.Highlighter.is_blank l.highlighter
      ≡ leaves_plain g.H.Highlighter.is_blank l.initial.highlighter;
}

abbrev pub decreases-loop-at : goal.decreases-loop-at
decreases-loop-at g l = length l.body.bytes.now - l.at
