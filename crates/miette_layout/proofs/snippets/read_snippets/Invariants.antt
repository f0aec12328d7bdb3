use Rattle.miette_labels.specs.rules.Groups.{in_order}
use Rattle.miette_snippet_rules.specs.rules.FoldedLabels.{extents_of_labels}
use Rattle.miette_snippet_rules.specs.rules.SnippetLayout.{settings_around}
use Rattle.miette_snippet_rules.specs.views.SnippetSettings.{settings_of}
use Rattle.std.proofs.Common.{◌≡◌}
use Rattle.miette_snippet_rules.specs.rules.Highlighting.{leaves_plain, follows}
use Rattle.miette_labels.specs.views.Reads.{AreGroups}
use Rattle.miette_labels.specs.views.Sweeping.{IsAt}
use Rattle.miette_layout.proofs.SnippetSequence.{AreDrawn}
use Rattle.miette_layout.proofs.snippets.read_snippets.Given as goal

abbrev pub invariant-loop-group : goal.invariant-loop-group
invariant-loop-group g l = record {
  grouped : AreGroups l.fn.settings.layout.now.context_lines (g.S.SourceCode.source l.fn.source)
      (in_order l.fn.given.labels.now) l.group-items;
  drawn : AreDrawn (settings_around (settings_of l.fn.settings) (in_order l.fn.given.labels.now))
      (extents_of_labels l.fn.settings.layout.now.label_lines l.fn.settings.layout.now.context_lines
      (g.S.SourceCode.source l.fn.source)
      (in_order l.fn.given.labels.now)) (g.S.SourceCode.source l.fn.source) l.fn.given.labels.now
      (leaves_plain g.H.Highlighter.is_blank l.initial.highlighter)
      (follows g.H.Highlighter.may_follow l.initial.highlighter) (follows g.H.Highlighter.may_follow l.highlighter)
      l.group-items l.group-index l.fn.page l.page;
  state : IsAt l.drawing.placed.now l.position.at l.position.sweep.next l.position.sweep.running.items;
  stays : leaves_plain g.H.Highlighter.is_blank l.highlighter
      ≡ leaves_plain g.H.Highlighter.is_blank l.initial.highlighter;
}
