use Rattle.miette_style.specs.views.Printouts.{◌⊕◌}
use Rattle.std.proofs.Common.{◌≡◌, ◌≤◌, map, take, drop, length}
use Rattle.miette_style.specs.views.Tokens.{rows_tokens}
use Rattle.miette_snippet_rules.specs.rules.LabelRows.{label_text_rows}
use Rattle.miette_snippet_rules.specs.rules.SnippetLayout.{before_each}
use Rattle.miette_snippet_rules.specs.views.MadeUnderlines.{underline_of}
use Rattle.miette_snippet_frames.specs.views.LineContexts.{settings, before_underlines}
use Rattle.miette_snippet_frames.proofs.connectors.push_label_texts.Given as goal

abbrev pub invariant-loop-place : goal.invariant-loop-place
invariant-loop-place g l = record {
  within : l.place ≤ length l.marks;
  told : l.page ≡ l.fn.page ⊕ rows_tokens (before_each (before_underlines l.fn.context)
      (label_text_rows (settings l.fn.context)
      (map underline_of (take l.place l.marks))
      (map underline_of (drop l.place l.marks))));
}

abbrev pub decreases-loop-place : goal.decreases-loop-place
decreases-loop-place g l = l.place
