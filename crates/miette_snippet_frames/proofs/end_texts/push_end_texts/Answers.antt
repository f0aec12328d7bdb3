use Rattle.miette_style.specs.views.Printouts.{◌⊕◌}
use Rattle.std.proofs.Common.{◌∙◌, ◌+◌, List, ap, sym, map, drop}
use Rattle.miette_style.specs.views.Tokens.{RowToken}
use Rattle.miette_snippet_rules.specs.rules.Frames.{other_start}
use Rattle.miette_labels.specs.views.ProgramLabels.{drawn_of}
use Rattle.miette_snippet_frames.specs.views.LineContexts.{settings, multi_labels}
use Rattle.miette_lines.specs.views.Walking.{line_of_text}
use Rattle.miette_snippet_frames.proofs.ClosingRows.{closing_more, closing_skip, rest_of}
use Rattle.miette_snippet_frames.proofs.end_texts.push_end_texts.Goals as goal
use Rattle.miette_snippet_frames.proofs.end_texts.push_end_texts.Goals.{then-closes+in_ok-push_end_text, else-closes}

pub loop-label-preserved : goal.loop-label-preserved
loop-label-preserved g c =
    let context = c.args.context.now in
    let s = settings context in
    let line = line_of_text context.line in
    let multi = multi_labels context in
    let start = other_start s context.frame.number_width in
    let i = c.loop-label.label-index in
    let later : List RowToken =
    rest_of s line context.gutter multi start (map drawn_of (drop (i + 1) context.multi.now)) in
    elim c.if-closes.branch [
      | then-closes+in_ok-push_end_text w ↦
          ap (λ x. x ⊕ later) w.page-is
          ∙ closing_more s line context.gutter multi start context.multi.now i c.loop-label.page
          w.push_end_text.new.page _ c.loop-label-test.true (sym c.closes.ensures ∙ w.if-closes.true)
          w.in_ok-push_end_text.ensures c.loop-label.invariant
      | else-closes w ↦
          ap (λ x. x ⊕ later) w.page-is
          ∙ closing_skip s line context.gutter multi start context.multi.now i c.loop-label.page _
          c.loop-label-test.true (sym c.closes.ensures ∙ w.if-closes.false) c.loop-label.invariant
    ]
