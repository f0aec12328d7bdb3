use Rattle.miette_labels.specs.views.ProgramLabels.{no_label}
use Rattle.miette_lines.specs.views.Walking.{line_of_text}
use Rattle.miette_snippet_rules.proofs.EndColumns.{spread_done, spread_more}
use Rattle.miette_snippet_rules.proofs.label_columns.push_multi_line_ends.Goals as goal

pub loop-label-preserved : goal.loop-label-preserved
loop-label-preserved c =
    spread_more (line_of_text c.args.line.now) c.args.columns.now c.args.labels.now c.loop-label.label-index no_label
    c.loop-label.ends.items c.push_multi_line_end.new.ends.items _ c.loop-label-test.true
    c.in_ok-push_multi_line_end.ensures
    c.loop-label.invariant

pub returns : goal.returns
returns c =
    spread_done (line_of_text c.args.line.now) c.args.columns.now c.args.labels.now c.loop-label.label-index
    c.loop-label.ends.items _ c.loop-label-test.false c.loop-label.invariant
