use Rattle.std.proofs.Common.{◌∙◌, sym}
use Rattle.miette_lines.specs.views.Walking.{line_of_text}
use Rattle.miette_snippet_rules.proofs.EndColumns.{begin_put, end_put, neither_put}
use Rattle.miette_snippet_rules.proofs.label_columns.push_multi_line_end.Goals as goal

pub returns-then-begins : goal.returns-then-begins
returns-then-begins c =
    begin_put (line_of_text c.args.line.now) c.args.columns.now c.args.label.now c.in_ok-first.first
    c.args.ends.now.items c.push.new.self.items (sym c.begins.ensures ∙ c.if-begins.true)
    c.in_ok-first.ensures c.in_ok-push.ensures.items

pub returns-then-stops : goal.returns-then-stops
returns-then-stops c =
    end_put (line_of_text c.args.line.now) c.args.columns.now c.args.label.now c.in_ok-after.after
    c.saturating_sub.result c.args.ends.now.items c.push-then-stops.new.self.items
    (sym c.begins.ensures ∙ c.if-begins.false) (sym c.stops.ensures ∙ c.if-stops.true)
    c.in_ok-after.ensures c.saturating_sub.ensures c.in_ok-push-2.ensures.items

pub returns : goal.returns
returns c =
    neither_put (line_of_text c.args.line.now) c.args.columns.now c.args.label.now c.args.ends.now.items
    (sym c.begins.ensures ∙ c.if-begins.false) (sym c.stops.ensures ∙ c.if-stops.false)
