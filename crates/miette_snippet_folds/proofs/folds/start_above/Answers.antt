use Rattle.std.proofs.Common.{◌≡◌, ◌-◌, ◌∙◌, min, length, ap}
use Rattle.miette_lines.specs.rules.Lines.{line_start}
use Rattle.miette_snippet_folds.proofs.LeftOutLines.{started}
use Rattle.miette_snippet_folds.proofs.folds.start_above.Goals as goal

pub returns : goal.returns
returns c =
    let begin : c.start_before.result.0 ≡ line_start c.args.bytes.now (c.args.place - c.args.lines) =
    started c.args.start c.args.bytes.now c.args.offset c.args.place c.args.lines c.min-at.result
    c.start_before.result.0 c.requires.place (c.min-at.ensures
    ∙ ap (min (length c.args.bytes.now)) c.saturating_sub.ensures) c.start_before.ensures.start in
    cc
