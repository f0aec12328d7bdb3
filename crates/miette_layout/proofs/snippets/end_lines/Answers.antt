use Rattle.std.proofs.Common.{Bool, false, true, subst}
use Rattle.miette_layout.specs.views.SourceEnds.{AsksForEnd}
use Rattle.miette_layout.proofs.AskedEnds.{lines_asked, lines_there, lines_unwanted}
use Rattle.miette_layout.proofs.snippets.end_lines.Goals as goal

pub returns-then-not-layout : goal.returns-then-not-layout
returns-then-not-layout g c =
    lines_unwanted c.args.layout.now (g.S.SourceCode.source c.args.source.now) c.args.labels.now c.if-not-layout.true

pub returns-then-lines-gt0 : goal.returns-then-lines-gt0
returns-then-lines-gt0 g c =
    lines_there c.args.layout.now (g.S.SourceCode.source c.args.source.now) c.args.labels.now c.if-lines-gt0.true

pub returns-then-asks_for_end : goal.returns-then-asks_for_end
returns-then-asks_for_end g c =
    let source = g.S.SourceCode.source c.args.source.now in
    lines_asked c.args.layout.now source c.args.labels.now true c.if-not-layout.false c.if-lines-gt0.false
    (subst (λ (b : Bool). AsksForEnd source c.args.labels.now b) c.if-asks_for_end.true c.asks_for_end.ensures)

pub returns : goal.returns
returns g c =
    let source = g.S.SourceCode.source c.args.source.now in
    lines_asked c.args.layout.now source c.args.labels.now false c.if-not-layout.false c.if-lines-gt0.false
    (subst (λ (b : Bool). AsksForEnd source c.args.labels.now b) c.if-asks_for_end.false c.asks_for_end.ensures)
