use Rattle.miette_layout.proofs.AskedEnds.{asks_told, none_told}
use Rattle.miette_layout.proofs.source_end.asks_for_end.Goals as goal

pub returns-then-not-ends_at : goal.returns-then-not-ends_at
returns-then-not-ends_at g c =
    let source = g.S.SourceCode.source c.args.source.now in
    let labels = c.args.labels.now in
    none_told source labels c.last_offset-last.result c.ends_at.result c.last_offset-last.ensures c.ends_at.ensures
    c.if-not-ends_at.true

pub returns : goal.returns
returns g c =
    let source = g.S.SourceCode.source c.args.source.now in
    let labels = c.args.labels.now in
    asks_told source labels c.last_offset-last.result c.ends_at.result c.some_asks.result c.last_offset-last.ensures
    c.ends_at.ensures c.if-not-ends_at.false c.some_asks.ensures
