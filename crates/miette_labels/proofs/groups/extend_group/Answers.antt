use Rattle.miette_labels.proofs.KnownLabels.{read_known}
use Rattle.miette_labels.proofs.groups.extend_group.Goals as goal

pub read_span_near-requires-clause-first : goal.read_span_near-requires-clause-first
read_span_near-requires-clause-first g c =
    read_known c.args.context (g.S.SourceCode.source c.args.source.now) c.args.before.now.span
    c.args.before.now.contents c.begin-first.result c.requires.before c.begin-first.ensures.offset
    c.begin-first.ensures.line

pub read_span_near-requires-clause-last : goal.read_span_near-requires-clause-last
read_span_near-requires-clause-last g c =
    read_known c.args.context (g.S.SourceCode.source c.args.source.now) c.args.label.now.span
    c.args.label.now.contents c.begin-last.result c.requires.label c.begin-last.ensures.offset
    c.begin-last.ensures.line
