use Rattle.std.proofs.Common.{◌+◌, ◌∙◌, ap}
use Rattle.miette_read.specs.views.Values.{texts}
use Rattle.miette_read_sarif.specs.rules.Newlines.{text_size}
use Rattle.miette_read_sarif.proofs.NewlineSteps.{rest_within}
use Rattle.miette_read_sarif.proofs.regions.text_end.Goals as goal

pub returns-clause-value : goal.returns-clause-value
returns-clause-value c =
    ap (λ n. c.args.start + n)
    (c.text_size.ensures.value ∙ ap (text_size (texts c.args.ends.now.newlines.items)) c.rest_from.ensures)

pub returns-clause-within : goal.returns-clause-within
returns-clause-within c =
    rest_within c.args.bytes.now c.rest_from.result.now c.args.start c.text_size.result c.requires c.rest_from.ensures
    c.text_size.ensures.within
