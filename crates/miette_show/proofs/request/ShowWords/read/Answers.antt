use Rattle.std.proofs.Common.{rules}
use Rattle.miette.specs.rules.Detection.{IsToldBy}
use Rattle.miette_show.specs.rules.ShowWords.{requested_by}
use Rattle.miette_show.specs.views.Asked.{IsRequest, words_of}
use Rattle.miette_show.proofs.RequestSteps.{not-wrong}
use Rattle.miette_show.proofs.request.ShowWords.read.Goals as goal

pub returns-clause-right : goal.returns-clause-right
returns-clause-right g c =
    λ wrong.
    let told = IsToldBy (g.R.Lookup.variable_may_be c.args.rt.now) (g.R.Streams.terminal_may_be c.args.rt.now) in
    let is : IsRequest told (requested_by (words_of c.args.words)) c.in_ok-read_request.field-0 = search rules in
    not-wrong told (requested_by (words_of c.args.words)) c.in_ok-read_request.field-0 is wrong
