use Rattle.std.proofs.Common.{◌≡◌, ◌<◌, ◌^◌, ap, length, sym, ◌∙◌, arith}
use Rattle.std.specs.Result.{result_unwrap_or}
use Rattle.std.proofs.lemmas.List.{length-map}
use Rattle.serde_json.specs.View.{view}
use Rattle.miette_read.specs.views.Values.{viewed}
use Rattle.miette_read_sarif.proofs.WalkSteps.{numbered_is}
use Rattle.miette_read_sarif.proofs.messages.numbered.Goals as goal

pub returns : goal.returns
returns c =
    let arguments = c.args.arguments.now in
    let count : length (viewed arguments) ≡ length arguments = length-map arguments view in
    let small : length (viewed arguments) < 2 ^ 64 = omega (arith, count) in
    c.argument.ensures
    ∙ numbered_is (viewed arguments) c.args.digits.now c.parse.result c.unwrap_or-number.result small c.requires.some
    c.requires.digits c.parse.ensures.value.0
    (c.unwrap_or-number.ensures ∙ ap (result_unwrap_or c.parse.result) (sym count))
