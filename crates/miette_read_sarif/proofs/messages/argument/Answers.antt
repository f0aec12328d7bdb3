use Rattle.std.proofs.Common.{◌≡◌, ◌<◌, ◌≤◌, length, get_or, ap, ◌∙◌, rules}
use Rattle.std.specs.Prelude.{option_and_then}
use Rattle.serde_json.specs.Find.{as_str}
use Rattle.serde_json.specs.View.{view}
use Rattle.miette_read_sarif.proofs.Finding.{item_there, no_item}
use Rattle.miette_read_sarif.proofs.messages.argument.Goals as goal

pub returns-in-Some : goal.returns-in-Some
returns-in-Some c =
    let arguments = c.args.arguments.now in
    let x = c.in-Some.found.now in
    let within : c.args.number < length arguments = search rules in
    let is : x ≡ get_or arguments c.args.number x = search rules in
    c.as_str.ensures ∙ ap (option_and_then as_str) (item_there view arguments c.args.number x within is)

pub returns-in-None : goal.returns-in-None
returns-in-None c =
    let arguments = c.args.arguments.now in
    let after : length arguments ≤ c.args.number = search rules in
    ap (option_and_then as_str) (no_item view arguments c.args.number after)
