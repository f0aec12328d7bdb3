use Rattle.std.proofs.Common.{◌≡◌, map, string_bytes, rules}
use Rattle.std.specs.Prelude.{decimal}
use Rattle.std.proofs.lemmas.Result.{on_ok_weaker}
use Rattle.miette_show.proofs.TerminalSteps.{width_said}
use Rattle.miette_show.proofs.terminal.push_width.Goals as goal

pub returns-in_ok-number-in-Some-clause-words : goal.returns-in_ok-number-in-Some-clause-words
returns-in_ok-number-in-Some-clause-words c =
    let said : c.as_str.result.now ≡ decimal c.in-Some.width = search rules in
    on_ok_weaker c.push_value.result
    (width_said c.args.width c.in-Some.width c.as_str.result.now (map string_bytes c.args.words.now.items)
    (map string_bytes c.push_value.new.words.items) c.in-Some.is said)
    c.push_value.ensures
