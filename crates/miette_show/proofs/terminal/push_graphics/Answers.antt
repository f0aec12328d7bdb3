use Rattle.std.proofs.Common.{map, string_bytes}
use Rattle.std.proofs.lemmas.Result.{on_ok_weaker}
use Rattle.miette_show.proofs.TerminalSteps.{graphics_said}
use Rattle.miette_show.proofs.terminal.push_graphics.Goals as goal

pub returns-in-Some : goal.returns-in-Some
returns-in-Some c =
    on_ok_weaker c.push_value.result
    (graphics_said c.args.said.now c.in-Some.text c.as_str.result.now (map string_bytes c.args.words.now.items)
    (map string_bytes c.push_value.new.words.items) c.in-Some.is c.as_str.ensures.value)
    c.push_value.ensures
