use Rattle.std.proofs.Common.{◌≡◌, ◌∙◌, true, ap, sym, drop}
use Rattle.std.proofs.lemmas.List.{take_rest}
use Rattle.miette_runs.specs.rules.Sequences.{begins_command}
use Rattle.miette_runs.proofs.OpenCommands.{opened_after, plain_after}
use Rattle.miette_runs.proofs.runs.sequences.stays_open.Goals as goal

pub returns-then-begins_command : goal.returns-then-begins_command
returns-then-begins_command c = λ _.
    let cs = c.args.codes.now in
    let i = c.args.i in
    let b : begins_command (drop i cs) ≡ true = ap begins_command (sym (take_rest cs i)) ∙ sym c.begins_command.ensures
    ∙ c.if-begins_command.true in
    opened_after cs i c.requires.inside c.requires.none b

pub returns : goal.returns
returns c = plain_after c.args.codes.now c.args.i c.index-codes-i.result c.args.unfinished c.requires.inside
    c.index-codes-i.is c.if-code-eq-LINE_FEED.false c.requires.known
