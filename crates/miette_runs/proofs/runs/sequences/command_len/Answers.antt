use Rattle.std.proofs.Common.{◌≡◌, ◌<◌, ◌∙◌, sym, ap, length, drop, arith, get_or, false, ne_eqb}
use Rattle.std.proofs.lemmas.List.{take_rest, get_or_default}
use Rattle.miette_runs.specs.rules.Sequences.{begins_terminator, is_line_feed, is_bell}
use Rattle.miette_runs.proofs.Counting.{command_step}
use Rattle.miette_runs.proofs.runs.sequences.command_len.Goals as goal

pub loop-i-preserved : goal.loop-i-preserved
loop-i-preserved c =
    let cs = c.args.codes.now in
    let i = c.loop-i.i in
    let x = c.index-codes-i.result in
    let within : i < length cs = omega arith in
    let e : get_or cs i 0 ≡ x = get_or_default cs i 0 x within ∙ sym c.index-codes-i.is in
    let d : begins_terminator (drop i cs) ≡ false = ap begins_terminator (sym (take_rest cs i))
    ∙ sym c.if-begins_terminator.ensures.value in
    c.loop-i.invariant ∙ command_step cs i within (ap is_line_feed e ∙ ne_eqb x 10 c.if-c-eq-LINE_FEED.false)
    (ap is_bell e ∙ ne_eqb x 7 c.if-c-eq-BELL.false) d
