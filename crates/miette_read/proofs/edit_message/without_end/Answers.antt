use Rattle.std.proofs.Common.{Some, None, ap, sym, ◌∙◌, arith}
use Rattle.std.proofs.lemmas.Str.Pattern.{strip_suffix_char}
use Rattle.miette_read.specs.rules.EditMessage.{without_end}
use Rattle.miette_read.proofs.Endings.{ending_left, no_ending}
use Rattle.miette_read.proofs.edit_message.without_end.Goals as goal

pub returns-in-Some : goal.returns-in-Some
returns-in-Some c =
    let text = c.args.text.now in
    let front = c.in-Some.front in
    sym
    (ap without_end (strip_suffix_char 10 text (Some front) c.in-Some.ensures.cases (omega arith))
    ∙ ending_left front.now)

pub returns-in-None : goal.returns-in-None
returns-in-None c =
    let text = c.args.text.now in
    sym (no_ending text (strip_suffix_char 10 text None c.in-None.ensures.cases (omega arith)))
