use Rattle.std.proofs.Common.{◌∙◌, ap, length, lit<, sym, take, arith}
use Rattle.std.proofs.lemmas.List.{take_all}
use Rattle.std.proofs.lemmas.Str.Pattern.{split_once_first}
use Rattle.miette_show.proofs.unplaced_reports.first_row.Goals as goal

pub returns-in-Some : goal.returns-in-Some
returns-in-Some c =
    let cut = rw c.in-Some.is at (split_once_first 10 c.args.text.now c.split_once.result c.split_once.ensures.cases
    (lit< tt)) in
    cut.1

pub returns-in-None : goal.returns-in-None
returns-in-None c =
    let whole = rw c.in-None.is at (split_once_first 10 c.args.text.now c.split_once.result c.split_once.ensures.cases
    (lit< tt)) in
    let text = c.args.text.now in
    sym (ap (λ n. take n text) whole ∙ take_all (length text) text (omega arith))
