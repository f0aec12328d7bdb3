use Rattle.std.proofs.Common.{◌≤◌, ◌+◌, ℕ, List, arith, length, drop, subst}
use Rattle.std.proofs.lemmas.List.{length-drop, take_rest}
use Rattle.miette_lines.proofs.Firsts.{line_parted}
use Rattle.miette_labels.proofs.line_sweep.line_at.Goals as goal

pub returns-clause-parted : goal.returns-clause-parted
returns-clause-parted c =
    line_parted c.args.start c.args.at c.args.bytes.now _ c.first_line.result (take_rest c.args.bytes.now c.args.at)
    c.first_line.ensures

pub returns-clause-from : goal.returns-clause-from
returns-clause-from c = c.first_line.ensures.from

pub returns-clause-text : goal.returns-clause-text
returns-clause-text c = c.first_line.ensures.text

pub returns-clause-ending : goal.returns-clause-ending
returns-clause-ending c = c.first_line.ensures.ending

pub returns-clause-some : goal.returns-clause-some
returns-clause-some c = c.first_line.ensures.some

pub returns-clause-to : goal.returns-clause-to
returns-clause-to c =
    let to : c.first_line.result.end ≤ c.args.start + c.args.at + length (drop c.args.at c.args.bytes.now) =
    subst (λ (xs : List ℕ). c.first_line.result.end ≤ c.args.start + c.args.at + length xs)
    (take_rest c.args.bytes.now c.args.at) c.first_line.ensures.to in
    omega (arith, to, length-drop c.args.at c.args.bytes.now)
