use Rattle.std.proofs.Common.{◌∙◌, Some, ap, arith, eq-eqb}
use Rattle.miette_sarif.proofs.Shown.{not_shown, shown}
use Rattle.miette_sarif.proofs.whole.snippet_of.Goals as goal

pub returns-in-Ok : goal.returns-in-Ok
returns-in-Ok c =
    ap Some c.in-Ok.ensures.cases.0 ∙ shown c.args.bytes.now c.between-part.result.now c.args.stretch
    c.between-part.ensures (omega (arith, c.if-stretch.false))
    (λ none. (let yes = eq-eqb _ 0 none in cc)) c.in-Ok.ensures.cases.1

pub returns-in-Err : goal.returns-in-Err
returns-in-Err c =
    not_shown c.args.bytes.now c.between-part.result.now c.args.stretch c.between-part.ensures
    (omega (arith, c.if-stretch.false))
    (λ none. (let yes = eq-eqb _ 0 none in cc)) c.in-Err.ensures.cases.0
