use Rattle.std.proofs.Common.{◌≡◌, ◌+◌, ◌-◌, [], ◌∷◌, ◌++◌, take, drop, ap, sym, ◌∙◌, arith}
use Rattle.miette_tree.specs.rules.Chain.{spine}
use Rattle.miette_tree.specs.views.Report.{tree_of}
use Rattle.miette_tree.proofs.Ends.{further, last_of}
use Rattle.miette_tree.proofs.chain.last_within.Goals as goal

pub loop-before-preserved : goal.loop-before-preserved
loop-before-preserved g c =
    let value = tree_of g.D.Diagnostic.meaning g.S.SourceCode.source in
    let one : c.loop-before.before + 1 - 1 ≡ c.loop-before.before - 1 + 1 = omega arith in
    ap (λ k. drop k (spine (value c.args.report.now))) one
    ∙ further (value c.args.report.now) (value c.loop-before.at.now) (value c.in-Some.next.now)
    (c.loop-before.before - 1) c.loop-before.invariant c.in-Some.ensures

pub returns-clause-parts : goal.returns-clause-parts
returns-clause-parts g c =
    let value = tree_of g.D.Diagnostic.meaning g.S.SourceCode.source in
    let xs = spine (value c.args.report.now) in
    let all : c.args.count - 1 ≡ c.loop-before.before - 1 = omega arith in
    last_of (value c.args.report.now) (value c.loop-before.at.now) c.args.count (omega arith)
    (ap (λ k. drop k xs) all ∙ c.loop-before.invariant)
    ∙ ap (λ y. take (c.args.count - 1) xs ++ y ∷ []) (sym c.message-2.ensures)
