use Rattle.std.proofs.Common.{length, arith, rules}
use Rattle.miette_lint.specs.rules.Findings.{line_findings}
use Rattle.miette_lint.proofs.AcceptedFindings.{findings_accepted}
use Rattle.miette_lint.proofs.FindingSteps.{given_line, left_first, left_more, left_none}
use Rattle.miette_lint.proofs.findings.findings.Goals as goal

pub loop-line-init : goal.loop-line-init
loop-line-init c = left_first (line_findings c.args.source.now c.args.width) _ c.args.source.now _ (search rules)
    (search rules)

pub push_line-requires : goal.push_line-requires
push_line-requires c =
    let given = given_line c.loop-line.line-iterator c.next.new.self _ _ c.in-Some.is c.next.ensures.steps in
    record { text = given.0.text; within = omega (arith, given.0.ending, given.0.to, c.loop-line.invariant.to) }

pub loop-line-preserved : goal.loop-line-preserved
loop-line-preserved c =
    left_more (line_findings c.args.source.now c.args.width) (length c.args.source.now) c.loop-line.line-iterator
    c.next.new.self _ c.in-Some.line c.loop-line.found.items c.push_line.new.found.items _ c.loop-line.invariant
    c.in-Some.is c.next.ensures.steps c.in_ok-push_line.ensures

pub returns : goal.returns
returns c =
    let all =
    left_none (line_findings c.args.source.now c.args.width) (length c.args.source.now) c.loop-line.line-iterator _ _
    c.loop-line.found.items _ c.loop-line.invariant c.in-None.is c.next.ensures.steps in
    record { found = all; accepted = findings_accepted c.args.source.now c.args.width c.loop-line.found.items all }
