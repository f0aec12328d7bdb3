use Rattle.std.proofs.Common.{ap, length, arith, sym, rules, ◌∙◌}
use Rattle.std.specs.List.{flat_map}
use Rattle.miette_lines.specs.rules.Lines.{lines_of}
use Rattle.miette_lint.specs.rules.Fixes.{fixed_line}
use Rattle.miette_lint.proofs.FindingSteps.{given_line, left_first, left_more, left_none}
use Rattle.miette_lint.proofs.Proposed.{fixed_applied}
use Rattle.miette_lint.proofs.fixed.fixed.Goals as goal

pub loop-line-init : goal.loop-line-init
loop-line-init c = left_first (fixed_line c.args.source.now c.ending_of-ending.result.now) _ c.args.source.now _
    (search rules) (search rules)

pub push_line-requires : goal.push_line-requires
push_line-requires c =
    let given = given_line c.loop-line.line-iterator c.next.new.self _ _ c.in-Some.is c.next.ensures.steps in
    record {
      text = given.0.text;
      ends = given.0.ending;
      within = omega (arith, given.0.to, c.loop-line.invariant.to);
    }

pub loop-line-preserved : goal.loop-line-preserved
loop-line-preserved c =
    left_more (fixed_line c.args.source.now c.ending_of-ending.result.now) (length c.args.source.now)
    c.loop-line.line-iterator c.next.new.self _ c.in-Some.line c.loop-line.fixed.items c.push_line.new.fixed.items _
    c.loop-line.invariant c.in-Some.is c.next.ensures.steps c.in_ok-push_line.ensures

pub returns : goal.returns
returns c =
    let all =
    left_none (fixed_line c.args.source.now c.ending_of-ending.result.now) (length c.args.source.now)
    c.loop-line.line-iterator _ _ c.loop-line.fixed.items _ c.loop-line.invariant c.in-None.is c.next.ensures.steps
    ∙ ap (λ e. flat_map (fixed_line c.args.source.now e) (lines_of c.args.source.now)) c.ending_of-ending.ensures in
    record { text = all; applied = all ∙ sym (fixed_applied c.args.source.now) }
