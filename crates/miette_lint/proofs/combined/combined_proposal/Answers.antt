use Rattle.std.proofs.Common.{◌≡◌, ◌-◌, ◌∙◌, [], ap, length, rules}
use Rattle.miette_fixes.specs.declared.applicability.Applicability.TheVariants.{MachineApplicable}
use Rattle.miette_lint.specs.rules.Combined.{resolved_text}
use Rattle.miette_lint.proofs.LeftSteps.{joint_made}
use Rattle.miette_lint.proofs.combined.combined_proposal.Goals as goal

pub returns : goal.returns
returns c =
    let found = length c.as_slice-found.result.now in
    let words : c.as_str.result.now ≡ resolved_text (found - c.in_ok-left.left) found = search rules in
    let fix : c.with_applicability-fix.result
    ≡ record { message = c.as_str.result.now; applicability = MachineApplicable; edits = [] } = search rules in
    joint_made c.args.source.now c.args.width found c.in_ok-left.left c.as_str.result.now
    c.with_applicability-fix.result c.as_slice.result.now c.joined.result
    (ap length (c.as_slice-found.ensures.value ∙ c.in_ok-labels.ensures.found))
    c.in_ok-left.ensures.count words fix (c.as_slice.ensures.value ∙ c.in_ok-fixes.ensures) c.joined.ensures
