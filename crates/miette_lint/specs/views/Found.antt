-- Findings of the code, as the rules represent them.
use Rattle.miette_lint.specs.declared.coded.CodedFinding.{CodedFinding}
use Rattle.miette_lint.specs.rules.FindingWithFixes.{FindingWithFixes}

abbrev pub coded_of : CodedFinding → FindingWithFixes
coded_of it = record { code = it.code.now; label = it.label; fixes = it.fixes.items }
