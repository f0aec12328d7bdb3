-- The collected findings of the code, as the helper definitions represent them.
use Rattle.std.specs.Prelude.{map}
use Rattle.std.specs.Option.{option_copied}
use Rattle.miette_sarif.specs.declared.finding.ReportTexts.{ReportTexts}
use Rattle.miette_sarif.specs.declared.gather.FindingParts.{FindingParts}
use Rattle.miette_sarif.specs.declared.gather.FindingList.{FindingList}
use Rattle.miette_sarif.specs.steps.Gathering.{Findings, FindingPartsValue, ReportTextsValue}
use Rattle.miette_sarif.specs.views.Findings.{finding_of, mark_of, applicable_fix_of}

abbrev pub report_texts_of : ReportTexts → ReportTextsValue
report_texts_of it = record {
  code = it.code.now;
  level = it.level.now;
  message = it.message.now;
  causes = map (λ text. text.now) it.causes.items;
  help = option_copied it.help;
  url = option_copied it.url;
}

abbrev pub collected_of : FindingParts → FindingPartsValue
collected_of it = record {
  locations = map mark_of it.locations.items;
  fixes = map applicable_fix_of it.fixes.items;
  unapplied = map (λ text. text.now) it.unapplied.items;
}

abbrev pub gathered_of : FindingList → Findings
gathered_of it = record { findings = map finding_of it.findings.items; sources = it.sources }
