-- The findings of the code, as the rules represent them.
use Rattle.std.specs.Prelude.{ℕ, List, map, string_bytes}
use Rattle.std.specs.declared.alloc.Global.{Global}
use Rattle.std.specs.declared.string.String.{String}
use Rattle.std.specs.Option.{option_map, option_copied}
use Rattle.miette_sarif.specs.declared.finding.SourceId.{SourceId}
use Rattle.miette_sarif.specs.declared.finding.SarifRegion.{SarifRegion as AreaHere}
use Rattle.miette_sarif.specs.declared.finding.PhysicalLocation.{PhysicalLocation as PlaceHere}
use Rattle.miette_sarif.specs.declared.finding.SarifLocation.{SarifLocation as MarkHere}
use Rattle.miette_sarif.specs.declared.finding.Replacement.{Replacement}
use Rattle.miette_sarif.specs.declared.finding.Proposal.{Proposal}
use Rattle.miette_sarif.specs.declared.finding.Finding.{Finding as FindingHere}
use Rattle.miette_sarif.specs.rules.Findings.{SourceName, SarifRegion, PhysicalLocation, SarifLocation}
use Rattle.miette_sarif.specs.rules.Findings.{ReplacementValue, ApplicableFix, Finding}

abbrev pub source_name_of : SourceId → SourceName
source_name_of it = record { name = it.name.now; number = it.number }

abbrev pub area_of : AreaHere → SarifRegion
area_of it = record { stretch = it.stretch; snippet = option_copied it.snippet }

abbrev pub place_of : PlaceHere → PhysicalLocation
place_of it = record { source = source_name_of it.source; area = option_map area_of it.area }

abbrev pub mark_of : MarkHere → SarifLocation
mark_of it = record { place = option_map place_of it.place; text = it.text.now }

abbrev pub replacement_value_of : Replacement → ReplacementValue
replacement_value_of it = record { deleted = it.deleted; text = string_bytes it.text }

abbrev pub applicable_fix_of : Proposal → ApplicableFix
applicable_fix_of it = record {
  message = it.message.now;
  applicability = it.applicability;
  source = source_name_of it.source;
  replacements = map replacement_value_of it.replacements.items;
}

abbrev pub finding_of : FindingHere → Finding
finding_of it = record {
  code = it.report_texts.code.now;
  level = it.report_texts.level.now;
  message = it.report_texts.message.now;
  causes = map (λ t. t.now) it.report_texts.causes.items;
  help = option_copied it.report_texts.help;
  url = option_copied it.report_texts.url;
  primary = option_map mark_of it.primary;
  locations = map mark_of it.locations.items;
  fixes = map applicable_fix_of it.fixes.items;
  unapplied = map (λ t. t.now) it.unapplied.items;
}

abbrev pub sarif_findings_of : List FindingHere → List Finding
sarif_findings_of fs = map finding_of fs

abbrev pub source_names_of : List SourceId → List SourceName
source_names_of ns = map source_name_of ns

abbrev pub texts_of : List (String Global) → List (List ℕ)
texts_of ts = map string_bytes ts
