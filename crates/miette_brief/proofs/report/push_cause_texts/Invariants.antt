use Rattle.std.proofs.Common.{◌≡◌, ◌++◌, string_bytes, map, drop}
use Rattle.miette_brief.specs.rules.Rows.{brief_rows_text}
use Rattle.miette_brief.specs.rules.Report.{cause_row}
use Rattle.miette_brief.specs.steps.Conversions.{brief_location_of}
use Rattle.miette_brief.proofs.report.push_cause_texts.Given as goal

abbrev pub invariant-loop-text : goal.invariant-loop-text
invariant-loop-text l =
    string_bytes l.out ++ brief_rows_text (map (cause_row (brief_location_of l.at))
    (map string_bytes (drop l.text-index l.texts)))
    ≡ string_bytes l.fn.out ++ brief_rows_text (map (cause_row (brief_location_of l.at)) (map string_bytes l.texts))
