use Rattle.std.proofs.Common.{◌≡◌, map, string_bytes, take}
use Rattle.std.specs.List.{flat_map}
use Rattle.miette_tree.specs.views.Report.{tree_of}
use Rattle.miette_show.specs.rules.Logging.{unplaced_note}
use Rattle.miette_show.proofs.unplaced_reports.unplaced_notes.Given as goal

-- what is said of the reports that are passed
abbrev pub invariant-loop-report : goal.invariant-loop-report
invariant-loop-report g l =
    string_bytes l.notes
    ≡ flat_map (unplaced_note l.placed l.number)
    (map (tree_of g.D.Diagnostic.meaning g.S.SourceCode.source) (take l.report-index l.reports))
