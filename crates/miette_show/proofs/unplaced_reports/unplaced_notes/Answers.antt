use Rattle.std.proofs.Common.{◌++◌, ◌∷◌, [], ◌∙◌, ap, append-nil, map, sym, take, arith}
use Rattle.std.specs.List.{flat_map}
use Rattle.std.proofs.lemmas.List.{map-append, take_all}
use Rattle.std.proofs.lemmas.List.Concat.{flat_map-append}
use Rattle.miette_read.proofs.Steps.{next_taken}
use Rattle.miette_tree.specs.views.Report.{tree_of}
use Rattle.miette_show.specs.rules.Logging.{unplaced_note}
use Rattle.miette_show.proofs.unplaced_reports.unplaced_notes.Goals as goal

pub loop-report-preserved : goal.loop-report-preserved
loop-report-preserved g c =
    let l = c.loop-report in
    let tree = tree_of g.D.Diagnostic.meaning g.S.SourceCode.source in
    let note = unplaced_note c.args.placed c.args.number in
    let before = map tree (take l.report-index c.args.reports.now) in
    c.in_ok-push_note.ensures ∙ ap (λ t. t ++ note (tree c.report-item.result)) l.invariant
    ∙ ap (λ t. flat_map note before ++ t) (sym (append-nil (note (tree c.report-item.result))))
    ∙ sym (flat_map-append note before (tree c.report-item.result ∷ []))
    ∙ ap (flat_map note) (sym (map-append tree (take l.report-index c.args.reports.now) (c.report-item.result ∷ [])))
    ∙ ap (λ rs. flat_map note (map tree rs))
    (sym (next_taken c.args.reports.now l.report-index c.report-item.result c.loop-report-test.true c.report-item.is))

pub returns : goal.returns
returns g c =
    let l = c.loop-report in
    let tree = tree_of g.D.Diagnostic.meaning g.S.SourceCode.source in
    l.invariant
    ∙ ap (λ rs. flat_map (unplaced_note c.args.placed c.args.number) (map tree rs))
    (take_all l.report-index c.args.reports.now (omega (arith, c.loop-report-test.false)))
