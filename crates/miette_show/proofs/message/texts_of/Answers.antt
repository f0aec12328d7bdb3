use Rattle.std.proofs.Common.{◌≡◌, true, refl, arith, rules}
use Rattle.miette_tree.specs.rules.Reads.{AlwaysReads, report_in_bounds}
use Rattle.miette_tree.specs.views.Report.{tree_of}
use Rattle.miette_program.proofs.HighlighterSteps.{led-nowhere, led-on}
use Rattle.miette_program.proofs.JobHandlerSteps.{stays-itself, stays-on}
use Rattle.miette_show.proofs.ReportSteps.{all_texts, one_text_more}
use Rattle.miette_show.proofs.RowReportSteps.{item_holds}
use Rattle.miette_show.proofs.message.texts_of.Goals as goal

pub loop-report-init : goal.loop-report-init
loop-report-init g c = record {
  texts = (refl, search rules);
  stays = stays-itself g.H.Highlighter.is_blank _;
  led = led-nowhere g.H.Highlighter.may_follow _;
}

pub push_text-requires : goal.push_text-requires
push_text-requires g c =
    let l = c.loop-report in
    let tree = tree_of g.D.Diagnostic.meaning g.S.SourceCode.source in
    record {
      reads = item_holds AlwaysReads tree c.args.reports.now l.report-index c.report-item.result c.loop-report-test.true
          c.report-item.is c.requires.reads;
      accepted = item_holds (λ t. report_in_bounds t ≡ true) tree c.args.reports.now l.report-index c.report-item.result
          c.loop-report-test.true c.report-item.is c.requires.accepted;
    }

pub loop-report-preserved : goal.loop-report-preserved
loop-report-preserved g c =
    let l = c.loop-report in
    let blank = g.H.Highlighter.is_blank in
    let follow = g.H.Highlighter.may_follow in
    record {
      texts = one_text_more blank follow c.args.handler.now l.handler
          (tree_of g.D.Diagnostic.meaning g.S.SourceCode.source) c.args.reports.now l.report-index
          c.report-item.result l.error c.in_ok-grave.grave _ _ _ c.loop-report-test.true c.report-item.is
          l.invariant.stays l.invariant.led l.invariant.texts c.in_ok-grave.ensures.text (search rules);
      stays = stays-on blank c.args.handler.now l.handler c.push_text.new.handler l.invariant.stays
          c.push_text.ensures.stays;
      led = led-on follow c.args.handler.now l.handler c.push_text.new.handler l.invariant.led
          c.in_ok-grave.ensures.led;
    }

pub returns-in_err-grave-clause-stays : goal.returns-in_err-grave-clause-stays
returns-in_err-grave-clause-stays g c =
    stays-on g.H.Highlighter.is_blank c.args.handler.now c.loop-report.handler c.push_text.new.handler
    c.loop-report.invariant.stays c.push_text.ensures.stays

pub returns-clause-texts : goal.returns-clause-texts
returns-clause-texts g c =
    all_texts _ (tree_of g.D.Diagnostic.meaning g.S.SourceCode.source) c.args.reports.now c.loop-report.report-index _ _
    (omega (arith, c.loop-report-test.false)) c.loop-report.invariant.texts
