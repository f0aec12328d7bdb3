use Rattle.std.proofs.Common.{◌≡◌, ◌∙◌, Option, Some, Ok, Err, ap, subst, sym, true}
use Rattle.miette_protocol.specs.declared.protocol.Severity.{Severity}
use Rattle.miette_tree.specs.rules.Tree.{head}
use Rattle.miette_tree.specs.views.Report.{tree_of}
use Rattle.miette.specs.declared.print.PrintError.{PrintError}
use Rattle.miette.specs.declared.reporter.counts.Counts.{Counts}
use Rattle.miette.specs.rules.Counting.{with_one}
use Rattle.miette.specs.rules.Forms.{IsNextBy}
use Rattle.miette.specs.rules.Printing.{WritesOne}
use Rattle.miette.specs.rules.Reported.{IsReported, behaving}
use Rattle.miette.specs.rules.ReporterRun.{ReporterRun}
use Rattle.miette.proofs.reporter.run.Reporter.report.Goals as goal

-- what holds of two values holds of those that they are
moved : {A : Type 0} {old before new after : A} → before ≡ old → after ≡ new → (P : A → A → Type 0) → P before new
    → P old after
moved {before = before} {after = after} p q P h = subst (λ it. P it after) p (subst (λ it. P before it) (sym q) h)

pub returns-in-Ok-clause-asks : goal.returns-in-Ok-clause-asks
returns-in-Ok-clause-asks g c =
    moved c.self.view_is c.self-2.view_is (λ old new. WritesOne (IsNextBy old.form old.is_begun
    (g.T.ReportHandler.asks old.handler new.handler
    (tree_of g.D.Diagnostic.meaning g.S.SourceCode.source c.args.report.now)))
    (g.W.Write.contents old.outputs.writer) (g.W.Write.contents new.outputs.writer)) c.in-Ok.ensures.asks

-- ---- the writing of the next report, with its count before it and what is remembered after it

module _ {T W F : Type 0} (next before : ReporterRun T W F) (counts : Counts) (severity given : Option Severity)
    (one : counts ≡ with_one before.counts severity) (is : severity ≡ given)
    (state : next ≡ record before { handler = next.handler; outputs = next.outputs; counts = counts }) where
  counted : next ≡ record before {
    handler = next.handler;
    outputs = next.outputs;
    counts = with_one before.counts given;
  }
  counted =
      state ∙ ap (λ n. record before { handler = next.handler; outputs = next.outputs; counts = n })
      (one ∙ ap (λ s. with_one before.counts s) is)

  begun : record next { is_begun = true } ≡ record before {
    handler = next.handler;
    outputs = next.outputs;
    counts = with_one before.counts given;
    is_begun = true;
  }
  begun = ap (λ (it : ReporterRun T W F). record it { is_begun = true }) counted

  failed : (why : PrintError) → record next { failure = Some why } ≡ record before {
    handler = next.handler;
    outputs = next.outputs;
    counts = with_one before.counts given;
    failure = Some why;
  }
  failed why = ap (λ (it : ReporterRun T W F). record it { failure = Some why }) counted

pub returns-in-Ok-clause-reported : goal.returns-in-Ok-clause-reported
returns-in-Ok-clause-reported g c =
    let t = tree_of g.D.Diagnostic.meaning g.S.SourceCode.source c.args.report.now in
    let next = c.in-Ok.ensures in
    let it = c.self.inside in
    moved c.self.view_is c.self-2.view_is (λ old new. IsReported
    (behaving g.T.ReportHandler.gives g.T.ReportHandler.asks g.T.ReportHandler.refuses g.T.ReportHandler.keeps
    g.W.Write.contents) (Ok tt) old t (record new { is_begun = true }))
    (record {
      written = next.written;
      asks = next.asks;
      unwritten = tt;
      stopped = next.stopped;
      silent = next.silent;
      refused = next.refused;
      settings = next.settings;
      state = begun c.write_next.new.self (record {
        handler = it.handler;
        outputs = it.outputs;
        form = it.form;
        counts = it.counts;
        is_begun = it.is_begun;
        is_summed = it.is_summed;
        failure = it.failure;
      }) c.with_one-self-inside.result c.severity.result (head t).severity c.with_one-self-inside.ensures
          c.severity.ensures next.state;
    })

pub returns-in-Err-clause-reported : goal.returns-in-Err-clause-reported
returns-in-Err-clause-reported g c =
    let t = tree_of g.D.Diagnostic.meaning g.S.SourceCode.source c.args.report.now in
    let next = c.in-Err.ensures in
    let it = c.self.inside in
    moved c.self.view_is c.self-2.view_is (λ old new. IsReported
    (behaving g.T.ReportHandler.gives g.T.ReportHandler.asks g.T.ReportHandler.refuses g.T.ReportHandler.keeps
    g.W.Write.contents) (Err c.in-Err.why) old t (record new { failure = Some c.in-Err.why }))
    (record {
      written = tt;
      asks = tt;
      unwritten = next.unwritten;
      stopped = next.stopped;
      silent = next.silent;
      refused = next.refused;
      settings = next.settings;
      state = failed c.write_next.new.self (record {
        handler = it.handler;
        outputs = it.outputs;
        form = it.form;
        counts = it.counts;
        is_begun = it.is_begun;
        is_summed = it.is_summed;
        failure = it.failure;
      }) c.with_one-self-inside.result c.severity.result (head t).severity c.with_one-self-inside.ensures
          c.severity.ensures next.state c.in-Err.why;
    })
