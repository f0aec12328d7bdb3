use Rattle.std.proofs.Common.{map, string_bytes, take}
use Rattle.miette_program.specs.rules.JobText.{IsGiven, IsLed, JobHandlerStays}
use Rattle.miette_tree.specs.views.Report.{tree_of}
use Rattle.miette_show.specs.views.Texts.{AreTexts}
use Rattle.miette_show.proofs.message.texts_of.Given as goal

-- the texts of the reports that are passed, given by the handler as it was at first
abbrev pub invariant-loop-report : goal.invariant-loop-report
invariant-loop-report g l = record {
  texts : AreTexts (IsGiven g.H.Highlighter.is_blank g.H.Highlighter.may_follow l.initial.handler)
      (map (tree_of g.D.Diagnostic.meaning g.S.SourceCode.source) (take l.report-index l.reports)) l.error
      (string_bytes l.text);
  stays : JobHandlerStays g.H.Highlighter.is_blank l.initial.handler l.handler;
  led : IsLed g.H.Highlighter.may_follow l.initial.handler l.handler;
}
