use Rattle.std.proofs.Common.{ap, sym, ◌∙◌, string_bytes, map}
use Rattle.std.proofs.lemmas.Result.{on_ok_weaker}
use Rattle.miette_tree.specs.rules.Tree.{cause_of, texts}
use Rattle.miette_tree.specs.views.Report.{tree_of}
use Rattle.miette_tree.proofs.Nesting.{texts_shown}
use Rattle.miette_brief.proofs.Commanding.{cause_more, causes_end}
use Rattle.miette_brief.proofs.github.push_causes.Goals as goal

pub loop-next-preserved : goal.loop-next-preserved
loop-next-preserved g c =
    let value = tree_of g.D.Diagnostic.meaning g.S.SourceCode.source in
    cause_more (cause_of (value c.loop-next.above.now)) (value c.in-Diagnostic.next.now) c.message.result.now
    (string_bytes c.loop-next.out) (string_bytes c.push_message_row.new.out) _ c.in-Diagnostic.ensures.value
    c.message.ensures c.in_ok-push_message_row.ensures c.loop-next.invariant

pub returns : goal.returns
returns g c =
    let value = tree_of g.D.Diagnostic.meaning g.S.SourceCode.source in
    let left = cause_of (value c.loop-next.above.now) in
    on_ok_weaker c.push_cause_texts.result (λ h. causes_end left (map string_bytes c.cause_texts.result.now)
    (string_bytes c.loop-next.out) (string_bytes c.push_cause_texts.new.out) _
    (sym (ap texts c.cause_texts.ensures ∙ texts_shown g.D.Diagnostic.meaning g.S.SourceCode.source c.cause.result left
    c.cause.ensures.value c.in_default.not-Diagnostic))
    h c.loop-next.invariant) c.push_cause_texts.ensures
