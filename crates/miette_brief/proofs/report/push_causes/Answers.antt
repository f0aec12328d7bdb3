use Rattle.std.proofs.Common.{refl, ap, sym, ◌∙◌, string_bytes, map}
use Rattle.std.specs.Option.{option_map}
use Rattle.std.proofs.lemmas.Result.{on_ok_weaker}
use Rattle.miette_tree.specs.rules.Tree.{cause_of, texts}
use Rattle.miette_tree.specs.views.Report.{tree_of}
use Rattle.miette_tree.specs.views.Owned.{ref_source}
use Rattle.miette_tree.proofs.Nesting.{texts_shown}
use Rattle.miette_brief.specs.steps.Conversions.{brief_location_of}
use Rattle.miette_brief.proofs.SoFar.{none_so_far}
use Rattle.miette_brief.proofs.Causing.{one_more, all_told}
use Rattle.miette_brief.proofs.report.push_causes.Goals as goal

pub loop-next-init : goal.loop-next-init
loop-next-init g c = none_so_far _ _ _ _

pub loop-next-preserved : goal.loop-next-preserved
loop-next-preserved g c =
    let value = tree_of g.D.Diagnostic.meaning g.S.SourceCode.source in
    let source = option_map (ref_source g.S.SourceCode.source) in
    one_more (brief_location_of c.args.at) (source c.args.source) (cause_of (value c.args.report.now))
    (cause_of (value c.loop-next.above.now)) (value c.in-Diagnostic.next.now)
    (source c.effective_source-own.result) c.labels_of.result.now _ _ (brief_location_of c.in_ok-place.place)
    c.message.result.now
    (string_bytes c.args.out.now) (string_bytes c.loop-next.out) (string_bytes c.push_row.new.out)
    c.loop-next.invariant c.in-Diagnostic.ensures.value c.effective_source-own.ensures c.labels_of.ensures
    c.further_snippets.ensures c.message.ensures refl c.in_ok-place.ensures c.in_ok-push_row.ensures

pub returns : goal.returns
returns g c =
    let value = tree_of g.D.Diagnostic.meaning g.S.SourceCode.source in
    let source = option_map (ref_source g.S.SourceCode.source) in
    let left = cause_of (value c.loop-next.above.now) in
    on_ok_weaker c.push_cause_texts.result (λ h. all_told (brief_location_of c.args.at) (source c.args.source)
    (cause_of (value c.args.report.now)) left (map string_bytes c.cause_texts.result.now)
    (string_bytes c.args.out.now) (string_bytes c.loop-next.out) (string_bytes c.push_cause_texts.new.out)
    c.loop-next.invariant
    (sym (ap texts c.cause_texts.ensures ∙ texts_shown g.D.Diagnostic.meaning g.S.SourceCode.source c.cause.result left
    c.cause.ensures.value c.in_default.not-Diagnostic))
    h) c.push_cause_texts.ensures
