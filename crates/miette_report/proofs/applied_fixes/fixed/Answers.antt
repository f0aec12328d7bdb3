use Rattle.std.proofs.Common.{◌≡◌, [], Some, None, length, sym, ap, ◌∙◌}
use Rattle.std.proofs.lemmas.Result.{IfOk-weaker}
use Rattle.std.specs.List.{list_any}
use Rattle.std.specs.Option.{option_map}
use Rattle.std.specs.Prelude.{not}
use Rattle.miette_lines.specs.rules.Lists.{is_nil}
use Rattle.miette_fixes.specs.rules.ApplyingAll.{all_applied, taken}
use Rattle.miette_tree.specs.rules.Tree.{source_of}
use Rattle.miette_tree.specs.views.Owned.{ref_source}
use Rattle.miette_tree.specs.views.Report.{tree_of}
use Rattle.miette_report.specs.rules.AppliedFixes.{asked_edits, job_fixed_text, some_left, whole_text}
use Rattle.miette_report.proofs.FixSteps.{asked_lists}
use Rattle.miette_report.proofs.applied_fixes.fixed.Goals as goal

pub returns-in-Some : goal.returns-in-Some
returns-in-Some g c =
    let t = tree_of g.D.Diagnostic.meaning g.S.SourceCode.source c.args.report.now in
    let source = ref_source g.S.SourceCode.source c.in-Some.source in
    let some : source_of t ≡ Some source =
    sym c.source_code.ensures ∙ ap (option_map (ref_source g.S.SourceCode.source)) c.in-Some.is in
    let lists = asked_lists c.args.all t c.deref.result.now c.in_ok-list.list.items c.in_ok-found.found.items
    c.new.result.items c.deref.ensures.value c.in_ok-list.ensures c.in_ok-found.ensures c.new.ensures.items in
    record {
      text = IfOk-weaker c.fixed_over.result _ _
          (λ it p. p ∙ ap (all_applied (whole_text source)) lists
          ∙ ap (λ o. job_fixed_text o (asked_edits c.args.all t)) (sym some))
          c.fixed_over.ensures.text;
      left = IfOk-weaker c.fixed_over.result _ _
          (λ it p. p ∙ ap (λ l. list_any not (taken (length (whole_text source)) [] l)) lists
          ∙ ap (λ o. some_left o (asked_edits c.args.all t)) (sym some))
          c.fixed_over.ensures.left;
    }

pub returns-clause-left : goal.returns-clause-left
returns-clause-left g c =
    let t = tree_of g.D.Diagnostic.meaning g.S.SourceCode.source c.args.report.now in
    let none : source_of t ≡ None =
    sym c.source_code.ensures ∙ ap (option_map (ref_source g.S.SourceCode.source)) c.in-None.is in
    let lists = asked_lists c.args.all t c.deref-in-None.result.now c.in_ok-list.list.items c.in_ok-found.found.items
    c.new.result.items c.deref-in-None.ensures.value c.in_ok-list.ensures c.in_ok-found.ensures c.new.ensures.items in
    c.some_edits.ensures ∙ ap (λ l. list_any (λ edits. not (is_nil edits)) l) lists
    ∙ ap (λ o. some_left o (asked_edits c.args.all t)) (sym none)
