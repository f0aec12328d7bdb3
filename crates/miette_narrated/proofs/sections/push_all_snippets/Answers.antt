use Rattle.std.proofs.Common.{rules}
use Rattle.std.specs.Option.{option_map}
use Rattle.std.proofs.lemmas.Result.{on_ok_weaker}
use Rattle.miette_tree.specs.rules.Tree.{head}
use Rattle.miette_tree.specs.views.Owned.{ref_source}
use Rattle.miette_tree.specs.views.Report.{tree_of}
use Rattle.miette_narrated.proofs.Further.{all_told, first_refused, further_refused}
use Rattle.miette_narrated.proofs.sections.push_all_snippets.Goals as goal

pub returns-clause-text : goal.returns-clause-text
returns-clause-text g c =
    let m = head (tree_of g.D.Diagnostic.meaning g.S.SourceCode.source c.args.report.now) in
    let source = option_map (ref_source g.S.SourceCode.source) c.args.source in
    on_ok_weaker c.push_further.result (λ more. all_told c.args.context source m _ _ _ _ _ c.labels_of.ensures
    c.further_snippets.ensures c.in_ok-push_snippets_of.ensures.text more) c.push_further.ensures.text

pub returns-clause-refused : goal.returns-clause-refused
returns-clause-refused g c = λ h.
    further_refused (option_map (ref_source g.S.SourceCode.source) c.args.source)
    (head (tree_of g.D.Diagnostic.meaning g.S.SourceCode.source c.args.report.now)) _ c.further_snippets.ensures
    (c.push_further.ensures.refused h)

pub returns-in_err-push_snippets_of-clause-refused : goal.returns-in_err-push_snippets_of-clause-refused
returns-in_err-push_snippets_of-clause-refused g c = λ h.
    first_refused (option_map (ref_source g.S.SourceCode.source) c.args.source)
    (head (tree_of g.D.Diagnostic.meaning g.S.SourceCode.source c.args.report.now)) _ c.labels_of.ensures
    (c.in_err-push_snippets_of.ensures.refused (search rules))
