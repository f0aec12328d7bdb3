use Rattle.std.proofs.Common.{string_bytes}
use Rattle.std.specs.Option.{option_map}
use Rattle.std.proofs.lemmas.Result.{on_ok_weaker}
use Rattle.miette_tree.specs.rules.Tree.{head}
use Rattle.miette_tree.specs.views.Owned.{ref_source}
use Rattle.miette_tree.specs.views.Report.{tree_of}
use Rattle.miette_brief.specs.steps.Conversions.{brief_location_of}
use Rattle.miette_brief.proofs.Telling.{advised}
use Rattle.miette_brief.proofs.report.push_advice.Goals as goal

pub returns : goal.returns
returns g c =
    on_ok_weaker c.push_fixes.result (λ h. advised (brief_location_of c.args.at)
    (option_map (ref_source g.S.SourceCode.source) c.args.source)
    (head (tree_of g.D.Diagnostic.meaning g.S.SourceCode.source c.args.report.now)) _ c.fixes.result.now
    (string_bytes c.args.out.now) (string_bytes c.push_help.new.out) (string_bytes c.push_fixes.new.out)
    c.help.ensures c.fixes.ensures c.in_ok-push_help.ensures h) c.push_fixes.ensures
