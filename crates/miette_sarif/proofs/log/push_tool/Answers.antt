use Rattle.std.proofs.lemmas.Result.{on_ok_weaker}
use Rattle.miette_sarif.proofs.Pieces.{tool_put}
use Rattle.miette_sarif.specs.views.Rules.{rules_view}
use Rattle.miette_sarif.specs.views.Tool.{tool_view}
use Rattle.miette_sarif.proofs.log.push_tool.Goals as goal

pub returns : goal.returns
returns c =
    on_ok_weaker c.end_object-2.result (tool_put (tool_view c.args.tool.now) (rules_view c.args.rules.now)
    _ _ _ _ _ _ _ _ _ _ c.in_ok-begin_object.ensures c.in_ok-key.ensures c.in_ok-begin_object-2.ensures
    c.in_ok-string_member.ensures c.in_ok-optional_string_member.ensures c.in_ok-push_information.ensures
    c.in_ok-push_all.ensures c.in_ok-end_object.ensures) c.end_object-2.ensures
