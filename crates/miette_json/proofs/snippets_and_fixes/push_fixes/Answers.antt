use Rattle.std.proofs.Common.{sym, ◌∙◌, length}
use Rattle.std.proofs.lemmas.Bool.{eqb-false}
use Rattle.std.proofs.lemmas.Result.{on_ok_weaker}
use Rattle.miette_json.proofs.JsonAttached.{some_fixes}
use Rattle.miette_json.proofs.snippets_and_fixes.push_fixes.Goals as goal

pub returns : goal.returns
returns c =
    let fixes = c.args.fixes.now in
    on_ok_weaker c.push_fix_items.result (some_fixes fixes _ _ _
    (eqb-false (length fixes) 0 (sym c.is_empty.ensures ∙ c.if-is_empty.false)) c.in_ok-key.ensures)
    c.push_fix_items.ensures
