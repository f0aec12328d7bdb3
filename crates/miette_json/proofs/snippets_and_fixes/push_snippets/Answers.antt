use Rattle.std.proofs.Common.{sym, ◌∙◌, length}
use Rattle.std.proofs.lemmas.Bool.{eqb-false}
use Rattle.std.proofs.lemmas.Result.{on_ok_weaker}
use Rattle.miette_tree.specs.views.Attachments.{section_of}
use Rattle.miette_json.proofs.JsonAttached.{some_snippets}
use Rattle.miette_json.proofs.snippets_and_fixes.push_snippets.Goals as goal

pub returns : goal.returns
returns g c =
    let sections = c.args.sections.now in
    on_ok_weaker c.push_sections.result (some_snippets (section_of g.S.SourceCode.source) sections _ _ _
    (eqb-false (length sections) 0 (sym c.is_empty.ensures ∙ c.if-is_empty.false)) c.in_ok-key.ensures)
    c.push_sections.ensures
