use Rattle.std.proofs.Common.{ap, sym, ◌∙◌}
use Rattle.std.proofs.lemmas.Result.{on_ok_weaker}
use Rattle.miette_json.specs.rules.Writing.{with_items}
use Rattle.miette_lsp.proofs.Parts.{told_nothing, told_some}
use Rattle.miette_sarif.specs.rules.Objects.{items_of}
use Rattle.miette_sarif.specs.views.Artifacts.{artifacts_view}
use Rattle.miette_sarif.specs.views.Findings.{mark_of}
use Rattle.miette_lsp.proofs.diagnostic.push_related.Goals as goal

pub returns-then-is_empty : goal.returns-then-is_empty
returns-then-is_empty c =
    let untitled = (artifacts_view c.args.artifacts.now).untitled in
    ap (λ vs. with_items (items_of vs) c.args.json.now) (sym (told_nothing untitled (mark_of c.args.mark.now)
    c.is_empty.result c.is_empty.ensures c.if-is_empty.true))

pub returns : goal.returns
returns c =
    let untitled = (artifacts_view c.args.artifacts.now).untitled in
    on_ok_weaker c.push_placed.result (λ put. put ∙ ap (λ vs. with_items (items_of vs) c.args.json.now)
    (sym (told_some untitled (mark_of c.args.mark.now) c.is_empty.result c.is_empty.ensures c.if-is_empty.false)))
    c.push_placed.ensures
