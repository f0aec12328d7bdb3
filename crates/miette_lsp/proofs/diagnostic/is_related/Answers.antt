use Rattle.std.proofs.Common.{ap, sym, ◌∙◌}
use Rattle.std.specs.Prelude.{◌&&◌, is_some, not}
use Rattle.miette_lsp.proofs.Parts.{some_place}
use Rattle.miette_sarif.proofs.Growing.{is_nothing}
use Rattle.miette_sarif.proofs.Noted.{not_nil}
use Rattle.miette_sarif.specs.views.Findings.{mark_of, place_of}
use Rattle.miette_lsp.proofs.diagnostic.is_related.Goals as goal

pub returns-then-is_empty : goal.returns-then-is_empty
returns-then-is_empty c =
    let mark = mark_of c.args.label.now in
    ap (λ b. not b && is_some mark.place) (sym (is_nothing mark.text c.is_empty.result c.is_empty.ensures
    c.if-is_empty.true))

pub returns : goal.returns
returns c =
    let mark = mark_of c.args.label.now in
    c.is_some.ensures ∙ some_place place_of c.args.label.now.place
    ∙ ap (λ b. not b && is_some mark.place) (sym (not_nil mark.text c.is_empty.result c.is_empty.ensures
    c.if-is_empty.false))
