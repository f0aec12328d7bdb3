use Rattle.std.proofs.Common.{◌∙◌, sym, ap, map}
use Rattle.std.specs.Prelude.{position}
use Rattle.miette_brief.specs.rules.LocatedLabels.{else_at, is_placed}
use Rattle.miette_brief.specs.steps.CommandParts.{located_label_of}
use Rattle.miette_brief.proofs.located_labels.primary_at.Goals as goal

pub returns-in-Some : goal.returns-in-Some
returns-in-Some g c =
    let its = map (located_label_of g.S.SourceCode.source) c.args.marks.now in
    ap (λ o. else_at o (position is_placed its)) (sym c.in-Some.is ∙ c.first_at.ensures)

pub returns-in-None : goal.returns-in-None
returns-in-None g c =
    let its = map (located_label_of g.S.SourceCode.source) c.args.marks.now in
    c.first_at-in-None.ensures ∙ ap (λ o. else_at o (position is_placed its)) (sym c.in-None.is ∙ c.first_at.ensures)
