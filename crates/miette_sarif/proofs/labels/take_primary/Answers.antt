use Rattle.std.proofs.Common.{ap, false, refl, sym, ◌∙◌}
use Rattle.miette_sarif.specs.rules.Marks.{first_picked, pick}
use Rattle.miette_sarif.specs.steps.Picking.{is_asked}
use Rattle.miette_sarif.specs.views.Grouped.{groups_in}
use Rattle.miette_sarif.proofs.labels.take_primary.Goals as goal

pub returns-in-None-clause-picked : goal.returns-in-None-clause-picked
returns-in-None-clause-picked c =
    let groups = c.args.groups.now in
    ap (λ o. first_picked o (pick (is_asked false) (groups_in groups))) c.in-None.ensures.picked
    ∙ ap (λ gs. pick (is_asked false) (groups_in gs)) (sym (c.in-None.ensures.stays refl))
    ∙ c.take_first-in-None.ensures.picked
