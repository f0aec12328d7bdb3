use Rattle.miette_graphical_rules.specs.rules.Snippets.{whole_drawing}
use Rattle.miette_graphical_rules.specs.views.HandlerState.{AreCallsOf, follows_of}
use Rattle.miette_graphical.proofs.RenderedBytes.{rendered-ok, rendered-only, rendered-colours, rendered-colourless}
use Rattle.miette_graphical.proofs.RenderedBytes.{rendered-holds, rendered-plain, rendered-themes}
use Rattle.miette_graphical.proofs.Stateless.{rendered-stateless}
use Rattle.miette_graphical.proofs.handler.GraphicalReportHandler.render_report.Goals as goal

pub returns-clause-ok : goal.returns-clause-ok
returns-clause-ok g c = rendered-ok _ _ _ (AreCallsOf g.H.Highlighter.may_follow c.args.self.now c.draw.new.self) _ _ _
    c.draw.ensures.calls

pub returns-clause-stateless : goal.returns-clause-stateless
returns-clause-stateless g c =
    rendered-stateless _ _ _ (follows_of g.H.Highlighter.may_follow c.args.self.now)
    (follows_of g.H.Highlighter.may_follow c.draw.new.self) _ _ _ c.draw.ensures.calls

pub returns-clause-only : goal.returns-clause-only
returns-clause-only g c = rendered-only _ _ _ _ _ _ (returns-clause-ok g c)

pub returns-clause-colours : goal.returns-clause-colours
returns-clause-colours g c = rendered-colours _ _ _ _ _ _ c.erasing_law.ensures.text (returns-clause-ok g c)

pub returns-clause-colourless : goal.returns-clause-colourless
returns-clause-colourless g c = rendered-colourless _ _ _ _ _ _ c.erasing_law.ensures.only (returns-clause-ok g c)

pub returns-clause-plain : goal.returns-clause-plain
returns-clause-plain g c = rendered-plain _ _ _ _ _ _ c.erasing_law.ensures.plain (returns-clause-ok g c)

pub returns-clause-themes : goal.returns-clause-themes
returns-clause-themes g c = rendered-themes _ _ _ _ _ _ c.erasing_law.ensures.themes (returns-clause-ok g c)

pub returns-clause-holds : goal.returns-clause-holds
returns-clause-holds g c =
    rendered-holds _ _ _ _ _ _ (c.holding_law.ensures.text whole_drawing) (returns-clause-ok g c)
