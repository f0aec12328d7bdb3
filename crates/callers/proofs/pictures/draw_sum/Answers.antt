use Rattle.callers.proofs.NamedRows.{named}
use Rattle.callers.proofs.SumSteps.{cause_stands, cause_stays, end_stands, is_cut, known, left_out, rows_stand}
use Rattle.miette_graphical_rules.specs.laws.SnippetTheorems.{CutsAreExact, EndsAreDrawn, LabelsAreFolded}
use Rattle.miette_graphical_rules.specs.laws.SnippetTheorems.{LinesThatFitStay}
use Rattle.std.proofs.Common.{refl, inl, ◌∷◌, []}
use Rattle.callers.specs.Sums.{cause_arrow, narrow, sum_tree}
use Rattle.miette_graphical_rules.specs.rules.Snippets.{whole_drawing}
use Rattle.callers.proofs.pictures.draw_sum.Goals as goal

pub returns-clause-rows : goal.returns-clause-rows
returns-clause-rows g c =
    rows_stand _ _ _ _ _ c.in_ok-handler.ensures c.requires c.new-text.ensures.bytes
    c.in_ok-render_report.ensures.holds

pub returns-clause-under : goal.returns-clause-under
returns-clause-under g c =
    let bars = c.levels_law.ensures.shipped narrow (inl refl) in
    cause_stands _ _ _ _ _ c.in_ok-handler.ensures c.requires c.new-text.ensures.bytes
    c.in_ok-render_report.ensures.holds
    (λ a text. c.levels_law.ensures.bytes whole_drawing narrow sum_tree a text refl)
    (λ rows. c.levels_law.ensures.room narrow (cause_arrow ∷ []) rows bars)
    (λ rows. c.levels_law.ensures.bars narrow [] rows bars)

pub returns-clause-cut : goal.returns-clause-cut
returns-clause-cut g c =
    is_cut (known CutsAreExact _ _ c.in_ok-handler.ensures c.requires c.in_ok-render_report.ensures.cuts)

pub returns-clause-cause : goal.returns-clause-cause
returns-clause-cause g c =
    cause_stays (known LinesThatFitStay _ _ c.in_ok-handler.ensures c.requires
    c.in_ok-render_report.ensures.fits)

pub returns-clause-end : goal.returns-clause-end
returns-clause-end g c =
    end_stands (known EndsAreDrawn _ _ c.in_ok-handler.ensures c.requires c.in_ok-render_report.ensures.ends)

pub returns-clause-folded : goal.returns-clause-folded
returns-clause-folded g c =
    left_out (known LabelsAreFolded _ _ c.in_ok-handler.ensures c.requires
    c.in_ok-render_report.ensures.folds)

pub returns-clause-named : goal.returns-clause-named
returns-clause-named g c = named _ (returns-clause-rows g c) (returns-clause-under g c)
