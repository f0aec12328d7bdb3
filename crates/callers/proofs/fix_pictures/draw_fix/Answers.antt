use Rattle.callers.proofs.ClauseSteps.{plain-one}
use Rattle.callers.proofs.FixSteps.{colon_told, fix_stands}
use Rattle.callers.proofs.fix_pictures.draw_fix.Goals as goal

pub returns-clause-stands : goal.returns-clause-stands
returns-clause-stands g c =
    fix_stands _ c.new_themed-handler.result _ _ _
    (plain-one c.in_ok-unicode_nocolor.field-0 _ c.in_ok-unicode_nocolor.ensures c.new_themed-handler.ensures)
    c.requires c.new-text.ensures.bytes c.in_ok-render_report.ensures.holds

pub returns-clause-lines : goal.returns-clause-lines
returns-clause-lines g c =
    colon_told c.new_themed-handler.result _
    (plain-one c.in_ok-unicode_nocolor.field-0 _ c.in_ok-unicode_nocolor.ensures c.new_themed-handler.ensures)
    c.requires c.in_ok-render_report.ensures.fixes
