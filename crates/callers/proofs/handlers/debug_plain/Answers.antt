use Rattle.callers.proofs.ClauseSteps.{debugged, plain-one}
use Rattle.callers.proofs.handlers.debug_plain.Goals as goal

pub returns : goal.returns
returns g c =
    debugged _ c.new_themed-handler.result _ _ _
    (plain-one c.in_ok-unicode_nocolor.field-0 _ c.in_ok-unicode_nocolor.ensures c.new_themed-handler.ensures)
    c.requires c.new-text.ensures.bytes c.in_ok-debug.ensures.text c.only_law.ensures
