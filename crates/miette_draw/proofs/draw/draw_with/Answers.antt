use Rattle.miette_devices.proofs.FaultStatuses.{plain-status, usage-status}
use Rattle.miette_draw.proofs.draw.draw_with.Goals as goal

pub returns-in-Err-clause-status : goal.returns-in-Err-clause-status
returns-in-Err-clause-status g c = plain-status _ _ _ c.run_draw.ensures.others c.in-Err.is c.end.ensures

pub returns-in-Err-clause-usage : goal.returns-in-Err-clause-usage
returns-in-Err-clause-usage g c = usage-status _ _ _ _ c.run_draw.ensures.usage c.in-Err.is c.end.ensures
