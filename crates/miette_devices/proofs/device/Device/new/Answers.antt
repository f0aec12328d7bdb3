use Rattle.std.proofs.Common.{refl}
use Rattle.miette_devices.proofs.device.Device.new.Goals as goal

pub returns-clause-sound : goal.returns-clause-sound
returns-clause-sound g c = refl
