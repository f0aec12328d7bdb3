use Rattle.miette_graphical_laws.proofs.RowRoom.{have_room}
use Rattle.miette_graphical_laws.proofs.laws.row_room_law.Goals as goal

pub returns : goal.returns
returns c = have_room
