use Rattle.fabric_model.proofs.RoomLaws.{hold_room, send_room}
use Rattle.fabric_model.proofs.laws.room_of_a_port.Goals as goal

pub returns : goal.returns
returns c = record { to_hold = hold_room; to_send = send_room }
