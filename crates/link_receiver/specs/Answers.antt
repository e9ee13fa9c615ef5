-- What the steps answer, as in the table.
use Rattle.std.specs.Prelude.{Some, true}
use Rattle.link_model.specs.Input.{Received, replied, InputOk, InputRetryStopped, InputErrorStopped}
use Rattle.link_receiver.specs.declared.in_ok.AfterPacket.{AfterPacket}
use Rattle.link_receiver.specs.declared.in_ok.AfterPacket.TheVariants.{Accepted, Retry, NotAccepted}

abbrev pub after_packet : AfterPacket → Received
after_packet (Accepted expected symbol) =
    record { state = InputOk expected; reply = Some symbol; held = true }
after_packet (Retry expected symbol) = replied (InputRetryStopped expected) symbol
after_packet (NotAccepted expected symbol) = replied (InputErrorStopped expected) symbol
