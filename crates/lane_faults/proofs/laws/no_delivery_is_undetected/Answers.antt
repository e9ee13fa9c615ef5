use Rattle.lane_faults.proofs.Prelude.{[], refl, said}
use Rattle.link_wires.proofs.Exact.{delivered_exact}
use Rattle.lane_faults.proofs.DeliveryLaws.{acted_within}
use Rattle.lane_faults.proofs.MistakeLaws.{no_event_made}
use Rattle.lane_faults.proofs.WrongBitLaws.{bits_are_mistakes}
use Rattle.lane_faults.proofs.laws.no_delivery_is_undetected.Goals as goal

pub returns : goal.returns
returns c =
    λ before port chars heard wrong used apart h good.
    let stand =
    no_event_made port.place 0 chars heard (bits_are_mistakes before chars heard wrong used apart h)
    good in
    (delivered_exact port [] (said port.place chars) (said port.place chars) heard refl).1
    (acted_within port stand)
