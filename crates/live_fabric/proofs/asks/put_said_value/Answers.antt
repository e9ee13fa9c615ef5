use Rattle.rio_chars.proofs.WrittenLaws.{Writes-then}
use Rattle.live_fabric.proofs.asks.put_said_value.Goals as goal

pub returns : goal.returns
returns g c =
    Writes-then _ _ (Writes-then _ _ c.write.ensures c.put_value.ensures) c.write-2.ensures
