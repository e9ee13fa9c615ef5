use Rattle.rio_chars.proofs.WrittenLaws.{Writes-then}
use Rattle.rio_lane.proofs.coding.write_groups_line.Goals as goal

pub returns : goal.returns
returns g c =
    Writes-then _ _ (Writes-then _ _ c.write.ensures c.write_joined.ensures) c.write-2.ensures
