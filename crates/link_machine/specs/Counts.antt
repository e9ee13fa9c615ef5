-- Time-outs among what is done.
use Rattle.std.specs.Prelude.{ℕ, ◌+◌, Bool, true, false, List, [], ◌∷◌, if◌then◌else◌}
use Rattle.link_machine.specs.Prelude.{Side, A, B}
use Rattle.link_machine.specs.Acts.{Act, Pump, Tell, Deliver, Fire}

abbrev pub same_side : Side → Side → Bool
same_side A A = true
same_side A B = false
same_side B A = false
same_side B B = true

abbrev pub is_fire : Side → Act → Bool
is_fire side (Pump from turns) = false
is_fire side (Tell from) = false
is_fire side (Deliver from count) = false
is_fire side (Fire at) = same_side side at

-- how many time-outs of a side are fired
unfoldable pub fires : Side → List Act → ℕ
fires side [] = 0
fires side (act ∷ acts) = (if is_fire side act then 1 else 0) + fires side acts
