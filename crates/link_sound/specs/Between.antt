-- The direction from a port's output half to the input half of the port at the other end.
use Rattle.std.specs.Prelude.{◌≡◌, ℕ, ◌%◌, List, drop}
use Rattle.link_buffers.specs.Priorities.{packets_of}
use Rattle.link_model.specs.Prelude.{Input, Output}
use Rattle.link_sound.specs.Marks.{Forward, Backward}
use Rattle.link_sound.specs.Direction.{IsDirection}
use Rattle.link_port.specs.States.{prios_of, expected_of}
use Rattle.link_sound.specs.Meanings.{sender_of, receiver_of, oldest_of}

-- The packets that were sent for good, how many of them the sender has freed, and how many the
-- receiver has held. The outstanding packets in the sender's store are those from the first on that
-- is not freed.
pub record IsBetween (output : Output) (input : Input) (queued : List (List (List ℕ)))
    (kept_ahead : List Forward) (kept_back : List Backward) : Type 0 where
  pub sent : List (List ℕ)
  pub freed : ℕ
  pub held : ℕ
  pub oldest : oldest_of output ≡ freed % 32
  pub expected : expected_of input ≡ held % 32
  pub outstanding : packets_of (prios_of output) queued ≡ drop freed sent
  pub is : IsDirection (sender_of output) (receiver_of input) freed held sent kept_ahead kept_back
