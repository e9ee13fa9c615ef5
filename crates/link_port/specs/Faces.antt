-- What is true of the lists of every port.
use Rattle.std.specs.Prelude.{◌≡◌, ℕ, List, length}
use Rattle.link_buffers.specs.Queues.{Sorted}

-- there is a list for each priority, and each packet stands in the list of its own
pub record AreLists (lists : List (List (List ℕ))) : Type 0 where
  pub four : length lists ≡ 4
  pub sorted : Sorted lists
