-- What neither a line of a trace nor a device that changes its registers changes of a network.
use Rattle.std.specs.Prelude.{◌≡◌, ℕ, length}
use Rattle.fabric_model.specs.Network.{Network, switch_at}

-- as many devices, of the same kinds, and the same links
pub record IsSameBoard (net next : Network) : Type 0 where
  pub count : length next.registers ≡ length net.registers
  pub kinds : (n : ℕ) → switch_at next n ≡ switch_at net n
  pub links : next.links ≡ net.links
