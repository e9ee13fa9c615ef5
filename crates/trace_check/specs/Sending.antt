-- What a port has to send, as it is kept.
use Rattle.std.specs.Prelude.{◌≡◌, ℕ, List}
use Rattle.fabric_script.specs.declared.ports.PortRef.{PortRef}
use Rattle.fabric_model.specs.Network.{Network}
use Rattle.fabric_trace.specs.Views.{lists_in, packets_in}

-- These packets wait at the port, priority by priority, and these it has lent.
pub record AreToSend (net : Network) (p : PortRef) (waiting : List (List (List ℕ)))
    (lent : List (List ℕ)) : Type 0 where
  pub waits : waiting ≡ lists_in (net.waiting p)
  pub lends : lent ≡ packets_in (net.lent p)
