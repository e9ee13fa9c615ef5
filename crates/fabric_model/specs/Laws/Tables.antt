-- Where packets go: each as the registers of its node said at that moment.
use Rattle.std.specs.Prelude.{◌≡◌, Bool, true, false, List, ◌∷◌, ◌++◌, ℕ, Some}
use Rattle.maint_packets.specs.declared.next_hop.Next.TheVariants.{Nowhere, Port}
use Rattle.fabric_script.specs.declared.ports.PortRef.{PortRef}
use Rattle.fabric_model.specs.Network.{Network}
use Rattle.fabric_model.specs.Serving.{next_at, response_at}
use Rattle.fabric_model.specs.Steps.{Move, Drop, Answer, Step, ByDevice, IsForRegisters, after, after_all}

abbrev pub is_answer : Step → Bool
is_answer (ByDevice (Answer p packet response)) = true
is_answer _ = false

pub record ByTables (start : Network) (steps : List Step) : Type 0 where
  -- a packet moves to the port of its switch that was named
  pub moved : (before later : List Step) (p q : PortRef) (packet : List ℕ)
      → steps ≡ before ++ ByDevice (Move p q packet) ∷ later
      → (q.node ≡ p.node) × (next_at (after_all start before) p.node packet ≡ Some (Port q.port))
  -- one is dropped where none was
  pub dropped : (before later : List Step) (p : PortRef) (packet : List ℕ)
      → steps ≡ before ++ ByDevice (Drop p packet) ∷ later
      → next_at (after_all start before) p.node packet ≡ Some Nowhere
  -- one is answered where it is for the registers, by what they give
  pub answered : (before later : List Step) (p : PortRef) (packet response : List ℕ)
      → steps ≡ before ++ ByDevice (Answer p packet response) ∷ later
      → IsForRegisters (after_all start before) p packet
      × (response_at (after_all start before) p packet ≡ Some response)
  -- and nothing but an answer changes registers
  pub stand : (before later : List Step) (step : Step) → steps ≡ before ++ step ∷ later
      → is_answer step ≡ false
      → (after (after_all start before) step).registers ≡ (after_all start before).registers
