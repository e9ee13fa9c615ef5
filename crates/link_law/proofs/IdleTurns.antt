-- A link of which a port has nothing to send is left by its turns as it is.
use Rattle.link_law.proofs.Prelude.{◌≡◌, ℕ, [], ap, PortState, turn_sends, bursts, Side, A, B, LinkState, from_end, turned_round, pumped}
use Rattle.link_wires.proofs.PumpLaws.{sent_nothing}
use Rattle.link_wires.proofs.QuietTurns.{quiet_turn, turned_quiet, bursts_quiet}

idle_first : (n : ℕ) (s : LinkState) → (turn_sends s.a).sent ≡ [] → pumped A n s ≡ s
idle_first n s none =
    let quiet = quiet_turn s.a none in
    λ i. record s {
      a = turned_quiet n s.a quiet.0 i;
      wire_a = sent_nothing s.wire_a (bursts n s.a) (bursts_quiet n s.a quiet.0 quiet.1) i;
    }

pub idle_pumped : (from : Side) (n : ℕ) (s : LinkState)
    → (turn_sends (from_end from s).a).sent ≡ [] → pumped from n s ≡ s
idle_pumped A n s none = idle_first n s none
idle_pumped B n s none = ap turned_round (idle_first n (turned_round s) none)

pub idle_chars : (n : ℕ) (port : PortState) → (turn_sends port).sent ≡ []
    → (bursts n port).chars ≡ []
idle_chars n port none =
    let quiet = quiet_turn port none in ap (λ b. b.chars) (bursts_quiet n port quiet.0 quiet.1)
