-- Each packet that a port frees was acknowledged in what it got, by the lines alone.
use Rattle.std.specs.Prelude.{◌≡◌, ◌⊎◌, ℕ, ◌+◌, ◌%◌, true, List, [], ◌∷◌, ◌++◌, if◌then◌else◌}
use Rattle.rio_chars.specs.declared.chars.Char.{Char}
use Rattle.rio_symbols.specs.declared.stype0.TheConstants.{PACKET_ACCEPTED, LINK_RESPONSE}
use Rattle.link_model.specs.declared.event.Event.{Event}
use Rattle.link_model.specs.declared.event.Event.TheVariants.{Ctl, Pkt, Bad}
use Rattle.link_model.specs.Places.{place_start, place_after}
use Rattle.link_model.specs.Said.{said}
use Rattle.link_wires.specs.Kept.{IsSubsequence}
use Rattle.fabric_script.specs.declared.ports.PortRef.{PortRef}
use Rattle.fabric_model.specs.Network.{same_port}
use Rattle.fabric_model.specs.Steps.{Hold, Free, Step, Linked, AtNode, ByDevice}
use Rattle.trace_lines.specs.Lines.{Got, TraceLine, Stepped, Signed}

-- an acceptance of the packet of this number, whose ackID is the number modulo 32, or a
-- link-response
abbrev pub Acknowledges : ℕ → Event → Type 0
Acknowledges j (Ctl symbol) =
    ((symbol.s0 ≡ PACKET_ACCEPTED) × (symbol.p0 ≡ j % 32)) ⊎ (symbol.s0 ≡ LINK_RESPONSE)
Acknowledges j (Pkt ack packet) = ⊥
Acknowledges j (Bad cause) = ⊥

-- one of the events acknowledges it
pub record IsSaid (j : ℕ) (events : List Event) : Type 0 where
  pub event : Event
  pub among : IsSubsequence (event ∷ []) events
  pub acknowledges : Acknowledges j event

-- what a port got: the characters of its last delivery, and all before them
pub record Gotten : Type 0 where
  pub before : List Char
  pub last : List Char

abbrev pub nothing_got : Gotten
nothing_got = record { before = []; last = [] }

abbrev pub gets : PortRef → Gotten → TraceLine → Gotten
gets p known (Signed (Got q chars)) =
    if same_port p q then record { before = known.before ++ known.last; last = chars } else known
gets p known _ = known

-- the events that its last delivery completed, in the reading of everything that it got
abbrev pub completed : Gotten → List Event
completed known = said (place_after place_start known.before) known.last

abbrev pub frees_by_step : PortRef → Step → ℕ
frees_by_step p (Linked (Hold q packet)) = 0
frees_by_step p (Linked (Free q packet)) = if same_port p q then 1 else 0
frees_by_step p (AtNode step) = 0
frees_by_step p (ByDevice step) = 0

abbrev pub frees_by : PortRef → TraceLine → ℕ
frees_by p (Stepped step) = frees_by_step p step
frees_by p _ = 0

abbrev pub FreeSaid : PortRef → Gotten → ℕ → TraceLine → Type 0
FreeSaid p known j (Stepped (Linked (Free q packet))) =
    same_port p q ≡ true → IsSaid j (completed known)
FreeSaid p known j _ = Unit {0}

-- The j-th packet that a port frees, counted from 0, stands in a delivery that completes an
-- acceptance with ackID j modulo 32, or a link-response.
abbrev pub FreesSaid : PortRef → Gotten → ℕ → List TraceLine → Type 0
FreesSaid p known j [] = Unit {0}
FreesSaid p known j (line ∷ lines) =
    FreeSaid p known j line × FreesSaid p (gets p known line) (j + frees_by p line) lines
