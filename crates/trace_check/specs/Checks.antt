-- Which lines a reason hits, by the lines before them and the one behind: apart from their form.
use Rattle.std.specs.Prelude.{◌≡◌, ℕ, ◌+◌, ◌%◌, ◌<◌, Bool, true, false, List, [], ◌∷◌, ◌++◌, length, Option, Some, None, IsSome}
use Rattle.std.specs.List.{AllByRecursion}
use Rattle.link_model.specs.declared.event.Event.{Event}
use Rattle.link_model.specs.declared.event.Event.TheVariants.{Pkt}
use Rattle.link_wires.specs.Kept.{behind, behind_some, behind_all}
use Rattle.link_wires.specs.Wires.{fits}
use Rattle.rio_chars.specs.declared.edit.Edit.{Edit}
use Rattle.fabric_script.specs.declared.ports.PortRef.{PortRef}
use Rattle.fabric_model.specs.Network.{Network, peer_in}
use Rattle.fabric_model.specs.Steps.{Hold, Free, Linked, Needs, after_all}
use Rattle.trace_lines.specs.Lines.{Sent, Got, Fired, TraceLine, Begun, Stepped, Signed, steps_of}
use Rattle.fabric_trace.specs.Fold.{edit_of, says}
use Rattle.fabric_trace.specs.Wires.{WireChars, IsFrontOf}
use Rattle.fabric_trace.specs.Holds.{got, holds, numbered_packets}
use Rattle.fabric_trace.specs.Frees.{frees_by}
use Rattle.fabric_trace.specs.Allowance.{allowance}
use Rattle.fabric_trace.specs.Owned.{HasEvent}
use Rattle.trace_check.specs.Wires.{are_short, wires_after}

-- how many packets a port freed
abbrev pub freed : PortRef → List TraceLine → ℕ
freed p [] = 0
freed p (line ∷ lines) = frees_by p line + freed p lines

-- ---- what is known before a line, by the lines before it

-- the network that is reached
abbrev pub net_after : Network → List TraceLine → Network
net_after net before = after_all net (steps_of before)

-- the events of what a port got behind that of its last hold, of which each took the first that
-- fits
abbrev pub unheld : PortRef → List TraceLine → Option (List Event)
unheld q before = behind_all (numbered_packets 0 (holds q before)) (says (got q before))

-- ---- 22: wires

-- an edit lies within the wire, unless the next line says that it does not
abbrev pub EditFits : WireChars → Bool → Option (PortRef × Edit) → Type 0
EditFits wires short None = Unit {0}
EditFits wires true (Some edit) = Unit {0}
EditFits wires false (Some edit) = fits edit.1 (wires edit.0) ≡ true

-- both wires of the link of a port are empty
pub record BothAreEmpty (links : List (PortRef × PortRef)) (wires : WireChars) (p : PortRef) :
    Type 0 where
  pub peer : PortRef
  pub peer_is : peer_in links p ≡ Some peer
  pub near : wires p ≡ []
  pub far : wires peer ≡ []

abbrev pub OnWires : List (PortRef × PortRef) → WireChars → TraceLine → Bool → Type 0
OnWires links wires (Begun line) short = EditFits wires short (edit_of line)
OnWires links wires (Signed (Got q chars)) short = IsFrontOf links wires q chars
OnWires links wires (Signed (Fired p)) short = BothAreEmpty links wires p
OnWires links wires _ short = Unit {0}

-- ---- 23: steps

abbrev pub LineIsStep : Network → TraceLine → Type 0
LineIsStep net (Stepped step) = Needs net step
LineIsStep net _ = Unit {0}

-- ---- 24: holds

-- the packet stands behind the last hold, with the ackID of its number
abbrev pub HoldHasCome : List TraceLine → TraceLine → Type 0
HoldHasCome before (Stepped (Linked (Hold q packet))) =
    IsSome (behind_some (behind (Pkt (length (holds q before) % 32) packet)) (unheld q before))
HoldHasCome before _ = Unit {0}

-- ---- 25: frees

abbrev pub IsAllowed : List TraceLine → TraceLine → Type 0
IsAllowed before (Stepped (Linked (Free p packet))) = freed p before < allowance (got p before)
IsAllowed before _ = Unit {0}

-- ---- 26: packets that are sent

-- the port has each packet to be sent, or has lent it
abbrev pub SendMayBe : Network → TraceLine → Type 0
SendMayBe net (Signed (Sent p chars)) = AllByRecursion (HasEvent net p) (says chars)
SendMayBe net _ = Unit {0}

-- ---- all of them

-- none of these reasons hits a line
pub record LinePasses (net : Network) (before : List TraceLine) (line : TraceLine)
    (behind : List TraceLine) : Type 0 where
  pub wires : OnWires net.links (wires_after net.links (λ p. []) before (line ∷ behind)) line
      (are_short behind)
  pub step : LineIsStep (net_after net before) line
  pub came : HoldHasCome before line
  pub allowed : IsAllowed before line
  pub sends : SendMayBe (net_after net before) line

-- none of them hits any line
abbrev pub PassAll : Network → List TraceLine → Type 0
PassAll net lines = (before : List TraceLine) (line : TraceLine) (behind : List TraceLine)
    → lines ≡ before ++ line ∷ behind → LinePasses net before line behind
