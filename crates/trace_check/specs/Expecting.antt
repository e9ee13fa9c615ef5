-- What would have been lawful at a line of a trace, by what the lines before it reach.
use Rattle.std.specs.Prelude.{◌≡◌, ◌⊎◌, ℕ, ◌+◌, ◌<◌, nat_lt, Bool, List, [], ◌∷◌, ◌++◌, length, take, Option, None, Some, option_map, unwrap_or, if◌then◌else◌}
use Rattle.rio_chars.specs.declared.chars.Char.{Char}
use Rattle.rio_packets.specs.Fields.{prio_of}
use Rattle.link_model.specs.declared.event.Event.{Event}
use Rattle.link_model.specs.declared.event.Event.TheVariants.{Ctl, Pkt, Bad}
use Rattle.rio_chars.specs.declared.edit.Edit.{Edit}
use Rattle.fabric_script.specs.declared.lines.Numbered.{Numbered}
use Rattle.fabric_script.specs.declared.ports.PortRef.{PortRef}
use Rattle.fabric_script.specs.Known.{Known}
use Rattle.fabric_model.specs.Network.{first_packet, Network, peer_in}
use Rattle.fabric_model.specs.Steps.{Free, Hold, Linked}
use Rattle.fabric_trace.specs.Fold.{edit_of, says}
use Rattle.trace_lines.specs.Lines.{Begun, Fired, Got, Sent, Signed, Stepped, TraceLine}
use Rattle.fabric_trace.specs.Owned.{HasPacket}
use Rattle.fabric_trace.specs.Runs.{bare, set_up_all}
use Rattle.trace_check.specs.declared.expecting.Expected.{Expected}
use Rattle.trace_check.specs.declared.expecting.Expected.TheVariants as E
use Rattle.script_input.specs.Inputs.{IsInput, set_up_texts, texts_of}
use Rattle.trace_check.specs.Lawful.{as_behind, Fault, fault_number, PassFront, SpellFront}
use Rattle.trace_check.specs.Reaches.{Reaches}
use Rattle.trace_check.specs.Running.{first_with}
use Rattle.trace_check.specs.States.{ReachedState, SparesAt}
use Rattle.trace_lines.specs.Words.{SpellsLine}
use Rattle.trace_check.specs.Unmet.{IsUnmetNeed}

-- the reasons of which it is told what would have been lawful: all but that of the form
abbrev pub IsExplained : ℕ → Type 0
IsExplained reason = 21 < reason

-- ---- what is told

-- the characters on the wire to a port, which is that of its peer
abbrev pub wire_to : ReachedState → PortRef → List Char
wire_to r q = unwrap_or (option_map r.wires (peer_in r.net.links q)) []

-- how many are on the wire of a port, or if none is, on the wire to it
abbrev pub left_on_link : ReachedState → PortRef → ℕ
left_on_link r p =
    if nat_lt 0 (length (r.wires p)) then length (r.wires p) else length (wire_to r p)

-- the event is a packet of this priority that the port does not have to send
abbrev pub IsLacked : Network → PortRef → ℕ → Event → Type 0
IsLacked net p prio (Ctl symbol) = ⊥
IsLacked net p prio (Pkt ack packet) = (prio ≡ prio_of packet) × (HasPacket net p packet → ⊥)
IsLacked net p prio (Bad cause) = ⊥

-- one of the events is
abbrev pub OneIsLacked : Network → PortRef → ℕ → List Event → Type 0
OneIsLacked net p prio [] = ⊥
OneIsLacked net p prio (event ∷ events) =
    IsLacked net p prio event ⊎ OneIsLacked net p prio events

-- so many characters are on the wire that an edit changes
abbrev pub AreOnWire : ReachedState → ℕ → Option (PortRef × Edit) → Type 0
AreOnWire r n None = ⊥
AreOnWire r n (Some edit) = n ≡ length (r.wires edit.0)

-- What is told of a line is so: a row for each kind of line.
abbrev pub IsSo : ReachedState → TraceLine → Expected → Type 0
IsSo r (Signed (Got q chars)) (E.Front front) = front.items ≡ take 8 (wire_to r q)
IsSo r (Begun line) (E.OnWire n) = AreOnWire r n (edit_of line)
IsSo r (Signed (Fired p)) (E.OnLink n) = n ≡ left_on_link r p
IsSo r (Stepped (Linked (Hold q packet))) (E.Came ack first) =
    (ack ≡ (r.runs q).next) × (first ≡ first_with (r.runs q).next (r.runs q).unheld)
IsSo r (Stepped (Linked (Free p packet))) (E.Freed n) = n ≡ (r.runs p).allowed
IsSo r (Signed (Sent p chars)) (E.Waiting prio first) =
    OneIsLacked r.net p prio (says chars) × (first ≡ first_packet (r.net.waiting p prio))
IsSo r (Stepped step) (E.Needed unmet) = IsUnmetNeed r.net step unmet
IsSo r line expected = ⊥

-- ---- of one text

-- the text spells a line of which this is so
abbrev pub TellsLine : Known → ReachedState → List ℕ → Expected → Type 0
TellsLine known r text expected =
    (line : TraceLine) × SpellsLine known text line × IsSo r line expected

-- the text spells a line that such a reason hits
pub record IsToBeTold (known : Known) (r : ReachedState) (text : List ℕ) : Type 0 where
  pub line : TraceLine
  pub spelled : SpellsLine known text line
  pub short : Bool
  pub fault : Fault
  pub explained : IsExplained (fault_number fault)
  pub hits : SparesAt r line short fault → ⊥

-- ---- of the texts of a trace

-- The text at this place spells a line, of which this is so: the lines before it are lines that no
-- reason hits, and so much is reached behind them.
pub record IsExpected (known : Known) (net : Network) (texts : List (List ℕ)) (place : ℕ)
    (expected : Expected) : Type 0 where
  pub front : List (List ℕ)
  pub text : List ℕ
  pub rest : List (List ℕ)
  pub lines : List TraceLine
  pub line : TraceLine
  pub split : texts ≡ front ++ text ∷ rest
  pub at : place ≡ length front
  pub spelled : SpellFront known front lines
  pub pass : PassFront net lines (text ∷ rest)
  pub spells : SpellsLine known text line
  pub r : ReachedState
  pub reached : Reaches (length known.names) net lines (as_behind (text ∷ rest)) r
  pub so : IsSo r line expected

-- ---- of the whole input

-- The bytes are set-up lines and a trace, and this would have been lawful at this line, counted
-- from 1 among all.
pub record HasExpected (bytes : List ℕ) (line : ℕ) (expected : Expected) : Type 0 where
  pub set_up : List Numbered
  pub known : Known
  pub texts : List (List ℕ)
  pub input : IsInput bytes set_up known texts
  pub place : ℕ
  pub at : line ≡ length (set_up_texts (texts_of bytes)) + 2 + place
  pub so : IsExpected known (set_up_all bare set_up) texts place expected
