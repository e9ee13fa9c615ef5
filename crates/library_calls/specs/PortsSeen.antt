-- What contracts see of an open port.
use Rattle.std.specs.Prelude.{◌≡◌, ℕ, Bool, List, [], drop}
use Rattle.rio_chars.specs.declared.chars.Char.{Char}
use Rattle.link_port.specs.Ports.{PortState}
use Rattle.port_lines.specs.declared.settings.PortSettings.{PortSettings}
use Rattle.port_lines.specs.Clocks.{ClockedState, clocked_at, new_clocked, plain_settings}
use Rattle.library_calls.specs.Rooms.{TextTaken}

-- the port, how it is made, the characters that clocks have not given yet, how many clocks without
-- an answer are left until it has waited too long, and the text that was told and is not taken yet
pub record PortSeen : Type 0 where
  pub port : PortState
  pub settings : PortSettings
  pub waiting : List Char
  pub patience_left : ℕ
  pub text : List ℕ

-- a port of which this was told
abbrev pub port_told : ClockedState → List ℕ → PortSeen
port_told at text = record {
  port = at.port;
  settings = at.settings;
  waiting = at.waiting;
  patience_left = at.patience_left;
  text = text;
}

-- a port of which nothing was told
abbrev pub opened_port : ClockedState → PortSeen
opened_port at = port_told at []

-- how a port of so many buffers is made, which tells its free buffers or does not
abbrev pub opened_settings : Bool → ℕ → PortSettings
opened_settings tells buffers = record (plain_settings buffers) { tells = tells }

-- a new port
abbrev pub new_seen : Bool → ℕ → PortSeen
new_seen tells buffers = opened_port (new_clocked (opened_settings tells buffers))

-- the port, as lines see it
abbrev pub clocked_seen : PortSeen → ClockedState
clocked_seen seen = clocked_at seen.settings seen.port seen.waiting seen.patience_left

-- the port went on, and its text waits as before
abbrev pub seen_at : PortSeen → PortState → PortSeen
seen_at seen port = record seen { port = port }

-- a front of the text that waits was taken
abbrev pub PortTextTaken : List ℕ → List ℕ → ℕ → PortSeen → PortSeen → Type 0
PortTextTaken room room_after count old new = TextTaken old.text room room_after count
    × (new ≡ record old { text = drop count old.text })
