-- A port by clocks: in each it takes one character from its wire, and gives one.
use Rattle.std.specs.Prelude.{ℕ, Bool, false, Option, Some, None, List, [], ◌∷◌, ◌++◌, codes, drop}
use Rattle.rio_chars.specs.CharText.{spaced_chars}
use Rattle.rio_chars.specs.declared.chars.Char.{Char}
use Rattle.rio_chars.specs.declared.chars.Char.TheVariants.{Special}
use Rattle.rio_symbols.specs.Fields.{Fields}
use Rattle.link_model.specs.Prelude.{symbol_chars_of}
use Rattle.link_port.specs.Prelude.{PortState, Acted, new_port, turns_to, turn_sends}
use Rattle.link_port.specs.Steps.{takes}
use Rattle.port_lines.specs.declared.settings.PortSettings.{PortSettings}
use Rattle.port_lines.specs.Taking.{gives_at_once}
use Rattle.port_lines.specs.Patience.{goes_unanswered, patience_after, is_too_long, timed_out_if}
use Rattle.port_lines.specs.Texts.{packets_text, fire_text}

-- a port by clocks, how it is made, the characters of what it sends that are not given yet, and how
-- many clocks without an answer are left until it has waited too long
pub record ClockedState : Type 0 where
  pub port : PortState
  pub settings : PortSettings
  pub waiting : List Char
  pub patience_left : ℕ

abbrev pub clocked_at : PortSettings → PortState → List Char → ℕ → ClockedState
clocked_at settings port waiting left =
    record { port = port; settings = settings; waiting = waiting; patience_left = left }

-- a new port, of which nothing waits
abbrev pub new_clocked : PortSettings → ClockedState
new_clocked settings =
    clocked_at settings (new_port settings.tells settings.buffers) [] settings.patience

-- how a port of so many buffers is made that does not tell them, and does nothing by itself
abbrev pub plain_settings : ℕ → PortSettings
plain_settings buffers =
    record { buffers = buffers; tells = false; takes_at_once = false; patience = 0 }

-- so many clocks without an answer are too long from here on
abbrev pub with_patience : ClockedState → ℕ → ClockedState
with_patience at clocks = record at {
  settings = record at.settings { patience = clocks };
  patience_left = clocks;
}

-- the character that is given if nothing is sent, an idle: K28.5
abbrev pub idle_char : Char
idle_char = Special 0xbc

-- the characters of an answer, if there is one
abbrev pub reply_chars : Option Fields → List Char
reply_chars None = []
reply_chars (Some symbol) = symbol_chars_of symbol

-- a port, and the characters of what it sends that are not given yet
pub record PortGiving : Type 0 where
  pub port : PortState
  pub waiting : List Char

abbrev pub giving : PortState → List Char → PortGiving
giving port waiting = record { port = port; waiting = waiting }

-- a port of which nothing waits takes a turn
abbrev pub turned_if_none : PortState → List Char → PortGiving
turned_if_none port [] = giving (turns_to port) (turn_sends port).chars
turned_if_none port (c ∷ chars) = giving port (c ∷ chars)

-- the port after a character that did this, without the packet that it gives out at once
abbrev pub came_to : PortSettings → Acted → PortState
came_to settings acted = (gives_at_once settings.takes_at_once acted).port

-- what is to be given in a clock in which a character did this: its answer waits behind what waits
abbrev pub to_give : PortSettings → Acted → List Char → PortGiving
to_give settings acted waiting =
    turned_if_none (came_to settings acted) (waiting ++ reply_chars acted.reply)

abbrev pub clock_giving : ClockedState → Char → PortGiving
clock_giving at c = to_give at.settings (takes at.port c) at.waiting

-- the first of what waits, or an idle
abbrev pub first_or_idle : List Char → Char
first_or_idle [] = idle_char
first_or_idle (c ∷ chars) = c

-- the character that is given in a clock in which this one came
abbrev pub clock_gives : ClockedState → Char → Char
clock_gives at c = first_or_idle (clock_giving at c).waiting

-- what is still to be given then
abbrev pub clock_leaves : ClockedState → Char → List Char
clock_leaves at c = drop 1 (clock_giving at c).waiting

-- whether the clock goes by without an answer
abbrev pub is_unanswered : ClockedState → Char → Bool
is_unanswered at c =
    goes_unanswered at.port (takes at.port c).port (clock_giving at c).port (clock_leaves at c)

-- whether a time-out fires at its end
abbrev pub clock_fires : ClockedState → Char → Bool
clock_fires at c = is_too_long at.patience_left (is_unanswered at c)

-- after that clock
abbrev pub clocks_to : ClockedState → Char → ClockedState
clocks_to at c =
    clocked_at at.settings (timed_out_if (clock_fires at c) (clock_giving at c).port)
    (clock_leaves at c)
    (patience_after at.settings.patience at.patience_left (is_unanswered at c))

-- what is told of packets in a clock, and of a time-out
abbrev pub clock_text : ClockedState → Char → List ℕ
clock_text at c =
    packets_text at.settings.takes_at_once (takes at.port c) ++ fire_text (clock_fires at c)

-- where the port stands after some clocks, the characters that it gave, and what is told
pub record ClocksDid : Type 0 where
  pub stands : ClockedState
  pub given : List Char
  pub text : List ℕ

-- one clock comes before others
abbrev pub before_clocks : Char → List ℕ → ClocksDid → ClocksDid
before_clocks given text did =
    record { stands = did.stands; given = given ∷ did.given; text = text ++ did.text }

-- a clock for each of these characters, one after another
unfoldable pub clocks : ClockedState → List Char → ClocksDid
clocks at [] = record { stands = at; given = []; text = [] }
clocks at (c ∷ chars) =
    before_clocks (clock_gives at c) (clock_text at c) (clocks (clocks_to at c) chars)

-- the characters that are given
abbrev pub given_text : List Char → List ℕ
given_text chars = codes "given" ++ spaced_chars chars ++ codes "\n"

-- what a turn sends, or an idle if that is nothing
abbrev pub burst_or_idle : List Char → List Char
burst_or_idle [] = idle_char ∷ []
burst_or_idle (c ∷ chars) = c ∷ chars

-- the same if nothing waits
abbrev pub begun_if_none : PortState → List Char → List Char
begun_if_none port [] = burst_or_idle (turn_sends port).chars
begun_if_none port (c ∷ chars) = []

-- what begins to wait in a clock in which a character did this, each whole: its answer, and what a
-- turn sends or an idle, or nothing
abbrev pub clock_begins : PortSettings → Acted → List Char → List (List Char)
clock_begins settings acted waiting = reply_chars acted.reply
    ∷ begun_if_none (came_to settings acted) (waiting ++ reply_chars acted.reply) ∷ []

-- the same in clocks, one after another
unfoldable pub clocks_begin : ClockedState → List Char → List (List Char)
clocks_begin at [] = []
clocks_begin at (c ∷ chars) =
    clock_begins at.settings (takes at.port c) at.waiting ++ clocks_begin (clocks_to at c) chars
