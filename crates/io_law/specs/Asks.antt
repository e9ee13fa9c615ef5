-- Which request of the script each line that says that a node asked is of, and its packet.
use Rattle.std.specs.Prelude.{◌≡◌, ◌+◌, ◌%◌, ℕ, eqb, List, [], ◌∷◌, ◌++◌, map, Option, Some, None, if◌then◌else◌}
use Rattle.fabric_script.specs.declared.lines.Line.{Line}
use Rattle.fabric_script.specs.declared.lines.Numbered.{Numbered}
use Rattle.fabric_model.specs.Laws.Freeing.{IsFront}
use Rattle.fabric_model.specs.Network.{Network, Item}
use Rattle.fabric_trace.specs.Runs.{start}
use Rattle.io_packets.specs.declared.io.Io.TheVariants as Ios
use Rattle.io_script.specs.declared.lines.IoLine.{IoLine}
use Rattle.io_script.specs.declared.lines.IoLine.TheVariants.{Memory, NRead, NWrite, NWriteR, SWrite, Round}
use Rattle.io_script.specs.declared.lines.NumberedIo.{NumberedIo}
use Rattle.io_rounds.specs.Tasks.{sends_io}
use Rattle.io_rounds.specs.Drives.{IsIoFit, first_state}
use Rattle.io_rounds.specs.Going.{IoState, IoComes}
use Rattle.io_law.specs.Telling.{IoTold, ToldBegun, ToldAsked, ToldFull, ToldCame, ToldOver, io_told}
use Rattle.io_law.specs.Items.{io_asked, IsSentBy}

-- ---- requests

-- the node that asks, the number of the request or none, and the event that sends it
pub record IoRequest : Type 0 where
  pub node : ℕ
  pub tid : Option ℕ
  pub line : Line

abbrev pub io_request : ℕ → Option ℕ → Line → IoRequest
io_request node tid line = record { node = node; tid = tid; line = line }

-- What a line of the script asks for, if it asks. A request that is to be answered has a number.
abbrev pub io_request_of : (ℕ → ℕ) → IoLine → Option IoRequest
io_request_of number (NRead node dest addr size) =
    Some (io_request node (Some (number node))
    (sends_io node 1 dest (Ios.NRead (number node) addr size)))
io_request_of number (NWrite node dest addr load) =
    Some (io_request node None (sends_io node 1 dest (Ios.NWrite addr load)))
io_request_of number (NWriteR node dest addr load) =
    Some (io_request node (Some (number node))
    (sends_io node 1 dest (Ios.NWriteR (number node) addr load)))
io_request_of number (SWrite node dest addr load) =
    Some (io_request node None (sends_io node 1 dest (Ios.SWrite addr load)))
io_request_of number (Memory node bytes) = None
io_request_of number Round = None

-- ---- what lines tell of them

-- How many numbered requests of each node were asked, what was asked so far, and the request of a
-- line that was begun, if nothing was said of it yet.
pub record IoAsking : Type 0 where
  pub counts : ℕ → ℕ
  pub asked : List IoRequest
  pub next : Option IoRequest

abbrev pub nothing_asked : IoAsking
nothing_asked = record { counts = λ n. 0; asked = []; next = None }

-- one more of a node, if it has a number
abbrev pub counts_with : ℕ → Option ℕ → (ℕ → ℕ) → ℕ → ℕ
counts_with node None counts n = counts n
counts_with node (Some tid) counts n = if eqb node n then counts n + 1 else counts n

-- numbers count modulo 256
abbrev pub next_number_of : (ℕ → ℕ) → ℕ → ℕ
next_number_of counts node = counts node % 256

abbrev pub as_list : Option IoRequest → List IoRequest
as_list None = []
as_list (Some request) = request ∷ []

-- A line of the script is begun. Then a line says that it was asked, or that there was no room.
abbrev pub asking_by : IoAsking → IoTold → IoAsking
asking_by asking (ToldBegun line) =
    record asking { next = io_request_of (next_number_of asking.counts) line }
asking_by asking (ToldAsked node tid) = record {
  counts = counts_with node tid asking.counts;
  asked = asking.asked ++ as_list asking.next;
  next = None;
}
asking_by asking ToldFull = record asking { next = None }
asking_by asking (ToldCame node met) = asking
asking_by asking ToldOver = asking

abbrev pub asking_on : IoAsking → List IoTold → IoAsking
asking_on asking [] = asking
asking_on asking (line ∷ lines) = asking_on (asking_by asking line) lines

-- the requests that were asked, in order
abbrev pub requests_told : List IoTold → List IoRequest
requests_told lines = (asking_on nothing_asked lines).asked

-- the lines of the script that were begun, in order
abbrev pub begun_in : IoTold → List IoLine
begun_in (ToldBegun line) = line ∷ []
begun_in _ = []

abbrev pub lines_begun : List IoTold → List IoLine
lines_begun [] = []
lines_begun (line ∷ lines) = begun_in line ++ lines_begun lines

-- what the lines that say that a node asked name
abbrev pub ask_in : IoTold → List (ℕ × Option ℕ)
ask_in (ToldAsked node tid) = (node, tid) ∷ []
ask_in _ = []

abbrev pub asks_told : List IoTold → List (ℕ × Option ℕ)
asks_told [] = []
asks_told (line ∷ lines) = ask_in line ++ asks_told lines

-- ---- the law

abbrev pub name_in_ask : IoRequest → ℕ × Option ℕ
name_in_ask request = (request.node, request.tid)

-- each request is sent as the packet at its place
abbrev pub AreSent : Network → List IoRequest → List Item → Type 0
AreSent net [] [] = Unit {0}
AreSent net (request ∷ requests) (item ∷ items) =
    IsSentBy net request.line item × AreSent net requests items
AreSent net [] (item ∷ items) = ⊥
AreSent net (request ∷ requests) [] = ⊥

-- The lines begun are the first of the script, in order. Each line that says that a node asked
-- names the node and the number of the request of the line begun before it; and the packet that the
-- node asked with is that request.
pub record AsksAreOfLines {names : List (List ℕ)} {script : List Numbered} {first s : IoState}
    (io : List NumberedIo) (comes : IoComes names script first s) : Type 0 where
  pub in_order : IsFront (lines_begun (io_told comes)) (map (λ (x : NumberedIo). x.io) io)
  pub named : asks_told (io_told comes) ≡ map name_in_ask (requests_told (io_told comes))
  pub sent : AreSent (start script).network (requests_told (io_told comes)) (io_asked comes)

abbrev pub AsksAreOfTheirLines : Type 0
AsksAreOfTheirLines = (names : List (List ℕ)) (script : List Numbered) (io : List NumberedIo)
    (s : IoState) (comes : IoComes names script (first_state names io) s)
    → IsIoFit names script io → AsksAreOfLines io comes
