-- What a script of reads and writes has to be done, one thing after another.
use Rattle.std.specs.Prelude.{ℕ, suc, ◌+◌, min, List, [], ◌∷◌, map, replicate, Option, Some, None, if◌then◌else◌}
use Rattle.rio_packets.specs.Fields.{prio_of}
use Rattle.maint_registers.specs.Devices.{Registers, is_switch}
use Rattle.fabric_script.specs.declared.lines.Line.{Line}
use Rattle.fabric_script.specs.declared.lines.Line.TheVariants.{Send, Run, Collect}
use Rattle.io_packets.specs.declared.io.Io.{Io}
use Rattle.io_packets.specs.declared.io.Io.TheVariants as Ios
use Rattle.io_packets.specs.Layout.{source_in}
use Rattle.io_packets.specs.Writing.{type_of, io_behind_ids}
use Rattle.io_script.specs.declared.lines.IoLine.{IoLine}
use Rattle.io_script.specs.declared.lines.IoLine.TheVariants.{Memory, NRead, NWrite, NWriteR, SWrite, Round}
use Rattle.io_rounds.specs.declared.stations.Station.{Station}
use Rattle.io_rounds.specs.Stations.{next_tid_of, with_memory}

-- A line is carried out. A request is sent, which has this transaction number or none. Every link
-- settles, and every switch makes its steps. An endpoint has its turn in a round. A reply is sent.
-- An endpoint collects a packet. The last line is written.
pub data IoTask : Type 0 where
  Carry : IoLine → IoTask
  Ask : ℕ → Option ℕ → Line → IoTask
  Settle : IoTask
  Turn : ℕ → IoTask
  Reply : ℕ → Line → IoTask
  Fetch : ℕ → IoTask
  Finish : IoTask

-- ---- what is sent

-- the event that sends a read, a write or a response from a node to a device
abbrev pub sends_io : ℕ → ℕ → ℕ → Io → Line
sends_io node prio dest io = Send node prio (type_of io) dest (io_behind_ids io)

-- a request goes at priority 1
abbrev pub asks_for : ℕ → ℕ → Option ℕ → Io → IoTask
asks_for node dest tid io = Ask node tid (sends_io node 1 dest io)

-- the reply to a packet goes back to its source, at the priority above, if there is one
abbrev pub reply_line : ℕ → List ℕ → Io → Line
reply_line node packet io =
    sends_io node (min (prio_of packet + 1) 3) (source_in packet) io

-- ---- what a line has to be done

-- the nodes that are endpoints among these devices, of which the first is this node
abbrev pub endpoints_from : ℕ → List Registers → List ℕ
endpoints_from n [] = []
endpoints_from n (device ∷ devices) =
    if is_switch device then endpoints_from (suc n) devices else n ∷ endpoints_from (suc n) devices

-- A request that is to be answered has the next number of its node. In a round every link settles
-- and every switch steps, and then the endpoints have their turns in order.
abbrev pub tasks_of : List ℕ → List Station → IoLine → List IoTask
tasks_of endpoints stations (Memory node bytes) = []
tasks_of endpoints stations (NRead node dest addr size) =
    let tid = next_tid_of stations node in
    asks_for node dest (Some tid) (Ios.NRead tid addr size) ∷ []
tasks_of endpoints stations (NWrite node dest addr load) =
    asks_for node dest None (Ios.NWrite addr load) ∷ []
tasks_of endpoints stations (NWriteR node dest addr load) =
    let tid = next_tid_of stations node in
    asks_for node dest (Some tid) (Ios.NWriteR tid addr load) ∷ []
tasks_of endpoints stations (SWrite node dest addr load) =
    asks_for node dest None (Ios.SWrite addr load) ∷ []
tasks_of endpoints stations Round = Settle ∷ map Turn endpoints

-- a memory is new, and all its bytes are 0
abbrev pub stations_by : IoLine → List Station → List Station
stations_by (Memory node bytes) stations = with_memory stations node (replicate bytes 0)
stations_by _ stations = stations

-- ---- events

-- the event that a task is, if it is one
abbrev pub task_event : IoTask → Option Line
task_event (Ask node tid line) = Some line
task_event Settle = Some (Run 1)
task_event (Reply node line) = Some line
task_event (Fetch node) = Some (Collect node)
task_event (Carry line) = None
task_event (Turn node) = None
task_event Finish = None

-- what follows a packet that was served: the reply is sent, if there is one, and then the node
-- collects on
abbrev pub task_behind : ℕ → List ℕ → Option Io → IoTask
task_behind node packet None = Fetch node
task_behind node packet (Some io) = Reply node (reply_line node packet io)
