-- Laws of what a run of a script of reads and writes tells.
use Rattle.std.specs.Prelude.{◌≡◌, ◌≤◌, ◌<◌, ℕ, ◌+◌, false, List, length, map, take, slice_get, slice_range, Some}
use Rattle.std.specs.List.{AllByRecursion}
use Rattle.rio_packets.specs.Fields.{prio_of, ftype_of, dest_of, is_maintenance}
use Rattle.fabric_script.specs.declared.lines.Numbered.{Numbered}
use Rattle.fabric_model.specs.Network.{Item}
use Rattle.fabric_model.specs.Laws.History.{WasTaken}
use Rattle.fabric_model.specs.Laws.Holding.{how_often}
use Rattle.trace_lines.specs.Lines.{steps_of}
use Rattle.fabric_trace.specs.Runs.{start}
use Rattle.io_memory.specs.declared.meeting.Met.TheVariants.{Read}
use Rattle.io_script.specs.declared.lines.NumberedIo.{NumberedIo}
use Rattle.io_rounds.specs.Stations.{memory_of}
use Rattle.io_rounds.specs.Drives.{IsIoFit, first_state}
use Rattle.io_rounds.specs.Going.{IoState, IoComes}
use Rattle.io_law.specs.Telling.{ToldCame, io_told, text_told, memory_left}
use Rattle.io_law.specs.Items.{io_asked, came, io_replied, packets_told, asked_line, came_line, lines_in}
use Rattle.io_law.specs.Replies.{RepliesToServed, DonesAreReplies}

-- A read that is told gives the bytes that stand in the memory that the lines before it leave.
abbrev pub ReadsAreTold : Type 0
ReadsAreTold = (names : List (List ℕ)) (script : List Numbered) (io : List NumberedIo)
    (s : IoState) (comes : IoComes names script (first_state names io) s)
    (k node addr : ℕ) (load : List ℕ) → IsIoFit names script io
    → slice_get (io_told comes) k ≡ Some (ToldCame node (Read addr load))
    → (memory : List ℕ)
    × (memory_left node (take k (io_told comes)) ≡ Some memory)
    × (load ≡ slice_range memory addr (addr + length load))

-- What is kept as the memory of a node is what the lines leave there.
abbrev pub MemoriesAreTold : Type 0
MemoriesAreTold = (names : List (List ℕ)) (script : List Numbered) (io : List NumberedIo)
    (s : IoState) (comes : IoComes names script (first_state names io) s) (node : ℕ)
    → IsIoFit names script io → memory_of s.stations node ≡ memory_left node (io_told comes)

-- What is written is the text of the lines.
abbrev pub OutputIsTold : Type 0
OutputIsTold = (names : List (List ℕ)) (script : List Numbered) (io : List NumberedIo)
    (s : IoState) (comes : IoComes names script (first_state names io) s)
    → s.output ≡ text_told names (io_told comes)

-- Each line that says that a node asked, or that a packet came to a node, is of one packet. No two
-- lines that say that a node asked are of one, nor two that say that a packet came.
pub record OneLineEach {names : List (List ℕ)} {script : List Numbered} {first s : IoState}
    (comes : IoComes names script first s) : Type 0 where
  pub asked_each : length (io_asked comes) ≡ lines_in asked_line (io_told comes)
  pub asked_once : (n : ℕ) → how_often n (io_asked comes) ≤ 1
  pub came_each : length (came comes) ≡ lines_in came_line (io_told comes)
  pub came_once : (n : ℕ) → how_often n (came comes) ≤ 1

abbrev pub PacketsHaveOneLine : Type 0
PacketsHaveOneLine = (names : List (List ℕ)) (script : List Numbered) (io : List NumberedIo)
    (s : IoState) (comes : IoComes names script (first_state names io) s)
    → IsIoFit names script io → OneLineEach comes

-- The packets that came are those that the lines tell of. Each was taken by the network before, as
-- the item says; and it is as it was taken, if it is no maintenance packet.
pub record ComesAsTaken {names : List (List ℕ)} {script : List Numbered} {first s : IoState}
    (comes : IoComes names script first s) : Type 0 where
  pub shown : map (λ item. item.now) (came comes) ≡ packets_told comes
  pub as_taken : AllByRecursion
      (λ item. WasTaken (start script).network (steps_of s.trace) item
      × (is_maintenance item.now ≡ false → item.now ≡ item.taken)) (came comes)

abbrev pub PacketsComeAsTaken : Type 0
PacketsComeAsTaken = (names : List (List ℕ)) (script : List Numbered) (io : List NumberedIo)
    (s : IoState) (comes : IoComes names script (first_state names io) s)
    → IsIoFit names script io → ComesAsTaken comes

-- Each response that came, which has format type 13, is a packet with which a node replied. No two
-- of these replies are of one packet.
pub record ResponsesAreReplies {names : List (List ℕ)} {script : List Numbered} {first s : IoState}
    (comes : IoComes names script first s) : Type 0 where
  pub replies : AllByRecursion
      (λ item. ftype_of item.now ≡ 13 → 0 < how_often item.number (io_replied comes)) (came comes)
  pub replied_once : (n : ℕ) → how_often n (io_replied comes) ≤ 1

abbrev pub ResponsesWereReplied : Type 0
ResponsesWereReplied = (names : List (List ℕ)) (script : List Numbered) (io : List NumberedIo)
    (s : IoState) (comes : IoComes names script (first_state names io) s)
    → IsIoFit names script io → ResponsesAreReplies comes

-- Each other packet that came is one with which a node asked.
abbrev pub RequestsWereAsked : Type 0
RequestsWereAsked = (names : List (List ℕ)) (script : List Numbered) (io : List NumberedIo)
    (s : IoState) (comes : IoComes names script (first_state names io) s)
    → IsIoFit names script io
    → AllByRecursion
    (λ item. (ftype_of item.now ≡ 13 → ⊥) → 0 < how_often item.number (io_asked comes)) (came comes)

-- ---- the order in which packets come

-- both were sent from one port to one destination
pub record SameWay (x y : Item) : Type 0 where
  pub port : x.port ≡ y.port
  pub dest : dest_of x.taken ≡ dest_of y.taken

-- and at one priority
abbrev pub SameWayAndPriority : Item → Item → Type 0
SameWayAndPriority x y = SameWay x y × (prio_of x.taken ≡ prio_of y.taken)

-- one of this number came before the k-th
pub record ComesBefore (came : List Item) (number k : ℕ) : Type 0 where
  pub place : ℕ
  pub item : Item
  pub below : place < k
  pub is : slice_get came place ≡ Some item
  pub same : item.number ≡ number

-- Of two packets that are alike, if the one that was sent later has come, the one that was sent
-- earlier came before it.
abbrev pub InTurn : (Item → Item → Type 0) → List Item → List Item → Type 0
InTurn Alike sent came = (i j k : ℕ) (x y z : Item) → i < j → slice_get sent i ≡ Some x
    → slice_get sent j ≡ Some y → Alike x y → slice_get came k ≡ Some z → z.number ≡ y.number
    → ComesBefore came x.number k

-- So do the packets with which one node asked one device, and so those that one node replied to one
-- device at one priority.
pub record ComeInTurn {names : List (List ℕ)} {script : List Numbered} {first s : IoState}
    (comes : IoComes names script first s) : Type 0 where
  pub asked_in_turn : InTurn SameWay (io_asked comes) (came comes)
  pub replied_in_turn : InTurn SameWayAndPriority (io_replied comes) (came comes)

abbrev pub PacketsComeInTurn : Type 0
PacketsComeInTurn = (names : List (List ℕ)) (script : List Numbered) (io : List NumberedIo)
    (s : IoState) (comes : IoComes names script (first_state names io) s)
    → IsIoFit names script io → ComeInTurn comes

-- ---- replies

abbrev pub RepliesAnswerServed : Type 0
RepliesAnswerServed = (names : List (List ℕ)) (script : List Numbered) (io : List NumberedIo)
    (s : IoState) (comes : IoComes names script (first_state names io) s) (node : ℕ)
    → IsIoFit names script io → RepliesToServed comes node

abbrev pub DonesAnswerRequests : Type 0
DonesAnswerRequests = (names : List (List ℕ)) (script : List Numbered) (io : List NumberedIo)
    (s : IoState) (comes : IoComes names script (first_state names io) s)
    → IsIoFit names script io → DonesAreReplies comes
