-- What each node serves, and with what it replied.
use Rattle.std.specs.Prelude.{◌≡◌, ◌≤◌, ◌<◌, ◌+◌, ℕ, eqb, List, [], ◌++◌, length, map, take, slice_get, Option, Some, None, if◌then◌else◌}
use Rattle.std.specs.List.{AllByRecursion}
use Rattle.fabric_script.specs.declared.lines.Line.{Line}
use Rattle.fabric_script.specs.declared.lines.Numbered.{Numbered}
use Rattle.fabric_model.specs.Network.{Item}
use Rattle.fabric_model.specs.Laws.Freeing.{IsFront}
use Rattle.fabric_model.specs.Laws.History.{items_taken, gone}
use Rattle.trace_lines.specs.Lines.{steps_of}
use Rattle.fabric_trace.specs.Runs.{start}
use Rattle.fabric_ports.specs.Events.{happened}
use Rattle.fabric_ports.specs.declared.answers.Happened.{Happened}
use Rattle.fabric_ports.specs.declared.answers.Happened.TheVariants as Answers
use Rattle.io_packets.specs.declared.io.Io.{Io}
use Rattle.io_packets.specs.declared.io.Io.TheVariants as Ios
use Rattle.io_packets.specs.Reading.{io_of}
use Rattle.io_memory.specs.declared.meeting.Met.TheVariants.{Done}
use Rattle.io_memory.specs.Laws.{io_number_of}
use Rattle.io_rounds.specs.Stations.{met_by, answer_by, answer_at_node}
use Rattle.io_rounds.specs.Tasks.{IoTask, Reply, Fetch, reply_line}
use Rattle.io_rounds.specs.Going.{IoState, IoGoes, IoActs, IoComes, Here, Further}
use Rattle.io_law.specs.Telling.{IoTold, ToldCame, io_told, memory_left}
use Rattle.io_law.specs.Items.{network_at, io_asked, IsSentBy}

-- ---- what came, where and when

-- so many lines were told before the one of this packet, which came to this node
pub record IoArrival : Type 0 where
  pub before : ℕ
  pub node : ℕ
  pub item : Item

abbrev pub arrived_behind : ℕ → IoTask → Happened → List Item → List IoArrival
arrived_behind before (Fetch node) (Answers.Left packet) items =
    map (λ item. record { before = before; node = node; item = item }) items
arrived_behind before _ _ items = []

abbrev pub arrived_by : {names : List (List ℕ)} {script : List Numbered} {s t : IoState}
    → ℕ → IoGoes names script s t → List IoArrival
arrived_by {names} {script} {s} before
    (IoActs task rest line block is event block_is sent to) =
    arrived_behind before task (happened line block)
    (gone (network_at script s) (steps_of block))
arrived_by before _ = []

-- the packets that came, in the order of the lines that say so
abbrev pub io_arrived : {names : List (List ℕ)} {script : List Numbered} {first s : IoState}
    → IoComes names script first s → List IoArrival
io_arrived (Here is) = []
io_arrived (Further before comes goes) =
    io_arrived comes ++ arrived_by (length (io_told comes)) goes

-- ---- what is served

-- so many lines were told before the one of this packet, which is answered so
pub record Served : Type 0 where
  pub before : ℕ
  pub item : Item
  pub answer : Io

abbrev pub served_with : ℕ → Option Io → List Item → List Served
served_with before None items = []
served_with before (Some answer) items =
    map (λ item. record { before = before; item = item; answer = answer }) items

-- by what each node would answer to a packet
abbrev pub served_behind : ℕ → ℕ → (ℕ → List ℕ → Option Io) → IoTask → Happened → List Item
    → List Served
served_behind node before answers (Fetch at) (Answers.Left packet) items =
    if eqb at node then served_with before (answers at packet) items else []
served_behind node before answers _ _ items = []

abbrev pub served_by : {names : List (List ℕ)} {script : List Numbered} {s t : IoState}
    → ℕ → ℕ → IoGoes names script s t → List Served
served_by {names} {script} {s} node before
    (IoActs task rest line block is event block_is sent to) =
    served_behind node before (answer_at_node s.stations) task (happened line block)
    (gone (network_at script s) (steps_of block))
served_by node before _ = []

-- the packets that came to a node and are answered, in order
abbrev pub io_served_at : {names : List (List ℕ)} {script : List Numbered} {first s : IoState}
    → ℕ → IoComes names script first s → List Served
io_served_at node (Here is) = []
io_served_at node (Further before comes goes) =
    io_served_at node comes ++ served_by node (length (io_told comes)) goes

-- the event that sends the reply
abbrev pub reply_to : ℕ → Served → Line
reply_to node x = reply_line node x.item.now x.answer

-- ---- what is sent in reply

-- the event that sent it, and the packet
pub record IoSent : Type 0 where
  pub line : Line
  pub item : Item

abbrev pub sent_behind : ℕ → IoTask → List Item → List IoSent
sent_behind node (Reply at line) items =
    if eqb at node then map (λ item. record { line = line; item = item }) items else []
sent_behind node _ items = []

abbrev pub io_sent_by : {names : List (List ℕ)} {script : List Numbered} {s t : IoState}
    → ℕ → IoGoes names script s t → List IoSent
io_sent_by {names} {script} {s} node (IoActs task rest line block is event block_is sent to) =
    sent_behind node task (items_taken (network_at script s) (steps_of block))
io_sent_by node _ = []

-- the replies of a node, in the order in which it sent them
abbrev pub sent_at : {names : List (List ℕ)} {script : List Numbered} {first s : IoState}
    → ℕ → IoComes names script first s → List IoSent
sent_at node (Here is) = []
sent_at node (Further before comes goes) = sent_at node comes ++ io_sent_by node goes

-- ---- the laws

-- The line of the packet says what became of it by the memory that the lines before it leave, and
-- by this memory it is answered so.
pub record IsIoServed (lines : List IoTold) (node : ℕ) (x : Served) : Type 0 where
  pub line : slice_get lines x.before
      ≡ Some (ToldCame node (met_by (memory_left node (take x.before lines)) x.item.now))
  pub answer : answer_by (memory_left node (take x.before lines)) x.item.now ≡ Some x.answer

-- A node replies to what it serves, in order, to each once: its first reply is that to the first
-- packet that it serves, and so on. At most the last packet is without one yet.
pub record RepliesToServed {names : List (List ℕ)} {script : List Numbered} {first s : IoState}
    (comes : IoComes names script first s) (node : ℕ) : Type 0 where
  pub served : AllByRecursion (IsIoServed (io_told comes) node) (io_served_at node comes)
  pub sent : AllByRecursion (λ x. IsSentBy (start script).network x.line x.item)
      (sent_at node comes)
  pub in_turn : IsFront (map (λ (x : IoSent). x.line) (sent_at node comes))
      (map (reply_to node) (io_served_at node comes))
  pub all_but_one : length (io_served_at node comes) ≤ length (sent_at node comes) + 1

-- The line of this place says that this came: it is the packet of the reply of a node to a packet
-- that the node served before. Some node had asked with that packet. It has the number of the line,
-- and what the line says is what was answered to it.
pub record IsReplyTo {names : List (List ℕ)} {script : List Numbered} {first s : IoState}
    (comes : IoComes names script first s) (k node tid status : ℕ) (load : Option (List ℕ)) :
    Type 0 where
  -- the packet of the line
  pub at : ℕ
  pub arrival : IoArrival
  pub arrival_is : slice_get (io_arrived comes) at ≡ Some arrival
  pub of_line : arrival.before ≡ k
  pub of_node : arrival.node ≡ node
  -- the node that replied, which reply of it this is, and what it is the reply to
  pub server : ℕ
  pub turn : ℕ
  pub reply : IoSent
  pub reply_is : slice_get (sent_at server comes) turn ≡ Some reply
  pub request : Served
  pub request_is : slice_get (io_served_at server comes) turn ≡ Some request
  pub replies : reply.line ≡ reply_to server request
  pub same : reply.item ≡ arrival.item
  pub unchanged : arrival.item.now ≡ arrival.item.taken
  pub earlier : request.before < k
  pub answer : request.answer ≡ Ios.Reply status tid load
  -- which packet of those with which nodes asked the request is
  pub ask : ℕ
  pub ask_is : slice_get (io_asked comes) ask ≡ Some request.item
  pub number : io_number_of (io_of request.item.now) ≡ Some tid

-- Each `done` line is of such a reply, and no two are of one request.
pub record DonesAreReplies {names : List (List ℕ)} {script : List Numbered} {first s : IoState}
    (comes : IoComes names script first s) : Type 0 where
  pub each : (k node tid status : ℕ) (load : Option (List ℕ))
      → slice_get (io_told comes) k ≡ Some (ToldCame node (Done tid status load))
      → IsReplyTo comes k node tid status load
  pub once : (j k a b x y s t : ℕ) (l m : Option (List ℕ))
      (one : IsReplyTo comes j a x s l) (other : IsReplyTo comes k b y t m)
      → one.ask ≡ other.ask → j ≡ k
