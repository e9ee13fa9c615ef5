-- Which packets of the network the lines that a run tells are of: each packet is an item, with a
-- number of its own.
use Rattle.std.specs.Prelude.{◌≡◌, ℕ, ◌+◌, false, List, [], ◌∷◌, ◌++◌}
use Rattle.rio_packets.specs.Fields.{body_of}
use Rattle.rio_packets.specs.LinkForm.{LinkForm}
use Rattle.fabric_script.specs.declared.lines.Line.{Line}
use Rattle.fabric_script.specs.declared.lines.Line.TheVariants.{Send}
use Rattle.fabric_script.specs.declared.lines.Numbered.{Numbered}
use Rattle.fabric_model.specs.Network.{Network, Item, port_of, id_of}
use Rattle.fabric_model.specs.Laws.History.{items_taken, gone}
use Rattle.fabric_trace.specs.Fold.{seen}
use Rattle.trace_lines.specs.Lines.{steps_of}
use Rattle.fabric_trace.specs.Runs.{start}
use Rattle.fabric_ports.specs.Events.{happened}
use Rattle.fabric_ports.specs.declared.answers.Happened.{Happened}
use Rattle.fabric_ports.specs.declared.answers.Happened.TheVariants as Answers
use Rattle.io_rounds.specs.Tasks.{IoTask, Ask, Reply, Fetch}
use Rattle.io_rounds.specs.Going.{IoState, IoGoes, IoActs, IoComes, Here, Further}
use Rattle.io_law.specs.Telling.{IoTold, ToldAsked, ToldCame}

-- ---- the packets of lines

-- of these items, which its steps gave a number, what a task says that a node asked with
abbrev pub asked_behind : IoTask → Happened → List Item → List Item
asked_behind (Ask node tid line) Answers.Took items = items
asked_behind _ _ items = []

-- of these items, what a task sends in reply
abbrev pub replied_behind : IoTask → List Item → List Item
replied_behind (Reply node line) items = items
replied_behind _ items = []

-- of these items, which left by its steps, what a task says that came to a node
abbrev pub came_behind : IoTask → Happened → List Item → List Item
came_behind (Fetch node) (Answers.Left packet) items = items
came_behind _ _ items = []

-- the packet that a task says came to a node
abbrev pub packet_behind : IoTask → Happened → List (List ℕ)
packet_behind (Fetch node) (Answers.Left packet) = packet ∷ []
packet_behind _ _ = []

-- the network before a task
abbrev pub network_at : List Numbered → IoState → Network
network_at script s = (seen (start script) s.trace).network

abbrev pub asked_by : {names : List (List ℕ)} {script : List Numbered} {s t : IoState}
    → IoGoes names script s t → List Item
asked_by {names} {script} {s} (IoActs task rest line block is event block_is sent to) =
    asked_behind task (happened line block) (items_taken (network_at script s) (steps_of block))
asked_by _ = []

abbrev pub came_by : {names : List (List ℕ)} {script : List Numbered} {s t : IoState}
    → IoGoes names script s t → List Item
came_by {names} {script} {s} (IoActs task rest line block is event block_is sent to) =
    came_behind task (happened line block) (gone (network_at script s) (steps_of block))
came_by _ = []

-- The packets with which nodes asked, in the order of the lines that say so, and those that came.
abbrev pub io_asked : {names : List (List ℕ)} {script : List Numbered} {first s : IoState}
    → IoComes names script first s → List Item
io_asked (Here is) = []
io_asked (Further before comes goes) = io_asked comes ++ asked_by goes

abbrev pub came : {names : List (List ℕ)} {script : List Numbered} {first s : IoState}
    → IoComes names script first s → List Item
came (Here is) = []
came (Further before comes goes) = came comes ++ came_by goes

abbrev pub replied_by : {names : List (List ℕ)} {script : List Numbered} {s t : IoState}
    → IoGoes names script s t → List Item
replied_by {names} {script} {s} (IoActs task rest line block is event block_is sent to) =
    replied_behind task (items_taken (network_at script s) (steps_of block))
replied_by _ = []

-- the packets with which nodes replied to what was served there
abbrev pub io_replied : {names : List (List ℕ)} {script : List Numbered} {first s : IoState}
    → IoComes names script first s → List Item
io_replied (Here is) = []
io_replied (Further before comes goes) = io_replied comes ++ replied_by goes

-- the bytes of those that came, as the lines tell what became of them
abbrev pub packets_by : {names : List (List ℕ)} {script : List Numbered} {s t : IoState}
    → IoGoes names script s t → List (List ℕ)
packets_by (IoActs task rest line block is event block_is sent to) =
    packet_behind task (happened line block)
packets_by _ = []

abbrev pub packets_told : {names : List (List ℕ)} {script : List Numbered} {first s : IoState}
    → IoComes names script first s → List (List ℕ)
packets_told (Here is) = []
packets_told (Further before comes goes) = packets_told comes ++ packets_by goes

-- ---- how many lines

-- a line says that a node asked
abbrev pub asked_line : IoTold → ℕ
asked_line (ToldAsked node tid) = 1
asked_line _ = 0

-- a line says that a packet came to a node
abbrev pub came_line : IoTold → ℕ
came_line (ToldCame node met) = 1
came_line _ = 0

-- how many of the lines are such
abbrev pub lines_in : (IoTold → ℕ) → List IoTold → ℕ
lines_in each [] = 0
lines_in each (line ∷ lines) = each line + lines_in each lines

-- ---- what is sent

-- It is taken at the node of this event, and is the packet that the event names, with the ID of the
-- node as source.
abbrev pub IsSentBy : Network → Line → Item → Type 0
IsSentBy net (Send node prio ftype dest hex) item =
    (item.port ≡ port_of node)
    × LinkForm (body_of prio ftype false dest (id_of net node false) hex) item.taken
IsSentBy net _ item = ⊥
