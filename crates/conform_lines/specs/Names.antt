-- Control symbols in words.
use Rattle.std.specs.Prelude.{ℕ, List, codes}
use Rattle.rio_symbols.specs.Fields.{Fields}
use Rattle.conform_lines.specs.declared.symbols.SymbolName.{SymbolName}
use Rattle.conform_lines.specs.declared.symbols.SymbolName.TheVariants.{Accepted, Retry, NotAccepted, Status, Response, Start, Stomp, End, Restart, Request, Reset, Multicast}

abbrev pub symbol_word : SymbolName → List ℕ
symbol_word Accepted = codes "accepted"
symbol_word Retry = codes "retry"
symbol_word NotAccepted = codes "not-accepted"
symbol_word Status = codes "status"
symbol_word Response = codes "response"
symbol_word Start = codes "start"
symbol_word Stomp = codes "stomp"
symbol_word End = codes "end"
symbol_word Restart = codes "restart"
symbol_word Request = codes "request"
symbol_word Reset = codes "reset"
symbol_word Multicast = codes "multicast"

-- the sender of packets is told something, and the receiver nothing
abbrev pub tells_sender : ℕ → ℕ → ℕ → Fields
tells_sender s0 p0 p1 = record { s0 = s0; p0 = p0; p1 = p1; s1 = 7; cmd = 0 }

-- the receiver of packets is told something, and the sender a status
abbrev pub tells_receiver : ℕ → ℕ → ℕ → ℕ → Fields
tells_receiver p0 p1 s1 cmd = record { s0 = 4; p0 = p0; p1 = p1; s1 = s1; cmd = cmd }

-- the fields of a symbol, by its two parameters: a row for each name
abbrev pub symbol_fields : SymbolName → ℕ → ℕ → Fields
symbol_fields Accepted p0 p1 = tells_sender 0 p0 p1
symbol_fields Retry p0 p1 = tells_sender 1 p0 p1
symbol_fields NotAccepted p0 p1 = tells_sender 2 p0 p1
symbol_fields Status p0 p1 = tells_sender 4 p0 p1
symbol_fields Response p0 p1 = tells_sender 6 p0 p1
symbol_fields Start p0 p1 = tells_receiver p0 p1 0 0
symbol_fields Stomp p0 p1 = tells_receiver p0 p1 1 0
symbol_fields End p0 p1 = tells_receiver p0 p1 2 0
symbol_fields Restart p0 p1 = tells_receiver p0 p1 3 0
symbol_fields Request p0 p1 = tells_receiver p0 p1 4 4
symbol_fields Reset p0 p1 = tells_receiver p0 p1 4 3
symbol_fields Multicast p0 p1 = tells_receiver p0 p1 5 0
