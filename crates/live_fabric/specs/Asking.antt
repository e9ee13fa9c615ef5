-- Asks: a host's request of a register, and the rounds that bring its response.
use Rattle.std.specs.Prelude.{◌≡◌, ◌≢◌, ◌⊎◌, ℕ, zero, suc, ◌==◌, not, Bool, List, [], ◌∷◌, ◌++◌, ◌-◌, length, slice_get, Option, Some, None, MatchOption, codes, if◌then◌else◌}
use Rattle.std.specs.Fmt.{decimal}
use Rattle.std.specs.List.{filter}
use Rattle.std.specs.Option.{option_and_then}
use Rattle.maint_packets.specs.declared.response.Response.{Response}
use Rattle.maint_packets.specs.Requests.{names_second}
use Rattle.maint_packets.specs.Responses.{response_of}
use Rattle.fabric_script.specs.declared.lines.Line.{Line}
use Rattle.fabric_script.specs.declared.lines.Line.TheVariants.{Read, Write, Read16, Write16, Collect}
use Rattle.fabric_script.specs.Known.{Known}
use Rattle.fabric_script.specs.Reading.{Spells}
use Rattle.fabric_script.specs.SetUps.{IsRefused}
use Rattle.fabric_script.specs.Texts.{digits_text}
use Rattle.fabric_model.specs.Steps.{Leave, AtNode}
use Rattle.fabric_trace.specs.Known.{UndetectedAt}
use Rattle.fabric_ports.specs.declared.answers.Happened.{Happened as Did}
use Rattle.fabric_ports.specs.declared.answers.Happened.TheVariants.{Left}
use Rattle.trace_lines.specs.Lines.{Full, TraceLine, Stepped, Lacked}
use Rattle.live_fabric.specs.declared.answers.AfterLine.{AfterLine}
use Rattle.live_fabric.specs.declared.answers.AfterLine.TheVariants as Goings
use Rattle.live_fabric.specs.declared.asking.AskOutcome.{AskOutcome}
use Rattle.live_fabric.specs.declared.asking.AskOutcome.TheVariants.{Said, Undetected}
use Rattle.live_fabric.specs.declared.asks.Ask.{Ask}
use Rattle.live_fabric.specs.declared.asks.RegisterSaid.{RegisterSaid}
use Rattle.live_fabric.specs.declared.asks.RegisterSaid.TheVariants.{Value, Written, Failed, Unanswered}
use Rattle.live_fabric.specs.Lines.{Taken, seen_so_far}
use Rattle.live_fabric.specs.Served.{round_events}
use Rattle.live_fabric.specs.Telling.{TellsEvents, IsEventsFront}

-- ---- which lines

-- what an event asks, if it is a host's request of a register: which node asks, the transaction
-- number, and the offset of the register
abbrev pub ask_of : Line → Option Ask
ask_of (Read node prio dest hop tid offset) =
    Some (record { host = node; tid = tid; offset = offset })
ask_of (Write node prio dest hop tid offset value) =
    Some (record { host = node; tid = tid; offset = offset })
ask_of (Read16 node prio dest hop tid offset) =
    Some (record { host = node; tid = tid; offset = offset })
ask_of (Write16 node prio dest hop tid offset value) =
    Some (record { host = node; tid = tid; offset = offset })
ask_of _ = None

-- the words are an event that asks this
abbrev pub SpellsAsk : Known → List ℕ → Line → Ask → Type 0
SpellsAsk known words event ask = Spells known words event × (ask_of event ≡ Some ask)

-- They are none, for the reason of this number: they are refused as a line of a script is; or they
-- are a line of set-up, which is out of place there, or another event, and the reason is 1.
abbrev pub IsNoAsk : Known → List ℕ → ℕ → Type 0
IsNoAsk known words reason =
    (IsRefused known words reason × (reason ≢ 12))
    ⊎ ((reason ≡ 1) × (IsRefused known words 12
    ⊎ ((event : Line) × Spells known words event × (ask_of event ≡ None))))

-- ---- a round

-- these nodes but for the host
abbrev pub others_than : ℕ → List ℕ → List ℕ
others_than host nodes = filter (λ node. not (node == host)) nodes

-- The events of a round: links and switches carry what they can, each of these nodes collects, and
-- then the host does.
abbrev pub ask_round : List ℕ → ℕ → List Line
ask_round nodes host = round_events nodes ++ Collect host ∷ []

-- ---- the response

abbrev pub last_line : List TraceLine → Option TraceLine
last_line lines = slice_get lines (length lines - 1)

-- a response, if it has this transaction number
abbrev pub if_tid : ℕ → Response → Option Response
if_tid tid response = if response.tid == tid then Some response else None

-- the response with this transaction number that left with a line of a trace
abbrev pub reply_in : ℕ → Option TraceLine → Option Response
reply_in tid (Some (Stepped (AtNode (Leave node packet)))) =
    option_and_then (if_tid tid) (response_of packet)
reply_in tid _ = None

-- the same by what the event of the line did
abbrev pub reply_by : ℕ → Did → Option Response
reply_by tid (Left packet) = option_and_then (if_tid tid) (response_of packet)
reply_by tid _ = None

-- the response with this transaction number that left with the last line of the trace: behind a
-- round that is what the host has collected
abbrev pub reply_of : ℕ → Taken → Option Response
reply_of tid taken = reply_in tid (last_line taken.trace)

-- ---- an ask

-- the most rounds
abbrev pub most_ask_rounds : ℕ
most_ask_rounds = 128

-- how many rounds there are at most, by the last line of the request: none if it found no room
abbrev pub rounds_behind : Option TraceLine → ℕ
rounds_behind (Some (Lacked Full)) = 0
rounds_behind _ = most_ask_rounds

-- What is told of at most so many rounds of these events, and what was taken behind them. The first
-- with which a response with this transaction number left is the last. Behind an event that was
-- acted on and not sent nothing is told.
abbrev pub TellsRounds : Bool → ℕ → ℕ → List Line → ℕ → Taken → List ℕ → Taken → Type 0
TellsRounds quiet number tid round zero taken text end = (text ≡ []) × (end ≡ taken)
TellsRounds quiet number tid round (suc n) taken text end =
    (first : List ℕ) × (mid : Taken) × (rest : List ℕ)
    × TellsEvents quiet taken number round first mid
    × MatchOption (reply_of tid mid) (TellsRounds quiet number tid round n mid rest end)
    (λ response. (rest ≡ []) × (end ≡ mid))
    × (text ≡ first ++ rest)

-- The text is what is told of the first of these rounds, and a front of what is told of the next.
abbrev pub IsRoundsFront : Bool → ℕ → ℕ → List Line → ℕ → Taken → List ℕ → Type 0
IsRoundsFront quiet number tid round zero taken text = text ≡ []
IsRoundsFront quiet number tid round (suc n) taken text =
    IsEventsFront quiet taken number round text
    ⊎ ((first : List ℕ) × (mid : Taken) × (rest : List ℕ)
    × TellsEvents quiet taken number round first mid
    × (reply_of tid mid ≡ None) × IsRoundsFront quiet number tid round n mid rest
    × (text ≡ first ++ rest))

-- What is told of a request and of its rounds, in which these nodes collect beside the host.
pub record TellsAsk (quiet : Bool) (taken : Taken) (number : ℕ) (nodes : List ℕ) (event : Line)
    (ask : Ask) (text : List ℕ) (end : Taken) : Type 0 where
  pub first : List ℕ
  pub mid : Taken
  pub rest : List ℕ
  pub request : TellsEvents quiet taken number (event ∷ []) first mid
  pub rounds : TellsRounds quiet number ask.tid (ask_round nodes ask.host)
      (rounds_behind (last_line mid.trace)) mid rest end
  pub whole : text ≡ first ++ rest

-- The text is a front of what is told of a request, or all of that and a front of its rounds.
abbrev pub IsAskFront : Bool → Taken → ℕ → List ℕ → Line → Ask → List ℕ → Type 0
IsAskFront quiet taken number nodes event ask text =
    IsEventsFront quiet taken number (event ∷ []) text
    ⊎ ((first : List ℕ) × (mid : Taken) × (rest : List ℕ)
    × TellsEvents quiet taken number (event ∷ []) first mid
    × IsRoundsFront quiet number ask.tid (ask_round nodes ask.host)
    (rounds_behind (last_line mid.trace)) mid rest
    × (text ≡ first ++ rest))

-- ---- what is said of the response

-- of two words, the one that the offset names
abbrev pub word_at_offset : ℕ → ℕ × ℕ → ℕ
word_at_offset offset words = if names_second offset then words.1 else words.0

-- the value that was read, or that a register was written
abbrev pub done_said : ℕ → Option (ℕ × ℕ) → RegisterSaid
done_said offset None = Written
done_said offset (Some words) = Value (word_at_offset offset words)

-- what a response says of the register at an offset, or that none came
abbrev pub register_said : ℕ → Option Response → RegisterSaid
register_said offset None = Unanswered
register_said offset (Some response) =
    if response.status == 0 then done_said offset response.words else Failed response.status

-- the line that says it
abbrev pub said_text : RegisterSaid → List ℕ
said_text (Value value) = codes "value " ++ digits_text 8 value ++ codes "\n"
said_text Written = codes "written\n"
said_text (Failed status) = codes "error " ++ decimal status ++ codes "\n"
said_text Unanswered = codes "unanswered\n"

-- nothing is said after an event that was acted on and not sent
abbrev pub unless_unsent : Option UndetectedAt → List ℕ → List ℕ
unless_unsent None text = text
unless_unsent (Some found) text = []

-- what is said of the response after an ask
abbrev pub reply_told : Ask → Taken → List ℕ
reply_told ask end = unless_unsent (seen_so_far end).undetected
    (said_text (register_said ask.offset (reply_of ask.tid end)))

-- ---- what came of an ask

abbrev pub said_unless : Option UndetectedAt → RegisterSaid → AskOutcome
said_unless None said = Said said
said_unless (Some found) said = Undetected

-- the same as a value
abbrev pub ask_outcome : Ask → Taken → AskOutcome
ask_outcome ask end = said_unless (seen_so_far end).undetected
    (register_said ask.offset (reply_of ask.tid end))

-- whether there may be a further line
abbrev pub after_ask : AskOutcome → AfterLine
after_ask Undetected = Goings.Undetected
after_ask _ = Goings.On
