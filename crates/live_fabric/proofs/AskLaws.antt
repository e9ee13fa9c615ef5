-- What is told of a request, and of what its host collects.
use Rattle.std.proofs.Common.{◌≡◌, inr, ℕ, ◌-◌, Bool, true, false, List, [], ◌∷◌, ◌++◌, length, slice_get, Option, Some, None, if◌then◌else◌, refl, sym, ap, ◌∙◌, subst, arith, length-append, append-nil, append_assoc}
use Rattle.rio_chars.specs.Written.{Outgoing}
use Rattle.maint_packets.specs.declared.response.Response.{Response}
use Rattle.switch_core.specs.EndpointSteps.{collected}
use Rattle.switch_core.specs.declared.endpoint.Collected.{Collected}
use Rattle.switch_core.specs.declared.endpoint.Collected.TheVariants as Collects
use Rattle.fabric_script.specs.declared.lines.Line.{Line}
use Rattle.fabric_script.specs.declared.lines.Line.TheVariants.{Read, Write, Read16, Write16, Collect}
use Rattle.fabric_model.specs.Network.{port_of, room_out}
use Rattle.fabric_model.specs.Steps.{Take, Leave, Answer, AtNode, ByDevice}
use Rattle.rio_packets.specs.Fields.{prio_of}
use Rattle.fabric_trace.specs.Blocks.{IsBlock, take_lines}
use Rattle.fabric_trace.specs.Known.{Seen}
use Rattle.fabric_trace.specs.Served.{IsCollect, collect_lines, face_in}
use Rattle.fabric_ports.proofs.Rows.{get-last}
use Rattle.fabric_ports.specs.Events.{happened, answer_taken, answer_collected}
use Rattle.fabric_ports.specs.declared.answers.Happened.{Happened as Did}
use Rattle.fabric_ports.specs.declared.answers.Happened.TheVariants.{Full}
use Rattle.trace_lines.specs.Lines.{TraceLine, Begun, Stepped, Lacked}
use Rattle.trace_lines.specs.Lines.{Full as NoRoom, Empty}
use Rattle.live_fabric.specs.declared.answers.Told.{Told}
use Rattle.live_fabric.specs.declared.answers.Told.TheVariants as told_as
use Rattle.live_fabric.specs.declared.asking.Reply.TheVariants.{Undetected}
use Rattle.live_fabric.specs.declared.asks.Ask.{Ask}
use Rattle.live_fabric.specs.declared.live.Live.{Live}
use Rattle.live_fabric.specs.Lines.{Taken, seen_so_far, taken_with}
use Rattle.live_fabric.specs.Telling.{block_told, TellsEvents}
use Rattle.live_fabric.specs.Holding.{LiveHolds}
use Rattle.live_fabric.specs.Answers.{Happens}
use Rattle.live_fabric.specs.Asking.{ask_of, last_line, reply_in, reply_by, reply_of, most_ask_rounds, rounds_behind}
use Rattle.live_fabric.specs.AskCourse.{as_reply, ReplyGoes, RoundDone}
use Rattle.live_fabric.proofs.TakenLaws.{is_sent}

-- ---- the last line of a trace

last_is : (lines : List TraceLine) (line : TraceLine)
    → last_line (lines ++ line ∷ []) ≡ Some line
last_is lines line =
    let at : length (lines ++ line ∷ []) - 1 ≡ length lines =
    omega (arith, length-append lines (line ∷ [])) in
    ap (λ k. slice_get (lines ++ line ∷ []) k) at ∙ get-last lines line

-- behind an event with one line
last_with : (taken : Taken) (number : ℕ) (event : Line) (block : List TraceLine)
    (line : TraceLine) → block ≡ line ∷ []
    → last_line (taken_with taken number event block).trace ≡ Some line
last_with taken number event block line is =
    ap (λ b. last_line (taken.trace ++ Begun event ∷ b)) is
    ∙ ap last_line (sym (append_assoc taken.trace (Begun event ∷ []) (line ∷ [])))
    ∙ last_is (taken.trace ++ Begun event ∷ []) line

-- ---- what the host collects

-- one line, which tells the same as what is answered of it
record OneCollected (tid : ℕ) (block : List TraceLine) : Type 0 where
  line : TraceLine
  is : block ≡ line ∷ []
  told : reply_in tid (Some line) ≡ reply_by tid (answer_collected block)

one_collected : (tid node : ℕ) (c : Collected) → OneCollected tid (collect_lines node c)
one_collected tid node (Collects.Left packet) =
    record { line = Stepped (AtNode (Leave node packet)); is = refl; told = refl }
one_collected tid node (Collects.Answered request response) = record {
  line = Stepped (ByDevice (Answer (port_of node) request response));
  is = refl;
  told = refl;
}
one_collected tid node Collects.Empty = record { line = Lacked Empty; is = refl; told = refl }
one_collected tid node Collects.Full = record { line = Lacked NoRoom; is = refl; told = refl }

collected_by : (tid node : ℕ) (s : Seen) (block : List TraceLine)
    → IsCollect s.network node block → OneCollected tid block
collected_by tid node s block is =
    subst (OneCollected tid) (sym is.lines)
    (one_collected tid node (collected is.device (face_in s.network (port_of node))))

-- the response is told by what the host collected
reply_left : (tid : ℕ) (taken : Taken) (number host : ℕ) (block : List TraceLine) (did : Did)
    → IsBlock (seen_so_far taken) (Collect host) block → did ≡ happened (Collect host) block
    → reply_of tid (taken_with taken number (Collect host) block) ≡ reply_by tid did
reply_left tid taken number host block did is did_is =
    let one = collected_by tid host (seen_so_far taken) block is in
    ap (reply_in tid) (last_with taken number (Collect host) block one.line one.is)
    ∙ one.told ∙ ap (reply_by tid) (sym did_is)

-- ---- what is told of a request

-- how many rounds there are at most behind what an event did
abbrev pub rounds_by : Did → ℕ
rounds_by Full = 0
rounds_by _ = most_ask_rounds

pub rounds_all : (did : Did) → (did ≡ Full → ⊥) → rounds_by did ≡ most_ask_rounds
rounds_all Full other = absurd (other refl)
rounds_all _ other = refl

-- one line, which is no response
record OneTaken (tid : ℕ) (block : List TraceLine) : Type 0 where
  line : TraceLine
  is : block ≡ line ∷ []
  missing : reply_in tid (Some line) ≡ None
  rounds : rounds_behind (Some line) ≡ rounds_by (answer_taken block)

one_taken : (tid : ℕ) (room : Bool) (node : ℕ) (packet : List ℕ)
    → OneTaken tid
    (if room then Stepped (AtNode (Take node packet)) ∷ [] else Lacked NoRoom ∷ [])
one_taken tid true node packet = record {
  line = Stepped (AtNode (Take node packet));
  is = refl;
  missing = refl;
  rounds = refl;
}
one_taken tid false node packet =
    record { line = Lacked NoRoom; is = refl; missing = refl; rounds = refl }

taken_by : (tid node : ℕ) (s : Seen) (packet : List ℕ) (block : List TraceLine)
    → block ≡ take_lines s node packet → OneTaken tid block
taken_by tid node s packet block is =
    subst (OneTaken tid) (sym is)
    (one_taken tid (room_out s.network (port_of node) (prio_of packet)) node packet)

-- a request is taken, or it finds no room
record RequestTold (tid : ℕ) (event : Line) (block : List TraceLine) : Type 0 where
  one : OneTaken tid block
  did : happened event block ≡ answer_taken block

request_told : (tid : ℕ) (s : Seen) (event : Line) (ask : Ask) (block : List TraceLine)
    → ask_of event ≡ Some ask → IsBlock s event block → RequestTold tid event block
request_told tid s (Read node prio dest hop t offset) ask block asks is =
    record { one = taken_by tid node s is.packet block is.lines; did = refl }
request_told tid s (Write node prio dest hop t offset value) ask block asks is =
    record { one = taken_by tid node s is.packet block is.lines; did = refl }
request_told tid s (Read16 node prio dest hop t offset) ask block asks is =
    record { one = taken_by tid node s is.packet block is.lines; did = refl }
request_told tid s (Write16 node prio dest hop t offset value) ask block asks is =
    record { one = taken_by tid node s is.packet block is.lines; did = refl }
request_told tid s _ ask block asks is = absurd cc

module _ (taken : Taken) (number : ℕ) (event : Line) (ask : Ask) (block : List TraceLine)
    (asks : ask_of event ≡ Some ask) (is : IsBlock (seen_so_far taken) event block) where
  abbrev behind : Taken
  behind = taken_with taken number event block

  pub request_missing : reply_of ask.tid behind ≡ None
  request_missing =
      let one = (request_told ask.tid (seen_so_far taken) event ask block asks is).one in
      ap (reply_in ask.tid) (last_with taken number event block one.line one.is) ∙ one.missing

  pub request_rounds : (did : Did) → did ≡ happened event block
      → rounds_by did ≡ rounds_behind (last_line behind.trace)
  request_rounds did did_is =
      let told = request_told ask.tid (seen_so_far taken) event ask block asks is in
      ap rounds_by (did_is ∙ told.did) ∙ sym told.one.rounds
      ∙ ap rounds_behind (sym (last_with taken number event block told.one.line told.one.is))

-- ---- one event

-- what is told of it
pub one_told : (quiet : Bool) (taken : Taken) (number : ℕ) (event : Line) (out next : Outgoing)
    (live now : Live) (told : Told) → LiveHolds live taken
    → (h : Happens quiet taken number event out next now told)
    → TellsEvents quiet taken number (event ∷ [])
    (block_told quiet taken number event h.block) (taken_with taken number event h.block)
one_told quiet taken number event out next live now told holds h = inr (
  h.block,
  [],
  is_sent live taken holds,
  h.is,
  (refl, refl),
  sym (append-nil (block_told quiet taken number event h.block)),
)

reply_goes : (tid : ℕ) (o : Option Response) (live : Live) (end : Taken) → LiveHolds live end
    → reply_of tid end ≡ o → ReplyGoes tid (as_reply o) live end
reply_goes tid (Some response) live end holds is = (holds, is)
reply_goes tid None live end holds is = (holds, is)

module _ (quiet : Bool) (taken : Taken) (number tid host : ℕ) (out next : Outgoing)
    (live now : Live) (holds : LiveHolds live taken) where
  -- the host has collected
  pub collected_done : (did : Did)
      → Happens quiet taken number (Collect host) out next now (told_as.Did did)
      → RoundDone quiet taken number tid (Collect host ∷ []) out next now
      (as_reply (reply_by tid did))
  collected_done did h = record {
    text = block_told quiet taken number (Collect host) h.block;
    end = taken_with taken number (Collect host) h.block;
    is =
        one_told quiet taken number (Collect host) out next live now (told_as.Did did) holds h;
    told = h.text;
    goes =
        reply_goes tid (reply_by tid did) now (taken_with taken number (Collect host) h.block)
        h.goes (reply_left tid taken number host h.block did h.is h.did);
  }

  pub collected_stops : Happens quiet taken number (Collect host) out next now told_as.Undetected
      → RoundDone quiet taken number tid (Collect host ∷ []) out next now Undetected
  collected_stops h = record {
    text = block_told quiet taken number (Collect host) h.block;
    end = taken_with taken number (Collect host) h.block;
    is =
        one_told quiet taken number (Collect host) out next live now told_as.Undetected holds h;
    told = h.text;
    goes = h.goes;
  }
