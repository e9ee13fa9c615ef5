-- Lines of a session's own, which say how the others are answered, and the answer of each line.
use Rattle.std.specs.Prelude.{◌≡◌, ◌≢◌, ◌⊎◌, ℕ, suc, Bool, true, false, List, [], ◌∷◌, ◌++◌, codes}
use Rattle.rio_chars.specs.Written.{Outgoing, Writes}
use Rattle.fabric_script.specs.declared.lines.Line.{Line}
use Rattle.fabric_script.specs.Reading.{Spells}
use Rattle.fabric_script.specs.SetUps.{for_event, IsRefused}
use Rattle.fabric_trace.specs.Known.{Seen}
use Rattle.outside_lines.specs.declared.reading.OutsideLine.{OutsideLine}
use Rattle.outside_lines.specs.Reading.{SpellsOutside, NoOutside, IsNoOutsideLine}
use Rattle.refusal_words.specs.Citing.{refusal_line}
use Rattle.refusal_words.specs.Reasons.{script_reason}
use Rattle.live_fabric.specs.declared.asking.AskOutcome.{AskOutcome}
use Rattle.live_fabric.specs.declared.asking.AskOutcome.TheVariants.{Refused, Said}
use Rattle.live_fabric.specs.declared.asks.RegisterSaid.{RegisterSaid}
use Rattle.live_fabric.specs.declared.asks.Ask.{Ask}
use Rattle.live_fabric.specs.declared.answers.AfterLine.{AfterLine}
use Rattle.live_fabric.specs.declared.answers.AfterLine.TheVariants.{On, Undetected}
use Rattle.live_fabric.specs.declared.own_lines.OwnLine.{OwnLine}
use Rattle.live_fabric.specs.declared.own_lines.OwnLine.TheVariants.{Quiet, Loud, ServeAll}
use Rattle.live_fabric.specs.declared.session.Session.{Session}
use Rattle.live_fabric.specs.Lines.{Taken, nothing_taken, Outcome, ReadsAs, SaysWhy, IsEventLine, MetUnsent, taken_after, taken_anew, seen_so_far, IsSent}
use Rattle.live_fabric.specs.Served.{with_served, served_of, events_carried}
use Rattle.live_fabric.specs.Telling.{IsNoEvent, plain_told, TellsEvents, IsEventsFront}
use Rattle.live_fabric.specs.Asking.{SpellsAsk, IsNoAsk, others_than, TellsAsk, IsAskFront, reply_told, ask_outcome, after_ask}
use Rattle.live_fabric.specs.OwnRegisters.{collect_text, standard_text, IsNoStandardLine, ShowsStandard, NamesNoDevice, NamesOwn, NamesNoOwn, OwnRead, OwnWrites}
use Rattle.live_fabric.specs.Holding.{LiveHolds, IsTrace, MayCollect}
use Rattle.live_fabric.specs.Outside.{taken_outside, outside_answer}

-- The lines that were taken, whether those with characters are left out of the answers, and which
-- endpoints are served: all, or those of some nodes.
pub record SessionHeld : Type 0 where
  pub taken : Taken
  pub quiet : Bool
  pub all : Bool
  pub nodes : List ℕ

-- before the first line
abbrev pub nothing_held : SessionHeld
nothing_held = record { taken = nothing_taken; quiet = false; all = false; nodes = [] }

-- the endpoints that are served, in the order of their lines
abbrev pub nodes_served : SessionHeld → List ℕ
nodes_served held = served_of held.all held.nodes held.taken.set_up

abbrev pub own_text : OwnLine → List ℕ
own_text Quiet = codes "quiet"
own_text Loud = codes "loud"
own_text ServeAll = codes "serve all"

-- the line is none of them
abbrev pub IsNoOwnLine : List ℕ → Type 0
IsNoOwnLine line = (own : OwnLine) → own_text own ≢ line

-- what is held after one of them
abbrev pub held_after : OwnLine → SessionHeld → SessionHeld
held_after Quiet held = record held { quiet = true }
held_after Loud held = record held { quiet = false }
held_after ServeAll held = record held { all = true }

-- a line that asks that a node is served, by these words
abbrev pub serve_text : List ℕ → List ℕ
serve_text words = codes "serve " ++ words

abbrev pub IsNoServeLine : List ℕ → Type 0
IsNoServeLine line = (words : List ℕ) → line ≢ serve_text words

-- a line that asks for a register, by these words
abbrev pub ask_text : List ℕ → List ℕ
ask_text words = codes "ask " ++ words

abbrev pub IsNoAskLine : List ℕ → Type 0
IsNoAskLine line = (words : List ℕ) → line ≢ ask_text words

-- ---- answers

-- a line of its own is answered by `ok` alone
pub record OwnAnswers (held : SessionHeld) (line text : List ℕ) (next : SessionHeld) : Type 0 where
  pub own : OwnLine
  pub is : own_text own ≡ line
  pub answer : text ≡ codes "ok\n"
  pub then : next ≡ held_after own held

-- a node is served from now on, if the line `collect` of it is an event
pub record ServeTaken (held : SessionHeld) (words text : List ℕ) (next : SessionHeld) : Type 0 where
  pub event : Line
  pub spells : Spells (for_event held.taken.known) (collect_text words) event
  pub answer : text ≡ codes "ok\n"
  pub then : next ≡ record held { nodes = with_served held.nodes event }

-- or it is refused as that line is, and nothing changes
pub record ServeRefused (held : SessionHeld) (words text : List ℕ) (next : SessionHeld) : Type 0
  where
    pub reason : ℕ
    pub why : List ℕ
    pub refused : IsRefused (for_event held.taken.known) (collect_text words) reason
    pub says : SaysWhy (collect_text words) reason why
    pub answer : text ≡ refusal_line reason why ++ codes "ok\n"
    pub then : next ≡ held

-- a line that asks that a node is served
pub record ServeAnswers (held : SessionHeld) (line text : List ℕ) (next : SessionHeld) : Type 0
  where
    pub other : IsNoOwnLine line
    pub words : List ℕ
    pub is : line ≡ serve_text words
    pub answers : ServeTaken held words text next ⊎ ServeRefused held words text next

-- A request of a register is carried out. What is told of it and of its rounds is its answer, and
-- what is said of the response.
pub record AskTaken (held : SessionHeld) (number : ℕ) (words text : List ℕ) (next : SessionHeld)
    : Type 0 where
  pub event : Line
  pub ask : Ask
  pub spells : SpellsAsk (for_event held.taken.known) words event ask
  pub told : List ℕ
  pub end : Taken
  pub tells : TellsAsk held.quiet held.taken number (others_than ask.host (nodes_served held))
      event ask told end
  pub answer : text ≡ (told ++ reply_told ask end) ++ codes "ok\n"
  pub then : next ≡ record held { taken = end }

-- or the words are none, and nothing changes
pub record AskRefused (held : SessionHeld) (words text : List ℕ) (next : SessionHeld) : Type 0
  where
    pub reason : ℕ
    pub why : List ℕ
    pub refused : IsNoAsk (for_event held.taken.known) words reason
    pub says : SaysWhy words reason why
    pub answer : text ≡ refusal_line reason why ++ codes "ok\n"
    pub then : next ≡ held

-- one of both, and this came of it
abbrev pub AskComesTo : SessionHeld → ℕ → List ℕ → List ℕ → SessionHeld → AskOutcome → Type 0
AskComesTo held number words text next outcome =
    ((taken : AskTaken held number words text next)
    × (outcome ≡ ask_outcome taken.ask taken.end))
    ⊎ ((refused : AskRefused held words text next) × (outcome ≡ Refused refused.reason))

-- a line that asks for a register
pub record AskAnswers (held : SessionHeld) (number : ℕ) (line text : List ℕ) (next : SessionHeld)
    : Type 0 where
  pub words : List ℕ
  pub is : line ≡ ask_text words
  pub answers : AskTaken held number words text next ⊎ AskRefused held words text next

-- Devices show from now on what standard hosts look for.
pub record StandardTaken (held : SessionHeld) (words text : List ℕ) (next : SessionHeld) : Type 0
  where
    pub after : Seen
    pub shows : ShowsStandard (for_event held.taken.known) words (seen_so_far held.taken) after
    pub answer : text ≡ codes "ok\n"
    pub then : next ≡ record held { taken = taken_anew held.taken after }

-- or the words name no device, and nothing changes
pub record StandardRefused (held : SessionHeld) (words text : List ℕ) (next : SessionHeld)
    : Type 0 where
  pub other : words ≢ codes "all"
  pub reason : ℕ
  pub why : List ℕ
  pub refused : NamesNoDevice (for_event held.taken.known) words reason
  pub says : SaysWhy (collect_text words) reason why
  pub answer : text ≡ refusal_line reason why ++ codes "ok\n"
  pub then : next ≡ held

-- a line that asks that devices show it
pub record StandardAnswers (held : SessionHeld) (line text : List ℕ) (next : SessionHeld)
    : Type 0 where
  pub words : List ℕ
  pub is : line ≡ standard_text words
  pub answers : StandardTaken held words text next ⊎ StandardRefused held words text next

-- A line of a device outside, or of the port beside it, is carried out. What is told of it is its
-- answer.
pub record OutsideTaken (held : SessionHeld) (line text : List ℕ) (next : SessionHeld) : Type 0
  where
    pub outside : OutsideLine
    pub spells : SpellsOutside (for_event held.taken.known) held.taken.facing line outside
    pub answer : text ≡ outside_answer held.quiet held.taken outside ++ codes "ok\n"
    pub then : next ≡ record held { taken = taken_outside held.taken outside }

-- or it is refused, and nothing changes
pub record OutsideRefused (held : SessionHeld) (line text : List ℕ) (next : SessionHeld) : Type 0
  where
    pub reason : ℕ
    pub refused : NoOutside (for_event held.taken.known) held.taken.facing line reason
    pub answer : text ≡ refusal_line reason (script_reason reason) ++ codes "ok\n"
    pub then : next ≡ held

abbrev pub OutsideAnswers : SessionHeld → List ℕ → List ℕ → SessionHeld → Type 0
OutsideAnswers held line text next =
    OutsideTaken held line text next ⊎ OutsideRefused held line text next

-- the line is none of those
pub record IsScriptLine (held : SessionHeld) (line : List ℕ) : Type 0 where
  pub no_own : IsNoOwnLine line
  pub no_serve : IsNoServeLine line
  pub no_ask : IsNoAskLine line
  pub no_standard : IsNoStandardLine line
  pub no_outside : IsNoOutsideLine (for_event held.taken.known) held.taken.facing line

-- Any other line of this number is read as one of a script. If it is no event, what is told of it
-- is its answer, with `ok` as its last line.
pub record PlainAnswers (held : SessionHeld) (number : ℕ) (line text : List ℕ)
    (next : SessionHeld) : Type 0 where
  pub other : IsScriptLine held line
  pub outcome : Outcome
  pub plain : IsNoEvent outcome
  pub reads : ReadsAs held.taken line outcome
  pub answer : text ≡ plain_told outcome ++ codes "ok\n"
  pub then : next ≡ record held { taken = taken_after held.taken number line outcome }

-- If it is an event, what is told of the events as which it is carried out is its answer.
pub record EventAnswers (held : SessionHeld) (number : ℕ) (line text : List ℕ)
    (next : SessionHeld) : Type 0 where
  pub other : IsScriptLine held line
  pub event : Line
  pub is : IsEventLine held.taken line event
  pub told : List ℕ
  pub end : Taken
  pub tells : TellsEvents held.quiet held.taken number
      (events_carried (nodes_served held) event) told end
  pub answer : text ≡ told ++ codes "ok\n"
  pub then : next ≡ record held { taken = end }

-- the line of this number is answered by this text, and so much is held behind it
abbrev pub LineAnswers : SessionHeld → ℕ → List ℕ → List ℕ → SessionHeld → Type 0
LineAnswers held number line text next =
    OwnAnswers held line text next ⊎ (ServeAnswers held line text next
    ⊎ (AskAnswers held number line text next ⊎ (StandardAnswers held line text next
    ⊎ (OutsideAnswers held line text next
    ⊎ (PlainAnswers held number line text next ⊎ EventAnswers held number line text next)))))

-- Lines, of which the first has this number, are answered by a text, and so much is held then. No
-- line is answered behind an event that was acted on and not sent.
abbrev pub AnswersSession : SessionHeld → ℕ → List (List ℕ) → List ℕ → SessionHeld → Type 0
AnswersSession held number [] text end = (text ≡ []) × (end ≡ held)
AnswersSession held number (line ∷ lines) text end =
    (first : List ℕ) × (rest : List ℕ) × (next : SessionHeld)
    × IsSent held.taken × LineAnswers held number line first next
    × AnswersSession next (suc number) lines rest end × (text ≡ first ++ rest)

-- the text is a front of the answer of this line, which is an event
pub record IsEventAnswerFront (held : SessionHeld) (number : ℕ) (line text : List ℕ) : Type 0 where
  pub other : IsScriptLine held line
  pub event : Line
  pub is : IsEventLine held.taken line event
  pub front : IsEventsFront held.quiet held.taken number (events_carried (nodes_served held) event)
      text

-- the text is a front of the answer of a line that asks for a register
pub record IsAskAnswerFront (held : SessionHeld) (number : ℕ) (words text : List ℕ) : Type 0 where
  pub event : Line
  pub ask : Ask
  pub spells : SpellsAsk (for_event held.taken.known) words event ask
  pub front : IsAskFront held.quiet held.taken number (others_than ask.host (nodes_served held))
      event ask text

-- the text is a front of the answer of this line, or nothing
abbrev pub IsSessionFront : SessionHeld → ℕ → List ℕ → List ℕ → Type 0
IsSessionFront held number line text = (text ≡ []) ⊎ (IsEventAnswerFront held number line text
    ⊎ ((words : List ℕ) × (line ≡ ask_text words) × IsAskAnswerFront held number words text))

-- ---- a session

-- it holds this
pub record SessionHolds (session : Session) (held : SessionHeld) : Type 0 where
  pub live : LiveHolds session.live held.taken
  pub quiet : session.quiet ≡ held.quiet
  pub all : session.served.all ≡ held.all
  pub nodes : session.served.nodes.items ≡ held.nodes

-- so much is held, and there may be a further line, or the last event was not sent
abbrev pub SessionGoes : AfterLine → Session → SessionHeld → Type 0
SessionGoes On session held = SessionHolds session held
SessionGoes Undetected session held = IsTrace held.taken × MetUnsent held.taken

-- a line was answered
pub record SessionAnswered (held : SessionHeld) (number : ℕ) (line : List ℕ) (old new : Outgoing)
    (session : Session) (going : AfterLine) : Type 0 where
  pub text : List ℕ
  pub next : SessionHeld
  pub answers : LineAnswers held number line text next
  pub told : Writes old new text
  pub goes : SessionGoes going session next

-- the answer broke off, and a front of it was written
pub record SessionBreaks (held : SessionHeld) (number : ℕ) (line : List ℕ) (old new : Outgoing)
    : Type 0 where
  pub text : List ℕ
  pub is : IsSessionFront held number line text
  pub told : Writes old new text

-- a line was read and carried out, and its answer was written but for the last line
pub record SessionTold (held : SessionHeld) (number : ℕ) (line : List ℕ) (old new : Outgoing)
    (session : Session) (going : AfterLine) : Type 0 where
  pub text : List ℕ
  pub next : SessionHeld
  pub answers : LineAnswers held number line (text ++ codes "ok\n") next
  pub told : Writes old new text
  pub goes : SessionGoes going session next

-- a node is served from now on, or it was told why none is
pub record ServeTold (held : SessionHeld) (words : List ℕ) (old new : Outgoing)
    (session : Session) : Type 0 where
  pub text : List ℕ
  pub next : SessionHeld
  pub answers : ServeTaken held words (text ++ codes "ok\n") next
      ⊎ ServeRefused held words (text ++ codes "ok\n") next
  pub told : Writes old new text
  pub holds : SessionHolds session next

-- devices show what standard hosts look for, or it was told why the words name none
pub record StandardTold (held : SessionHeld) (words : List ℕ) (old new : Outgoing)
    (session : Session) : Type 0 where
  pub text : List ℕ
  pub next : SessionHeld
  pub answers : StandardTaken held words (text ++ codes "ok\n") next
      ⊎ StandardRefused held words (text ++ codes "ok\n") next
  pub told : Writes old new text
  pub holds : SessionHolds session next

-- a line of a device outside was carried out, and what is told of it was written
pub record OutsideTold (held : SessionHeld) (outside : OutsideLine) (old new : Outgoing)
    (session : Session) : Type 0 where
  pub told : Writes old new (outside_answer held.quiet held.taken outside)
  pub holds : SessionHolds session (record held { taken = taken_outside held.taken outside })

-- a node read one of its own registers, or these bytes name none
pub record OwnReadCame (held : SessionHeld) (name : List ℕ) (offset : ℕ) (session : Session)
    (outcome : AskOutcome) : Type 0 where
  pub next : SessionHeld
  pub came : ((node : ℕ) × (said : RegisterSaid) × (end : Taken)
      × NamesOwn (for_event held.taken.known) name node
      × OwnRead held.taken node offset said end
      × (next ≡ record held { taken = end }) × (outcome ≡ Said said))
      ⊎ ((reason : ℕ) × NamesNoOwn (for_event held.taken.known) name reason
      × (next ≡ held) × (outcome ≡ Refused reason))
  pub holds : SessionHolds session next

-- or wrote one
pub record OwnWriteCame (held : SessionHeld) (name : List ℕ) (offset value : ℕ)
    (session : Session) (outcome : AskOutcome) : Type 0 where
  pub next : SessionHeld
  pub came : ((node : ℕ) × (said : RegisterSaid) × (end : Taken)
      × NamesOwn (for_event held.taken.known) name node
      × OwnWrites held.taken node offset value said end
      × (next ≡ record held { taken = end }) × (outcome ≡ Said said))
      ⊎ ((reason : ℕ) × NamesNoOwn (for_event held.taken.known) name reason
      × (next ≡ held) × (outcome ≡ Refused reason))
  pub holds : SessionHolds session next

-- a request was carried out and its answer written but for the last line, or it was told why the
-- words are none
pub record AskTold (held : SessionHeld) (number : ℕ) (words : List ℕ) (old new : Outgoing)
    (session : Session) (outcome : AskOutcome) : Type 0 where
  pub text : List ℕ
  pub next : SessionHeld
  pub answers : AskComesTo held number words (text ++ codes "ok\n") next outcome
  pub told : Writes old new text
  pub goes : SessionGoes (after_ask outcome) session next

-- the same with the last line
pub record AskAnswered (held : SessionHeld) (number : ℕ) (words : List ℕ) (old new : Outgoing)
    (session : Session) (outcome : AskOutcome) : Type 0 where
  pub text : List ℕ
  pub next : SessionHeld
  pub answers : AskComesTo held number words text next outcome
  pub told : Writes old new text
  pub goes : SessionGoes (after_ask outcome) session next

-- it broke off, and a front of it was written, or nothing
pub record AskFalls (held : SessionHeld) (number : ℕ) (words : List ℕ) (old new : Outgoing)
    : Type 0 where
  pub text : List ℕ
  pub is : (text ≡ []) ⊎ IsAskAnswerFront held number words text
  pub told : Writes old new text

-- these are the endpoints that are served, and each may collect
abbrev pub AreServed : SessionHeld → List ℕ → Type 0
AreServed held nodes = (nodes ≡ nodes_served held) × MayCollect held.taken nodes

-- a request was carried out, and what is told of it and said of the response was written
pub record RequestCarried (held : SessionHeld) (number : ℕ) (event : Line) (ask : Ask)
    (old new : Outgoing) (session : Session) (outcome : AskOutcome) : Type 0 where
  pub text : List ℕ
  pub end : Taken
  pub tells : TellsAsk held.quiet held.taken number (others_than ask.host (nodes_served held))
      event ask text end
  pub told : Writes old new (text ++ reply_told ask end)
  pub came : outcome ≡ ask_outcome ask end
  pub goes : SessionGoes (after_ask outcome) session (record held { taken = end })

-- it broke off, and a front of that was written, or nothing
pub record RequestBroke (held : SessionHeld) (number : ℕ) (event : Line) (ask : Ask)
    (old new : Outgoing) : Type 0 where
  pub text : List ℕ
  pub is : IsAskFront held.quiet held.taken number (others_than ask.host (nodes_served held))
      event ask text
  pub told : Writes old new text
