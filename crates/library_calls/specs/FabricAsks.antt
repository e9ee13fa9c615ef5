-- What an ask of a register does that an open fabric is given by numbers.
use Rattle.std.specs.Prelude.{◌≡◌, ◌==◌, ◌<◌, ℕ, ◌+◌, Bool, true, false, not, Option, Result, Ok, Err, List, [], ◌∷◌, if◌then◌else◌}
use Rattle.std.specs.Io.KnownBytes.{Appends}
use Rattle.fabric_script.specs.declared.lines.Line.{Line}
use Rattle.fabric_script.specs.declared.lines.Line.TheVariants.{Read, Write, Read16, Write16}
use Rattle.fabric_script.specs.Lines.{line_text}
use Rattle.fabric_script.specs.Names.{is_name}
use Rattle.live_fabric.specs.declared.session.Session.{Session}
use Rattle.live_fabric.specs.declared.answers.AfterLine.TheVariants as going
use Rattle.live_fabric.specs.declared.answers.BrokenOff.{BrokenOff}
use Rattle.live_fabric.specs.declared.asking.AskOutcome.{AskOutcome}
use Rattle.live_fabric.specs.declared.asking.AskOutcome.TheVariants as Outcomes
use Rattle.live_fabric.specs.declared.asks.RegisterSaid.{RegisterSaid}
use Rattle.live_fabric.specs.declared.asks.RegisterSaid.TheVariants.{Value, Written, Failed, Unanswered}
use Rattle.live_fabric.specs.Asking.{after_ask}
use Rattle.live_fabric.specs.Sessions.{SessionHeld, ask_text, AskComesTo, SessionHolds, SessionGoes}
use Rattle.library_calls.specs.declared.status.CallStatus.{CallStatus}
use Rattle.library_calls.specs.declared.status.CallStatus.TheVariants.{Done, Argument, NoMemory, Undetected, Cut, Spent}
use Rattle.library_calls.specs.declared.told.RegisterAsk.{RegisterAsk}
use Rattle.library_calls.specs.declared.told.RegisterReply.{RegisterReply}
use Rattle.library_calls.specs.FabricsSeen.{FabricSeen, is_fabric_spent}
use Rattle.library_calls.specs.FabricLines.{IsFabricFront, FabricLineTold, FabricLineCut}

-- ---- the line that asks

-- the IDs have 16 bits
abbrev pub asks_large : RegisterAsk → Bool
asks_large ask = not (ask.large == 0)

-- Each field has its width: an ID 16 bits, or 8.
pub record AskFieldsFit (ask : RegisterAsk) : Type 0 where
  pub prio : ask.prio < 4
  pub dest : asks_large ask ≡ false → ask.dest < 256
  pub offset : ask.offset < 16777216

-- The host has a name that a script may say, and the fields fit.
abbrev pub AskFits : List ℕ → RegisterAsk → Type 0
AskFits host ask = (is_name host ≡ true) × AskFieldsFit ask

-- the event that is asked for, where the host is the first node
abbrev pub line_of_ask : RegisterAsk → Line
line_of_ask ask =
    if ask.write == 0 then (if ask.large == 0
    then Read 0 ask.prio ask.dest ask.hop ask.tid ask.offset
    else Read16 0 ask.prio ask.dest ask.hop ask.tid ask.offset)
    else (if ask.large == 0
    then Write 0 ask.prio ask.dest ask.hop ask.tid ask.offset ask.value
    else Write16 0 ask.prio ask.dest ask.hop ask.tid ask.offset ask.value)

-- the words of the line `ask` that asks this
abbrev pub words_of_ask : List ℕ → RegisterAsk → List ℕ
words_of_ask host ask = line_text (host ∷ []) (line_of_ask ask)

-- why there are none: something is out of range, or memory was refused
abbrev pub AskHasNoWords : List ℕ → RegisterAsk → CallStatus → Type 0
AskHasNoWords host ask Argument = AskFits host ask → ⊥
AskHasNoWords host ask NoMemory = AskFits host ask
AskHasNoWords host ask _ = ⊥

-- ---- what came of it

abbrev pub no_reply : RegisterReply
no_reply = record { kind = 0; value = 0 }

-- in numbers
abbrev pub said_numbers : RegisterSaid → RegisterReply
said_numbers (Value value) = record { kind = 1; value = value }
said_numbers Written = record { kind = 2; value = 0 }
said_numbers (Failed status) = record { kind = 3; value = status }
said_numbers Unanswered = record { kind = 4; value = 0 }

abbrev pub outcome_numbers : AskOutcome → RegisterReply
outcome_numbers (Outcomes.Said said) = said_numbers said
outcome_numbers (Outcomes.Refused reason) = record { kind = 5; value = reason }
outcome_numbers Outcomes.Undetected = no_reply

abbrev pub outcome_status : AskOutcome → CallStatus
outcome_status Outcomes.Undetected = Undetected
outcome_status _ = Done

-- whether the fabric is spent by it
abbrev pub spends_fabric : AskOutcome → Bool
spends_fabric Outcomes.Undetected = true
spends_fabric _ = false

-- The line `ask` with these words was answered with this text, and this came of it. Then there may
-- be a further line, or the last event was not sent.
pub record FabricAsked (held : SessionHeld) (number : ℕ) (words text : List ℕ)
    (session : Session) (outcome : AskOutcome) : Type 0 where
  pub next : SessionHeld
  pub comes : AskComesTo held number words text next outcome
  pub stands : SessionGoes (after_ask outcome) session next

-- A fabric did what that line does, and this came of it.
pub record FabricAskTold (old : FabricSeen) (words : List ℕ) (outcome : AskOutcome)
    (new : FabricSeen) : Type 0 where
  pub line : FabricLineTold old (ask_text words) (spends_fabric outcome) (after_ask outcome) new
  pub asked : (held : SessionHeld) → SessionHolds old.session held
      → FabricAsked held (old.number + 1) words new.text new.session outcome

-- What is done with these words: a spent fabric stays as it is.
abbrev pub FabricAsksBy : List ℕ → FabricSeen → Result AskOutcome CallStatus → FabricSeen → Type 0
FabricAsksBy words old (Ok outcome) new = FabricAskTold old words outcome new
FabricAsksBy words old (Err Cut) new = FabricLineCut old (ask_text words) new
FabricAsksBy words old (Err Spent) new = (is_fabric_spent old ≡ true) × (new ≡ old)
FabricAsksBy words old (Err _) new = ⊥

-- An ask was carried out or refused, and what came of it was told in numbers.
pub record FabricAskDone (host : List ℕ) (ask : RegisterAsk) (told : RegisterReply)
    (old : FabricSeen) (new : FabricSeen) : Type 0 where
  pub fits : AskFits host ask
  pub outcome : AskOutcome
  pub line : FabricAskTold old (words_of_ask host ask) outcome new
  pub numbers : told ≡ outcome_numbers outcome

-- A host asks for a register by numbers. The words of a line `ask` are made of them, and it does
-- what that line does. If a field is out of range or memory is refused for the words, nothing is.
abbrev pub FabricAskDid : List ℕ → RegisterAsk → RegisterReply → FabricSeen → CallStatus
    → FabricSeen → Type 0
FabricAskDid host ask told old Done new =
    (did : FabricAskDone host ask told old new) × (after_ask did.outcome ≡ going.On)
FabricAskDid host ask told old Undetected new =
    (did : FabricAskDone host ask told old new) × (after_ask did.outcome ≡ going.Undetected)
FabricAskDid host ask told old Cut new = AskFits host ask × (told ≡ no_reply)
    × FabricLineCut old (ask_text (words_of_ask host ask)) new
FabricAskDid host ask told old Spent new =
    (is_fabric_spent old ≡ true) × (told ≡ no_reply) × (new ≡ old)
FabricAskDid host ask told old Argument new =
    (AskFits host ask → ⊥) × (told ≡ no_reply) × (new ≡ old)
FabricAskDid host ask told old NoMemory new =
    AskFits host ask × (told ≡ no_reply) × (new ≡ old)
FabricAskDid host ask told old _ new = ⊥

-- What the line was answered with was written, or a front of it.
abbrev pub TellsFabricAsk : SessionHeld → ℕ → List ℕ → Result AskOutcome BrokenOff → Session
    → Option (List ℕ) → Option (List ℕ) → Type 0
TellsFabricAsk held number words (Ok outcome) session written written_after = (text : List ℕ)
    × FabricAsked held number words text session outcome × Appends written written_after text
TellsFabricAsk held number words (Err broken) session written written_after = (text : List ℕ)
    × IsFabricFront held number (ask_text words) text × Appends written written_after text
