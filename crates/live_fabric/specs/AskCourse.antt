-- An ask that is carried out.
use Rattle.std.specs.Prelude.{◌≡◌, ℕ, Bool, List, [], ◌++◌, Option, Some, None}
use Rattle.rio_chars.specs.Written.{Outgoing, Writes}
use Rattle.fabric_script.specs.declared.lines.Line.{Line}
use Rattle.fabric_script.specs.declared.lines.Line.TheVariants.{Collect}
use Rattle.maint_packets.specs.declared.response.Response.{Response}
use Rattle.live_fabric.specs.declared.asking.AskOutcome.{AskOutcome}
use Rattle.live_fabric.specs.declared.asking.AskOutcome.TheVariants as Outcomes
use Rattle.live_fabric.specs.declared.asking.Reply.{Reply}
use Rattle.live_fabric.specs.declared.asking.Reply.TheVariants.{Came, Missing, Undetected}
use Rattle.live_fabric.specs.declared.asks.Ask.{Ask}
use Rattle.live_fabric.specs.declared.live.Live.{Live}
use Rattle.live_fabric.specs.Lines.{Taken, MetUnsent}
use Rattle.live_fabric.specs.Telling.{TellsEvents}
use Rattle.live_fabric.specs.Holding.{LiveHolds, MayBeCarried, MayCollect, IsTrace, SameSetUp}
use Rattle.live_fabric.specs.Asking.{reply_of, register_said, said_text, TellsRounds, IsRoundsFront, TellsAsk, IsAskFront}

-- each of these nodes may collect, and then the host
abbrev pub MayCollectWith : Taken → List ℕ → ℕ → Type 0
MayCollectWith taken nodes host = MayCollect taken nodes × MayBeCarried taken (Collect host)

-- what came of a round with this response, or with none
abbrev pub as_reply : Option Response → Reply
as_reply (Some response) = Came response
as_reply None = Missing

-- these lines were taken, and this came of the ask
abbrev pub ReplyGoes : ℕ → Reply → Live → Taken → Type 0
ReplyGoes tid (Came response) live end = LiveHolds live end × (reply_of tid end ≡ Some response)
ReplyGoes tid Missing live end = LiveHolds live end × (reply_of tid end ≡ None)
ReplyGoes tid Undetected live end = IsTrace end × MetUnsent end

-- the events of a round were carried out
pub record RoundDone (quiet : Bool) (taken : Taken) (number tid : ℕ) (round : List Line)
    (old new : Outgoing) (live : Live) (reply : Reply) : Type 0 where
  pub text : List ℕ
  pub end : Taken
  pub is : TellsEvents quiet taken number round text end
  pub told : Writes old new text
  pub goes : ReplyGoes tid reply live end

-- rounds were, at most so many
pub record RoundsDone (quiet : Bool) (taken : Taken) (number tid : ℕ) (round : List Line) (n : ℕ)
    (old new : Outgoing) (live : Live) (reply : Reply) : Type 0 where
  pub text : List ℕ
  pub end : Taken
  pub is : TellsRounds quiet number tid round n taken text end
  pub told : Writes old new text
  pub goes : ReplyGoes tid reply live end

-- they broke off
pub record RoundsBreak (quiet : Bool) (taken : Taken) (number tid : ℕ) (round : List Line) (n : ℕ)
    (old new : Outgoing) : Type 0 where
  pub text : List ℕ
  pub is : IsRoundsFront quiet number tid round n taken text
  pub told : Writes old new text

-- Some of them were carried out, and at most so many are left: no response has come yet.
pub record RoundsCourse (quiet : Bool) (taken : Taken) (number tid : ℕ) (round : List Line)
    (n left : ℕ) (old new : Outgoing) (live : Live) : Type 0 where
  pub text : List ℕ
  pub mid : Taken
  pub told : Writes old new text
  pub holds : LiveHolds live mid
  pub same : SameSetUp taken mid
  pub missing : reply_of tid mid ≡ None
  pub goes : (more : List ℕ) (end : Taken) → TellsRounds quiet number tid round left mid more end
      → TellsRounds quiet number tid round n taken (text ++ more) end
  pub breaks : (more : List ℕ) → IsRoundsFront quiet number tid round left mid more
      → IsRoundsFront quiet number tid round n taken (text ++ more)

-- a request and its rounds were carried out
pub record AskDone (quiet : Bool) (taken : Taken) (number : ℕ) (nodes : List ℕ) (event : Line)
    (ask : Ask) (old new : Outgoing) (live : Live) (reply : Reply) : Type 0 where
  pub text : List ℕ
  pub end : Taken
  pub is : TellsAsk quiet taken number nodes event ask text end
  pub told : Writes old new text
  pub goes : ReplyGoes ask.tid reply live end

-- they broke off
pub record AskBreaks (quiet : Bool) (taken : Taken) (number : ℕ) (nodes : List ℕ) (event : Line)
    (ask : Ask) (old new : Outgoing) : Type 0 where
  pub text : List ℕ
  pub is : IsAskFront quiet taken number nodes event ask text
  pub told : Writes old new text

-- ---- what is said after it

-- of what came of an ask of the register at this offset
abbrev pub reply_said : ℕ → Reply → List ℕ
reply_said offset (Came response) = said_text (register_said offset (Some response))
reply_said offset Missing = said_text (register_said offset None)
reply_said offset Undetected = []

-- the same as a value
abbrev pub reply_outcome : ℕ → Reply → AskOutcome
reply_outcome offset (Came response) = Outcomes.Said (register_said offset (Some response))
reply_outcome offset Missing = Outcomes.Said (register_said offset None)
reply_outcome offset Undetected = Outcomes.Undetected
