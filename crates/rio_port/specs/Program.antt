-- What the whole program does.
use Rattle.std.specs.Prelude.{◌≡◌, ◌≢◌, ℕ, ◌≤◌, ◌-◌, ◌^◌, ◌⊎◌, List, [], ◌∷◌, ◌++◌, Option, Bool, true, false, codes}
use Rattle.std.specs.Fmt.{decimal}
use Rattle.std.specs.Io.KnownBytes.{Keeps}
use Rattle.rio_chars.specs.Unless.{WritesUnless}
use Rattle.live_lines.specs.declared.status.LiveStatus.{LiveStatus}
use Rattle.live_lines.specs.declared.status.LiveStatus.TheVariants.{Words, Undetected}
use Rattle.live_lines.specs.Asked.{AnswersQuestion}
use Rattle.program_start.specs.Questions.{AsksNoQuestion}
use Rattle.live_lines.specs.Serving.{ServesLines}
use Rattle.live_lines.specs.Statuses.{status_value, message_of}
use Rattle.port_lines.specs.declared.settings.PortSettings.{PortSettings}
use Rattle.port_lines.specs.Answers.{ClockedAnswer}
use Rattle.port_lines.specs.Clocks.{ClockedState, new_clocked}
use Rattle.port_lines.specs.Lines.{PortAnswersLines}
use Rattle.rio_port.specs.Logs.{AskLog, IsUnlogged}

-- the last word says a number of clocks
abbrev pub AskClocks : List (List ℕ) → ℕ → Type 0
AskClocks [] clocks = ⊥
AskClocks (word ∷ []) clocks =
    (1 ≤ clocks) × (clocks ≤ 1000000) × (word ≡ decimal clocks)
AskClocks (word ∷ more ∷ words) clocks = ⊥

-- the last words say how many clocks without an answer are too long, or there are none
abbrev pub AskPatience : List (List ℕ) → ℕ → Type 0
AskPatience [] patience = patience ≡ 0
AskPatience (word ∷ words) patience = (word ≡ codes "--timeout") × AskClocks words patience

-- before them there may be a word which says that held packets are given out at once
abbrev pub AskTaking : List (List ℕ) → Bool → ℕ → Type 0
AskTaking words false patience = AskPatience words patience
AskTaking words true patience = (rest : List (List ℕ)) × (words ≡ codes "--take" ∷ rest)
    × AskPatience rest patience

-- the first word says the number of buffers, or there are 8
abbrev pub AskMaking : List (List ℕ) → ℕ → Bool → ℕ → Type 0
AskMaking words buffers at_once patience =
    ((buffers ≡ 8) × AskTaking words at_once patience)
    ⊎ ((4 ≤ buffers) × (buffers ≤ 30) × ((rest : List (List ℕ))
    × (words ≡ decimal buffers ∷ rest) × AskTaking rest at_once patience))

-- the words after the program's name ask for a port that is made so, and does not tell its free
-- buffers
abbrev pub AskSettings : List (List ℕ) → PortSettings → Type 0
AskSettings words settings = (settings.tells ≡ false)
    × AskMaking words settings.buffers settings.takes_at_once settings.patience

-- behind the words that ask for a log, if any do, none say a way in which a port is made
abbrev pub AskNoPort : List (List ℕ) → Type 0
AskNoPort words = (is_asked : Bool) (rest : List (List ℕ)) (settings : PortSettings)
    → AskLog is_asked words rest → ¬ AskSettings rest settings

-- the number of buffers stands before the rest of the words, or none does
abbrev pub SplitsBuffers : List (List ℕ) → ℕ → List (List ℕ) → Type 0
SplitsBuffers words buffers rest =
    ((4 ≤ buffers) × (buffers ≤ 30) × (words ≡ decimal buffers ∷ rest))
    ⊎ ((buffers ≡ 8) × (rest ≡ words) × ((number : ℕ) (behind : List (List ℕ))
    → 4 ≤ number → number ≤ 30 → words ≢ decimal number ∷ behind))

-- the word that says that held packets are given out at once stands before the rest, or does not
abbrev pub SplitsTaking : List (List ℕ) → Bool → List (List ℕ) → Type 0
SplitsTaking words true rest = words ≡ codes "--take" ∷ rest
SplitsTaking words false rest = (rest ≡ words)
    × ((behind : List (List ℕ)) → words ≢ codes "--take" ∷ behind)

-- From this port on, lines were served: those that were read, each behind the one before it, up to
-- where it ended. What was written is their answers. A port that is alone acts on whatever comes,
-- so it never ends with an event that was not sent.
pub record ServesFrom (port : ClockedState) (status : LiveStatus)
    (left left_after : Option (List ℕ)) (read_faults read_faults_after : ℕ)
    (written written_after : Option (List ℕ)) (write_faults write_faults_after : ℕ) : Type 0 where
  pub lines : List (List ℕ)
  pub answer : ClockedAnswer
  pub answers : PortAnswersLines port lines answer
  pub ends : status ≢ Undetected
  pub serves : ServesLines (2 ^ 64 - 1) status left left_after read_faults read_faults_after
      written written_after write_faults write_faults_after lines answer.text

-- how the program is used, in a line and on several
abbrev pub port_usage : List ℕ
port_usage = codes "usage: rio_port [--log A B] [BUFFERS] [--take] [--timeout CLOCKS], "
    ++ codes "with 4 to 30 buffers and 1 to 1000000 clocks\n"

abbrev pub port_help : List ℕ
port_help = codes "usage: rio_port [--log A B] [BUFFERS] [--take] [--timeout CLOCKS] < LINES\n\n"
    ++ codes "One end of a link, with 4 to 30 receive buffers, or 8. Each line is answered before the\n"
    ++ codes "next is read. An answer ends with the line ok.\n\n"
    ++ codes "--log A B                             a log of both ends on standard error\n"
    ++ codes "--take                                a packet that is held is given out at once\n"
    ++ codes "--timeout CLOCKS                      so many clocks without an answer are too long\n\n"
    ++ codes "got CHARS                             characters come from its wire\n"
    ++ codes "clock CHARS                           in each clock a character comes and one is given\n"
    ++ codes "turn N                                N turns to send a packet or a symbol\n"
    ++ codes "timeout                               it has waited too long for an answer\n"
    ++ codes "send PRIO FTYPE SOURCE DEST HEX       a packet is to be sent; send16 has IDs of 16 bits\n"
    ++ codes "take                                  the next held packet is given out\n"
    ++ codes "state                                 its state is told\n"
    ++ codes "reset                                 it becomes new\n\n"
    ++ codes "docs/live.md says what is answered, and docs/characters.md how characters are written.\n"

-- nothing was read
abbrev pub LeavesInput : Option (List ℕ) → Option (List ℕ) → ℕ → ℕ → Type 0
LeavesInput left left_after read_faults read_faults_after =
    Keeps left left_after × (read_faults_after ≡ read_faults)

-- The words ask a question, and it was answered; or they ask for a port that is made so, which
-- served lines; or they ask for nothing, and nothing was read or written.
abbrev pub PortDid : List (List ℕ) → LiveStatus → Option (List ℕ) → Option (List ℕ) → ℕ → ℕ
    → Option (List ℕ) → Option (List ℕ) → ℕ → ℕ → Type 0
PortDid words status left left_after read_faults read_faults_after written written_after
    write_faults write_faults_after =
    (AnswersQuestion (codes "rio_port") port_help words status written written_after write_faults
    write_faults_after × LeavesInput left left_after read_faults read_faults_after)
    ⊎ (((is_asked : Bool) × (rest : List (List ℕ)) × (settings : PortSettings)
    × AskLog is_asked words rest × AskSettings rest settings × AsksNoQuestion words
    × ServesFrom (new_clocked settings) status left left_after read_faults read_faults_after
    written written_after write_faults write_faults_after)
    ⊎ (AskNoPort words × AsksNoQuestion words × (status ≡ Words)
    × Keeps written written_after × (write_faults_after ≡ write_faults)
    × LeavesInput left left_after read_faults read_faults_after))

-- It ends with the number of a status, and said some log, if one is asked for, and then of the
-- status what there is to say; or a front of that where a write of it failed.
pub record PortRan {S : Type 0} {K : Type 0} {M : Type 0} (words : List (List ℕ)) (number : ℕ)
    (left : S → Option (List ℕ)) (read_faults : S → ℕ) (source source_after : S)
    (written : K → Option (List ℕ)) (write_faults : K → ℕ) (sink sink_after : K)
    (said : M → Option (List ℕ)) (say_faults : M → ℕ) (messages messages_after : M) : Type 0 where
  pub status : LiveStatus
  pub did : PortDid words status (left source) (left source_after) (read_faults source)
      (read_faults source_after) (written sink) (written sink_after) (write_faults sink)
      (write_faults sink_after)
  pub number_is : number ≡ status_value status
  pub failed : Bool
  pub log : List ℕ
  pub unlogged : IsUnlogged words → log ≡ []
  pub says : WritesUnless false (said messages) (say_faults messages) failed (said messages_after)
      (say_faults messages_after)
      (log ++ message_of (codes "rio_port: ") port_usage status)
