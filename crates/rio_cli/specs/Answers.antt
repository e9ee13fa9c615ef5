-- What an answer of the program says of what was read and written.
use Rattle.std.specs.Prelude.{◌≡◌, ◌≢◌, ◌<◌, ◌≤◌, ◌⊎◌, ℕ, ◌+◌, List, Option, Some, length, MatchOption}
use Rattle.std.specs.Io.KnownBytes.{Appends, Keeps}
use Rattle.rio_chars.specs.Faults.{Rose}
use Rattle.rio_chars.specs.Fronts.{AppendsFront}
use Rattle.rio_chars.specs.Takings.{ConsumesJust, ConsumesUpTo}
use Rattle.rio_cli.specs.declared.answer.CommandAnswer.{CommandAnswer}
use Rattle.rio_cli.specs.declared.refusal.Refusal.{Refusal}
use Rattle.rio_cli.specs.declared.command.Command.{Command}
use Rattle.rio_cli.specs.declared.status.Status.{Status}
use Rattle.rio_cli.specs.declared.status.Status.TheVariants.{Done, Words, Script, ReadFault, WriteFault, NoMemory, Undetected, TooLong, Locked, Unlawful}
use Rattle.rio_cli.specs.Inputs.{most_input, Offers, IsFaultless}
use Rattle.rio_cli.specs.Outputs.{InputIsAccepted, InputIsRefused, Completes, Exposes, Meets, RunsOut, InputIsHit, Declines, Breaks, OfInput, refused_words, refused_length, verdict_text}
use Rattle.rio_cli.specs.Messages.{Explains}
use Rattle.rio_cli.specs.Soaking.{Soaks, SoaksInto, SoaksFront}
use Rattle.rio_cli.specs.Words.{AsksCommand, AsksSoak, AreUnknown}

-- The words ask for the soak of a number. Nothing was read, and of the number this holds.
pub record OfSoak {S : Type 0} (asked : List (List ℕ)) (source source_after : S)
    (Holds : ℕ → Type 0)
    : Type 0 where
  pub seed : ℕ
  pub asks : AsksSoak seed asked
  pub unread : source_after ≡ source
  pub holds : Holds seed

-- What a call of the program says that ends with this status: of the words after the program's
-- name, of what the source tells of the bytes that are left and of its faults, and of what the sink
-- tells of the bytes that were written and of its faults.
pub record ProgramEnded {S : Type 0} {K : Type 0} (asked : List (List ℕ)) (status : Status)
    (left : S → Option (List ℕ)) (read_faults : S → ℕ) (source source_after : S)
    (written : K → Option (List ℕ)) (write_faults : K → ℕ) (sink sink_after : K) : Type 0 where
  -- Words that ask for no command read nothing, and only these are answered so.
  pub words : status ≡ Words → AreUnknown asked
      × Appends (written sink) (written sink_after) refused_words
  pub other_words : AreUnknown asked → (source_after ≡ source)
      × ((status ≡ Words) ⊎ ((status ≡ WriteFault)
      × AppendsFront (written sink) (written sink_after) refused_words))
  -- The input was read to its end and carried out, and all was written: to the end, to the first
  -- event that a port acted on and that was not sent, or to the first device that another host
  -- holds. Or it is refused or not lawful, and a line says so. A soak reads nothing.
  pub done : status ≡ Done → ((command : Command) × AsksCommand command asked
      × OfInput (left source) (left source_after)
      (λ bytes. Completes command bytes (written sink) (written sink_after)))
      ⊎ OfSoak asked source source_after
      (λ seed. Soaks seed (written sink) (written sink_after))
  pub undetected : status ≡ Undetected → ((command : Command) × AsksCommand command asked
      × OfInput (left source) (left source_after)
      (λ bytes. Exposes command bytes (written sink) (written sink_after)))
      ⊎ OfSoak asked source source_after
      (λ seed. SoaksInto seed (written sink) (written sink_after))
  pub locked : status ≡ Locked → (command : Command) × AsksCommand command asked
      × OfInput (left source) (left source_after)
      (λ bytes. Meets command bytes (written sink) (written sink_after))
  pub script : status ≡ Script → (command : Command) × AsksCommand command asked
      × OfInput (left source) (left source_after)
      (λ bytes. Declines Script command bytes (written sink) (written sink_after))
  pub unlawful : status ≡ Unlawful → (command : Command) × AsksCommand command asked
      × OfInput (left source) (left source_after)
      (λ bytes. Declines Unlawful command bytes (written sink) (written sink_after))
  pub too_long : status ≡ TooLong → (command : Command) × AsksCommand command asked
      × ConsumesJust (left source) (left source_after) (most_input + 1)
      × Appends (written sink) (written sink_after) refused_length
  -- However it ends, one byte more than an input may have is the most that is read.
  pub bounded : ConsumesUpTo (left source) (left source_after) (most_input + 1)
  -- Faults are told only if they rose, and no other answer lets them rise; what was written is a
  -- front of what would have been.
  pub read_fault : status ≡ ReadFault
      → Rose (read_faults source) (read_faults source_after)
      × Keeps (written sink) (written sink_after)
  pub write_fault : status ≡ WriteFault → Rose (write_faults sink) (write_faults sink_after)
      × ((AreUnknown asked × AppendsFront (written sink) (written sink_after) refused_words)
      ⊎ (((command : Command) × AsksCommand command asked
      × ((ConsumesJust (left source) (left source_after) (most_input + 1)
      × AppendsFront (written sink) (written sink_after) refused_length)
      ⊎ OfInput (left source) (left source_after)
      (λ bytes. Breaks command bytes (written sink) (written sink_after))))
      ⊎ OfSoak asked source source_after
      (λ seed. SoaksFront seed (written sink) (written sink_after))))
  pub reads_counted : status ≢ ReadFault → read_faults source_after ≡ read_faults source
  pub writes_counted : status ≢ WriteFault → write_faults sink_after ≡ write_faults sink
  pub never_falls : (read_faults source ≤ read_faults source_after)
      × (write_faults sink ≤ write_faults sink_after)
  -- Memory ran out before anything was written, or while the input was carried out.
  pub no_memory : status ≡ NoMemory → Keeps (written sink) (written sink_after)
      ⊎ ((command : Command) × AsksCommand command asked × OfInput (left source) (left source_after)
      (λ bytes. RunsOut command bytes (written sink) (written sink_after)))
  -- With words that ask for a command and no fault the input decides, unless memory runs out.
  pub accepted : (command : Command) (bytes : List ℕ) → AsksCommand command asked
      → Offers (left source) bytes → InputIsAccepted command bytes
      → IsFaultless (read_faults source) (read_faults source_after) (write_faults sink)
      (write_faults sink_after)
      → (status ≡ Done) ⊎ ((status ≡ Undetected) ⊎ ((status ≡ Locked) ⊎ ((status ≡ Unlawful)
      ⊎ (status ≡ NoMemory))))
  pub refused : (command : Command) (bytes : List ℕ) (line reason : ℕ) → AsksCommand command asked
      → Offers (left source) bytes → InputIsRefused command bytes line reason
      → IsFaultless (read_faults source) (read_faults source_after) (write_faults sink)
      (write_faults sink_after) → (status ≡ Script) ⊎ (status ≡ NoMemory)
  pub longer : (command : Command) (bytes : List ℕ) → AsksCommand command asked
      → left source ≡ Some bytes
      → most_input < length bytes
      → IsFaultless (read_faults source) (read_faults source_after) (write_faults sink)
      (write_faults sink_after) → (status ≡ TooLong) ⊎ (status ≡ NoMemory)
  -- A soak leaves the source as it was, and is carried out, if no write fails and memory is there.
  pub unread : (seed : ℕ) → AsksSoak seed asked → source_after ≡ source
  pub soaked : (seed : ℕ) → AsksSoak seed asked
      → ¬ Rose (write_faults sink) (write_faults sink_after)
      → (status ≡ Done) ⊎ ((status ≡ Undetected) ⊎ (status ≡ NoMemory))

-- The refusal is that of the input: its line and its reason were written, and its message says so
-- in words.
pub record IsToldOf (status : Status) (command : Command) (bytes : List ℕ) (refusal : Refusal)
    (written written_after : Option (List ℕ)) : Type 0 where
  pub hit : InputIsHit status command bytes refusal.line refusal.reason
  pub told : Appends written written_after (verdict_text status refusal.line refusal.reason)
  pub explains : Explains command bytes refusal.line refusal.reason refusal.message.items

-- no line of the input is told
abbrev pub IsOther : Status → Type 0
IsOther status = (status ≢ Script) × (status ≢ Unlawful)

-- a refusal is answered exactly with the statuses Script and Unlawful, and it is that of the
-- command's input
abbrev pub Refuses : List (List ℕ) → CommandAnswer → Option (List ℕ) → Option (List ℕ)
    → Option (List ℕ)
    → Option (List ℕ) → Type 0
Refuses asked answer left left_after written written_after = MatchOption answer.refusal
    (IsOther answer.status)
    (λ refusal. AsksCommand refusal.command asked × OfInput left left_after
    (λ bytes. IsToldOf answer.status refusal.command bytes refusal written written_after))

-- ---- the parts of a call

-- the text was written and the status answered, or the sink failed after a front of it
abbrev pub Answers : Status → Status → List ℕ → Option (List ℕ) → ℕ → Option (List ℕ) → ℕ → Type 0
Answers answer status text written faults written_after faults_after =
    ((answer ≡ status) × Appends written written_after text)
    ⊎ ((answer ≡ WriteFault) × Rose faults faults_after
    × AppendsFront written written_after text)

-- of bytes that were read whole
abbrev pub SaysOfBytes : Command → Status → List ℕ → Option (List ℕ) → ℕ → Option (List ℕ) → ℕ
    → Type 0
SaysOfBytes command Done bytes written faults written_after faults_after =
    Completes command bytes written written_after
SaysOfBytes command Words bytes written faults written_after faults_after = ⊥
SaysOfBytes command Script bytes written faults written_after faults_after =
    Declines Script command bytes written written_after
SaysOfBytes command ReadFault bytes written faults written_after faults_after = ⊥
SaysOfBytes command WriteFault bytes written faults written_after faults_after =
    Rose faults faults_after × Breaks command bytes written written_after
SaysOfBytes command NoMemory bytes written faults written_after faults_after =
    Keeps written written_after ⊎ RunsOut command bytes written written_after
SaysOfBytes command Undetected bytes written faults written_after faults_after =
    Exposes command bytes written written_after
SaysOfBytes command TooLong bytes written faults written_after faults_after = ⊥
SaysOfBytes command Locked bytes written faults written_after faults_after =
    Meets command bytes written written_after
SaysOfBytes command Unlawful bytes written faults written_after faults_after =
    Declines Unlawful command bytes written written_after

-- a refusal of this line for this reason is answered exactly with this status
abbrev pub TellsRefusal : Status → Command → List ℕ → ℕ → ℕ → CommandAnswer → Option (List ℕ)
    → Option (List ℕ) → Type 0
TellsRefusal status command bytes line reason answer written written_after =
    MatchOption answer.refusal (IsOther answer.status)
    (λ refusal. (answer.status ≡ status) × (refusal.command ≡ command) × (refusal.line ≡ line)
    × (refusal.reason ≡ reason) × Appends written written_after (verdict_text status line reason)
    × Explains command bytes line reason refusal.message.items)

-- a refusal of the bytes is answered exactly with the statuses Script and Unlawful
abbrev pub RefusesBytes : Command → CommandAnswer → List ℕ → Option (List ℕ) → Option (List ℕ)
    → Type 0
RefusesBytes command answer bytes written written_after = MatchOption answer.refusal
    (IsOther answer.status)
    (λ refusal. (refusal.command ≡ command)
    × IsToldOf answer.status command bytes refusal written written_after)

-- of a source
abbrev pub SaysOfInput : Command → Status → Option (List ℕ) → Option (List ℕ) → ℕ → ℕ
    → Option (List ℕ) → ℕ → Option (List ℕ) → ℕ → Type 0
SaysOfInput command Done left left_after read read_after written faults written_after faults_after =
    OfInput left left_after (λ bytes. Completes command bytes written written_after)
SaysOfInput command Words left left_after read read_after written faults written_after faults_after
    =
    ⊥
SaysOfInput command Script left left_after read read_after written faults written_after faults_after
    =
    OfInput left left_after (λ bytes. Declines Script command bytes written written_after)
SaysOfInput command ReadFault left left_after read read_after written faults written_after
    faults_after = Rose read read_after × Keeps written written_after
SaysOfInput command WriteFault left left_after read read_after written faults written_after
    faults_after = Rose faults faults_after
    × ((ConsumesJust left left_after (most_input + 1)
    × AppendsFront written written_after refused_length)
    ⊎ OfInput left left_after (λ bytes. Breaks command bytes written written_after))
SaysOfInput command NoMemory left left_after read read_after written faults written_after
    faults_after = Keeps written written_after
    ⊎ OfInput left left_after (λ bytes. RunsOut command bytes written written_after)
SaysOfInput command Undetected left left_after read read_after written faults written_after
    faults_after = OfInput left left_after (λ bytes. Exposes command bytes written written_after)
SaysOfInput command TooLong left left_after read read_after written faults written_after
    faults_after = ConsumesJust left left_after (most_input + 1)
    × Appends written written_after refused_length
SaysOfInput command Locked left left_after read read_after written faults written_after faults_after
    =
    OfInput left left_after (λ bytes. Meets command bytes written written_after)
SaysOfInput command Unlawful left left_after read read_after written faults written_after
    faults_after =
    OfInput left left_after (λ bytes. Declines Unlawful command bytes written written_after)

-- a refusal of what the source gave is answered exactly with the statuses Script and Unlawful
abbrev pub RefusesInput : Command → CommandAnswer → Option (List ℕ) → Option (List ℕ)
    → Option (List ℕ)
    → Option (List ℕ) → Type 0
RefusesInput command answer left left_after written written_after = MatchOption answer.refusal
    (IsOther answer.status)
    (λ refusal. (refusal.command ≡ command) × OfInput left left_after
    (λ bytes. IsToldOf answer.status command bytes refusal written written_after))
