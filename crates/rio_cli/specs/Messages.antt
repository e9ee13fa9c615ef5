-- What the program says of an answer in words: one line of standard error, or nothing.
use Rattle.std.specs.Prelude.{◌≡◌, ℕ, ◌-◌, leb, Option, Some, None, List, [], ◌++◌, codes, slice_index_or, MatchOption, if◌then◌else◌}
use Rattle.std.specs.Fmt.{decimal}
use Rattle.rio_chars.specs.Lines.{text_lines}
use Rattle.trace_check.specs.declared.expecting.Expected.{Expected}
use Rattle.trace_check.specs.Expecting.{HasExpected, IsExplained}
use Rattle.trace_check.specs.Outcomes.{HasUnlawful}
use Rattle.rio_cli.specs.declared.answer.CommandAnswer.{CommandAnswer}
use Rattle.rio_cli.specs.declared.refusal.Refusal.{Refusal}
use Rattle.rio_cli.specs.declared.command.Command.{Command}
use Rattle.rio_cli.specs.declared.command.Command.TheVariants.{Decode, Check, Io, Enumerate, Contest}
use Rattle.rio_cli.specs.declared.status.Status.{Status}
use Rattle.rio_cli.specs.declared.status.Status.TheVariants.{Done, Words, Script, ReadFault, WriteFault, NoMemory, Undetected, TooLong, Locked, Unlawful}
use Rattle.check_words.specs.Forms.{IsFormWhy}
use Rattle.check_words.specs.Hints.{hint_text}
use Rattle.refusal_words.specs.Advising.{IsWhy}
use Rattle.refusal_words.specs.Citing.{excerpt_of}
use Rattle.rio_words.specs.BadWords.{IsCharsWhy}
use Rattle.rio_words.specs.Places.{lines_text}
use Rattle.rio_cli.specs.Texts.{reason_text}

-- the text of a line of an input, counted from 1, and nothing for a line that is not there
abbrev pub input_line_text : List ℕ → ℕ → List ℕ
input_line_text bytes line = slice_index_or (text_lines bytes) (line - 1) []

-- What is shown of the line of a command: the line, or the words that name a host if it is refused
-- at the line after the last.
abbrev pub citation_of : Command → List ℕ → List ℕ
citation_of (Enumerate node) [] = codes ": enumerate " ++ node
citation_of (Contest first second seed) [] =
    codes ": contest " ++ first ++ codes " " ++ second ++ codes " " ++ decimal seed
citation_of command text = excerpt_of text

-- What is said of a line that is refused for this reason: what in its text is to blame, or the
-- reason; of a line that is none of a trace, why it is none.
abbrev pub IsWhyOf : Command → List ℕ → ℕ → ℕ → List ℕ → Type 0
IsWhyOf Decode bytes line reason why = IsCharsWhy (input_line_text bytes line) why
IsWhyOf Io bytes line reason why = why ≡ reason_text Io reason
IsWhyOf Check bytes line reason why =
    (reason ≡ 21 → IsFormWhy bytes line (input_line_text bytes (line - 1))
    (input_line_text bytes line) why)
    × ((reason ≡ 21 → ⊥) → IsWhy (input_line_text bytes line) (reason_text Check reason) why)
IsWhyOf command bytes line reason why =
    IsWhy (input_line_text bytes line) (reason_text command reason) why

-- What would have been lawful at the line is told of a trace, exactly if it is not lawful there for
-- a reason that explains itself so.
abbrev pub IsExpectedBy : Command → List ℕ → ℕ → ℕ → Option Expected → Type 0
IsExpectedBy Check bytes line reason expected = MatchOption expected
    (HasUnlawful bytes line reason → IsExplained reason → ⊥)
    (λ told. IsExplained reason × HasExpected bytes line told)
IsExpectedBy _ bytes line reason expected = expected ≡ None

-- how to see a line of a trace that is not lawful, and nothing of other lines
abbrev pub place_text : Command → ℕ → ℕ → List ℕ
place_text Check line reason = if leb 21 reason then lines_text line else []
place_text command line reason = []

-- What is said of a refusal: a line that says what would have been lawful, and cites the line that
-- is refused; and how to see it, if it is one of a trace.
pub record Explains (command : Command) (bytes : List ℕ) (line reason : ℕ) (message : List ℕ) :
    Type 0 where
  pub why : List ℕ
  pub is_why : IsWhyOf command bytes line reason why
  pub expected : Option Expected
  pub is_expected : IsExpectedBy command bytes line reason expected
  pub says : message ≡ codes "rio: line " ++ decimal line ++ codes ": " ++ why
      ++ hint_text expected ++ citation_of command (input_line_text bytes line) ++ codes "\n"
      ++ place_text command line reason

-- what is said if no line is refused
abbrev pub status_text : Status → List ℕ
status_text Done = []
status_text Words = codes "rio: the words ask for no command\n"
status_text Script = codes "rio: the input is refused\n"
status_text Unlawful = codes "rio: the trace is not lawful\n"
status_text ReadFault = codes "rio: standard input cannot be read\n"
status_text WriteFault = codes "rio: standard output cannot be written\n"
status_text NoMemory = codes "rio: there is not enough memory\n"
status_text Undetected = codes
    "rio: a port acted on what its peer had not sent; the last line of a trace names it\n"
status_text TooLong = codes "rio: the input is longer than 4194304 bytes\n"
status_text Locked = codes "rio: a device is locked by another host\n"

abbrev pub message_text : Status → Option Refusal → List ℕ
message_text status None = status_text status
message_text status (Some refusal) = refusal.message.items

-- the line that is said of an answer
abbrev pub answer_message : CommandAnswer → List ℕ
answer_message answer = message_text answer.status answer.refusal
