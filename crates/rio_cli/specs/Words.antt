-- The words after the program's name, each as the bytes of its text.
use Rattle.std.specs.Prelude.{◌≡◌, ◌<◌, ◌^◌, ℕ, true, List, [], ◌∷◌, codes, ⊤}
use Rattle.std.specs.Fmt.{decimal}
use Rattle.fabric_script.specs.Names.{is_name}
use Rattle.rio_cli.specs.declared.command.Asked.{Asked}
use Rattle.rio_cli.specs.declared.command.Asked.TheVariants.{Input, Soak}
use Rattle.rio_cli.specs.declared.command.Command.{Command}
use Rattle.rio_cli.specs.declared.command.Command.TheVariants.{Replay, Decode, Check, Io, Enumerate, Contest}

-- the words that ask for a command: a row for each
abbrev pub words_for : Command → List (List ℕ)
words_for Replay = codes "replay" ∷ []
words_for Decode = codes "decode" ∷ []
words_for Check = codes "check" ∷ []
words_for Io = codes "io" ∷ []
words_for (Enumerate node) = codes "enumerate" ∷ node ∷ []
words_for (Contest first second seed) =
    codes "contest" ∷ first ∷ second ∷ decimal seed ∷ []

-- a node is spelled as a name, and a number has room in 32 bits
abbrev pub CommandIsNamed : Command → Type 0
CommandIsNamed (Enumerate node) = is_name node ≡ true
CommandIsNamed (Contest first second seed) =
    (is_name first ≡ true) × (is_name second ≡ true) × (seed < 2 ^ 32)
CommandIsNamed _ = ⊤

-- the words ask for this to be done with the input
abbrev pub AsksCommand : Command → List (List ℕ) → Type 0
AsksCommand command words = (words ≡ words_for command) × CommandIsNamed command

-- the words ask no two nodes to contest a fabric, and no node to number one
abbrev pub AskNoContest : List (List ℕ) → Type 0
AskNoContest words =
    (first second : List ℕ) (seed : ℕ) → ¬ AsksCommand (Contest first second seed) words

abbrev pub AskNoHost : List (List ℕ) → Type 0
AskNoHost words = ((node : List ℕ) → ¬ AsksCommand (Enumerate node) words) × AskNoContest words

-- the words that ask for the soak of a number
abbrev pub soak_words : ℕ → List (List ℕ)
soak_words seed = codes "soak" ∷ decimal seed ∷ []

-- the words ask for the soak of this number, which has room in 32 bits
abbrev pub AsksSoak : ℕ → List (List ℕ) → Type 0
AsksSoak seed words = (seed < 2 ^ 32) × (words ≡ soak_words seed)

-- the words ask for this
abbrev pub AsksInput : Asked → List (List ℕ) → Type 0
AsksInput (Input command) words = AsksCommand command words
AsksInput (Soak seed) words = AsksSoak seed words

-- the words ask for nothing
abbrev pub AreUnknown : List (List ℕ) → Type 0
AreUnknown words = ((command : Command) → ¬ AsksCommand command words)
    × ((seed : ℕ) → ¬ AsksSoak seed words)
