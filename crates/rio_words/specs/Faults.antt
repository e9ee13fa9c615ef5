-- What is said of words that ask for no command.
use Rattle.std.specs.Prelude.{◌≡◌, ◌≢◌, ◌⊎◌, ℕ, List, [], ◌∷◌, ◌++◌, codes}
use Rattle.rio_words.specs.declared.faults.WordsFault.{WordsFault}
use Rattle.rio_words.specs.declared.faults.WordsFault.TheVariants.{NoWord, NoCommand, Further, Node, Nodes, Number}

abbrev pub first_of : List (List ℕ) → List ℕ
first_of [] = []
first_of (word ∷ words) = word

-- what is wrong with words that begin so, if they ask for no command
abbrev pub IsFaultOfFirst : WordsFault → List ℕ → Type 0
IsFaultOfFirst NoWord word = ⊥
IsFaultOfFirst NoCommand word = (word ≢ codes "replay") × (word ≢ codes "decode")
    × (word ≢ codes "check") × (word ≢ codes "io") × (word ≢ codes "enumerate")
    × (word ≢ codes "contest") × (word ≢ codes "soak")
IsFaultOfFirst Further word = (word ≡ codes "replay") ⊎ ((word ≡ codes "decode")
    ⊎ ((word ≡ codes "check") ⊎ (word ≡ codes "io")))
IsFaultOfFirst Node word = word ≡ codes "enumerate"
IsFaultOfFirst Nodes word = word ≡ codes "contest"
IsFaultOfFirst Number word = word ≡ codes "soak"

abbrev pub IsFaultOf : WordsFault → List (List ℕ) → Type 0
IsFaultOf fault [] = fault ≡ NoWord
IsFaultOf fault (word ∷ words) = IsFaultOfFirst fault word

-- what is said before the first word, and after it
abbrev pub fault_begin : WordsFault → List ℕ
fault_begin NoWord = codes "rio: no command is given"
fault_begin NoCommand = codes "rio: no command is called "
fault_begin _ = codes "rio: "

abbrev pub fault_end : WordsFault → List ℕ
fault_end NoWord = codes "; rio --help has them\n"
fault_end NoCommand = codes "; rio --help has them\n"
fault_end Further = codes " takes no further word: it reads standard input, as < FILE gives it\n"
fault_end Node = codes " takes the name of an endpoint, as in rio enumerate A < SCRIPT\n"
fault_end Nodes =
    codes " takes the names of two endpoints and a number, as in rio contest A B 1 < SCRIPT\n"
fault_end Number = codes " takes a number from 0 to 4294967295, as in rio soak 1\n"

abbrev pub fault_text : List ℕ → WordsFault → List ℕ
fault_text word fault = (fault_begin fault ++ word) ++ fault_end fault
