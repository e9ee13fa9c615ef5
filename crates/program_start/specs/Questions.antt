-- The words that each program knows, and what is answered to them.
use Rattle.std.specs.Prelude.{◌≡◌, ℕ, List, [], ◌∷◌, ◌++◌, codes}
use Rattle.program_start.specs.declared.questions.Question.{Question}
use Rattle.program_start.specs.declared.questions.Question.TheVariants.{Help, Version}

abbrev pub question_word : Question → List ℕ
question_word Help = codes "--help"
question_word Version = codes "--version"

-- the words that follow the program's name
abbrev pub after_name : List (List ℕ) → List (List ℕ)
after_name [] = []
after_name (name ∷ words) = words

-- the words after the program's name ask this
abbrev pub AsksQuestion : Question → List (List ℕ) → Type 0
AsksQuestion question words = words ≡ question_word question ∷ []

abbrev pub AsksNoQuestion : List (List ℕ) → Type 0
AsksNoQuestion words = (question : Question) → ¬ AsksQuestion question words

-- the program's name, the version, and the logic that proved it
abbrev pub version_text : List ℕ → List ℕ
version_text name = name ++ codes " 1.0.0, proved with rattle logic dac8208d650f15bf\n"

abbrev pub question_text : List ℕ → List ℕ → Question → List ℕ
question_text name help Help = help
question_text name help Version = version_text name
