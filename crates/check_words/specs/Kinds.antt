-- Which words stand behind the first of each kind of line of a trace.
use Rattle.std.specs.Prelude.{◌≡◌, ℕ, List, [], ◌∷◌, Option, None, Some, codes, slice_get}
use Rattle.fabric_script.specs.Lines.{words_of}
use Rattle.fabric_script.specs.Words.{first_word}
use Rattle.check_words.specs.declared.kinds.LineKind.{LineKind}
use Rattle.check_words.specs.declared.kinds.LineKind.TheVariants as K
use Rattle.check_words.specs.declared.kinds.Part.{Part}
use Rattle.check_words.specs.declared.kinds.Part.TheVariants as P

-- the first word of a kind of line
abbrev pub line_kind_text : LineKind → List ℕ
line_kind_text K.Begun = codes ">"
line_kind_text K.Hold = codes "hold"
line_kind_text K.Free = codes "free"
line_kind_text K.Take = codes "take"
line_kind_text K.Leave = codes "leave"
line_kind_text K.Move = codes "move"
line_kind_text K.Drop = codes "drop"
line_kind_text K.Answer = codes "answer"
line_kind_text K.Sent = codes "sent"
line_kind_text K.Got = codes "got"
line_kind_text K.Fire = codes "fire"
line_kind_text K.Full = codes "full"
line_kind_text K.Empty = codes "empty"
line_kind_text K.Short = codes "short"
line_kind_text K.Early = codes "early"
line_kind_text K.NoStep = codes "none"
line_kind_text K.End = codes "end"
line_kind_text K.Undetected = codes "undetected"

-- the text begins with the word of this kind
abbrev pub IsOfKind : List ℕ → LineKind → Type 0
IsOfKind text kind = line_kind_text kind ≡ first_word (words_of text)

-- what must stand behind the first word
abbrev pub parts_of : LineKind → List Part
parts_of K.Begun = P.Other ∷ []
parts_of K.Hold = P.Linked ∷ P.Packet ∷ []
parts_of K.Free = P.Linked ∷ P.Packet ∷ []
parts_of K.Take = P.Node ∷ P.Packet ∷ []
parts_of K.Leave = P.Node ∷ P.Packet ∷ []
parts_of K.Move = P.Port ∷ P.Port ∷ P.Packet ∷ []
parts_of K.Drop = P.Port ∷ P.Packet ∷ []
parts_of K.Answer = P.Port ∷ P.Packet ∷ P.Packet ∷ []
parts_of K.Sent = P.Linked ∷ P.Character ∷ []
parts_of K.Got = P.Linked ∷ P.Character ∷ []
parts_of K.Fire = P.Linked ∷ []
parts_of K.Full = []
parts_of K.Empty = []
parts_of K.Short = []
parts_of K.Early = []
parts_of K.NoStep = []
parts_of K.End = []
parts_of K.Undetected = P.Number ∷ P.Port ∷ P.EventKind ∷ P.Other ∷ P.Other ∷ []

-- what may stand behind that, as often as one likes
abbrev pub more_of : LineKind → Option Part
more_of K.Begun = Some P.Other
more_of K.Sent = Some P.Character
more_of K.Got = Some P.Character
more_of K.Undetected = Some P.Other
more_of _ = None

abbrev pub part_or : Option Part → Option Part → Option Part
part_or None more = more
part_or (Some part) more = Some part

-- what stands behind so many words that are behind the first
abbrev pub part_at : LineKind → ℕ → Option Part
part_at kind i = part_or (slice_get (parts_of kind) i) (more_of kind)
