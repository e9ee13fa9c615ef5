-- What is answered of the characters or the groups of a line.
use Rattle.std.specs.Prelude.{◌≡◌, ℕ, List, [], ◌∷◌, ◌++◌, Option, Some, None, MatchOption, map, codes}
use Rattle.rio_chars.specs.CharText.{char_text_of, spaced_chars}
use Rattle.rio_chars.specs.declared.chars.Char.{Char}
use Rattle.rio_chars.specs.declared.chars.Char.TheVariants.{Special}
use Rattle.code_groups.specs.Streams.{HaveGroups, HaveTenBits, groups_from, after_chars}
use Rattle.group_text.specs.GroupTexts.{group_text_of, spaced_groups}
use Rattle.fabric_script.specs.Lines.{words_of}
use Rattle.lane_bits.specs.Aligning.{SpellBits, after_bits, bit_pieces}
use Rattle.lane_bits.specs.BitHearing.{HearsPieces}
use Rattle.lane_sync.specs.declared.lane.LaneState.{LaneState}
use Rattle.lane_sync.specs.Syncing.{LaneHearsAll}
use Rattle.rio_lane.specs.declared.ends.LaneEnds.{LaneEnds}

-- the ends of a lane after a line, and the text that answers it
pub record LaneAnswer : Type 0 where
  pub ends : LaneEnds
  pub text : List ℕ

abbrev pub lane_says : LaneEnds → List ℕ → LaneAnswer
lane_says ends text = record { ends = ends; text = text }

-- the words of a text, which single spaces part; an empty text has none
abbrev pub text_words : List ℕ → List (List ℕ)
text_words [] = []
text_words (byte ∷ bytes) = words_of (byte ∷ bytes)

-- the words are characters that have groups
pub record SpellSent (words : List (List ℕ)) (chars : List Char) : Type 0 where
  pub have : HaveGroups chars
  pub are : words ≡ map char_text_of chars

-- the words are groups
pub record SpellGroups (words : List (List ℕ)) (groups : List ℕ) : Type 0 where
  pub tens : HaveTenBits groups
  pub are : words ≡ map group_text_of groups

-- texts with a space between any two
abbrev pub joined_groups : List ℕ → List ℕ
joined_groups [] = []
joined_groups (group ∷ groups) = group_text_of group ++ spaced_groups groups

abbrev pub joined_chars : List Char → List ℕ
joined_chars [] = []
joined_chars (c ∷ chars) = char_text_of c ++ spaced_chars chars

-- what is sent for a burst: an idle K28.5, the burst, and an idle
abbrev pub burst_chars : List Char → List Char
burst_chars chars = Special 0xbc ∷ chars ++ Special 0xbc ∷ []

-- A text is answered by what it spells, or as one that spells nothing.
pub record AnsweredAs {X : Type 0} (Spells : X → Type 0) (Answers : Option X → Type 0) :
    Type 0 where
  pub read : Option X
  pub reads : MatchOption read ((x : X) → ¬ Spells x) Spells
  pub is : Answers read

-- A burst after this head, and the sender's disparity after it; or the line is refused.
abbrev pub sent_answer : List ℕ → LaneEnds → Option (List Char) → LaneAnswer
sent_answer head ends None = lane_says ends (codes "refused character\n")
sent_answer head ends (Some chars) =
    lane_says (record ends { sender = after_chars ends.sender (burst_chars chars) })
    (head ++ joined_groups (groups_from ends.sender (burst_chars chars)) ++ codes "\n")

abbrev pub SendsText : List ℕ → LaneEnds → List ℕ → LaneAnswer → Type 0
SendsText head ends text answer =
    AnsweredAs (SpellSent (text_words text)) (λ read. answer ≡ sent_answer head ends read)

-- What is heard of the groups after this head, and the lane after it; or the line is refused.
abbrev pub HeardAnswer : ℕ → List ℕ → LaneEnds → Option (List ℕ) → LaneAnswer → Type 0
HeardAnswer commas head ends None answer = answer ≡ lane_says ends (codes "refused group\n")
HeardAnswer commas head ends (Some groups) answer = (heard : List Char) × (to : LaneState)
    × LaneHearsAll commas ends.receiver groups to heard
    × (answer ≡ lane_says (record ends { receiver = to })
    (head ++ joined_chars heard ++ codes "\n"))

abbrev pub HearsText : ℕ → List ℕ → LaneEnds → List ℕ → LaneAnswer → Type 0
HearsText commas head ends text answer =
    AnsweredAs (SpellGroups (text_words text)) (λ read. HeardAnswer commas head ends read answer)

-- What is heard of the bits of a line, and what is known of the lane after them; or the line is
-- refused.
abbrev pub BitsAnswer : ℕ → LaneEnds → Option (List ℕ) → LaneAnswer → Type 0
BitsAnswer commas ends None answer = answer ≡ lane_says ends (codes "refused bit\n")
BitsAnswer commas ends (Some bits) answer = (heard : List Char) × (to : LaneState)
    × HearsPieces commas ends.receiver (bit_pieces ends.aligner bits) to heard
    × (answer ≡ lane_says
    (record ends { receiver = to; aligner = after_bits ends.aligner bits })
    (joined_chars heard ++ codes "\n"))

abbrev pub HearsBits : ℕ → LaneEnds → List ℕ → LaneAnswer → Type 0
HearsBits commas ends text answer =
    AnsweredAs (SpellBits text) (λ read. BitsAnswer commas ends read answer)
