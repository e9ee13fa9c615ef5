-- What in the text of a line is to blame that is no line of a trace.
use Rattle.std.specs.Prelude.{◌≡◌, ◌≢◌, ℕ, ◌+◌, ◌-◌, ◌^◌, ◌<◌, ◌≤◌, ◌==◌, false, List, [], ◌∷◌, ◌++◌, All, Contains, None, Some, codes, length, slice_get}
use Rattle.std.specs.Fmt.{decimal}
use Rattle.rio_chars.specs.CharText.{char_text_of, HasByte}
use Rattle.rio_chars.specs.declared.chars.Char.{Char}
use Rattle.fabric_script.specs.declared.ports.PortRef.{PortRef}
use Rattle.fabric_script.specs.Known.{Known, is_linked}
use Rattle.fabric_script.specs.Lines.{words_of}
use Rattle.fabric_script.specs.Names.{name_of}
use Rattle.fabric_script.specs.Texts.{port_text}
use Rattle.fabric_script.specs.Words.{first_word}
use Rattle.trace_lines.specs.Lines.{TraceLine}
use Rattle.trace_lines.specs.Words.{IsNode, IsScriptPort, trace_words}
use Rattle.check_words.specs.declared.kinds.LineKind.{LineKind}
use Rattle.check_words.specs.declared.kinds.Part.{Part}
use Rattle.check_words.specs.declared.kinds.Part.TheVariants as P
use Rattle.check_words.specs.declared.misfits.Misfit.{Misfit}
use Rattle.check_words.specs.declared.misfits.Misfit.TheVariants as M
use Rattle.check_words.specs.declared.misfits.WordFault.{WordFault}
use Rattle.check_words.specs.declared.misfits.WordFault.TheVariants as F
use Rattle.check_words.specs.BadPackets.{IsBadPacket}
use Rattle.check_words.specs.Kinds.{IsOfKind, part_at, parts_of}

-- ---- of a word

-- no node has this name
abbrev pub IsNoNode : Known → List ℕ → Type 0
IsNoNode known word = (n : ℕ) → IsNode known n → word ≢ name_of known.names n

-- it is to be a port
abbrev pub IsBadPort : Known → List ℕ → WordFault → Type 0
IsBadPort known word F.NoPoint = All (λ byte. (byte == 46) ≡ false) word
IsBadPort known word F.NoPortNode = (name : List ℕ) × (rest : List ℕ) × (word ≡ name ++ 46 ∷ rest)
    × IsNoNode known name
IsBadPort known word F.NoPort = (name : List ℕ) × (rest : List ℕ) × (word ≡ name ++ 46 ∷ rest)
    × ((n : ℕ) × IsNode known n × (name ≡ name_of known.names n))
    × ((p : PortRef) → IsScriptPort known p → word ≢ port_text known.names p)
IsBadPort known word fault = ⊥

-- it is to be this part of a line
abbrev pub IsBadWord : Known → Part → List ℕ → WordFault → Type 0
IsBadWord known P.Node word F.NoNode = IsNoNode known word
IsBadWord known P.Port word fault = IsBadPort known word fault
IsBadWord known P.Linked word F.Unlinked = (p : PortRef) × IsScriptPort known p
    × (word ≡ port_text known.names p) × (is_linked known.links p ≡ false)
IsBadWord known P.Linked word fault = IsBadPort known word fault
IsBadWord known P.Packet word fault = IsBadPacket word fault
IsBadWord known P.Character word F.NoCharacter =
    (c : Char) → HasByte c → word ≢ char_text_of c
IsBadWord known P.Number word F.NoNumber = (n : ℕ) → n < 2 ^ 32 → word ≢ decimal n
IsBadWord known P.EventKind word F.NoEventKind =
    (word ≢ codes "symbol") × (word ≢ codes "packet")
IsBadWord _ _ _ _ = ⊥

-- ---- of a text

-- The word at this place of a text, the first being 1, is bad as the part that stands there.
pub record IsMisfitWord (known : Known) (text : List ℕ) (place : ℕ) (fault : WordFault) : Type 0
  where
    pub kind : LineKind
    pub of_kind : IsOfKind text kind
    pub part : Part
    pub wanted : part_at kind (place - 2) ≡ Some part
    pub word : List ℕ
    pub there : slice_get (words_of text) (place - 1) ≡ Some word
    pub bad : IsBadWord known part word fault

-- what is to blame is so of the text
abbrev pub IsMisfit : Known → List ℕ → Misfit → Type 0
IsMisfit known text M.Nothing = Unit {0}
IsMisfit known text M.EmptyLine = text ≡ []
IsMisfit known text M.Comment = (rest : List ℕ) × (text ≡ 35 ∷ rest)
IsMisfit known text M.Keyword = (names : List (List ℕ)) (line : TraceLine)
    → first_word (trace_words names line) ≢ first_word (words_of text)
IsMisfit known text M.EmptyWord = Contains (words_of text) []
IsMisfit known text (M.Missing place) = (kind : LineKind) × IsOfKind text kind
    × (length (words_of text) + 1 ≡ place) × (place < length (parts_of kind) + 2)
IsMisfit known text (M.TooMany place) = (kind : LineKind) × IsOfKind text kind
    × (place ≤ length (words_of text)) × (part_at kind (place - 2) ≡ None)
IsMisfit known text (M.Word place fault) = IsMisfitWord known text place fault
