-- Why words ask for nothing: the least reason that hits them, and what is said of it.
use Rattle.std.specs.Prelude.{◌≡◌, ◌≢◌, ◌⊎◌, ℕ, ◌+◌, ◌<◌, min, Bool, List, [], ◌∷◌, ◌++◌, All, codes, length}
use Rattle.std.specs.Fmt.{decimal}
use Rattle.fabric_script.specs.Advice.{IsSpelled}
use Rattle.fabric_script.specs.Texts.{hex_text}
use Rattle.fabric_script.specs.declared.advice.WordKind.{WordKind}
use Rattle.fabric_script.specs.declared.advice.WordKind.TheVariants as Spelled
use Rattle.fabric_script.specs.declared.advice.Advice.TheVariants as Advices
use Rattle.refusal_words.specs.Advising.{IsPlainWhy, advice_text, word_kind_text}
use Rattle.refusal_words.specs.Reasons.{script_reason}
use Rattle.rio_packets.specs.Fields.{body_of}
use Rattle.rio_packets.specs.LinkForm.{IsBadLength}
use Rattle.rio_packets.specs.declared.making.Header.{Header}
use Rattle.port_lines.specs.declared.kinds.RequestKind.{RequestKind}
use Rattle.port_lines.specs.declared.faults.RequestFault.{RequestFault}
use Rattle.port_lines.specs.declared.faults.RequestFault.TheVariants.{Keyword, WordCount, Word, Length}
use Rattle.port_lines.specs.Kinds.{request_keyword, request_fields, header_fields, send_word}
use Rattle.port_lines.specs.Requests.{SpellsHeader}

-- the next place of a line, which is told up to 4,294,967,295
abbrev pub place_behind : ℕ → ℕ
place_behind place = min (place + 1) 4294967295

-- The first of some words that is not spelled as its field stands at this place and should be this:
-- the first of the words stands at `place`.
abbrev pub FirstMisspelled : List WordKind → List (List ℕ) → ℕ → ℕ → WordKind → Type 0
FirstMisspelled [] words place at wanted = ⊥
FirstMisspelled (kind ∷ kinds) [] place at wanted = ⊥
FirstMisspelled (kind ∷ kinds) (word ∷ words) place at wanted =
    ((at ≡ place) × (wanted ≡ kind) × (¬ IsSpelled kind word))
    ⊎ (IsSpelled kind word × FirstMisspelled kinds words (place_behind place) at wanted)

-- The line has the first word of a kind, and as many words behind it as this kind wants. One of
-- them is the first that is misspelled; the first word of the line stands at place 1.
pub record HasMisspelled (words : List (List ℕ)) (at : ℕ) (wanted : WordKind) : Type 0 where
  pub kind : RequestKind
  pub behind : List (List ℕ)
  pub named : words ≡ request_keyword kind ∷ behind
  pub count : length behind ≡ length (request_fields kind behind)
  pub first : FirstMisspelled (request_fields kind behind) behind 2 at wanted

-- the first of the four numbers of a packet that is misspelled, which stand at the places 2 to 5
abbrev pub IsHeaderFault : Bool → List (List ℕ) → RequestFault → Type 0
IsHeaderFault large words fault = (at : ℕ) × (wanted : WordKind)
    × (fault ≡ Word at wanted) × FirstMisspelled (header_fields large) words 2 at wanted

-- the line has the first word of a kind that wants so many words behind it, and has more or fewer
pub record HasOtherCount (words : List (List ℕ)) (count : ℕ) : Type 0 where
  pub kind : RequestKind
  pub behind : List (List ℕ)
  pub named : words ≡ request_keyword kind ∷ behind
  pub wants : count ≡ length (request_fields kind behind)
  pub other : length behind ≢ count

-- each word is spelled, and no packet has so many bytes of data
pub record HasBadLength (words : List (List ℕ)) : Type 0 where
  pub large : Bool
  pub behind : List (List ℕ)
  pub named : words ≡ send_word large ∷ behind
  pub header : Header
  pub bytes : List ℕ
  pub fields : SpellsHeader large behind header (hex_text bytes ∷ [])
  pub are_bytes : All (λ byte. byte < 256) bytes
  pub bad : IsBadLength
      (body_of header.prio header.ftype large header.dest header.source bytes)

-- a row for each fault
abbrev pub IsFault : RequestFault → List (List ℕ) → Type 0
IsFault Keyword words =
    (kind : RequestKind) (behind : List (List ℕ)) → words ≢ request_keyword kind ∷ behind
IsFault (WordCount count) words = HasOtherCount words count
IsFault (Word at wanted) words = HasMisspelled words at wanted
IsFault Length words = HasBadLength words

-- the reason by its number, which is that of a script with this fault
abbrev pub request_reason : RequestFault → ℕ
request_reason Keyword = 1
request_reason (WordCount count) = 1
request_reason (Word at (Spelled.Number least most)) = 2
request_reason (Word at wanted) = 9
request_reason Length = 10

-- what is said of a fault, in the words that are said of a script
abbrev pub request_fault_text : RequestFault → List ℕ
request_fault_text Keyword = advice_text [] Advices.Keyword
request_fault_text (WordCount count) = advice_text [] (Advices.WordCount count)
request_fault_text (Word at wanted) =
    codes "word " ++ decimal at ++ codes " must be " ++ word_kind_text wanted
request_fault_text Length = script_reason 10

-- what is said of a line that has a fault: what its bytes show, whatever its words ask, or the
-- fault
abbrev pub IsRequestWhy : List ℕ → RequestFault → List ℕ → Type 0
IsRequestWhy line fault why = IsPlainWhy line why ⊎ (why ≡ request_fault_text fault)
