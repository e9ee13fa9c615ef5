-- Why words ask for nothing: their number, or the first that is misspelled.
use Rattle.std.proofs.Common.{◌≡◌, ◌≢◌, ℕ, ◌≤◌, ◌<◌, ◌^◌, inl, inr, Bool, true, false, List, [], ◌∷◌, ◌++◌, All, length, map, codes, refl, sym, ap, ◌∙◌, subst, arith}
use Rattle.std.specs.Fmt.{decimal}
use Rattle.std.proofs.lemmas.Fmt.{decimal_injective}
use Rattle.rio_packets.specs.LinkForm.{IsBadLength}
use Rattle.rio_chars.specs.CharText.{char_text_of, HasByte}
use Rattle.rio_chars.specs.declared.chars.Char.{Char}
use Rattle.rio_packets.specs.Fields.{body_of}
use Rattle.rio_packets.specs.declared.making.Header.{Header}
use Rattle.fabric_script.specs.Texts.{hex_text}
use Rattle.fabric_script.specs.Advice.{IsSpelled}
use Rattle.fabric_script.specs.declared.advice.WordKind.{WordKind}
use Rattle.fabric_script.specs.declared.advice.WordKind.TheVariants.{Number, Bytes, Character}
use Rattle.port_lines.specs.Kinds.{send_word, most_id, request_keyword, request_fields, header_fields, packet_fields}
use Rattle.port_lines.specs.Requests.{SpellsHeader}
use Rattle.port_lines.specs.Faults.{FirstMisspelled, IsFault, IsHeaderFault, place_behind}
use Rattle.port_lines.specs.declared.faults.RequestFault.{RequestFault}
use Rattle.port_lines.specs.declared.faults.RequestFault.TheVariants.{WordCount, Word, Length}
use Rattle.port_lines.specs.declared.kinds.RequestKind.{RequestKind}
use Rattle.port_lines.specs.declared.kinds.RequestKind.TheVariants as Kind

-- a line with more or fewer words than its kind wants
pub other_count : (kind : RequestKind) (behind : List (List ℕ)) (count : ℕ)
    → count ≡ length (request_fields kind behind) → length behind ≢ count
    → IsFault (WordCount count) (request_keyword kind ∷ behind)
other_count kind behind count wants other =
    record { kind = kind; behind = behind; named = refl; wants = wants; other = other }

-- ---- numbers

pub number_outside : (word : List ℕ) (least most read : ℕ) → word ≡ decimal read
    → read < 2 ^ 32 → most < 2 ^ 32 → (least ≤ read → most < read)
    → ¬ IsSpelled (Number least most) word
number_outside word least most read text small fits out h =
    let most_is = h.2 in
    let least_is = h.1 in
    let texts : decimal read ≡ decimal h.0 = sym text ∙ h.3 in
    let same =
    decimal_injective read h.0 (omega (arith, small)) (omega (arith, most_is, fits)) texts in
    let low : least ≤ read = omega (arith, least_is, same) in
    let high = out low in
    omega (arith, most_is, same, high)

pub turn_fault : (words : List (List ℕ)) (word : List ℕ) (fault : RequestFault)
    → words ≡ word ∷ [] → fault ≡ Word 2 (Number 1 100000)
    → ¬ IsSpelled (Number 1 100000) word → IsFault fault (codes "turn" ∷ words)
turn_fault words word fault are is bad = rw (is, are) record {
  kind = Kind.Turn;
  behind = word ∷ [];
  named = refl;
  count = refl;
  first = inl (refl, refl, bad);
}

-- ---- characters

-- a word more that spells a character
pub chars_more : (word : List ℕ) (rest : List (List ℕ)) (place at : ℕ) (c : Char)
    → HasByte c → word ≡ char_text_of c
    → FirstMisspelled (map (λ (w : List ℕ). Character) rest) rest (place_behind place) at Character
    → FirstMisspelled (map (λ (w : List ℕ). Character) (word ∷ rest)) (word ∷ rest) place at
    Character
chars_more word rest place at c good is first = inr ((c, good, is), first)

pub chars_stop : (word : List ℕ) (rest : List (List ℕ)) (place : ℕ)
    → ((c : Char) → HasByte c → word ≢ char_text_of c)
    → FirstMisspelled (map (λ (w : List ℕ). Character) (word ∷ rest)) (word ∷ rest) place place
    Character
chars_stop word rest place none = inl (refl, refl, λ h. none h.0 h.1 h.2)

length-chars_on : (words : List (List ℕ))
    → length words ≡ length (map (λ (w : List ℕ). Character) words)
length-chars_on [] = refl
length-chars_on (word ∷ words) =
    let rest = length-chars_on words in
    omega (arith, rest)

pub got_fault : (behind : List (List ℕ)) (fault : RequestFault) (at : ℕ)
    → fault ≡ Word at Character
    → FirstMisspelled (map (λ (w : List ℕ). Character) behind) behind 2 at Character
    → IsFault fault (codes "got" ∷ behind)
got_fault behind fault at is first = rw is record {
  kind = Kind.Got;
  behind = behind;
  named = refl;
  count = length-chars_on behind;
  first = first;
}

pub clock_fault : (behind : List (List ℕ)) (fault : RequestFault) (at : ℕ)
    → fault ≡ Word at Character
    → FirstMisspelled (map (λ (w : List ℕ). Character) behind) behind 2 at Character
    → IsFault fault (codes "clock" ∷ behind)
clock_fault behind fault at is first = rw is record {
  kind = Kind.Clock;
  behind = behind;
  named = refl;
  count = length-chars_on behind;
  first = first;
}

-- ---- the numbers of a packet

-- a word that spells a number
pub spelled_number : (word : List ℕ) (least most n : ℕ) → least ≤ n → n ≤ most
    → word ≡ decimal n → IsSpelled (Number least most) word
spelled_number word least most n low high is = (n, low, high, is)

misspelled_more : (kinds more : List WordKind) (words behind : List (List ℕ)) (place at : ℕ)
    (wanted : WordKind) → FirstMisspelled kinds words place at wanted
    → FirstMisspelled (kinds ++ more) (words ++ behind) place at wanted
misspelled_more [] more words behind place at wanted first = absurd first
misspelled_more (kind ∷ kinds) more [] behind place at wanted first = absurd first
misspelled_more (kind ∷ kinds) more (word ∷ words) behind place at wanted (inl here) = inl here
misspelled_more (kind ∷ kinds) more (word ∷ words) behind place at wanted (inr rest) =
    inr (rest.0, misspelled_more kinds more words behind (place_behind place) at wanted rest.1)

size_kind : (large : Bool) → (kind : RequestKind) × (request_keyword kind ≡ send_word large)
    × ((behind : List (List ℕ)) → request_fields kind behind ≡ packet_fields large)
size_kind false = (Kind.Send, refl, λ behind. refl)
size_kind true = (Kind.Send16, refl, λ behind. refl)

-- a word of a line with a packet that is the first one misspelled
packet_fault : (large : Bool) (behind : List (List ℕ)) (at : ℕ) (wanted : WordKind)
    → length behind ≡ 5 → FirstMisspelled (packet_fields large) behind 2 at wanted
    → IsFault (Word at wanted) (send_word large ∷ behind)
packet_fault large behind at wanted five first =
    let its = size_kind large in
    record {
      kind = its.0;
      behind = behind;
      named = ap (λ word. word ∷ behind) (sym its.1);
      count = five ∙ ap length (sym (its.2 behind));
      first = subst (λ kinds. FirstMisspelled kinds behind 2 at wanted) (sym (its.2 behind)) first;
    }

pub packet_count_fault : (large : Bool) (behind : List (List ℕ)) → length behind ≢ 5
    → IsFault (WordCount 5) (send_word large ∷ behind)
packet_count_fault large behind other =
    let its = size_kind large in
    record {
      kind = its.0;
      behind = behind;
      named = ap (λ word. word ∷ behind) (sym its.1);
      wants = ap length (sym (its.2 behind));
      other = other;
    }

module _ (large : Bool) (prio ftype source dest hex : List ℕ) (words : List (List ℕ))
    (are : words ≡ prio ∷ ftype ∷ source ∷ dest ∷ hex ∷ []) where
  pub header_fault : (fault : RequestFault)
      → IsHeaderFault large (prio ∷ ftype ∷ source ∷ dest ∷ []) fault
      → IsFault fault (send_word large ∷ words)
  header_fault fault h = rw (h.2, are) (packet_fault large
      (prio ∷ ftype ∷ source ∷ dest ∷ hex ∷ []) h.0 h.1 refl
      (misspelled_more (header_fields large) (Bytes ∷ []) (prio ∷ ftype ∷ source ∷ dest ∷ [])
      (hex ∷ []) 2 h.0 h.1 h.3))

  pub longer_header : (header : Header) (bytes : List ℕ)
      → SpellsHeader large (prio ∷ ftype ∷ source ∷ dest ∷ []) header []
      → hex ≡ hex_text bytes → SpellsHeader large words header (hex_text bytes ∷ [])
  longer_header header bytes h is = record {
    prio = h.prio;
    ftype = h.ftype;
    source = h.source;
    dest = h.dest;
    size = h.size;
    words_are =
        are ∙ ap (λ (word : List ℕ). prio ∷ ftype ∷ source ∷ dest ∷ word ∷ []) is
        ∙ ap (λ (ws : List (List ℕ)). ws ++ hex_text bytes ∷ []) h.words_are;
  }

  pub data_fault : (header : Header)
      → SpellsHeader large (prio ∷ ftype ∷ source ∷ dest ∷ []) header []
      → ((bytes : List ℕ) → All (λ byte. byte < 256) bytes → hex ≢ hex_text bytes)
      → IsFault (Word 6 Bytes) (send_word large ∷ words)
  data_fault header h none = rw are (packet_fault large
      (prio ∷ ftype ∷ source ∷ dest ∷ hex ∷ []) 6 Bytes refl
      (subst (λ ws. FirstMisspelled (packet_fields large) (ws ++ hex ∷ []) 2 6 Bytes)
      (sym h.words_are) (
      inr (
        (header.prio, omega arith, h.prio, refl),
        inr (
          (header.ftype, omega arith, h.ftype, refl),
          inr (
            (header.source, omega arith, h.source, refl),
            inr (
              (header.dest, omega arith, h.dest, refl),
              inl (refl, refl, λ it. none it.0 it.1 it.2),
            ),
          ),
        ),
      )
      )))

  pub length_fault : (header : Header) (bytes : List ℕ)
      → SpellsHeader large (prio ∷ ftype ∷ source ∷ dest ∷ []) header []
      → hex ≡ hex_text bytes → All (λ byte. byte < 256) bytes
      → IsBadLength
      (body_of header.prio header.ftype header.large header.dest header.source bytes)
      → IsFault Length (send_word large ∷ words)
  length_fault header bytes h is are_bytes bad = record {
    large = large;
    behind = words;
    named = refl;
    header = header;
    bytes = bytes;
    fields = longer_header header bytes h is;
    are_bytes = are_bytes;
    bad = rw h.size at bad;
  }

module _ (large : Bool) (prio ftype source dest : List ℕ) (fault : RequestFault) where
  pub first_number : fault ≡ Word 2 (Number 0 3) → ¬ IsSpelled (Number 0 3) prio
      → IsHeaderFault large (prio ∷ ftype ∷ source ∷ dest ∷ []) fault
  first_number is bad = (2, Number 0 3, is, inl (refl, refl, bad))

  pub second_number : IsSpelled (Number 0 3) prio → fault ≡ Word 3 (Number 0 15)
      → ¬ IsSpelled (Number 0 15) ftype
      → IsHeaderFault large (prio ∷ ftype ∷ source ∷ dest ∷ []) fault
  second_number one is bad = (3, Number 0 15, is, inr (one, inl (refl, refl, bad)))

  pub third_number : IsSpelled (Number 0 3) prio → IsSpelled (Number 0 15) ftype
      → (most : ℕ) → most ≡ most_id large → fault ≡ Word 4 (Number 0 most)
      → ¬ IsSpelled (Number 0 most) source
      → IsHeaderFault large (prio ∷ ftype ∷ source ∷ dest ∷ []) fault
  third_number one two most greatest is bad = (
    4,
    Number 0 (most_id large),
    is ∙ ap (λ n. Word 4 (Number 0 n)) greatest,
    inr (
      one,
      inr (
        two,
        inl (
          refl,
          refl,
          subst (λ n. ¬ IsSpelled (Number 0 n) source) greatest
              bad,
        ),
      ),
    ),
  )

  pub fourth_number : IsSpelled (Number 0 3) prio → IsSpelled (Number 0 15) ftype
      → (most : ℕ) → most ≡ most_id large → IsSpelled (Number 0 most) source
      → fault ≡ Word 5 (Number 0 most) → ¬ IsSpelled (Number 0 most) dest
      → IsHeaderFault large (prio ∷ ftype ∷ source ∷ dest ∷ []) fault
  fourth_number one two most greatest three is bad = (
    5,
    Number 0 (most_id large),
    is ∙ ap (λ n. Word 5 (Number 0 n)) greatest,
    inr (
      one,
      inr (
        two,
        inr (
          subst (λ n. IsSpelled (Number 0 n) source) greatest three,
          inl (refl, refl, subst (λ n. ¬ IsSpelled (Number 0 n) dest) greatest bad),
        ),
      ),
    ),
  )
