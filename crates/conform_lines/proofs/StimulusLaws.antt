-- The line that a device is asked asks a port for the same request, and is one line.
use Rattle.std.proofs.Common.{◌≡◌, ℕ, ◌+◌, ◌*◌, ◌-◌, ◌<◌, ◌≤◌, ◌==◌, inl, inr, Bool, true, false, true≢false, All, Result, Ok, Err, List, [], ◌∷◌, ◌++◌, codes, map, get_or, drop, refl, sym, ap, ◌∙◌, subst, append-nil, arith}
use Rattle.std.specs.Fmt.{decimal}
use Rattle.std.specs.List.{join_with_byte}
use Rattle.std.proofs.lemmas.Bool.Decides.{nat_tests}
use Rattle.std.proofs.lemmas.List.Elements.{All-cons, All-head, All-tail, All-append, All-map, All-set, All-take, All-drop}
use Rattle.std.proofs.lemmas.List.Splits.{join_with_byte-slice_split}
use Rattle.rio_chars.specs.CharText.{char_text_of, spaced_chars, HasByte}
use Rattle.rio_chars.specs.declared.chars.Char.{Char}
use Rattle.rio_chars.specs.declared.chars.Char.TheVariants as TheChar
use Rattle.rio_symbols.specs.declared.characters.Delimiter.{Delimiter}
use Rattle.rio_symbols.specs.declared.characters.Delimiter.TheVariants.{Sc, Pd}
use Rattle.rio_symbols.specs.Delimiters.{delimiter_of}
use Rattle.rio_symbols.specs.Fields.{Fields, InRange}
use Rattle.rio_symbols.specs.Spelling.{symbol_bytes}
use Rattle.rio_symbols.proofs.SpellingLaws.{spells_own}
use Rattle.rio_packets.specs.LinkForm.{AreBytes, Passes}
use Rattle.link_model.specs.ReadingSpelt.{bytes_with_ack, data_chars, delimiter_char, symbol_chars_of}
use Rattle.fabric_script.specs.declared.fields.Field.{Field}
use Rattle.fabric_script.specs.declared.fields.Field.TheVariants.{Number, Hex, Character}
use Rattle.fabric_script.specs.Hits.{FitsField}
use Rattle.fabric_script.specs.Known.{nothing, of_script}
use Rattle.fabric_script.specs.Lines.{words_of}
use Rattle.fabric_script.specs.declared.values.Value.{Value}
use Rattle.fabric_script.specs.declared.values.Value.TheVariants.{Counted, Bytes, Code}
use Rattle.fabric_script.specs.Texts.{value_text}
use Rattle.fabric_script.proofs.Joins.{AreVisible, is_visible, join_lacks, split_join, visible_values}
use Rattle.fabric_script.proofs.KnownLaws.{nothing-orderly}
use Rattle.fabric_script.proofs.LineLaws.{IsSmall}
use Rattle.fabric_script.proofs.Points.{Lacks}
use Rattle.live_lines.specs.Lines.{HasNoFeed}
use Rattle.port_lines.specs.Kinds.{send_word}
use Rattle.port_lines.specs.Lines.{ReadsLine}
use Rattle.port_lines.specs.Requests.{AsksRequest, SpellsPacket}
use Rattle.port_lines.specs.declared.faults.RequestRefusal.{RequestRefusal}
use Rattle.port_lines.specs.declared.requests.PortRequest.{PortRequest}
use Rattle.port_lines.specs.declared.requests.PortRequest.TheVariants.{Got, Turn, TimeOut, Send, Take, State, Reset, Clock}
use Rattle.conform_lines.specs.declared.items.LinkItem.{LinkItem}
use Rattle.conform_lines.specs.declared.items.LinkItem.TheVariants.{Symbol, Data, Packet, Spoiled, Part}
use Rattle.conform_lines.specs.declared.symbols.SymbolName.{SymbolName}
use Rattle.conform_lines.specs.declared.symbols.SymbolName.TheVariants as Names
use Rattle.conform_lines.specs.Names.{symbol_fields, tells_sender, tells_receiver}
use Rattle.conform_lines.specs.Items.{SpellsParameters, SpellsLinkBytes, SpellsItem, bit_turned, item_chars, packet_between}
use Rattle.conform_lines.specs.Stimuli.{ReadsStimulus, stimulus_line}
use Rattle.conform_lines.proofs.ItemLaws.{id_fits, send_passes}
use Rattle.conform_lines.proofs.OnceLaws.{request_once}

-- ---- the bytes of what is put on the wire

abbrev HaveBytes : List Char → Type 0
HaveBytes chars = All (λ c. HasByte c) chars

data_have : (bytes : List ℕ) → AreBytes bytes → HaveBytes (data_chars bytes)
data_have bytes h = All-map (λ c. HasByte c) (λ byte. TheChar.Data byte) bytes h

delimiter_has : (d : Delimiter) → HasByte (delimiter_char d)
delimiter_has Sc = omega arith
delimiter_has Pd = omega arith

symbol_have : (symbol : Fields) → InRange symbol → HaveBytes (symbol_chars_of symbol)
unfolding symbol_chars_of
symbol_have symbol range =
    All-cons (λ c. HasByte c) (delimiter_char (delimiter_of symbol))
    (data_chars (symbol_bytes symbol)) (delimiter_has (delimiter_of symbol))
    (data_have (symbol_bytes symbol) (spells_own symbol range).are_bytes)

sender_range : (s0 p0 p1 : ℕ) → s0 < 8 → p0 < 32 → p1 < 32 → InRange (tells_sender s0 p0 p1)
sender_range s0 p0 p1 kind h k =
    record { s0 = kind; p0 = h; p1 = k; s1 = omega arith; cmd = omega arith }

receiver_range : (p0 p1 s1 cmd : ℕ) → p0 < 32 → p1 < 32 → s1 < 8 → cmd < 8
    → InRange (tells_receiver p0 p1 s1 cmd)
receiver_range p0 p1 s1 cmd h k kind asked =
    record { s0 = omega arith; p0 = h; p1 = k; s1 = kind; cmd = asked }

fields_range : (name : SymbolName) (p0 p1 : ℕ) → p0 < 32 → p1 < 32
    → InRange (symbol_fields name p0 p1)
fields_range Names.Accepted p0 p1 h k = sender_range 0 p0 p1 (omega arith) h k
fields_range Names.Retry p0 p1 h k = sender_range 1 p0 p1 (omega arith) h k
fields_range Names.NotAccepted p0 p1 h k = sender_range 2 p0 p1 (omega arith) h k
fields_range Names.Status p0 p1 h k = sender_range 4 p0 p1 (omega arith) h k
fields_range Names.Response p0 p1 h k = sender_range 6 p0 p1 (omega arith) h k
fields_range Names.Start p0 p1 h k = receiver_range p0 p1 0 0 h k (omega arith) (omega arith)
fields_range Names.Stomp p0 p1 h k = receiver_range p0 p1 1 0 h k (omega arith) (omega arith)
fields_range Names.End p0 p1 h k = receiver_range p0 p1 2 0 h k (omega arith) (omega arith)
fields_range Names.Restart p0 p1 h k = receiver_range p0 p1 3 0 h k (omega arith) (omega arith)
fields_range Names.Request p0 p1 h k = receiver_range p0 p1 4 4 h k (omega arith) (omega arith)
fields_range Names.Reset p0 p1 h k = receiver_range p0 p1 4 3 h k (omega arith) (omega arith)
fields_range Names.Multicast p0 p1 h k = receiver_range p0 p1 5 0 h k (omega arith) (omega arith)

parameters_small : (words : List (List ℕ)) (p0 p1 : ℕ) → SpellsParameters words p0 p1
    → (p0 < 32) × (p1 < 32)
parameters_small [] p0 p1 h = (omega (arith, h.0), omega (arith, h.1))
parameters_small (first ∷ []) p0 p1 h = (h.0, omega (arith, h.2))
parameters_small (first ∷ second ∷ []) p0 p1 h = (h.0, h.1)
parameters_small (first ∷ second ∷ third ∷ words) p0 p1 h = absurd h

named_have : (name : SymbolName) (p0 p1 : ℕ) → p0 < 32 → p1 < 32
    → HaveBytes (symbol_chars_of (symbol_fields name p0 p1))
named_have name p0 p1 h k = symbol_have (symbol_fields name p0 p1) (fields_range name p0 p1 h k)

between_have : (bytes : List ℕ) → AreBytes bytes → HaveBytes (packet_between bytes)
between_have bytes h =
    let end = symbol_chars_of (symbol_fields Names.End 0 31) in
    All-append (λ c. HasByte c) (symbol_chars_of (symbol_fields Names.Start 0 31))
    (data_chars bytes ++ end) (named_have Names.Start 0 31 (omega arith) (omega arith))
    (All-append (λ c. HasByte c) (data_chars bytes) end (data_have bytes h)
    (named_have Names.End 0 31 (omega arith) (omega arith)))

bytes_with_ack-are : (ack : ℕ) (packet : List ℕ) → ack < 32 → Passes packet
    → AreBytes (bytes_with_ack ack packet)
unfolding bytes_with_ack
bytes_with_ack-are ack packet small passes =
    All-set (λ b. b < 256) packet 0 (8 * ack + get_or packet 0 0)
    (omega (arith, small, passes.origin)) passes.range

link_bytes_are : (words : List (List ℕ)) (bytes : List ℕ) → SpellsLinkBytes words bytes
    → AreBytes bytes
link_bytes_are words bytes h =
    subst AreBytes (sym h.bytes_are)
    (bytes_with_ack-are h.ack h.packet h.small (send_passes h.line h.packet h.asks))

turned_below : (byte : ℕ) → byte < 256 → bit_turned byte < 256
turned_below byte h = grind (arith, nat_tests)

item_have : (item : LinkItem) (words : List (List ℕ)) → SpellsItem item words
    → HaveBytes (item_chars item)
item_have (Symbol symbol) words h =
    let small = parameters_small h.1 h.2 h.3 h.5 in
    subst (λ s. HaveBytes (symbol_chars_of s)) (sym h.6)
    (named_have h.0 h.2 h.3 small.0 small.1)
item_have (Data bytes) words h = data_have bytes.items h.0
item_have (Packet bytes) words h =
    between_have bytes.items (link_bytes_are h.0 bytes.items h.2)
item_have (Spoiled bytes) words h =
    let right = link_bytes_are h.0 h.1 h.3 in
    between_have bytes.items (subst AreBytes (sym h.5)
    (All-set (λ b. b < 256) h.1 4 (bit_turned (get_or h.1 4 0))
    (turned_below (get_or h.1 4 0) (right 4 0 h.4)) right))
item_have (Part bytes) words h =
    let part = h.2 in
    data_have bytes.items (subst AreBytes (sym part.part_is)
    (All-take (λ b. b < 256) (part.to - part.from) (drop part.from part.bytes)
    (All-drop (λ b. b < 256) part.from part.bytes
    (link_bytes_are part.behind part.bytes part.spells))))

-- ---- words that can be seen

visible_one : (field : Field) (value : Value) → IsSmall field → FitsField nothing field value
    → is_visible (value_text [] value) ≡ true
visible_one field value small fits =
    let all = visible_values nothing (field ∷ []) (value ∷ []) (nothing-orderly of_script)
    (small, tt) (fits, tt) in
    all.0

visible_number : (n : ℕ) → n ≤ 100000 → is_visible (decimal n) ≡ true
visible_number n h = visible_one (Number 0 100000) (Counted n) (omega arith) (omega arith, h)

visible_chars : (chars : List Char) → HaveBytes chars → AreVisible (map char_text_of chars)
visible_chars [] h = tt
visible_chars (c ∷ chars) h = (
  visible_one Character (Code c) tt (All-head (λ c. HasByte c) c chars h),
  visible_chars chars (All-tail (λ c. HasByte c) c chars h),
)

visible_packet : (large : Bool) (words : List (List ℕ)) (packet : List ℕ)
    → SpellsPacket large words packet → AreVisible words
visible_packet large words packet h =
    let its = h.header in
    let fields = h.fields in
    let source = id_fits large its.source fields.source in
    let dest = id_fits large its.dest fields.dest in
    subst AreVisible (sym fields.words_are) (
      visible_number its.prio (omega (arith, fields.prio)),
      (
        visible_number its.ftype (omega (arith, fields.ftype)),
        (
          visible_number its.source (omega (arith, source)),
          (
            visible_number its.dest (omega (arith, dest)),
            (visible_one Hex (Bytes h.bytes) tt h.are_bytes, tt),
          ),
        ),
      ),
    )

visible_send : (large : Bool) → is_visible (send_word large) ≡ true
visible_send false = refl
visible_send true = refl

-- ---- a line

no_feed_in : (bytes : List ℕ) → Lacks 10 bytes → HasNoFeed bytes
no_feed_in bytes h = λ k d within is.
    true≢false (sym (ap (λ (n : ℕ). n == 10) is) ∙ h k d within)

seen_line : (line word : List ℕ) (words : List (List ℕ)) → words_of line ≡ word ∷ words
    → is_visible word ≡ true → AreVisible words → HasNoFeed line
seen_line line word words is first rest =
    no_feed_in line (subst (Lacks 10)
    (ap (join_with_byte 32) (sym is) ∙ join_with_byte-slice_split 32 line)
    (join_lacks word words first rest))

-- a line that asks a port for something has no line feed
asks_no_feed : (request : PortRequest) (line : List ℕ) → AsksRequest request (words_of line)
    → HasNoFeed line
asks_no_feed (Got chars) line h =
    seen_line line (codes "got") h.0 h.1 refl
    (subst AreVisible (sym h.2.1) (visible_chars chars h.2.0))
asks_no_feed (Turn count) line h =
    seen_line line (codes "turn") h.0 h.1 refl
    (subst AreVisible (sym h.2.2) (visible_number count h.2.1, tt))
asks_no_feed TimeOut line h = seen_line line (codes "timeout") [] h refl tt
asks_no_feed (Send packet) line h =
    seen_line line (send_word h.0) h.1 h.2 (visible_send h.0) (visible_packet h.0 h.1 packet h.3)
asks_no_feed Take line h = seen_line line (codes "take") [] h refl tt
asks_no_feed State line h = seen_line line (codes "state") [] h refl tt
asks_no_feed Reset line h = seen_line line (codes "reset") [] h refl tt
asks_no_feed (Clock chars) line h =
    seen_line line (codes "clock") h.0 h.1 refl
    (subst AreVisible (sym h.2.1) (visible_chars chars h.2.0))

-- a word, and characters after it
spaced_join : (word : List ℕ) (chars : List Char)
    → word ++ spaced_chars chars ≡ join_with_byte 32 (word ∷ map char_text_of chars)
spaced_join word [] = append-nil word
spaced_join word (c ∷ chars) = ap (λ t. word ++ 32 ∷ t) (spaced_join (char_text_of c) chars)

got_asks : (chars : List Char) → HaveBytes chars
    → AsksRequest (Got chars) (words_of (codes "got" ++ spaced_chars chars))
got_asks chars h = (
  map char_text_of chars,
  ap words_of (spaced_join (codes "got") chars)
      ∙ split_join (codes "got") (map char_text_of chars) refl (visible_chars chars h),
  (h, refl),
)

line_asks : (line : List ℕ) (request : PortRequest) → AsksRequest request (words_of line)
    → AsksRequest request (words_of (stimulus_line line request))
line_asks line (Got chars) h = got_asks chars h.2.0
line_asks line (Turn count) h = h
line_asks line TimeOut h = h
line_asks line (Send packet) h = h
line_asks line Take h = h
line_asks line State h = h
line_asks line Reset h = h
line_asks line (Clock chars) h = h

pub stimulus_asks : (line : List ℕ) (request : PortRequest) → ReadsStimulus line (Ok request)
    → AsksRequest request (words_of (stimulus_line line request))
stimulus_asks line request (inl wire) =
    subst (λ r. AsksRequest r (words_of (stimulus_line line r))) (sym wire.2)
    (got_asks (item_chars wire.0) (item_have wire.0 (words_of line) wire.1))
stimulus_asks line request (inr asks) = line_asks line request asks.1

pub stimulus_no_feed : (line : List ℕ) (request : PortRequest) → ReadsStimulus line (Ok request)
    → HasNoFeed (stimulus_line line request)
stimulus_no_feed line request h =
    asks_no_feed request (stimulus_line line request) (stimulus_asks line request h)

-- a line that asks for this is read as nothing else
reads_asked : (line : List ℕ) (request : PortRequest) (asked : Result PortRequest RequestRefusal)
    → AsksRequest request (words_of line) → ReadsLine line asked → asked ≡ Ok request
reads_asked line request (Ok other) asks reads =
    ap (λ r. Ok r) (request_once other request (words_of line) reads asks)
reads_asked line request (Err refusal) asks reads = absurd (reads.0 request asks)

pub stimulus_reads_once : (line : List ℕ) (request : PortRequest)
    (asked : Result PortRequest RequestRefusal) → ReadsStimulus line (Ok request)
    → ReadsLine (stimulus_line line request) asked → asked ≡ Ok request
stimulus_reads_once line request asked h reads =
    reads_asked (stimulus_line line request) request asked (stimulus_asks line request h) reads
