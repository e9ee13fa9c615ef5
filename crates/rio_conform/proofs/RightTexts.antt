-- The answers of the tables are lines, of which none but the last is `ok`.
use Rattle.std.proofs.Common.{◌≡◌, ◌≢◌, ℕ, zero, suc, ◌<◌, ◌/◌, ◌%◌, ◌==◌, if◌then◌else◌, nat_le, nat_lt, Bool, true, false, Option, Some, None, List, [], ◌∷◌, ◌++◌, All, codes, length, length-append, refl, sym, ap, ◌∙◌, subst, append_assoc, append-nil, arith}
use Rattle.std.specs.List.{flat_map}
use Rattle.std.specs.Fmt.{decimal, digits, digits_onto, digit_glyph}
use Rattle.std.proofs.lemmas.Grind.{flat_map-append}
use Rattle.std.proofs.lemmas.List.Elements.{All-nil, All-cons, All-append}
use Rattle.std.proofs.lemmas.Bool.Decides.{nat_tests}
use Rattle.rio_chars.specs.HexText.{hex_digit, hex_of}
use Rattle.rio_chars.specs.CharText.{char_text_of, spaced_chars}
use Rattle.rio_chars.specs.declared.chars.Char.{Char}
use Rattle.rio_chars.specs.declared.chars.Char.TheVariants.{Data, Special, Invalid}
use Rattle.rio_symbols.specs.Fields.{Fields}
use Rattle.rio_packets.specs.Fields.{prio_of}
use Rattle.link_model.specs.Prelude.{symbol_chars_of}
use Rattle.link_buffers.specs.Prelude.{packet_count}
use Rattle.link_port.specs.Prelude.{PortState, Acted, prios_of, waiting_in, turns_to, turn_sends}
use Rattle.link_port.specs.Steps.{takes}
use Rattle.link_port.specs.Halves.{out_kind_of, in_kind_of}
use Rattle.link_port.specs.declared.kinds.OutKind.{OutKind}
use Rattle.link_port.specs.declared.kinds.OutKind.TheVariants as out
use Rattle.link_port.specs.declared.kinds.InKind.{InKind}
use Rattle.link_port.specs.declared.kinds.InKind.TheVariants as in_half
use Rattle.live_lines.specs.Lines.{HasNoFeed, with_feed}
use Rattle.port_lines.specs.Taking.{gives_at_once, gives_next}
use Rattle.port_lines.specs.Texts.{sent_text, packet_text, held_text, freed_text, reply_text, taken_text, packets_text, acted_text, fire_text, output_word, input_word, yes_or_no, state_text}
use Rattle.port_lines.specs.Clocks.{ClockedState, clocks, clocks_to, clock_fires, clock_text, given_text}
use Rattle.port_lines.specs.Answers.{PortAnswer, answers_chars, turns_on, answers_turns, answers_packet, answers_held, port_has_room, request_answer}
use Rattle.port_lines.specs.declared.requests.PortRequest.{PortRequest}
use Rattle.port_lines.specs.declared.requests.PortRequest.TheVariants.{Got, Turn, TimeOut, Send, Take, State, Reset, Clock}
use Rattle.rio_conform.proofs.FeedLaws.{is_high, high_append, no_feed_of}

-- This text is lines, of which none is `ok`.
pub record OtherLines (text : List ℕ) : Type 0 where
  pub lines : List (List ℕ)
  pub no_feeds : All (λ line. HasNoFeed line) lines
  pub none_ends : All (λ line. line ≢ codes "ok") lines
  pub text_is : text ≡ flat_map with_feed lines

others_none : OtherLines []
others_none = record {
  lines = [];
  no_feeds = All-nil (λ line. HasNoFeed line);
  none_ends = All-nil (λ line. line ≢ codes "ok");
  text_is = refl;
}

others_then : (a b : List ℕ) → OtherLines a → OtherLines b → OtherLines (a ++ b)
others_then a b h k = record {
  lines = h.lines ++ k.lines;
  no_feeds = All-append (λ line. HasNoFeed line) h.lines k.lines h.no_feeds k.no_feeds;
  none_ends = All-append (λ line. line ≢ codes "ok") h.lines k.lines h.none_ends k.none_ends;
  text_is =
      ap (λ l. l ++ b) h.text_is ∙ ap (λ l. flat_map with_feed h.lines ++ l) k.text_is
      ∙ sym (flat_map-append with_feed h.lines k.lines);
}

others_line : (line : List ℕ) → is_high line ≡ true → 2 < length line → OtherLines (with_feed line)
others_line line high long = record {
  lines = line ∷ [];
  no_feeds =
      All-cons (λ l. HasNoFeed l) line [] (no_feed_of line high) (All-nil (λ l. HasNoFeed l));
  none_ends =
      All-cons (λ l. l ≢ codes "ok") line [] longer (All-nil (λ l. l ≢ codes "ok"));
  text_is = sym (append-nil (with_feed line));
}
  where
    longer : line ≢ codes "ok"
    longer is = let same : length line ≡ 2 = ap length is in omega (arith, same, long)

-- a line of a word and what stands behind it, before others
others_front : (word tail rest : List ℕ) → is_high word ≡ true → is_high tail ≡ true
    → 2 < length word → OtherLines rest → OtherLines (word ++ (tail ++ 10 ∷ rest))
others_front word tail rest high_word high_tail long h =
    subst OtherLines
    (append_assoc (word ++ tail) (10 ∷ []) rest ∙ append_assoc word tail (10 ∷ rest))
    (others_then (with_feed (word ++ tail)) rest
    (others_line (word ++ tail) (high_append word tail high_word high_tail)
    (omega (arith, length-append word tail, long))) h)

others_word : (word tail : List ℕ) → is_high word ≡ true → is_high tail ≡ true
    → 2 < length word → OtherLines (word ++ (tail ++ 10 ∷ []))
others_word word tail high_word high_tail long =
    others_front word tail [] high_word high_tail long others_none

-- ---- bytes of words

high_hex_digit : (n : ℕ) → nat_le 11 (hex_digit n) ≡ true
high_hex_digit n = grind (arith, nat_tests)

high_hex : (bytes : List ℕ) → is_high (hex_of bytes) ≡ true
high_hex [] = refl
high_hex (b ∷ bytes) = rw (high_hex_digit (b / 16), high_hex_digit (b % 16), high_hex bytes)

high_char : (c : Char) → is_high (char_text_of c) ≡ true
high_char (Data byte) = high_hex (byte ∷ [])
high_char (Special byte) = high_hex (byte ∷ [])
high_char Invalid = refl

high_spaced : (chars : List Char) → is_high (spaced_chars chars) ≡ true
high_spaced [] = refl
high_spaced (c ∷ chars) =
    high_append (char_text_of c) (spaced_chars chars) (high_char c) (high_spaced chars)

high_glyph : (d : ℕ) → nat_le 11 (digit_glyph false d) ≡ true
high_glyph d = grind (arith, nat_tests)

high_either : (first : Bool) (one other : List ℕ) → is_high one ≡ true → is_high other ≡ true
    → is_high (if first then one else other) ≡ true
high_either true one other h k = h
high_either false one other h k = k

high_digits : (k n : ℕ) (acc : List ℕ) → is_high acc ≡ true
    → is_high (digits_onto k 10 false n acc) ≡ true
high_digits zero n acc h = h
high_digits (suc k) n acc h =
    let longer = digit_glyph false (n % 10) ∷ acc in
    let more : is_high longer ≡ true = rw (high_glyph (n % 10), h) in
    high_either (n / 10 == 0) longer (digits_onto k 10 false (n / 10) longer) more
    (high_digits k (n / 10) longer more)

high_decimal : (n : ℕ) → is_high (decimal n) ≡ true
unfolding digits
high_decimal n = high_digits 64 n [] refl

-- ---- what is told

others_packet : (word packet : List ℕ) → is_high word ≡ true → 2 < length word
    → OtherLines (packet_text word packet)
others_packet word packet high long =
    others_line (word ++ hex_of packet) (high_append word (hex_of packet) high (high_hex packet))
    (omega (arith, length-append word (hex_of packet), long))

others_sent : (chars : List Char) → OtherLines (sent_text chars)
others_sent chars =
    others_word (codes "sent") (spaced_chars chars) refl (high_spaced chars) (omega arith)

others_held : (held : Option (List ℕ)) → OtherLines (held_text held)
others_held None = others_none
others_held (Some packet) = others_packet (codes "hold ") packet refl (omega arith)

others_taken : (taken : Option (List ℕ)) → OtherLines (taken_text taken)
others_taken None = others_none
others_taken (Some packet) = others_packet (codes "taken ") packet refl (omega arith)

others_freed : (packets : List (List ℕ)) → OtherLines (freed_text packets)
others_freed [] = others_none
others_freed (packet ∷ packets) =
    others_then (packet_text (codes "free ") packet) (freed_text packets)
    (others_packet (codes "free ") packet refl (omega arith)) (others_freed packets)

others_reply : (reply : Option Fields) → OtherLines (reply_text reply)
others_reply None = others_none
others_reply (Some symbol) = others_sent (symbol_chars_of symbol)

others_packets : (at_once : Bool) (acted : Acted) → OtherLines (packets_text at_once acted)
others_packets at_once acted =
    let taken = (gives_at_once at_once acted).packet in
    others_then (held_text acted.held ++ taken_text taken) (freed_text acted.freed)
    (others_then (held_text acted.held) (taken_text taken) (others_held acted.held)
    (others_taken taken))
    (others_freed acted.freed)

others_acted : (at_once : Bool) (acted : Acted) → OtherLines (acted_text at_once acted)
others_acted at_once acted =
    others_then (packets_text at_once acted) (reply_text acted.reply)
    (others_packets at_once acted) (others_reply acted.reply)

others_chars : (at_once : Bool) (port : PortState) (chars : List Char)
    → OtherLines (answers_chars at_once port chars).text
unfolding answers_chars
others_chars at_once port [] = others_none
others_chars at_once port (c ∷ chars) =
    let next = (gives_at_once at_once (takes port c)).port in
    others_then (acted_text at_once (takes port c)) (answers_chars at_once next chars).text
    (others_acted at_once (takes port c)) (others_chars at_once next chars)

others_turn : (chars : List Char) (port : PortState) (rest : PortAnswer) → OtherLines rest.text
    → OtherLines (turns_on chars port rest).text
others_turn [] port rest h = others_none
others_turn (c ∷ chars) port rest h =
    others_then (sent_text (c ∷ chars)) rest.text (others_sent (c ∷ chars)) h

others_turns : (port : PortState) (count : ℕ) → OtherLines (answers_turns port count).text
unfolding answers_turns
others_turns port zero = others_none
others_turns port (suc count) =
    others_turn (turn_sends port).chars (turns_to port) (answers_turns (turns_to port) count)
    (others_turns (turns_to port) count)

others_queued : (room : Bool) (port : PortState) (packet : List ℕ)
    → OtherLines (answers_packet room port packet).text
others_queued true port packet = others_packet (codes "queued ") packet refl (omega arith)
others_queued false port packet = others_line (codes "full") refl (omega arith)

others_given : (port : PortState) (packet : Option (List ℕ))
    → OtherLines (answers_held port packet).text
others_given port None = others_line (codes "empty") refl (omega arith)
others_given port (Some packet) = others_taken (Some packet)

high_output : (kind : OutKind) → is_high (output_word kind) ≡ true
high_output out.Ok = refl
high_output out.RetryStopped = refl
high_output out.ErrorStopped = refl
high_output out.Failed = refl

high_input : (kind : InKind) → is_high (input_word kind) ≡ true
high_input in_half.Ok = refl
high_input in_half.RetryStopped = refl
high_input in_half.ErrorStopped = refl

high_yes : (yes : Bool) → is_high (yes_or_no yes) ≡ true
high_yes true = refl
high_yes false = refl

-- nine texts, one behind another
regroup : (a b c d e f g h i : List ℕ)
    → (((((((a ++ b) ++ c) ++ d) ++ e) ++ f) ++ g) ++ h) ++ i
    ≡ a ++ (b ++ (c ++ (d ++ (e ++ (f ++ (g ++ (h ++ i)))))))
regroup a b c d e f g h i =
    append_assoc ((((((a ++ b) ++ c) ++ d) ++ e) ++ f) ++ g) h i
    ∙ append_assoc (((((a ++ b) ++ c) ++ d) ++ e) ++ f) g (h ++ i)
    ∙ append_assoc ((((a ++ b) ++ c) ++ d) ++ e) f (g ++ (h ++ i))
    ∙ append_assoc (((a ++ b) ++ c) ++ d) e (f ++ (g ++ (h ++ i)))
    ∙ append_assoc ((a ++ b) ++ c) d (e ++ (f ++ (g ++ (h ++ i))))
    ∙ append_assoc (a ++ b) c (d ++ (e ++ (f ++ (g ++ (h ++ i)))))
    ∙ append_assoc a b (c ++ (d ++ (e ++ (f ++ (g ++ (h ++ i))))))

others_state : (port : PortState) → OtherLines (state_text port)
others_state port =
    let output = output_word (out_kind_of port.output) in
    let input = input_word (in_kind_of port.input) in
    let count = decimal (length (prios_of port.output)) in
    let waits = nat_lt 0 (packet_count (waiting_in port)) in
    let four = codes "waiting " ++ (yes_or_no waits ++ 10 ∷ []) in
    let three = codes "outstanding " ++ (count ++ 10 ∷ four) in
    let two = codes "input " ++ (input ++ 10 ∷ three) in
    subst OtherLines
    (sym (regroup (codes "output ") output (codes "\ninput ") input (codes "\noutstanding ") count
    (codes "\nwaiting ") (yes_or_no waits) (codes "\n")))
    (others_front (codes "output ") output two refl (high_output (out_kind_of port.output))
    (omega arith)
    (others_front (codes "input ") input three refl (high_input (in_kind_of port.input))
    (omega arith)
    (others_front (codes "outstanding ") count four refl
    (high_decimal (length (prios_of port.output))) (omega arith)
    (others_word (codes "waiting ") (yes_or_no waits) refl (high_yes waits) (omega arith)))))

others_fire : (fires : Bool) → OtherLines (fire_text fires)
others_fire false = others_none
others_fire true = others_line (codes "fire") refl (omega arith)

others_clocks : (at : ClockedState) (chars : List Char) → OtherLines (clocks at chars).text
unfolding clocks
others_clocks at [] = others_none
others_clocks at (c ∷ chars) =
    let at_once = at.settings.takes_at_once in
    others_then (clock_text at c) (clocks (clocks_to at c) chars).text
    (others_then (packets_text at_once (takes at.port c)) (fire_text (clock_fires at c))
    (others_packets at_once (takes at.port c)) (others_fire (clock_fires at c)))
    (others_clocks (clocks_to at c) chars)

-- before its last line, an answer of the tables is such lines
pub right_lines : (at : ClockedState) (request : PortRequest)
    → OtherLines (request_answer at request).text
right_lines at (Got chars) = others_chars at.settings.takes_at_once at.port chars
right_lines at (Turn count) = others_turns at.port count
right_lines at TimeOut = others_none
right_lines at (Send packet) =
    others_queued (port_has_room at.port (prio_of packet)) at.port packet
right_lines at Take = others_given (gives_next at.port).port (gives_next at.port).packet
right_lines at State = others_state at.port
right_lines at Reset = others_none
right_lines at (Clock chars) =
    let did = clocks at chars in
    others_then did.text (given_text did.given) (others_clocks at chars)
    (others_word (codes "given") (spaced_chars did.given) refl (high_spaced did.given)
    (omega arith))
