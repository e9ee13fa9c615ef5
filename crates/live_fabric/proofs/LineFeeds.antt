-- No line of a trace has a line feed in its text.
use Rattle.std.proofs.Common.{◌≡◌, ℕ, ◌/◌, ◌%◌, ◌==◌, ◌<◌, ◌≤◌, inl, inr, ◌&&◌, zero, suc, Bool, true, false, not, List, [], ◌∷◌, ◌++◌, codes, cond, map, length, refl, sym, ap, ◌∙◌, subst, arith}
use Rattle.std.specs.Fmt.{decimal, digit_glyph, digits_onto}
use Rattle.std.proofs.DigitsParse.{digits_onto-nil}
use Rattle.std.specs.List.{join_with_byte}
use Rattle.std.proofs.lemmas.Bool.{cases_lt}
use Rattle.std.proofs.lemmas.Bool.Decides.{nat_tests}
use Rattle.std.proofs.lemmas.List.{get_or_past}
use Rattle.std.proofs.lemmas.List.Elements.{All-head, All-tail}
use Rattle.rio_chars.specs.CharText.{char_text_of, spaced_chars}
use Rattle.rio_chars.specs.HexText.{hex_digit, hex_of}
use Rattle.rio_chars.specs.declared.chars.Char.{Char}
use Rattle.rio_chars.specs.declared.chars.Char.TheVariants.{Data, Special, Invalid}
use Rattle.link_model.specs.declared.event.Event.{Event}
use Rattle.link_model.specs.declared.event.Event.TheVariants.{Ctl, Pkt, Bad}
use Rattle.fabric_script.specs.Forms.{keyword_of}
use Rattle.fabric_script.specs.Known.{Known, IsOrderly, nothing, known_after}
use Rattle.fabric_script.specs.Lines.{form_of, values_of, new_name, line_text}
use Rattle.fabric_script.specs.Names.{is_name, name_of}
use Rattle.fabric_script.specs.Scripts.{PassesFrom, ScriptPasses}
use Rattle.fabric_script.specs.Texts.{value_text, port_text, hex_text, digits_text}
use Rattle.fabric_script.specs.declared.known.Mode.TheVariants as Mode
use Rattle.fabric_script.specs.declared.lines.Line.{Line}
use Rattle.fabric_script.specs.declared.lines.Line.TheVariants.{Endpoint, Switch, Link, Buffers, Route, Default, Lock, Large, Send, Read, Write, Pump, Deliver, Alter, Insert, Erase, Timeout, Settle, Move as Moves, Collect, Run, Send16, Read16, Write16, Credits}
use Rattle.fabric_script.specs.declared.lines.Numbered.{Numbered}
use Rattle.fabric_script.specs.declared.ports.PortRef.{PortRef}
use Rattle.fabric_script.proofs.Joins.{visible_keyword, visible_lacks}
use Rattle.fabric_script.proofs.KnownLaws.{nothing-orderly, orderly-after}
use Rattle.fabric_script.proofs.Points.{Lacks, and_parts, high_name, lacks_low}
use Rattle.fabric_model.specs.Steps.{Hold, Free, Take, Leave, Move, Drop, Answer, Step, Linked, AtNode, ByDevice}
use Rattle.trace_lines.specs.Lines.{Full, Empty, Short, Early, NoStep, Sign, Sent, Got, Fired, TraceLine, Begun, Stepped, Signed, Lacked, Ended, Undetected}
use Rattle.trace_lines.specs.Text.{event_text, trace_line_text}

-- whether no byte is a line feed
abbrev pub feedless : List ℕ → Bool
feedless [] = true
feedless (byte ∷ bytes) = not (byte == 10) && feedless bytes

abbrev pub Feedless : List ℕ → Type 0
Feedless bytes = feedless bytes ≡ true

both : (a b : Bool) → a ≡ true → b ≡ true → a && b ≡ true
both a b is_a is_b = ap (λ x. x && b) is_a ∙ is_b

append : (a b : List ℕ) → Feedless a → Feedless b → Feedless (a ++ b)
append [] b one two = two
append (byte ∷ a) b one two =
    let parts = and_parts (not (byte == 10)) (feedless a) one in
    both (not (byte == 10)) (feedless (a ++ b)) parts.0 (append a b parts.1 two)

of_lacks : (bytes : List ℕ) → Lacks 10 bytes → Feedless bytes
of_lacks [] lacks = refl
of_lacks (byte ∷ bytes) lacks =
    both (not (byte == 10)) (feedless bytes) (ap not (All-head (λ b. (b == 10) ≡ false) byte bytes
    lacks)) (of_lacks bytes (All-tail (λ b. (b == 10) ≡ false) byte bytes lacks))

-- ---- numbers, bytes and characters

high : (c : ℕ) → 48 ≤ c → not (c == 10) ≡ true
high c h = grind (arith, nat_tests)

hex_one : (n : ℕ) → not (hex_digit n == 10) ≡ true
hex_one n = grind (arith, nat_tests)

hex : (bytes : List ℕ) → Feedless (hex_of bytes)
hex [] = refl
hex (b ∷ bytes) = both _ _ (hex_one (b / 16)) (both _ _ (hex_one (b % 16)) (hex bytes))

data_text : (bytes : List ℕ) → Feedless (hex_text bytes)
data_text [] = refl
data_text (b ∷ bytes) = hex (b ∷ bytes)

in_digits : (count n : ℕ) → Feedless (digits_text count n)
in_digits zero n = refl
in_digits (suc count) n = append (digits_text count (n / 16)) (hex_digit (n % 16) ∷ [])
    (in_digits count (n / 16)) (both _ true (hex_one (n % 16)) refl)

glyph : (n : ℕ) → not (digit_glyph false n == 10) ≡ true
glyph n = grind (arith, nat_tests)

onto : (count n : ℕ) (behind : List ℕ) → Feedless behind
    → Feedless (digits_onto count 10 false n behind)
onto zero n behind is = is
onto (suc count) n behind is =
    let more = both _ (feedless behind) (glyph (n % 10)) is in
    either ((n / 10) == 0) (digit_glyph false (n % 10) ∷ behind) (digits_onto count 10 false
    (n / 10) (digit_glyph false (n % 10) ∷ behind)) more (onto count (n / 10) (digit_glyph false
    (n % 10) ∷ behind) more)
  where
    either : (b : Bool) (xs ys : List ℕ) → Feedless xs → Feedless ys → Feedless (cond b xs ys)
    either true xs ys one two = one
    either false xs ys one two = two

number : (n : ℕ) → Feedless (decimal n)
number n = subst Feedless (digits_onto-nil 10 false n) (onto 64 n [] refl)

char_text : (c : Char) → Feedless (char_text_of c)
char_text (Data byte) = hex (byte ∷ [])
char_text (Special byte) = hex (byte ∷ [])
char_text Invalid = refl

char_texts : (chars : List Char) → Feedless (spaced_chars chars)
char_texts [] = refl
char_texts (c ∷ chars) = append (char_text_of c) (spaced_chars chars) (char_text c)
    (char_texts chars)

-- ---- names

-- no name has a line feed
abbrev pub AreFeedless : List (List ℕ) → Type 0
AreFeedless names = (n : ℕ) → Feedless (name_of names n)

port : (names : List (List ℕ)) (p : PortRef) → AreFeedless names → Feedless (port_text names p)
port names p named = append (name_of names p.node ++ codes ".") (decimal p.port)
    (append (name_of names p.node) (codes ".") (named p.node) refl) (number p.port)

named_end : (known : Known) (names : List (List ℕ)) (script : List Numbered) → IsOrderly known
    → PassesFrom known names script → (n : ℕ) → n < length names → is_name (name_of names n) ≡ true
named_end known names [] orderly passes n within = subst (λ l. n < length l
    → is_name (name_of l n) ≡ true) passes (orderly.named n) within
named_end known names (line ∷ script) orderly passes n within =
    let new = new_name names line.line in
    named_end (known_after known new line.line) names script (orderly-after known new line.line
    orderly passes.0) passes.2 n within

pub names_feedless : (names : List (List ℕ)) (script : List Numbered) → ScriptPasses names script
    → AreFeedless names
names_feedless names script passes n = elim (cases_lt n (length names)) [
  | inl within ↦ of_lacks (name_of names n) (lacks_low 10 (name_of names n) (omega arith)
      (high_name (name_of names n) (named_end nothing names script (nothing-orderly Mode.Script)
      passes n within)))
  | inr past ↦ subst Feedless (sym (get_or_past names n [] past)) refl
]

-- ---- the lines of a script

abbrev AllFeedless : List (List ℕ) → Type 0
AllFeedless [] = Unit {0}
AllFeedless (word ∷ words) = Feedless word × AllFeedless words

joined : (word : List ℕ) (words : List (List ℕ)) → Feedless word → AllFeedless words
    → Feedless (join_with_byte 32 (word ∷ words))
joined word [] own others = own
joined word (next ∷ words) own others = append word (32 ∷ join_with_byte 32 (next ∷ words)) own
    (joined next words others.0 others.1)

keyword : (line : Line) → Feedless (keyword_of (form_of line))
keyword line = of_lacks (keyword_of (form_of line)) (visible_lacks 10 (keyword_of (form_of line))
    (omega arith) (visible_keyword (form_of line)))

values : (names : List (List ℕ)) → AreFeedless names → (line : Line)
    → AllFeedless (map (value_text names) (values_of (new_name names line) line))
values names named (Endpoint name id) = (named name, (number id, tt))
values names named (Switch name ports) = (named name, (number ports, tt))
values names named (Link a b) = (port names a named, (port names b named, tt))
values names named (Buffers p n) = (port names p named, (number n, tt))
values names named (Route node id p) = (named node, (number id, (number p, tt)))
values names named (Default node p) = (named node, (number p, tt))
values names named (Lock node id) = (named node, (number id, tt))
values names named (Large node id) = (named node, (number id, tt))
values names named (Credits p) = (port names p named, tt)
values names named (Send node prio ftype dest bytes) =
    (named node, (number prio, (number ftype, (number dest, (data_text bytes, tt)))))
values names named (Read node prio dest hop tid offset) =
    (named node, (number prio, (number dest, (number hop, (number tid, (in_digits 6 offset, tt))))))
values names named (Write node prio dest hop tid offset word) = (
  named node,
  (
    number prio,
    (
      number dest,
      (
        number hop,
        (
          number tid,
          (
            in_digits 6 offset,
            (in_digits 8 word, tt),
          ),
        ),
      ),
    ),
  ),
)
values names named (Send16 node prio ftype dest bytes) =
    (named node, (number prio, (number ftype, (number dest, (data_text bytes, tt)))))
values names named (Read16 node prio dest hop tid offset) =
    (named node, (number prio, (number dest, (number hop, (number tid, (in_digits 6 offset, tt))))))
values names named (Write16 node prio dest hop tid offset word) = (
  named node,
  (
    number prio,
    (
      number dest,
      (
        number hop,
        (
          number tid,
          (
            in_digits 6 offset,
            (in_digits 8 word, tt),
          ),
        ),
      ),
    ),
  ),
)
values names named (Pump p n) = (port names p named, (number n, tt))
values names named (Deliver p n) = (port names p named, (number n, tt))
values names named (Alter p place ch) = (port names p named, (number place, (char_text ch, tt)))
values names named (Insert p place ch) = (port names p named, (number place, (char_text ch, tt)))
values names named (Erase p place n) = (port names p named, (number place, (number n, tt)))
values names named (Timeout p) = (port names p named, tt)
values names named (Settle p) = (port names p named, tt)
values names named (Moves node) = (named node, tt)
values names named (Collect node) = (named node, tt)
values names named (Run n) = (number n, tt)

script_line : (names : List (List ℕ)) → AreFeedless names → (line : Line)
    → Feedless (line_text names line)
script_line names named line = joined (keyword_of (form_of line)) (map (value_text names)
    (values_of (new_name names line) line)) (keyword line) (values names named line)

-- ---- the lines of a trace

three : (a b c d : List ℕ) → Feedless a → Feedless b → Feedless c → Feedless d
    → Feedless (a ++ b ++ c ++ d)
three a b c d is_a is_b is_c is_d = append (a ++ b ++ c) d (append (a ++ b) c (append a b is_a is_b)
    is_c) is_d

five : (a b c d e f : List ℕ) → Feedless a → Feedless b → Feedless c → Feedless d → Feedless e
    → Feedless f → Feedless (a ++ b ++ c ++ d ++ e ++ f)
five a b c d e f is_a is_b is_c is_d is_e is_f = append (a ++ b ++ c ++ d ++ e) f
    (append (a ++ b ++ c ++ d) e (three a b c d is_a is_b is_c is_d) is_e) is_f

step : (names : List (List ℕ)) → AreFeedless names → (s : Step)
    → Feedless (trace_line_text names (Stepped s))
step names named (Linked (Hold q packet)) = three (codes "hold ") (port_text names q) (codes " ")
    (hex_of packet) refl (port names q named) refl (hex packet)
step names named (Linked (Free p packet)) = three (codes "free ") (port_text names p) (codes " ")
    (hex_of packet) refl (port names p named) refl (hex packet)
step names named (AtNode (Take n packet)) = three (codes "take ") (name_of names n) (codes " ")
    (hex_of packet) refl (named n) refl (hex packet)
step names named (AtNode (Leave n packet)) = three (codes "leave ") (name_of names n) (codes " ")
    (hex_of packet) refl (named n) refl (hex packet)
step names named (ByDevice (Move p q packet)) = five (codes "move ") (port_text names p) (codes " ")
    (port_text names q) (codes " ") (hex_of packet) refl (port names p named) refl (port names q
    named) refl (hex packet)
step names named (ByDevice (Drop p packet)) = three (codes "drop ") (port_text names p) (codes " ")
    (hex_of packet) refl (port names p named) refl (hex packet)
step names named (ByDevice (Answer p packet response)) = five (codes "answer ") (port_text names p)
    (codes " ") (hex_of packet) (codes " ") (hex_of response) refl (port names p named) refl
    (hex packet) refl (hex response)

sign : (names : List (List ℕ)) → AreFeedless names → (s : Sign)
    → Feedless (trace_line_text names (Signed s))
sign names named (Sent p chars) = append (codes "sent " ++ port_text names p) (spaced_chars chars)
    (append (codes "sent ") (port_text names p) refl (port names p named)) (char_texts chars)
sign names named (Got q chars) = append (codes "got " ++ port_text names q) (spaced_chars chars)
    (append (codes "got ") (port_text names q) refl (port names q named)) (char_texts chars)
sign names named (Fired p) = append (codes "fire ") (port_text names p) refl (port names p named)

event : (e : Event) → Feedless (event_text e)
event (Ctl s) =
    let first = three (codes "symbol ") (decimal s.s0) (codes " ") (decimal s.p0) refl (number s.s0)
    refl (number s.p0) in
    let front = codes "symbol " ++ decimal s.s0 ++ codes " " ++ decimal s.p0 in
    let most = five front (codes " ") (decimal s.p1) (codes " ") (decimal s.s1) (codes " ") first
    refl (number s.p1) refl (number s.s1) refl in
    append (front ++ codes " " ++ decimal s.p1 ++ codes " " ++ decimal s.s1 ++ codes " ")
    (decimal s.cmd) most (number s.cmd)
event (Pkt ack packet) = three (codes "packet ") (decimal ack) (codes " ") (hex_of packet) refl
    (number ack) refl (hex packet)
event (Bad cause) = refl

pub trace_line : (names : List (List ℕ)) → AreFeedless names → (line : TraceLine)
    → Feedless (trace_line_text names line)
trace_line names named (Begun line) = append (codes "> ") (line_text names line) refl (script_line
    names named line)
trace_line names named (Stepped s) = step names named s
trace_line names named (Signed s) = sign names named s
trace_line names named (Lacked Full) = refl
trace_line names named (Lacked Empty) = refl
trace_line names named (Lacked Short) = refl
trace_line names named (Lacked Early) = refl
trace_line names named (Lacked NoStep) = refl
trace_line names named Ended = refl
trace_line names named (Undetected n q e) =
    five (codes "undetected ") (decimal n) (codes " ") (port_text names q) (codes " ")
    (event_text e) refl (number n) refl (port names q named) refl (event e)
