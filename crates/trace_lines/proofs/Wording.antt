-- The text of a trace line is its words, joined by single spaces.
use Rattle.std.proofs.Common.{◌≡◌, ℕ, List, [], ◌∷◌, ◌++◌, map, codes, refl, sym, ap, ◌∙◌, append_assoc}
use Rattle.std.specs.List.{join_with_byte}
use Rattle.std.specs.Fmt.{decimal}
use Rattle.std.proofs.lemmas.List.{append-nil}
use Rattle.std.proofs.lemmas.List.Splits.{join_with_byte-slice_split}
use Rattle.rio_chars.specs.CharText.{char_text_of, spaced_chars}
use Rattle.rio_chars.specs.declared.chars.Char.{Char}
use Rattle.rio_chars.specs.HexText.{hex_of}
use Rattle.link_model.specs.declared.event.Event.{Event}
use Rattle.link_model.specs.declared.event.Event.TheVariants.{Ctl, Pkt, Bad}
use Rattle.fabric_script.specs.Lines.{words_of}
use Rattle.fabric_script.specs.Names.{name_of}
use Rattle.fabric_script.specs.Texts.{port_text}
use Rattle.fabric_model.specs.Steps.{Hold, Free, Take, Leave, Move, Drop, Answer, Step, Linked, AtNode, ByDevice}
use Rattle.trace_lines.specs.Lines.{Full, Empty, Short, Early, NoStep, Sign, Sent, Got, Fired, TraceLine, Begun, Stepped, Signed, Lacked, Ended, Undetected}
use Rattle.trace_lines.specs.Text.{event_text, trace_line_text}
use Rattle.trace_lines.specs.Words.{event_words, trace_words}

-- characters, each behind a space, are words behind a word
chars_join : (word : List ℕ) (chars : List Char) → word ++ spaced_chars chars ≡ join_with_byte 32
    (word ∷ map char_text_of chars)
chars_join word [] = append-nil word
chars_join word (c ∷ chars) = ap (λ (l : List ℕ). word ++ (32 ∷ l))
    (chars_join (char_text_of c) chars)

glue : (k w v : List ℕ) → k ++ w ++ (32 ∷ []) ++ v ≡ k ++ (w ++ 32 ∷ v)
glue k w v = append_assoc (k ++ w) (32 ∷ []) v ∙ append_assoc k w (32 ∷ v)

glue_more : (k w v u : List ℕ) → k ++ w ++ (32 ∷ []) ++ v ++ (32 ∷ []) ++ u ≡ k ++
    (w ++ 32 ∷ (v ++ 32 ∷ u))
glue_more k w v u = append_assoc (k ++ w ++ (32 ∷ []) ++ v) (32 ∷ []) u ∙ append_assoc
    (k ++ w ++ (32 ∷ [])) v (32 ∷ u) ∙ glue k w (v ++ 32 ∷ u)

glue_five : (k a b c d e : List ℕ) → k ++ a ++ (32 ∷ []) ++ b ++ (32 ∷ []) ++ c ++ (32 ∷ []) ++ d
    ++ (32 ∷ []) ++ e ≡ k ++ (a ++ 32 ∷ (b ++ 32 ∷ (c ++ 32 ∷ (d ++ 32 ∷ e))))
glue_five k a b c d e =
    ap (λ (l : List ℕ). l ++ (32 ∷ []) ++ e) (ap (λ (l : List ℕ). l ++ (32 ∷ []) ++ d)
    (glue_more k a b c))
    ∙ append_assoc (k ++ (a ++ 32 ∷ (b ++ 32 ∷ c)) ++ (32 ∷ []) ++ d) (32 ∷ []) e
    ∙ append_assoc (k ++ (a ++ 32 ∷ (b ++ 32 ∷ c)) ++ (32 ∷ [])) d (32 ∷ e)
    ∙ glue k (a ++ 32 ∷ (b ++ 32 ∷ c)) (d ++ 32 ∷ e)
    ∙ ap (λ (l : List ℕ). k ++ l) (append_assoc a (32 ∷ (b ++ 32 ∷ c)) (32 ∷ (d ++ 32 ∷ e)) ∙ ap
    (λ (l : List ℕ). a ++ 32 ∷ l) (append_assoc b (32 ∷ c) (32 ∷ (d ++ 32 ∷ e))))

step_join : (names : List (List ℕ)) (step : Step) → trace_line_text names (Stepped step)
    ≡ join_with_byte 32 (trace_words names (Stepped step))
step_join names (Linked (Hold q packet)) = glue (codes "hold ") (port_text names q) (hex_of packet)
step_join names (Linked (Free p packet)) = glue (codes "free ") (port_text names p) (hex_of packet)
step_join names (AtNode (Take n packet)) = glue (codes "take ") (name_of names n) (hex_of packet)
step_join names (AtNode (Leave n packet)) = glue (codes "leave ") (name_of names n) (hex_of packet)
step_join names (ByDevice (Move p q packet)) = glue_more (codes "move ") (port_text names p)
    (port_text names q) (hex_of packet)
step_join names (ByDevice (Drop p packet)) = glue (codes "drop ") (port_text names p)
    (hex_of packet)
step_join names (ByDevice (Answer p packet response)) = glue_more (codes "answer ")
    (port_text names p) (hex_of packet) (hex_of response)

sign_join : (names : List (List ℕ)) (sign : Sign) → trace_line_text names (Signed sign)
    ≡ join_with_byte 32 (trace_words names (Signed sign))
sign_join names (Sent p chars) = append_assoc (codes "sent ") (port_text names p)
    (spaced_chars chars) ∙ ap (λ (l : List ℕ). codes "sent " ++ l)
    (chars_join (port_text names p) chars)
sign_join names (Got q chars) = append_assoc (codes "got ") (port_text names q)
    (spaced_chars chars) ∙ ap (λ (l : List ℕ). codes "got " ++ l)
    (chars_join (port_text names q) chars)
sign_join names (Fired p) = refl

event_join : (front : List ℕ) (e : Event) → front ++ (32 ∷ []) ++ event_text e ≡ front ++ 32
    ∷ join_with_byte 32 (event_words e)
event_join front (Ctl symbol) =
    append_assoc front (32 ∷ []) (event_text (Ctl symbol))
    ∙ ap (λ (l : List ℕ). front ++ 32 ∷ l) (glue_five (codes "symbol ") (decimal symbol.s0)
    (decimal symbol.p0) (decimal symbol.p1) (decimal symbol.s1) (decimal symbol.cmd))
event_join front (Pkt ack packet) = append_assoc front (32 ∷ []) (event_text (Pkt ack packet)) ∙ ap
    (λ (l : List ℕ). front ++ 32 ∷ l) (glue (codes "packet ") (decimal ack) (hex_of packet))
event_join front (Bad cause) = append_assoc front (32 ∷ []) []

undetected_join : (k w v rest : List ℕ) → k ++ w ++ (32 ∷ []) ++ v ++ 32 ∷ rest ≡ k ++
    (w ++ 32 ∷ (v ++ 32 ∷ rest))
undetected_join k w v rest = append_assoc (k ++ w ++ (32 ∷ [])) v (32 ∷ rest) ∙ glue k w
    (v ++ 32 ∷ rest)

words_join : (k w v : List ℕ) (e : Event) → k ++ (w ++ 32 ∷
    (v ++ 32 ∷ join_with_byte 32 (event_words e))) ≡ k ++ join_with_byte 32 (w ∷ v ∷ event_words e)
words_join k w v (Ctl symbol) = refl
words_join k w v (Pkt ack packet) = refl
words_join k w v (Bad cause) = refl

pub text_join : (names : List (List ℕ)) (line : TraceLine) → trace_line_text names line
    ≡ join_with_byte 32 (trace_words names line)
text_join names (Begun line) = refl
text_join names (Stepped step) = step_join names step
text_join names (Signed sign) = sign_join names sign
text_join names (Lacked Full) = refl
text_join names (Lacked Empty) = refl
text_join names (Lacked Short) = refl
text_join names (Lacked Early) = refl
text_join names (Lacked NoStep) = refl
text_join names Ended = refl
text_join names (Undetected number q e) =
    event_join (codes "undetected " ++ decimal number ++ codes " " ++ port_text names q) e
    ∙ undetected_join (codes "undetected ") (decimal number) (port_text names q)
    (join_with_byte 32 (event_words e))
    ∙ words_join (codes "undetected ") (decimal number) (port_text names q) e

-- a text with the words of a line is the text of the line
pub words_text : (names : List (List ℕ)) (text : List ℕ) (line : TraceLine) → words_of text
    ≡ trace_words names line → text ≡ trace_line_text names line
words_text names text line is = sym (join_with_byte-slice_split 32 text) ∙ ap
    (join_with_byte 32) is ∙ sym (text_join names line)
