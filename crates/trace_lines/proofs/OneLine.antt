-- A text spells one line at most.
use Rattle.std.proofs.Common.{◌≡◌, ℕ, ◌<◌, ◌≤◌, ◌^◌, Bool, true, false, List, [], drop, Some, get_or, refl, sym, ap, ◌∙◌, subst, arith}
use Rattle.std.specs.Fmt.{decimal}
use Rattle.std.proofs.lemmas.Fmt.{decimal_injective}
use Rattle.rio_chars.specs.HexText.{hex_of}
use Rattle.link_model.specs.declared.event.Event.{Event}
use Rattle.link_model.specs.declared.event.Event.TheVariants.{Ctl, Pkt, Bad}
use Rattle.fabric_script.specs.declared.ports.PortRef.{PortRef}
use Rattle.fabric_script.specs.declared.lines.Line.{Line}
use Rattle.fabric_script.specs.declared.fields.Field.TheVariants.{Port}
use Rattle.fabric_script.specs.declared.values.Value.{Value}
use Rattle.fabric_script.specs.declared.values.Value.TheVariants.{Port as PortValue}
use Rattle.fabric_script.specs.Texts.{port_text}
use Rattle.fabric_script.specs.Lines.{new_name}
use Rattle.fabric_script.specs.Known.{Known, IsOrderly}
use Rattle.fabric_script.proofs.HexWords.{hex_text-injective}
use Rattle.fabric_script.proofs.LineLaws.{same_said, same_value}
use Rattle.fabric_model.specs.Steps.{Hold, Free, Take, Leave, Move, Drop, Answer, Linked, AtNode, ByDevice}
use Rattle.trace_lines.specs.Lines.{Full, Empty, Short, Early, NoStep, Sent, Got, Fired, TraceLine, Begun, Stepped, Signed, Lacked, Ended, Undetected}
use Rattle.trace_lines.specs.Keywords.{trace_keyword_of, words_behind}
use Rattle.trace_lines.specs.Words.{event_words, trace_words, LineFits, EventFits}
use Rattle.trace_lines.proofs.LineKeywords.{same_keyword, begun_of, undetected_of}
use Rattle.trace_lines.proofs.PlainLines.{is_plain, port_in, hex_is, one_plain}

-- ---- event lines

one_begun : (known : Known) (a b : Line) → IsOrderly known → LineFits known (Begun a)
    → LineFits known (Begun b) → words_behind known.names (Begun a) ≡ words_behind known.names
    (Begun b) → a ≡ b
one_begun known a b orderly f g rest = same_said known a b (new_name known.names a)
    (new_name known.names b) orderly f.0 g.0 rest

-- ---- the event that was not sent

pub one_number : (m n most : ℕ) → m < most → n < most → most ≤ 2 ^ 32 → decimal m ≡ decimal n → m
    ≡ n
one_number m n most f g low e = decimal_injective m n (omega (arith, f, low))
    (omega (arith, g, low)) e

one_event : (e f : Event) → EventFits e → EventFits f → event_words e ≡ event_words f → e ≡ f
one_event (Ctl s) (Ctl t) u v words =
    let s0 = one_number s.s0 t.s0 8 u.s0 v.s0 (omega arith) cc in
    let p0 = one_number s.p0 t.p0 32 u.p0 v.p0 (omega arith) cc in
    let p1 = one_number s.p1 t.p1 32 u.p1 v.p1 (omega arith) cc in
    let s1 = one_number s.s1 t.s1 8 u.s1 v.s1 (omega arith) cc in
    let cmd = one_number s.cmd t.cmd 8 u.cmd v.cmd (omega arith) cc in
    λ i. Ctl (record { s0 = s0 i; p0 = p0 i; p1 = p1 i; s1 = s1 i; cmd = cmd i })
one_event (Pkt a p) (Pkt b q) u v words =
    let ack = one_number a b 32 u.0 v.0 (omega arith) cc in
    let bytes : hex_of p ≡ hex_of q = cc in
    let packet = hex_text-injective p q (hex_is p u.1 ∙ bytes ∙ sym (hex_is q v.1)) in
    λ i. Pkt (ack i) (packet i)
one_event (Ctl s) (Pkt b q) u v words = (let first : 115 ≡ 112 = ap
    (λ (l : List (List ℕ)). get_or (get_or l 0 []) 0 0) words in absurd (omega (arith, first)))
one_event (Pkt a p) (Ctl t) u v words = (let first : 112 ≡ 115 = ap
    (λ (l : List (List ℕ)). get_or (get_or l 0 []) 0 0) words in absurd (omega (arith, first)))
one_event (Bad cause) f u v words = absurd u
one_event (Ctl s) (Bad cause) u v words = absurd v
one_event (Pkt a p) (Bad cause) u v words = absurd v

one_undetected : (known : Known) (m n : ℕ) (q r : PortRef) (e f : Event) → IsOrderly known
    → LineFits known (Undetected m q e) → LineFits known (Undetected n r f)
    → words_behind known.names (Undetected m q e) ≡ words_behind known.names (Undetected n r f)
    → Undetected m q e ≡ Undetected n r f
one_undetected known m n q r e f orderly u v rest =
    let number : m ≡ n = one_number m n (2 ^ 32) u.0 v.0 (omega arith) cc in
    let named : port_text known.names q ≡ port_text known.names r = cc in
    let port : q ≡ r = ap (λ (x : Value). port_in (Some x))
    (same_value known Port (PortValue q) (PortValue r) orderly tt u.1 v.1 named) in
    let words : event_words e ≡ event_words f = cc in
    let event = one_event e f u.2 v.2 words in
    λ i. Undetected (number i) (port i) (event i)

-- ---- every line

pub one_line : (known : Known) (a b : TraceLine) → IsOrderly known → LineFits known a
    → LineFits known b → trace_words known.names a ≡ trace_words known.names b → a ≡ b
one_line known a b orderly f g is = by_kind (is_plain (trace_keyword_of a)) refl
  where
    alike : trace_keyword_of a ≡ trace_keyword_of b
    alike = same_keyword known.names a b is

    rest : words_behind known.names a ≡ words_behind known.names b
    rest = ap (λ (l : List (List ℕ)). drop 1 l) is

    other : (a : TraceLine) → is_plain (trace_keyword_of a) ≡ false → LineFits known a
        → trace_keyword_of a
        ≡ trace_keyword_of b → words_behind known.names a ≡ words_behind known.names b → a ≡ b
    other (Begun line) odd f alike rest =
        let there = begun_of b alike in
        let same = one_begun known line there.0 orderly f (subst (LineFits known) there.1 g)
        (rest ∙ ap (words_behind known.names) there.1) in
        ap (λ l. Begun l) same ∙ sym there.1
    other (Undetected m q e) odd f alike rest =
        let there = undetected_of b alike in
        one_undetected known m there.0 q there.1 e there.2 orderly f
        (subst (LineFits known) there.3 g) (rest ∙ ap (words_behind known.names) there.3)
        ∙ sym there.3
    other (Stepped (Linked (Hold q packet))) odd f alike rest = absurd cc
    other (Stepped (Linked (Free q packet))) odd f alike rest = absurd cc
    other (Stepped (AtNode (Take n packet))) odd f alike rest = absurd cc
    other (Stepped (AtNode (Leave n packet))) odd f alike rest = absurd cc
    other (Stepped (ByDevice (Move p q packet))) odd f alike rest = absurd cc
    other (Stepped (ByDevice (Drop p packet))) odd f alike rest = absurd cc
    other (Stepped (ByDevice (Answer p packet response))) odd f alike rest = absurd cc
    other (Signed (Sent p chars)) odd f alike rest = absurd cc
    other (Signed (Got p chars)) odd f alike rest = absurd cc
    other (Signed (Fired p)) odd f alike rest = absurd cc
    other (Lacked Full) odd f alike rest = absurd cc
    other (Lacked Empty) odd f alike rest = absurd cc
    other (Lacked Short) odd f alike rest = absurd cc
    other (Lacked Early) odd f alike rest = absurd cc
    other (Lacked NoStep) odd f alike rest = absurd cc
    other Ended odd f alike rest = absurd cc

    by_kind : (plain : Bool) → is_plain (trace_keyword_of a) ≡ plain → a ≡ b
    by_kind true plain = one_plain known a b orderly f g alike plain rest
    by_kind false odd = other a odd f alike rest
