-- A line that fits is spelled by its text.
use Rattle.std.proofs.Common.{◌≡◌, ℕ, ◌-◌, ◌<◌, ◌≤◌, Bool, true, false, [], ◌∷◌, refl, sym, ap, ◌∙◌, subst, arith}
use Rattle.std.specs.List.{join_with_byte}
use Rattle.std.specs.Fmt.{decimal}
use Rattle.link_model.specs.declared.event.Event.{Event}
use Rattle.link_model.specs.declared.event.Event.TheVariants.{Ctl, Pkt, Bad}
use Rattle.fabric_script.specs.declared.fields.Field.TheVariants.{Port, Number, Hex}
use Rattle.fabric_script.specs.Forms.{fields_of}
use Rattle.fabric_script.specs.declared.values.Value.TheVariants.{Port as PortValue, Counted, Bytes}
use Rattle.fabric_script.specs.Lines.{new_name, words_of, form_of, values_of as script_values}
use Rattle.fabric_script.specs.Known.{Known, IsOrderly}
use Rattle.fabric_script.proofs.LineLaws.{small_fields}
use Rattle.fabric_script.proofs.Joins.{is_visible, AreVisible, visible_values, visible_keyword, split_join}
use Rattle.trace_lines.proofs.Wording.{text_join}
use Rattle.trace_lines.specs.Text.{trace_line_text}
use Rattle.fabric_model.specs.Steps.{Hold, Free, Take, Leave, Move, Drop, Answer, Linked, AtNode, ByDevice}
use Rattle.trace_lines.specs.Lines.{Full, Empty, Short, Early, NoStep, Sent, Got, Fired, TraceLine, Begun, Stepped, Signed, Lacked, Ended, Undetected}
use Rattle.trace_lines.specs.declared.keywords.Keyword.{Keyword}
use Rattle.trace_lines.specs.declared.keywords.Keyword.TheVariants as K
use Rattle.trace_lines.specs.Keywords.{keyword_text, trace_keyword_of, words_behind}
use Rattle.trace_lines.specs.Words.{event_words, trace_words, LineFits, EventFits}
use Rattle.trace_lines.proofs.LineKeywords.{head_is}
use Rattle.trace_lines.proofs.PlainLines.{is_plain, hex_is, visible_plain}

visible_event : (known : Known) (e : Event) → IsOrderly known → EventFits e → AreVisible
    (event_words e)
visible_event known (Ctl symbol) orderly f = (
  refl,
  visible_values known (Number 0 7 ∷ Number 0 31 ∷ Number 0 31 ∷ Number 0 7 ∷ Number 0 7 ∷ [])
      (Counted symbol.s0 ∷ Counted symbol.p0 ∷ Counted symbol.p1 ∷ Counted symbol.s1
      ∷ Counted symbol.cmd ∷ []) orderly
      (omega arith, (omega arith, (omega arith, (omega arith, (omega arith, tt))))) (
        (omega arith, below symbol.s0 8 f.s0),
        (
          (omega arith, below symbol.p0 32 f.p0),
          (
            (omega arith, below symbol.p1 32 f.p1),
            (
              (omega arith, below symbol.s1 8 f.s1),
              ((omega arith, below symbol.cmd 8 f.cmd), tt),
            ),
          ),
        ),
      ),
)
  where
    below : (n most : ℕ) → n < most → n ≤ most - 1
    below n most less = omega (arith, less)
visible_event known (Pkt ack packet) orderly f =
    let less = f.0 in (
      refl,
      subst (λ w. AreVisible (decimal ack ∷ w ∷ [])) (hex_is packet f.1)
          (visible_values known (Number 0 31 ∷ Hex ∷ []) (Counted ack ∷ Bytes packet ∷ []) orderly
          (omega arith, (tt, tt)) ((omega arith, omega (arith, less)), (f.1.range, tt))),
    )
visible_event known (Bad cause) orderly f = absurd f

visible_keywords : (keyword : Keyword) → is_visible (keyword_text keyword) ≡ true
visible_keywords K.Begun = refl
visible_keywords K.Hold = refl
visible_keywords K.Free = refl
visible_keywords K.Take = refl
visible_keywords K.Leave = refl
visible_keywords K.Move = refl
visible_keywords K.Drop = refl
visible_keywords K.Answer = refl
visible_keywords K.Sent = refl
visible_keywords K.Got = refl
visible_keywords K.Fire = refl
visible_keywords K.Full = refl
visible_keywords K.Empty = refl
visible_keywords K.Short = refl
visible_keywords K.Early = refl
visible_keywords K.NoStep = refl
visible_keywords K.End = refl
visible_keywords K.Undetected = refl

visible_rest : (known : Known) (line : TraceLine) → IsOrderly known → LineFits known line
    → AreVisible (words_behind known.names line)
visible_rest known line orderly f = by_kind (is_plain (trace_keyword_of line)) refl
  where
    odd_rest : (line : TraceLine) → is_plain (trace_keyword_of line) ≡ false → LineFits known line
        → AreVisible (words_behind known.names line)
    odd_rest (Begun l) odd f = (
      visible_keyword (form_of l),
      visible_values known
          (fields_of (form_of l)) (script_values (new_name known.names l) l) orderly
          (small_fields (form_of l)) f.0.fit,
    )
    odd_rest (Undetected number q e) odd f =
        let less = f.0 in
        let front = visible_values known (Number 0 4294967295 ∷ Port ∷ [])
        (Counted number ∷ PortValue q ∷ []) orderly (omega arith, (tt, tt))
        ((omega arith, omega (arith, less)), (f.1, tt)) in
        (front.0, (front.1.0, visible_event known e orderly f.2))
    odd_rest (Stepped (Linked (Hold q packet))) odd f = absurd cc
    odd_rest (Stepped (Linked (Free q packet))) odd f = absurd cc
    odd_rest (Stepped (AtNode (Take n packet))) odd f = absurd cc
    odd_rest (Stepped (AtNode (Leave n packet))) odd f = absurd cc
    odd_rest (Stepped (ByDevice (Move p q packet))) odd f = absurd cc
    odd_rest (Stepped (ByDevice (Drop p packet))) odd f = absurd cc
    odd_rest (Stepped (ByDevice (Answer p packet response))) odd f = absurd cc
    odd_rest (Signed (Sent p chars)) odd f = absurd cc
    odd_rest (Signed (Got p chars)) odd f = absurd cc
    odd_rest (Signed (Fired p)) odd f = absurd cc
    odd_rest (Lacked Full) odd f = absurd cc
    odd_rest (Lacked Empty) odd f = absurd cc
    odd_rest (Lacked Short) odd f = absurd cc
    odd_rest (Lacked Early) odd f = absurd cc
    odd_rest (Lacked NoStep) odd f = absurd cc
    odd_rest Ended odd f = absurd cc

    by_kind : (plain : Bool) → is_plain (trace_keyword_of line) ≡ plain → AreVisible
        (words_behind known.names line)
    by_kind true plain = visible_plain known line orderly f plain
    by_kind false odd = odd_rest line odd f

pub printed_words : (known : Known) (line : TraceLine) → IsOrderly known → LineFits known line
    → words_of (trace_line_text known.names line) ≡ trace_words known.names line
printed_words known line orderly f =
    ap words_of (text_join known.names line ∙ ap (join_with_byte 32) (head_is known.names line))
    ∙ split_join (keyword_text (trace_keyword_of line)) (words_behind known.names line)
    (visible_keywords (trace_keyword_of line)) (visible_rest known line orderly f)
    ∙ sym (head_is known.names line)
