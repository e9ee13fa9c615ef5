use Rattle.std.proofs.Common.{◌≡◌, ℕ, Bool, true, false, List, [], ◌∷◌, ◌++◌, length, if◌then◌else◌, refl, ap, ◌∙◌, subst}
use Rattle.rio_symbols.specs.Fields.{Fields}
use Rattle.rio_packets.proofs.FormLaws.{Passes-from_form}
use Rattle.rio_packets.proofs.FieldLaws.{prio_of-link_form, ftype_of-link_form, tt_of-link_form, dest_of-link_form, source_of-link_form}
use Rattle.link_model.specs.Prelude.{symbol_chars_of, symbol_bytes}
use Rattle.link_model.specs.declared.event.Event.{Event}
use Rattle.link_model.specs.declared.event.Event.TheVariants.{Ctl}
use Rattle.link_model.specs.Reading.{Plain, placed, ends_packet, IsReading}
use Rattle.link_model.proofs.PlacesLaws.{reading_exists}
use Rattle.link_model.proofs.ReadingSpeltLaws.{run-symbol, bytes_with_ack-carry}
use Rattle.library_calls.specs.declared.told.PacketTold.{PacketTold}
use Rattle.library_calls.specs.Words.{id_or_zero}
use Rattle.library_calls.specs.Headers.{has_large_ids, header_body}
use Rattle.library_calls.proofs.laws.written_words_are_read.Goals as goal

four_of : (symbol : Fields) → length (symbol_chars_of symbol) ≡ 4
unfolding symbol_chars_of symbol_bytes
four_of symbol = refl

-- a symbol ends no packet where none is in progress
alone : (symbol : Fields) (ends : Bool)
    → placed 3 ((if ends then [] else []) ++ Ctl symbol ∷ []) ≡ (3, Ctl symbol) ∷ []
alone symbol true = refl
alone symbol false = refl

pub returns-clause-symbol : goal.returns-clause-symbol
returns-clause-symbol c = λ symbol fits. (
  four_of symbol,
  subst (λ (events : List (ℕ × Event)). IsReading (symbol_chars_of symbol) events)
      (run-symbol Plain 0 symbol tt fits ∙ alone symbol (ends_packet symbol.s1))
      (reading_exists (symbol_chars_of symbol)),
)

pub returns-clause-packet : goal.returns-clause-packet
returns-clause-packet c = λ header ack rest packet fits makes.
    bytes_with_ack-carry packet ack fits
    (Passes-from_form (header_body header rest) packet makes.1)

pub returns-clause-fields : goal.returns-clause-fields
returns-clause-fields c = λ header ack rest packet makes.
    let large = has_large_ids header in
    let prio = prio_of-link_form header.prio header.ftype large header.dest header.source rest
    packet makes.1 makes.0.prio makes.0.ftype in
    let ftype = ftype_of-link_form header.prio header.ftype large header.dest header.source rest
    packet makes.1 makes.0.prio makes.0.ftype in
    let tt_is = tt_of-link_form header.prio header.ftype large header.dest header.source rest
    packet makes.1 makes.0.prio makes.0.ftype in
    let dest = dest_of-link_form header.prio header.ftype large header.dest header.source rest
    packet makes.1 makes.0.prio makes.0.ftype in
    let source = source_of-link_form header.prio header.ftype large header.dest header.source rest
    packet makes.1 makes.0.prio makes.0.ftype in
    told_same ack prio tt_is ftype (ap id_or_zero source) (ap id_or_zero dest)
  where
    told_same : (ack : ℕ) {p p' t t' f f' s s' d d' : ℕ} → p ≡ p' → t ≡ t' → f ≡ f' → s ≡ s'
        → d ≡ d'
        → ◌≡◌ {A = PacketTold} (record {
          ack = ack;
          prio = p;
          tt = t;
          ftype = f;
          source = s;
          dest = d;
        }) (record { ack = ack; prio = p'; tt = t'; ftype = f'; source = s'; dest = d' })
    told_same ack hp ht hf hs hd = rw (hp, ht, hf, hs, hd) refl
