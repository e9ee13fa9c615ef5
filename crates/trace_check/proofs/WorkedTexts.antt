-- The texts of a trace of one packet without event lines are lawful.
use Rattle.std.proofs.Common.{◌≡◌, ◌<◌, ℕ, codes, take, drop, List, [], ◌∷◌, ◌++◌, refl, sym, ap, ◌∙◌, subst, arith, inl, append-nil, append_assoc}
use Rattle.std.specs.List.{AllByRecursion}
use Rattle.std.specs.Fmt.{digits}
use Rattle.std.proofs.lemmas.List.Elements.{All-from_recursion}
use Rattle.crc_division.specs.Bits.{bits, number}
use Rattle.crc_division.specs.Division.{division_steps, complemented}
use Rattle.rio_chars.specs.CharText.{HasByte}
use Rattle.rio_symbols.specs.Crc5.{field_bits, crc5_message, crc5_of, crc5_value}
use Rattle.rio_symbols.specs.Spelling.{spelled, is_spelling}
use Rattle.link_model.specs.Events.{packet_event}
use Rattle.link_model.specs.Places.{run, place_after}
use Rattle.link_model.specs.ReadingKinds.{kind}
use Rattle.rio_packets.specs.Carries.{carried}
use Rattle.rio_packets.specs.Register.{fed, shifted, shifted_times}
use Rattle.rio_packets.specs.LinkForm.{Passes}
use Rattle.fabric_model.specs.Network.{Network}
use Rattle.fabric_model.specs.Laws.Examples.{packet}
use Rattle.fabric_model.specs.Steps.{AtNode, Take}
use Rattle.fabric_trace.specs.Examples.{near, far, packet_chars, accepted_chars}
use Rattle.trace_lines.specs.Lines.{Got, Sent, Signed, Stepped, TraceLine}
use Rattle.trace_check.specs.Checks.{LinePasses}
use Rattle.trace_check.specs.Lawful.{SpellAll, IsLawful, SpellFront, PassFront, as_behind, Fault}
use Rattle.trace_check.specs.Lawful.{fault_number, OffWire, NoSuchStep, NotCome, NotAllowed}
use Rattle.trace_check.specs.Lawful.{NotThere, Spares, SpellsNone, HitsLine, IsUnlawful}
use Rattle.trace_lines.specs.Words.{SpellsLine}
use Rattle.trace_check.specs.Examples.{packet_network, packet_known, packet_on_wire, packet_texts}
use Rattle.trace_check.specs.Examples.{packet_lines, sent_line, got_line, hold_line, free_line}
use Rattle.trace_check.specs.Examples.{leave_line, freed_early}
use Rattle.trace_check.proofs.StopLaws.{front_more, spell_all}

-- none of the reasons hits a line of these, behind others
PassFrom : Network → List TraceLine → List TraceLine → Type 0
PassFrom net done [] = Unit {0}
PassFrom net done (line ∷ lines) =
    LinePasses net done line lines × PassFrom net (done ++ line ∷ []) lines

pass_all : (net : Network) (done lines : List TraceLine) → PassFrom net done lines
    → (before : List TraceLine) (line : TraceLine) (behind : List TraceLine)
    → lines ≡ before ++ line ∷ behind → LinePasses net (done ++ before) line behind
unfolding PassFrom
pass_all net done [] pass [] line behind is = absurd cc
pass_all net done [] pass (b ∷ before) line behind is = absurd cc
pass_all net done (l ∷ lines) pass [] line behind is =
    let one : l ≡ line = cc in
    let rest : lines ≡ behind = cc in
    subst (λ (x : List TraceLine). LinePasses net x line behind) (sym (append-nil done))
    (subst (λ (x : TraceLine). LinePasses net done x behind) one
    (subst (λ (x : List TraceLine). LinePasses net done l x) rest pass.0))
pass_all net done (l ∷ lines) pass (b ∷ before) line behind is =
    let one : l ≡ b = cc in
    let rest : lines ≡ before ++ line ∷ behind = cc in
    subst (λ (x : TraceLine). LinePasses net (done ++ x ∷ before) line behind) one
    (subst (λ (x : List TraceLine). LinePasses net x line behind)
    (append_assoc done (l ∷ []) before)
    (pass_all net (done ++ l ∷ []) lines pass.1 before line behind rest))

-- one more
next : {A B : Type 0} → A → B → A × B
next first second = (first, second)

below : AllByRecursion (λ b. b < 256) packet
below =
    next (omega arith) (next (omega arith) (next (omega arith) (next (omega arith) (
    next (omega arith) (next (omega arith) (next (omega arith) (next (omega arith) (
    next (omega arith) (next (omega arith) (next (omega arith) (next (omega arith) tt)))))))))))

passes : Passes packet
unfolding packet_event carried fed shifted shifted_times
passes = record {
  fours = refl;
  least = omega arith;
  most = omega arith;
  range = All-from_recursion (λ b. b < 256) packet below;
  origin = omega arith;
  ends = refl;
  middle = λ far. omega (arith, far);
}

-- the first five lines pass, whatever passes behind them
five_then : (rest : List TraceLine) → PassFrom packet_network (take 5 packet_lines) rest
    → PassFrom packet_network [] (take 5 packet_lines ++ rest)
unfolding run place_after kind spelled is_spelling crc5_value crc5_of crc5_message field_bits bits
    number division_steps complemented packet_event carried fed shifted shifted_times
    PassFrom
five_then rest pass = (
  record { wires = tt; step = (refl, passes, refl); came = tt; allowed = tt; sends = tt },
  (
    record {
      wires = tt;
      step = tt;
      came = tt;
      allowed = tt;
      sends = (tt, (inl (0, omega arith, refl), (tt, tt)));
    },
    (
      record {
        wires = record { peer = near; behind = []; peer_is = refl; stands = refl };
        step = tt;
        came = tt;
        allowed = tt;
        sends = tt;
      },
      (
        record {
          wires = tt;
          step = (near, refl, refl, refl);
          came = refl;
          allowed = tt;
          sends = tt;
        },
        (
          record { wires = tt; step = tt; came = tt; allowed = tt; sends = (tt, tt) },
          pass,
        ),
      ),
    ),
  ),
)

-- three more pass
eight_then : (rest : List TraceLine) → PassFrom packet_network (take 8 packet_lines) rest
    → PassFrom packet_network [] (take 8 packet_lines ++ rest)
unfolding run place_after kind spelled is_spelling crc5_value crc5_of crc5_message field_bits bits
    number division_steps complemented packet_event carried fed shifted shifted_times
    PassFrom
eight_then rest pass = five_then (drop 5 (take 8 packet_lines) ++ rest) (
  record {
    wires = record { peer = far; behind = []; peer_is = refl; stands = refl };
    step = tt;
    came = tt;
    allowed = tt;
    sends = tt;
  },
  (
    record { wires = tt; step = refl; came = tt; allowed = omega arith; sends = tt },
    (
      record { wires = tt; step = (refl, refl, refl); came = tt; allowed = tt; sends = tt },
      pass,
    ),
  ),
)

lines_pass : PassFrom packet_network [] packet_lines
unfolding PassFrom
lines_pass = eight_then (drop 8 packet_lines)
    (record { wires = tt; step = tt; came = tt; allowed = tt; sends = tt }, tt)

packet_bytes : AllByRecursion HasByte packet_chars
packet_bytes =
    next (omega arith) (next (omega arith) (next (omega arith) (next (omega arith) (
    next (omega arith) (next (omega arith) (next (omega arith) (next (omega arith) (
    next (omega arith) (next (omega arith) (next (omega arith) (next (omega arith) (
    next (omega arith) (next (omega arith) (next (omega arith) (next (omega arith) (
    next (omega arith) (next (omega arith) (next (omega arith) (next (omega arith) (
    tt))))))))))))))))))))

accepted_bytes : AllByRecursion HasByte accepted_chars
accepted_bytes = (omega arith, (omega arith, (omega arith, (omega arith, tt))))

-- what each text spells
take_spells : SpellsLine packet_known (codes "take A 000f0201cafe0001a9bb0000")
    (Stepped (AtNode (Take 0 packet)))
unfolding digits
take_spells = record { words = refl; fits = (omega arith, passes) }

sent_spells : SpellsLine packet_known (codes "sent A.0" ++ packet_on_wire) sent_line
unfolding digits
sent_spells = record {
  words = refl;
  fits = (((omega arith, omega arith, omega arith), refl), (λ is. absurd (cc is)), packet_bytes);
}

got_spells : SpellsLine packet_known (codes "got B.0" ++ packet_on_wire) got_line
unfolding digits
got_spells = record {
  words = refl;
  fits = (((omega arith, omega arith, omega arith), refl), (λ is. absurd (cc is)), packet_bytes);
}

hold_spells : SpellsLine packet_known (codes "hold B.0 000f0201cafe0001a9bb0000") hold_line
unfolding digits
hold_spells =
    record { words = refl; fits = (((omega arith, omega arith, omega arith), refl), passes) }

accept_spells : SpellsLine packet_known (codes "sent B.0 k1c d00 dff d16")
    (Signed (Sent far accepted_chars))
unfolding digits
accept_spells = record {
  words = refl;
  fits = (((omega arith, omega arith, omega arith), refl), (λ is. absurd (cc is)), accepted_bytes);
}

accepted_spells : SpellsLine packet_known (codes "got A.0 k1c d00 dff d16")
    (Signed (Got near accepted_chars))
unfolding digits
accepted_spells = record {
  words = refl;
  fits = (((omega arith, omega arith, omega arith), refl), (λ is. absurd (cc is)), accepted_bytes);
}

free_spells : SpellsLine packet_known (codes "free A.0 000f0201cafe0001a9bb0000") free_line
unfolding digits
free_spells =
    record { words = refl; fits = (((omega arith, omega arith, omega arith), refl), passes) }

leave_spells : SpellsLine packet_known (codes "leave B 000f0201cafe0001a9bb0000") leave_line
unfolding digits
leave_spells = record { words = refl; fits = (omega arith, passes) }

-- the first five, and the three behind them

five_spell : SpellFront packet_known (take 5 packet_texts) (take 5 packet_lines)
five_spell =
    front_more (take 4 packet_texts) (take 4 packet_lines)
    (front_more (take 3 packet_texts) (take 3 packet_lines)
    (front_more (take 2 packet_texts) (take 2 packet_lines)
    (front_more (take 1 packet_texts) (take 1 packet_lines)
    (front_more [] [] refl take_spells refl)
    sent_spells refl) got_spells refl) hold_spells refl) accept_spells refl

eight_spell : SpellFront packet_known (take 8 packet_texts) (take 8 packet_lines)
eight_spell =
    front_more (take 7 packet_texts) (take 7 packet_lines)
    (front_more (take 6 packet_texts) (take 6 packet_lines)
    (front_more (take 5 packet_texts) (take 5 packet_lines) five_spell
    accepted_spells refl) free_spells refl) leave_spells refl

texts_spell : SpellAll packet_known packet_texts packet_lines
unfolding digits
texts_spell = spell_all (take 8 packet_texts) (take 8 packet_lines) eight_spell
    (record { words = refl; fits = tt }) refl

pub texts_lawful : IsLawful packet_known packet_network packet_texts 4
texts_lawful = record {
  lines = packet_lines;
  spelled = texts_spell;
  pass = pass_all packet_network [] packet_lines lines_pass;
  count = refl;
}

-- ---- where a reason hits

front_pass : (lines : List TraceLine) (texts : List (List ℕ)) → as_behind texts ≡ []
    → PassFrom packet_network [] lines → PassFront packet_network lines texts
front_pass lines texts none pass before line behind is =
    subst (λ (x : List TraceLine). LinePasses packet_network before line x)
    (sym (ap (λ (x : List TraceLine). behind ++ x) none ∙ append-nil behind))
    (pass_all packet_network [] lines pass before line behind is)

eight_pass : PassFrom packet_network [] (take 8 packet_lines)
unfolding PassFrom
eight_pass = eight_then [] tt

five_pass : PassFrom packet_network [] (take 5 packet_lines)
unfolding PassFrom
five_pass = five_then [] tt

pub no_end_unlawful : IsUnlawful packet_known packet_network (take 8 packet_texts) 8 21
no_end_unlawful = record {
  front = take 8 packet_texts;
  rest = [];
  lines = take 8 packet_lines;
  place = 0;
  split = refl;
  spelled = eight_spell;
  pass = front_pass (take 8 packet_lines) [] refl eight_pass;
  hits = SpellsNone tt;
  at = refl;
}

not_allowed : Spares packet_network (take 5 packet_lines) free_line [] NotAllowed → ⊥
unfolding run
not_allowed is = omega (arith, is)

not_before : (other : Fault) → fault_number other < 25
    → Spares packet_network (take 5 packet_lines) free_line [] other
not_before OffWire low = tt
not_before NoSuchStep low = refl
not_before NotCome low = tt
not_before NotAllowed low = omega (arith, low)
not_before NotThere low = omega (arith, low)

pub freed_early_unlawful : IsUnlawful packet_known packet_network freed_early 5 25
freed_early_unlawful = record {
  front = take 5 packet_texts;
  rest = codes "free A.0 000f0201cafe0001a9bb0000" ∷ codes "end" ∷ [];
  lines = take 5 packet_lines;
  place = 0;
  split = refl;
  spelled = five_spell;
  pass = front_pass (take 5 packet_lines)
      (codes "free A.0 000f0201cafe0001a9bb0000" ∷ codes "end" ∷ []) refl five_pass;
  hits = HitsLine free_line NotAllowed free_spells not_allowed not_before;
  at = refl;
}
