-- What counts in the answers of a device that is judged with tolerance.
use Rattle.std.specs.Prelude.{◌≡◌, ℕ, ◌==◌, ◌⊎◌, if◌then◌else◌, List, [], ◌∷◌, ◌++◌, codes}
use Rattle.std.specs.List.{flat_map}
use Rattle.rio_chars.specs.declared.chars.Char.{Char}
use Rattle.link_model.specs.Places.{Place}
use Rattle.link_model.specs.Prelude.{place_after, said}
use Rattle.link_model.specs.declared.event.Event.{Event}
use Rattle.link_model.specs.declared.event.Event.TheVariants.{Ctl, Pkt, Bad}
use Rattle.fabric_script.specs.Lines.{words_of}
use Rattle.live_lines.specs.Lines.{with_feed}
use Rattle.port_lines.specs.Requests.{SpellsGot}
use Rattle.conform_lines.specs.declared.counting.Counted.{Counted}
use Rattle.conform_lines.specs.declared.counting.Counted.TheVariants.{Tells, Asks, Carries, Damages}

-- What the first half of a symbol tells. A status, 4, does not count, and of no other does the
-- second parameter: the free buffers, the cause of a refusal, or the port status.
abbrev pub counted_told : ℕ → ℕ → List Counted
counted_told s0 p0 = if s0 == 4 then [] else Tells s0 p0 ∷ []

-- What the second half asks. The start, 0, and the end, 2, count as the packet between them, and 7
-- says nothing.
abbrev pub counted_asked : ℕ → ℕ → List Counted
counted_asked s1 cmd =
    if s1 == 0 then [] else (if s1 == 2 then [] else (if s1 == 7 then [] else Asks s1 cmd ∷ []))

-- what counts of an event: a row for each
abbrev pub counted_event : Event → List Counted
counted_event (Ctl symbol) =
    counted_told symbol.s0 symbol.p0 ++ counted_asked symbol.s1 symbol.cmd
counted_event (Pkt ack packet) = Carries ack packet ∷ []
counted_event (Bad cause) = Damages ∷ []

-- what lines of an answer come to for a reader, and where it stands then
pub record AnswerCounts : Type 0 where
  pub sent : List Counted
  pub other : List ℕ
  pub place : Place

-- of no line
abbrev pub counts_none : Place → AnswerCounts
counts_none from = record { sent = []; other = []; place = from }

-- of these characters: idles say nothing
abbrev pub counts_chars : Place → List Char → AnswerCounts
counts_chars from chars = record {
  sent = flat_map counted_event (said from chars);
  other = [];
  place = place_after from chars;
}

-- of a line that is told as it is
abbrev pub counts_line : Place → List ℕ → AnswerCounts
counts_line from line = record { sent = []; other = with_feed line; place = from }

-- one after another
abbrev pub counts_then : AnswerCounts → AnswerCounts → AnswerCounts
counts_then first last = record {
  sent = first.sent ++ last.sent;
  other = first.other ++ last.other;
  place = last.place;
}

-- the line sends these characters
abbrev pub SendsChars : List ℕ → List Char → Type 0
SendsChars line chars = (behind : List (List ℕ)) × (words_of line ≡ codes "sent" ∷ behind)
    × SpellsGot behind chars

-- a line
abbrev pub LineComesTo : Place → List ℕ → AnswerCounts → Type 0
LineComesTo from line counts =
    ((chars : List Char) × SendsChars line chars × (counts ≡ counts_chars from chars))
    ⊎ (((chars : List Char) → ¬ SendsChars line chars) × (counts ≡ counts_line from line))

-- lines, one after another
abbrev pub LinesComeTo : Place → List (List ℕ) → AnswerCounts → Type 0
LinesComeTo from [] counts = counts ≡ counts_none from
LinesComeTo from (line ∷ lines) counts = (first : AnswerCounts) × (rest : AnswerCounts)
    × LineComesTo from line first × LinesComeTo first.place lines rest
    × (counts ≡ counts_then first rest)
