-- Lines in which a port gets, holds and frees nothing, and what they leave of it.
use Rattle.fabric_trace.proofs.Prelude.{◌≡◌, ◌==◌, Bool, true, false, List, [], ◌∷◌, map, Option, Some, None, refl, sym, ap, ◌∙◌, if◌then◌else◌, Char, RESTART_FROM_RETRY, LINK_REQUEST, Event, Ctl, Pkt, Bad, Outstanding, from_ack, timed_out, oldest_of, Side, A, Edit, Move, Held, Freed, sent_notes, move_note, PortRef, same_port, Hold, Free, Linked, AtNode, ByDevice, port_is, Sent, Got, Fired, TraceLine, Begun, Stepped, Signed, Lacked, Ended, Undetected, Half, half_of, Seen, with_half, peer_of, port_seen, edit_of, edited_by, event_leaves, sends, says, half_sent, fired_from, signed, seen_line, seen, port_at_side, lines_of}
use Rattle.link_model.specs.Output as out
use Rattle.link_watch.specs.declared.note.Note.TheVariants as Notes

-- ---- lines with no step at a link, in which no port gets anything

abbrev pub IsStill : TraceLine → Type 0
IsStill (Signed (Got q chars)) = ⊥
IsStill (Stepped (Linked step)) = ⊥
IsStill _ = Unit {0}

abbrev pub AreStill : List TraceLine → Type 0
AreStill [] = Unit {0}
AreStill (line ∷ lines) = IsStill line × AreStill lines

pub sent_still : (a b : PortRef) (side : Side) (chars : List Char)
    → AreStill (lines_of a b (sent_notes side chars))
sent_still a b side [] = tt
sent_still a b side (c ∷ chars) = (tt, tt)

pub fired_still : (a b : PortRef) (x : Bool)
    → AreStill (lines_of a b (if x then Notes.Fire A ∷ [] else []))
fired_still a b true = (tt, tt)
fired_still a b false = tt

-- ---- lines in which one port gets, holds and frees nothing

abbrev pub IsQuietLine : PortRef → TraceLine → Type 0
IsQuietLine c (Signed (Got q chars)) = same_port c q ≡ false
IsQuietLine c (Stepped (Linked (Hold q packet))) = same_port c q ≡ false
IsQuietLine c (Stepped (Linked (Free q packet))) = same_port c q ≡ false
IsQuietLine c _ = Unit {0}

abbrev pub IsQuiet : PortRef → List TraceLine → Type 0
IsQuiet c [] = Unit {0}
IsQuiet c (line ∷ lines) = IsQuietLine c line × IsQuiet c lines

still_line : (c : PortRef) (line : TraceLine) → IsStill line → IsQuietLine c line
still_line c (Begun line) still = tt
still_line c (Stepped (Linked step)) still = absurd still
still_line c (Stepped (AtNode step)) still = tt
still_line c (Stepped (ByDevice step)) still = tt
still_line c (Signed (Sent p chars)) still = tt
still_line c (Signed (Got q chars)) still = absurd still
still_line c (Signed (Fired p)) still = tt
still_line c (Lacked lack) still = tt
still_line c Ended still = tt
still_line c (Undetected number q e) still = tt

pub still_quiet : (c : PortRef) (lines : List TraceLine) → AreStill lines → IsQuiet c lines
still_quiet c [] still = tt
still_quiet c (line ∷ lines) still = (still_line c line still.0, still_quiet c lines still.1)

-- the moves of another port
pub moves_quiet : (c a b : PortRef) (side : Side) (moves : List Move)
    → same_port c (port_at_side a b side) ≡ false
    → IsQuiet c (lines_of a b (map (move_note side) moves))
moves_quiet c a b side [] apart = tt
moves_quiet c a b side (Held packet ∷ moves) apart =
    (apart, moves_quiet c a b side moves apart)
moves_quiet c a b side (Freed packet ∷ moves) apart =
    (apart, moves_quiet c a b side moves apart)

-- ---- what still lines leave of a port

-- Its framer, its input and its oldest packet stay; and where no event is found that was not sent,
-- none was found before.
pub record StaysSo (s t : Seen) (c : PortRef) : Type 0 where
  pub place : (t.halves c).place ≡ (s.halves c).place
  pub input : (t.halves c).input ≡ (s.halves c).input
  pub oldest : oldest_of (t.halves c).output ≡ oldest_of (s.halves c).output
  pub found : t.undetected ≡ None → s.undetected ≡ None

pub same_so : (s t : Seen) (c : PortRef) → t.halves c ≡ s.halves c
    → (t.undetected ≡ None → s.undetected ≡ None) → StaysSo s t c
same_so s t c half found = record {
  place = ap (λ (x : Half). x.place) half;
  input = ap (λ (x : Half). x.input) half;
  oldest = ap (λ (x : Half). oldest_of x.output) half;
  found = found;
}

stays_on : {s t u : Seen} {c : PortRef} → StaysSo s t c → StaysSo t u c → StaysSo s u c
stays_on one two = record {
  place = two.place ∙ one.place;
  input = two.input ∙ one.input;
  oldest = two.oldest ∙ one.oldest;
  found = λ none. one.found (two.found none);
}

-- what the half of one port keeps, that of each port keeps
half_fact : {X : Type 0} (f : Half → X) (halves : PortRef → Half) (p : PortRef) (half : Half)
    (c : PortRef) → f half ≡ f (halves p) → f (with_half halves p half c) ≡ f (halves c)
half_fact f halves p half c same =
    elim (same_port c p) as (λ x. same_port c p ≡ x
    → f (if x then half else halves c) ≡ f (halves c)) [
      | true ↦ λ (is : same_port c p ≡ true). same ∙ ap (λ x. f (halves x)) (sym (port_is c p is))
      | false ↦ λ (is : same_port c p ≡ false). refl
    ] refl

restart_oldest : (b : Bool) (w : Outstanding)
    → oldest_of (if b then out.Output.Ok (from_ack w.oldest w.report) else out.Output.RetryStopped
    w) ≡ w.oldest
restart_oldest true w = refl
restart_oldest false w = refl

request_oldest : (b asked : Bool) (w : Outstanding)
    → oldest_of (if b then out.Output.ErrorStopped true w else out.Output.ErrorStopped asked w)
    ≡ w.oldest
request_oldest true asked w = refl
request_oldest false asked w = refl

event_oldest : (e : Event) (output : out.Output)
    → oldest_of (event_leaves e output) ≡ oldest_of output
event_oldest (Ctl symbol) (out.Output.Ok w) = refl
event_oldest (Ctl symbol) (out.Output.RetryStopped w) =
    restart_oldest (symbol.s1 == RESTART_FROM_RETRY) w
event_oldest (Ctl symbol) (out.Output.ErrorStopped asked w) =
    request_oldest (symbol.s1 == LINK_REQUEST) asked w
event_oldest (Ctl symbol) out.Output.Failed = refl
event_oldest (Pkt ack packet) (out.Output.Ok w) = refl
event_oldest (Pkt ack packet) (out.Output.RetryStopped w) = refl
event_oldest (Pkt ack packet) (out.Output.ErrorStopped asked w) = refl
event_oldest (Pkt ack packet) out.Output.Failed = refl
event_oldest (Bad cause) output = refl

sends_oldest : (es : List Event) (output : out.Output)
    → oldest_of (sends output es) ≡ oldest_of output
unfolding sends
sends_oldest [] output = refl
sends_oldest (e ∷ es) output = sends_oldest es (event_leaves e output) ∙ event_oldest e output

time_out_oldest : (output : out.Output) → oldest_of (out.times_out output) ≡ oldest_of output
time_out_oldest (out.Output.Ok w) = refl
time_out_oldest (out.Output.RetryStopped w) = refl
time_out_oldest (out.Output.ErrorStopped asked w) = refl
time_out_oldest out.Output.Failed = refl

edited_stays : (s : Seen) (edit : Option (PortRef × Edit)) (c : PortRef)
    → StaysSo s (edited_by s edit) c
edited_stays s None c = same_so s s c refl (λ none. none)
edited_stays s (Some edit) c = same_so s (edited_by s (Some edit)) c refl (λ none. none)

fired_stays : (s : Seen) (peer : Option PortRef) (p c : PortRef)
    → StaysSo s (fired_from s peer p) c
fired_stays s None p c = same_so s s c refl (λ none. none)
fired_stays s (Some q) p c =
    let half = half_of (timed_out (port_seen s p)) in
    record {
      place = half_fact (λ (x : Half). x.place) s.halves p half c refl;
      input = half_fact (λ (x : Half). x.input) s.halves p half c refl;
      oldest = half_fact (λ (x : Half). oldest_of x.output) s.halves p half c
          (time_out_oldest (s.halves p).output);
      found = λ none. none;
    }

sent_stays : (s : Seen) (p : PortRef) (chars : List Char) (c : PortRef)
    → StaysSo s (signed s (Sent p chars)) c
sent_stays s p chars c =
    let half = half_sent (s.halves p) chars in
    record {
      place = half_fact (λ (x : Half). x.place) s.halves p half c refl;
      input = half_fact (λ (x : Half). x.input) s.halves p half c refl;
      oldest = half_fact (λ (x : Half). oldest_of x.output) s.halves p half c
          (sends_oldest (says chars) (s.halves p).output);
      found = λ none. none;
    }

one_stays : (s : Seen) (line : TraceLine) (c : PortRef) → IsStill line
    → StaysSo s (seen_line s line) c
one_stays s (Begun line) c still = edited_stays s (edit_of line) c
one_stays s (Stepped (Linked step)) c still = absurd still
one_stays s (Stepped (AtNode step)) c still = same_so s _ c refl (λ none. none)
one_stays s (Stepped (ByDevice step)) c still = same_so s _ c refl (λ none. none)
one_stays s (Signed (Sent p chars)) c still = sent_stays s p chars c
one_stays s (Signed (Got q chars)) c still = absurd still
one_stays s (Signed (Fired p)) c still = fired_stays s (peer_of s p) p c
one_stays s (Lacked lack) c still = same_so s s c refl (λ none. none)
one_stays s Ended c still = same_so s s c refl (λ none. none)
one_stays s (Undetected number q e) c still = same_so s s c refl (λ none. none)

pub still_stays : (s : Seen) (lines : List TraceLine) (c : PortRef) → AreStill lines
    → StaysSo s (seen s lines) c
still_stays s [] c still = same_so s s c refl (λ none. none)
still_stays s (line ∷ lines) c still =
    stays_on (one_stays s line c still.0) (still_stays (seen_line s line) lines c still.1)
