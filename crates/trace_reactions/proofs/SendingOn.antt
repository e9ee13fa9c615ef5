-- What a port sends, run of characters by run.
use Rattle.std.proofs.Common.{◌≡◌, ◌-◌, arith, length-append, ◌≤◌, ◌++◌, ℕ, List, [], ◌∷◌, Some, None, length, nat_lt, if◌then◌else◌, drop, slice_get, refl, sym, ap, ◌∙◌, append_assoc, append-nil}
use Rattle.std.proofs.lemmas.List.{append_cancel_left}
use Rattle.std.proofs.Math.Seq.{drop-append_seam}
use Rattle.rio_chars.specs.declared.chars.Char.{Char}
use Rattle.rio_packets.specs.Carries.{carried}
use Rattle.rio_packets.specs.declared.cause.Cause.TheVariants.{BadPacket, General}
use Rattle.link_model.specs.declared.event.Event.{Event}
use Rattle.link_model.specs.declared.event.Event.TheVariants.{Ctl, Pkt, Bad}
use Rattle.link_model.specs.Events.{packet_event, packet_or_cause}
use Rattle.link_model.specs.Fronts.{telling_front}
use Rattle.link_model.specs.Places.{AreGiven, Place, place_after}
use Rattle.link_model.specs.Said.{said}
use Rattle.link_model.proofs.FrontLaws.{front-given}
use Rattle.rio_framer.specs.declared.events.Told.{Told}
use Rattle.rio_framer.specs.Framing.{Framing}
use Rattle.rio_framer.specs.Giving.{told_of_events}
use Rattle.trace_reactions.specs.declared.port.WrongAnswer.{WrongAnswer}
use Rattle.trace_reactions.specs.declared.reactions.Reaction.{Reaction}
use Rattle.trace_reactions.specs.InputHalves.{InputKept}
use Rattle.trace_reactions.specs.PortsKept.{AreDue, IsWrongAnswer, PortKept, reaction_told, after_sending, reactions_sent}
use Rattle.trace_reactions.specs.Reactions.{reaction_of, reactions_in, reactions_of}
use Rattle.trace_reactions.proofs.ReadingOn.{events_on, place_none, place_on, said_none, said_on, TakesRun}

reactions-append : (xs ys : List Event)
    → reactions_in (xs ++ ys) ≡ reactions_in xs ++ reactions_in ys
reactions-append [] ys = refl
reactions-append (Ctl symbol ∷ xs) ys =
    ap (λ (l : List Reaction). reactions_of (reaction_of symbol) ++ l) (reactions-append xs ys)
    ∙ sym (append_assoc (reactions_of (reaction_of symbol)) (reactions_in xs) (reactions_in ys))
reactions-append (Pkt ack packet ∷ xs) ys = reactions-append xs ys
reactions-append (Bad cause ∷ xs) ys = reactions-append xs ys

-- a packet's bytes are no reaction
no_reaction : (bytes : List ℕ) (events : List Event)
    → reactions_in (packet_event bytes ∷ events) ≡ reactions_in events
unfolding packet_event
no_reaction bytes events = elim (carried bytes) as
    (λ found. reactions_in (packet_or_cause found
    (if nat_lt (length bytes) 8 then General else BadPacket) ∷ events) ≡ reactions_in events) [
      | Some found ↦ refl
      | None ↦ refl
    ]

-- what is told has the reactions of the events
reactions-told : (events : List Event) → AreGiven events
    → reactions_in events ≡ reactions_of (reaction_told (told_of_events events))
reactions-told [] given = refl
reactions-told (Ctl symbol ∷ []) given = append-nil (reactions_of (reaction_of symbol))
reactions-told (Pkt ack packet ∷ []) given = absurd given
reactions-told (Bad cause ∷ []) given = refl
reactions-told (e ∷ x ∷ []) (bytes, symbol, first, is, either) =
    rw (first, is) (no_reaction bytes (Ctl symbol ∷ [])
    ∙ append-nil (reactions_of (reaction_of symbol)))
reactions-told (e ∷ x ∷ y ∷ events) given = absurd given

-- the reactions of characters are the one that a run of them told, and those of the others
pub sent_on : (from : Place) (chars left : List Char) (told : Told) (framer : Framing)
    → TakesRun from chars left told framer
    → reactions_in (said from chars)
    ≡ reactions_of (reaction_told told) ++ reactions_in (said framer.place left)
sent_on from chars left told framer run =
    let gives = (telling_front from chars).step.gives in
    let one : reactions_in gives ≡ reactions_of (reaction_told told)
    = reactions-told gives (front-given from chars)
    ∙ ap (λ told. reactions_of (reaction_told told)) (sym run.told_is) in
    ap reactions_in (said_on run)
    ∙ (λ i. reactions_in (events_on run i ++ said framer.place left))
    ∙ reactions-append gives (said framer.place left)
    ∙ ap (λ (l : List Reaction). l ++ reactions_in (said framer.place left)) one

-- ---- a port

-- Of characters that a port sends these are left. The reactions of the others were the first that
-- were due, and are due no more.
pub record HasSent (port : PortKept) (chars : List Char) (now : PortKept) (left : List Char) :
    Type 0 where
  pub front : List Reaction
  pub sent : reactions_sent port chars ≡ front ++ reactions_sent now left
  pub due : port.input.due ≡ front ++ now.input.due
  pub place : place_after port.sending chars ≡ place_after now.sending left
  pub hearing : now.hearing ≡ port.hearing
  pub input : now.input ≡ record port.input { due = now.input.due }

-- nothing was sent yet
pub sent_first : (port : PortKept) (chars : List Char) → HasSent port chars port chars
sent_first port chars = record {
  front = [];
  sent = refl;
  due = refl;
  place = refl;
  hearing = refl;
  input = refl;
}

-- a run of characters was sent, and its reaction, if it has one, was the first that was due
pub sent_run : {port : PortKept} {chars left behind : List Char} {now : PortKept}
    (told : Told) (framer : Framing) (due : List Reaction) → HasSent port chars now left
    → TakesRun now.sending left behind told framer
    → now.input.due ≡ reactions_of (reaction_told told) ++ due
    → HasSent port chars (record {
      hearing = now.hearing;
      sending = framer.place;
      input = record now.input { due = due };
    }) behind
sent_run {left = left} {behind} {now} told framer due had run first =
    let one = reactions_of (reaction_told told) in
    let more = reactions_in (said framer.place behind) in
    record {
      front = had.front ++ one;
      sent = had.sent ∙ ap (λ (l : List Reaction). had.front ++ l)
          (sent_on now.sending left behind told framer run)
          ∙ sym (append_assoc had.front one more);
      due = had.due ∙ ap (λ (l : List Reaction). had.front ++ l) first
          ∙ sym (append_assoc had.front one due);
      place = had.place ∙ place_on run;
      hearing = had.hearing;
      input = ap (λ (input : InputKept). record input { due = due }) had.input;
    }

-- it has one, and another was due, or none was
pub sent_wrong : {port : PortKept} {chars left behind : List Char} {now : PortKept}
    (told : Told) (framer : Framing) (wrong : WrongAnswer) → HasSent port chars now left
    → TakesRun now.sending left behind told framer → reaction_told told ≡ Some wrong.sent
    → wrong.due ≡ slice_get now.input.due 0 → (wrong.due ≡ Some wrong.sent → ⊥)
    → IsWrongAnswer port chars wrong
sent_wrong {left = left} {behind} {now} told framer wrong had run some first other = record {
  front = had.front;
  behind = reactions_in (said framer.place behind);
  left = now.input.due;
  sent = had.sent ∙ ap (λ (l : List Reaction). had.front ++ l)
      (sent_on now.sending left behind told framer run
      ∙ ap (λ o. reactions_of o ++ reactions_in (said framer.place behind)) some);
  due = had.due;
  first = first;
  other = other;
}

-- no characters are left: all reactions were the first that were due
pub sent_due : {port : PortKept} {chars left : List Char} {now : PortKept}
    → HasSent port chars now left → length left ≤ 0
    → port.input.due ≡ reactions_sent port chars ++ now.input.due
sent_due {left = left} {now} had few =
    let all = had.sent ∙ ap (λ (es : List Event). had.front ++ reactions_in es)
    (said_none now.sending left few) ∙ append-nil had.front in
    had.due ∙ ap (λ (l : List Reaction). l ++ now.input.due) (sym all)

pub sent_all : {port : PortKept} {chars left : List Char} {now : PortKept}
    → HasSent port chars now left → length left ≤ 0 → now ≡ after_sending port chars
sent_all {port} {chars} {left} {now} had few =
    let left_due : now.input.due ≡ drop (length (reactions_sent port chars)) port.input.due
    = sym (ap (drop (length (reactions_sent port chars))) (sent_due had few)
    ∙ drop-append_seam (reactions_sent port chars) now.input.due) in
    λ i. record {
      hearing = had.hearing i;
      sending = (sym (place_none now.sending left few) ∙ sym had.place) i;
      input = (had.input ∙ ap (λ (l : List Reaction). record port.input { due = l }) left_due) i;
    }

-- so many fewer are due as there are reactions
pub sent_count : {port : PortKept} {chars left : List Char} {now : PortKept}
    → HasSent port chars now left → length left ≤ 0
    → length port.input.due - length now.input.due ≡ length (reactions_sent port chars)
sent_count {port} {chars} {left} {now} had few =
    let due = ap length (sent_due had few) in
    let both = length-append (reactions_sent port chars) now.input.due in
    omega (arith, due, both)

-- a reaction that was not due shows that not all were
pub wrong_answer : {port : PortKept} {chars : List Char} {wrong : WrongAnswer}
    → IsWrongAnswer port chars wrong → AreDue port chars → ⊥
wrong_answer {port} {chars} {wrong} is (left, due) =
    let both : is.front ++ is.left ≡ is.front ++ (wrong.sent ∷ (is.behind ++ left))
    = sym is.due ∙ due ∙ ap (λ (l : List Reaction). l ++ left) is.sent
    ∙ append_assoc is.front (wrong.sent ∷ is.behind) left in
    let same = append_cancel_left is.front is.left (wrong.sent ∷ (is.behind ++ left)) both in
    is.other (is.first ∙ ap (λ (l : List Reaction). slice_get l 0) same)
