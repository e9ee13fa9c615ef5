-- Settling ends at rest.
use Rattle.link_machine.proofs.Prelude.{◌≡◌, inl, inr, ℕ, [], List, take, slice_get, sym, ap, ◌∙◌, subst, arith, take_all, Buffered, list_at, room_for, packets_of, highest, prio_of, Output, distance, PortState, prios_of, expected_of, lent, oldest_of, A, B, LinkState, IsSoundLink, NextOf, Act, Reached, At, FoundAt, goes, OnState, SchedulePart, Drains, Recovers, Tells, SendsAll, Settles, IsAtRest, KnowsRoom, IsDone, IsSettled}
use Rattle.link_machine.proofs.Settling.Drains.{goes_found, goes-append, on_state, AreEmpty, drain_rests}
use Rattle.link_machine.proofs.Settling.Recovery.{recovers}
use Rattle.link_machine.proofs.Settling.SendingRounds.{Quiet}
use Rattle.link_machine.proofs.Settling.Telling.{tells}
use Rattle.link_machine.proofs.Settling.Sending.{Knowing, sends_all}

none_lent : (p q : PortState) → IsAtRest p q → lent p q ≡ []
none_lent p q rests =
    ap (λ (o : Output). packets_of
    (take (distance (oldest_of o) (expected_of q.input)) (prios_of o)) p.queued) rests.sender_ok
    ∙ ap (λ (prios : List ℕ). packets_of prios p.queued)
    (take_all (distance rests.ack (expected_of q.input)) [] (omega arith))

-- what a side left undone does not change where the other sends
still_done : (p q p2 q2 : PortState) → p2.queued ≡ p.queued → q2.received ≡ q.received → IsDone p q
    → IsDone p2 q2
still_done p q p2 q2 same store (inl none) = inl (ap highest same ∙ none)
still_done p q p2 q2 same store (inr blocked) = inr (record {
  prio = blocked.prio;
  packet = blocked.packet;
  highest_is = ap highest same ∙ blocked.highest_is;
  first =
      ap (λ (lists : List (List (List ℕ))). slice_get (list_at lists blocked.prio) 0) same
      ∙ blocked.first;
  full = ap (λ (b : Buffered). room_for b (prio_of blocked.packet)) store ∙ blocked.full;
})

-- ---- one part after another

-- a part that leads from one thing that is true of a link to the next
abbrev pub Leads : (LinkState → Type 0) → (Reached → List Act → Type 0) → (LinkState → Type 0)
    → Type 0
Leads P Part Q =
    (s : LinkState) (all : List Act) → P s → Part (At s) all → OnState Q (goes (At s) all)

pub go_on : (P : LinkState → Type 0) (Part : Reached → List Act → Type 0) (Q : LinkState → Type 0)
    → Leads P Part Q → (r : Reached) (all : List Act) → OnState P r → Part r all
    → OnState Q (goes r all)
go_on P Part Q leads (At s) all h does = leads s all h does
go_on P Part Q leads (FoundAt side e) all h does = rw (goes_found side e all) tt

next_leads : (P Q R : LinkState → Type 0) (First Then : Reached → List Act → Type 0)
    → Leads P First Q → Leads Q Then R → Leads P (NextOf goes First Then) R
next_leads P Q R First Then first next s all h (front, rest, split, does, more) =
    subst (λ (r : Reached). OnState R r)
    (sym (ap (goes (At s)) split ∙ goes-append front rest (At s)))
    (go_on Q Then R next (goes (At s) front) rest (first s front h does) more)

abbrev pub Drained : LinkState → Type 0
Drained s = IsSoundLink s × AreEmpty s

abbrev pub FirstRests : LinkState → Type 0
FirstRests s = Drained s × IsAtRest s.a s.b

abbrev pub BothRest : LinkState → Type 0
BothRest s = Quiet A s

-- side B knows what room side A has
abbrev pub FirstTold : LinkState → Type 0
FirstTold s = Quiet A s × KnowsRoom s.b s.a

abbrev pub BothTold : LinkState → Type 0
BothTold s = Knowing A s

abbrev pub FirstDone : LinkState → Type 0
FirstDone s = Knowing A s × IsDone s.a s.b

abbrev pub BothDone : LinkState → Type 0
BothDone s = Knowing A s × IsDone s.a s.b × IsDone s.b s.a

pub turned_quiet : (s : LinkState) → Quiet A s → Quiet B s
turned_quiet s quiet = record {
  sound = quiet.sound;
  none = quiet.none;
  out = quiet.into;
  into = quiet.out;
}

first_quiet : (s : LinkState) → Quiet B s → Quiet A s
first_quiet s quiet = record {
  sound = quiet.sound;
  none = quiet.none;
  out = quiet.into;
  into = quiet.out;
}

pub drains_lead : Leads IsSoundLink Drains Drained
drains_lead s all l does = drain_rests s all l does

pub first_recovers : Leads Drained (Recovers A) FirstRests
first_recovers s all h does =
    on_state (goes (At s) all) (λ m x. ((x.kept.sound, x.kept.none), x.rests))
    (recovers A s all h.0 h.1 does)

pub second_recovers : Leads FirstRests (Recovers B) BothRest
second_recovers s all h does =
    on_state (goes (At s) all) (λ m x. record {
      sound = x.kept.sound;
      none = x.kept.none;
      out = x.kept.other h.1;
      into = x.rests;
    }) (recovers B s all h.0.0 h.0.1 does)

pub turned_knowing : (s : LinkState) → Knowing A s → Knowing B s
turned_knowing s knowing = record {
  quiet = turned_quiet s knowing.quiet;
  out = knowing.into;
  into = knowing.out;
}

first_knowing : (s : LinkState) → Knowing B s → Knowing A s
first_knowing s knowing = record {
  quiet = first_quiet s knowing.quiet;
  out = knowing.into;
  into = knowing.out;
}

pub first_tells : Leads BothRest (Tells A) FirstTold
first_tells s all h does =
    on_state (goes (At s) all) (λ m x. (x.quiet, x.into)) (tells A s all h does)

pub second_tells : Leads FirstTold (Tells B) BothTold
second_tells s all h does =
    on_state (goes (At s) all) (λ m x. record {
      quiet = first_quiet m x.quiet;
      out = x.into;
      into = x.out h.1;
    }) (tells B s all (turned_quiet s h.0) does)

pub first_sends : Leads BothTold (SendsAll A) FirstDone
first_sends s all h does =
    on_state (goes (At s) all) (λ m x. (x.knowing, x.done)) (sends_all A s all h does)

second_sends : Leads FirstDone (SendsAll B) BothDone
second_sends s all h does =
    on_state (goes (At s) all) (λ m x. (
      first_knowing m x.knowing,
      still_done s.a s.b m.a m.b x.beside.queued x.beside.received h.1,
      x.done,
    ))
    (sends_all B s all (turned_knowing s h.0) does)

settled : (s : LinkState) → BothDone s → IsSettled s
settled s h =
    let quiet = h.0.quiet in
    record {
      quiet = record {
        wire_a = quiet.none.0;
        wire_b = quiet.none.1;
        a_to_b = quiet.out;
        b_to_a = quiet.into;
      };
      lent_a = none_lent s.a s.b quiet.out;
      lent_b = none_lent s.b s.a quiet.into;
      done_a = h.1;
      done_b = h.2;
    }

-- the schedule from a part on
abbrev pub FromSending : SchedulePart
FromSending = NextOf goes (SendsAll A) (SendsAll B)

abbrev pub FromTelling : SchedulePart
FromTelling = NextOf goes (Tells A) (NextOf goes (Tells B) FromSending)

abbrev pub FromRecovering : SchedulePart
FromRecovering = NextOf goes (Recovers A) (NextOf goes (Recovers B) FromTelling)

sends_lead : Leads BothTold FromSending BothDone
sends_lead =
    next_leads BothTold FirstDone BothDone (SendsAll A) (SendsAll B) first_sends second_sends

tells_lead : Leads BothRest FromTelling BothDone
tells_lead =
    next_leads BothRest FirstTold BothDone (Tells A) (NextOf goes (Tells B) FromSending) first_tells
    (next_leads FirstTold BothTold BothDone (Tells B) FromSending second_tells sends_lead)

recovers_lead : Leads Drained FromRecovering BothDone
recovers_lead =
    next_leads Drained FirstRests BothDone (Recovers A) (NextOf goes (Recovers B) FromTelling)
    first_recovers
    (next_leads FirstRests BothRest BothDone (Recovers B) FromTelling second_recovers tells_lead)

-- Settling ends at rest, from every sound state, however the framers stood, if every event that was
-- acted on was sent.
pub settling_rests : (s : LinkState) (all : List Act) → IsSoundLink s → Settles (At s) all
    → OnState (λ m. IsSoundLink m × IsSettled m) (goes (At s) all)
settling_rests s all l does =
    on_state (goes (At s) all) (λ m x. (x.0.quiet.sound, settled m x))
    (next_leads IsSoundLink Drained BothDone Drains FromRecovering drains_lead recovers_lead s all l
    does)
