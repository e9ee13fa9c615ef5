-- A port at rest tells its free buffers, and what comes of it.
use Rattle.link_machine.proofs.Prelude.{◌≡◌, ◌++◌, Bool, true, false, MatchBool, Option, Some, None, List, [], ◌∷◌, IfSome, refl, sym, ap, ◌∙◌, subst, if◌then◌else◌, append-nil, arith, Char, Fields, Output, Place, place, at_rest, symbol_chars_of, status, reported, Report, opened, Nothing, PortState, IsPort, Acted, expected_of, buffer_status, tell_sends, IsAnswer, symbol_burst, no_burst, standing_range, last_report, Side, A, B, LinkState, from_end, told_from, IsSoundLink, led, port_fed, port_answers, chars_of, controls, AreAnswers, Act, Tell, Reached, At, goes, OnState, NextOf, Is, Drains, Tells, KnowsRoom}
use Rattle.link_machine.proofs.Machine.{told_keeps, from_end_keeps}
use Rattle.link_machine.proofs.Settling.SaidLaws.{reads}
use Rattle.link_machine.proofs.Settling.Signals.{fed_by, fed_is, fed_none, answered_none, unbroken_reads, unbroken_leaves}
use Rattle.link_machine.proofs.Settling.Packets.{status_range, told_by, bound_tells}
use Rattle.link_machine.proofs.Settling.Lines.{goes_one}
use Rattle.link_machine.proofs.Settling.Drains.{goes_none, goes-append, on_state, AreEmpty}
use Rattle.link_machine.proofs.Settling.Restarting.{rest_place, unended}
use Rattle.link_machine.proofs.Settling.TurnLaws.{end_empty, third_answers, Over, drain_over}
use Rattle.link_machine.proofs.Settling.SendingRounds.{resting_open, Quiet}

-- the status of a port
abbrev status_of : PortState → Fields
status_of p = status (expected_of p.input) (buffer_status p.tells p.received)

status_answers : (p : PortState) → IsPort p → IsAnswer (status_of p)
status_answers p is =
    let at = standing_range p is in
    record {
      range =
          status_range (expected_of p.input) (buffer_status p.tells p.received) 7 0 at.expected
          at.buffers (omega arith) (omega arith);
      nop = refl;
    }

-- ---- at the far port

-- a port that was told of free buffers, and has nothing in progress
abbrev hearing_port : PortState → PortState → PortState
hearing_port p q =
    record q {
      output = reported (told_by p) q.output;
      place = place (opened q.place.text) Nothing;
    }

one_symbol : (p : PortState) → symbol_chars_of (status_of p) ≡ chars_of (status_of p ∷ [])
unfolding chars_of
one_symbol p = sym (append-nil (symbol_chars_of (status_of p)))

status_is : (p : PortState) → IsPort p → AreAnswers (status_of p ∷ [])
unfolding AreAnswers
status_is p is = (status_answers p is, tt)

-- what the status does, which has no answer
record StatusHeard (p q : PortState) : Type 0 where
  far : port_fed q (symbol_chars_of (status_of p)) ≡ hearing_port p q
  none : port_answers q (symbol_chars_of (status_of p)) ≡ []

status_heard : (p q : PortState) → IsPort p → at_rest q.place ≡ true → StatusHeard p q
unfolding led controls
status_heard p q is rests =
    let ss = status_of p ∷ [] in
    let there = rest_place q.place rests in
    let are = status_is p is in
    let told = bound_tells q (expected_of p.input) (buffer_status p.tells p.received) 7 refl in
    record {
      far =
          ap (port_fed q) (one_symbol p)
          ∙ fed_is q (chars_of ss)
          ∙ ap (fed_by q) (ap (λ (from : Place). reads from (chars_of ss)) there
          ∙ unbroken_reads q.place.text ss are)
          ∙ ap (λ (a : Acted). record a.port { place = place (opened q.place.text) Nothing }) told;
      none =
          ap (port_answers q) (one_symbol p)
          ∙ (unbroken_leaves q q.place.text ss there are).0.silent;
    }

status_silent : (p q : PortState) → StatusHeard p q
    → third_answers p q (symbol_chars_of (status_of p)) ≡ []
unfolding chars_of
status_silent p q h =
    let cs = symbol_chars_of (status_of p) in
    let second : port_answers p (chars_of (port_answers q cs)) ≡ [] =
    ap (λ (ss : List Fields). port_answers p (chars_of ss)) h.none ∙ answered_none p in
    ap (λ (ss : List Fields). port_answers (port_fed q cs) (chars_of ss)) second
    ∙ answered_none (port_fed q cs)

-- the ports after it
record PortsTold (p q m_a m_b : PortState) : Type 0 where
  a : m_a ≡ p
  b : m_b ≡ hearing_port p q

ports_told : (near : Side) (p q : PortState) (m : LinkState) → StatusHeard p q
    → Over near p q (symbol_chars_of (status_of p)) m
    → PortsTold p q (from_end near m).a (from_end near m).b
unfolding chars_of
ports_told near p q m h x =
    let cs = symbol_chars_of (status_of p) in
    let second : port_answers p (chars_of (port_answers q cs)) ≡ [] =
    ap (λ (ss : List Fields). port_answers p (chars_of ss)) h.none ∙ answered_none p in
    record {
      a = x.0.a ∙ ap (λ (ss : List Fields). port_fed p (chars_of ss)) h.none ∙ fed_none p;
      b =
          x.0.b
          ∙ ap (λ (ss : List Fields). port_fed (port_fed q cs) (chars_of ss)) second
          ∙ fed_none (port_fed q cs)
          ∙ h.far;
    }

-- ---- of a link

-- Both directions stay at rest. The far port knows what room this one has, and this one knows what
-- it knew.
pub record Heard (near : Side) (s m : LinkState) : Type 0 where
  pub quiet : Quiet near m
  pub into : KnowsRoom (from_end near m).b (from_end near m).a
  pub out : KnowsRoom (from_end near s).a (from_end near s).b
      → KnowsRoom (from_end near m).a (from_end near m).b

told_quiet : (near : Side) (s m : LinkState) → Quiet near s → IsSoundLink m → AreEmpty m
    → PortsTold (from_end near s).a (from_end near s).b (from_end near m).a (from_end near m).b
    → Heard near s m
told_quiet near s m quiet sound none h =
    let t = from_end near s in
    let there = rest_place t.b.place quiet.out.place in
    record {
      quiet = record {
        sound = sound;
        none = none;
        out = record {
          ack = quiet.out.ack;
          report = quiet.out.report;
          sender_ok = ap (λ (y : PortState). y.output) h.a ∙ quiet.out.sender_ok;
          receiver_ok = ap (λ (y : PortState). y.input) h.b ∙ quiet.out.receiver_ok;
          place =
              ap (λ (y : PortState). at_rest y.place) h.b
              ∙ resting_open t.b.place.text
              (subst (λ (from : Place). at_rest from ≡ true) there quiet.out.place);
        };
        into = record {
          ack = quiet.into.ack;
          report = told_by t.a;
          sender_ok =
              ap (λ (y : PortState). y.output) h.b
              ∙ ap (reported (told_by t.a)) quiet.into.sender_ok;
          receiver_ok = ap (λ (y : PortState). y.input) h.a ∙ quiet.into.receiver_ok;
          place = ap (λ (y : PortState). at_rest y.place) h.a ∙ quiet.into.place;
        };
      };
      into =
          ap (λ (y : PortState). last_report y.output) h.b
          ∙ ap (λ (o : Output). last_report (reported (told_by t.a) o)) quiet.into.sender_ok
          ∙ sym (ap told_by h.a);
      out = λ knows.
          ap (λ (y : PortState). last_report y.output) h.a ∙ knows ∙ sym (ap told_by h.b);
    }

-- ---- the status goes on the wire

told_a : (near : Side) (s : LinkState)
    → (from_end near (told_from near s)).a ≡ (from_end near s).a
told_a A s = refl
told_a B s = refl

told_b : (near : Side) (s : LinkState)
    → (from_end near (told_from near s)).b ≡ (from_end near s).b
told_b A s = refl
told_b B s = refl

told_chars : (near : Side) (s : LinkState)
    → (from_end near (told_from near s)).wire_a.chars
    ≡ (from_end near s).wire_a.chars ++ (tell_sends (from_end near s).a).chars
told_chars A s = refl
told_chars B s = refl

told_none : (near : Side) (s : LinkState)
    → (from_end near (told_from near s)).wire_b.chars ≡ (from_end near s).wire_b.chars
told_none A s = refl
told_none B s = refl

status_sent : (p : PortState) → p.tells ≡ true
    → (tell_sends p).chars ≡ symbol_chars_of (status_of p)
status_sent p tells =
    ap (λ (b : Bool). (if b then symbol_burst (status_of p) else no_burst).chars) tells

tells_busy : (near : Side) (s : LinkState) (all : List Act) → Quiet near s
    → (from_end near s).a.tells ≡ true
    → NextOf goes (Is (λ reached. Tell near ∷ [])) Drains (At s) all
    → OnState (Heard near s) (goes (At s) all)
tells_busy near s all quiet tells (first, rest, split, tell, drains) =
    let t = from_end near s in
    let next = told_from near s in
    let cs = symbol_chars_of (status_of t.a) in
    let l = from_end_keeps near s quiet.sound in
    let empty = end_empty near s quiet.none in
    let h = status_heard t.a t.b l.port_a quiet.out.place in
    let there : goes (At s) first ≡ At next = ap (goes (At s)) tell ∙ goes_one s (Tell near) in
    let chars : (from_end near next).wire_a.chars ≡ cs =
    told_chars near s
    ∙ ap (λ (xs : List Char). xs ++ (tell_sends t.a).chars) empty.0
    ∙ status_sent t.a tells in
    let drained : Drains (At next) rest = subst (λ (r : Reached). Drains r rest) there drains in
    subst (λ (r : Reached). OnState (Heard near s) r) (sym (ap (goes (At s)) split
    ∙ goes-append first rest (At s)
    ∙ ap (λ (r : Reached). goes r rest) there))
    (on_state (goes (At next) rest)
    (λ m x. told_quiet near s m quiet (unended near m x.0.sound) x.1
    (ports_told near t.a t.b m h x))
    (drain_over near next rest t.a t.b cs (told_keeps near s quiet.sound) (told_a near s)
    (told_b near s) chars (told_none near s ∙ empty.1) drained (status_silent t.a t.b h)))

-- of a port that does not tell, the far port knows as much, for it was told nothing
untold : (p q : PortState) → p.tells ≡ false
    → IfSome (last_report q.output) (λ report. p.tells ≡ true) → KnowsRoom q p
untold p q quiet kept =
    by (last_report q.output) refl kept
    ∙ sym (ap (λ (b : Bool). told_by (record p { tells = b })) quiet)
  where
    by : (o : Option Report) → last_report q.output ≡ o → IfSome o (λ report. p.tells ≡ true)
        → last_report q.output ≡ None
    by None is kept = is
    by (Some report) is kept = absurd (let some : true ≡ false = sym (kept) ∙ quiet in cc)

tells_none : (near : Side) (s : LinkState) → Quiet near s → (from_end near s).a.tells ≡ false
    → Heard near s s
tells_none near s quiet silent = record {
  quiet = quiet;
  into =
      untold (from_end near s).a (from_end near s).b silent
      (from_end_keeps near s quiet.sound).told_b.keeps;
  out = λ knows. knows;
}

-- A side tells its free buffers, if it does.
pub tells : (near : Side) (s : LinkState) (all : List Act) → Quiet near s → Tells near (At s) all
    → OnState (Heard near s) (goes (At s) all)
tells near s all quiet does = by (from_end near s).a.tells refl does
  where
    by : (b : Bool) → (from_end near s).a.tells ≡ b
        → MatchBool b (NextOf goes (Is (λ reached. Tell near ∷ [])) Drains (At s) all) (all ≡ [])
        → OnState (Heard near s) (goes (At s) all)
    by true is does = tells_busy near s all quiet is does
    by false is nothing =
        subst (λ (r : Reached). OnState (Heard near s) r)
        (sym (ap (goes (At s)) nothing ∙ goes_none (At s))) (tells_none near s quiet is)
