-- Each step of a port that hears of free buffers keeps what is told of them true, and its packets
-- find room if it was told in time.
use Rattle.link_sound.proofs.Prelude.{◌≡◌, ◌≢◌, ◌⊎◌, ℕ, ◌+◌, ◌%◌, ◌≤◌, Bool, true, false, Option, IsSome, List, [], ◌∷◌, ◌++◌, map, length, inl, inr, refl, sym, ap, ◌∙◌, subst, if◌then◌else◌, arith, append-nil, map-append, Fields, Buffered, Input, Output, Outstanding, hears, hears_report, status, times_out, Place, Stype0, stype0, has_buffer_status, Report, port_turn, has_asked, report_prios, Forward, Other, Receiver, IsShut, forward, backward, tells, oldest_of, receiver_of, IsBetween, IsSound, reply_sent, last_report, Word, word, WordsInTurn, AreCounted, AreCountedAt, free_buffers}
use Rattle.link_port.specs.Prelude.{Event, Ctl, Pkt, Bad, PortState, IsPort, prios_of, expected_of, standing, acts, is_acted, turns_to, turn_sends, tell_sends, timed_out, symbol_burst, no_burst}
use Rattle.link_sound.proofs.ToldKept.{times_out_report}
use Rattle.link_sound.proofs.Steps.{acted_keeps}
use Rattle.link_sound.proofs.Promises.{not_failed}
use Rattle.link_sound.proofs.CreditLaws.{WordsInTurn-lost}
use Rattle.link_sound.proofs.CreditReports.{reports_is, reports_counted}
use Rattle.link_sound.proofs.CreditHears.{hears_counted}
use Rattle.link_sound.proofs.CreditFacts.{stopped_shut, response_alone}
use Rattle.link_sound.proofs.CreditTimely.{IsTimely, IsKnown, timely_append, timely_lost, timely_none}
use Rattle.link_sound.proofs.CreditTurns.{own_counts}
use Rattle.link_sound.proofs.CreditStays.{hears_some, reports_some, report_asked, few_outstanding, timely_reply}

-- the sender and the receiver are the same, and a front of what is on its way is lost
pub lost_known :
    (timely : Bool) (a b : PortState) (lost_a kept_a lost_b kept_b : List Event)
    → IsKnown timely a b (lost_a ++ kept_a) (lost_b ++ kept_b) → IsKnown timely a b kept_a kept_b
lost_known timely a b lost_a kept_a lost_b kept_b k = record {
  tells = k.tells;
  freed = k.freed;
  held = k.held;
  counted = record {
    oldest_is = k.counted.oldest_is;
    expected_is = k.counted.expected_is;
    held_first = k.counted.held_first;
    sent_first = k.counted.sent_first;
    words_are =
        WordsInTurn-lost k.freed k.held _ (map word lost_b) (map word kept_b) k.counted.held_first
        (subst
        (λ (ws : List Word). WordsInTurn k.freed k.held (free_buffers b.received + k.held) ws)
        (map-append word lost_b kept_b) k.counted.words_are);
    report_is = k.counted.report_is;
  };
  in_time =
      timely_lost timely _ _ _ k.held _ (map forward lost_a) (map forward kept_a)
      (subst (λ (fs : List Forward). IsTimely timely (last_report a.output)
      (receiver_of b.input) (free_buffers b.received + k.held) k.held
      (k.freed + length (prios_of a.output)) fs)
      (map-append forward lost_a kept_a) k.in_time);
}

-- nothing is on its way any more
pub emptied_known : (timely : Bool) (a b : PortState) (kept_a kept_b : List Event)
    → IsKnown timely a b kept_a kept_b → IsKnown timely a b [] []
emptied_known timely a b kept_a kept_b k =
    lost_known timely a b kept_a [] kept_b []
    (subst (λ (es : List Event). IsKnown timely a b es (kept_b ++ [])) (sym (append-nil kept_a))
    (subst (λ (es : List Event). IsKnown timely a b kept_a es) (sym (append-nil kept_b)) k))

-- a sender with as many outstanding packets, the same oldest and the same last report
alike_known :
    (timely : Bool) (a b : PortState) (next : Output) (kept_a kept_b : List Event)
    → oldest_of next ≡ oldest_of a.output → prios_of next ≡ prios_of a.output
    → last_report next ≡ last_report a.output → IsKnown timely a b kept_a kept_b
    → IsKnown timely (record a { output = next }) b kept_a kept_b
alike_known timely a b next kept_a kept_b first second third k = record {
  tells = k.tells;
  freed = k.freed;
  held = k.held;
  counted =
      subst (λ (o : ℕ). AreCounted o (length (prios_of next)) (last_report next)
      (expected_of b.input) (free_buffers b.received + k.held) k.freed k.held (map word kept_b))
      (sym first) (subst (λ (ps : List ℕ). AreCounted (oldest_of a.output) (length ps)
      (last_report next) (expected_of b.input) (free_buffers b.received + k.held) k.freed k.held
      (map word kept_b)) (sym second) (subst (λ (r : Option Report). AreCounted
      (oldest_of a.output) (length (prios_of a.output)) r (expected_of b.input)
      (free_buffers b.received + k.held) k.freed k.held (map word kept_b)) (sym third)
      k.counted));
  in_time =
      subst (λ (ps : List ℕ). IsTimely timely (last_report next) (receiver_of b.input)
      (free_buffers b.received + k.held) k.held (k.freed + length ps) (map forward kept_a))
      (sym second) (subst (λ (r : Option Report). IsTimely timely r (receiver_of b.input)
      (free_buffers b.received + k.held) k.held (k.freed + length (prios_of a.output))
      (map forward kept_a)) (sym third) k.in_time);
}

late_oldest : (output : Output) → oldest_of (times_out output) ≡ oldest_of output
late_oldest (Output.Ok w) = refl
late_oldest (Output.RetryStopped w) = refl
late_oldest (Output.ErrorStopped asked w) = refl
late_oldest Output.Failed = refl

late_prios : (output : Output) → prios_of (times_out output) ≡ prios_of output
late_prios (Output.Ok w) = refl
late_prios (Output.RetryStopped w) = refl
late_prios (Output.ErrorStopped asked w) = refl
late_prios Output.Failed = refl

pub late_known : (timely : Bool) (a b : PortState) (kept_a kept_b : List Event)
    → IsKnown timely a b kept_a kept_b → IsKnown timely (timed_out a) b [] []
late_known timely a b kept_a kept_b k =
    alike_known timely a b (times_out a.output) [] [] (late_oldest a.output) (late_prios a.output)
    (times_out_report a.output) (emptied_known timely a b kept_a kept_b k)

-- the layer above, and the framer, change nothing of what is spoken of
pub same_sender :
    (timely : Bool) (a b : PortState) (queued : List (List (List ℕ))) (received : Buffered)
    (input : Input) (place : Place) (kept_a kept_b : List Event)
    → IsKnown timely a b kept_a kept_b
    → IsKnown timely
    (record a { queued = queued; received = received; input = input; place = place }) b kept_a
    kept_b
same_sender timely a b queued received input place kept_a kept_b k = record {
  tells = k.tells;
  freed = k.freed;
  held = k.held;
  counted = k.counted;
  in_time = k.in_time;
}

-- where it has to restart, the packet that is expected is the oldest
stopped_holds : (oldest expected freed held count : ℕ) → oldest ≡ freed % 32
    → expected ≡ held % 32 → oldest ≡ expected → freed ≤ held → held ≤ freed + count → count ≤ 31
    → held ≡ freed
stopped_holds oldest expected freed held count first second same below within few = omega arith

stopped_at :
    (timely : Bool) (a b : PortState) (kept_a kept_b : List Event) (w : Outstanding) → IsPort a
    → IsSound a b kept_a kept_b → (k : IsKnown timely a b kept_a kept_b)
    → a.output ≡ Output.RetryStopped w → (k.held ≡ k.freed) × IsShut (receiver_of b.input)
stopped_at timely a b kept_a kept_b w is s k stopped =
    let at =
    stopped_shut a.output b.input a.queued (map forward kept_a) (map backward kept_b) w stopped
    s.a_to_b in (
      stopped_holds (oldest_of a.output) (expected_of b.input) k.freed k.held
          (length (prios_of a.output)) k.counted.oldest_is k.counted.expected_is at.0
          k.counted.held_first k.counted.sent_first (few_outstanding a.output is.outstanding),
      at.1,
    )

-- a turn
pub turn_known : (timely : Bool) (a b : PortState) (kept_a kept_b : List Event) → IsPort a
    → IsSound a b kept_a kept_b → IsKnown timely a b kept_a kept_b
    → IsKnown timely (turns_to a) b (kept_a ++ (turn_sends a).sent) kept_b
turn_known timely a b kept_a kept_b is s k =
    let turned =
    own_counts timely a.tells a.output a.queued a (receiver_of b.input) b.input
    (free_buffers b.received + k.held) k.freed k.held (map word kept_b) (map forward kept_a)
    is.outstanding is.sends is.covered
    (λ w stopped. stopped_at timely a b kept_a kept_b w is s k stopped) (k.counted, k.in_time) in
    record {
      tells = k.tells;
      freed = k.freed;
      held = k.held;
      counted = turned.0;
      in_time =
          subst (λ (fs : List Forward). IsTimely timely (last_report (port_turn a).state)
          (receiver_of b.input) (free_buffers b.received + k.held) k.held
          (k.freed + length (prios_of (port_turn a).state)) fs)
          (sym (map-append forward kept_a (turn_sends a).sent)) turned.1;
    }

telling_timely :
    (timely does : Bool) (a : PortState) (report : Option Report) (r : Receiver)
    (total held next : ℕ) (kept : List Forward) → IsTimely timely report r total held next kept
    → IsTimely timely report r total held next (kept ++ map forward (if does
    then symbol_burst (status (standing a).expected (standing a).buffers) else no_burst).sent)
telling_timely timely true a report r total held next kept known =
    timely_append timely report r total held next kept Other refl known
telling_timely timely false a report r total held next kept known = rw append-nil known

-- it tells of its own free buffers
pub tell_known : (timely : Bool) (a b : PortState) (kept_a kept_b : List Event)
    → IsKnown timely a b kept_a kept_b → IsKnown timely a b (kept_a ++ (tell_sends a).sent) kept_b
tell_known timely a b kept_a kept_b k = record {
  tells = k.tells;
  freed = k.freed;
  held = k.held;
  counted = k.counted;
  in_time =
      subst (λ (fs : List Forward). IsTimely timely (last_report a.output) (receiver_of b.input)
      (free_buffers b.received + k.held) k.held (k.freed + length (prios_of a.output)) fs)
      (sym (map-append forward kept_a (tell_sends a).sent))
      (telling_timely timely a.tells a (last_report a.output) (receiver_of b.input)
      (free_buffers b.received + k.held) k.held (k.freed + length (prios_of a.output))
      (map forward kept_a) k.in_time);
}

-- a reply goes ahead
pub reply_known :
    (timely : Bool) (a b : PortState) (kept_a kept_b : List Event) (reply : Option Fields)
    → IsKnown timely a b kept_a kept_b
    → IsKnown timely a b (kept_a ++ reply_sent reply) kept_b
reply_known timely a b kept_a kept_b reply k = record {
  tells = k.tells;
  freed = k.freed;
  held = k.held;
  counted = k.counted;
  in_time =
      timely_reply timely (last_report a.output) (receiver_of b.input)
      (free_buffers b.received + k.held) k.held (k.freed + length (prios_of a.output)) kept_a reply
      k.in_time;
}

-- the packets on their way have room after a symbol is heard
heard_timely :
    (timely : Bool) (a b : PortState) (kept_a kept_b : List Event) (symbol : Fields)
    → IsSound a b kept_a (Ctl symbol ∷ kept_b)
    → (hears (stype0 symbol.s0) (hears_report symbol a.output) symbol.p0).state ≢ Output.Failed
    → (k : IsKnown timely a b kept_a (Ctl symbol ∷ kept_b)) → (now : ℕ)
    → (now + length (prios_of
    (hears (stype0 symbol.s0) (hears_report symbol a.output) symbol.p0).state)
    ≡ k.freed + length (prios_of (hears_report symbol a.output)))
    ⊎ ((stype0 symbol.s0 ≡ Stype0.LinkResponse)
    × (has_asked (hears_report symbol a.output) ≡ true))
    → IsTimely timely
    (last_report (hears (stype0 symbol.s0) (hears_report symbol a.output) symbol.p0).state)
    (receiver_of b.input) (free_buffers b.received + k.held) k.held
    (now + length
    (prios_of (hears (stype0 symbol.s0) (hears_report symbol a.output) symbol.p0).state))
    (map forward kept_a)
heard_timely false a b kept_a kept_b symbol s stands k now moves = tt
heard_timely true a b kept_a kept_b symbol s stands k now moves =
    let kept =
    subst (λ (o : Output). IsSome (last_report o)) (sym (reports_is symbol a.output))
    (reports_some (stype0 symbol.s0) (has_buffer_status symbol.s0) symbol.p0 symbol.p1 k.freed
    k.held (free_buffers b.received + k.held) (map word kept_b) a.output k.counted.words_are
    k.in_time.0) in
    let some =
    hears_some (stype0 symbol.s0) (hears_report symbol a.output) symbol.p0 stands kept in
    let before = k.freed + length (prios_of a.output) in
    let same : k.freed + length (prios_of (hears_report symbol a.output)) ≡ before =
    ap (λ (ps : List ℕ). k.freed + length ps) (report_prios symbol a.output) in
    elim moves [
      | inl stays ↦
          subst (λ (n : ℕ). IsTimely true
          (last_report (hears (stype0 symbol.s0) (hears_report symbol a.output) symbol.p0).state)
          (receiver_of b.input) (free_buffers b.received + k.held) k.held n (map forward kept_a))
          (sym (stays ∙ same)) (some, k.in_time.1)
      | inr response ↦
          let alone =
          response_alone a.output b.input a.queued symbol.p0 (map forward kept_a)
          (map backward kept_b) (sym (report_asked symbol a.output) ∙ response.1)
          (subst (λ (what : Stype0). IsBetween a.output b.input a.queued (map forward kept_a)
          (tells what symbol.p0 ∷ map backward kept_b)) response.0 s.a_to_b) in
          timely_none true _ (receiver_of b.input) (free_buffers b.received + k.held) k.held before
          _ (map forward kept_a) alone (some, k.in_time.1)
    ]

-- a symbol is heard
hears_known :
    (timely : Bool) (a b : PortState) (kept_a kept_b : List Event) (symbol : Fields) → IsPort a
    → IsSound a b kept_a (Ctl symbol ∷ kept_b)
    → (hears (stype0 symbol.s0) (hears_report symbol a.output) symbol.p0).state ≢ Output.Failed
    → IsKnown timely a b kept_a (Ctl symbol ∷ kept_b)
    → IsKnown timely (record a {
      output = (hears (stype0 symbol.s0) (hears_report symbol a.output) symbol.p0).state;
    }) b kept_a kept_b
hears_known timely a b kept_a kept_b symbol is s stands k =
    let few = few_outstanding a.output is.outstanding in
    let told =
    subst (λ (o : Output). AreCountedAt o b.input (free_buffers b.received + k.held) k.freed k.held
    (word (Ctl symbol) ∷ map word kept_b)) (sym (reports_is symbol a.output))
    (reports_counted (stype0 symbol.s0) (has_buffer_status symbol.s0) symbol.p0 symbol.p1 a.output
    b.input (free_buffers b.received + k.held) k.freed k.held (map word kept_b) few k.counted) in
    let does =
    hears_counted (stype0 symbol.s0) (has_buffer_status symbol.s0) symbol.p0 symbol.p1
    (hears_report symbol a.output) b.input (free_buffers b.received + k.held) k.freed k.held
    (map word kept_b)
    (subst (λ (ps : List ℕ). length ps ≤ 31) (sym (report_prios symbol a.output)) few) told in
    record {
      tells = k.tells;
      freed = does.0;
      held = k.held;
      counted = does.1;
      in_time = heard_timely timely a b kept_a kept_b symbol s stands k does.0 does.2;
    }

-- an event that means nothing to the sender is taken away
silent_known :
    (timely : Bool) (a b : PortState) (kept_a kept_b : List Event) (e : Event)
    → IsKnown timely a b kept_a (e ∷ kept_b) → IsKnown timely a b kept_a kept_b
silent_known timely a b kept_a kept_b e k = lost_known timely a b [] kept_a (e ∷ []) kept_b k

-- an event that the far port sent
pub acted_known :
    (timely : Bool) (a b : PortState) (kept_a kept_b : List Event) (e : Event) → IsPort a
    → is_acted a e ≡ true → IsSound a b kept_a (e ∷ kept_b)
    → IsKnown timely a b kept_a (e ∷ kept_b)
    → IsKnown timely (acts a e).port b (kept_a ++ reply_sent (acts a e).reply) kept_b
acted_known timely a b kept_a kept_b (Ctl symbol) is acted s k =
    let next = (acts a (Ctl symbol)).port in
    let stands =
    not_failed next b (kept_a ++ reply_sent (acts a (Ctl symbol)).reply) kept_b
    (acted_keeps a b kept_a kept_b (Ctl symbol) is.covered acted s) in
    reply_known timely next b kept_a kept_b (acts a (Ctl symbol)).reply
    (same_sender timely
    (record a {
      output = (hears (stype0 symbol.s0) (hears_report symbol a.output) symbol.p0).state;
    }) b next.queued next.received next.input next.place kept_a kept_b
    (hears_known timely a b kept_a kept_b symbol is s stands k))
acted_known timely a b kept_a kept_b (Pkt ack packet) is acted s k =
    let next = (acts a (Pkt ack packet)).port in
    reply_known timely next b kept_a kept_b (acts a (Pkt ack packet)).reply
    (same_sender timely a b next.queued next.received next.input next.place kept_a kept_b
    (silent_known timely a b kept_a kept_b (Pkt ack packet) k))
acted_known timely a b kept_a kept_b (Bad cause) is acted s k = absurd cc

-- what is not acted on
pub other_known :
    (timely : Bool) (a b : PortState) (kept_a kept_b : List Event) (e : Event)
    → is_acted a e ≡ false → IsKnown timely a b kept_a kept_b
    → IsKnown timely (acts a e).port b (kept_a ++ reply_sent (acts a e).reply) kept_b
other_known timely a b kept_a kept_b (Ctl symbol) other k = absurd cc
other_known timely a b kept_a kept_b (Pkt ack packet) other k =
    let next = (acts a (Pkt ack packet)).port in
    reply_known timely next b kept_a kept_b (acts a (Pkt ack packet)).reply
    (same_sender timely a b next.queued next.received next.input next.place kept_a kept_b k)
other_known timely a b kept_a kept_b (Bad cause) other k =
    let next = (acts a (Bad cause)).port in
    reply_known timely next b kept_a kept_b (acts a (Bad cause)).reply
    (same_sender timely a b next.queued next.received next.input next.place kept_a kept_b k)
