-- The packets that a delivery frees are acknowledged by what it says.
use Rattle.fabric_trace.proofs.Prelude.{◌≡◌, ◌≢◌, inl, inr, ℕ, suc, ◌+◌, ◌-◌, ◌%◌, ◌<◌, ◌==◌, ◌++◌, Bool, true, false, List, [], ◌∷◌, length, map, take, Option, Some, None, option_to_list, refl, sym, ap, ◌∙◌, subst, arith, length-take, if◌then◌else◌, eqb-true, cases_lt, length-map, prio_of, Fields, packets_of, Covers-take, map-prio_of-packets_of, Event, Ctl, Pkt, Bad, Stype0, PacketAccepted, PacketRetry, PacketNotAccepted, LinkResponse, OtherStype0, stype0, hears_report, PortState, IsPort, prios_of, IsOutput, acts, symbol_heard, oldest_of, report_oldest, Char, said, not_failed, Queues, IsFlowing, Flow, Delivered, begun, moves_of, done, EndsWithin, TakesWithin, Move, Held, Freed, PortRef, Seen, port_seen, taken_from, Acknowledges, IsSaid, IsLink}
use Rattle.rio_symbols.specs.declared.stype0.TheConstants.{PACKET_ACCEPTED, PACKET_RETRY, PACKET_NOT_ACCEPTED, LINK_RESPONSE}
use Rattle.link_model.specs.Output as out
use Rattle.link_port.proofs.HearLaws.{report_prios}
use Rattle.fabric_trace.proofs.Links.EachEvent.{OfDelivery, IsStepwise, taken_keeps}
use Rattle.fabric_trace.proofs.Holds.Coming.{none_within, within-append, within_more}
use Rattle.fabric_trace.proofs.Frees.HeardRows.{Tells, heard_rows}

-- ---- one event

-- a symbol of a kind, by its stype0
abbrev IsKind : ℕ → Stype0 → Type 0
IsKind s0 PacketAccepted = s0 ≡ PACKET_ACCEPTED
IsKind s0 LinkResponse = s0 ≡ LINK_RESPONSE
IsKind s0 _ = Unit {0}

kind_by : (s0 : ℕ) (a b c d : Bool) → (a ≡ true → s0 ≡ PACKET_ACCEPTED)
    → (d ≡ true → s0 ≡ LINK_RESPONSE)
    → IsKind s0 (if a then PacketAccepted else (if
    b then PacketRetry else (if
    c then PacketNotAccepted else (if d then LinkResponse else OtherStype0))))
kind_by s0 true b c d first last = first refl
kind_by s0 false true c d first last = tt
kind_by s0 false false true d first last = tt
kind_by s0 false false false true first last = last refl
kind_by s0 false false false false first last = tt

kind_is : (s0 : ℕ) → IsKind s0 (stype0 s0)
kind_is s0 =
    kind_by s0 (s0 == PACKET_ACCEPTED) (s0 == PACKET_RETRY) (s0 == PACKET_NOT_ACCEPTED)
    (s0 == LINK_RESPONSE) (λ e. eqb-true s0 PACKET_ACCEPTED e) (λ e. eqb-true s0 LINK_RESPONSE e)

tells_of : (symbol : Fields) (j : ℕ) (kind : Stype0) → IsKind symbol.s0 kind
    → Tells kind symbol.p0 j → Acknowledges j (Ctl symbol)
tells_of symbol j PacketAccepted is tells = inl (is, tells)
tells_of symbol j PacketRetry is tells = absurd tells
tells_of symbol j PacketNotAccepted is tells = absurd tells
tells_of symbol j LinkResponse is tells = inr is
tells_of symbol j OtherStype0 is tells = absurd tells

-- What an event frees, it acknowledges, and the oldest packet is then the next one.
record EventFrees (n : ℕ) (port : PortState) (e : Event) : Type 0 where
  pub oldest : oldest_of (acts port e).port.output ≡ (n + length (acts port e).freed) % 32
  pub acknowledges : (i : ℕ) → i < length (acts port e).freed → Acknowledges (n + i) e

frees_none : (n : ℕ) (port : PortState) (e : Event) → (acts port e).freed ≡ []
    → (acts port e).port.output ≡ port.output → oldest_of port.output ≡ n % 32 → EventFrees n port e
frees_none n port e none same is =
    let zero_freed : length (acts port e).freed ≡ 0 = ap length none in
    record {
      oldest = ap oldest_of same ∙ is
          ∙ (let more : n ≡ n + length (acts port e).freed =
          omega (arith, zero_freed) in ap (λ k. k % 32) more);
      acknowledges = λ i few. absurd (omega (arith, few, zero_freed));
    }

-- a symbol frees as many packets as the table says
pub symbol_freed : (n : ℕ) (port : PortState) (symbol : Fields) → IsPort port
    → IsOutput (acts port (Ctl symbol)).port.output
    → (acts port (Ctl symbol)).port.output ≢ out.Output.Failed → oldest_of port.output ≡ n % 32
    → length (acts port (Ctl symbol)).freed ≡ (symbol_heard port symbol).freed
symbol_freed n port symbol is bounded working oldest =
    let row =
    heard_rows n (stype0 symbol.s0) (hears_report symbol port.output) symbol.p0
    (report_oldest symbol port.output ∙ oldest) bounded working in
    let k = (symbol_heard port symbol).freed in
    let prios = prios_of port.output in
    let some =
    map-prio_of-packets_of (take k prios) port.queued is.sends.four
    (Covers-take k prios port.queued is.covered) is.sends.sorted in
    let count =
    sym (length-map (packets_of (take k prios) port.queued) prio_of) ∙ ap length some in
    let taken = length-take k prios in
    let most = row.few in
    let same = ap length (report_prios symbol port.output) in
    let freed : length (packets_of (take k prios) port.queued) ≡ k =
    omega (arith, count, taken, most, same) in
    freed

event_frees : (n : ℕ) (port : PortState) (e : Event) → IsPort port
    → IsOutput (acts port e).port.output → (acts port e).port.output ≢ out.Output.Failed
    → oldest_of port.output ≡ n % 32 → EventFrees n port e
event_frees n port (Ctl symbol) is bounded working oldest =
    let row =
    heard_rows n (stype0 symbol.s0) (hears_report symbol port.output) symbol.p0
    (report_oldest symbol port.output ∙ oldest) bounded working in
    let freed = symbol_freed n port symbol is bounded working oldest in
    record {
      oldest = row.oldest ∙ ap (λ m. (n + m) % 32) (sym freed);
      acknowledges = λ i few.
          tells_of symbol (n + i) (stype0 symbol.s0) (kind_is symbol.s0)
          (row.tells i (omega (arith, few, freed)));
    }
event_frees n port (Pkt ack packet) is bounded working oldest =
    frees_none n port (Pkt ack packet) refl refl oldest
event_frees n port (Bad cause) is bounded working oldest =
    frees_none n port (Bad cause) refl refl oldest

-- ---- a flow

abbrev pub freed_count : List Move → ℕ
freed_count [] = 0
freed_count (Held packet ∷ moves) = freed_count moves
freed_count (Freed packet ∷ moves) = suc (freed_count moves)

pub freed-append : (xs ys : List Move) → freed_count (xs ++ ys) ≡ freed_count xs + freed_count ys
freed-append [] ys = omega arith
freed-append (Held packet ∷ xs) ys = freed-append xs ys
freed-append (Freed packet ∷ xs) ys = let more = freed-append xs ys in omega (arith, more)

freed_all : (packets : List (List ℕ))
    → freed_count (map (λ packet. Freed packet) packets) ≡ length packets
freed_all [] = refl
freed_all (packet ∷ packets) = let more = freed_all packets in omega (arith, more)

pub freed_of : (held : Option (List ℕ)) (freed : List (List ℕ))
    → freed_count (map (λ packet. Held packet) (option_to_list held) ++ map (λ packet. Freed packet)
    freed) ≡ length freed
freed_of None freed = freed_all freed
freed_of (Some packet) freed = freed_all freed

-- after these events: each packet freed, numbered from n on, is acknowledged by one of them, and
-- the next is the oldest
pub record HasFreed (n : ℕ) (events : List Event) (flow : Flow) : Type 0 where
  pub oldest : oldest_of flow.port.output ≡ (n + freed_count flow.told.moves) % 32
  pub all : (i : ℕ) → i < freed_count flow.told.moves → IsSaid (n + i) events

abbrev pub AreSaid : ℕ → List Event → List Move → Type 0
AreSaid n events moves = (i : ℕ) → i < freed_count moves → IsSaid (n + i) events

abbrev pub HaveFreed : ℕ → List Event → Delivered → Type 0
HaveFreed n events d = OfDelivery (HasFreed n) (AreSaid n) events d

said_more : {j : ℕ} {said : List Event} (more : List Event) → IsSaid j said
    → IsSaid j (said ++ more)
said_more more s =
    record { event = s.event; among = within_more more s.among; acknowledges = s.acknowledges }

-- how many were freed, with those of one more event
pub done_count : (flow : Flow) (e : Event)
    → freed_count (flow.told.moves ++ moves_of (acts flow.port e))
    ≡ freed_count flow.told.moves + length (acts flow.port e).freed
done_count flow e =
    freed-append flow.told.moves (moves_of (acts flow.port e))
    ∙ ap (λ k. freed_count flow.told.moves + k)
    (freed_of (acts flow.port e).held (acts flow.port e).freed)

pub done_frees : (n : ℕ) (events : List Event) (e : Event) (acted kept : List Event) (flow : Flow)
    (b : PortState) (kept_a : List Event) (begin : Queues)
    → IsFlowing b kept_a begin flow → IsFlowing b kept_a begin (done e acted kept flow)
    → HasFreed n events flow → HasFreed n (events ++ e ∷ []) (done e acted kept flow)
done_frees n events e acted kept flow b kept_a begin before next h =
    let m = freed_count flow.told.moves in
    let frees =
    event_frees (n + m) flow.port e before.port next.port.outstanding
    (not_failed (acts flow.port e).port b _ _ next.sound) h.oldest in
    let count = done_count flow e in
    let sum : (n + m) + length (acts flow.port e).freed
    ≡ n + freed_count (flow.told.moves ++ moves_of (acts flow.port e)) = omega (arith, count) in
    record {
      oldest = frees.oldest ∙ ap (λ k. k % 32) sum;
      all = λ i few. elim (cases_lt i m) [
        | inl old ↦ said_more (e ∷ []) (h.all i old)
        | inr new ↦
            let j : i ≡ m + (i - m) = omega (arith, new) in
            let small : i - m < length (acts flow.port e).freed = omega (arith, few, count, new) in
            let number : (n + m) + (i - m) ≡ n + i = omega (arith, new) in
            record {
              event = e;
              among = within-append (none_within events) (TakesWithin e EndsWithin);
              acknowledges =
                  subst (λ k. Acknowledges k e) number (frees.acknowledges (i - m) small);
            }
      ];
    }

frees_stepwise : (n : ℕ) (b : PortState) (kept_a : List Event) (begin : Queues)
    → IsStepwise b kept_a begin (HasFreed n) (AreSaid n)
frees_stepwise n b kept_a begin = record {
  one = λ events e acted kept flow before next h. done_frees n events e acted kept flow b kept_a
      begin before next h;
  undetected = λ events flow h. h.all;
  more = λ events rest moves h i few. said_more rest (h i few);
  ends = λ events flow place count h. record { oldest = h.oldest; all = h.all };
}

-- nothing is freed yet
pub frees_begin : (n : ℕ) (port : PortState) (kept : List Event) → oldest_of port.output ≡ n % 32
    → HasFreed n [] (begun port kept)
frees_begin n port kept is = record {
  oldest = is ∙ (let more : n ≡ n + 0 = omega arith in ap (λ k. k % 32) more);
  all = λ i few. absurd (omega (arith, few));
}

-- a delivery to a port whose oldest packet is the n-th
pub delivered_frees : (s : Seen) (p q : PortRef) (chars : List Char) (n : ℕ) → IsLink s p q
    → oldest_of (s.halves q).output ≡ n % 32
    → HaveFreed n (said (s.halves q).place chars) (taken_from s p q chars)
delivered_frees s p q chars n link is =
    taken_keeps s p q chars (frees_stepwise n _ _ _) link (frees_begin n (port_seen s q) _ is)
