-- A port's allowance is never below the number of the packets that it freed.
use Rattle.fabric_trace.proofs.Prelude.{◌≡◌, ◌≢◌, ℕ, ◌+◌, ◌%◌, ◌≤◌, ◌++◌, List, [], ◌∷◌, length, refl, ap, ◌∙◌, arith, Char, Event, Ctl, Pkt, Bad, stype0, hears_report, said, PortState, IsPort, IsOutput, acts, oldest_of, report_oldest, not_failed, Queues, IsFlowing, Flow, Delivered, done, Move, PortRef, raised, raised_all, Seen, port_seen, taken_from, IsLink}
use Rattle.link_model.specs.Output as out
use Rattle.fabric_trace.proofs.Links.EachEvent.{OfDelivery, IsStepwise, taken_keeps}
use Rattle.fabric_trace.proofs.Frees.Heard.{freed_count, symbol_freed, HasFreed, done_count, done_frees, frees_begin}
use Rattle.fabric_trace.proofs.Allowance.RaisedRows.{raised_more, raised_all_more, heard_rows}
pub use Rattle.fabric_trace.proofs.Allowance.RaisedRows.{raised-append}

-- ---- one event

-- one that frees nothing
frees_none : (n a : ℕ) (port : PortState) (e : Event) → (acts port e).freed ≡ [] → n ≤ a
    → n + length (acts port e).freed ≤ raised a e
frees_none n a port e none low =
    let zero_freed : length (acts port e).freed ≡ 0 = ap length none in
    let more = raised_more e a in
    omega (arith, zero_freed, low, more)

event_raises : (n a : ℕ) (port : PortState) (e : Event) → IsPort port
    → IsOutput (acts port e).port.output → (acts port e).port.output ≢ out.Output.Failed
    → oldest_of port.output ≡ n % 32 → n ≤ a → n + length (acts port e).freed ≤ raised a e
event_raises n a port (Ctl symbol) is bounded working oldest low =
    let row =
    heard_rows n a (stype0 symbol.s0) (hears_report symbol port.output) symbol.p0
    (report_oldest symbol port.output ∙ oldest) low bounded working in
    let freed = symbol_freed n port symbol is bounded working oldest in
    omega (arith, freed, row)
event_raises n a port (Pkt ack packet) is bounded working oldest low =
    frees_none n a port (Pkt ack packet) refl low
event_raises n a port (Bad cause) is bounded working oldest low =
    frees_none n a port (Bad cause) refl low

-- ---- a flow

-- n packets were freed before, and a were allowed; after these events no more are freed than are
-- allowed
abbrev pub AreAllowed : ℕ → ℕ → List Event → List Move → Type 0
AreAllowed n a events moves = n + freed_count moves ≤ raised_all a events

pub record HasRaised (n a : ℕ) (events : List Event) (flow : Flow) : Type 0 where
  pub freed : HasFreed n events flow
  pub allowed : AreAllowed n a events flow.told.moves

abbrev pub HaveRaised : ℕ → ℕ → List Event → Delivered → Type 0
HaveRaised n a events d = OfDelivery (HasRaised n a) (AreAllowed n a) events d

more_allowed : (k a : ℕ) (events more : List Event) → k ≤ raised_all a events
    → k ≤ raised_all a (events ++ more)
more_allowed k a events more low =
    let grows = raised_all_more more (raised_all a events) in
    let same = raised-append events more a in
    omega (arith, low, grows, same)

done_raises : (n a : ℕ) (events : List Event) (e : Event) (acted kept : List Event) (flow : Flow)
    (b : PortState) (kept_a : List Event) (begin : Queues)
    → IsFlowing b kept_a begin flow → IsFlowing b kept_a begin
    (done e acted kept flow) → HasRaised n a events flow → HasRaised n a (events ++ e ∷ [])
    (done e acted kept flow)
done_raises n a events e acted kept flow b kept_a begin before next h =
    let raises =
    event_raises (n + freed_count flow.told.moves) (raised_all a events) flow.port e before.port
    next.port.outstanding (not_failed (acts flow.port e).port b _ _ next.sound) h.freed.oldest
    h.allowed in
    let count = done_count flow e in
    let same = raised-append events (e ∷ []) a in
    record {
      freed = done_frees n events e acted kept flow b kept_a begin before next h.freed;
      allowed = omega (arith, count, same, raises);
    }

raises_stepwise : (n a : ℕ) (b : PortState) (kept_a : List Event) (begin : Queues)
    → IsStepwise b kept_a begin (HasRaised n a) (AreAllowed n a)
raises_stepwise n a b kept_a begin = record {
  one = λ events e acted kept flow before next h. done_raises n a events e acted kept flow b kept_a
      begin before next h;
  undetected = λ events flow h. h.allowed;
  more = λ events rest moves h. more_allowed (n + freed_count moves) a events rest h;
  ends = λ events flow place count h. record {
    freed = record { oldest = h.freed.oldest; all = h.freed.all };
    allowed = h.allowed;
  };
}

-- a delivery to a port whose oldest packet is the n-th, where so many are allowed
pub delivered_raises : (s : Seen) (p q : PortRef) (chars : List Char) (n m : ℕ) → IsLink s p q
    → oldest_of (s.halves q).output ≡ n % 32 → n ≤ m
    → HaveRaised n m (said (s.halves q).place chars) (taken_from s p q chars)
delivered_raises s p q chars n m link is low =
    taken_keeps s p q chars (raises_stepwise n m _ _ _) link (record {
      freed = frees_begin n (port_seen s q) _ is;
      allowed = omega (arith, low);
    })
