-- What each event of a delivery keeps is kept by the whole delivery.
use Rattle.fabric_trace.proofs.Prelude.{ℕ, ◌++◌, true, false, List, All, [], ◌∷◌, map, Option, Some, None, sym, subst, append_assoc, if◌then◌else◌, append-nil, All-head, All-tail, Char, Event, Place, run, place_after, said, PortState, IsPort, is_acted, exchanged, Queues, queues_between, IsFlowing, AreFlowing, comes_flowing, HasAckAt, run_has, IsSound, Flow, Delivered, Through, WentUndetected, begun, done, met, comes, goes_on, come, ended, behind, Move, PortRef, Seen, port_seen, kept_of, taken_from, IsLink}
use Rattle.link_machine.proofs.Walking.{Stays}

-- P of the events so far and of the flow; where an event was not sent, U of the moves before it
abbrev pub OfDelivery : (List Event → Flow → Type 0) → (List Event → List Move → Type 0)
    → List Event → Delivered → Type 0
OfDelivery P U events (Through flow) = P events flow
OfDelivery P U events (WentUndetected told e) = U events told.moves

-- one event keeps it, the link being sound before and after; it says enough for a flow that ends
-- here; and more events and the end of the characters take nothing away
pub record IsStepwise (b : PortState) (kept_a : List Event) (begin : Queues)
    (P : List Event → Flow → Type 0) (U : List Event → List Move → Type 0) : Type 0 where
  pub one : (events : List Event) (e : Event) (acted kept : List Event) (flow : Flow)
      → IsFlowing b kept_a begin flow → IsFlowing b kept_a begin (done e acted kept flow)
      → P events flow → P (events ++ e ∷ []) (done e acted kept flow)
  pub undetected : (events : List Event) (flow : Flow) → P events flow → U events flow.told.moves
  pub more : (events rest : List Event) (moves : List Move) → U events moves
      → U (events ++ rest) moves
  pub ends : (events : List Event) (flow : Flow) (place : Place) (count : ℕ) → P events flow
      → OfDelivery P U events (ended place count (Through flow))

met_keeps : {b : PortState} {kept_a : List Event} {begin : Queues} {P : List Event → Flow → Type 0}
    {U : List Event → List Move → Type 0} → IsStepwise b kept_a begin P U
    → (events : List Event) (at : ℕ) (e : Event) (kept : Option (List Event)) (flow : Flow)
    → IsFlowing b kept_a begin flow → AreFlowing b kept_a begin (met at e kept flow)
    → P events flow → OfDelivery P U (events ++ e ∷ []) (met at e kept flow)
met_keeps k events at e None flow before next h =
    k.more events (e ∷ []) flow.told.moves (k.undetected events flow h)
met_keeps k events at e (Some kept) flow before next h =
    k.one events e (e ∷ []) kept flow before next h

comes_keeps : {b : PortState} {kept_a : List Event} {begin : Queues}
    {P : List Event → Flow → Type 0} {U : List Event → List Move → Type 0}
    → IsStepwise b kept_a begin P U
    → (events : List Event) (flow : Flow) (placed : ℕ × Event) → IsFlowing b kept_a begin flow
    → AreFlowing b kept_a begin (comes flow placed) → P events flow
    → OfDelivery P U (events ++ placed.1 ∷ []) (comes flow placed)
comes_keeps {b} {kept_a} {begin} {P} {U} k events flow placed before next h =
    (elim (is_acted flow.port placed.1) as (λ t. AreFlowing b kept_a begin
    (if t then met placed.0 placed.1 (behind placed.1 flow.kept) flow else Through
    (done placed.1 [] flow.kept flow))
    → OfDelivery P U (events ++ placed.1 ∷ [])
    (if t then met placed.0 placed.1 (behind placed.1 flow.kept) flow else Through
    (done placed.1 [] flow.kept flow))) [
      | true ↦ λ (f : AreFlowing b kept_a begin
          (met placed.0 placed.1 (behind placed.1 flow.kept) flow)). met_keeps k events placed.0
          placed.1 (behind placed.1 flow.kept) flow before f h
      | false ↦
          λ (f : IsFlowing b kept_a begin (done placed.1 [] flow.kept flow)). k.one events placed.1
          [] flow.kept flow before f h
    ]) next

abbrev events_of : List (ℕ × Event) → List Event
events_of events = map (λ (event : ℕ × Event). event.1) events

on_keeps : {b : PortState} {kept_a : List Event} {begin : Queues} {P : List Event → Flow → Type 0}
    {U : List Event → List Move → Type 0} → IsStepwise b kept_a begin P U
    → (events rest : List Event) (more : Flow → Delivered) (d : Delivered)
    → ((f : Flow) → IsFlowing b kept_a begin f → P events f
    → OfDelivery P U (events ++ rest) (more f)) → AreFlowing b kept_a begin d
    → OfDelivery P U events d → OfDelivery P U (events ++ rest) (goes_on more d)
on_keeps k events rest more (Through f) next flowing h = next f flowing h
on_keeps k events rest more (WentUndetected told e) next flowing h = k.more events rest told.moves h

come_keeps : {b : PortState} {kept_a : List Event} {begin : Queues} {P : List Event → Flow → Type 0}
    {U : List Event → List Move → Type 0} → IsStepwise b kept_a begin P U
    → (coming : List (ℕ × Event)) (events : List Event) (flow : Flow) → IsPort b
    → All HasAckAt coming → IsFlowing b kept_a begin flow → P events flow
    → OfDelivery P U (events ++ events_of coming) (come coming flow)
unfolding come
come_keeps {b} {kept_a} {begin} {P} {U} k [] events flow far has flowing h =
    subst (λ (l : List Event). P l flow) (sym (append-nil events)) h
come_keeps {b} {kept_a} {begin} {P} {U} k (placed ∷ coming) events flow far has flowing h =
    let own = All-head HasAckAt placed coming has in
    let more = All-tail HasAckAt placed coming has in
    let next = comes_flowing b kept_a begin flow placed far own flowing in
    subst (λ (l : List Event). OfDelivery P U l (goes_on (come coming) (comes flow placed)))
    (append_assoc events (placed.1 ∷ []) (events_of coming))
    (on_keeps k (events ++ placed.1 ∷ []) (events_of coming) (come coming) (comes flow placed)
    (λ f g h'. come_keeps k coming (events ++ placed.1 ∷ []) f far more g h') next
    (comes_keeps k events flow placed flowing next h))

ended_keeps : {b : PortState} {kept_a : List Event} {begin : Queues}
    {P : List Event → Flow → Type 0} {U : List Event → List Move → Type 0}
    → IsStepwise b kept_a begin P U
    → (events : List Event) (place : Place) (count : ℕ) (d : Delivered) → OfDelivery P U events d
    → OfDelivery P U events (ended place count d)
ended_keeps k events place count (Through flow) h = k.ends events flow place count h
ended_keeps k events place count (WentUndetected told e) h = h

-- of what is known: characters of the wire of p come to q
pub taken_keeps : (s : Seen) (p q : PortRef) (chars : List Char) {P : List Event → Flow → Type 0}
    {U : List Event → List Move → Type 0}
    → IsStepwise (port_seen s p) (kept_of (s.wires q))
    (queues_between (port_seen s q) (port_seen s p)) P U
    → IsLink s p q → P [] (begun (port_seen s q) (kept_of (s.wires p)))
    → OfDelivery P U (said (s.halves q).place chars) (taken_from s p q chars)
taken_keeps s p q chars {P} {U} k is h =
    let a = port_seen s q in
    let b = port_seen s p in
    let kept_a = kept_of (s.wires q) in
    let kept_b = kept_of (s.wires p) in
    let sound : IsSound a b kept_a kept_b = exchanged b a kept_b kept_a is.sound.sound in
    ended_keeps k (said a.place chars) (place_after a.place chars) _
    (come (run a.place 0 chars) (begun a kept_b))
    (come_keeps k (run a.place 0 chars) [] (begun a kept_b) is.sound.port_a
    (run_has a.place 0 chars)
    (record {
      port = is.sound.port_b;
      sound = subst (λ (l : List Event). IsSound a b l kept_b) (sym (append-nil kept_a)) sound;
      walks = Stays;
    }) h)
