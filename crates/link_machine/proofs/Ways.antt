-- No sender fails within a delivery: each event before one that was not sent leaves the link sound.
use Rattle.link_machine.proofs.Prelude.{◌≢◌, ℕ, List, All, [], ◌∷◌, take, sym, subst, append-nil, All-head, All-tail, All-take, run, Event, PortState, IsPort, IsSound, not_failed, other_side, Side, Flow, Delivered, Through, WentUndetected, begun, comes, Queues, queues_between, IsSoundLink, LinkState, from_end}
use Rattle.link_model.specs.Output as out
use Rattle.link_machine.specs.OnTheWay.{led_on, port_reached, first_reached, reached_within}
use Rattle.link_machine.proofs.Arriving.{HasAckAt, run_has}
use Rattle.link_machine.proofs.Flowing.{IsFlowing, AreFlowing, comes_flowing}
use Rattle.link_machine.proofs.Machine.{from_end_keeps}
use Rattle.link_machine.proofs.Walking.{Stays}

on_working :
    (b : PortState) (kept_a : List Event) (start : Queues) (more : Flow → PortState)
    (port : PortState) (d : Delivered) → port.output ≢ out.Output.Failed
    → ((f : Flow) → IsFlowing b kept_a start f → (more f).output ≢ out.Output.Failed)
    → AreFlowing b kept_a start d → (led_on more port d).output ≢ out.Output.Failed
on_working b kept_a start more port (Through flow) works next h = next flow h
on_working b kept_a start more port (WentUndetected told e) works next h = works

reached_works :
    (b : PortState) (kept_a : List Event) (start : Queues) (events : List (ℕ × Event)) (flow : Flow)
    → IsPort b → All HasAckAt events → IsFlowing b kept_a start flow
    → (port_reached events flow).output ≢ out.Output.Failed
reached_works b kept_a start [] flow far has f = not_failed flow.port b _ flow.kept f.sound
reached_works b kept_a start (placed ∷ events) flow far has f =
    on_working b kept_a start (port_reached events) flow.port (comes flow placed)
    (not_failed flow.port b _ flow.kept f.sound)
    (λ next h. reached_works b kept_a start events next far (All-tail HasAckAt placed events has) h)
    (comes_flowing b kept_a start flow placed far (All-head HasAckAt placed events has) f)

-- whichever events come to a port of a sound link
pub events_work :
    (a b : PortState) (kept_a kept_b : List Event) (events : List (ℕ × Event)) → IsPort a
    → IsPort b → All HasAckAt events → IsSound a b kept_a kept_b
    → (port_reached events (begun a kept_b)).output ≢ out.Output.Failed
events_work a b kept_a kept_b events near far has sound =
    reached_works b kept_a (queues_between a b) events (begun a kept_b) far has (record {
      port = near;
      sound = subst (λ (l : List Event). IsSound a b l kept_b) (sym (append-nil kept_a)) sound;
      walks = Stays;
    })

first_works : (count events : ℕ) (s : LinkState) → IsSoundLink s
    → (first_reached count events s).output ≢ out.Output.Failed
first_works count events s l =
    events_work s.a s.b s.wire_a.kept s.wire_b.kept
    (take events (run s.a.place 0 (take count s.wire_b.chars))) l.port_a l.port_b
    (All-take HasAckAt events (run s.a.place 0 (take count s.wire_b.chars))
    (run_has s.a.place 0 (take count s.wire_b.chars))) l.sound

pub none_fails_within : (from : Side) (count events : ℕ) (s : LinkState) → IsSoundLink s
    → (reached_within from count events s).output ≢ out.Output.Failed
none_fails_within from count events s l =
    first_works count events (from_end (other_side from) s) (from_end_keeps (other_side from) s l)
