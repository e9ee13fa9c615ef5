-- No line of a trace and no character changes which ports tell, nor what was told.
use Rattle.fabric_trace.proofs.Prelude.{◌≡◌, ℕ, Bool, true, false, List, [], ◌∷◌, Option, Some, None, All, IfSome, refl, sym, ap, ◌∙◌, subst, if◌then◌else◌, Char, Event, Ctl, Pkt, Bad, Place, run, place_after, PortState, acts, is_acted, IsTold, TellsAs, last_report, Flow, Delivered, Through, WentUndetected, begun, done, met, comes, goes_on, come, ended, delivered, behind, PortRef, Network, peer_in, TraceLine, steps_of, Seen, seen}
use Rattle.link_model.specs.Output as out
use Rattle.fabric_model.specs.Steps.{Hold, Free, Take, Leave, Move, Drop, Answer, Step, Linked, AtNode, ByDevice, after_hold, after, after_all}
use Rattle.fabric_trace.proofs.Parts.Folding.{network_is}

-- ---- characters

-- the port tells as before, where every event was sent
abbrev TellsStill : Bool → Delivered → Type 0
TellsStill tells (Through flow) = flow.port.tells ≡ tells
TellsStill tells (WentUndetected told e) = Unit {0}

act_tells : (port : PortState) (e : Event) → (acts port e).port.tells ≡ port.tells
act_tells port (Ctl symbol) = refl
act_tells port (Pkt ack packet) = refl
act_tells port (Bad cause) = refl

met_tells : (at : ℕ) (e : Event) (kept : Option (List Event)) (flow : Flow)
    → TellsStill flow.port.tells (met at e kept flow)
met_tells at e None flow = tt
met_tells at e (Some kept) flow = act_tells flow.port e

comes_tells : (flow : Flow) (placed : ℕ × Event) → TellsStill flow.port.tells (comes flow placed)
comes_tells flow placed =
    elim (is_acted flow.port placed.1) as (λ b. TellsStill flow.port.tells
    (if b then met placed.0 placed.1 (behind placed.1 flow.kept) flow
    else Through (done placed.1 [] flow.kept flow))) [
      | true ↦ met_tells placed.0 placed.1 (behind placed.1 flow.kept) flow
      | false ↦ act_tells flow.port placed.1
    ]

on_tells : (tells : Bool) (more : Flow → Delivered) (d : Delivered)
    → ((flow : Flow) → TellsStill flow.port.tells (more flow)) → TellsStill tells d
    → TellsStill tells (goes_on more d)
on_tells tells more (Through flow) next is = subst (λ b. TellsStill b (more flow)) is (next flow)
on_tells tells more (WentUndetected told e) next is = tt

come_tells : (events : List (ℕ × Event)) (flow : Flow)
    → TellsStill flow.port.tells (come events flow)
unfolding come
come_tells [] flow = refl
come_tells (placed ∷ events) flow =
    on_tells flow.port.tells (come events) (comes flow placed) (come_tells events)
    (comes_tells flow placed)

ended_tells : (tells : Bool) (place : Place) (count : ℕ) (d : Delivered) → TellsStill tells d
    → TellsStill tells (ended place count d)
ended_tells tells place count (Through flow) is = is
ended_tells tells place count (WentUndetected told e) is = tt

pub through_tells : (port : PortState) (kept : List Event) (chars : List Char) (flow : Flow)
    → delivered port kept chars ≡ Through flow → flow.port.tells ≡ port.tells
through_tells port kept chars flow through =
    subst (TellsStill port.tells) through
    (ended_tells port.tells (place_after port.place chars) _
    (come (run port.place 0 chars) (begun port kept))
    (come_tells (run port.place 0 chars) (begun port kept)))

-- ---- what is told

-- what is told stays so of ports that keep the same report and tell as before
pub told_by : {a b p q : PortState} {kept : List Event} → IsTold a b kept → p.output ≡ a.output
    → q.tells ≡ b.tells → IsTold p q kept
told_by {a} {b} {p} {q} {kept} told output tells = record {
  coming = subst (λ t. All (TellsAs t) kept) (sym tells) told.coming;
  keeps =
      subst (λ (o : out.Output). IfSome (last_report o) (λ report. q.tells ≡ true)) (sym output)
      (subst (λ t. IfSome (last_report a.output) (λ report. t ≡ true)) (sym tells) told.keeps);
}

-- ---- lines

hold_tells : (net : Network) (q : PortRef) (peer : Option PortRef) (r : ℕ)
    → (after_hold net q peer r).tells ≡ net.tells
hold_tells net q None r = refl
hold_tells net q (Some p) r = refl

step_tells : (net : Network) (step : Step) → (after net step).tells ≡ net.tells
step_tells net (Linked (Hold q packet)) = hold_tells net q (peer_in net.links q) _
step_tells net (Linked (Free p packet)) = refl
step_tells net (AtNode (Take n packet)) = refl
step_tells net (AtNode (Leave n packet)) = refl
step_tells net (ByDevice (Move p q packet)) = refl
step_tells net (ByDevice (Drop p packet)) = refl
step_tells net (ByDevice (Answer p packet response)) = refl

steps_tell : (net : Network) (steps : List Step) → (after_all net steps).tells ≡ net.tells
steps_tell net [] = refl
steps_tell net (step ∷ steps) = steps_tell (after net step) steps ∙ step_tells net step

pub lines_tell : (s : Seen) (lines : List TraceLine)
    → (seen s lines).network.tells ≡ s.network.tells
lines_tell s lines =
    ap (λ (net : Network). net.tells) (network_is s lines) ∙ steps_tell s.network (steps_of lines)
