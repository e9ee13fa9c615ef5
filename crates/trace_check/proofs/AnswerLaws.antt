-- What is answered of a line, by what it changes.
use Rattle.std.proofs.Common.{◌≡◌, ℕ, ◌+◌, ◌<◌, ◌++◌, Bool, true, false, List, [], ◌∷◌, length, Option, Some, None, inr, option_map, refl, sym, subst}
use Rattle.link_wires.specs.Wires.{fits}
use Rattle.rio_chars.specs.declared.edit.Edit.{Edit}
use Rattle.rio_chars.specs.declared.chars.Char.{Char}
use Rattle.fabric_script.specs.declared.lines.Line.{Line}
use Rattle.fabric_script.specs.declared.ports.PortRef.{PortRef}
use Rattle.fabric_script.specs.Known.{Known}
use Rattle.fabric_model.specs.Steps.{after, AtNode, ByDevice, DeviceStep, Free, Hold, Linked, Needs, NodeStep, Step}
use Rattle.fabric_model.proofs.Joining.{links_stay}
use Rattle.fabric_trace.specs.Fold.{changed, edit_of}
use Rattle.trace_lines.specs.Lines.{Begun, Got, Sent, Signed, Stepped, steps_of, TraceLine}
use Rattle.fabric_trace.specs.Wires.{edited_chars, IsFrontOf, with_chars}
use Rattle.trace_check.specs.declared.network.Network.{Network as Kept}
use Rattle.trace_check.specs.declared.state.Fault.{Fault as ReadFault}
use Rattle.trace_check.specs.declared.state.Fault.TheVariants as F
use Rattle.trace_check.specs.declared.state.State.{State}
use Rattle.trace_check.specs.Checks.{EditFits, SendMayBe}
use Rattle.trace_check.specs.Lawful.{Fault, fault_number, is_last}
use Rattle.trace_check.specs.Networks.{AreKeptLinks, IsStepOf, MakesIt}
use Rattle.trace_check.specs.Outcomes.{ReadsNextText}
use Rattle.trace_check.specs.States.{Checks, fault_of, ChecksFree, ChecksHold, IsReachedState, reached_after, ReachedState, SparesAt}
use Rattle.trace_check.specs.Tables.{IsIn}
use Rattle.trace_lines.specs.Words.{SpellsLine}
use Rattle.trace_check.proofs.FaultLaws.{all_stand, below_allowed, below_come, below_step}

module _ {r : ReachedState} {line : TraceLine} {short : Bool} {state : State} where
  stands : ((fault : Fault) → SparesAt r line short fault)
      → IsReachedState (reached_after r line short) state → Checks r line short state None
  stands all is = record { answer = all; reached = λ none. is }

  fails : (fault : ReadFault) → (SparesAt r line short (fault_of fault) → ⊥)
      → ((other : Fault) → fault_number other < fault_number (fault_of fault)
      → SparesAt r line short other) → Checks r line short state (Some fault)
  fails fault hit below = record { answer = (hit, below); reached = λ none. absurd cc }

-- ---- edits

pub edit_made : {r : ReachedState} {line : Line} {state : State} (p : PortRef) (edit : Edit)
    → Some (p, edit) ≡ edit_of line → fits edit (r.wires p) ≡ true
    → IsReachedState (record r { wires = with_chars r.wires p (changed edit (r.wires p)) }) state
    → Checks r (Begun line) false state None
edit_made {r} {line} {state} p edit some fit is = stands
    (all_stand (SparesAt r (Begun line) false) (subst (EditFits r.wires false) some fit) tt tt tt
    tt)
    (subst (λ e. IsReachedState (record r { wires = edited_chars r.wires e }) state) some is)

-- ---- signs

module _ {r : ReachedState} {short : Bool} {state : State} where
  pub sent_stands : {p : PortRef} {chars : List Char} → SendMayBe r.net (Signed (Sent p chars))
      → IsReachedState (record r { wires = with_chars r.wires p (r.wires p ++ chars) }) state
      → Checks r (Signed (Sent p chars)) short state None
  sent_stands {p} {chars} may is =
      stands (all_stand (SparesAt r (Signed (Sent p chars)) short) tt tt tt tt may) is

  pub got_stands : {q : PortRef} {chars : List Char} → IsFrontOf r.net.links r.wires q chars
      → IsReachedState (reached_after r (Signed (Got q chars)) short) state
      → Checks r (Signed (Got q chars)) short state None
  got_stands {q} {chars} front is =
      stands (all_stand (SparesAt r (Signed (Got q chars)) short) front tt tt tt tt) is

-- ---- steps

-- what is known where a step was made
pub record IsMade (r : ReachedState) (step : Step) (state : State) : Type 0 where
  pub within : IsStepOf r.nodes step
  pub needs : Needs r.net step
  pub reached : IsReachedState (record r { net = after r.net step }) state

pub step_made : {r : ReachedState} {step : Step} {old : State} {network : Kept} {was : Bool}
    → IsReachedState r old → IsStepOf r.nodes step → MakesIt r.nodes r.net step network was
    → was ≡ true → IsMade r step (record old { network = network })
step_made {r} {step} {old} is within makes so = record {
  within = within;
  needs = makes.0.0 so;
  reached = record {
    links = subst (λ l. AreKeptLinks r.nodes l old.links) (sym (links_stay r.net step)) is.links;
    network = makes.1 so;
    wires = is.wires;
    runs = is.runs;
  };
}

pub not_made : {r : ReachedState} {short : Bool} {state : State} {step : Step} {network : Kept}
    {was : Bool} → MakesIt r.nodes r.net step network was → was ≡ false
    → Checks r (Stepped step) short state (Some F.NoStep)
not_made {r} {short} {step = step} makes other = fails F.NoStep
    (λ needs. let so = makes.0.1 needs in absurd (cc (so, other)))
    (below_step (SparesAt r (Stepped step) short) tt)

-- what is asked of a port once the step was made
abbrev Asked : State → PortRef → (ReachedState → Type 0) → Type 0
Asked old p Answers = (x : ReachedState) → IsReachedState x old → IsIn x.nodes p → Answers x

module _ {r : ReachedState} {short : Bool} {old state : State} where
  pub hold_stands : {q : PortRef} {packet : List ℕ} → IsMade r (Linked (Hold q packet)) old
      → Asked old q (λ x. ChecksHold x q packet state true)
      → Checks r (Stepped (Linked (Hold q packet))) short state None
  hold_stands {q} {packet} made asked =
      let holds = asked _ made.reached made.within in
      stands (all_stand (SparesAt r (Stepped (Linked (Hold q packet))) short) tt made.needs
      (holds.0.0 refl) tt tt) (holds.1 refl)

  pub hold_fails : {q : PortRef} {packet : List ℕ} → IsMade r (Linked (Hold q packet)) old
      → Asked old q (λ x. ChecksHold x q packet state false)
      → Checks r (Stepped (Linked (Hold q packet))) short state (Some F.NotCome)
  hold_fails {q} {packet} made asked = fails F.NotCome
      (λ may. let came = (asked _ made.reached made.within).0.1 may in absurd cc)
      (below_come (SparesAt r (Stepped (Linked (Hold q packet))) short) tt made.needs)

  pub free_stands : {p : PortRef} {packet : List ℕ} → IsMade r (Linked (Free p packet)) old
      → Asked old p (λ x. ChecksFree x p state true)
      → Checks r (Stepped (Linked (Free p packet))) short state None
  free_stands {p} {packet} made asked =
      let frees = asked _ made.reached made.within in
      stands (all_stand (SparesAt r (Stepped (Linked (Free p packet))) short) tt made.needs tt
      (frees.0.0 refl) tt) (frees.1 refl)

  pub free_fails : {p : PortRef} {packet : List ℕ} → IsMade r (Linked (Free p packet)) old
      → Asked old p (λ x. ChecksFree x p state false)
      → Checks r (Stepped (Linked (Free p packet))) short state (Some F.NotAllowed)
  free_fails {p} {packet} made asked = fails F.NotAllowed
      (λ may. let allowed = (asked _ made.reached made.within).0.1 may in absurd cc)
      (below_allowed (SparesAt r (Stepped (Linked (Free p packet))) short) tt made.needs tt)

pub node_stands : {r : ReachedState} {short : Bool} {state : State} {step : NodeStep}
    → IsMade r (AtNode step) state → Checks r (Stepped (AtNode step)) short state None
node_stands {r} {short} {step = step} made =
    stands (all_stand (SparesAt r (Stepped (AtNode step)) short) tt made.needs tt tt tt)
    made.reached

pub device_stands : {r : ReachedState} {short : Bool} {state : State} {step : DeviceStep}
    → IsMade r (ByDevice step) state → Checks r (Stepped (ByDevice step)) short state None
device_stands {r} {short} {step = step} made =
    stands (all_stand (SparesAt r (Stepped (ByDevice step)) short) tt made.needs tt tt tt)
    made.reached

-- ---- of a text

-- a line that a text spells was taken in
pub reads_by : {known : Known} {r : ReachedState} {text : List ℕ} {line : TraceLine}
    {state : State} (short : Bool) (steps : ℕ) (ends : Bool) (more : ℕ) (fault : Option ReadFault)
    → SpellsLine known text line → ends ≡ is_last line
    → more ≡ steps + length (steps_of (line ∷ [])) → Checks r line short state fault
    → ReadsNextText known r text short false steps ends more state
    (option_map (λ f. fault_number (fault_of f)) fault)
reads_by {line = line} short steps ends more None spelled ends_is more_is checks = (
  refl,
  record {
    line = line;
    spelled = spelled;
    ends_is = ends_is;
    more_is = more_is;
    checked = checks;
  },
)
reads_by {line = line} short steps ends more (Some f) spelled ends_is more_is checks =
    inr (record {
      line = line;
      spelled = spelled;
      fault = f;
      number = refl;
      least = checks.answer;
    })
