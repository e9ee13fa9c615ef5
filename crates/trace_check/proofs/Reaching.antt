-- What is reached line by line is what the lines before say.
use Rattle.std.proofs.Common.{◌≡◌, ℕ, ◌<◌, ◌++◌, List, [], ◌∷◌, refl, sym, ap, ◌∙◌, subst, arith}
use Rattle.fabric_script.specs.declared.ports.PortRef.{PortRef}
use Rattle.fabric_model.specs.Network.{Network}
use Rattle.fabric_model.specs.Steps.{after, after_all, Free, Hold, Linked, Step}
use Rattle.fabric_model.proofs.Peers.{port_is}
use Rattle.fabric_model.proofs.Flows.{links_along}
use Rattle.fabric_trace.specs.Allowance.{allowance}
use Rattle.fabric_trace.specs.Holds.{got}
use Rattle.trace_lines.specs.Lines.{Stepped, steps_of, TraceLine}
use Rattle.fabric_trace.specs.Wires.{WireChars}
use Rattle.fabric_trace.proofs.Parts.Keeping.{steps_of-append}
use Rattle.trace_check.specs.Checks.{freed, HoldHasCome, IsAllowed, LineIsStep, SendMayBe, net_after, OnWires, LinePasses}
use Rattle.trace_check.specs.Lawful.{Fault, NoSuchStep, NotAllowed, NotCome, NotThere, OffWire, Spares}
use Rattle.trace_check.specs.Reaches.{IsPortRun, Reaches}
use Rattle.trace_check.specs.Running.{MayFree, MayHold, PortRun}
use Rattle.trace_check.specs.States.{FreeMayBe, HoldMayBe, reached_after, ReachedState, SparesAt, unreached}
use Rattle.trace_check.specs.Wires.{are_short, told_wires}
use Rattle.trace_check.proofs.Behind.{wires_on}
use Rattle.trace_check.proofs.Exclusive.{wires_alike}
use Rattle.trace_check.proofs.Running.{HoldsFit, may_hold, new_is, run_on}

pub start_behind : {nodes : ℕ} {net : Network} {behind : List TraceLine}
    → Reaches nodes net [] behind (unreached nodes net)
start_behind = record {
  nodes_are = refl;
  net_is = refl;
  links_are = refl;
  wires_are = refl;
  runs_are = new_is;
}

-- what stands behind the lines counts by the first of it alone
pub other_behind : {nodes : ℕ} {net : Network} {before one other : List TraceLine}
    {r : ReachedState} → are_short one ≡ are_short other → Reaches nodes net before one r
    → Reaches nodes net before other r
other_behind {net = net} {before} {one} {other} same is = record {
  nodes_are = is.nodes_are;
  net_is = is.net_is;
  links_are = is.links_are;
  wires_are = is.wires_are ∙ wires_alike net.links before (λ p. []) one other same;
  runs_are = is.runs_are;
}

-- ---- one more line

after-append : (net : Network) (xs ys : List Step)
    → after_all (after_all net xs) ys ≡ after_all net (xs ++ ys)
after-append net [] ys = refl
after-append net (step ∷ xs) ys = after-append (after net step) xs ys

holds_fit : (p : PortRef) (runs : PortRef → PortRun) (line : TraceLine) → HoldMayBe runs line
    → HoldsFit p (runs p) line
holds_fit p runs (Stepped (Linked (Hold q packet))) may =
    λ same. subst (λ x. MayHold (runs x) packet) (sym (port_is p q same)) may
holds_fit p runs _ may = tt

pub on_behind : {nodes : ℕ} {net : Network} {before behind : List TraceLine} {line : TraceLine}
    {r : ReachedState} → HoldMayBe r.runs line → Reaches nodes net before (line ∷ behind) r
    → Reaches nodes net (before ++ line ∷ []) behind (reached_after r line (are_short behind))
on_behind {net = net} {before} {behind} {line} {r} may is = record {
  nodes_are = is.nodes_are;
  net_is = ap (λ (n : Network). net_after n (line ∷ [])) is.net_is
      ∙ after-append net (steps_of before) (steps_of (line ∷ []))
      ∙ ap (after_all net) (sym (steps_of-append before (line ∷ [])));
  links_are = links_along r.net (steps_of (line ∷ [])) ∙ is.links_are;
  wires_are = (λ i. told_wires (is.links_are i) (is.wires_are i) line (are_short behind))
      ∙ wires_on net.links before (λ p. []) line behind;
  runs_are = λ p. run_on line (holds_fit p r.runs line may) (is.runs_are p);
}

-- ---- what is asked of what is reached is what is asked of the lines before

has_come : (before : List TraceLine) (runs : PortRef → PortRun) (line : TraceLine)
    → ((p : PortRef) → IsPortRun p before (runs p))
    → (HoldMayBe runs line → HoldHasCome before line)
    × (HoldHasCome before line → HoldMayBe runs line)
has_come before runs (Stepped (Linked (Hold q packet))) are =
    may_hold packet (are q)
has_come before runs _ are = (λ x. tt, λ x. tt)

may_free : (p : PortRef) (before : List TraceLine) (run : PortRun) → IsPortRun p before run
    → (MayFree run → freed p before < allowance (got p before))
    × (freed p before < allowance (got p before) → MayFree run)
may_free p before run is =
    let count = is.freed_is in
    let most = is.allowed in (
      λ may. omega (arith, may, count, most),
      λ less. omega (arith, less, count, most),
    )

is_allowed : (before : List TraceLine) (runs : PortRef → PortRun) (line : TraceLine)
    → ((p : PortRef) → IsPortRun p before (runs p))
    → (FreeMayBe runs line → IsAllowed before line) × (IsAllowed before line → FreeMayBe runs line)
is_allowed before runs (Stepped (Linked (Free p packet))) are =
    may_free p before (runs p) (are p)
is_allowed before runs _ are = (λ x. tt, λ x. tt)

module _ {nodes : ℕ} {net : Network} {before behind : List TraceLine} {line : TraceLine}
    {r : ReachedState} (is : Reaches nodes net before (line ∷ behind) r) where
  pub stands_so : (fault : Fault) → SparesAt r line (are_short behind) fault
      → Spares net before line behind fault
  stands_so OffWire on =
      subst (λ (w : WireChars). OnWires net.links w line (are_short behind)) is.wires_are
      (subst (λ l. OnWires l r.wires line (are_short behind)) is.links_are on)
  stands_so NoSuchStep needs = subst (λ (n : Network). LineIsStep n line) is.net_is needs
  stands_so NotCome may = (has_come before r.runs line is.runs_are).0 may
  stands_so NotAllowed may = (is_allowed before r.runs line is.runs_are).0 may
  stands_so NotThere may = subst (λ (n : Network). SendMayBe n line) is.net_is may

  pub stands_by : (fault : Fault) → Spares net before line behind fault
      → SparesAt r line (are_short behind) fault
  stands_by OffWire on =
      subst (λ l. OnWires l r.wires line (are_short behind)) (sym is.links_are)
      (subst (λ (w : WireChars). OnWires net.links w line (are_short behind)) (sym is.wires_are) on)
  stands_by NoSuchStep needs = subst (λ (n : Network). LineIsStep n line) (sym is.net_is) needs
  stands_by NotCome came = (has_come before r.runs line is.runs_are).1 came
  stands_by NotAllowed allowed = (is_allowed before r.runs line is.runs_are).1 allowed
  stands_by NotThere may = subst (λ (n : Network). SendMayBe n line) (sym is.net_is) may

  -- where all stand the line passes
  pub passes_so : ((fault : Fault) → SparesAt r line (are_short behind) fault)
      → LinePasses net before line behind
  passes_so all = record {
    wires = stands_so OffWire (all OffWire);
    step = stands_so NoSuchStep (all NoSuchStep);
    came = stands_so NotCome (all NotCome);
    allowed = stands_so NotAllowed (all NotAllowed);
    sends = stands_so NotThere (all NotThere);
  }
