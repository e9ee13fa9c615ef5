-- The steps of a trace are at ports and nodes of its script, and their packets are in link form.
use Rattle.lawful_traces.proofs.Prelude.{◌≡◌, ℕ, ◌++◌, Bool, true, false, List, [], ◌∷◌, slice_get, Option, Some, None, if◌then◌else◌, refl, sym, subst, AllByRecursion, prio_of, Passes, Known, PortRef, Item, Network, same_port, first_packet, peer_in, HasPort, IsPortOf, IsSpot, JoinsNodes, StandAtNodes, AreWell, well_on, well_passes, all-append, first_of_all, next_there, joins_on, stands_on, TraceLine, Begun, Stepped, Signed, Lacked, Ended, Undetected, steps_of, StepFits}
use Rattle.fabric_model.specs.Steps.{Hold, Free, Take, Leave, Move, Drop, Answer, Step, Linked, AtNode, ByDevice, Needs, behind_first, only_first, after_hold, after, LegalFrom}
use Rattle.fabric_model.specs.Laws.Holding.{WaitingAt}
use Rattle.lawful_traces.proofs.Ports.{KnowsNet, knows_on}

-- what is so of a step: of the steps of links their packets alone
abbrev pub IsStepSo : Known → Step → Type 0
IsStepSo known (Linked (Hold q packet)) = Passes packet
IsStepSo known (Linked (Free p packet)) = Passes packet
IsStepSo known step = StepFits known step

abbrev pub IsLineSo : Known → TraceLine → Type 0
IsLineSo known (Stepped step) = IsStepSo known step
IsLineSo known _ = Unit {0}

-- ---- what is lent is in link form

abbrev ArePassing : List Item → Type 0
ArePassing items = AllByRecursion (λ (item : Item). Passes item.now) items

abbrev LentPasses : Network → Type 0
LentPasses net = (p : PortRef) → ArePassing (net.lent p)

first_passes : (items : List Item) (packet : List ℕ) → ArePassing items
    → first_packet items ≡ Some packet → Passes packet
first_passes [] packet all is = absurd cc
first_passes (item ∷ items) packet all is =
    let same : item.now ≡ packet = cc in subst Passes same all.0

abbrev ArePassingAt : ℕ → List Item → Type 0
ArePassingAt r items =
    AllByRecursion (λ (item : Item). Passes item.now × (prio_of item.now ≡ r)) items

passing_at : (r : ℕ) (items : List Item) → ArePassingAt r items → ArePassing items
passing_at r [] all = tt
passing_at r (item ∷ items) all = (all.0.0, passing_at r items all.1)

waiting_passes : (net : Network) (p : PortRef) (r : ℕ) → AreWell net
    → ArePassing (net.waiting p r)
waiting_passes net p r well = passing_at r (net.waiting p r) (well (WaitingAt p r))

only_passes : (items : List Item) → ArePassing items → ArePassing (only_first items)
only_passes [] all = tt
only_passes (item ∷ items) all = (all.0, tt)

behind_passes : (items : List Item) → ArePassing items → ArePassing (behind_first items)
behind_passes [] all = tt
behind_passes (item ∷ items) all = all.1

either_passes : (own : Bool) (one other : List Item) → ArePassing one → ArePassing other
    → ArePassing (if own then one else other)
either_passes true one other first second = first
either_passes false one other first second = second

hold_lends : (net : Network) (q : PortRef) (peer : Option PortRef) (r : ℕ) → AreWell net
    → LentPasses net → LentPasses (after_hold net q peer r)
hold_lends net q None r well lent c = lent c
hold_lends net q (Some p) r well lent c =
    either_passes (same_port c p) (net.lent p ++ only_first (net.waiting p r)) (net.lent c)
    (all-append (λ (item : Item). Passes item.now) (net.lent p) (only_first (net.waiting p r))
    (lent p) (only_passes (net.waiting p r) (waiting_passes net p r well))) (lent c)

lent_on : (net : Network) (step : Step) → AreWell net → LentPasses net
    → LentPasses (after net step)
lent_on net (Linked (Hold q packet)) well lent c =
    hold_lends net q (peer_in net.links q) (prio_of packet) well lent c
lent_on net (Linked (Free p packet)) well lent c =
    either_passes (same_port c p) (behind_first (net.lent p)) (net.lent c)
    (behind_passes (net.lent p) (lent p)) (lent c)
lent_on net (AtNode (Take n packet)) well lent c = lent c
lent_on net (AtNode (Leave n packet)) well lent c = lent c
lent_on net (ByDevice (Move p q packet)) well lent c = lent c
lent_on net (ByDevice (Drop p packet)) well lent c = lent c
lent_on net (ByDevice (Answer p packet response)) well lent c = lent c

-- ---- one step

-- what stands between two steps
pub record StandsSo (known : Known) (net : Network) : Type 0 where
  pub joins : JoinsNodes net
  pub stand : StandAtNodes net
  pub well : AreWell net
  pub lent : LentPasses net
  pub knows : KnowsNet known net

so_on : (known : Known) (net : Network) (step : Step) → StandsSo known net → Needs net step
    → StandsSo known (after net step)
so_on known net step so needs = record {
  joins = joins_on net step so.joins;
  stand = stands_on net step so.joins needs so.stand;
  well = well_on net (step ∷ []) (after net step) so.well (needs, refl);
  lent = lent_on net step so.well so.lent;
  knows = knows_on known net step so.knows;
}

port_there : (net : Network) (p : PortRef) (packet : List ℕ) → StandAtNodes net
    → first_packet (net.received p (prio_of packet)) ≡ Some packet → IsPortOf net.registers p
port_there net p packet stand first =
    (first_of_all (IsSpot net.registers p (prio_of packet)) (net.received p (prio_of packet))
    packet first (stand.received p (prio_of packet))).0

step_so : (known : Known) (net : Network) (step : Step) → StandsSo known net → Needs net step
    → IsStepSo known step
step_so known net (Linked (Hold q packet)) so needs =
    first_passes (net.waiting needs.0 (prio_of packet)) packet
    (waiting_passes net needs.0 (prio_of packet) so.well) needs.2
step_so known net (Linked (Free p packet)) so needs =
    first_passes (net.lent p) packet (so.lent p) needs
step_so known net (AtNode (Take n packet)) so needs = (so.knows.nodes n needs.0, needs.1)
step_so known net (AtNode (Leave n packet)) so needs = (
  so.knows.nodes n needs.0,
  well_passes net so.well (record { node = n; port = 0 }) (prio_of packet) packet needs.1,
)
step_so known net (ByDevice (Move p q packet)) so needs = (
  so.knows.ports p (port_there net p packet so.stand needs.1),
  so.knows.ports q (subst (λ n. HasPort (slice_get net.registers n) q.port) (sym needs.0)
      (next_there net p.node packet q.port needs.2)),
  well_passes net so.well p (prio_of packet) packet needs.1,
)
step_so known net (ByDevice (Drop p packet)) so needs = (
  so.knows.ports p (port_there net p packet so.stand needs.0),
  well_passes net so.well p (prio_of packet) packet needs.0,
)
step_so known net (ByDevice (Answer p packet response)) so needs = (
  so.knows.ports p (port_there net p packet so.stand needs.0),
  well_passes net so.well p (prio_of packet) packet needs.0,
  needs.3,
)

-- ---- all steps

steps_so : (known : Known) (steps : List Step) (net end : Network) → StandsSo known net
    → LegalFrom net steps end → AllByRecursion (IsStepSo known) steps
steps_so known [] net end so legal = tt
steps_so known (step ∷ steps) net end so legal = (
  step_so known net step so legal.0,
  steps_so known steps (after net step) end (so_on known net step so legal.0) legal.1,
)

lines_so : (known : Known) (lines : List TraceLine)
    → AllByRecursion (IsStepSo known) (steps_of lines) → AllByRecursion (IsLineSo known) lines
lines_so known [] all = tt
lines_so known (Begun line ∷ lines) all = (tt, lines_so known lines all)
lines_so known (Stepped step ∷ lines) all = (all.0, lines_so known lines all.1)
lines_so known (Signed sign ∷ lines) all = (tt, lines_so known lines all)
lines_so known (Lacked lack ∷ lines) all = (tt, lines_so known lines all)
lines_so known (Ended ∷ lines) all = (tt, lines_so known lines all)
lines_so known (Undetected number q e ∷ lines) all = (tt, lines_so known lines all)

pub legal_so : (known : Known) (lines : List TraceLine) (net end : Network) → StandsSo known net
    → LegalFrom net (steps_of lines) end → AllByRecursion (IsLineSo known) lines
legal_so known lines net end so legal =
    lines_so known lines (steps_so known (steps_of lines) net end so legal)
