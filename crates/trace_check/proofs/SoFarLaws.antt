-- Lines that a checker has taken are lawful so far.
use Rattle.std.proofs.Common.{◌≡◌, ◌++◌, ℕ, true, false, codes, List, [], ◌∷◌, Option, Some, None, refl, sym, subst}
use Rattle.rio_chars.specs.declared.edit.Edit.{Edit}
use Rattle.fabric_script.specs.declared.lines.Line.{Line}
use Rattle.fabric_script.specs.declared.ports.PortRef.{PortRef}
use Rattle.fabric_script.specs.Known.{IsOrderly}
use Rattle.fabric_trace.specs.Fold.{edit_of}
use Rattle.fabric_trace.specs.Wires.{WireChars}
use Rattle.trace_lines.specs.Lines.{Begun}
use Rattle.trace_check.specs.declared.checker.Checker.{Checker}
use Rattle.trace_check.specs.Checks.{EditFits}
use Rattle.trace_check.specs.Lawful.{as_behind, Fault, NoSuchStep, NotAllowed, NotCome, NotThere, OffWire}
use Rattle.trace_check.specs.SoFar.{HasRead, IsLawfulSoFar}
use Rattle.trace_check.specs.Starting.{net_of}
use Rattle.trace_check.specs.States.{ReachedState, SparesAt}
use Rattle.trace_check.specs.Taken.{HasTakenLines}
use Rattle.trace_check.proofs.Behind.{text_short}
use Rattle.trace_check.proofs.Reaching.{other_behind, passes_so}
use Rattle.trace_check.proofs.StopLaws.{read_more}
use Rattle.trace_check.proofs.TakeLaws.{going_on, none_waits, waits_of}

-- the line that takes the fault from an edit
abbrev short_only : List (List ℕ)
short_only = codes "short" ∷ []

edit_short : (wires : WireChars) (edit : Option (PortRef × Edit)) → EditFits wires true edit
edit_short wires None = tt
edit_short wires (Some edit) = tt

event_spared : (r : ReachedState) (event : Line) (fault : Fault)
    → SparesAt r (Begun event) true fault
event_spared r event OffWire = edit_short r.wires (edit_of event)
event_spared r event NoSuchStep = tt
event_spared r event NotCome = tt
event_spared r event NotAllowed = tt
event_spared r event NotThere = tt

pub so_far : (checker : Checker) (texts : List (List ℕ)) → IsOrderly checker.set_up.known
    → HasTakenLines texts checker
    → IsLawfulSoFar checker.set_up.known (net_of checker.set_up) texts
so_far checker texts orderly has = by_waiting checker.waiting refl
  where
    by_waiting : (waiting : Option Line) → checker.waiting ≡ waiting
        → IsLawfulSoFar checker.set_up.known (net_of checker.set_up) texts
    by_waiting None is =
        let are = none_waits checker.set_up checker.reader texts checker.waiting is
        has.taken short_only in
        record { ended = checker.reader.ended; lines = are.lines; read = are.read }
    by_waiting (Some event) is =
        let waits = waits_of checker.set_up checker.reader texts checker.waiting event is
        has.taken in
        let are = going_on checker.set_up checker.reader waits.goes (waits.read short_only) in
        let behind = other_behind
        (text_short short_only (as_behind short_only) orderly waits.spelled) are.behind in
        let read = read_more waits.front false short_only orderly are.read.0 are.read.1
        waits.spelled refl (passes_so behind (event_spared are.r event)) in
        record {
          ended = false;
          lines = are.lines ++ Begun event ∷ [];
          read = subst (λ (l : List (List ℕ)).
              HasRead checker.set_up.known (net_of checker.set_up) false l
              (are.lines ++ Begun event ∷ []) short_only)
              (sym waits.split) read;
        }
