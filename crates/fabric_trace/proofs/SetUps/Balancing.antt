-- What a trace took stands at ports of nodes, has left or was dropped.
use Rattle.fabric_trace.proofs.Prelude.{◌≡◌, ℕ, ◌+◌, List, ScriptPasses, Numbered, StandAtNodes, all_ports, all_at_nodes, seen, TraceLine, steps_of, bare, set_up_all, start, Runs}
use Rattle.fabric_model.specs.Laws.Stock.{stock, takes_by, leaves_by, drops_by, steps_in}
use Rattle.fabric_model.proofs.Stocks.{taken_balance}
use Rattle.fabric_trace.proofs.SetUps.Happening.{may_set_up}
use Rattle.fabric_trace.proofs.SetUps.Joins.{scripts_join}
use Rattle.fabric_trace.proofs.SetUps.Starting.{set_up_bare, legal, made}

pub runs_stand : (names : List (List ℕ)) (script : List Numbered) (lines : List TraceLine)
    → ScriptPasses names script → Runs script lines
    → StandAtNodes (seen (start script) lines).network
runs_stand names script lines passes runs =
    let may = may_set_up names script passes in
    let is = set_up_bare script may in
    all_at_nodes (set_up_all bare script) (steps_of lines)
    (seen (start script) lines).network is.empty (scripts_join names script passes)
    (legal (set_up_all bare script) lines is (made script lines may runs))

pub runs_balance : (names : List (List ℕ)) (script : List Numbered) (lines : List TraceLine)
    → ScriptPasses names script → Runs script lines
    → steps_in takes_by (steps_of lines) ≡ steps_in leaves_by (steps_of lines) + steps_in drops_by
    (steps_of lines) + stock (seen (start script) lines).network
    (all_ports (seen (start script) lines).network.registers)
runs_balance names script lines passes runs =
    let may = may_set_up names script passes in
    let is = set_up_bare script may in
    taken_balance (set_up_all bare script) (steps_of lines)
    (seen (start script) lines).network is.empty (scripts_join names script passes)
    (legal (set_up_all bare script) lines is (made script lines may runs))
