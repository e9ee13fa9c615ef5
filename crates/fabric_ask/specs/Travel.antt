-- Where a maintenance packet comes to, round by round.
use Rattle.std.specs.Prelude.{◌≡◌, ℕ, suc, ◌+◌, ◌≤◌, true, List, ◌++◌, Some, None, MatchBool}
use Rattle.rio_packets.specs.Fields.{is_maintenance, dest_of, hop_of}
use Rattle.rio_packets.specs.LinkForm.{Passes}
use Rattle.rio_chars.specs.declared.edit.Edit.{Edit}
use Rattle.fabric_script.specs.declared.ports.PortRef.{PortRef}
use Rattle.fabric_model.specs.Network.{Item, Network}
use Rattle.fabric_model.specs.Laws.Leaving.{IsAfterMoves}
use Rattle.fabric_trace.specs.Fold.{seen}
use Rattle.fabric_trace.specs.Known.{Seen}
use Rattle.trace_lines.specs.Lines.{TraceLine}
use Rattle.fabric_trace.specs.Parts.{Made}
use Rattle.fabric_trace.specs.Served.{IsCollect}
use Rattle.fabric_ask.specs.Course.{FinalAt}
use Rattle.fabric_ask.specs.Own.{CollectsNothing}
use Rattle.fabric_ask.specs.Asks.{holds_some, AskRounds}

-- a maintenance packet on its way to a destination, with so many hops left
pub record IsOn (packet : List ℕ) (dest hops : ℕ) : Type 0 where
  pub passes : Passes packet
  pub maintenance : is_maintenance packet ≡ true
  pub goal : dest_of packet ≡ Some dest
  pub hop : hop_of packet ≡ Some hops

-- what follows a round in which at most so many are left
abbrev pub GoesOn : ℕ → ℕ → List Edit → Seen → List TraceLine → Type 0
GoesOn host rounds noise t rest = MatchBool (holds_some host t)
    (IsCollect t.network host rest) (AskRounds host rounds noise t rest)

-- After some rounds the packet has come to a port, and something became of it there. `rounds` is
-- how many rounds may be made, `hops` how many hops it had, and `left` how many it has left.
pub record HasCome (host rounds dest hops left : ℕ) (s : Seen) (lines : List TraceLine)
    (at : PortRef) (item : Item) : Type 0 where
  pub front : List TraceLine
  pub rest : List TraceLine
  pub whole : lines ≡ front ++ rest
  pub made : Made s front
  pub nothing : CollectsNothing host front
  pub still : (seen s front).undetected ≡ None
  pub links : (seen s front).network.links ≡ s.network.links
  pub passed : Item
  pub moves : ℕ
  pub on : IsOn passed.now dest left
  pub same_packet : IsAfterMoves item.now moves passed.now
  pub hops_are : moves + left ≡ hops
  pub mid : Network
  pub registers : mid.registers ≡ s.network.registers
  pub final : FinalAt host mid at passed left (seen s front).network
  pub rounds_left : ℕ
  pub noise_left : List Edit
  pub enough : rounds ≤ rounds_left + suc moves
  pub more : GoesOn host rounds_left noise_left (seen s front) rest
