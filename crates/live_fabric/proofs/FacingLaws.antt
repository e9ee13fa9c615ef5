-- The port of a line of a device outside is one of the fabric without a link.
use Rattle.std.proofs.Common.{◌≡◌, ◌≤◌, ℕ, ◌||◌, Bool, true, false, if◌then◌else◌, List, [], ◌∷◌, ◌++◌, length, find, option_map, Option, Some, None, refl, sym, ap, ◌∙◌, subst}
use Rattle.std.proofs.lemmas.Bool.{or_parts}
use Rattle.fabric_script.specs.declared.lines.Line.TheVariants.{Link}
use Rattle.fabric_script.specs.declared.lines.Numbered.{Numbered}
use Rattle.fabric_script.specs.declared.ports.PortRef.{PortRef}
use Rattle.fabric_script.specs.Known.{same_port, is_linked}
use Rattle.fabric_script.specs.Scripts.{pieces_of}
use Rattle.fabric_script.specs.SetUps.{for_event}
use Rattle.fabric_script.proofs.PeerLaws.{port_is}
use Rattle.fabric_model.specs.Network.{Network, peer_in}
use Rattle.trace_lines.specs.Words.{IsScriptPort}
use Rattle.fabric_trace.specs.Events.{IsNodePort}
use Rattle.fabric_trace.specs.Runs.{bare, set_up, set_up_all}
use Rattle.fabric_trace.specs.SetUps.{MaySetUp, MaySetUpAll}
use Rattle.fabric_trace.proofs.Network.Boards.{seen_board}
use Rattle.fabric_trace.proofs.SetUps.Happening.{may_set_up, ports_there}
use Rattle.fabric_ports.specs.declared.fabric.Fabric.{Fabric}
use Rattle.fabric_ports.specs.Outside.{PortIsFree}
use Rattle.fabric_ports.specs.Standing.{Stands}
use Rattle.fabric_ports.proofs.PlanLaws.{port_by_count}
use Rattle.fabric_replay.proofs.Naming.{names_suffice_on}
use Rattle.outside_lines.specs.declared.facing.Facing.{Facing}
use Rattle.outside_lines.specs.declared.reading.OutsideLine.{OutsideLine}
use Rattle.outside_lines.specs.declared.reading.OutsideLine.TheVariants.{External, Sent, Pump, Timeout}
use Rattle.outside_lines.specs.Facing.{port_beside, faces_out, is_joined}
use Rattle.outside_lines.specs.Reading.{is_taken, SpellsOutside}
use Rattle.live_fabric.specs.declared.live.Live.{Live}
use Rattle.live_fabric.specs.Lines.{Taken, seen_so_far}
use Rattle.live_fabric.specs.Holding.{IsFaced, AreFaced, LiveHolds}
use Rattle.live_fabric.specs.Outside.{MayGoOn, MayCarryOutside, port_of_line}
use Rattle.live_fabric.proofs.CountLaws.{seen_counts}
use Rattle.live_fabric.proofs.EventLaws.{link_passes}

-- ---- a port that faces out

faced_beside : (lines : List Numbered) (facing : List Facing) (device port : PortRef)
    → AreFaced lines facing → port_beside facing device ≡ Some port → IsFaced lines port
faced_beside lines [] device port all is = absurd cc
faced_beside lines (at ∷ more) device port all is =
    by_test (faced_beside lines more device port all.1) (same_port at.device device) is
  where
    by_test : (port_beside more device ≡ Some port → IsFaced lines port) → (b : Bool)
        → option_map (λ (f : Facing). f.port)
        (if b then Some at else find (λ (f : Facing). same_port f.device device) more)
        ≡ Some port → IsFaced lines port
    by_test later true is = (let here : at.port ≡ port = cc in subst (IsFaced lines) here all.0)
    by_test later false is = later is

faced_out : (lines : List Numbered) (facing : List Facing) (port : PortRef)
    → AreFaced lines facing → faces_out facing port ≡ true → IsFaced lines port
faced_out lines [] port all is = absurd cc
faced_out lines (at ∷ more) port all is =
    by_test (faced_out lines more port all.1) (same_port at.port port) refl is
  where
    by_test : (faces_out more port ≡ true → IsFaced lines port) → (b : Bool)
        → same_port at.port port ≡ b → b || faces_out more port ≡ true → IsFaced lines port
    by_test later true same is = subst (IsFaced lines) (port_is at.port port same) all.0
    by_test later false same is = later is

-- ---- one that comes to face out

last_may : (net : Network) (lines : List Numbered) (more : Numbered)
    → MaySetUpAll net (lines ++ more ∷ []) → MaySetUp (set_up_all net lines) more.line
last_may net [] more may = may.0
last_may net (line ∷ lines) more may = last_may (set_up net line.line) lines more may.1

module _ (live : Live) (taken : Taken) (holds : LiveHolds live taken) where
  joined_faced : (at : Facing) → IsScriptPort (for_event taken.known) at.device
      → IsScriptPort (for_event taken.known) at.port
      → is_taken (for_event taken.known) taken.facing at ≡ false
      → IsFaced taken.set_up at.port
  joined_faced at device port free =
      let known = taken.known in
      let first = or_parts (same_port at.device at.port) _ free in
      let second = or_parts (is_linked known.links at.device) _ first.1 in
      let third = or_parts (is_linked known.links at.port) _ second.1 in
      let item : Numbered = record { number = 0; line = Link at.device at.port } in
      let passes = link_passes known taken.set_up (pieces_of taken.text) holds.spelled
      holds.trace.no_events holds.trace.passes at.device at.port device port
      (rw (first.0, second.0, third.0) refl) in
      record {
        there = (ports_there known.names taken.set_up [] item passes).1;
        unlinked =
            (last_may bare taken.set_up item
            (may_set_up known.names (taken.set_up ++ item ∷ []) passes)).2;
      }

  -- the line may be carried out
  pub may_outside : (text : List ℕ) (line : OutsideLine)
      → SpellsOutside (for_event taken.known) taken.facing text line → MayCarryOutside taken line
  may_outside text (External at) spells = record {
    faced = joined_faced at spells.1 spells.2 spells.3;
    sender = tt;
  }
  may_outside text (Sent at chars) spells = record {
    faced = faced_beside taken.set_up taken.facing at.device at.port holds.faced spells.2;
    sender = spells.1.0;
  }
  may_outside text (Pump port count) spells = record {
    faced = faced_out taken.set_up taken.facing port holds.faced spells.2;
    sender = tt;
  }
  may_outside text (Timeout port) spells = record {
    faced = faced_out taken.set_up taken.facing port holds.faced spells.2;
    sender = tt;
  }

  -- and the fabric may do it
  pub may_act : (line : OutsideLine) (fabric : Fabric) → Stands taken.from taken.trace fabric
      → MayCarryOutside taken line → MayGoOn fabric taken.known.names line
  may_act line fabric stands may = record {
    free = record {
      from = taken.from;
      lines = taken.trace;
      stands = stands;
      free = record {
        at_device =
            port_by_count (seen_so_far taken).network.registers (port_of_line line)
            (subst (λ counts. IsNodePort counts (port_of_line line))
            (sym (seen_counts taken.trace taken.from ∙ holds.counts)) may.faced.there);
        unlinked =
            ap (λ (links : List (PortRef × PortRef)). peer_in links (port_of_line line))
            ((seen_board taken.trace taken.from).links ∙ holds.trace.board.links)
            ∙ may.faced.unlinked;
      };
    };
    named =
        names_suffice_on taken.known.names taken.set_up taken.from taken.trace fabric
        holds.trace.passes holds.trace.board stands;
    sender = may.sender;
  }
