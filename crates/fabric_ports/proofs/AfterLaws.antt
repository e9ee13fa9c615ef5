-- What holds of a fabric behind a call, if it does whatever lines the fabric stood for.
use Rattle.std.proofs.Common.{◌≡◌, ◌<◌, ◌≤◌, ◌++◌, ℕ, List, length, vec_len, Ok, sym, ap, ◌∙◌, arith}
use Rattle.trace_lines.specs.Lines.{TraceLine}
use Rattle.trace_lines.specs.declared.writer.TraceWriter.{TraceWriter}
use Rattle.fabric_script.specs.declared.ports.PortRef.{PortRef}
use Rattle.fabric_model.specs.Network.{link_in}
use Rattle.fabric_trace.specs.Fold.{seen}
use Rattle.fabric_trace.specs.Known.{Seen}
use Rattle.fabric_ports.specs.Carrying.{AreLinked}
use Rattle.fabric_ports.specs.Places.{IsEndpointAt, IsSwitchAt}
use Rattle.fabric_ports.specs.Ran.{Kind, Ran}
use Rattle.fabric_ports.specs.Showing.{ShowsFabric}
use Rattle.fabric_ports.specs.Standing.{Stands, StandsForLines}
use Rattle.fabric_ports.specs.declared.fabric.Fabric.{Fabric}
use Rattle.fabric_ports.proofs.EndLaws.{links_stand}
use Rattle.fabric_ports.proofs.GatherLaws.{endpoint_on}
use Rattle.fabric_ports.proofs.SettlingLaws.{devices_stay, devices_within, cables_within, switch_stays}

pub shown_by : {fabric : Fabric} → StandsForLines fabric → (s : Seen) × ShowsFabric fabric s
shown_by known = (seen known.0 known.1, known.2.shows)

-- a fabric that shows what another shows
module _ {old new : Fabric} (shows : (s : Seen) → ShowsFabric old s → ShowsFabric new s) where
  pub still_stands : {from : Seen} {lines : List TraceLine} → Stands from lines old
      → Stands from lines new
  still_stands {from} {lines} stands = record {
    ready = stands.ready;
    made = stands.made;
    sent = stands.sent;
    shows = shows (seen from lines) stands.shows;
  }

  pub still_ran : {Is : Kind} {K : Type 0} {a b : TraceWriter K} {from : Seen}
      {lines : List TraceLine} → Ran Is a b from lines (Ok old) → Ran Is a b from lines (Ok new)
  still_ran ran = record {
    block = ran.block;
    is = ran.is;
    ends = (ran.ends.0, still_stands ran.ends.1);
  }

-- the lines by which two ports are known to be linked
pub linked_lines : {fabric : Fabric} {ends : PortRef × PortRef} → AreLinked fabric ends
    → StandsForLines fabric
linked_lines is = (is.from, is.lines, is.stands)

module _ {Is : Seen → Kind} {K : Type 0} {a b : TraceWriter K} {old new : Fabric}
    (ran : (from : Seen) (lines : List TraceLine) → Stands from lines old
    → Ran (Is from) a b from lines (Ok new)) where
  pub stands_after : StandsForLines old → StandsForLines new
  stands_after known =
      let told = ran known.0 known.1 known.2 in (known.0, known.1 ++ told.block, told.ends.1)

  pub names_after : StandsForLines old → b.names.now ≡ a.names.now
  names_after known = (ran known.0 known.1 known.2).ends.0.names

  -- each device has a name
  pub named_after : StandsForLines old → length old.devices.items ≤ length a.names.now
      → length new.devices.items ≤ length b.names.now
  named_after known named =
      let told = ran known.0 known.1 known.2 in
      rw told.ends.0.names (omega (arith, devices_stay known.2 told.ends.1, named))

  pub linked_after : {ends : PortRef × PortRef} → AreLinked old ends → AreLinked new ends
  linked_after {ends} is =
      let told = ran is.from is.lines is.stands in
      record {
        from = is.from;
        lines = is.lines ++ told.block;
        stands = told.ends.1;
        found = ap (λ l. link_in l ends.0) (links_stand told.ends.1 ∙ sym (links_stand is.stands))
            ∙ is.found;
      }

  pub device_after : StandsForLines old → (k : ℕ) → k < vec_len old.devices
      → k < length new.devices.items
  device_after known k within =
      devices_within k known.2 (ran known.0 known.1 known.2).ends.1 within

  pub cable_after : StandsForLines old → (k : ℕ) → k < vec_len old.cables
      → k < length new.cables.items
  cable_after known k within =
      cables_within k known.2 (ran known.0 known.1 known.2).ends.1 within

  pub endpoint_after : StandsForLines old → {n : ℕ} → IsEndpointAt old.devices.items n
      → IsEndpointAt new.devices.items n
  endpoint_after known is = endpoint_on known.2 (ran known.0 known.1 known.2).ends.1 is

  pub still_switch : StandsForLines old → {n : ℕ} → IsSwitchAt old.devices.items n
      → IsSwitchAt new.devices.items n
  still_switch known {n} is = switch_stays known.2 (ran known.0 known.1 known.2).ends.1 n is
