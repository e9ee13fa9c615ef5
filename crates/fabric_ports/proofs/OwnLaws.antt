-- An endpoint reads and writes its own registers.
use Rattle.std.proofs.Common.{◌≡◌, ◌↔◌, ℕ, ◌<◌, Bool, true, false, List, [], ◌∷◌, Some, option_map, IsTrue, IsSome, slice_get, get_or, sym, ap, ◌∙◌}
use Rattle.std.proofs.lemmas.Option.{same_Some}
use Rattle.maint_registers.specs.Access.{written_at}
use Rattle.maint_registers.specs.Devices.{Registers, IsSameDevice, is_switch}
use Rattle.maint_registers.proofs.WithinLaws.{write_within}
use Rattle.fabric_trace.specs.Fold.{seen}
use Rattle.fabric_trace.specs.Known.{Seen}
use Rattle.trace_lines.specs.Lines.{TraceLine, NoStep, Lacked}
use Rattle.fabric_trace.specs.Served.{IsMove}
use Rattle.fabric_trace.specs.Settings.{with_change}
use Rattle.fabric_model.specs.Network.{Network}
use Rattle.fabric_ports.specs.OwnRegisters.{HasEndpoint, device_with, seen_with, OwnWritten}
use Rattle.fabric_ports.specs.Places.{IsEndpointAt}
use Rattle.fabric_ports.specs.Standing.{Stands}
use Rattle.fabric_ports.specs.declared.fabric.Fabric.{Fabric}
use Rattle.fabric_ports.proofs.ChangedLaws.{with_registers, stands_changed, laid_on}
use Rattle.fabric_ports.proofs.DeviceLaws.{written_form, kind_read}
use Rattle.fabric_ports.proofs.NodeLaws.{device_read}

-- it is one of the devices of the fabric
pub endpoint_at : {fabric : Fabric} {node : ℕ} → HasEndpoint fabric node
    → IsEndpointAt fabric.devices.items node
endpoint_at {fabric} {node} has = has.stands.shows.endpoints node has.endpoint

-- the device that was read is the one that is known
pub own_is : {from : Seen} {lines : List TraceLine} {fabric : Fabric} {node place : ℕ}
    {device read : Registers} → Stands from lines fabric
    → slice_get (seen from lines).network.registers node ≡ Some device → place ≡ node
    → read ≡ get_or fabric.devices.items place read → read ≡ device
own_is {from} {lines} {fabric} {node = node} {device = device} {read = read} stands known same
    value =
    let there = ap (λ (l : List Registers). slice_get l node) (sym stands.shows.registers)
    ∙ known in
    same_Some read device (sym (device_read fabric.devices.items there same value) ∙ there)

-- an endpoint makes no step as a switch does
no_move : (net : Network) (node : ℕ) (device : Registers)
    → slice_get net.registers node ≡ Some device → is_switch device ≡ false
    → ¬ IsMove net node (Lacked NoStep ∷ [])
no_move net node device known kind move =
    let switch : Some true ≡ Some false =
    sym move.switch ∙ ap (option_map is_switch) known ∙ ap Some kind in
    absurd (cc switch)

module _ (from : Seen) (lines : List TraceLine) (fabric : Fabric) (node place : ℕ)
    (device next : Registers) (offset value : ℕ) (stands : Stands from lines fabric)
    (known : slice_get (seen from lines).network.registers node ≡ Some device)
    (here : place ≡ node) (range : value < 0x100000000)
    (becomes : next ≡ device_with device offset value) (same : IsSameDevice device next)
    (end : IsEndpointAt fabric.devices.items node) where
  abbrev s : Seen
  s = seen from lines

  abbrev change : Registers → Registers
  change other = device_with device offset value

  rests : IsMove s.network node (Lacked NoStep ∷ [])
      → IsMove (with_change s.network node change) node (Lacked NoStep ∷ [])
  rests move =
      let there = ap (λ (l : List Registers). slice_get l node) (sym stands.shows.registers)
      ∙ known in
      absurd (no_move s.network node device known (kind_read end there) move)

  stands_own : Stands (seen_with node device offset value s) [] (with_registers fabric place next)
  stands_own =
      stands_changed from lines fabric node place change device next stands known here becomes
      (written_form same) (λ fits. write_within device offset value fits range) rests

  pub own_written : (answer : Bool) → IsTrue answer ↔ IsSome (written_at device offset value)
      → OwnWritten node device offset value from lines fabric (with_registers fabric place next)
      answer
  own_written answer exact = record {
    exact = exact;
    stands = stands_own;
    asks = λ host can. record {
      stands = stands_own;
      clear = record {
        received = can.clear.received;
        waiting = can.clear.waiting;
        lent = can.clear.lent;
      };
      laid = laid_on from lines fabric node place change device next stands known here becomes
          (written_form same) (λ fits. write_within device offset value fits range) rests host
          can.laid;
    };
  }
