-- A device that words name is there.
use Rattle.std.proofs.Common.{◌≡◌, ℕ, Bool, true, false, List, inl, inr, option_map, Option, Some, None, IsSome, slice_get, refl}
use Rattle.maint_registers.specs.Devices.{Registers, is_switch}
use Rattle.fabric_script.specs.declared.lines.Line.TheVariants.{Collect, Move}
use Rattle.fabric_script.specs.Reading.{Spells}
use Rattle.fabric_script.specs.SetUps.{for_event}
use Rattle.fabric_model.specs.Network.{IsEndpoint, IsSwitch}
use Rattle.live_fabric.specs.declared.live.Live.{Live}
use Rattle.live_fabric.specs.Lines.{Taken, seen_so_far}
use Rattle.live_fabric.specs.Holding.{LiveHolds}
use Rattle.live_fabric.specs.OwnRegisters.{collect_text, move_text, NamesDevice, NamesOwn}
use Rattle.live_fabric.proofs.TakenLaws.{may_be_carried, may_now}

kind_there : (device : Option Registers) (kind : Bool) → option_map is_switch device ≡ Some kind
    → IsSome device
kind_there None kind is = absurd cc
kind_there (Some device) kind is = refl

module _ (live : Live) (taken : Taken) (holds : LiveHolds live taken) where
  pub endpoint_there : (name : List ℕ) (node : ℕ) → NamesOwn (for_event taken.known) name node
      → IsEndpoint (seen_so_far taken).network node
  endpoint_there name node named =
      (may_now taken (Collect node) holds.trace
      (may_be_carried live taken (collect_text name) (Collect node) holds named)).there

  switch_there : (name : List ℕ) (node : ℕ)
      → Spells (for_event taken.known) (move_text name) (Move node)
      → IsSwitch (seen_so_far taken).network node
  switch_there name node named =
      (may_now taken (Move node) holds.trace
      (may_be_carried live taken (move_text name) (Move node) holds named)).there

  pub device_there : (words : List ℕ) (node : ℕ) → NamesDevice (for_event taken.known) words node
      → IsSome (slice_get (seen_so_far taken).network.registers node)
  device_there words node (inl switch) = kind_there _ true (switch_there words node switch)
  device_there words node (inr endpoint) =
      kind_there _ false (endpoint_there words node endpoint.1)
