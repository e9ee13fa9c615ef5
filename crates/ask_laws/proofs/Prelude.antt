-- The words of other crates, of `specs` and of std that several files here cite, passed on.
pub use Rattle.std.proofs.Common.{◌≡◌, ℕ, ◌<◌, Bool, true, false, List, [], ◌∷◌, Option, Some, None, option_and_then, option_map, slice_get, if◌then◌else◌, refl, sym, ap, ◌∙◌, subst, arith, zero, suc, ◌+◌, ◌≤◌, ◌++◌, MatchBool, append_assoc}
pub use Rattle.fabric_ask.proofs.Crossing.{split, Split, HasRun}
pub use Rattle.fabric_ask.specs.Asks.{AskRounds, most_rounds, AskRound, holds_some}
pub use Rattle.fabric_ask.specs.Course.{IsLaid, answered_registers, IsEndpointIn, Handled, Home, Away, Rounded, Waited, Handed, Final, Fell, WasHeard, HasLeft}
pub use Rattle.fabric_ask.specs.Only.{Waits, IsOnly, Held, IsClear}
pub use Rattle.fabric_ask.specs.Travel.{IsOn, GoesOn}
pub use Rattle.fabric_model.proofs.Nodes.{few_prio}
pub use Rattle.fabric_model.specs.Network.{Network, peer_in, port_of, with_device, IsEndpoint, Item}
pub use Rattle.fabric_model.specs.Serving.{device_after, response_at}
pub use Rattle.fabric_model.specs.Steps.{Take, AtNode, item_of, moved_item}
pub use Rattle.fabric_script.specs.declared.ports.PortRef.{PortRef}
pub use Rattle.fabric_trace.proofs.Parts.Keeping.{made_keeps, IsGood}
pub use Rattle.fabric_trace.specs.Fold.{seen_line, seen}
pub use Rattle.fabric_trace.specs.Known.{Seen}
pub use Rattle.maint_registers.specs.Devices.{Registers}
pub use Rattle.rio_packets.specs.Fields.{prio_of, is_request}
pub use Rattle.trace_lines.specs.Lines.{Full, Stepped, Lacked, TraceLine}
pub use Rattle.ask_laws.specs.Ended.{AsksEndSomewhere, AskEnded, IsGone, WaitsThere, CameHome}
