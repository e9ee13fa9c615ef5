-- The words of other crates, of `specs` and of std that several files here cite, passed on.
pub use Rattle.std.proofs.Common.{◌≡◌, ℕ, ◌==◌, Bool, true, false, not, List, [], ◌∷◌, codes, refl, sym, ap, ◌∙◌, subst, inl, inr, if◌then◌else◌, ◌<◌, ◌++◌, Contains, Option, Some, None, IsSome, ◌⊎◌, arith, ◌%◌, length, ◌+◌, append-nil, append_assoc, ◌≢◌, ◌^◌, map}
pub use Rattle.std.proofs.lemmas.Bool.{cases_lt, cases_eq, cases_Bool}
pub use Rattle.std.specs.Fmt.{decimal}
pub use Rattle.std.specs.List.{onto_first, AllByRecursion}
pub use Rattle.fabric_model.specs.Network.{Network, peer_in, port_of, first_packet, room_in, room_out, IsEndpoint, switch_at}
pub use Rattle.fabric_model.specs.Steps.{Hold, Free, Linked, Take, Leave, Move, Drop, Answer, Step, AtNode, ByDevice, IsFirst, Needs}
pub use Rattle.fabric_script.proofs.Exclusion.{named_is_there, no_hit}
pub use Rattle.fabric_script.specs.Known.{Known, IsOrderly, one_event, is_linked}
pub use Rattle.fabric_script.specs.Lines.{is_event, line_words, new_name, words_of}
pub use Rattle.fabric_script.specs.Names.{name_of}
pub use Rattle.fabric_script.specs.Texts.{port_text, hex_text}
pub use Rattle.fabric_script.specs.declared.ports.PortRef.{PortRef}
pub use Rattle.link_model.specs.declared.event.Event.{Event}
pub use Rattle.link_model.specs.declared.event.Event.TheVariants.{Ctl, Pkt, Bad}
pub use Rattle.rio_chars.specs.CharText.{char_text_of, HasByte}
pub use Rattle.rio_chars.specs.HexText.{hex_of}
pub use Rattle.rio_chars.specs.declared.chars.Char.{Char}
pub use Rattle.rio_packets.specs.Fields.{prio_of, is_request}
pub use Rattle.rio_packets.specs.LinkForm.{Passes}
pub use Rattle.script_law.proofs.Choosing.{Decided, same_or_not, both_or_not, first_or_none}
pub use Rattle.trace_check.specs.Checks.{freed, net_after, unheld, EditFits, BothAreEmpty, OnWires, LineIsStep, HoldHasCome, IsAllowed, SendMayBe, LinePasses}
pub use Rattle.trace_check.specs.Lawful.{Fault, OffWire, NoSuchStep, NotCome, NotAllowed, NotThere, fault_number, Spares, as_behind, is_last, BehindLast, HitsLine, HitsNext, IsLawful, IsUnlawful, PassFront, SpellFront, SpellsNone}
pub use Rattle.trace_lines.specs.Lines.{Sent, Got, Fired, TraceLine, Begun, Stepped, Signed, steps_of, Lack, Full, Empty, Short, Early, NoStep, Sign, Lacked, Ended, Undetected}
pub use Rattle.trace_lines.specs.Words.{SpellsLine, step_words, sign_words, lack_words, event_words, IsScriptPort, IsEnd, IsNode, StepFits, SignFits, EventFits, trace_words, LineFits}
