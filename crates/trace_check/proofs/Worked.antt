-- The trace of one packet passes, and each reason but the form hits a line in it.
use Rattle.std.proofs.Common.{ℕ, [], Contains, List, refl, arith, inl, inr}
use Rattle.crc_division.specs.Bits.{bits, number}
use Rattle.crc_division.specs.Division.{division_steps, complemented}
use Rattle.rio_symbols.specs.Crc5.{field_bits, crc5_message, crc5_of, crc5_value}
use Rattle.rio_symbols.specs.Spelling.{spelled, is_spelling}
use Rattle.link_model.specs.Events.{packet_event}
use Rattle.link_model.specs.Places.{run, place_after}
use Rattle.link_model.specs.ReadingKinds.{kind}
use Rattle.rio_packets.specs.Carries.{carried}
use Rattle.rio_packets.specs.Register.{fed, shifted, shifted_times}
use Rattle.fabric_trace.specs.Examples.{packet_script}
use Rattle.fabric_trace.specs.Runs.{bare}
use Rattle.fabric_trace.specs.SetUps.{MaySetUpAll}
use Rattle.trace_check.specs.Lawful.{OffWire, NoSuchStep, NotCome, NotAllowed, NotThere, Spares}
use Rattle.trace_check.specs.Examples.{packet_network, once_sent, half_got, once_got, once_held, once_accepted, once_freed, sent_line, got_line, fire_line, hold_line, other_hold_line, free_line, leave_line, alters_behind, alters_last, says_short}

pub may_set_up : MaySetUpAll bare packet_script
may_set_up =
    (omega arith, (omega arith, ((refl, refl, refl), (tt, (tt, (tt, (tt, (tt, tt))))))))

pub got_hits : Spares packet_network [] got_line [] OffWire → ⊥
got_hits is = absurd (cc is.stands)

pub fired_hits : Spares packet_network once_sent fire_line [] OffWire → ⊥
fired_hits is = absurd (cc is.near)

pub altered_hits : Spares packet_network once_sent alters_behind [] OffWire → ⊥
altered_hits is = absurd (cc is)

pub altered_spares : Spares packet_network once_sent alters_last [] OffWire
altered_spares = refl

pub short_spares : Spares packet_network once_sent alters_behind says_short OffWire
short_spares = tt

pub leaves_hits : Spares packet_network once_got leave_line [] NoSuchStep → ⊥
leaves_hits is = absurd (cc is.1)

pub early_hits : Spares packet_network half_got hold_line [] NotCome → ⊥
unfolding run place_after kind spelled is_spelling crc5_value crc5_of crc5_message field_bits bits
    number division_steps complemented packet_event carried fed shifted shifted_times
early_hits is = absurd (cc is)

pub another_hits : Spares packet_network once_got other_hold_line [] NotCome → ⊥
unfolding run place_after kind spelled is_spelling crc5_value crc5_of crc5_message field_bits bits
    number division_steps complemented packet_event carried fed shifted shifted_times
another_hits is = absurd (cc is)

pub twice_hits : Spares packet_network once_held hold_line [] NotCome → ⊥
unfolding run place_after kind spelled is_spelling crc5_value crc5_of crc5_message field_bits bits
    number division_steps complemented packet_event carried fed shifted shifted_times
twice_hits is = absurd (cc is)

pub freed_hits : Spares packet_network once_accepted free_line [] NotAllowed → ⊥
unfolding run
freed_hits is = omega (arith, is)

pub freed_again_hits : Spares packet_network once_freed free_line [] NotAllowed → ⊥
unfolding run place_after kind spelled is_spelling crc5_value crc5_of crc5_message field_bits bits
    number division_steps complemented
freed_again_hits is = omega (arith, is)

nothing_there : (packet : List ℕ) → Contains [] packet → ⊥
nothing_there packet there = let within = there.1 in omega (arith, within)

pub sent_hits : Spares packet_network [] sent_line [] NotThere → ⊥
unfolding run place_after kind spelled is_spelling crc5_value crc5_of crc5_message field_bits bits
    number division_steps complemented packet_event carried fed shifted shifted_times
sent_hits is = elim is.1.0 [ inl own ↦ nothing_there _ own | inr own ↦ nothing_there _ own ]
