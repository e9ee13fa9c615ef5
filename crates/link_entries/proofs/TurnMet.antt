-- Each entry of a turn is met.
use Rattle.std.proofs.Common.{◌≡◌, true, refl}
use Rattle.link_entries.specs.declared.entry.Entry.TheVariants.{Turn}
use Rattle.link_entries.specs.declared.entry.TurnEntry.{TurnEntry}
use Rattle.link_entries.specs.declared.entry.TurnEntry.TheVariants as turn
use Rattle.link_entries.specs.Deeds.{meets, entries_met, events_entries}
use Rattle.link_entries.specs.Trials.{trial_of}
use Rattle.link_model.specs.Window.{window}
use Rattle.link_buffers.specs.Priorities.{highest_below}

pub turn_met : (entry : TurnEntry) → meets (trial_of (Turn entry)) (Turn entry) ≡ true
unfolding entries_met events_entries window highest_below
turn_met turn.PacketSent = refl
turn_met turn.RestartSent = refl
turn_met turn.RequestSent = refl
turn_met turn.NothingWaits = refl
turn_met turn.WindowIsFull = refl
turn_met turn.WithoutCredit = refl
turn_met turn.WithinCredit = refl
turn_met turn.Overtakes = refl
turn_met turn.StatusSent = refl
turn_met turn.AskedBefore = refl
turn_met turn.TurnWhileFailed = refl
