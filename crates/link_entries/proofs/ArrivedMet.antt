-- Each entry of what comes to the input half is met.
use Rattle.std.proofs.Common.{◌≡◌, true, refl}
use Rattle.link_entries.specs.declared.entry.Entry.TheVariants.{Arrived}
use Rattle.link_entries.specs.declared.entry.ArrivedEntry.{ArrivedEntry}
use Rattle.link_entries.specs.declared.entry.ArrivedEntry.TheVariants as arrived
use Rattle.link_entries.specs.Deeds.{meets, entries_met, events_entries}
use Rattle.link_entries.specs.Trials.{trial_of}
use Rattle.link_model.specs.Window.{window}
use Rattle.link_buffers.specs.Priorities.{highest_below}

pub arrived_met : (entry : ArrivedEntry) → meets (trial_of (Arrived entry)) (Arrived entry) ≡ true
unfolding entries_met events_entries window highest_below
arrived_met arrived.PacketTaken = refl
arrived_met arrived.PacketWithoutRoom = refl
arrived_met arrived.PacketWithAnotherAck = refl
arrived_met arrived.BadWhileOk = refl
arrived_met arrived.RestartWhileOk = refl
arrived_met arrived.RequestWhileOk = refl
arrived_met arrived.PacketWhileRetryStopped = refl
arrived_met arrived.BadWhileRetryStopped = refl
arrived_met arrived.RestartWhileRetryStopped = refl
arrived_met arrived.RequestWhileRetryStopped = refl
arrived_met arrived.PacketWhileErrorStopped = refl
arrived_met arrived.BadWhileErrorStopped = refl
arrived_met arrived.RestartWhileErrorStopped = refl
arrived_met arrived.RequestWhileErrorStopped = refl
arrived_met arrived.AnotherStype1 = refl
arrived_met arrived.AnotherCmd = refl
arrived_met arrived.LastTaken = refl
