-- Each entry of a time-out is met.
use Rattle.std.proofs.Common.{◌≡◌, true, refl}
use Rattle.link_entries.specs.declared.entry.Entry.TheVariants.{TimeOut}
use Rattle.link_entries.specs.declared.entry.TimeOutEntry.{TimeOutEntry}
use Rattle.link_entries.specs.declared.entry.TimeOutEntry.TheVariants as time_out
use Rattle.link_entries.specs.Deeds.{meets, entries_met, events_entries}
use Rattle.link_entries.specs.Trials.{trial_of}
use Rattle.link_model.specs.Window.{window}
use Rattle.link_buffers.specs.Priorities.{highest_below}

pub time_out_met : (entry : TimeOutEntry) → meets (trial_of (TimeOut entry)) (TimeOut entry) ≡ true
unfolding entries_met events_entries window highest_below
time_out_met time_out.TimeOutWhileOk = refl
time_out_met time_out.TimeOutWhileErrorStopped = refl
time_out_met time_out.TimeOutWhileRetryStopped = refl
time_out_met time_out.TimeOutWhileFailed = refl
time_out_met time_out.NothingOutstanding = refl
