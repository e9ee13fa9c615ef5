-- Each entry of a symbol in the output half is met.
use Rattle.std.proofs.Common.{◌≡◌, true, refl}
use Rattle.link_entries.specs.declared.entry.Entry.TheVariants.{Heard}
use Rattle.link_entries.specs.declared.entry.HeardEntry.{HeardEntry}
use Rattle.link_entries.specs.declared.entry.HeardEntry.TheVariants as heard
use Rattle.link_entries.specs.Deeds.{meets, entries_met, events_entries}
use Rattle.link_entries.specs.Trials.{trial_of}
use Rattle.link_model.specs.Window.{window}
use Rattle.link_buffers.specs.Priorities.{highest_below}

pub heard_met : (entry : HeardEntry) → meets (trial_of (Heard entry)) (Heard entry) ≡ true
unfolding entries_met events_entries window highest_below
heard_met heard.Accepted = refl
heard_met heard.AcceptedOther = refl
heard_met heard.Retried = refl
heard_met heard.RetriedOther = refl
heard_met heard.NotAccepted = refl
heard_met heard.ResponseWhileOk = refl
heard_met heard.OtherWhileOk = refl
heard_met heard.AcceptedWhileRetryStopped = refl
heard_met heard.RetriedWhileRetryStopped = refl
heard_met heard.NotAcceptedWhileRetryStopped = refl
heard_met heard.ResponseWhileRetryStopped = refl
heard_met heard.OtherWhileRetryStopped = refl
heard_met heard.AcceptedWhileErrorStopped = refl
heard_met heard.RetriedWhileErrorStopped = refl
heard_met heard.NotAcceptedWhileErrorStopped = refl
heard_met heard.ResponseUnasked = refl
heard_met heard.ResponseExpected = refl
heard_met heard.ResponseUnexpected = refl
heard_met heard.OtherWhileErrorStopped = refl
heard_met heard.AnyWhileFailed = refl
heard_met heard.AcceptedLast = refl
heard_met heard.ResponseFrees = refl
