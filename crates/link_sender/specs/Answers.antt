-- The states that the steps answer, as states of the tables.
use Rattle.std.specs.Prelude.{Option, Some, None}
use Rattle.link_model.specs.Output.{Output, Sends, Turned, turned}
use Rattle.link_model.specs.Outstanding.{Outstanding}
use Rattle.link_sender.specs.OutErrorStopped.{StoppedOutput}
use Rattle.link_sender.specs.declared.answers.Started.{Started}
use Rattle.link_sender.specs.declared.answers.AfterAccepted.{AfterAccepted}
use Rattle.link_sender.specs.declared.answers.AfterAccepted.TheVariants as After
use Rattle.link_sender.specs.declared.answers.AfterRetry.{AfterRetry}
use Rattle.link_sender.specs.declared.answers.AfterRetry.TheVariants as Retried
use Rattle.link_sender.specs.declared.answers.AfterResponse.{AfterResponse}
use Rattle.link_sender.specs.declared.answers.AfterResponse.TheVariants as Responded

abbrev pub error_stopped : StoppedOutput → Output
error_stopped s = Output.ErrorStopped s.asked s.outstanding

abbrev pub after_accepted : AfterAccepted → Output
after_accepted (After.Ok w) = Output.Ok w
after_accepted (After.Stopped s) = error_stopped s

abbrev pub after_retry : AfterRetry → Output
after_retry (Retried.Retry w) = Output.RetryStopped w
after_retry (Retried.Stopped s) = error_stopped s

abbrev pub after_response : AfterResponse → Output
after_response (Responded.Ok w) = Output.Ok w
after_response (Responded.Failed _) = Output.Failed
after_response (Responded.Ignored s) = error_stopped s

-- what a turn of a sender did
abbrev pub sender_sends : Option Started → Sends
sender_sends None = Sends.Nothing
sender_sends (Some s) = Sends.Packet s.ack s.prio

abbrev pub sender_after_turn : Outstanding → Option Started → Turned
sender_after_turn w packet = turned (Output.Ok w) (sender_sends packet)
