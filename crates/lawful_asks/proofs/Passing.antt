-- No reason hits a line that is made of parts, if each edit is told as it is made.
use Rattle.lawful_asks.proofs.Prelude.{List, [], subst, Network, TraceLine, Made, begins, good_start, frees_allowed, EditsTold}
use Rattle.fabric_trace.specs.SetUps.{IsSetUp}
use Rattle.fabric_trace.specs.Allowance.{FreesAllowed}
use Rattle.fabric_trace.specs.Owned.{AreOwned}
use Rattle.fabric_trace.proofs.Shown.Sending.{made_owned}
use Rattle.trace_check.specs.Checks.{PassAll}
use Rattle.trace_check.proofs.Lawful.{line_passes}

pub made_pass : (net : Network) (lines : List TraceLine) → IsSetUp net → Made (begins net) lines
    → EditsTold (begins net) lines → PassAll net lines
made_pass net lines is all told before line behind whole =
    line_passes net before behind line is (subst (Made (begins net)) whole all)
    (subst (EditsTold (begins net)) whole told)
    (subst (AreOwned (begins net)) whole (made_owned (good_start net is) all))
    (λ p. subst (FreesAllowed p [] 0) whole (frees_allowed net lines p is all))
