-- Lines of which the laws do not hold.
use Rattle.trace_laws.proofs.Prelude.{refl, subst, arith, AllByRecursion, AreAnswers, begins, answers_say, AreSentActing, IsNoRetry, AsksNoneAgain}
use Rattle.fabric_trace.specs.Examples.{near, pair_network, acted_from_nowhere}
use Rattle.fabric_trace.proofs.Worked.WorkedRuns.{acted_breaks}
use Rattle.trace_laws.specs.Examples.{one_retry, retry_sent}

retry_is_answer : AreAnswers one_retry
unfolding AreAnswers
retry_is_answer = (
  record {
    range = record {
      s0 = omega arith;
      p0 = omega arith;
      p1 = omega arith;
      s1 = omega arith;
      cmd = omega arith;
    };
    nop = refl;
  },
  tt,
)

pub retry_breaks : AsksNoneAgain near retry_sent → ⊥
retry_breaks none =
    (subst (AllByRecursion IsNoRetry) (answers_say one_retry retry_is_answer) (none refl)).0 refl

pub unsent_breaks : AreSentActing (begins pair_network) acted_from_nowhere → ⊥
unsent_breaks acting =
    acted_breaks (
      λ p peer. record { sent = λ on. acting.0 p peer; undetected = λ named. absurd (cc) },
      (tt, tt),
    )
