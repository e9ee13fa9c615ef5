-- Within a run, each link is at rest when it has settled.
use Rattle.fabric_trace.proofs.Prelude.{◌≡◌, ℕ, List, None, Network, TraceLine, seen, IsSettle, Rounds, SettlesTo, begins, Made, IsSetUp}
use Rattle.fabric_trace.proofs.Parts.Keeping.{made_keeps}
use Rattle.fabric_trace.proofs.Rounds.Blocks.{rounds_come}
use Rattle.fabric_trace.proofs.Rounds.Running.{link_made, move_made}
use Rattle.fabric_trace.proofs.SetUps.Starting.{good_start, settles_rest}

pub rounds_rest : (net : Network) (n : ℕ) (before block : List TraceLine) → IsSetUp net
    → Made (begins net) before → (seen (begins net) before).undetected ≡ None
    → Rounds IsSettle n (seen (begins net) before) block
    → Rounds (SettlesTo IsSettle) n (seen (begins net) before) block
rounds_rest net n before block is made none rounds =
    (rounds_come IsSettle (SettlesTo IsSettle)
    (λ s a b lines good still peers settles. (
      link_made s a b lines good still peers settles,
      (settles, settles_rest s a b lines good still peers settles),
    ))
    move_made n (seen (begins net) before) block (made_keeps (good_start net is) made).good none
    rounds).1
