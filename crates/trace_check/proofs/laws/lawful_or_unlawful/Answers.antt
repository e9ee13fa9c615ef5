use Rattle.trace_check.proofs.Exclusive.{exclusive}
use Rattle.trace_check.proofs.laws.lawful_or_unlawful.Goals as goal

pub returns : goal.returns
returns c = λ _ _ _ _ _ _ orderly lawful unlawful. exclusive orderly lawful unlawful
