use Rattle.fabric_script.proofs.LineLaws.{same_line}
use Rattle.fabric_script.proofs.laws.one_line.Goals as goal

pub returns : goal.returns
returns c = λ known text a b orderly x y. same_line known text a b orderly x.says y.says
