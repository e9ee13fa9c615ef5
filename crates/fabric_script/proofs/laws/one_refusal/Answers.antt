use Rattle.fabric_script.specs.declared.known.Mode.TheVariants as Mode
use Rattle.fabric_script.proofs.ScriptLaws.{refused_once}
use Rattle.fabric_script.proofs.laws.one_refusal.Goals as goal

pub returns : goal.returns
returns c = λ bytes line other reason other_reason. refused_once Mode.Script bytes line reason other
    other_reason
