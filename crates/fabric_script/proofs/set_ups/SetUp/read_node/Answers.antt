use Rattle.std.proofs.Common.{ap, subst}
use Rattle.fabric_script.specs.Forms.{Node}
use Rattle.fabric_script.specs.Texts.{NodeValue}
use Rattle.fabric_script.specs.Known.{IsOrderly}
use Rattle.fabric_script.specs.Hits.{Hits}
use Rattle.fabric_script.specs.SetUps.{SetUpLines}
use Rattle.fabric_script.proofs.Exclusion.{no_hit}
use Rattle.fabric_script.proofs.set_ups.SetUp.read_node.Goals as goal

pub returns-in-Err : goal.returns-in-Err
returns-in-Err c = λ value fits spelled.
    let word = c.args.word.now in
    let reason = c.in-Err.field-0 in
    let same = ap (λ (s : SetUpLines). s.known) c.self.view_is in
    let orderly = subst IsOrderly same c.self.invariant.orderly in
    let hit = subst (λ known. Hits known reason Node word) same c.in-Err.ensures in
    no_hit c.args.self.now.known Node (NodeValue value) word reason orderly fits spelled hit
