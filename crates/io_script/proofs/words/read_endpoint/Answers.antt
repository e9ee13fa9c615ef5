use Rattle.std.proofs.Common.{◌≡◌, true, false, not, Contains, sym, ap, ◌∙◌, subst, refl, rules}
use Rattle.fabric_script.specs.Hits.{NodeIsBad, NodeIsUnknown}
use Rattle.fabric_script.specs.Names.{is_name}
use Rattle.fabric_script.specs.declared.values.Value.TheVariants.{Node as NodeValue}
use Rattle.io_script.specs.IoWords.{IsMisspelledIo, IsWrong}
use Rattle.io_script.proofs.IoTakes.{named_at, switch_at}
use Rattle.io_script.proofs.words.read_endpoint.Goals as goal

pub returns-then-is_none : goal.returns-then-is_none
returns-then-is_none c = λ known is.
    let bad : is_name c.args.word.now ≡ false = search rules in
    IsMisspelledIo (NodeIsBad bad)

pub returns-in_default : goal.returns-in_default
returns-in_default c = λ known is.
    let good : is_name c.args.word.now ≡ true = search rules in
    IsMisspelledIo (NodeIsUnknown good
    (subst (λ names. ¬ Contains names c.args.word.now) is.named c.in_default.ensures))

pub returns-then-is_switch : goal.returns-then-is_switch
returns-then-is_switch c = λ known is.
    let at = named_at known c.args.fabric.names.now c.in-Some.node c.args.word.now is.named
    c.in-Some.ensures in
    let wrong = switch_at known c.args.fabric.switches.now c.in-Some.node is.switched
    (sym c.is_switch.ensures ∙ c.if-is_switch.true) in
    IsWrong (NodeValue c.in-Some.node) at.0 at.1 (ap not wrong) refl

pub returns : goal.returns
returns c = λ known is.
    let at = named_at known c.args.fabric.names.now c.in-Some.node c.args.word.now is.named
    c.in-Some.ensures in
    let right = switch_at known c.args.fabric.switches.now c.in-Some.node is.switched
    (sym c.is_switch.ensures ∙ c.if-is_switch.false) in
    ((at.0, ap not right), at.1)
