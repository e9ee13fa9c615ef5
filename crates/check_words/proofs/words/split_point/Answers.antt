use Rattle.std.proofs.Common.{◌==◌, ◌≡◌, false, sym, get_or, take, subst, arith, rules, tests}
use Rattle.std.proofs.lemmas.List.{take_all, take_more}
use Rattle.std.proofs.lemmas.List.Elements.{All-push}
use Rattle.fabric_script.proofs.Points.{Lacks}
use Rattle.check_words.proofs.words.split_point.Goals as goal

pub loop-i-preserved : goal.loop-i-preserved
loop-i-preserved c =
    let more = All-push (λ byte. (byte == 46) ≡ false) (take c.loop-i.i c.args.word.now)
    (get_or c.args.word.now c.loop-i.i 0) c.loop-i.invariant (search (rules, tests)) in
    subst (Lacks 46) (sym (take_more c.args.word.now c.loop-i.i 0 c.loop-i-test.true)) more

pub returns : goal.returns
returns c = subst (Lacks 46) (take_all c.loop-i.i c.args.word.now (omega arith)) c.loop-i.invariant
