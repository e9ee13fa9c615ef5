use Rattle.std.proofs.Common.{◌==◌, ◌≡◌, false, sym, get_or, take, subst, arith, rules, tests}
use Rattle.std.proofs.lemmas.List.{take_all, take_more}
use Rattle.std.proofs.lemmas.List.Elements.{All-push}
use Rattle.std.proofs.lemmas.List.Splits.{slice_split_none}
use Rattle.fabric_script.proofs.Points.{Lacks, cut_at}
use Rattle.fabric_script.proofs.words.split_word.Goals as goal

pub returns-then-byte-eq32 : goal.returns-then-byte-eq32
returns-then-byte-eq32 c =
    cut_at 32 c.args.text.now c.loop-i.i c.loop-i-test.true (search (rules, tests))
    c.loop-i.invariant

pub loop-i-preserved : goal.loop-i-preserved
loop-i-preserved c =
    let more = All-push (λ byte. (byte == 32) ≡ false) (take c.loop-i.i c.args.text.now)
    (get_or c.args.text.now c.loop-i.i 0) c.loop-i.invariant (search (rules, tests)) in
    subst (Lacks 32) (sym (take_more c.args.text.now c.loop-i.i 0 c.loop-i-test.true)) more

pub returns : goal.returns
returns c =
    let all = take_all c.loop-i.i c.args.text.now (omega arith) in
    slice_split_none (λ byte. byte == 32) c.args.text.now (subst (Lacks 32) all c.loop-i.invariant)
