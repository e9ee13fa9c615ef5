use Rattle.std.proofs.Common.{◌+◌, ◌-◌, ◌==◌, ◌≡◌, drop, length, false, sym, get_or, take, subst, arith, rules, tests}
use Rattle.std.proofs.lemmas.List.{take_all, take_more}
use Rattle.std.proofs.lemmas.List.Elements.{All-push}
use Rattle.fabric_script.proofs.Points.{Lacks, cut_at}
use Rattle.script_input.proofs.InputLaws.{first_of, only_line}
use Rattle.script_input.proofs.splitting.next_line.Goals as goal

pub returns-then-byte-eq10-clause-texts : goal.returns-then-byte-eq10-clause-texts
returns-then-byte-eq10-clause-texts c =
    let i = c.loop-i.i in
    let bytes = c.args.bytes.now in
    first_of bytes (take i bytes) (take (length bytes - (i + 1)) (drop (i + 1) bytes))
    (cut_at 10 c.args.bytes.now c.loop-i.i c.loop-i-test.true (search (rules, tests))
    c.loop-i.invariant)

pub loop-i-preserved : goal.loop-i-preserved
loop-i-preserved c =
    let more = All-push (λ byte. (byte == 10) ≡ false) (take c.loop-i.i c.args.bytes.now)
    (get_or c.args.bytes.now c.loop-i.i 0) c.loop-i.invariant (search (rules, tests)) in
    subst (Lacks 10) (sym (take_more c.args.bytes.now c.loop-i.i 0 c.loop-i-test.true)) more

pub returns-else-is_empty-clause-texts : goal.returns-else-is_empty-clause-texts
returns-else-is_empty-clause-texts c =
    let all = take_all c.loop-i.i c.args.bytes.now (omega arith) in
    only_line c.args.bytes.now (search (rules, tests)) (subst (Lacks 10) all c.loop-i.invariant)
