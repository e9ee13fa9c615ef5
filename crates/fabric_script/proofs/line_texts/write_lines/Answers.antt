use Rattle.std.proofs.Common.{◌≡◌, ◌<◌, ◌++◌, [], ◌∷◌, length, get_or, sym, subst, rules, arith}
use Rattle.rio_chars.specs.Written.{Writes}
use Rattle.rio_chars.proofs.WrittenLaws.{Writes-then}
use Rattle.fabric_script.specs.Known.{nothing}
use Rattle.fabric_script.specs.Lines.{line_text}
use Rattle.fabric_script.specs.LineTexts.{AreNamed}
use Rattle.fabric_script.proofs.PrintLaws.{named_all, printed-turn}
use Rattle.fabric_script.proofs.line_texts.write_lines.Goals as goal

pub write_line-requires : goal.write_line-requires
write_line-requires g c =
    let script = c.args.script.now in
    let i = c.loop-line.line-index in
    let line = c.line-item.result in
    let names : c.as_slice.result.now ≡ script.names.items = search rules in
    let here : line ≡ get_or script.lines.items i line = search rules in
    let all = named_all nothing script.names.items script.lines.items c.requires in
    let within : i < length script.lines.items = omega arith in
    rw names (subst (λ l. AreNamed script.names.items l.line) (sym here) (all i line within))

pub loop-line-preserved : goal.loop-line-preserved
loop-line-preserved g c =
    let script = c.args.script.now in
    let i = c.loop-line.line-index in
    let line = c.line-item.result in
    let names : c.as_slice.result.now ≡ script.names.items = search rules in
    let here : line ≡ get_or script.lines.items i line = search rules in
    let Told = Writes in
    let written = subst
    (λ ns. Told c.loop-line.outbox c.write_line.new.outbox (line_text ns line.line)) names
    c.write_line.ensures in
    subst (Told c.args.outbox.now c.write.new.self)
    (printed-turn script.names.items script.lines.items i line (omega arith) here)
    (Writes-then _ (line_text script.names.items line.line ++ 10 ∷ []) c.loop-line.invariant
    (Writes-then _ _ written c.write.ensures))
