use Rattle.std.proofs.Common.{◌≡◌, false, true, ap, subst, arith, rules, tests}
use Rattle.fabric_script.specs.Scripts.{is_skipped}
use Rattle.script_input.specs.Inputs.{texts_of}
use Rattle.io_script.proofs.IoThrough.{end_through, IsThrough, keep_on, skip_through}
use Rattle.io_script.proofs.scripts.read_behind.Goals as goal
use Rattle.io_script.proofs.scripts.read_behind.Goals.{then-not-is_skipped+in_ok-io+in-Ok+in_ok-push-in-Ok, else-not-is_skipped}

pub loop-text-preserved : goal.loop-text-preserved
loop-text-preserved c = record {
  few =
      let few = c.loop-text.invariant.few in
      let less = c.in-Some.ensures.less in
      omega (arith, few, less);
  through = λ known is.
      let first = c.args.first in
      let all = texts_of c.args.bytes.now in
      let lines = c.loop-text.lines.items in
      let number = c.loop-text.number in
      let text = c.in-Some.text.now in
      let texts = texts_of c.in-Some.behind.now in
      let before = subst (IsThrough known first all lines number c.loop-text.earlier)
      c.in-Some.ensures.texts (c.loop-text.invariant.through known is) in
      elim c.if-not-is_skipped.branch [
        | then-not-is_skipped+in_ok-io+in-Ok+in_ok-push-in-Ok w ↦
            let kept : is_skipped text ≡ false = search (rules, tests) in
            let says = rw w.in-Ok.is at w.in_ok-io.ensures known is in
            keep_on known first all lines number c.loop-text.earlier text texts before w.in-Ok.io
            c.args.fabric.links w.form.result c.if-not-is_skipped.earlier
            c.if-not-is_skipped.lines.items is.linked w.form.ensures (search rules) (search rules)
            kept says
        | else-not-is_skipped w ↦
            let skipped : is_skipped text ≡ true = search (rules, tests) in
            rw (w.lines-is, w.earlier-is)
            (skip_through known first all lines number c.loop-text.earlier text texts before
            skipped)
      ];
}

pub returns-clause-lines : goal.returns-clause-lines
returns-clause-lines c = λ known is.
    let none = ap texts_of c.in_default.ensures.texts in
    end_through known c.args.first (texts_of c.args.bytes.now) c.loop-text.lines.items
    c.loop-text.number c.loop-text.earlier
    (subst (IsThrough known c.args.first (texts_of c.args.bytes.now) c.loop-text.lines.items
    c.loop-text.number c.loop-text.earlier) none (c.loop-text.invariant.through known is))
