use Rattle.std.proofs.Common.{◌≡◌, ◌<◌, ◌++◌, codes, length, is_ok, if◌then◌else◌, subst, arith, rules}
use Rattle.script_input.specs.Inputs.{texts_of}
use Rattle.script_input.proofs.InputLaws.{accepted_by}
use Rattle.check_words.specs.Forms.{BehindTheLast, NoLastLine, OfReason}
use Rattle.check_words.specs.Reasons.{trace_reason}
use Rattle.check_words.proofs.FormLaws.{form-of_text, form-said}
use Rattle.check_words.proofs.forms.push_form.Goals as goal

pub returns-then-count_lines-line : goal.returns-then-count_lines-line
returns-then-count_lines-line c =
    let less : length (texts_of c.args.bytes.now) < c.args.line = omega arith in
    form-said c.args.bytes.now c.args.line c.args.before.now c.args.text.now
    (codes "the trace has no line end at its end") c.extend_from_slice.result
    c.args.message.now.items c.extend_from_slice.new.self.items (NoLastLine less)
    c.extend_from_slice.ensures.items

pub returns-then-ends_trace : goal.returns-then-ends_trace
returns-then-ends_trace c =
    let behind : 1 < c.args.line = omega arith in
    form-said c.args.bytes.now c.args.line c.args.before.now c.args.text.now
    (codes "the line before ends the trace, and none may stand behind it")
    c.extend_from_slice-then-ends_trace.result c.args.message.now.items
    c.extend_from_slice-then-ends_trace.new.self.items
    (BehindTheLast behind (c.ends_trace.ensures (search rules)))
    c.extend_from_slice-then-ends_trace.ensures.items

pub returns-in-Ok : goal.returns-in-Ok
returns-in-Ok c =
    let set_up = c.in-Ok.set_up in
    form-of_text c.args.bytes.now c.args.line c.args.before.now c.args.text.now set_up.known
    c.push_text.result c.args.message.now.items c.push_text.new.message.items set_up.lines
    (accepted_by c.args.bytes.now c.split_input.result.0.now set_up.lines set_up.known
    c.split_input.ensures.set_up c.in-Ok.ensures.spelled) c.push_text.ensures

pub returns-in-Err-Refused : goal.returns-in-Err-Refused
returns-in-Err-Refused c =
    let end = c.extend_from_slice-in-Err-Refused in
    let old = c.args.message.now.items in
    form-said c.args.bytes.now c.args.line c.args.before.now c.args.text.now (trace_reason 21)
    end.result old end.new.self.items OfReason
    (subst (λ t. end.new.self.items ≡ (if is_ok end.result then old ++ t else old))
    c.trace_reason.ensures end.ensures.items)
