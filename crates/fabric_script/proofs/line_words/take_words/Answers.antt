use Rattle.std.proofs.Common.{◌≡◌, ◌<◌, ◌≤◌, [], length, take, slice_index_or, sym, subst, ap, arith}
use Rattle.std.proofs.lemmas.List.{length-take, take_all}
use Rattle.fabric_script.specs.Forms.{NewName, fields_of}
use Rattle.fabric_script.specs.Words.{NoMore, Takes, TakesAll}
use Rattle.fabric_script.proofs.Taking.{takes_next, takes_count}
use Rattle.fabric_script.proofs.line_words.take_words.Goals as goal

pub loop-field-init : goal.loop-field-init
loop-field-init c =
    subst (λ vs. TakesAll c.args.known.now [] vs c.args.words.now c.args.words.now)
    (sym c.new-values.ensures) NoMore

pub push-requires : goal.push-requires
push-requires c =
    let fields = fields_of c.args.form in
    let count = takes_count c.args.known.now (take c.loop-field.field-index fields)
    c.loop-field.values.items c.args.words.now c.loop-field.words c.loop-field.invariant in
    let long = length-take c.loop-field.field-index fields in
    let at = c.loop-field-test.true in
    (omega arith, omega (arith, count, long, at, c.fields-field-items.ensures.few))

pub loop-field-preserved : goal.loop-field-preserved
loop-field-preserved c =
    let fields = fields_of c.args.form in
    let same = c.fields-field-items.ensures.fields in
    let more : Takes c.args.known.now
    (slice_index_or fields c.loop-field.field-index (NewName))
    c.in_ok-take.field-0 c.loop-field.words c.take.new.self =
    rw (← same) c.in_ok-take.ensures in
    let within : c.loop-field.field-index < length fields = rw (← same) c.loop-field-test.true in
    takes_next c.args.known.now fields c.loop-field.field-index NewName c.in_ok-take.field-0
    c.loop-field.values.items c.push.new.self.items c.args.words.now c.loop-field.words
    c.take.new.self within c.loop-field.invariant more c.push.ensures.items

pub returns : goal.returns
returns c =
    let fields = fields_of c.args.form in
    let end : length c.fields-field-items.result.now ≤ c.loop-field.field-index = omega arith in
    let long : length c.fields-field-items.result.now ≡ length fields =
    ap length c.fields-field-items.ensures.fields in
    subst (λ fs. TakesAll c.args.known.now fs c.loop-field.values.items c.args.words.now
    c.loop-field.words)
    (take_all c.loop-field.field-index fields (omega (arith, end, long))) c.loop-field.invariant
