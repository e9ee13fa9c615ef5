use Rattle.std.proofs.Common.{◌≡◌, [], length, Err, arith, refl, ap, ◌∙◌}
use Rattle.std.specs.Result.{IsErrOf}
use Rattle.maint_packets.specs.declared.request.Request.{Request}
use Rattle.maint_packets.specs.declared.response.Response.{Response}
use Rattle.fabric_ports.specs.declared.asking.AskEnd.{AskEnd}
use Rattle.fabric_ports.specs.declared.asking.AskEnd.TheVariants.{WriteFault}
use Rattle.fabric_maint.specs.Requests.{request_for, answer_in}
use Rattle.fabric_maint.proofs.Asking.{asks_on, asked_whole, asked_answer, asked_registers}
use Rattle.fabric_maint.proofs.Ending.{some_end, abandons_at, causes}
use Rattle.fabric_maint.proofs.maint.FabricMaintMaint.ask.Goals as goal

of_err : (end other : AskEnd) → IsErrOf {T = Response} {E = AskEnd} (Err end) other → end ≡ other
of_err end other same = cc

pub host_id-requires : goal.host_id-requires
host_id-requires g c = c.requires.whole

pub request_for-request-requires : goal.request_for-request-requires
request_for-request-requires g c = c.requires.offset

pub ask-asked-requires-clause-can : goal.ask-asked-requires-clause-can
ask-asked-requires-clause-can g c = (c.requires.whole.s, [], c.requires.whole.rests.can)

pub ask-asked-requires-clause-named : goal.ask-asked-requires-clause-named
ask-asked-requires-clause-named g c =
    let whole = c.requires.whole in
    let count = ap (λ topology. topology.nodes) whole.topology in
    let same = ap length whole.rests.can.stands.shows.registers in
    let named = whole.named in
    let long = ap length c.as_slice.ensures.value in
    omega (arith, count, same, named, long)

pub ask-asked-requires-clause-few : goal.ask-asked-requires-clause-few
ask-asked-requires-clause-few g c =
    let few = c.requires.whole.few in
    let long = ap length c.as_slice.ensures.value in
    omega (arith, few, long)

pub ask-asked-requires-clause-op : goal.ask-asked-requires-clause-op
ask-asked-requires-clause-op g c = c.request_for-request.ensures.good

pub ask-asked-requires-clause-prio : goal.ask-asked-requires-clause-prio
ask-asked-requires-clause-prio g c =
    let same = ap (λ (r : Request). r.prio) c.request_for-request.ensures.value in
    omega (arith, same)

pub ask-asked-requires-clause-offset : goal.ask-asked-requires-clause-offset
ask-asked-requires-clause-offset g c =
    let same = ap (λ (r : Request). r.offset) c.request_for-request.ensures.value in
    let low = c.requires.offset in
    omega (arith, same, low)

pub end_for-requires : goal.end_for-requires
end_for-requires g c =
    some_end g.N.Noise.edits g.K.Sink.written c.args.self.now c.requires.whole c.ask-asked.new.self
    c.ask-asked.new.noise c.ask-asked.new.sink 0 c.args.dest c.args.hops c.args.access
    c.requires.offset (omega (arith, c.ranges.hops.fits)) c.requires.answered.0
    c.requires.answered.1 c.request_for-request.result c.host_id.result c.host_id.ensures
    c.request_for-request.ensures.value c.as_slice.result.now c.as_slice.ensures.value
    c.in-Err.end c.in-Err.ensures.ended

pub returns-in-Ok-clause-answer : goal.returns-in-Ok-clause-answer
returns-in-Ok-clause-answer g c at answers =
    let id = c.host_id.ensures in
    let is = c.request_for-request.ensures.value
    ∙ ap (λ i. request_for i c.args.self.now.tid c.args.dest c.args.hops c.args.access) id in
    c.answer_in.ensures ∙ ap (λ (r : Request). answer_in c.in-Ok.response r.offset) is
    ∙ asked_answer g.N.Noise.edits g.K.Sink.written c.args.self.now c.requires.whole
    c.ask-asked.new.self
    c.ask-asked.new.noise c.ask-asked.new.sink c.args.self.now.undetected c.args.dest c.args.hops
    c.args.access c.requires.offset c.request_for-request.result c.in-Ok.response c.host_id.result
    c.host_id.ensures c.request_for-request.ensures.value c.as_slice.result.now
    c.as_slice.ensures.value c.in-Ok.ensures.replied at answers

pub returns-in-Ok-clause-registers : goal.returns-in-Ok-clause-registers
returns-in-Ok-clause-registers g c at answers =
    asked_registers g.N.Noise.edits g.K.Sink.written c.args.self.now c.requires.whole
    c.ask-asked.new.self
    c.ask-asked.new.noise c.ask-asked.new.sink c.args.self.now.undetected c.args.dest c.args.hops
    c.args.access c.requires.offset c.request_for-request.result c.in-Ok.response c.host_id.result
    c.host_id.ensures c.request_for-request.ensures.value c.as_slice.result.now
    c.as_slice.ensures.value c.in-Ok.ensures.replied at answers

pub returns-in-Ok-clause-topology : goal.returns-in-Ok-clause-topology
returns-in-Ok-clause-topology g c = refl

pub returns-in-Ok-clause-whole : goal.returns-in-Ok-clause-whole
returns-in-Ok-clause-whole g c =
    asked_whole g.N.Noise.edits g.K.Sink.written c.args.self.now c.requires.whole
    c.ask-asked.new.self
    c.ask-asked.new.noise c.ask-asked.new.sink c.args.self.now.undetected c.args.dest c.args.hops
    c.args.access c.requires.offset c.request_for-request.result c.in-Ok.response c.host_id.result
    c.host_id.ensures c.request_for-request.ensures.value c.as_slice.result.now
    c.as_slice.ensures.value c.in-Ok.ensures.replied c.requires.answered.0 c.requires.answered.1

pub returns-in-Ok-clause-follows : goal.returns-in-Ok-clause-follows
returns-in-Ok-clause-follows g c origin followed =
    asks_on g.N.Noise.edits g.K.Sink.written c.args.self.now c.requires.whole c.ask-asked.new.self
    c.ask-asked.new.noise c.ask-asked.new.sink c.args.self.now.undetected c.args.dest c.args.hops
    c.args.access c.requires.offset c.request_for-request.result c.in-Ok.response c.host_id.result
    c.host_id.ensures c.request_for-request.ensures.value c.as_slice.result.now
    c.as_slice.ensures.value c.in-Ok.ensures.replied g.K.Sink.faults origin
    c.ask-asked.ensures.never_falls followed

pub returns-in-Ok-clause-undetected : goal.returns-in-Ok-clause-undetected
returns-in-Ok-clause-undetected g c = refl

pub returns-in-Ok-clause-faults : goal.returns-in-Ok-clause-faults
returns-in-Ok-clause-faults g c = c.in-Ok.ensures.counts (λ fault. absurd cc)

pub returns-in-Err-clause-topology : goal.returns-in-Err-clause-topology
returns-in-Err-clause-topology g c = refl

pub returns-in-Err-clause-leaves : goal.returns-in-Err-clause-leaves
returns-in-Err-clause-leaves g c origin followed =
    abandons_at g.N.Noise.edits g.K.Sink.written c.args.self.now c.requires.whole
    c.ask-asked.new.self
    c.ask-asked.new.noise c.ask-asked.new.sink c.count_after-self.result c.args.dest c.args.hops
    c.args.access
    c.requires.offset (omega (arith, c.ranges.hops.fits)) c.requires.answered.0
    c.requires.answered.1 c.request_for-request.result c.host_id.result c.host_id.ensures
    c.request_for-request.ensures.value c.as_slice.result.now c.as_slice.ensures.value
    c.in-Err.end c.in-Err.ensures.ended g.K.Sink.faults origin
    c.ask-asked.ensures.never_falls followed

pub returns-in-Err-clause-cause : goal.returns-in-Err-clause-cause
returns-in-Err-clause-cause g c =
    causes g.N.Noise.edits g.K.Sink.written c.args.self.now c.requires.whole c.ask-asked.new.self
    c.ask-asked.new.noise c.ask-asked.new.sink c.count_after-self.result c.args.dest c.args.hops
    c.args.access
    c.requires.offset (omega (arith, c.ranges.hops.fits)) c.requires.answered.0
    c.requires.answered.1 c.request_for-request.result c.host_id.result c.host_id.ensures
    c.request_for-request.ensures.value c.as_slice.result.now c.as_slice.ensures.value
    c.in-Err.end c.in-Err.ensures.ended g.K.Sink.faults c.end_for.result c.end_for.ensures
    c.count_after-self.ensures
    (λ same. c.in-Err.ensures.write_fault (ap Err same))
    (λ apart. c.in-Err.ensures.counts (λ same. apart (of_err c.in-Err.end WriteFault same)))
