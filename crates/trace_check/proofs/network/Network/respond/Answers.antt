use Rattle.std.proofs.Common.{◌≡◌, ◌≤◌, ◌<◌, ◌∙◌, None, Option, Some, ap, length, refl, slice_get, sym, rules}
use Rattle.std.proofs.lemmas.Option.{slice_get_past, slice_get_read}
use Rattle.maint_registers.proofs.ChangeLaws.{changed_at, unchanged}
use Rattle.maint_packets.specs.declared.request.Request.{Request}
use Rattle.maint_packets.specs.Requests.{request_of}
use Rattle.maint_packets.specs.Responses.{response_bytes}
use Rattle.fabric_model.specs.Serving.{device_after}
use Rattle.fabric_trace.proofs.Network.Faces.{response_is}
use Rattle.trace_check.proofs.NetworkLaws.{registers_set}
use Rattle.trace_check.proofs.network.Network.respond.Goals as goal

-- what is no request changes no registers
pub returns-in_err-request-clause-registers : goal.returns-in_err-request-clause-registers
returns-in_err-request-clause-registers c = λ nodes net is.
    let p = c.args.port in
    let answers = device_after p.port (request_of c.args.packet.now) in
    let none : request_of c.args.packet.now ≡ None
    = sym c.read_request.ensures.value ∙ c.in_err-request.was in
    registers_set p.node answers is
    (sym (unchanged c.args.self.now.registers.items p.node answers
    (λ device there. ap (λ (o : Option Request). device_after p.port o device) none))) refl

-- nor is there one at a node that there is not
pub returns-then-node-len-clause-value : goal.returns-then-node-len-clause-value
returns-then-node-len-clause-value c = λ nodes net is.
    let p = c.args.port in
    let list = c.args.self.now.registers.items in
    let past : length list ≤ p.node = search rules in
    let gone : slice_get net.registers p.node ≡ None
    = ap (λ l. slice_get l p.node) (sym is.registers) ∙ slice_get_past list p.node past in
    search (rules, gone)

pub returns-then-node-len-clause-registers : goal.returns-then-node-len-clause-registers
returns-then-node-len-clause-registers c = λ nodes net is.
    let p = c.args.port in
    let list = c.args.self.now.registers.items in
    let answers = device_after p.port (request_of c.args.packet.now) in
    let past : length list ≤ p.node = search rules in
    registers_set p.node answers is (sym (unchanged list p.node answers
    (λ device there. absurd (cc (slice_get_past list p.node past, there))))) refl

pub returns-clause-value : goal.returns-clause-value
returns-clause-value c = λ nodes net is.
    let p = c.args.port in
    let list = c.args.self.now.registers.items in
    let request = c.in_ok-request.request in
    let device = c.index_mut.result.now in
    let asked : request_of c.args.packet.now ≡ Some request
    = sym c.read_request.ensures.value ∙ c.in_ok-request.was in
    let within : c.from-node.result < length list = search rules in
    let stands : slice_get net.registers p.node ≡ Some device
    = ap (λ l. slice_get l p.node) (sym is.registers)
    ∙ ap (slice_get list) (sym c.from-node.ensures)
    ∙ slice_get_read list (length list) c.from-node.result device refl within
    c.index_mut.ensures.value in
    ap Some (c.write_response.ensures.value
    ∙ ap response_bytes c.answer-answered.ensures.response)
    ∙ sym (response_is net p device c.args.packet.now request stands asked)

pub returns-clause-registers : goal.returns-clause-registers
returns-clause-registers c = λ nodes net is.
    let p = c.args.port in
    let list = c.args.self.now.registers.items in
    let device = c.index_mut.result.now in
    let answers = device_after p.port (request_of c.args.packet.now) in
    let asked : request_of c.args.packet.now ≡ Some c.in_ok-request.request
    = sym c.read_request.ensures.value ∙ c.in_ok-request.was in
    let within : c.from-node.result < length list = search rules in
    let written : c.answer-answered.new.registers ≡ answers device
    = c.answer-answered.ensures.registers
    ∙ ap (λ (o : Option Request). device_after p.port o device) (sym asked) in
    registers_set p.node answers is (changed_at list p.node c.from-node.result device
    c.answer-answered.new.registers answers c.from-node.ensures within c.index_mut.ensures.value
    written) refl
