use Rattle.std.proofs.Common.{◌≡◌, None, true, rules, tests}
use Rattle.maint_packets.specs.Requests.{request_of}
use Rattle.fabric_trace.proofs.Network.Faces.{not_asked}
use Rattle.trace_check.proofs.UnmetLaws.{behind_answered, full_answered}
use Rattle.trace_check.proofs.network.Network.unmet_answer.Goals as goal

pub returns-then-not-is_for_registers : goal.returns-then-not-is_for_registers
returns-then-not-is_for_registers c = λ nodes net is is_in. (
  c.next_at.ensures.value nodes net is,
  λ mine.
      let yes = (c.is_for_registers.ensures nodes net is).1 mine in
      cc (c.if-not-is_for_registers.true, yes),
)

pub returns-in-Some : goal.returns-in-Some
returns-in-Some c = λ nodes net is is_in.
    behind_answered net c.args.port c.args.packet.now c.args.response.now c.in-Some.unmet
    (rw c.in-Some.is at (c.unmet_held.ensures nodes net is is_in))

pub returns-then-is_none : goal.returns-then-is_none
returns-then-is_none c = λ nodes net is is_in.
    let none : request_of c.args.packet.now ≡ None = search (rules, tests) in
    not_asked c.args.packet.now none

pub returns-in-Some-unmet_place : goal.returns-in-Some-unmet_place
returns-in-Some-unmet_place c = λ nodes net is is_in.
    full_answered net c.args.port c.args.packet.now c.args.response.now c.in-Some-unmet_place.unmet
    (rw c.in-Some-unmet_place.is at (c.unmet_place.ensures nodes net is is_in))

pub returns : goal.returns
returns c = λ nodes net is is_in. λ never. λ answers.
    let served : c.is_for_registers.result ≡ true = search (rules, tests) in
    let mine = (c.is_for_registers.ensures nodes net is).0 served in
    let first = rw c.in_default.is at (c.unmet_held.ensures nodes net is is_in) in
    let room = rw c.in_default-unmet_place.is at (c.unmet_place.ensures nodes net is is_in) in
    never (first, mine, answers.0, answers.1, room)
