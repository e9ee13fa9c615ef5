use Rattle.std.proofs.Common.{◌≡◌, ◌∷◌, [], List, ℕ, Some, ap, sym, ◌∙◌, subst, true, rules, tests}
use Rattle.std.proofs.lemmas.Option.{same_Some}
use Rattle.std.proofs.lemmas.Slice.Eq.{bytes_eq-Decides}
use Rattle.std.specs.Prelude.{IsTrue}
use Rattle.rio_packets.specs.Fields.{prio_of}
use Rattle.rio_packets.specs.LinkForm.{Passes}
use Rattle.fabric_model.specs.Network.{room_out}
use Rattle.fabric_model.specs.Serving.{response_at}
use Rattle.fabric_model.specs.Steps.{Answer, ByDevice, item_of, with_waiting, without_first}
use Rattle.trace_check.specs.Networks.{IsNetwork, with_answered}
use Rattle.trace_check.proofs.NetworkLaws.{if_ok_map, not_made, same_tables}
use Rattle.trace_check.proofs.network.Network.answer.Goals as goal

-- it is not for the registers
pub returns-then-not-is_for_registers : goal.returns-then-not-is_for_registers
returns-then-not-is_for_registers c = λ nodes net is is_in.
    not_made net (ByDevice (Answer c.args.port c.args.packet.now c.args.response.now)) (λ needs.
    let yes = (c.is_for_registers.ensures nodes net is).1 needs.1 in
    cc (c.if-not-is_for_registers.true, yes))

-- it is not the first of its priority
pub returns-then-not-take_first : goal.returns-then-not-take_first
returns-then-not-take_first c = λ nodes net is is_in.
    not_made net (ByDevice (Answer c.args.port c.args.packet.now c.args.response.now)) (λ needs.
    let yes = (c.take_first.ensures nodes net is is_in).0.1 needs.0 in
    cc (c.if-not-take_first.true, yes))

pub returns-in-Some : goal.returns-in-Some
returns-in-Some c = if_ok_map c.put_out.result c.put_out.ensures (λ made put nodes net is is_in.
    let p = c.args.port in
    let packet = c.args.packet.now in
    let response = c.args.response.now in
    let answered = c.in-Some.answered in
    let before = without_first net p (prio_of packet) in
    let served : c.is_for_registers.result ≡ true = search (rules, tests) in
    let mine = (c.is_for_registers.ensures nodes net is).0 served in
    let taken = c.take_first.ensures nodes net is is_in in
    let yes : c.take_first.result ≡ true = search (rules, tests) in
    let same : answered ≡ response
    = (bytes_eq-Decides answered response).0 (sym c.eq.ensures ∙ c.if-eq.true) in
    let there : response_at net p packet ≡ Some response
    = sym (c.respond.ensures.value nodes before (taken.1 yes)) ∙ c.in-Some.is ∙ ap Some same in
    let passes : Passes response = subst Passes same c.in-Some.ensures.form in
    let items = item_of net p response ∷ [] in
    let done = put nodes (with_answered before p packet) items
    (c.respond.ensures.registers nodes before (taken.1 yes)) is_in
    (ap (λ (k : List ℕ). k ∷ []) (sym same)) in
    let Puts : List ℕ → Type 0 = λ k. (made ≡ room_out net p (prio_of k))
    × (IsTrue made → IsNetwork nodes (with_waiting (with_answered before p packet) p (prio_of k)
    items) c.put_out.new.self) in
    let all : Puts response = subst Puts same done in (
      (λ ok. (taken.0.0 yes, mine, there, passes, sym all.0 ∙ ok), λ needs. all.0 ∙ needs.4),
      λ ok. same_tables (all.1 ok),
    ))

-- another packet is answered
pub returns-in_default : goal.returns-in_default
returns-in_default c = λ nodes net is is_in.
    let packet = c.args.packet.now in
    let response = c.args.response.now in
    let yes : c.take_first.result ≡ true = search (rules, tests) in
    let value = c.respond.ensures.value nodes (without_first net c.args.port (prio_of packet))
    ((c.take_first.ensures nodes net is is_in).1 yes) in
    not_made net (ByDevice (Answer c.args.port packet response)) (λ needs.
    let same = same_Some c.in-Some.answered response (sym c.in-Some.is ∙ value ∙ needs.2) in
    let equal = c.eq.ensures ∙ (bytes_eq-Decides c.in-Some.answered response).1 same in
    cc (c.if-eq.false, equal))

-- none is
pub returns-in_default-2 : goal.returns-in_default-2
returns-in_default-2 c = λ nodes net is is_in.
    let packet = c.args.packet.now in
    let yes : c.take_first.result ≡ true = search (rules, tests) in
    let value = c.respond.ensures.value nodes (without_first net c.args.port (prio_of packet))
    ((c.take_first.ensures nodes net is is_in).1 yes) in
    not_made net (ByDevice (Answer c.args.port packet c.args.response.now))
    (λ needs. cc (c.in_default.is, value ∙ needs.2))
