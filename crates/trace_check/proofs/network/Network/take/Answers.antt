use Rattle.std.proofs.Common.{◌≡◌, ◌∷◌, [], Some, false, List, ℕ, arith, refl, sym, ◌∙◌, subst, rules, tests}
use Rattle.std.specs.Prelude.{IsTrue}
use Rattle.rio_packets.specs.Fields.{prio_of}
use Rattle.fabric_model.specs.Network.{port_of, room_out}
use Rattle.fabric_model.specs.Steps.{item_of, with_waiting}
use Rattle.fabric_trace.specs.Views.{packets_in}
use Rattle.trace_check.specs.Networks.{IsNetwork}
use Rattle.trace_check.proofs.NetworkLaws.{if_ok_map, same_tables}
use Rattle.trace_check.proofs.network.Network.take.Goals as goal

pub returns : goal.returns
returns c = if_ok_map c.put_out.result c.put_out.ensures (λ made put nodes net is less passes.
    let p = port_of c.args.node in
    let packet = c.args.packet.now in
    let ended : c.is_switch.result ≡ Some false = search (rules, tests) in
    let end = sym (c.is_switch.ensures nodes net is) ∙ ended in
    let items = item_of net p packet ∷ [] in
    let Puts : List ℕ → Type 0 = λ k. packets_in items ≡ k ∷ []
    → (made ≡ room_out net p (prio_of k))
    × (IsTrue made → IsNetwork nodes (with_waiting net p (prio_of k) items) c.put_out.new.self) in
    let done = subst Puts c.copy.ensures.same
    (put nodes net items is (record { node = less; port = omega arith })) refl in (
      (λ yes. (end, passes, sym done.0 ∙ yes), λ needs. done.0 ∙ needs.2),
      λ yes. same_tables (done.1 yes),
    ))
