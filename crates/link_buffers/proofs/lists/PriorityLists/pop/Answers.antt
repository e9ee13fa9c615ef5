use Rattle.std.proofs.Common.{◌≡◌, ◌∙◌, Some, get_or, slice_get, ap, sym, arith}
use Rattle.std.specs.Prelude.{option_copied}
use Rattle.link_buffers.specs.Queues.{list_at}
use Rattle.link_buffers.specs.Rings.{Roomy}
use Rattle.link_buffers.proofs.RingLaws.{list-some, AreRings-popped}
use Rattle.link_buffers.proofs.lists.PriorityLists.pop.Goals as goal

pub invariant_of-self-in_err-packet : goal.invariant_of-self-in_err-packet
invariant_of-self-in_err-packet c =
    let s = c.self.inside in
    AreRings-popped s.places s.free s.rings s.room c.self.invariant c.from.result
    c.in_ok-number.number c.index-self-from.result c.pop_front.new.self c.push_back.new.self
    (omega (arith, c.from.ensures, c.requires))
    (sym c.pop_front.ensures.value ∙ c.in_ok-number.was) c.pop_front.ensures.items
    c.push_back.ensures.items

pub returns-in_err-packet-clause-value : goal.returns-in_err-packet-clause-value
returns-in_err-packet-clause-value c =
    let s = c.self.inside in
    let ring = c.index-self-from.result in
    let prio = c.args.prio in
    let found : slice_get (get_or s.rings prio ring).items 0 ≡ Some c.in_ok-number.number =
    ap (λ n. slice_get (get_or s.rings n ring).items 0) (sym c.from.ensures)
    ∙ sym c.pop_front.ensures.value ∙ c.in_ok-number.was in
    c.from_residual-in_err-packet.ensures
    ∙ ap option_copied (sym c.in_err-packet.was)
    ∙ c.get.ensures ∙ ap (slice_get s.places.items) c.from-2.ensures
    ∙ sym (list-some s.places s.free s.rings s.room c.self.invariant prio 0
    c.in_ok-number.number ring c.requires found)
    ∙ ap (λ (r : Roomy). slice_get (list_at r.lists prio) 0) c.self.view_is

pub invariant_of-self-2 : goal.invariant_of-self-2
invariant_of-self-2 c =
    let s = c.self.inside in
    AreRings-popped s.places s.free s.rings s.room c.self.invariant c.from.result
    c.in_ok-number.number c.index-self-from.result c.pop_front.new.self c.push_back.new.self
    (omega (arith, c.from.ensures, c.requires))
    (sym c.pop_front.ensures.value ∙ c.in_ok-number.was) c.pop_front.ensures.items
    c.push_back.ensures.items

pub returns-clause-value : goal.returns-clause-value
returns-clause-value c =
    let s = c.self.inside in
    let ring = c.index-self-from.result in
    let prio = c.args.prio in
    let found : slice_get (get_or s.rings prio ring).items 0 ≡ Some c.in_ok-number.number =
    ap (λ n. slice_get (get_or s.rings n ring).items 0) (sym c.from.ensures)
    ∙ sym c.pop_front.ensures.value ∙ c.in_ok-number.was in
    ap Some c.copy.ensures.same
    ∙ ap option_copied (sym c.in_ok-packet.was)
    ∙ c.get.ensures ∙ ap (slice_get s.places.items) c.from-2.ensures
    ∙ sym (list-some s.places s.free s.rings s.room c.self.invariant prio 0
    c.in_ok-number.number ring c.requires found)
    ∙ ap (λ (r : Roomy). slice_get (list_at r.lists prio) 0) c.self.view_is
