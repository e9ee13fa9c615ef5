use Rattle.std.proofs.Common.{◌<◌, ◌≡◌, ◌∙◌, ◌∷◌, ◌++◌, [], ℕ, List, set, get_or, ap, arith}
use Rattle.circular_buffer.specs.Buffer.{Buffer, buffer, keep_last}
use Rattle.rio_packets.specs.Fields.{prio_of}
use Rattle.link_buffers.specs.Queues.{appended}
use Rattle.link_buffers.specs.Rings.{Roomy, stowed, lists_of}
use Rattle.link_buffers.proofs.RingLaws.{free-within, some_room, ring-pushed, lists_of-put, AreRings-put}
use Rattle.link_buffers.proofs.lists.PriorityLists.put.Goals as goal

-- lists and their room
abbrev roomy : List (List (List ℕ)) → ℕ → Roomy
roomy lists room = record { lists = lists; room = room }

pub place-number-requires-clause-free : goal.place-number-requires-clause-free
place-number-requires-clause-free c = free-within _ _ _ _ c.self.invariant

pub place-number-requires-clause-room : goal.place-number-requires-clause-room
place-number-requires-clause-room c =
    some_room _ _ _ _ c.self.invariant
    (rw (← c.self.view_is) at (c.requires (omega (arith, c.prio-prio.ensures))))

pub invariant_of-self : goal.invariant_of-self
invariant_of-self c =
    let s = c.self.inside in
    let some = rw (← c.self.view_is) at (c.requires (omega (arith, c.prio-prio.ensures))) in
    let few : c.from.result < 4 = omega (arith, c.from.ensures, c.prio-prio.ensures.range) in
    let place = (stowed s.places.items s.free.items c.args.packet).place in
    let ring = c.index-self-from.result in
    let old = get_or s.rings c.from.result ring in
    let next : c.push_back.new.self
    ≡ buffer (old.items ++ place ∷ []) s.room =
    ring-pushed s.places s.free s.rings s.room c.self.invariant c.from.result place ring
    c.push_back.new.self few some
    (c.push_back.ensures.items
    ∙ ap (λ n. buffer (keep_last old.capacity (old.items ++ n ∷ [])) old.capacity)
    c.place-number.ensures.place) in
    rw c.place-number.ensures.places (rw c.place-number.ensures.free
    (AreRings-put s.places s.free s.rings s.room c.self.invariant c.from.result c.args.packet
    ring c.push_back.new.self few some (ap (λ (b : Buffer ℕ). b.items) next)
    (ap (λ (b : Buffer ℕ). b.capacity) next)))

pub returns-clause-lists : goal.returns-clause-lists
returns-clause-lists c =
    let s = c.self.inside in
    let some = rw (← c.self.view_is) at (c.requires (omega (arith, c.prio-prio.ensures))) in
    let few : c.from.result < 4 = omega (arith, c.from.ensures, c.prio-prio.ensures.range) in
    let place = (stowed s.places.items s.free.items c.args.packet).place in
    let ring = c.index-self-from.result in
    let old = get_or s.rings c.from.result ring in
    let next : c.push_back.new.self
    ≡ buffer (old.items ++ place ∷ []) s.room =
    ring-pushed s.places s.free s.rings s.room c.self.invariant c.from.result place ring
    c.push_back.new.self few some
    (c.push_back.ensures.items
    ∙ ap (λ n. buffer (keep_last old.capacity (old.items ++ n ∷ [])) old.capacity)
    c.place-number.ensures.place) in
    let put =
    lists_of-put s.places s.free s.rings s.room c.self.invariant c.from.result c.args.packet ring
    c.push_back.new.self few (ap (λ (b : Buffer ℕ). b.items) next) in
    ap (λ (places : Buffer (List ℕ)). roomy
    (lists_of places.items (set s.rings c.from.result c.push_back.new.self)) s.room)
    c.place-number.ensures.places
    ∙ ap (λ lists. roomy lists s.room) put
    ∙ ap (λ prio. roomy (appended (lists_of s.places.items s.rings) prio c.args.packet) s.room)
    (c.from.ensures ∙ c.prio-prio.ensures.value)
    ∙ ap (λ (r : Roomy). record r {
      lists = appended r.lists (prio_of c.args.packet) c.args.packet;
    }) c.self.view_is
