use Rattle.std.proofs.Common.{◌∙◌, set, slice_get, ap, sym, arith}
use Rattle.std.specs.Option.{option_copied_mut}
use Rattle.circular_buffer.specs.Buffer.{buffer}
use Rattle.link_buffers.specs.Rings.{Stowed}
use Rattle.link_buffers.proofs.PlaceLaws.{stowed-some, stowed-none, none_free, first-within, keep_last-room}
use Rattle.link_buffers.proofs.lists.place.Goals as goal

pub returns-in-Some-get_mut-clause-places : goal.returns-in-Some-get_mut-clause-places
returns-in-Some-get_mut-clause-places c =
    let places = c.args.places.now in
    ap (λ n. buffer (set places.items n c.args.packet) places.capacity) c.from.ensures
    ∙ ap (λ (p : Stowed). buffer p.places places.capacity)
    (sym (stowed-some places.items c.args.free.now.items c.args.packet c.in-Some.number
    (sym c.pop_front.ensures.value ∙ c.in-Some.is)))

pub returns-in-Some-get_mut-clause-free : goal.returns-in-Some-get_mut-clause-free
returns-in-Some-get_mut-clause-free c =
    let free = c.args.free.now in
    c.pop_front.ensures.items
    ∙ ap (λ (p : Stowed). buffer p.free free.capacity)
    (sym (stowed-some c.args.places.now.items free.items c.args.packet c.in-Some.number
    (sym c.pop_front.ensures.value ∙ c.in-Some.is)))

pub returns-in-Some-get_mut-clause-place : goal.returns-in-Some-get_mut-clause-place
returns-in-Some-get_mut-clause-place c =
    ap (λ (p : Stowed). p.place)
    (sym (stowed-some c.args.places.now.items c.args.free.now.items c.args.packet c.in-Some.number
    (sym c.pop_front.ensures.value ∙ c.in-Some.is)))

pub returns-in_default-get_mut-clause-places : goal.returns-in_default-get_mut-clause-places
returns-in_default-get_mut-clause-places c =
    absurd (first-within c.args.places.now.items c.args.free.now.items c.in-Some.number
    c.requires.free (sym c.pop_front.ensures.value ∙ c.in-Some.is)
    (ap (slice_get c.args.places.now.items) (sym c.from.ensures)
    ∙ sym c.get_mut.ensures.value ∙ ap option_copied_mut c.in_default-get_mut.is))

pub returns-in_default-get_mut-clause-free : goal.returns-in_default-get_mut-clause-free
returns-in_default-get_mut-clause-free c =
    absurd (first-within c.args.places.now.items c.args.free.now.items c.in-Some.number
    c.requires.free (sym c.pop_front.ensures.value ∙ c.in-Some.is)
    (ap (slice_get c.args.places.now.items) (sym c.from.ensures)
    ∙ sym c.get_mut.ensures.value ∙ ap option_copied_mut c.in_default-get_mut.is))

pub returns-in_default-get_mut-clause-place : goal.returns-in_default-get_mut-clause-place
returns-in_default-get_mut-clause-place c =
    absurd (first-within c.args.places.now.items c.args.free.now.items c.in-Some.number
    c.requires.free (sym c.pop_front.ensures.value ∙ c.in-Some.is)
    (ap (slice_get c.args.places.now.items) (sym c.from.ensures)
    ∙ sym c.get_mut.ensures.value ∙ ap option_copied_mut c.in_default-get_mut.is))

pub returns-clause-places : goal.returns-clause-places
returns-clause-places c =
    let places = c.args.places.now in
    let none = sym c.pop_front.ensures.value ∙ c.in_default.is in
    let no_free = none_free c.args.free.now.items none in
    let room = c.requires.room in
    c.push_back.ensures.items
    ∙ ap (λ items. buffer items places.capacity)
    (keep_last-room places.items c.args.packet places.capacity (omega arith))
    ∙ ap (λ (p : Stowed). buffer p.places places.capacity)
    (sym (stowed-none places.items c.args.free.now.items c.args.packet none))

pub returns-clause-free : goal.returns-clause-free
returns-clause-free c =
    let free = c.args.free.now in
    c.pop_front.ensures.items
    ∙ ap (λ (p : Stowed). buffer p.free free.capacity)
    (sym (stowed-none c.args.places.now.items free.items c.args.packet
    (sym c.pop_front.ensures.value ∙ c.in_default.is)))

pub returns-clause-place : goal.returns-clause-place
returns-clause-place c =
    c.len-number.ensures.len
    ∙ ap (λ (p : Stowed). p.place)
    (sym (stowed-none c.args.places.now.items c.args.free.now.items c.args.packet
    (sym c.pop_front.ensures.value ∙ c.in_default.is)))
