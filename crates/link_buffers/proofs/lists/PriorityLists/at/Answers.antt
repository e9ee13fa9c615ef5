use Rattle.std.proofs.Common.{◌∙◌, ◌≡◌, Some, get_or, slice_get, ap, sym}
use Rattle.std.specs.Prelude.{option_copied}
use Rattle.link_buffers.specs.Queues.{list_at}
use Rattle.link_buffers.specs.Rings.{Roomy}
use Rattle.link_buffers.proofs.RingLaws.{list-some}
use Rattle.link_buffers.proofs.lists.PriorityLists.at.Goals as goal

pub returns : goal.returns
returns c =
    let s = c.self.inside in
    let ring = c.index-self-from.result in
    let found : slice_get (get_or s.rings c.args.prio ring).items c.args.place
    ≡ Some c.in_ok-number.number.now =
    ap (λ n. slice_get (get_or s.rings n ring).items c.args.place) (sym c.from.ensures)
    ∙ ap (slice_get (get_or s.rings c.from.result ring).items) (sym c.from-2.ensures)
    ∙ sym c.get.ensures ∙ ap option_copied c.in_ok-number.was in
    c.get-2.ensures
    ∙ ap (slice_get s.places.items) c.from-3.ensures
    ∙ sym (list-some s.places s.free s.rings s.room c.self.invariant c.args.prio c.args.place
    c.in_ok-number.number.now ring c.requires found)
    ∙ ap (λ (r : Roomy). slice_get (list_at r.lists c.args.prio) c.args.place) c.self.view_is
