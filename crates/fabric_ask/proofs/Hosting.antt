-- What a host collects, and that its request is taken.
use Rattle.fabric_ask.proofs.Prelude.{◌≡◌, ℕ, ◌+◌, ◌<◌, nat_lt, true, false, List, [], ◌∷◌, length, filter, ◌==◌, Option, Some, None, refl, sym, ap, ◌∙◌, prio_of, is_request, Registers, request_of, Collected, head_of, first_held, collected_of, collected_head, collected, greatest_first-is, PortRef, Item, Network, port_of, to_send, room_out, Leave, Answer, AtNode, ByDevice, Seen, Empty, TraceLine, Stepped, Lacked, Full, face_in, collect_lines, IsCollect, head_held, IsGood, Held, IsOnly, IsClear}
use Rattle.switch_core.specs.declared.endpoint.Collected.TheVariants as Collects
use Rattle.fabric_model.specs.Laws.Priorities.{ByPriority}
use Rattle.fabric_ask.proofs.Serving.{is_one, head_is, greatest-none}
use Rattle.fabric_ask.proofs.Collecting.{Makes, Leaving, Answering, collect_makes}

-- ---- the host collects the response

module _ (net : Network) (host : ℕ) (item : Item) (good : ByPriority net)
    (only : IsOnly net (Held (port_of host)) item) (few : prio_of item.now < 4)
    (answer : is_request item.now ≡ false) where
  not_asked : request_of item.now ≡ None
  not_asked = rw answer refl

  left_is : (device : Registers) → collected device (face_in net (port_of host)) ≡ Collects.Left
      item.now
  left_is device = by_head (first_held (face_in net (port_of host))) refl
    where
      some_not : (o : Option (List ℕ)) → o ≡ None → o ≡ Some item.now → ⊥
      some_not o none some = let bad : None ≡ Some item.now = sym none ∙ some in absurd cc

      by_head : (head : Option (List ℕ)) → first_held (face_in net (port_of host)) ≡ head
          → collected_head device (face_in net (port_of host)) head ≡ Collects.Left item.now
      by_head None is = absurd (some_not _
          (greatest-none (head_of (face_in net (port_of host))) 4 (prio_of item.now) is few)
          (head_is net (port_of host) item only few))
      by_head (Some packet) is =
          let at = greatest_first-is (head_of (face_in net (port_of host))) 4 packet is in
          let held = head_held net (port_of host) at.0 packet good at.2 in
          let same = (is_one net (port_of host) (port_of host) item packet only held.first).1 in
          ap (λ p. collected_of device (face_in net (port_of host)) p (request_of p)) same
          ∙ ap (collected_of device (face_in net (port_of host)) item.now) not_asked

  pub leaves_is : (lines : List TraceLine) → IsCollect net host lines
      → lines ≡ Stepped (AtNode (Leave host item.now)) ∷ []
  leaves_is lines is = is.lines ∙ ap (collect_lines host) (left_is is.device)

-- ---- what a host collects is one line

pub one_line : (node : ℕ) (made : Collected) → (line : TraceLine)
    × (collect_lines node made ≡ line ∷ [])
one_line node (Collects.Left packet) = (Stepped (AtNode (Leave node packet)), refl)
one_line node (Collects.Answered request response) =
    (Stepped (ByDevice (Answer (port_of node) request response)), refl)
one_line node Collects.Empty = (Lacked Empty, refl)
one_line node Collects.Full = (Lacked Full, refl)

-- what leaves is no request
pub left_not_asked : (s : Seen) (host : ℕ) (p : List ℕ) (item : Item) → IsGood s
    → IsOnly s.network (Held (port_of host)) item
    → IsCollect s.network host (Stepped (AtNode (Leave host p)) ∷ []) → is_request item.now ≡ true
    → ⊥
left_not_asked s host p item good only is asks_it =
    by_made (collect_makes s host (AtNode (Leave host p)) good is)
  where
    by_made : Makes s.network host (AtNode (Leave host p)) → ⊥
    by_made (Leaving packet at needs) =
        let same = (is_one s.network (port_of host) (port_of host) item packet only needs.1).1 in
        let bad : true ≡ false = sym asks_it ∙ ap is_request (sym same) ∙ needs.2 in absurd cc
    by_made (Answering packet response at needs) = absurd cc

-- ---- the host's request is taken

pub has_room_out : (net : Network) (p : PortRef) (r : ℕ) → IsClear net → room_out net p r ≡ true
has_room_out net p r clear = ap (λ n. nat_lt n 16) none
  where
    none : to_send net p r ≡ 0
    none = λ i. length (clear.waiting p r i) + length
        (filter (λ item. prio_of item.now == r) (clear.lent p i))
