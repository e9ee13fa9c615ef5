-- Where nothing is answered, of two packets of one course the one that was taken first leaves
-- first.
use Rattle.io_law.proofs.Prelude.{◌≡◌, ◌≤◌, ◌<◌, ℕ, false, List, [], ◌∷◌, ◌++◌, length, Some, refl, sym, ap, ◌∙◌, subst, arith, append_assoc, slice_get, AllByRecursion, prio_of, dest_of, Network, Item, port_of, Takes, Leave, Move, Drop, Answer, Step, Linked, AtNode, ByDevice, only_first, after, after_all, LegalFrom, SameCourse, IsEmptyNetwork, EndLeft, EndAnswered, taken_by, ended_by, items_taken, items_ended, gone, WasTaken, ReceivedAt, how_often, is_answer, how_often-append, holding_exactly, all-parts, ComesBefore}
use Rattle.fabric_model.specs.Laws.Proper.{AreProper}
use Rattle.fabric_model.proofs.Flows.{in_order_of_course}
use Rattle.fabric_model.proofs.Joining.{legal_parts}
use Rattle.fabric_model.proofs.Room.{at_most_first}
use Rattle.io_law.proofs.Places.{slice_get-append, slice_get-front, get_below, find_number, find_step}
use Rattle.io_law.proofs.Plain.{NoAnswers, routes_stand}
use Rattle.io_law.proofs.Tracing.{gathered-append}

-- ---- one at a time

pub takes_few : (net : Network) (step : Step) → length (taken_by net step) ≤ 1
takes_few net (Linked step) = omega arith
takes_few net (AtNode (Takes n packet)) = omega arith
takes_few net (AtNode (Leave n packet)) = omega arith
takes_few net (ByDevice (Move p q packet)) = omega arith
takes_few net (ByDevice (Drop p packet)) = omega arith
takes_few net (ByDevice (Answer p packet response)) = omega arith

leaves_few : (net : Network) (step : Step) → length (ended_by EndLeft net step) ≤ 1
leaves_few net (Linked step) = omega arith
leaves_few net (AtNode (Takes n packet)) = omega arith
leaves_few net (AtNode (Leave n packet)) = at_most_first (net.received (port_of n) (prio_of packet))
leaves_few net (ByDevice (Move p q packet)) = omega arith
leaves_few net (ByDevice (Drop p packet)) = omega arith
leaves_few net (ByDevice (Answer p packet response)) = omega arith

-- ---- what leaves stood there

all_only : (P : Item → Type 0) (items : List Item) (z : Item) → only_first items ≡ z ∷ []
    → AllByRecursion P items → P z
all_only P [] z is all = absurd cc
all_only P (item ∷ items) z is all = let same : item ≡ z = cc in subst P same all.0

leaver_taken : (start : Network) (before : List Step) (net : Network) (step : Step) (z : Item)
    → IsEmptyNetwork start → LegalFrom start before net → ended_by EndLeft net step ≡ z ∷ []
    → WasTaken start before z
leaver_taken start before net (Linked step) z empty legal is = absurd cc
leaver_taken start before net (AtNode (Takes n packet)) z empty legal is = absurd cc
leaver_taken start before net (AtNode (Leave n packet)) z empty legal is =
    all_only (WasTaken start before) (net.received (port_of n) (prio_of packet)) z is
    ((holding_exactly start before net empty legal).known
    (ReceivedAt (port_of n) (prio_of packet)))
leaver_taken start before net (ByDevice (Move p q packet)) z empty legal is = absurd cc
leaver_taken start before net (ByDevice (Drop p packet)) z empty legal is = absurd cc
leaver_taken start before net (ByDevice (Answer p packet response)) z empty legal is = absurd cc

none_answered : (net : Network) (steps : List Step) → NoAnswers steps
    → items_ended net steps EndAnswered ≡ []
none_answered net [] none = refl
none_answered net (Linked step ∷ steps) none = none_answered (after net (Linked step)) steps none.1
none_answered net (AtNode (Takes n packet) ∷ steps) none =
    none_answered (after net (AtNode (Takes n packet))) steps none.1
none_answered net (AtNode (Leave n packet) ∷ steps) none =
    none_answered (after net (AtNode (Leave n packet))) steps none.1
none_answered net (ByDevice (Move p q packet) ∷ steps) none =
    none_answered (after net (ByDevice (Move p q packet))) steps none.1
none_answered net (ByDevice (Drop p packet) ∷ steps) none =
    none_answered (after net (ByDevice (Drop p packet))) steps none.1
none_answered net (ByDevice (Answer p packet response) ∷ steps) none = absurd (cc (none.0))

after_joined : (net : Network) (a b : List Step)
    → after_all net (a ++ b) ≡ after_all (after_all net a) b
after_joined net [] b = refl
after_joined net (step ∷ a) b = after_joined (after net step) a b

-- ---- the order

module _ (start : Network) (steps : List Step) (end : Network) (empty : IsEmptyNetwork start)
    (proper : AreProper start.links) (legal : LegalFrom start steps end)
    (none : NoAnswers steps) where
  often_before : (x z : Item) (before : List Step) (first : Step) (between : List Step)
      (last : Step) (later : List Step)
      → steps ≡ (before ++ first ∷ between) ++ last ∷ later
      → taken_by (after_all start before) first ≡ x ∷ []
      → ended_by EndLeft (after_all start (before ++ first ∷ between)) last ≡ z ∷ []
      → SameCourse x z → x.number < z.number
      → 0 < how_often x.number (gone start (before ++ first ∷ between))
  often_before x z before first between last later parts takes leaves same less =
      let net = after_all start before in
      let flat : steps ≡ before ++ first ∷ (between ++ last ∷ later) =
      parts ∙ append_assoc before (first ∷ between) (last ∷ later) in
      let all = all-parts (λ step. is_answer step ≡ false) before
      (first ∷ (between ++ last ∷ later)) (subst NoAnswers flat none) in
      let mid = (all-parts (λ step. is_answer step ≡ false) between (last ∷ later) all.1.1).0 in
      let many = in_order_of_course start steps end empty proper legal before first between last
      later x z flat takes
      (subst (λ n. ended_by EndLeft n last ≡ z ∷ []) (after_joined start before (first ∷ between))
      leaves) (routes_stand (dest_of x.taken) (after net first) between mid) same less in
      let no_more = ap (how_often x.number) (none_answered (after net first) between mid) in
      let whole = ap (how_often x.number)
      (gathered-append (ended_by EndLeft) start before (first ∷ between)) in
      omega (
        arith,
        many,
        no_more,
        whole,
        how_often-append x.number (gone start before) (gone net (first ∷ between)),
        how_often-append x.number (ended_by EndLeft net first) (gone (after net first) between),
      )

  pub first_goes_first : (x z : Item) (k : ℕ)
      → slice_get (items_taken start steps) x.number ≡ Some x
      → slice_get (gone start steps) k ≡ Some z
      → SameCourse x z → x.number < z.number
      → ComesBefore (gone start steps) x.number k
  first_goes_first x z k was left same less =
      let end_step = find_step (ended_by EndLeft) leaves_few start steps k z left in
      let front = end_step.before in
      let front_legal = (legal_parts start front (end_step.step ∷ end_step.later) end
      (subst (λ l. LegalFrom start l end) end_step.parts legal)).0 in
      let z_taken = leaver_taken start front (after_all start front) end_step.step z empty
      front_legal end_step.gives in
      let z_below = get_below (items_taken start front) z.number _ z_taken in
      let x_taken = slice_get-front (items_taken start front)
      (items_taken (after_all start front) (end_step.step ∷ end_step.later)) x.number x
      (omega (arith, less, z_below))
      (subst (λ l. slice_get l x.number ≡ Some x)
      (gathered-append taken_by start front (end_step.step ∷ end_step.later))
      (subst (λ l. slice_get (items_taken start l) x.number ≡ Some x) end_step.parts was)) in
      let own = find_step taken_by takes_few start front x.number x x_taken in
      let often = often_before x z own.before own.step own.later end_step.step end_step.later
      (end_step.parts ∙ ap (λ l. l ++ end_step.step ∷ end_step.later) own.parts) own.gives
      (subst (λ l. ended_by EndLeft (after_all start l) end_step.step ≡ z ∷ []) own.parts
      end_step.gives) same less in
      let found = find_number (gone start front) x.number
      (subst (λ l. 0 < how_often x.number (gone start l)) (sym own.parts) often) in
      let below = get_below (gone start front) found.place found.item found.is in
      let many = end_step.many in
      record {
        place = found.place;
        item = found.item;
        below = subst (λ n. found.place < n) many below;
        is = subst (λ l. slice_get l found.place ≡ Some found.item)
            (sym (ap (gone start) end_step.parts
            ∙ gathered-append (ended_by EndLeft) start front (end_step.step ∷ end_step.later)))
            (slice_get-append (gone start front)
            (gone (after_all start front) (end_step.step ∷ end_step.later)) found.place found.item
            found.is);
        same = found.same;
      }
