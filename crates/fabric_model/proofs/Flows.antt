-- In order per flow, over any list of legal steps.
use Rattle.fabric_model.proofs.Prelude.{◌≡◌, ◌⊎◌, inl, inr, ℕ, suc, ◌+◌, ◌-◌, ◌≤◌, ◌<◌, Bool, true, false, eqb, leb, List, [], ◌∷◌, ◌++◌, Option, Some, None, option_map, slice_get, sym, ap, ◌∙◌, subst, refl, cond, arith, append_assoc, append-nil, le-leb, AllByRecursion, eq-eqb, prio_of, dest_of, Registers, is_switch, Request, request_of, request_answered, answered_same, PortRef, Item, Network, port_of, switch_at, route_at, device_after, Hold, Free, Take, Leave, Move, Drop, Answer, Step, Linked, AtNode, ByDevice, Needs, only_first, behind_first, item_of, after, after_all, LegalFrom, IsEmptyNetwork, End, EndLeft, EndDropped, EndAnswered, same_end, taken_by, ended_by, items_taken, items_ended, ItemPlace, ReceivedAt, WaitingAt, Over, same_place, items_at, how_often, SameCourse, RoutesStand, EarlierFirst, InOrder, AreProper}
use Rattle.maint_registers.proofs.SameLaws.{same_kind}
use Rattle.fabric_model.proofs.Devices.{kinds_stay}
use Rattle.fabric_model.proofs.Joining.{legal_parts, links_stay}
use Rattle.fabric_model.proofs.Boards.{place_is, step_on}
use Rattle.fabric_model.proofs.OnBoards.{AllOn}
use Rattle.fabric_model.proofs.Lists.{all_weaker, all-without, all-both, Some_of, some_without, some_with, some_both}
use Rattle.fabric_model.proofs.Tables.{registers_stay}
use Rattle.fabric_model.proofs.Holding.{slice_below, AsTaken, Held, held_along, how_often-append}
use Rattle.fabric_model.proofs.Courses.{Chart, chart_of, course, onward, Fits, fits_left, course_ends, at_node, fits_from}
use Rattle.fabric_model.proofs.Journal.{Entry, lane, FirstAt, first_at, since}
use Rattle.fabric_model.proofs.Order.{first_spot, WellEntry, IsOwn, Journal, Behind, all_behind, journal-begins, journal-step}

-- ---- which nodes are switches stays

device_kind : (port : ℕ) (request : Option Request) (device : Registers)
    → is_switch (device_after port request device) ≡ is_switch device
device_kind port None device = refl
device_kind port (Some request) device =
    same_kind device (request_answered device request port).device
    (answered_same device request port)

pub switches_stay : (net : Network) (step : Step) (n : ℕ) → switch_at (after net step) n
    ≡ switch_at net n
switches_stay net (ByDevice (Answer p packet response)) n =
    kinds_stay net.registers p.node n (device_after p.port (request_of packet))
    (device_kind p.port (request_of packet))
switches_stay net (Linked (Hold q packet)) n =
    ap (λ devices. option_map is_switch (slice_get devices n))
    (registers_stay net (Linked (Hold q packet)) refl)
switches_stay net (Linked (Free p packet)) n = refl
switches_stay net (AtNode (Take m packet)) n = refl
switches_stay net (AtNode (Leave m packet)) n = refl
switches_stay net (ByDevice (Move p q packet)) n = refl
switches_stay net (ByDevice (Drop p packet)) n = refl

pub links_along : (net : Network) (steps : List Step) → (after_all net steps).links ≡ net.links
links_along net [] = refl
links_along net (step ∷ steps) = links_along (after net step) steps ∙ links_stay net step

-- a node is not of two kinds
pub two_kinds : (o : Option Bool) → o ≡ Some false → o ≡ Some true → ⊥
two_kinds None first second = absurd cc
two_kinds (Some kind) first second = let clash : false ≡ true = cc in absurd cc

-- ---- how often a number stands in parts of lists

since_fewer : (n low : ℕ) (items : List Item) → how_often n (since low items) ≤ how_often n items
since_fewer n low [] = omega arith
since_fewer n low (item ∷ items) = go (leb low item.number) (since_fewer n low items)
  where
    go : (t : Bool) → how_often n (since low items) ≤ how_often n items
        → how_often n (cond t (item ∷ since low items) (since low items))
        ≤ cond (eqb item.number n) 1 0 + how_often n items
    go true fewer = omega (arith, fewer)
    go false fewer = omega (arith, fewer)

first_fewer : (n : ℕ) (items : List Item) → how_often n (only_first items) ≤ how_often n items
first_fewer n [] = omega arith
first_fewer n (item ∷ items) = omega arith

if_none : (n : ℕ) (t : Bool) (items : List Item) → how_often n items ≡ 0
    → how_often n (cond t items []) ≡ 0
if_none n true items none = none
if_none n false items none = refl

-- what has not come yet does not end
ended_none : (n : ℕ) (net : Network) → ((p : PortRef) (r : ℕ) → how_often n (net.received p r) ≡ 0)
    → (end : End) (step : Step) → how_often n (ended_by end net step) ≡ 0
ended_none n net none end (Linked step) = refl
ended_none n net none end (AtNode (Take m packet)) = refl
ended_none n net none end (AtNode (Leave m packet)) =
    if_none n (same_end end EndLeft) (only_first (net.received (port_of m) (prio_of packet)))
    (omega (
      arith,
      first_fewer n (net.received (port_of m) (prio_of packet)),
      none (port_of m)
          (prio_of packet),
    ))
ended_none n net none end (ByDevice (Move p q packet)) = refl
ended_none n net none end (ByDevice (Drop p packet)) =
    if_none n (same_end end EndDropped) (only_first (net.received p (prio_of packet)))
    (omega (arith, first_fewer n (net.received p (prio_of packet)), none p (prio_of packet)))
ended_none n net none end (ByDevice (Answer p packet response)) =
    if_none n (same_end end EndAnswered) (only_first (net.received p (prio_of packet)))
    (omega (arith, first_fewer n (net.received p (prio_of packet)), none p (prio_of packet)))

-- ---- the journal along the steps

-- all that stands anywhere has a lesser number than the next
older : (net : Network) (made : List Item) (out : End → List Item) → Held net made out
    → AllOn (λ place item. item.number < net.given) (items_at net (λ e. []))
older net made out held (ReceivedAt p r) =
    all_weaker (AsTaken made) (λ item. item.number < net.given)
    (λ item was. omega (arith, slice_below made item.number _ was.known, held.counted))
    (net.received p r) (held.known (ReceivedAt p r))
older net made out held (WaitingAt p r) =
    all_weaker (AsTaken made) (λ item. item.number < net.given)
    (λ item was. omega (arith, slice_below made item.number _ was.known, held.counted))
    (net.waiting p r) (held.known (WaitingAt p r))
older net made out held (Over e) = tt

-- the chart stays
one_chart : (dest : Option ℕ) (net : Network) (step : Step)
    → ((n : ℕ) → route_at (after net step) dest n ≡ route_at net dest n) → chart_of dest net
    ≡ chart_of dest (after net step)
one_chart dest net step stand = λ i. record {
  links = sym (links_stay net step) i;
  switch = λ n. sym (switches_stay net step n) i;
  route = λ n. sym (stand n) i;
}

chart_stays : (dest : Option ℕ) (net : Network) (steps : List Step) → RoutesStand dest net steps
    → chart_of dest net ≡ chart_of dest (after_all net steps)
chart_stays dest net [] stand = refl
chart_stays dest net (step ∷ steps) stand = one_chart dest net step stand.0
    ∙ chart_stays dest (after net step) steps stand.1

module _ (x : Item) (chart : Chart) where
  along : (net : Network) (out : End → List Item) (steps : List Step) (end : Network) → chart
      ≡ chart_of (dest_of x.taken) net → AreProper net.links
      → Journal x chart net.given (items_at net out) → LegalFrom net steps end
      → RoutesStand (dest_of x.taken) net steps
      → Journal x chart end.given (items_at end (λ e. out e ++ items_ended net steps e))
  along net out [] end known proper j legal stand =
      let none : (λ (e : End). out e) ≡ (λ (e : End). out e ++ []) =
      λ i e. sym (append-nil (out e)) i in
      subst (λ (o : End → List Item). Journal x chart end.given (items_at end o)) none
      (subst (λ (n : Network). Journal x chart n.given (items_at n out)) (sym legal) j)
  along net out (step ∷ steps) end known proper j legal stand =
      let stays = one_chart (dest_of x.taken) net step stand.0 in
      let next = journal-step x chart net (after net step) (taken_by net step) (items_at net out)
      (items_at (after net step) (λ e. out e ++ ended_by e net step)) known proper
      (step_on net out step legal.0) j in
      let whole = along (after net step) (λ e. out e ++ ended_by e net step) steps end
      (known ∙ stays) (subst AreProper (sym (links_stay net step)) proper) next legal.1
      stand.1 in
      let joined : (λ (e : End). (out e ++ ended_by e net step)
      ++ items_ended (after net step) steps e)
      ≡ (λ (e : End). out e ++ (ended_by e net step ++ items_ended (after net step) steps e)) =
      λ i e. append_assoc (out e) (ended_by e net step) (items_ended (after net step) steps e) i in
      subst (λ (o : End → List Item). Journal x chart end.given (items_at end o)) joined whole

  -- ---- where the older item is when the later one leaves

  -- it has left, or was answered
  record IsOut (e : Entry) : Type 0 where
    pub number : e.item.number ≡ x.number
    pub out : (e.place ≡ Over EndLeft) ⊎ (e.place ≡ Over EndAnswered)

  counted : (es : List Entry) → Some_of IsOut es → 0 < how_often x.number (lane (Over EndLeft) es)
      + how_often x.number (lane (Over EndAnswered) es)
  counted [] some = absurd some
  counted (e ∷ es) (inl own) = here own.out
    where
      one : how_often x.number (e.item ∷ []) ≡ 1
      one = rw (eq-eqb e.item.number x.number own.number) refl

      here : ((e.place ≡ Over EndLeft) ⊎ (e.place ≡ Over EndAnswered)) → 0
          < how_often x.number
          (cond (same_place (Over EndLeft) e.place) (e.item ∷ lane (Over EndLeft) es)
          (lane (Over EndLeft) es))
          + how_often x.number
          (cond (same_place (Over EndAnswered) e.place) (e.item ∷ lane (Over EndAnswered) es)
          (lane (Over EndAnswered) es))
      here (inl left) = rw left (omega (arith, one))
      here (inr heard) = rw heard (omega (arith, one))
  counted (e ∷ es) (inr more) =
      go (same_place (Over EndLeft) e.place) (same_place (Over EndAnswered) e.place)
      (counted es more)
    where
      go : (s t : Bool) → 0 < how_often x.number (lane (Over EndLeft) es)
          + how_often x.number (lane (Over EndAnswered) es) → 0
          < how_often x.number (cond s (e.item ∷ lane (Over EndLeft) es) (lane (Over EndLeft) es))
          + how_often x.number
          (cond t (e.item ∷ lane (Over EndAnswered) es) (lane (Over EndAnswered) es))
      go true true some = omega (arith, some)
      go true false some = omega (arith, some)
      go false true some = omega (arith, some)
      go false false some = omega (arith, some)

  -- y is first at an endpoint
  module _ (net : Network) (out : End → List Item) (known : chart ≡ chart_of (dest_of x.taken) net)
      (n r : ℕ) (endpoint : switch_at net n ≡ Some false) (y : Item) (rest : List Item)
      (was : net.received (port_of n) r ≡ y ∷ rest) (less : x.number < y.number)
      (same : SameCourse x y) (j : Journal x chart net.given (items_at net out)) where
    from : ItemPlace
    from = ReceivedAt (port_of n) r

    found : FirstAt (ReceivedAt (port_of n) r) j.entries y (since x.number rest)
    found = first_at (ReceivedAt (port_of n) r) j.entries y (since x.number rest)
        (sym (j.lanes (ReceivedAt (port_of n) r))
        ∙ (ap (since x.number) was ∙ rw (le-leb x.number y.number (omega (arith, less))) refl))

    closed : (e : End) → ReceivedAt (port_of n) r ≡ Over e → ⊥
    closed e is = absurd (cc)

    wells : WellEntry x chart net.given found.entry × AllByRecursion (WellEntry x chart net.given)
        (found.before ++ found.behind)
    wells = all-without (WellEntry x chart net.given) found.before found.behind found.entry
        (subst (AllByRecursion (WellEntry x chart net.given)) found.parts j.well)

    same_entry : SameCourse x found.entry.item
    same_entry = subst (SameCourse x) (sym found.item) same

    -- y's course ends with the next place
    ends : (course chart (first_spot x chart) (suc found.entry.passed)).place ≡ Over EndLeft
    ends =
        let here = wells.0.on same_entry in
        let place : (course chart (first_spot x chart) found.entry.passed).place
        ≡ ReceivedAt (port_of n) r =
        fits_from (ReceivedAt (port_of n) r) _
        (subst (λ p. Fits p (course chart (first_spot x chart) found.entry.passed).place)
        (sym (place_is (ReceivedAt (port_of n) r) found.entry.place found.here)) here.fits) closed
        in
        let kind : chart.switch n ≡ Some false = ap (λ (c : Chart). c.switch n) known ∙ endpoint in
        ap (λ p. (onward chart (course chart (first_spot x chart) found.entry.passed).key p).place)
        place
        ∙ ap (λ o.
        (at_node o (chart.route n) n r
        (course chart (first_spot x chart) found.entry.passed).key).place) kind

    is_out : (z : Entry) → IsOwn x chart z
        → (WellEntry x chart net.given z × Behind x chart found.entry z) → IsOut z
    is_out z own both =
        let more =
        (both.1 own.course same_entry).0
        (omega (arith, less, own.number, ap (λ (i : Item). i.number) found.item)) in
        let on = both.0.on own.course in
        let count : (z.passed - suc found.entry.passed) + suc found.entry.passed ≡ z.passed =
        omega (arith, more) in
        let over = course_ends chart (first_spot x chart) (suc found.entry.passed)
        (z.passed - suc found.entry.passed) EndLeft ends in
        let place : (course chart (first_spot x chart) z.passed).place ≡ Over EndLeft =
        subst (λ k. (course chart (first_spot x chart) k).place ≡ Over EndLeft) count over in
        record { number = own.number; out = fits_left z.place (subst (Fits z.place) place on.fits) }

    others : Some_of IsOut (found.before ++ found.behind)
    others = go
        (some_without (IsOwn x chart) found.before found.behind found.entry
        (subst (Some_of (IsOwn x chart)) found.parts j.has))
      where
        both : AllByRecursion (λ z. WellEntry x chart net.given z × Behind x chart found.entry z)
            (found.before ++ found.behind)
        both = all-both (WellEntry x chart net.given) (Behind x chart found.entry)
            (λ z. WellEntry x chart net.given z × Behind x chart found.entry z) (λ z w b. (w, b))
            (found.before ++ found.behind) wells.1
            (all_behind x chart net.given (ReceivedAt (port_of n) r) closed j.entries y
            (since x.number rest) found j.well j.line)

        go : IsOwn x chart found.entry ⊎ Some_of (IsOwn x chart) (found.before ++ found.behind)
            → Some_of IsOut (found.before ++ found.behind)
        go (inl own) =
            absurd (omega (arith, own.number, ap (λ (i : Item). i.number) found.item, less))
        go (inr some) =
            some_both (IsOwn x chart)
            (λ z. WellEntry x chart net.given z × Behind x chart found.entry z) IsOut is_out
            (found.before ++ found.behind) some both

    pub has_ended : 0 < how_often x.number (out EndLeft) + how_often x.number (out EndAnswered)
    has_ended =
        let all =
        counted j.entries
        (subst (Some_of IsOut) (sym found.parts)
        (some_with IsOut found.before found.behind found.entry others)) in
        let left : how_often x.number (since x.number (out EndLeft))
        ≡ how_often x.number (lane (Over EndLeft) j.entries) =
        ap (how_often x.number) (j.lanes (Over EndLeft)) in
        let heard : how_often x.number (since x.number (out EndAnswered))
        ≡ how_often x.number (lane (Over EndAnswered) j.entries) =
        ap (how_often x.number) (j.lanes (Over EndAnswered)) in
        omega (
          arith,
          all,
          left,
          heard,
          since_fewer x.number x.number (out EndLeft),
          since_fewer x.number x.number (out EndAnswered),
        )

-- ---- the law

first_whole : (items : List Item) (y : Item) → only_first items ≡ y ∷ [] → items ≡ y
    ∷ behind_first items
first_whole [] y is = absurd (cc)
first_whole (item ∷ items) y is =
    let same : item ≡ y = cc in
    ap (λ z. z ∷ items) same

-- at the step by which y leaves
leaves_after : (x : Item) (chart : Chart) (net : Network) (out : End → List Item) (last : Step)
    (y : Item) → chart ≡ chart_of (dest_of x.taken) net → Needs net last → ended_by EndLeft net last
    ≡ y ∷ [] → x.number < y.number → SameCourse x y → Journal x chart net.given (items_at net out)
    → 0 < how_often x.number (out EndLeft) + how_often x.number (out EndAnswered)
leaves_after x chart net out (Linked step) y known needs is less same j = absurd (cc)
leaves_after x chart net out (AtNode (Take n packet)) y known needs is less same j = absurd (cc)
leaves_after x chart net out (AtNode (Leave n packet)) y known needs is less same j =
    has_ended x chart net out known n (prio_of packet) needs.0 y _
    (first_whole (net.received (port_of n) (prio_of packet)) y is) less same j
leaves_after x chart net out (ByDevice (Move p q packet)) y known needs is less same j = absurd (cc)
leaves_after x chart net out (ByDevice (Drop p packet)) y known needs is less same j = absurd (cc)
leaves_after x chart net out (ByDevice (Answer p packet response)) y known needs is less same j =
    absurd (cc)

taken_number : (net : Network) (step : Step) (x : Item) → taken_by net step ≡ x ∷ [] → x.number
    ≡ net.given
taken_number net (Linked step) x is = absurd (cc)
taken_number net (AtNode (Take n packet)) x is =
    let same : x ≡ item_of net (port_of n) packet = cc in
    ap (λ (i : Item). i.number) same
taken_number net (AtNode (Leave n packet)) x is = absurd (cc)
taken_number net (ByDevice (Move p q packet)) x is = absurd (cc)
taken_number net (ByDevice (Drop p packet)) x is = absurd (cc)
taken_number net (ByDevice (Answer p packet response)) x is =
    let same : x ≡ item_of net p response = cc in
    ap (λ (i : Item). i.number) same

pub in_order_of_course : (start : Network) (steps : List Step) (end : Network)
    → IsEmptyNetwork start → AreProper start.links → LegalFrom start steps end
    → EarlierFirst SameCourse start steps
in_order_of_course start steps end empty proper legal before first between last later x y parts
    takes leaves stand same less =
    let net = after_all start before in
    let then = after net first in
    let at_last = after_all then between in
    let whole = legal_parts start before (first ∷ (between ++ last ∷ later)) end
    (subst (λ s. LegalFrom start s end) parts legal) in
    let middle = legal_parts then between (last ∷ later) end whole.1.1 in
    let held = held_along start before net empty whole.0 in
    let chart = chart_of (dest_of x.taken) then in
    let begun = journal-begins x chart net then (taken_by net first) (items_at net (λ e. []))
    (items_at then (λ e. ended_by e net first)) (step_on net (λ e. []) first whole.1.0)
    takes (older net (items_taken start before) (items_ended start before) held) in
    let links : AreProper then.links =
    subst AreProper (sym (links_stay net first ∙ links_along start before)) proper in
    let j = along x chart then (λ e. ended_by e net first) between at_last refl links begun middle.0
    stand in
    let known : chart ≡ chart_of (dest_of x.taken) at_last =
    chart_stays (dest_of x.taken) then between stand in
    let ended_one = leaves_after x chart at_last (λ e. ended_by e net first ++ items_ended
    then between e)
    last y known middle.1.0 leaves less same j in
    let number = taken_number net first x takes in
    let none : (e : End) → how_often x.number (ended_by e net first) ≡ 0 =
    λ e. ended_none x.number net
    (λ p r. held.standing.fresh x.number (omega (arith, number)) (ReceivedAt p r)) e first in
    omega (
      arith,
      ended_one,
      none EndLeft,
      none EndAnswered,
      how_often-append x.number
          (ended_by EndLeft net first) (items_ended then between EndLeft),
      how_often-append x.number
          (ended_by EndAnswered net first) (items_ended then between EndAnswered),
    )

pub in_order : (start : Network) (steps : List Step) (end : Network) → IsEmptyNetwork start
    → AreProper start.links → LegalFrom start steps end → InOrder start steps
in_order start steps end empty proper legal = record {
  earlier_first = λ before first between last later x y parts takes leaves stand same less.
      in_order_of_course start steps end empty proper legal before first between last later x y
      parts takes leaves stand same.course less;
}
