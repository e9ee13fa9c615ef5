-- Switches serve and endpoints collect, and the one packet is with one of them.
use Rattle.fabric_ask.proofs.Prelude.{◌≡◌, ℕ, zero, suc, ◌+◌, ◌≤◌, true, false, List, [], ◌∷◌, ◌++◌, Some, None, slice_get, sym, ap, ◌∙◌, subst, arith, MatchBool, append-nil, prio_of, Passes, Registers, is_switch, PortRef, Item, Network, IsEndpoint, IsSwitch, switch_at, DeviceStep, ByDevice, port_by, few_prio, two_kinds, seen_line, seen, Seen, TraceLine, Stepped, steps_of, Made, Joined, ServesAll, ServeRests, ServeGoes, ServeNodes, IsMove, IsGood, made_keeps, legal_links, by_test, move_made, Held, IsOnly}
use Rattle.fabric_ask.specs.Course.{IsDevicePort, HandledAs, Moves, Falls, IsHeard, GoesOut}
use Rattle.fabric_ask.proofs.Alone.{none_first}
use Rattle.fabric_ask.proofs.Crossing.{split, HasRun}
use Rattle.fabric_ask.proofs.Serving.{is_one, device_becomes, step_first, move_is, switch_rests}

-- nothing is received
abbrev pub NoneHeld : Network → Type 0
NoneHeld net = (q : PortRef) (r : ℕ) → net.received q r ≡ []

pub none_held : (net end : Network) (q : PortRef) (item : Item) → HandledAs net q item end
    → NoneHeld end
none_held net end q item (Moves to next only same) = only.received
none_held net end q item (Falls next clear same) = clear.received
none_held net end q item (IsHeard response own answer only same) = only.received
none_held net end q item (GoesOut endpoint other clear same) = clear.received

-- what is made of parts goes on
pub run_of : (s : Seen) (lines : List TraceLine) (Is : Network → Type 0) → IsGood s → Made s lines
    → Is (seen s lines).network → HasRun s lines Is
run_of s lines Is good made is =
    let kept = made_keeps good made in
    record {
      made = made;
      good = kept.good;
      links = legal_links s.network (steps_of lines) (seen s lines).network kept.legal;
      is = is;
    }

-- ---- one switch

pub serves_none : (s : Seen) (node : ℕ) (lines : List TraceLine) → IsGood s → NoneHeld s.network
    → ServesAll s node lines → lines ≡ []
serves_none s node lines good none (ServeRests move is) = is
serves_none s node lines good none (ServeGoes step rest move is more) =
    let made = move_is s node step good move in
    let first = step_first s.network step made.needs in
    absurd (none_first _ first.0 (none (port_by step) (prio_of first.0)) first.1)

at_node : (s : Seen) (node : ℕ) (step : DeviceStep) (q : PortRef) (item : Item) → IsGood s
    → IsOnly s.network (Held q) item → IsMove s.network node (Stepped (ByDevice step) ∷ [])
    → q.node ≡ node
at_node s node step q item good only move =
    let made = move_is s node step good move in
    let first = step_first s.network step made.needs in
    let one = is_one s.network q (port_by step) item first.0 only first.1 in
    ap (λ (p : PortRef). p.node) (sym one.0) ∙ made.here

serves_other : (s : Seen) (node : ℕ) (lines : List TraceLine) (q : PortRef) (item : Item) → IsGood s
    → IsOnly s.network (Held q) item → (IsSwitch s.network node → q.node ≡ node → ⊥)
    → ServesAll s node lines → lines ≡ []
serves_other s node lines q item good only other (ServeRests move is) = is
serves_other s node lines q item good only other (ServeGoes step rest move is more) =
    absurd (other move.switch (at_node s node step q item good only move))

serves_own : (s : Seen) (node : ℕ) (lines : List TraceLine) (q : PortRef) (item : Item) → IsGood s
    → IsOnly s.network (Held q) item → Passes item.now → IsDevicePort s.network.registers q
    → q.node ≡ node → ServesAll s node lines → HasRun s lines (HandledAs s.network q item)
serves_own s node lines q item good only passes port here (ServeRests move is) =
    absurd (switch_rests s.network node q item only (few_prio item.now passes) port here move)
serves_own s node lines q item good only passes port here (ServeGoes step rest move is more) =
    let one = move_made s node (Stepped (ByDevice step) ∷ []) good move in
    let made = move_is s node step good move in
    let t = seen_line s (Stepped (ByDevice step)) in
    let kept = made_keeps good one in
    let becomes = device_becomes s.network q item step only passes made.needs in
    let none = serves_none t node rest kept.good (none_held s.network t.network q item becomes) more
    in
    let all : lines ≡ Stepped (ByDevice step) ∷ [] = is
    ∙ ap (λ (l : List TraceLine). Stepped (ByDevice step) ∷ l) none in
    subst (λ l. HasRun s l (HandledAs s.network q item)) (sym all)
    (run_of s (Stepped (ByDevice step) ∷ []) (HandledAs s.network q item) good one becomes)

-- ---- all switches

pub nothing_by : (first rest lines : List TraceLine) → lines ≡ first ++ rest → first ≡ []
    → rest ≡ [] → lines ≡ []
nothing_by first rest lines whole one two = whole ∙ (λ i. one i ++ two i)

-- no switch from one on makes a step
pub serve_quiet : (devices : List Registers) (k : ℕ) (s : Seen) (lines : List TraceLine)
    → ((node : ℕ) (own : List TraceLine) → k ≤ node → ServesAll s node own → own ≡ [])
    → ServeNodes k devices s lines → (seen s lines).undetected ≡ None → lines ≡ []
serve_quiet [] k s lines quiet serves still = serves
serve_quiet (device ∷ devices) k s lines quiet serves still =
    by_test (is_switch device)
    (λ joined.
    let parts = split (ServesAll s k) (ServeNodes (suc k) devices) s lines joined still in
    let first = quiet k parts.first (omega arith) parts.own in
    let here : seen s parts.first ≡ s = ap (seen s) first in
    nothing_by parts.first parts.rest lines parts.whole first
    (serve_quiet devices (suc k) s parts.rest
    (λ node own above. quiet node own (omega (arith, above)))
    (subst (λ x. ServeNodes (suc k) devices x parts.rest) here parts.more)
    (sym (ap (λ (x : Seen). x.undetected) (parts.after ∙ ap (λ x. seen x parts.rest) here))
    ∙ still)))
    (λ more. serve_quiet devices (suc k) s lines
    (λ node own above. quiet node own (omega (arith, above))) more still) serves

-- The switch that has received the packet serves it, and no other makes a step.
pub serve_switch : (n : ℕ) (devices : List Registers) (k : ℕ) (s : Seen) (lines : List TraceLine)
    (q : PortRef) (item : Item) (device : Registers) → slice_get devices n ≡ Some device
    → is_switch device ≡ true → q.node ≡ n + k
    → IsGood s → IsOnly s.network (Held q) item → Passes item.now
    → IsDevicePort s.network.registers q
    → ServeNodes k devices s lines → (seen s lines).undetected ≡ None
    → HasRun s lines (HandledAs s.network q item)
serve_switch n [] k s lines q item device stands kind here good only passes port serves still =
    absurd cc
serve_switch zero (head ∷ devices) k s lines q item device stands kind here good only passes port
    serves still =
    let same : is_switch head ≡ true = (let it : head ≡ device = cc in ap is_switch it ∙ kind) in
    let joined : Joined (ServesAll s k) (ServeNodes (suc k) devices) s lines =
    subst (λ b. MatchBool b (Joined (ServesAll s k) (ServeNodes (suc k) devices) s lines)
    (ServeNodes (suc k) devices s lines)) same serves in
    let parts = split (ServesAll s k) (ServeNodes (suc k) devices) s lines joined still in
    let own = serves_own s k parts.first q item good only passes port (omega (arith, here))
    parts.own in
    let rest = serve_quiet devices (suc k) (seen s parts.first) parts.rest
    (λ node more above. serves_none (seen s parts.first) node more own.good
    (none_held s.network (seen s parts.first).network q item own.is)) parts.more
    (sym (ap (λ (x : Seen). x.undetected) parts.after) ∙ still) in
    subst (λ l. HasRun s l (HandledAs s.network q item))
    (sym (parts.whole ∙ ap (λ (l : List TraceLine). parts.first ++ l) rest
    ∙ append-nil parts.first)) own
serve_switch (suc n) (head ∷ devices) k s lines q item device stands kind here good only passes port
    serves still =
    by_test (is_switch head)
    (λ joined.
    let parts = split (ServesAll s k) (ServeNodes (suc k) devices) s lines joined still in
    let first = serves_other s k parts.first q item good only
    (λ switch same. omega (arith, here, same)) parts.own in
    let there : seen s parts.first ≡ s = ap (seen s) first in
    let lines_are : lines ≡ parts.rest = parts.whole ∙ ap (λ (l : List TraceLine). l ++ parts.rest)
    first in
    subst (λ l. HasRun s l (HandledAs s.network q item)) (sym lines_are)
    (serve_switch n devices (suc k) s parts.rest q item device stands kind (omega (arith, here))
    good only passes port (subst (λ x. ServeNodes (suc k) devices x parts.rest) there
    parts.more)
    (ap (λ (l : List TraceLine). (seen s l).undetected) (sym lines_are) ∙ still)))
    (λ more. serve_switch n devices (suc k) s lines q item device stands kind (omega (arith, here))
    good only passes port more still) serves

-- No switch makes a step where an endpoint has received the packet, or nothing is received.
pub serve_endpoint : (devices : List Registers) (s : Seen) (lines : List TraceLine) (q : PortRef)
    (item : Item) → IsGood s → IsOnly s.network (Held q) item → IsEndpoint s.network q.node
    → ServeNodes 0 devices s lines → (seen s lines).undetected ≡ None → lines ≡ []
serve_endpoint devices s lines q item good only endpoint serves still =
    serve_quiet devices 0 s lines (λ node own above. serves_other s node own q item good only
    (λ switch same. two_kinds (switch_at s.network node)
    (subst (λ n. switch_at s.network n ≡ Some false) same endpoint) switch)) serves still

pub serve_nothing : (devices : List Registers) (s : Seen) (lines : List TraceLine) → IsGood s
    → NoneHeld s.network → ServeNodes 0 devices s lines → (seen s lines).undetected ≡ None
    → lines ≡ []
serve_nothing devices s lines good none serves still =
    serve_quiet devices 0 s lines (λ node own above. serves_none s node own good none) serves still
