-- What the code of a delivery has done is the delivery.
use Rattle.std.proofs.Common.{◌≡◌, ℕ, suc, ◌+◌, ◌-◌, ◌<◌, ◌≤◌, ◌++◌, List, [], ◌∷◌, length, length-drop, take, drop, Option, Some, None, refl, sym, ap, ◌∙◌, subst, arith}
use Rattle.std.proofs.lemmas.List.{take-append-drop, drop-drop, drop_all}
use Rattle.link_model.specs.Prelude.{Char, Fields, telling_front, Place, run, place_after, placed}
use Rattle.link_port.specs.Prelude.{Event, PortState}
use Rattle.link_model.proofs.FrontLaws.{front-count, front-place, run-telling_front}
use Rattle.link_model.proofs.PlacesLaws.{place_after-append, place_after-none, run-none}
use Rattle.link_wires.specs.Wires.{WireState, without_front}
use Rattle.link_wires.specs.Deliveries.{Flow, Delivered, Through, WentUndetected, comes, goes_on, come, ended, flows, told_of, undetected, flow_of, Shows, IsLeft}
use Rattle.link_wires.specs.declared.moves.Move.{Move}
use Rattle.link_wires.proofs.DeliveryLaws.{come_moved, come-append, in_pieces}

-- ---- the events of one character

pub missed_on :
    (d : Delivered) (more : Flow → Delivered) (e : Event) (count : ℕ) (port next : PortState)
    (kept left : List Event) (moves : List Move) (replies : List Fields)
    → Shows d (Some e) count port kept moves replies
    → Shows (goes_on more d) (Some e) count next left moves replies
missed_on (Through flow) more e count port next kept left moves replies h =
    absurd (let none : Some e ≡ None = h.0 in cc)
missed_on (WentUndetected told x) more e count port next kept left moves replies h = h

-- nothing more comes
pub none_on :
    (d : Delivered) (found : Option Event) (count : ℕ) (port : PortState) (kept : List Event)
    (moves : List Move) (replies : List Fields)
    → Shows d found count port kept moves replies
    → Shows (goes_on (come []) d) found count port kept moves replies
unfolding come
none_on (Through flow) found count port kept moves replies h = h
none_on (WentUndetected told x) found count port kept moves replies h = h

-- an event behind another
pub next_on :
    (d : Delivered) (at : ℕ) (e : Event) (found : Option Event) (port next : PortState)
    (kept left : List Event) (moves more : List Move) (replies answers : List Fields)
    → Shows d None (suc at) port kept moves replies
    → ((acted : List Event) → Shows (comes (flow_of port kept moves replies acted (suc at)) (at, e))
    found (suc at) next left more answers)
    → Shows (goes_on (come ((at, e) ∷ [])) d) found (suc at) next left more answers
unfolding come
next_on (Through flow) at e found port next kept left moves more replies answers h shows =
    let same : flow_of port kept moves replies flow.told.acted (suc at) ≡ flow =
    λ i. record {
      port = h.2 i;
      kept = h.3 i;
      told = record { moves = h.4 i; replies = h.5 i; acted = flow.told.acted; count = h.1 i };
    } in
    none_on (comes flow (at, e)) found (suc at) next left more answers
    (subst (λ (f : Flow). Shows (comes f (at, e)) found (suc at) next left more answers) same
    (shows flow.told.acted))
next_on (WentUndetected told x) at e found port next kept left moves more replies answers h shows =
    absurd (let some : None ≡ Some x = h.0 in cc)

-- no event, one, and two
pub come_nothing :
    (port : PortState) (kept : List Event) (moves : List Move) (replies : List Fields)
    (acted : List Event) (count : ℕ)
    → Shows (come [] (flow_of port kept moves replies acted count)) None count port kept moves
    replies
unfolding come
come_nothing port kept moves replies acted count = (refl, refl, refl, refl, refl, refl)

pub come_one :
    (flow : Flow) (at : ℕ) (e : Event) (found : Option Event) (port : PortState) (kept : List Event)
    (moves : List Move) (replies : List Fields)
    → Shows (comes flow (at, e)) found (suc at) port kept moves replies
    → Shows (come ((at, e) ∷ []) flow) found (suc at) port kept moves replies
unfolding come
come_one flow at e found port kept moves replies h =
    none_on (comes flow (at, e)) found (suc at) port kept moves replies h

pub come_missed :
    (flow : Flow) (at : ℕ) (e last x : Event) (found : Option Event) (port : PortState)
    (kept : List Event) (moves : List Move) (replies : List Fields) → found ≡ Some x
    → Shows (comes flow (at, e)) found (suc at) port kept moves replies
    → Shows (come ((at, e) ∷ (at, last) ∷ []) flow) (Some x) (suc at) port kept moves replies
unfolding come
come_missed flow at e last x found port kept moves replies is h =
    missed_on (comes flow (at, e)) (come ((at, last) ∷ [])) x (suc at) port port kept kept moves
    replies
    (subst (λ (o : Option Event). Shows (comes flow (at, e)) o (suc at) port kept moves replies) is
    h)

pub come_two :
    (flow : Flow) (at : ℕ) (e last : Event) (first found : Option Event) (port next : PortState)
    (kept left : List Event) (moves more : List Move) (replies answers : List Fields) → first ≡ None
    → Shows (comes flow (at, e)) first (suc at) port kept moves replies
    → ((acted : List Event) → Shows
    (comes (flow_of port kept moves replies acted (suc at)) (at, last)) found (suc at) next left
    more answers)
    → Shows (come ((at, e) ∷ (at, last) ∷ []) flow) found (suc at) next left more answers
unfolding come
come_two flow at e last first found port next kept left moves more replies answers none h shows =
    next_on (comes flow (at, e)) at last found port next kept left moves more replies answers
    (subst (λ (o : Option Event). Shows (comes flow (at, e)) o (suc at) port kept moves replies)
    none h) shows

-- ---- a run of characters

-- the flow after a run up to and with its first events, and then the characters behind it
pub run_then :
    (port : PortState) (kept : List Event) (moves : List Move) (replies : List Fields)
    (acted : List Event) (taken n : ℕ) (chars : List Char)
    → taken + (telling_front port.place chars).count ≡ suc n
    → flows chars (flow_of port kept moves replies acted taken)
    ≡ goes_on (flows (drop (telling_front port.place chars).count chars))
    (ended (telling_front port.place chars).step.place (suc n)
    (come (placed n (telling_front port.place chars).step.gives)
    (flow_of (record port { place = (telling_front port.place chars).step.place }) kept moves
    replies acted (suc n))))
run_then port kept moves replies acted taken n chars here =
    let front = telling_front port.place chars in
    let rest = drop front.count chars in
    let flow = flow_of port kept moves replies acted taken in
    let events = placed n front.step.gives in
    let few = front-count port.place chars in
    let parts : take front.count chars ++ rest ≡ chars = take-append-drop front.count chars in
    let there : place_after port.place chars ≡ place_after front.step.place rest =
    ap (place_after port.place) (sym parts)
    ∙ place_after-append port.place (take front.count chars) rest
    ∙ ap (λ (p : Place). place_after p rest) (sym (front-place port.place chars)) in
    let size : length rest ≡ length chars - front.count = length-drop front.count chars in
    let count : taken + length chars ≡ suc n + length rest = omega arith in
    ap (λ (es : List (ℕ × Event)). ended (place_after port.place chars) (taken + length chars)
    (come es flow)) (run-telling_front port.place taken n chars here)
    ∙ ap (λ (d : Delivered). ended (place_after port.place chars) (taken + length chars) d)
    (come-append events (run front.step.place (suc n) rest) flow)
    ∙ in_pieces front.step.place (place_after port.place chars) (suc n) (taken + length chars)
    (take front.count chars) rest (come events flow) there count
    ∙ ap (goes_on (flows rest))
    (sym (come_moved front.step.place (suc n) events front.step.place (suc n) flow))

-- the port went on
pub through_then :
    (rest : List Char) (d : Delivered) (place : Place) (count : ℕ) (port : PortState)
    (kept : List Event) (moves : List Move) (replies : List Fields)
    → port.place ≡ place → Shows d None count port kept moves replies
    → (acted : List Event) × (flows rest (flow_of port kept moves replies acted count)
    ≡ goes_on (flows rest) (ended place count d))
through_then rest (Through flow) place count port kept moves replies there h = (
  flow.told.acted,
  ap (flows rest) (λ i. record {
    port = record {
      place = there i;
      output = (h.2 i).output;
      input = (h.2 i).input;
      queued = (h.2 i).queued;
      received = (h.2 i).received;
      tells = (h.2 i).tells;
    };
    kept = h.3 i;
    told = record { moves = h.4 i; replies = h.5 i; acted = flow.told.acted; count = count };
  }),
)
through_then rest (WentUndetected told x) place count port kept moves replies there h =
    absurd (let some : None ≡ Some x = h.0 in cc)

-- an event was not sent
pub missed_then :
    (rest : List Char) (d : Delivered) (place : Place) (count : ℕ) (e : Event) (port : PortState)
    (kept : List Event) (moves : List Move) (replies : List Fields)
    → Shows d (Some e) count port kept moves replies
    → Shows (goes_on (flows rest) (ended place count d)) (Some e) count port kept moves replies
missed_then rest (Through flow) place count e port kept moves replies h =
    absurd (let none : Some e ≡ None = h.0 in cc)
missed_then rest (WentUndetected told x) place count e port kept moves replies h = h

-- no character is left
pub flows-none : (flow : Flow) → flows [] flow ≡ Through flow
unfolding come
flows-none flow =
    let count : flow.told.count + 0 ≡ flow.told.count = omega arith in
    ap (λ (es : List (ℕ × Event)). ended (place_after flow.port.place []) (flow.told.count + 0)
    (come es flow)) (run-none flow.port.place flow.told.count)
    ∙ (λ i. Through (record flow {
      port =
          record flow.port { place = place_after-none flow.port.place i };
      told = record flow.told { count = count i };
    }))

-- ---- the whole delivery

pub shown :
    (d : Delivered) (found : Option Event) (count : ℕ) (port : PortState) (kept : List Event)
    (moves : List Move) (replies : List Fields)
    → Shows d found count port kept moves replies
    → (count ≡ (told_of d).count) × (moves ≡ (told_of d).moves) × (replies ≡ (told_of d).replies)
    × (found ≡ undetected d)
shown (Through flow) found count port kept moves replies h = (h.1, h.4, h.5, h.0)
shown (WentUndetected told e) found count port kept moves replies h = (h.1, h.2, h.3, h.0)

pub left_so :
    (d : Delivered) (found : Option Event) (count n : ℕ) (port : PortState) (kept : List Event)
    (moves : List Move) (replies : List Fields) (wire left : WireState)
    → Shows d found n port kept moves replies → left ≡ without_front count kept wire
    → IsLeft d count wire port left
left_so (Through flow) found count n port kept moves replies wire left h is =
    (h.2, is ∙ ap (λ (k : List Event). without_front count k wire) h.3)
left_so (WentUndetected told e) found count n port kept moves replies wire left h is = tt

-- ---- the loop

-- the port went on after the events of a run
pub lead_on :
    (start : Delivered) (chars : List Char) (taken count : ℕ) (port next : PortState)
    (kept left : List Event) (moves more : List Move) (replies answers : List Fields)
    (acted : List Event)
    → flows (drop taken chars) (flow_of port kept moves replies acted taken) ≡ start → 0 < count
    → count ≡ (telling_front port.place (drop taken chars)).count
    → ((acted : List Event) (at : ℕ)
    → Shows (come (placed at (telling_front port.place (drop taken chars)).step.gives)
    (flow_of (record port { place = (telling_front port.place (drop taken chars)).step.place }) kept
    moves replies acted (suc at))) None (suc at) next left more answers)
    → next.place ≡ (telling_front port.place (drop taken chars)).step.place
    → (acted : List Event) × (flows (drop (taken + count) chars)
    (flow_of next left more answers acted (taken + count)) ≡ start)
lead_on start chars taken count port next kept left moves more replies answers acted so_far some is
    shows there =
    let front = telling_front port.place (drop taken chars) in
    let at = taken + count - 1 in
    let here : taken + front.count ≡ suc at = omega arith in
    let all : taken + count ≡ suc at = omega arith in
    let rest : drop front.count (drop taken chars) ≡ drop (taken + count) chars =
    drop-drop front.count taken chars ∙ ap (λ k. drop (taken + k) chars) (sym is) in
    let d =
    come (placed at front.step.gives)
    (flow_of (record port { place = front.step.place }) kept moves replies acted (suc at)) in
    let on =
    through_then (drop front.count (drop taken chars)) d front.step.place (suc at) next left
    more answers there (shows acted at) in (
      on.0,
      (λ i. flows (sym rest i) (flow_of next left more answers on.0 (all i)))
          ∙ on.1
          ∙ sym (run_then port kept moves replies acted taken at (drop taken chars) here)
          ∙ so_far,
    )

-- an event of the run was not sent
pub lead_missed :
    (start : Delivered) (chars : List Char) (taken count : ℕ) (e : Event) (port next : PortState)
    (kept left : List Event) (moves more : List Move) (replies answers : List Fields)
    (acted : List Event)
    → flows (drop taken chars) (flow_of port kept moves replies acted taken) ≡ start → 0 < count
    → count ≡ (telling_front port.place (drop taken chars)).count
    → ((acted : List Event) (at : ℕ)
    → Shows (come (placed at (telling_front port.place (drop taken chars)).step.gives)
    (flow_of (record port { place = (telling_front port.place (drop taken chars)).step.place }) kept
    moves replies acted (suc at))) (Some e) (suc at) next left more answers)
    → Shows start (Some e) (taken + count) next left more answers
lead_missed start chars taken count e port next kept left moves more replies answers acted so_far
    some is shows =
    let front = telling_front port.place (drop taken chars) in
    let at = taken + count - 1 in
    let here : taken + front.count ≡ suc at = omega arith in
    let all : suc at ≡ taken + count = omega arith in
    let d =
    come (placed at front.step.gives)
    (flow_of (record port { place = front.step.place }) kept moves replies acted (suc at)) in
    let end =
    missed_then (drop front.count (drop taken chars)) d front.step.place (suc at) e next left
    more answers (shows acted at) in
    subst (λ (w : Delivered × ℕ). Shows w.0 (Some e) w.1 next left more answers) (λ i. (
      (sym
          (run_then port kept moves replies acted taken at (drop taken chars) here) ∙ so_far) i,
      all i,
    ))
    end

-- what a run was read as, and what came of its events
abbrev RunShows : PortState → List Char → Option Event
    → (kept left : List Event) (moves more : List Move) (replies answers : List Fields) → PortState
    → Type 0
RunShows port cs found kept left moves more replies answers next =
    (acted : List Event) (at : ℕ) → Shows (come (placed at (telling_front port.place cs).step.gives)
    (flow_of (record port { place = (telling_front port.place cs).step.place }) kept moves replies
    acted (suc at))) found (suc at) next left more answers

pub run_shows :
    (port read next : PortState) (cs rest : List Char) (events : List Event)
    (found other : Option Event) (kept left : List Event) (moves more : List Move)
    (replies answers : List Fields)
    → read ≡ record port { place = (telling_front port.place cs).step.place }
    → events ≡ (telling_front port.place cs).step.gives → cs ≡ rest → found ≡ other
    → ((acted : List Event) (at : ℕ)
    → Shows (come (placed at events) (flow_of read kept moves replies acted (suc at))) found
    (suc at) next left more answers)
    → RunShows port rest other kept left moves more replies answers next
run_shows port read next cs rest events found other kept left moves more replies answers state gives
    same is h acted at =
    subst (λ (w : Option Event × List Char). Shows
    (come (placed at (telling_front port.place w.1).step.gives)
    (flow_of (record port { place = (telling_front port.place w.1).step.place }) kept moves replies
    acted (suc at))) w.0 (suc at) next left more answers) (λ i. (is i, same i))
    (subst (λ (w : List Event × PortState). Shows
    (come (placed at w.0) (flow_of w.1 kept moves replies acted (suc at))) found (suc at) next left
    more answers) (λ i. (gives i, state i)) (h acted at))

-- all characters were taken
pub lead_ended :
    (start : Delivered) (chars : List Char) (taken : ℕ) (port : PortState) (kept : List Event)
    (moves : List Move) (replies : List Fields) (acted : List Event)
    → flows (drop taken chars) (flow_of port kept moves replies acted taken) ≡ start
    → length chars ≤ taken
    → Shows start None taken port kept moves replies
lead_ended start chars taken port kept moves replies acted so_far all =
    let flow = flow_of port kept moves replies acted taken in
    let end : Through flow ≡ start =
    sym (flows-none flow)
    ∙ ap (λ (l : List Char). flows l flow) (sym (drop_all taken chars all))
    ∙ so_far in
    subst (λ (d : Delivered). Shows d None taken port kept moves replies) end
    (refl, refl, refl, refl, refl, refl)
