-- Deliveries in pieces, and what they look for.
use Rattle.std.proofs.Common.{◌≡◌, ℕ, ◌+◌, ◌++◌, true, false, List, [], ◌∷◌, length, length-append, Option, Some, None, refl, sym, ap, ◌∙◌, if◌then◌else◌, arith}
use Rattle.link_model.specs.Prelude.{Char, Place, run, place_after}
use Rattle.link_port.specs.Prelude.{Event, Ctl, Pkt, Bad, is_acted}
use Rattle.link_model.proofs.PlacesLaws.{run-append, place_after-append}
use Rattle.link_wires.specs.Kept.{behind}
use Rattle.link_wires.specs.Deliveries.{Flow, Delivered, Through, WentUndetected, done, met, comes, goes_on, come, ended, flows}

-- the same flow, with the framer at another place and another count
abbrev pub moved : Place → ℕ → Flow → Flow
moved place count flow =
    record flow {
      port = record flow.port { place = place };
      told = record flow.told { count = count };
    }

-- The step tables do not look at the framer's place.
done_moved : (e : Event) (acted kept : List Event) (p : Place) (n : ℕ) (flow : Flow)
    → done e acted kept (moved p n flow) ≡ moved p n (done e acted kept flow)
done_moved (Ctl s) acted kept p n flow = refl
done_moved (Pkt a packet) acted kept p n flow = refl
done_moved (Bad c) acted kept p n flow = refl

acted_moved : (e : Event) (p : Place) (n : ℕ) (flow : Flow)
    → is_acted (moved p n flow).port e ≡ is_acted flow.port e
acted_moved (Ctl s) p n flow = refl
acted_moved (Pkt a packet) p n flow = refl
acted_moved (Bad c) p n flow = refl

-- by what stands behind an event, and by whether it is acted on
by_kept :
    (q : Place) (m at : ℕ) (e : Event) (events : List (ℕ × Event)) (p : Place) (n : ℕ) (flow : Flow)
    (kept : Option (List Event))
    → ((f : Flow) → ended q m (come events (moved p n f)) ≡ ended q m (come events f))
    → ended q m (goes_on (come events) (met at e kept (moved p n flow)))
    ≡ ended q m (goes_on (come events) (met at e kept flow))
by_kept q m at e events p n flow None rest = refl
by_kept q m at e events p n flow (Some kept) rest =
    ap (λ (f : Flow). ended q m (come events f)) (done_moved e (e ∷ []) kept p n flow)
    ∙ rest (done e (e ∷ []) kept flow)

pub come_moved : (q : Place) (m : ℕ) (events : List (ℕ × Event)) (p : Place) (n : ℕ) (flow : Flow)
    → ended q m (come events (moved p n flow)) ≡ ended q m (come events flow)
unfolding come
come_moved q m [] p n flow = refl
come_moved q m (placed ∷ events) p n flow =
    ap (λ b. ended q m (goes_on (come events) (if b
    then met placed.0 placed.1 (behind placed.1 flow.kept) (moved p n flow)
    else Through (done placed.1 [] flow.kept (moved p n flow))))) (acted_moved placed.1 p n flow)
    ∙ elim (is_acted flow.port placed.1) as (λ b.
    ended q m (goes_on (come events) (if b
    then met placed.0 placed.1 (behind placed.1 flow.kept) (moved p n flow)
    else Through (done placed.1 [] flow.kept (moved p n flow))))
    ≡ ended q m (goes_on (come events) (if b
    then met placed.0 placed.1 (behind placed.1 flow.kept) flow
    else Through (done placed.1 [] flow.kept flow)))) [
      | true ↦ by_kept q m placed.0 placed.1 events p n flow (behind placed.1 flow.kept)
          (come_moved q m events p n)
      | false ↦ ap (λ (f : Flow). ended q m (come events f))
          (done_moved placed.1 [] flow.kept p n flow)
          ∙ come_moved q m events p n (done placed.1 [] flow.kept flow)
    ]

goes_on-joined : (xs ys : List (ℕ × Event)) (d : Delivered)
    → ((f : Flow) → come (xs ++ ys) f ≡ goes_on (come ys) (come xs f))
    → goes_on (come (xs ++ ys)) d ≡ goes_on (come ys) (goes_on (come xs) d)
goes_on-joined xs ys (Through f) rest = rest f
goes_on-joined xs ys (WentUndetected told e) rest = refl

pub come-append : (xs ys : List (ℕ × Event)) (flow : Flow)
    → come (xs ++ ys) flow ≡ goes_on (come ys) (come xs flow)
unfolding come
come-append [] ys flow = refl
come-append (x ∷ xs) ys flow = goes_on-joined xs ys (comes flow x) (come-append xs ys)

pub in_pieces :
    (p q : Place) (n m : ℕ) (xs ys : List Char) (d : Delivered) → q ≡ place_after p ys
    → m ≡ n + length ys
    → ended q m (goes_on (come (run p n ys)) d) ≡ goes_on (flows ys) (ended p n d)
in_pieces p q n m xs ys (Through f) there count =
    sym (come_moved q m (run p n ys) p n f)
    ∙ ap (λ (w : Place × ℕ). ended w.0 w.1 (come (run p n ys) (moved p n f)))
    (λ i. (there i, count i))
in_pieces p q n m xs ys (WentUndetected told e) there count = refl

-- Characters may come in pieces.
pub flows-append : (xs ys : List Char) (flow : Flow)
    → flows (xs ++ ys) flow ≡ goes_on (flows ys) (flows xs flow)
flows-append xs ys flow =
    let p = flow.port.place in
    let n = flow.told.count in
    let here = place_after p xs in
    let events : run p n (xs ++ ys) ≡ run p n xs ++ run here (n + length xs) ys =
    run-append p n (n + length xs) xs ys refl in
    ap (λ (es : List (ℕ × Event)). ended (place_after p (xs ++ ys)) (n + length (xs ++ ys))
    (come es flow)) events
    ∙ ap (λ (d : Delivered). ended (place_after p (xs ++ ys)) (n + length (xs ++ ys)) d)
    (come-append (run p n xs) (run here (n + length xs) ys) flow)
    ∙ in_pieces here (place_after p (xs ++ ys)) (n + length xs) (n + length (xs ++ ys)) xs ys
    (come (run p n xs) flow) (place_after-append p xs ys) (omega (arith, length-append xs ys))
