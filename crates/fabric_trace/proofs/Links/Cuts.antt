-- A delivery with an event that was not sent is the same of the characters up to the one that
-- completed it.
use Rattle.fabric_trace.proofs.Prelude.{◌≡◌, ℕ, suc, ◌+◌, true, false, List, [], ◌∷◌, length, take, Option, Some, None, refl, sym, ap, ◌∙◌, subst, arith, if◌then◌else◌, take_all, Char, Event, Place, step, run, place_after, placed, run-one, PortState, is_acted, behind, Told, Flow, Delivered, Through, WentUndetected, begun, done, met, comes, goes_on, come, ended, flows, delivered, told_of, through_count, ended_count}
use Rattle.link_wires.proofs.DeliveryLaws.{flows-append}

-- where events completed at one place lead: on, or to an event that was not sent at that place
abbrev IsAt : ℕ → Delivered → Type 0
IsAt at (Through flow) = Unit {0}
IsAt at (WentUndetected told e) = told.count ≡ suc at

met_at : (at : ℕ) (e : Event) (kept : Option (List Event)) (flow : Flow)
    → IsAt at (met at e kept flow)
met_at at e None flow = refl
met_at at e (Some kept) flow = tt

comes_at : (flow : Flow) (at : ℕ) (e : Event) → IsAt at (comes flow (at, e))
comes_at flow at e =
    elim (is_acted flow.port e) as
    (λ b. IsAt at
    (if b then met at e (behind e flow.kept) flow else Through (done e [] flow.kept flow))) [
      | true ↦ met_at at e (behind e flow.kept) flow
      | false ↦ tt
    ]

on_at : (at : ℕ) (more : Flow → Delivered) (d : Delivered) → ((f : Flow) → IsAt at (more f))
    → IsAt at d → IsAt at (goes_on more d)
on_at at more (Through f) next h = next f
on_at at more (WentUndetected told e) next h = h

come_at : (at : ℕ) (es : List Event) (flow : Flow) → IsAt at (come (placed at es) flow)
unfolding come
come_at at [] flow = tt
come_at at (e ∷ es) flow = on_at at (come (placed at es)) (comes flow (at, e)) (come_at at es)
    (comes_at flow at e)

ended_at : (at : ℕ) (place : Place) (count : ℕ) (d : Delivered) → IsAt at d
    → IsAt at (ended place count d)
ended_at at place count (Through flow) h = tt
ended_at at place count (WentUndetected told e) h = h

-- of one character
one_at : (c : Char) (flow : Flow) → IsAt flow.told.count (flows (c ∷ []) flow)
one_at c flow =
    let at = flow.told.count in
    ended_at at (place_after flow.port.place (c ∷ [])) (at + 1)
    (come (run flow.port.place at (c ∷ [])) flow)
    (subst (λ (es : List (ℕ × Event)). IsAt at (come es flow)) (sym (run-one flow.port.place at c))
    (come_at at (step flow.port.place c).gives flow))

one_count : (c : Char) (flow next : Flow) → flows (c ∷ []) flow ≡ Through next → next.told.count
    ≡ flow.told.count + 1
one_count c flow next is = ended_count (place_after flow.port.place (c ∷ [])) (flow.told.count + 1)
    (come (run flow.port.place flow.told.count (c ∷ [])) flow) next is

none_flows : (flow : Flow) (told : Told) (e : Event) → flows [] flow ≡ WentUndetected told e → ⊥
unfolding run come
none_flows flow told e is = absurd cc

-- what completes it is so many characters, counted from where the flow begins
abbrev IsCut : List Char → Flow → Told → Event → Type 0
IsCut chars flow told e = (n : ℕ) × (told.count ≡ flow.told.count + suc n)
    × (flows (take (suc n) chars) flow ≡ WentUndetected told e)

by_first : (c : Char) (chars : List Char) (flow : Flow) (told : Told) (e : Event) (d : Delivered)
    → flows (c ∷ []) flow ≡ d
    → ((next : Flow) → flows chars next ≡ WentUndetected told e → IsCut chars next told e)
    → flows (c ∷ chars) flow ≡ WentUndetected told e → IsCut (c ∷ chars) flow told e
by_first c chars flow told e (Through next) first later is =
    let rest : flows chars next ≡ WentUndetected told e =
    sym (flows-append (c ∷ []) chars flow ∙ ap (goes_on (flows chars)) first) ∙ is in
    let more = later next rest in
    let counted = one_count c flow next first in (
      suc more.0,
      omega (arith, counted, more.1),
      flows-append (c ∷ []) (take (suc more.0) chars) flow
          ∙ ap (goes_on (flows (take (suc more.0) chars))) first ∙ more.2,
    )
by_first c chars flow told e (WentUndetected other f) first later is =
    let same : WentUndetected other f ≡ WentUndetected told e =
    sym (flows-append (c ∷ []) chars flow ∙ ap (goes_on (flows chars)) first) ∙ is in
    let at : IsAt flow.told.count (WentUndetected told e) =
    subst (IsAt flow.told.count) (first ∙ same)
    (one_at c flow) in
    (0, omega (arith, at), first ∙ same)

cut : (chars : List Char) (flow : Flow) (told : Told) (e : Event) → flows chars flow
    ≡ WentUndetected told e → IsCut chars flow told e
cut [] flow told e is = absurd (none_flows flow told e is)
cut (c ∷ chars) flow told e is =
    by_first c chars flow told e (flows (c ∷ []) flow) refl
    (λ next rest. cut chars next told e rest) is

delivered_cut : (port : PortState) (kept : List Event) (chars : List Char) (told : Told) (e : Event)
    → delivered port kept chars ≡ WentUndetected told e
    → delivered port kept (take told.count chars) ≡ WentUndetected told e
delivered_cut port kept chars told e is =
    let at = cut chars (begun port kept) told e is in
    let counted : suc at.0 ≡ told.count = omega (arith, at.1) in
    subst (λ (n : ℕ). delivered port kept (take n chars) ≡ WentUndetected told e) counted at.2

all_taken : (chars : List Char) (n : ℕ) → n ≡ length chars → take n chars ≡ chars
all_taken chars n is = take_all n chars (omega (arith, is))

-- the characters that a delivery took, taken by themselves
pub taken_again : (port : PortState) (kept : List Event) (chars : List Char) (d : Delivered)
    → delivered port kept chars ≡ d
    → delivered port kept (take (told_of d).count chars) ≡ d
taken_again port kept chars (Through flow) is =
    ap (delivered port kept)
    (all_taken chars flow.told.count (through_count port kept chars flow is)) ∙ is
taken_again port kept chars (WentUndetected told e) is = delivered_cut port kept chars told e is
