-- The events that a delivery acts on are those that the search finds.
use Rattle.std.proofs.Common.{◌≡◌, ℕ, ◌++◌, true, false, List, [], ◌∷◌, Option, Some, None, refl, ap, ◌∙◌, subst, if◌then◌else◌}
use Rattle.std.proofs.lemmas.List.{append-nil}
use Rattle.link_model.specs.Prelude.{Char, Place, run, place_after}
use Rattle.link_port.specs.Prelude.{Event, PortState, is_acted}
use Rattle.link_wires.specs.Kept.{behind, behind_some, behind_all}
use Rattle.link_wires.specs.Deliveries.{Flow, Delivered, Through, WentUndetected, begun, done, met, comes, goes_on, come, ended, delivered}
use Rattle.link_wires.proofs.KeptLaws.{all_then}

-- of what was kept at first
abbrev pub IsFound : List Event → Delivered → Type 0
IsFound start (Through flow) = behind_all flow.told.acted start ≡ Some flow.kept
IsFound start (WentUndetected told e) = behind_all (told.acted ++ e ∷ []) start ≡ None

-- an acted event is looked for in what the search has left
next_found : (start : List Event) (flow : Flow) (e : Event) → IsFound start (Through flow)
    → behind_all (flow.told.acted ++ e ∷ []) start ≡ behind e flow.kept
next_found start flow e h = all_then flow.told.acted start e ∙ ap (behind_some (behind e)) h

met_found : (start : List Event) (flow : Flow) (at : ℕ) (e : Event) (kept : Option (List Event))
    → behind e flow.kept ≡ kept → IsFound start (Through flow) → IsFound start (met at e kept flow)
met_found start flow at e None is h = next_found start flow e h ∙ is
met_found start flow at e (Some kept) is h = next_found start flow e h ∙ is

comes_found : (start : List Event) (flow : Flow) (placed : ℕ × Event) → IsFound start (Through flow)
    → IsFound start (comes flow placed)
comes_found start flow placed h =
    elim (is_acted flow.port placed.1) as (λ b. IsFound start (if b
    then met placed.0 placed.1 (behind placed.1 flow.kept) flow
    else Through (done placed.1 [] flow.kept flow))) [
      | true ↦ met_found start flow placed.0 placed.1 (behind placed.1 flow.kept) refl h
      | false ↦ ap (λ (acted : List Event). behind_all acted start) (append-nil flow.told.acted) ∙ h
    ]

on_found : (start : List Event) (more : Flow → Delivered) (d : Delivered)
    → ((f : Flow) → IsFound start (Through f) → IsFound start (more f)) → IsFound start d
    → IsFound start (goes_on more d)
on_found start more (Through f) next h = next f h
on_found start more (WentUndetected told e) next h = h

come_found : (start : List Event) (events : List (ℕ × Event)) (flow : Flow)
    → IsFound start (Through flow) → IsFound start (come events flow)
unfolding come
come_found start [] flow h = h
come_found start (placed ∷ events) flow h =
    on_found start (come events) (comes flow placed) (come_found start events)
    (comes_found start flow placed h)

ended_found : (start : List Event) (place : Place) (count : ℕ) (d : Delivered) → IsFound start d
    → IsFound start (ended place count d)
ended_found start place count (Through flow) h = h
ended_found start place count (WentUndetected told e) h = h

pub delivered_found : (port : PortState) (kept : List Event) (chars : List Char)
    → IsFound kept (delivered port kept chars)
delivered_found port kept chars =
    ended_found kept (place_after port.place chars) _
    (come (run port.place 0 chars) (begun port kept))
    (come_found kept (run port.place 0 chars) (begun port kept) refl)

pub found_at : (start : List Event) (d e : Delivered) → d ≡ e → IsFound start d → IsFound start e
found_at start d e is h = subst (IsFound start) is h
