-- Packets that are sent and that the port does not have.
use Rattle.std.proofs.Common.{◌≡◌, ◌↔◌, ℕ, ◌<◌, Bool, true, false, List, [], ◌∷◌, ◌++◌, Option, Some, None, is_some, not, inl, inr, MatchOption, slice_get, refl, sym, ap, ◌∙◌}
use Rattle.std.proofs.lemmas.Bool.{false≢true}
use Rattle.std.specs.Prelude.{IsTrue}
use Rattle.std.specs.List.{AllByRecursion}
use Rattle.link_model.specs.declared.event.Event.{Event}
use Rattle.link_model.specs.declared.event.Event.TheVariants.{Ctl, Pkt, Bad}
use Rattle.link_buffers.specs.Queues.{list_at}
use Rattle.fabric_script.specs.declared.ports.PortRef.{PortRef}
use Rattle.fabric_model.specs.Network.{first_packet, Item, Network}
use Rattle.fabric_trace.specs.Owned.{HasEvent}
use Rattle.fabric_trace.specs.Views.{lists_in, packets_in}
use Rattle.fabric_trace.proofs.Network.Lanes.{lane_at}
use Rattle.trace_check.specs.Expecting.{OneIsLacked}

module _ (net : Network) (p : PortRef) where
  pub lacked_front : (prio : ℕ) (xs ys : List Event) → OneIsLacked net p prio xs
      → OneIsLacked net p prio (xs ++ ys)
  lacked_front prio [] ys none = absurd none
  lacked_front prio (x ∷ xs) ys (inl here) = inl here
  lacked_front prio (x ∷ xs) ys (inr later) = inr (lacked_front prio xs ys later)

  pub lacked_behind : (prio : ℕ) (xs ys : List Event) → OneIsLacked net p prio ys
      → OneIsLacked net p prio (xs ++ ys)
  lacked_behind prio [] ys lacked = lacked
  lacked_behind prio (x ∷ xs) ys lacked = inr (lacked_behind prio xs ys lacked)

  -- then the port does not have them all
  pub not_all : (prio : ℕ) (events : List Event) → OneIsLacked net p prio events
      → AllByRecursion (HasEvent net p) events → ⊥
  not_all prio [] none all = none
  not_all prio (Ctl symbol ∷ events) (inl none) all = none
  not_all prio (Pkt ack packet ∷ events) (inl here) all = here.1 all.0
  not_all prio (Bad cause ∷ events) (inl none) all = none
  not_all prio (x ∷ events) (inr later) all = not_all prio events later all.1

  -- so that it has them all exactly if none is found
  pub all_by_none : (events : List Event) (found : Option ℕ) (none : Bool)
      → is_some found ≡ not none
      → MatchOption found (AllByRecursion (HasEvent net p) events)
      (λ prio. OneIsLacked net p prio events)
      → IsTrue none ↔ AllByRecursion (HasEvent net p) events
  all_by_none events None true is all = (λ yes. all, λ has. refl)
  all_by_none events None false is all = absurd (false≢true is)
  all_by_none events (Some prio) true is one = absurd (false≢true (sym is))
  all_by_none events (Some prio) false is one = (
    λ yes. absurd (false≢true yes),
    λ all. absurd (not_all prio events one all),
  )

pub first_in : (items : List Item) → slice_get (packets_in items) 0 ≡ first_packet items
first_in [] = refl
first_in (item ∷ items) = refl

-- the first packet of a lane
pub first_of : (lanes : ℕ → List Item) (lists : List (List (List ℕ))) (r : ℕ) → r < 4
    → lists ≡ lists_in lanes → slice_get (list_at lists r) 0 ≡ first_packet (lanes r)
first_of lanes lists r few is =
    ap (λ l. slice_get (list_at l r) 0) is ∙ ap (λ l. slice_get l 0) (lane_at lanes r few)
    ∙ first_in (lanes r)
