-- A delivery keeps what the ports of a link tell of their free buffers.
use Rattle.link_machine.proofs.Prelude.{◌≡◌, ℕ, ◌++◌, true, false, List, All, [], ◌∷◌, map, Option, Some, None, refl, sym, subst, if◌then◌else◌, append-nil, All-head, All-tail, Char, Place, run, place_after, Event, Ctl, PortState, IsPort, acts, is_acted, IsSound, IsTold, Queues, queues_between}
use Rattle.link_sound.proofs.Told as telling
use Rattle.link_wires.specs.Prelude.{behind, Flow, Delivered, Through, WentUndetected, begun, done, met, comes, goes_on, come, ended, delivered}
use Rattle.link_machine.proofs.Arriving.{HasAckAt, run_has}
use Rattle.link_machine.proofs.Flowing.{IsFlowing, AreFlowing, behind_parts, answer_more, comes_flowing}
use Rattle.link_machine.proofs.Walking.{Stays}

-- The first port has taken characters of the far port's wire. `kept_a` is what it had sent and the
-- far port has not acted on, before its answers.
pub record IsTelling (b : PortState) (kept_a : List Event) (flow : Flow) : Type 0 where
  pub told_b : IsTold b flow.port (kept_a ++ map (λ symbol. Ctl symbol) flow.told.replies)
  pub told_a : IsTold flow.port b flow.kept

-- nothing is said after an event that was not sent
abbrev pub AreTelling : PortState → List Event → Delivered → Type 0
AreTelling b kept_a (Through flow) = IsTelling b kept_a flow
AreTelling b kept_a (WentUndetected told e) = Unit {0}

-- an event that is not acted on
other_telling :
    (b : PortState) (kept_a : List Event) (flow : Flow) (e : Event) → IsPort flow.port
    → is_acted flow.port e ≡ false → IsTelling b kept_a flow
    → IsTelling b kept_a (done e [] flow.kept flow)
other_telling b kept_a flow e port other t =
    let next =
    telling.other_keeps flow.port b (kept_a ++ map (λ symbol. Ctl symbol) flow.told.replies)
    flow.kept e port other t.told_b t.told_a in
    record {
      told_b =
          subst (λ (l : List Event). IsTold b (acts flow.port e).port l)
          (answer_more kept_a flow.told.replies (acts flow.port e).reply) next.0;
      told_a = next.1;
    }

-- one that is, and was sent
acted_telling :
    (b : PortState) (kept_a : List Event) (flow : Flow) (e : Event) (rest : List Event)
    → IsPort flow.port → is_acted flow.port e ≡ true → behind e flow.kept ≡ Some rest
    → IsTelling b kept_a flow → IsTelling b kept_a (done e (e ∷ []) rest flow)
acted_telling b kept_a flow e rest port acted found t =
    let sent = kept_a ++ map (λ symbol. Ctl symbol) flow.told.replies in
    let parts = behind_parts e flow.kept rest found in
    let front : IsTold flow.port b (e ∷ rest) =
    telling.lost_keeps flow.port b parts.0 (e ∷ rest)
    (subst (λ (l : List Event). IsTold flow.port b l) parts.1 t.told_a) in
    let next = telling.acted_keeps flow.port b sent rest e port acted t.told_b front in
    record {
      told_b =
          subst (λ (l : List Event). IsTold b (acts flow.port e).port l)
          (answer_more kept_a flow.told.replies (acts flow.port e).reply) next.0;
      told_a = next.1;
    }

-- by what stands behind it
met_telling :
    (b : PortState) (kept_a : List Event) (flow : Flow) (at : ℕ) (e : Event)
    (kept : Option (List Event)) → IsPort flow.port → is_acted flow.port e ≡ true
    → behind e flow.kept ≡ kept
    → IsTelling b kept_a flow → AreTelling b kept_a (met at e kept flow)
met_telling b kept_a flow at e None port acted found t = tt
met_telling b kept_a flow at e (Some rest) port acted found t =
    acted_telling b kept_a flow e rest port acted found t

comes_telling : (b : PortState) (kept_a : List Event) (flow : Flow) (placed : ℕ × Event)
    → IsPort flow.port → IsTelling b kept_a flow → AreTelling b kept_a (comes flow placed)
comes_telling b kept_a flow placed port t =
    elim (is_acted flow.port placed.1) as (λ a. is_acted flow.port placed.1 ≡ a
    → AreTelling b kept_a (if a then met placed.0 placed.1 (behind placed.1 flow.kept) flow
    else Through (done placed.1 [] flow.kept flow))) [
      | true ↦ λ (acted : is_acted flow.port placed.1 ≡ true). met_telling b kept_a flow placed.0
          placed.1 (behind placed.1 flow.kept) port acted refl t
      | false ↦ λ (other : is_acted flow.port placed.1 ≡ false). other_telling b kept_a flow
          placed.1 port other t
    ] refl

on_telling :
    (b : PortState) (kept_a : List Event) (start : Queues) (more : Flow → Delivered) (d : Delivered)
    → ((f : Flow) → IsFlowing b kept_a start f → IsTelling b kept_a f
    → AreTelling b kept_a (more f))
    → AreFlowing b kept_a start d → AreTelling b kept_a d → AreTelling b kept_a (goes_on more d)
on_telling b kept_a start more (Through f) next h t = next f h t
on_telling b kept_a start more (WentUndetected told e) next h t = tt

come_telling :
    (b : PortState) (kept_a : List Event) (start : Queues) (events : List (ℕ × Event)) (flow : Flow)
    → IsPort b → All HasAckAt events → IsFlowing b kept_a start flow → IsTelling b kept_a flow
    → AreTelling b kept_a (come events flow)
unfolding come
come_telling b kept_a start [] flow far has f t = t
come_telling b kept_a start (placed ∷ events) flow far has f t =
    on_telling b kept_a start (come events) (comes flow placed)
    (λ next h u. come_telling b kept_a start events next far (All-tail HasAckAt placed events has)
    h u)
    (comes_flowing b kept_a start flow placed far (All-head HasAckAt placed events has) f)
    (comes_telling b kept_a flow placed f.port t)

ended_telling : (b : PortState) (kept_a : List Event) (place : Place) (count : ℕ) (d : Delivered)
    → AreTelling b kept_a d → AreTelling b kept_a (ended place count d)
ended_telling b kept_a place count (Through flow) t = record {
  told_b = record { coming = t.told_b.coming; keeps = t.told_b.keeps };
  told_a = record { coming = t.told_a.coming; keeps = t.told_a.keeps };
}
ended_telling b kept_a place count (WentUndetected told e) t = tt

-- a delivery to the first port
pub delivered_telling :
    (a b : PortState) (kept_a kept_b : List Event) (chars : List Char) → IsPort a → IsPort b
    → IsSound a b kept_a kept_b → IsTold b a kept_a → IsTold a b kept_b
    → AreTelling b kept_a (delivered a kept_b chars)
delivered_telling a b kept_a kept_b chars near far sound ahead back =
    let none = sym (append-nil kept_a) in
    ended_telling b kept_a (place_after a.place chars) _
    (come (run a.place 0 chars) (begun a kept_b))
    (come_telling b kept_a (queues_between a b) (run a.place 0 chars) (begun a kept_b) far
    (run_has a.place 0 chars)
    (record {
      port = near;
      sound = subst (λ (l : List Event). IsSound a b l kept_b) none sound;
      walks = Stays;
    })
    (record {
      told_b = subst (λ (l : List Event). IsTold b a l) none ahead;
      told_a = back;
    }))
