-- A delivery keeps a link sound, and what is held and freed are steps of plain queues.
use Rattle.link_machine.proofs.Prelude.{◌≡◌, ℕ, ◌++◌, true, false, List, All, [], ◌∷◌, map, Option, Some, None, option_to_list, refl, sym, ap, ◌∙◌, subst, if◌then◌else◌, append_assoc, append-nil, map-append, All-head, All-tail, Char, Fields, Place, IsBounded, step, run, place_after, Event, Ctl, PortState, IsPort, acts, is_acted, same_event, IsSound, reply_sent, acted_keeps, other_keeps, lost_keeps, acted_port, other_port, read_port, HasAck, Queues, queues_between}
use Rattle.link_model.specs.EventsEqual.{found_same}
use Rattle.link_model.proofs.PlacesBounds.{step_bounded}
use Rattle.link_sound.proofs.Moves.{acted_holds, other_holds, acted_frees, other_frees}
use Rattle.link_wires.specs.Prelude.{behind, Flow, Delivered, Through, WentUndetected, begun, done, met, comes, goes_on, come, ended, delivered}
use Rattle.link_machine.proofs.Arriving.{HasAckAt, run_has}
use Rattle.link_machine.proofs.Walking.{FirstWalks, Stays, walks_on, event_walks}

-- what is kept is what stands behind the event, which stands behind what is lost
pub behind_parts : (e : Event) (kept rest : List Event) → behind e kept ≡ Some rest
    → (lost : List Event) × (kept ≡ lost ++ e ∷ rest)
behind_parts e [] rest h = absurd cc
behind_parts e (x ∷ kept) rest h =
    elim (same_event x e) as (λ b. same_event x e ≡ b
    → (if b then Some kept else behind e kept) ≡ Some rest
    → (lost : List Event) × (x ∷ kept ≡ lost ++ e ∷ rest)) [
      | true ↦ λ (same : same_event x e ≡ true) (is : Some kept ≡ Some rest).
          let first = found_same x e same in
          let left : kept ≡ rest = cc in
          ([], λ i. first i ∷ left i)
      | false ↦ λ (other : same_event x e ≡ false) (is : behind e kept ≡ Some rest).
          let parts = behind_parts e kept rest is in
          (x ∷ parts.0, ap (λ (l : List Event). x ∷ l) parts.1)
    ] refl h

-- The first port has taken characters of the far port's wire. `kept_a` is what it had sent and the
-- far port has not acted on, before its answers.
pub record IsFlowing (b : PortState) (kept_a : List Event) (start : Queues) (flow : Flow) : Type 0
  where
    pub port : IsPort flow.port
    pub sound : IsSound flow.port b (kept_a ++ map (λ symbol. Ctl symbol) flow.told.replies)
        flow.kept
    pub walks : FirstWalks start flow.told.moves (queues_between flow.port b)

-- and of characters up to an event that was not sent, what they did to packets
abbrev pub AreFlowing : PortState → List Event → Queues → Delivered → Type 0
AreFlowing b kept_a start (Through flow) = IsFlowing b kept_a start flow
AreFlowing b kept_a start (WentUndetected told e) = (end : Queues) × FirstWalks start told.moves end

-- an answer more
pub answer_more : (kept : List Event) (replies : List Fields) (reply : Option Fields)
    → (kept ++ map (λ symbol. Ctl symbol) replies) ++ reply_sent reply
    ≡ kept ++ map (λ symbol. Ctl symbol) (replies ++ option_to_list reply)
answer_more kept replies None =
    append-nil (kept ++ map (λ (symbol : Fields). Ctl symbol) replies)
    ∙ ap (λ (l : List Fields). kept ++ map (λ symbol. Ctl symbol) l) (sym (append-nil replies))
answer_more kept replies (Some symbol) =
    append_assoc kept (map (λ (s : Fields). Ctl s) replies) (Ctl symbol ∷ [])
    ∙ ap (λ (l : List Event). kept ++ l)
    (sym (map-append (λ (s : Fields). Ctl s) replies (symbol ∷ [])))

-- an event that is not acted on
other_flowing :
    (b : PortState) (kept_a : List Event) (start : Queues) (flow : Flow) (e : Event)
    → is_acted flow.port e ≡ false → IsFlowing b kept_a start flow
    → IsFlowing b kept_a start (done e [] flow.kept flow)
other_flowing b kept_a start flow e other f = record {
  port = other_port flow.port e f.port other;
  sound =
      subst (λ (l : List Event). IsSound (acts flow.port e).port b l flow.kept)
      (answer_more kept_a flow.told.replies (acts flow.port e).reply)
      (other_keeps flow.port b (kept_a ++ map (λ symbol. Ctl symbol) flow.told.replies) flow.kept e
      other f.sound);
  walks =
      walks_on f.walks (event_walks flow.port b (acts flow.port e).port (acts flow.port e).held
      (acts flow.port e).freed (other_holds flow.port b e other) (other_frees flow.port b e other));
}

-- one that is, and was sent
acted_flowing :
    (b : PortState) (kept_a : List Event) (start : Queues) (flow : Flow) (e : Event)
    (rest : List Event) → IsPort b → HasAck e → is_acted flow.port e ≡ true
    → behind e flow.kept ≡ Some rest
    → IsFlowing b kept_a start flow → IsFlowing b kept_a start (done e (e ∷ []) rest flow)
acted_flowing b kept_a start flow e rest far has acted found f =
    let sent = kept_a ++ map (λ symbol. Ctl symbol) flow.told.replies in
    let parts = behind_parts e flow.kept rest found in
    let sound : IsSound flow.port b sent (e ∷ rest) =
    lost_keeps flow.port b [] sent parts.0 (e ∷ rest)
    (subst (λ (l : List Event). IsSound flow.port b sent l) parts.1 f.sound) in
    record {
      port = acted_port flow.port b sent rest e f.port far has acted sound;
      sound =
          subst (λ (l : List Event). IsSound (acts flow.port e).port b l rest)
          (answer_more kept_a flow.told.replies (acts flow.port e).reply)
          (acted_keeps flow.port b sent rest e f.port.covered acted sound);
      walks =
          walks_on f.walks (event_walks flow.port b (acts flow.port e).port (acts flow.port e).held
          (acts flow.port e).freed
          (acted_holds flow.port b sent rest e far.covered far.sends acted sound)
          (acted_frees flow.port b sent rest e f.port.covered acted sound));
    }

-- by what stands behind it
met_flowing :
    (b : PortState) (kept_a : List Event) (start : Queues) (flow : Flow) (at : ℕ) (e : Event)
    (kept : Option (List Event)) → IsPort b → HasAck e → is_acted flow.port e ≡ true
    → behind e flow.kept ≡ kept
    → IsFlowing b kept_a start flow → AreFlowing b kept_a start (met at e kept flow)
met_flowing b kept_a start flow at e None far has acted found f =
    (queues_between flow.port b, f.walks)
met_flowing b kept_a start flow at e (Some rest) far has acted found f =
    acted_flowing b kept_a start flow e rest far has acted found f

pub comes_flowing :
    (b : PortState) (kept_a : List Event) (start : Queues) (flow : Flow) (placed : ℕ × Event)
    → IsPort b → HasAckAt placed → IsFlowing b kept_a start flow
    → AreFlowing b kept_a start (comes flow placed)
comes_flowing b kept_a start flow placed far has f =
    elim (is_acted flow.port placed.1) as (λ t. is_acted flow.port placed.1 ≡ t
    → AreFlowing b kept_a start (if t then met placed.0 placed.1 (behind placed.1 flow.kept) flow
    else Through (done placed.1 [] flow.kept flow))) [
      | true ↦ λ (acted : is_acted flow.port placed.1 ≡ true). met_flowing b kept_a start flow
          placed.0 placed.1 (behind placed.1 flow.kept) far has acted refl f
      | false ↦ λ (other : is_acted flow.port placed.1 ≡ false). other_flowing b kept_a start flow
          placed.1 other f
    ] refl

on_flowing :
    (b : PortState) (kept_a : List Event) (start : Queues) (more : Flow → Delivered) (d : Delivered)
    → ((f : Flow) → IsFlowing b kept_a start f → AreFlowing b kept_a start (more f))
    → AreFlowing b kept_a start d → AreFlowing b kept_a start (goes_on more d)
on_flowing b kept_a start more (Through f) next h = next f h
on_flowing b kept_a start more (WentUndetected told e) next h = h

come_flowing :
    (b : PortState) (kept_a : List Event) (start : Queues) (events : List (ℕ × Event)) (flow : Flow)
    → IsPort b → All HasAckAt events → IsFlowing b kept_a start flow
    → AreFlowing b kept_a start (come events flow)
unfolding come
come_flowing b kept_a start [] flow far has f = f
come_flowing b kept_a start (placed ∷ events) flow far has f =
    on_flowing b kept_a start (come events) (comes flow placed)
    (λ next h. come_flowing b kept_a start events next far (All-tail HasAckAt placed events has) h)
    (comes_flowing b kept_a start flow placed far (All-head HasAckAt placed events has) f)

after_bounded : (from : Place) (chars : List Char) → IsBounded from.text
    → IsBounded (place_after from chars).text
unfolding place_after
after_bounded from [] h = h
after_bounded from (c ∷ chars) h = after_bounded (step from c).place chars (step_bounded from c h)

ended_flowing :
    (b : PortState) (kept_a : List Event) (start : Queues) (place : Place) (count : ℕ)
    (d : Delivered) → IsBounded place.text → AreFlowing b kept_a start d
    → AreFlowing b kept_a start (ended place count d)
ended_flowing b kept_a start place count (Through flow) bounded f = record {
  port = read_port flow.port flow.port.received place f.port.receives bounded f.port;
  sound = record { a_to_b = f.sound.a_to_b; b_to_a = f.sound.b_to_a };
  walks = f.walks;
}
ended_flowing b kept_a start place count (WentUndetected told e) bounded f = f

-- a delivery to the first port
pub delivered_flowing :
    (a b : PortState) (kept_a kept_b : List Event) (chars : List Char) → IsPort a → IsPort b
    → IsSound a b kept_a kept_b
    → AreFlowing b kept_a (queues_between a b) (delivered a kept_b chars)
delivered_flowing a b kept_a kept_b chars near far sound =
    ended_flowing b kept_a (queues_between a b) (place_after a.place chars) _
    (come (run a.place 0 chars) (begun a kept_b)) (after_bounded a.place chars near.bounded)
    (come_flowing b kept_a (queues_between a b) (run a.place 0 chars) (begun a kept_b) far
    (run_has a.place 0 chars) (record {
      port = near;
      sound = subst (λ (l : List Event). IsSound a b l kept_b) (sym (append-nil kept_a)) sound;
      walks = Stays;
    }))
