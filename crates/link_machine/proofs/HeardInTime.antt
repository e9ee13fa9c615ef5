-- A turn and a delivery keep what a port has told of its free buffers, and the room of packets.
use Rattle.link_machine.proofs.Prelude.{◌≡◌, ◌≢◌, ℕ, zero, suc, ◌+◌, ◌++◌, Bool, true, false, List, All, [], ◌∷◌, map, Option, Some, None, IfSome, option_to_list, refl, sym, subst, if◌then◌else◌, append_assoc, append-nil, All-nil, All-cons, All-append, All-head, All-tail, Char, Fields, Place, run, place_after, PACKET_RETRY, Event, Ctl, PortState, IsPort, acts, is_acted, turns_to, turn_sends, IsSound, reply_sent, turn_keeps, lost_keeps, turn_port, IsKnown, answer_no_retry, known_open, port_turned, bursts, LinkState, Queues, queues_between, NoRetries}
use Rattle.link_sound.proofs.CreditHearer as hearer
use Rattle.link_sound.proofs.CreditTeller as teller
use Rattle.link_wires.specs.Prelude.{behind, Flow, Delivered, Through, WentUndetected, begun, done, met, comes, goes_on, come, ended, delivered}
use Rattle.link_machine.proofs.Arriving.{HasAckAt, run_has}
use Rattle.link_machine.proofs.Flowing.{IsFlowing, AreFlowing, behind_parts, answer_more, comes_flowing}
use Rattle.link_machine.proofs.Walking.{Stays}

module _ (timely : Bool) where
  -- the first port was told by the second; the first port tells the second
  abbrev pub Hears : LinkState → Type 0
  Hears s = IsKnown timely s.a s.b s.wire_a.kept s.wire_b.kept

  abbrev pub TellsOf : LinkState → Type 0
  TellsOf s = IsKnown timely s.b s.a s.wire_b.kept s.wire_a.kept

  -- ---- turns

  pub turned_hears : (n : ℕ) (a b : PortState) (kept_a kept_b : List Event) → IsPort a
      → IsSound a b kept_a kept_b → IsKnown timely a b kept_a kept_b
      → IsKnown timely (port_turned n a) b (kept_a ++ (bursts n a).sent) kept_b
  unfolding port_turned bursts
  turned_hears zero a b kept_a kept_b is s k =
      subst (λ (l : List Event). IsKnown timely a b l kept_b) (sym (append-nil kept_a)) k
  turned_hears (suc n) a b kept_a kept_b is s k =
      subst (λ (l : List Event). IsKnown timely (port_turned n (turns_to a)) b l kept_b)
      (append_assoc kept_a (turn_sends a).sent (bursts n (turns_to a)).sent)
      (turned_hears n (turns_to a) b (kept_a ++ (turn_sends a).sent) kept_b (turn_port a is)
      (turn_keeps a b kept_a kept_b is.covered s)
      (hearer.turn_known timely a b kept_a kept_b is s k))

  pub turned_tells : (n : ℕ) (a b : PortState) (kept_a kept_b : List Event) → IsPort a
      → IsKnown timely b a kept_b kept_a
      → IsKnown timely b (port_turned n a) kept_b (kept_a ++ (bursts n a).sent)
  unfolding port_turned bursts
  turned_tells zero a b kept_a kept_b is k =
      subst (λ (l : List Event). IsKnown timely b a kept_b l) (sym (append-nil kept_a)) k
  turned_tells (suc n) a b kept_a kept_b is k =
      subst (λ (l : List Event). IsKnown timely b (port_turned n (turns_to a)) kept_b l)
      (append_assoc kept_a (turn_sends a).sent (bursts n (turns_to a)).sent)
      (turned_tells n (turns_to a) b (kept_a ++ (turn_sends a).sent) kept_b (turn_port a is)
      (teller.turn_told timely b a kept_b kept_a is k))

  -- ---- deliveries to the port that was told

  abbrev IsFlowingHears : PortState → List Event → Flow → Type 0
  IsFlowingHears b kept_a flow =
      IsKnown timely flow.port b (kept_a ++ map (λ symbol. Ctl symbol) flow.told.replies) flow.kept

  abbrev pub AreHears : PortState → List Event → Delivered → Type 0
  AreHears b kept_a (Through flow) = IsFlowingHears b kept_a flow
  AreHears b kept_a (WentUndetected told e) = Unit {0}

  other_hears : (b : PortState) (kept_a : List Event) (flow : Flow) (e : Event)
      → is_acted flow.port e ≡ false → IsFlowingHears b kept_a flow
      → IsFlowingHears b kept_a (done e [] flow.kept flow)
  other_hears b kept_a flow e other t =
      subst (λ (l : List Event). IsKnown timely (acts flow.port e).port b l flow.kept)
      (answer_more kept_a flow.told.replies (acts flow.port e).reply)
      (hearer.other_known timely flow.port b
      (kept_a ++ map (λ symbol. Ctl symbol) flow.told.replies) flow.kept e other t)

  acted_hears : (b : PortState) (kept_a : List Event) (start : Queues) (flow : Flow) (e : Event)
      (rest : List Event) → is_acted flow.port e ≡ true → behind e flow.kept ≡ Some rest
      → IsFlowing b kept_a start flow → IsFlowingHears b kept_a flow
      → IsFlowingHears b kept_a (done e (e ∷ []) rest flow)
  acted_hears b kept_a start flow e rest acted found f t =
      let sent = kept_a ++ map (λ symbol. Ctl symbol) flow.told.replies in
      let parts = behind_parts e flow.kept rest found in
      let sound : IsSound flow.port b sent (e ∷ rest) =
      lost_keeps flow.port b [] sent parts.0 (e ∷ rest)
      (subst (λ (l : List Event). IsSound flow.port b sent l) parts.1 f.sound) in
      let known : IsKnown timely flow.port b sent (e ∷ rest) =
      hearer.lost_known timely flow.port b [] sent parts.0 (e ∷ rest)
      (subst (λ (l : List Event). IsKnown timely flow.port b sent l) parts.1 t) in
      subst (λ (l : List Event). IsKnown timely (acts flow.port e).port b l rest)
      (answer_more kept_a flow.told.replies (acts flow.port e).reply)
      (hearer.acted_known timely flow.port b sent rest e f.port acted sound known)

  met_hears : (b : PortState) (kept_a : List Event) (start : Queues) (flow : Flow) (at : ℕ)
      (e : Event) (kept : Option (List Event)) → is_acted flow.port e ≡ true
      → behind e flow.kept ≡ kept → IsFlowing b kept_a start flow → IsFlowingHears b kept_a flow
      → AreHears b kept_a (met at e kept flow)
  met_hears b kept_a start flow at e None acted found f t = tt
  met_hears b kept_a start flow at e (Some rest) acted found f t =
      acted_hears b kept_a start flow e rest acted found f t

  comes_hears : (b : PortState) (kept_a : List Event) (start : Queues) (flow : Flow)
      (placed : ℕ × Event) → IsFlowing b kept_a start flow → IsFlowingHears b kept_a flow
      → AreHears b kept_a (comes flow placed)
  comes_hears b kept_a start flow placed f t =
      elim (is_acted flow.port placed.1) as (λ a. is_acted flow.port placed.1 ≡ a
      → AreHears b kept_a (if a then met placed.0 placed.1 (behind placed.1 flow.kept) flow
      else Through (done placed.1 [] flow.kept flow))) [
        | true ↦ λ (acted : is_acted flow.port placed.1 ≡ true). met_hears b kept_a start flow
            placed.0 placed.1 (behind placed.1 flow.kept) acted refl f t
        | false ↦ λ (other : is_acted flow.port placed.1 ≡ false). other_hears b kept_a flow
            placed.1 other t
      ] refl

  on_hears : (b : PortState) (kept_a : List Event) (start : Queues) (more : Flow → Delivered)
      (d : Delivered)
      → ((f : Flow) → IsFlowing b kept_a start f → IsFlowingHears b kept_a f
      → AreHears b kept_a (more f))
      → AreFlowing b kept_a start d → AreHears b kept_a d → AreHears b kept_a (goes_on more d)
  on_hears b kept_a start more (Through f) next h t = next f h t
  on_hears b kept_a start more (WentUndetected told e) next h t = tt

  come_hears : (b : PortState) (kept_a : List Event) (start : Queues) (events : List (ℕ × Event))
      (flow : Flow) → IsPort b → All HasAckAt events → IsFlowing b kept_a start flow
      → IsFlowingHears b kept_a flow → AreHears b kept_a (come events flow)
  unfolding come
  come_hears b kept_a start [] flow far has f t = t
  come_hears b kept_a start (placed ∷ events) flow far has f t =
      on_hears b kept_a start (come events) (comes flow placed)
      (λ next h u. come_hears b kept_a start events next far (All-tail HasAckAt placed events has)
      h u)
      (comes_flowing b kept_a start flow placed far (All-head HasAckAt placed events has) f)
      (comes_hears b kept_a start flow placed f t)

  ended_hears : (b : PortState) (kept_a : List Event) (place : Place) (count : ℕ) (d : Delivered)
      → AreHears b kept_a d → AreHears b kept_a (ended place count d)
  ended_hears b kept_a place count (Through flow) t = record {
    tells = t.tells;
    freed = t.freed;
    held = t.held;
    counted = t.counted;
    in_time = t.in_time;
  }
  ended_hears b kept_a place count (WentUndetected told e) t = tt

  -- the two ports at the start of a delivery
  begun_flowing : (a b : PortState) (kept_a kept_b : List Event) → IsPort a
      → IsSound a b kept_a kept_b → IsFlowing b kept_a (queues_between a b) (begun a kept_b)
  begun_flowing a b kept_a kept_b near sound = record {
    port = near;
    sound = subst (λ (l : List Event). IsSound a b l kept_b) (sym (append-nil kept_a)) sound;
    walks = Stays;
  }

  pub delivered_hears : (a b : PortState) (kept_a kept_b : List Event) (chars : List Char)
      → IsPort a → IsPort b → IsSound a b kept_a kept_b → IsKnown timely a b kept_a kept_b
      → AreHears b kept_a (delivered a kept_b chars)
  delivered_hears a b kept_a kept_b chars near far sound k =
      ended_hears b kept_a (place_after a.place chars) _
      (come (run a.place 0 chars) (begun a kept_b))
      (come_hears b kept_a (queues_between a b) (run a.place 0 chars) (begun a kept_b) far
      (run_has a.place 0 chars) (begun_flowing a b kept_a kept_b near sound)
      (subst (λ (l : List Event). IsKnown timely a b l kept_b) (sym (append-nil kept_a)) k))

  -- ---- deliveries to the port that tells

  abbrev IsFlowingTells : PortState → List Event → Flow → Type 0
  IsFlowingTells b kept_a flow =
      IsKnown timely b flow.port flow.kept (kept_a ++ map (λ symbol. Ctl symbol) flow.told.replies)
      × (timely ≡ true → NoRetries flow.told.replies)

  abbrev pub AreTells : PortState → List Event → Delivered → Type 0
  AreTells b kept_a (Through flow) = IsFlowingTells b kept_a flow
  AreTells b kept_a (WentUndetected told e) = timely ≡ true → NoRetries told.replies

  -- what is answered is no packet-retry, where the far port was told in time
  answer_none : (b q : PortState) (e : Event) (kept_ahead kept_back : List Event)
      → IsKnown timely b (acts q e).port kept_ahead kept_back → timely ≡ true
      → IfSome (acts q e).reply (λ (answer : Fields). answer.s0 ≢ PACKET_RETRY)
  answer_none b q e kept_ahead kept_back k is =
      answer_no_retry q e (known_open b (acts q e).port kept_ahead kept_back
      (subst (λ (t : Bool). IsKnown t b (acts q e).port kept_ahead kept_back) is k))

  reply_none : (replies : List Fields) (reply : Option Fields) → NoRetries replies
      → IfSome reply (λ (answer : Fields). answer.s0 ≢ PACKET_RETRY)
      → NoRetries (replies ++ option_to_list reply)
  reply_none replies None none one =
      All-append (λ (symbol : Fields). symbol.s0 ≢ PACKET_RETRY) replies [] none
      (All-nil (λ (symbol : Fields). symbol.s0 ≢ PACKET_RETRY))
  reply_none replies (Some answer) none one =
      All-append (λ (symbol : Fields). symbol.s0 ≢ PACKET_RETRY) replies (answer ∷ []) none
      (All-cons (λ (symbol : Fields). symbol.s0 ≢ PACKET_RETRY) answer [] one
      (All-nil (λ (symbol : Fields). symbol.s0 ≢ PACKET_RETRY)))

  other_tells : (b : PortState) (kept_a : List Event) (flow : Flow) (e : Event)
      → is_acted flow.port e ≡ false → IsFlowingTells b kept_a flow
      → IsFlowingTells b kept_a (done e [] flow.kept flow)
  other_tells b kept_a flow e other t =
      let sent = kept_a ++ map (λ symbol. Ctl symbol) flow.told.replies in
      let next = teller.other_told timely b flow.port flow.kept sent e other t.0 in (
        subst (λ (l : List Event). IsKnown timely b (acts flow.port e).port flow.kept l)
            (answer_more kept_a flow.told.replies (acts flow.port e).reply) next,
        λ is. reply_none flow.told.replies (acts flow.port e).reply (t.1 is)
            (answer_none b flow.port e flow.kept (sent ++ reply_sent (acts flow.port e).reply) next
            is),
      )

  acted_tells : (b : PortState) (kept_a : List Event) (start : Queues) (flow : Flow) (e : Event)
      (rest : List Event) → IsPort b → is_acted flow.port e ≡ true → behind e flow.kept ≡ Some rest
      → IsFlowing b kept_a start flow → IsFlowingTells b kept_a flow
      → IsFlowingTells b kept_a (done e (e ∷ []) rest flow)
  acted_tells b kept_a start flow e rest far acted found f t =
      let sent = kept_a ++ map (λ symbol. Ctl symbol) flow.told.replies in
      let parts = behind_parts e flow.kept rest found in
      let sound : IsSound flow.port b sent (e ∷ rest) =
      lost_keeps flow.port b [] sent parts.0 (e ∷ rest)
      (subst (λ (l : List Event). IsSound flow.port b sent l) parts.1 f.sound) in
      let known : IsKnown timely b flow.port (e ∷ rest) sent =
      hearer.lost_known timely b flow.port parts.0 (e ∷ rest) [] sent
      (subst (λ (l : List Event). IsKnown timely b flow.port l sent) parts.1 t.0) in
      let next = teller.acted_told timely b flow.port rest sent e f.port far acted sound known in (
        subst (λ (l : List Event). IsKnown timely b (acts flow.port e).port rest l)
            (answer_more kept_a flow.told.replies (acts flow.port e).reply) next,
        λ is. reply_none flow.told.replies (acts flow.port e).reply (t.1 is)
            (answer_none b flow.port e rest (sent ++ reply_sent (acts flow.port e).reply) next is),
      )

  met_tells : (b : PortState) (kept_a : List Event) (start : Queues) (flow : Flow) (at : ℕ)
      (e : Event) (kept : Option (List Event)) → IsPort b → is_acted flow.port e ≡ true
      → behind e flow.kept ≡ kept → IsFlowing b kept_a start flow → IsFlowingTells b kept_a flow
      → AreTells b kept_a (met at e kept flow)
  met_tells b kept_a start flow at e None far acted found f t = t.1
  met_tells b kept_a start flow at e (Some rest) far acted found f t =
      acted_tells b kept_a start flow e rest far acted found f t

  comes_tells : (b : PortState) (kept_a : List Event) (start : Queues) (flow : Flow)
      (placed : ℕ × Event) → IsPort b → IsFlowing b kept_a start flow
      → IsFlowingTells b kept_a flow → AreTells b kept_a (comes flow placed)
  comes_tells b kept_a start flow placed far f t =
      elim (is_acted flow.port placed.1) as (λ a. is_acted flow.port placed.1 ≡ a
      → AreTells b kept_a (if a then met placed.0 placed.1 (behind placed.1 flow.kept) flow
      else Through (done placed.1 [] flow.kept flow))) [
        | true ↦ λ (acted : is_acted flow.port placed.1 ≡ true). met_tells b kept_a start flow
            placed.0 placed.1 (behind placed.1 flow.kept) far acted refl f t
        | false ↦ λ (other : is_acted flow.port placed.1 ≡ false). other_tells b kept_a flow
            placed.1 other t
      ] refl

  on_tells : (b : PortState) (kept_a : List Event) (start : Queues) (more : Flow → Delivered)
      (d : Delivered)
      → ((f : Flow) → IsFlowing b kept_a start f → IsFlowingTells b kept_a f
      → AreTells b kept_a (more f))
      → AreFlowing b kept_a start d → AreTells b kept_a d → AreTells b kept_a (goes_on more d)
  on_tells b kept_a start more (Through f) next h t = next f h t
  on_tells b kept_a start more (WentUndetected told e) next h t = t

  come_tells : (b : PortState) (kept_a : List Event) (start : Queues) (events : List (ℕ × Event))
      (flow : Flow) → IsPort b → All HasAckAt events → IsFlowing b kept_a start flow
      → IsFlowingTells b kept_a flow → AreTells b kept_a (come events flow)
  unfolding come
  come_tells b kept_a start [] flow far has f t = t
  come_tells b kept_a start (placed ∷ events) flow far has f t =
      on_tells b kept_a start (come events) (comes flow placed)
      (λ next h u. come_tells b kept_a start events next far (All-tail HasAckAt placed events has)
      h u)
      (comes_flowing b kept_a start flow placed far (All-head HasAckAt placed events has) f)
      (comes_tells b kept_a start flow placed far f t)

  ended_tells : (b : PortState) (kept_a : List Event) (place : Place) (count : ℕ) (d : Delivered)
      → AreTells b kept_a d → AreTells b kept_a (ended place count d)
  ended_tells b kept_a place count (Through flow) t = (
    record {
      tells = t.0.tells;
      freed = t.0.freed;
      held = t.0.held;
      counted = t.0.counted;
      in_time = t.0.in_time;
    },
    t.1,
  )
  ended_tells b kept_a place count (WentUndetected told e) t = t

  pub delivered_tells : (a b : PortState) (kept_a kept_b : List Event) (chars : List Char)
      → IsPort a → IsPort b → IsSound a b kept_a kept_b → IsKnown timely b a kept_b kept_a
      → AreTells b kept_a (delivered a kept_b chars)
  delivered_tells a b kept_a kept_b chars near far sound k =
      ended_tells b kept_a (place_after a.place chars) _
      (come (run a.place 0 chars) (begun a kept_b))
      (come_tells b kept_a (queues_between a b) (run a.place 0 chars) (begun a kept_b) far
      (run_has a.place 0 chars) (begun_flowing a b kept_a kept_b near sound) (
        subst (λ (l : List Event). IsKnown timely b a kept_b l) (sym (append-nil kept_a)) k,
        λ is. All-nil (λ (symbol : Fields). symbol.s0 ≢ PACKET_RETRY),
      ))
