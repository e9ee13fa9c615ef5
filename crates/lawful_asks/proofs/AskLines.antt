-- The lines of asks begin no event, and what a port got in them is not empty.
use Rattle.lawful_asks.proofs.Prelude.{◌≡◌, inl, inr, ℕ, zero, suc, ◌==◌, ◌||◌, ◌++◌, false, List, [], ◌∷◌, None, refl, sym, ap, ◌∙◌, port_of, TraceLine, seen, Seen, link_at, GotsSome, AllGotSome, lines_some, sent_some}
use Rattle.rio_chars.specs.declared.chars.Char.{Char}
use Rattle.maint_registers.specs.Devices.{Registers, is_switch}
use Rattle.maint_packets.specs.declared.request.Request.{Request}
use Rattle.switch_core.specs.EndpointSteps.{collected}
use Rattle.link_watch.specs.declared.side.Side.TheVariants.{A}
use Rattle.link_wires.specs.Wires.{bursts}
use Rattle.rio_chars.specs.declared.edit.Edit.{Edit}
use Rattle.link_machine.specs.Calls.{pump_notes}
use Rattle.fabric_script.specs.declared.ports.PortRef.{PortRef}
use Rattle.fabric_model.proofs.Lists.{all-append}
use Rattle.fabric_trace.specs.Blocks.{Asks, pumps}
use Rattle.fabric_trace.specs.Rounds.{ServeNodes}
use Rattle.fabric_trace.specs.Served.{face_in, IsCollect}
use Rattle.fabric_trace.proofs.Rounds.Blocks.{by_test}
use Rattle.lawful_traces.proofs.GotsInBlocks.{some_by, takes_some, collected_some, link_some, joined_some, nodes_some}
use Rattle.fabric_ask.specs.Asks.{CarryAll, CollectsAll, CollectRests, CollectGoes, CollectStops, CollectNodes, Handles, AskRound, holds_some, AskRounds, Unheld, most_rounds, IsAsk}
use Rattle.fabric_ask.specs.Noise.{IsCarry, stirred}
use Rattle.fabric_ask.specs.Travel.{GoesOn}
use Rattle.fabric_ask.proofs.Crossing.{split}
use Rattle.fabric_ports.specs.Spending.{HasCollected, LastRound, RoundsSpend, AskSpends}
use Rattle.fabric_maint.specs.Asked.{Asked, AskedNothing, AskedMore, Owns}

-- ---- a link

none_stirred : (noise : List Edit) (p : PortRef) (chars : List Char) → noise ≡ []
    → ((stirred noise p chars).0 ≡ []) × ((stirred noise p chars).1 ≡ [])
none_stirred noise p chars none = (
  ap (λ (l : List Edit). (stirred l p chars).0) none,
  ap (λ (l : List Edit). (stirred l p chars).1) none,
)

pumps_some : (s : Seen) (p q : PortRef) → AllGotSome (pumps s p 1 q)
pumps_some s p q =
    lines_some p q (pump_notes A 1 (link_at s p q)) (sent_some A (bursts 1 (link_at s p q).a).chars)

carry_some : (noise left : List Edit) (s : Seen) (a b : PortRef) (lines : List TraceLine)
    → noise ≡ [] → IsCarry noise left s a b lines → AllGotSome lines × (left ≡ [])
carry_some noise left s a b lines none is =
    let first = none_stirred noise a ((seen (seen s is.one) is.two).wires a).chars none in
    let first_lines : is.first.0 ≡ [] = ap (λ (x : List TraceLine × List Edit). x.0) is.first_is
    ∙ first.0 in
    let first_left : is.first.1 ≡ [] = ap (λ (x : List TraceLine × List Edit). x.1) is.first_is
    ∙ first.1 in
    let second = none_stirred is.first.1 b
    ((seen (seen (seen s is.one) is.two) is.first.0).wires b).chars first_left in
    let second_lines : is.second.0 ≡ [] = ap (λ (x : List TraceLine × List Edit). x.0) is.second_is
    ∙ second.0 in
    let second_left : is.second.1 ≡ [] = ap (λ (x : List TraceLine × List Edit). x.1) is.second_is
    ∙ second.1 in (
      some_by is.whole
          (all-append GotsSome (is.one ++ is.two ++ is.first.0 ++ is.second.0) is.block
          (all-append GotsSome (is.one ++ is.two ++ is.first.0) is.second.0
          (all-append GotsSome (is.one ++ is.two) is.first.0
          (all-append GotsSome is.one is.two (some_by is.one_is (pumps_some s a b))
          (some_by is.two_is (pumps_some (seen s is.one) b a)))
          (some_by first_lines tt)) (some_by second_lines tt))
          (link_some (seen (seen (seen (seen s is.one) is.two) is.first.0) is.second.0) a b
          is.block is.settles)),
      is.left_is ∙ second_left,
    )

carry_all_some : (links : List (PortRef × PortRef)) (noise left : List Edit) (s : Seen)
    (lines : List TraceLine) → noise ≡ [] → CarryAll links noise left s lines
    → (seen s lines).undetected ≡ None → AllGotSome lines × (left ≡ [])
carry_all_some [] noise left s lines none is still = (some_by is.0 tt, is.1 ∙ none)
carry_all_some (link ∷ links) noise left s lines none is still =
    let mid = is.0 in
    let parts = split (IsCarry noise mid s link.0 link.1) (CarryAll links mid left) s lines is.1
    still in
    let own = carry_some noise mid s link.0 link.1 parts.first none parts.own in
    let rest = carry_all_some links mid left (seen s parts.first) parts.rest own.1 parts.more
    (sym (ap (λ (x : Seen). x.undetected) parts.after) ∙ still) in
    (some_by parts.whole (all-append GotsSome parts.first parts.rest own.0 rest.0), rest.1)

-- ---- nodes

collects_some : {s : Seen} {node : ℕ} {lines : List TraceLine} → CollectsAll s node lines
    → AllGotSome lines
collects_some (CollectRests is whole) = some_by whole tt
collects_some (CollectGoes step rest is whole more) = some_by whole (tt, collects_some more)
collects_some (CollectStops is whole) = some_by whole (tt, tt)

collect_nodes_some : (host : ℕ) (devices : List Registers) (node : ℕ) (s : Seen)
    (lines : List TraceLine) → CollectNodes host node devices s lines → AllGotSome lines
collect_nodes_some host [] node s lines is = some_by is tt
collect_nodes_some host (device ∷ devices) node s lines is =
    by_test (is_switch device || (node == host))
    (collect_nodes_some host devices (suc node) s lines)
    (joined_some s (CollectsAll s node) (CollectNodes host (suc node) devices) lines
    (λ first own. collects_some own) (collect_nodes_some host devices (suc node))) is

handles_some : (host : ℕ) (s : Seen) (lines : List TraceLine) → Handles host s lines
    → AllGotSome lines
handles_some host s lines is =
    joined_some s (λ first. ServeNodes 0 s.network.registers s first)
    (λ t rest. CollectNodes host 0 t.network.registers t rest) lines
    (nodes_some s.network.registers 0 s)
    (λ t. collect_nodes_some host t.network.registers 0 t) is

collect_some : (host : ℕ) (s : Seen) (lines : List TraceLine) → IsCollect s.network host lines
    → AllGotSome lines
collect_some host s lines is =
    some_by is.lines (collected_some host
    (collected is.device (face_in s.network (port_of host))))

-- ---- rounds

round_some : (host : ℕ) (noise left : List Edit) (s : Seen) (lines : List TraceLine)
    → noise ≡ [] → AskRound host noise left s lines → (seen s lines).undetected ≡ None
    → AllGotSome lines × (left ≡ [])
round_some host noise left s lines none is still =
    let parts = split (CarryAll s.network.links noise left s) (Handles host) s lines is still in
    let own = carry_all_some s.network.links noise left s parts.first none parts.own parts.still
    in (
      some_by parts.whole (all-append GotsSome parts.first parts.rest own.0
          (handles_some host (seen s parts.first) parts.rest parts.more)),
      own.1,
    )

rounds_some : (host n : ℕ) (noise : List Edit) (s : Seen) (lines : List TraceLine)
    → noise ≡ [] → AskRounds host n noise s lines → (seen s lines).undetected ≡ None
    → AllGotSome lines
rounds_some host zero noise s lines none is still = some_by is tt
rounds_some host (suc k) noise s lines none is still =
    let left = is.0 in
    let parts = split (AskRound host noise left s) (λ t rest. GoesOn host k left t rest) s lines
    is.1 still in
    let own = round_some host noise left s parts.first none parts.own parts.still in
    let t = seen s parts.first in
    some_by parts.whole (all-append GotsSome parts.first parts.rest own.0
    (by_test (holds_some host t) (collect_some host t parts.rest)
    (λ more. rounds_some host k left t parts.rest own.1 more
    (sym (ap (λ (x : Seen). x.undetected) parts.after) ∙ still)) parts.more))

ask_some : (host : ℕ) (request : Request) (noise : List Edit) (s : Seen)
    (lines : List TraceLine) → noise ≡ [] → IsAsk host request noise s lines
    → (seen s lines).undetected ≡ None → AllGotSome lines
ask_some host request noise s lines none is still =
    let parts = split (Asks s host request) (AskRounds host most_rounds noise) s lines is still in
    some_by parts.whole (all-append GotsSome parts.first parts.rest
    (some_by parts.own.lines (takes_some s host parts.own.packet))
    (rounds_some host most_rounds noise (seen s parts.first) parts.rest none parts.more
    (sym (ap (λ (x : Seen). x.undetected) parts.after) ∙ still)))

-- ---- where no edit is given, none is left

unheld_none : (host n : ℕ) (noise left : List Edit) (s : Seen) (lines : List TraceLine)
    → noise ≡ [] → Unheld host n noise left s lines → (seen s lines).undetected ≡ None
    → left ≡ []
unheld_none host zero noise left s lines none is still = is.1 ∙ none
unheld_none host (suc k) noise left s lines none is still =
    let mid = is.0 in
    let parts = split (AskRound host noise mid s)
    (λ t rest. (holds_some host t ≡ false) × Unheld host k mid left t rest) s lines is.1 still in
    let own = round_some host noise mid s parts.first none parts.own parts.still in
    unheld_none host k mid left (seen s parts.first) parts.rest own.1 parts.more.1
    (sym (ap (λ (x : Seen). x.undetected) parts.after) ∙ still)

rounds_none : (host n : ℕ) (noise left : List Edit) (s : Seen) (lines : List TraceLine)
    → noise ≡ [] → RoundsSpend host n noise left s lines → (seen s lines).undetected ≡ None
    → left ≡ []
rounds_none host n noise left s lines none (inl is) still =
    unheld_none host n noise left s lines none is still
rounds_none host n noise left s lines none (inr (made, mid, less, is)) still =
    let parts = split (Unheld host made noise mid s) (LastRound host mid left) s lines is still in
    let t = seen s parts.first in
    let empty = unheld_none host made noise mid s parts.first none parts.own parts.still in
    let last = split (AskRound host mid left t) (HasCollected host) t parts.rest parts.more
    (sym (ap (λ (x : Seen). x.undetected) parts.after) ∙ still) in
    (round_some host mid left t last.first empty last.own last.still).1

ask_none : (host : ℕ) (request : Request) (noise left : List Edit) (s : Seen)
    (lines : List TraceLine) → noise ≡ [] → AskSpends host request noise left s lines
    → (seen s lines).undetected ≡ None → left ≡ []
ask_none host request noise left s lines none is still =
    let parts = split (Asks s host request) (RoundsSpend host most_rounds noise left) s lines is
    still in
    rounds_none host most_rounds noise left (seen s parts.first) parts.rest none parts.more
    (sym (ap (λ (x : Seen). x.undetected) parts.after) ∙ still)

-- ---- all asks

asks_some : {noise : List Edit} → noise ≡ []
    → {host : ℕ} {s : Seen} {tid : ℕ} {lines : List TraceLine} {left : List Edit} {end : Seen}
    {next : ℕ} → Asked noise host s tid lines left end next → AllGotSome lines × (left ≡ [])
asks_some none (AskedNothing is left_is end_is next_is) = (some_by is tt, left_is ∙ none)
asks_some none {host} {left = left} (AskedMore before block mid u number request asked is spends
    still whole end_is next_is) =
    let own = asks_some none asked in (
      some_by whole (all-append GotsSome before block own.0
          (ask_some host request mid u block own.1 is.is still)),
      ask_none host request mid left u block own.1 spends still,
    )
asks_some none (Owns u device asked kind within end_is) = asks_some none asked

pub asked_some : {host : ℕ} {s : Seen} {tid : ℕ} {lines : List TraceLine} {left : List Edit}
    {end : Seen} {next : ℕ} → Asked [] host s tid lines left end next → AllGotSome lines
asked_some asked = (asks_some refl asked).0
