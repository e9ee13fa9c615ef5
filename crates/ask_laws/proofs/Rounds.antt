-- A packet goes on round by round, with fewer hops left, until it comes to an end.
use Rattle.ask_laws.proofs.Prelude.{◌≡◌, ℕ, zero, suc, ◌+◌, ◌<◌, ◌≤◌, Bool, false, List, ◌++◌, Some, None, refl, sym, ap, ◌∙◌, subst, arith, MatchBool, append_assoc, is_request, Registers, PortRef, IsEndpoint, Item, Network, peer_in, port_of, response_at, item_of, moved_item, few_prio, TraceLine, seen, Seen, IsGood, AskRound, AskRounds, holds_some, answered_registers, IsEndpointIn, IsLaid, Handled, Home, Away, Rounded, Waited, Handed, Final, Fell, WasHeard, HasLeft, Held, Waits, IsOnly, IsClear, IsOn, GoesOn, Split, split, HasRun, AskEnded, IsGone, WaitsThere, CameHome}
use Rattle.std.proofs.lemmas.Bool.{ne_eqb}
use Rattle.rio_packets.specs.LinkForm.{Passes}
use Rattle.maint_packets.specs.NextHops.{moved, is_spent}
use Rattle.rio_chars.specs.declared.edit.Edit.{Edit}
use Rattle.fabric_script.specs.Ports.{port_at}
use Rattle.fabric_model.specs.Laws.Leaving.IsAfterMoves.{AsItWas, OnceMore}
use Rattle.fabric_model.proofs.Moving.{moves_on}
use Rattle.fabric_model.proofs.Peers.{peer_back}
use Rattle.fabric_trace.specs.Served.{IsCollect}
use Rattle.fabric_trace.proofs.Parts.Folding.{seen-append}
use Rattle.fabric_ask.proofs.Asking.{holds_it}
use Rattle.fabric_ask.proofs.Losing.{clear_rounds}
use Rattle.fabric_ask.proofs.Lowering.{moves_same}
use Rattle.fabric_ask.proofs.Rounding.{rounded}
use Rattle.fabric_ask.proofs.Uncollected.{made_endpoint}
use Rattle.fabric_ask.proofs.Traveling.{nothing_holds, EndsThere, IsLost, IsThere, GoesFurther, ends_there}
use Rattle.fabric_ask.proofs.Walking.{on_moves}

-- ---- lines before

pub ended_behind : (host : ℕ) (s : Seen) (first rest lines : List TraceLine)
    → lines ≡ first ++ rest → (seen s first).network.links ≡ s.network.links
    → AskEnded host (seen s first) rest → AskEnded host s lines
ended_behind host s first rest lines whole links (IsGone clear) =
    IsGone (subst (λ (x : Seen). IsClear x.network)
    (sym (ap (seen s) whole ∙ seen-append s first rest)) clear)
ended_behind host s first rest lines whole links (WaitsThere p item only none) =
    WaitsThere p item (subst (λ (x : Seen). IsOnly x.network (Waits p) item)
    (sym (ap (seen s) whole ∙ seen-append s first rest)) only)
    (subst (λ (l : List (PortRef × PortRef)). peer_in l p ≡ None) links none)
ended_behind host s first rest lines whole links (CameHome front last item parts only collect) =
    CameHome (first ++ front) last item
    (whole ∙ (ap (λ (l : List TraceLine). first ++ l) parts ∙ sym (append_assoc first front last)))
    (subst (λ (x : Seen). IsOnly x.network (Held (port_of host)) item)
    (sym (seen-append s first front)) only)
    (subst (λ (x : Seen). IsCollect x.network host last) (sym (seen-append s first front)) collect)

-- ---- rounds

-- what is so where rounds begin
pub record Begins (host rounds : ℕ) (noise : List Edit) (regs : List Registers)
    (links : List (PortRef × PortRef)) (s : Seen) (lines : List TraceLine) : Type 0 where
  pub good : IsGood s
  pub none : s.undetected ≡ None
  pub same_regs : s.network.registers ≡ regs
  pub same_links : s.network.links ≡ links
  pub rounds_are : AskRounds host rounds noise s lines
  pub still : (seen s lines).undetected ≡ None

module _ (host : ℕ) (regs : List Registers) (links : List (PortRef × PortRef))
    (laid : IsLaid regs links host) where
  laid_at : (s : Seen) → s.network.registers ≡ regs → s.network.links ≡ links
      → IsLaid s.network.registers s.network.links host
  laid_at s same_regs same_links =
      subst (λ (r : List Registers). IsLaid r s.network.links host) (sym same_regs)
      (subst (λ (l : List (PortRef × PortRef)). IsLaid regs l host) (sym same_links) laid)

  endpoint_at : (s : Seen) → s.network.registers ≡ regs → IsEndpoint s.network host
  endpoint_at s same =
      subst (λ (r : List Registers). IsEndpointIn r host) (sym same) laid.host_is

  -- no packet is left
  gone : (n : ℕ) (noise : List Edit) (s : Seen) (lines : List TraceLine) → IsClear s.network
      → IsGood s → s.undetected ≡ None → IsEndpoint s.network host
      → AskRounds host n noise s lines → (seen s lines).undetected ≡ None
      → AskEnded host s lines
  gone n noise s lines clear good none endpoint rounds still =
      IsGone (subst IsClear (sym (clear_rounds host n noise s lines good none endpoint clear rounds
      still).same) clear)

  -- the rounds behind one in which the host came to hold nothing
  rounds_on : (k : ℕ) (left : List Edit) (t : Seen) (rest : List TraceLine)
      → holds_some host t ≡ false → GoesOn host k left t rest → AskRounds host k left t rest
  rounds_on k left t rest holds more =
      subst (λ (b : Bool). MatchBool b (IsCollect t.network host rest)
      (AskRounds host k left t rest)) holds more

  -- the packet waits at a port without a link
  waits_on : (n : ℕ) (noise : List Edit) (s : Seen) (lines : List TraceLine) (p : PortRef)
      (item : Item) → Begins host n noise regs links s lines → IsOnly s.network (Waits p) item
      → Passes item.now → peer_in s.network.links p ≡ None → AskEnded host s lines
  waits_on zero noise s lines p item begins only passes away =
      WaitsThere p item (subst (λ (l : List TraceLine). IsOnly (seen s l).network (Waits p) item)
      (sym begins.rounds_are) only) away
  waits_on (suc k) noise s lines p item begins only passes away = by run.is
      (λ net_same. ended_behind host s parts.first parts.rest lines parts.whole run.links
      (waits_on k left (seen s parts.first) parts.rest p item
      (record {
        good = run.good;
        none = parts.still;
        same_regs = ap (λ (n : Network). n.registers) net_same ∙ begins.same_regs;
        same_links = run.links ∙ begins.same_links;
        rounds_are = rounds_on k left (seen s parts.first) parts.rest
            (nothing_holds host (seen s parts.first)
            (subst (λ (n : Network). IsOnly n (Waits p) item) (sym net_same) only).received)
            parts.more;
        still = sym (ap (λ (x : Seen). x.undetected) parts.after) ∙ begins.still;
      }) (subst (λ (n : Network). IsOnly n (Waits p) item) (sym net_same) only) passes
      (ap (λ (l : List (PortRef × PortRef)). peer_in l p) run.links ∙ away)))
    where
      left : List Edit
      left = begins.rounds_are.0

      parts : Split (AskRound host noise left s) (λ t rest. GoesOn host k left t rest) s lines
      parts = split (AskRound host noise left s) (λ t rest. GoesOn host k left t rest) s lines
          begins.rounds_are.1 begins.still

      run : HasRun s parts.first (Rounded host s.network p item)
      run = rounded host noise left s parts.first p item begins.good begins.none only passes
          (laid_at s begins.same_regs begins.same_links) parts.own parts.still

      by : Rounded host s.network p item (seen s parts.first).network
          → ((seen s parts.first).network ≡ s.network → AskEnded host s lines)
          → AskEnded host s lines
      by (Waited none same) goes = goes same
      by (Handed q mid peer only2 same links2 handled) goes =
          let back = peer_back s.network.links p q begins.good.proper peer in
          absurd (cc (back, away))

-- What follows where a device has answered: a response waits at its port, and so many rounds are
-- left.
abbrev pub Heard : ℕ → ℕ → Bool → List Registers → List (PortRef × PortRef) → Type 0
Heard host extra wanted regs links = (k : ℕ) (left : List Edit) (t : Seen) (rest : List TraceLine)
    (q p : PortRef) (mid : Network) (packet response : List ℕ) (item : Item) → extra ≤ k
    → IsGood t → t.undetected ≡ None → mid.registers ≡ regs → t.network.links ≡ links
    → peer_in links q ≡ Some p → Passes packet → is_request packet ≡ wanted
    → response_at mid q packet ≡ Some response → item.now ≡ response
    → IsOnly t.network (Waits q) item
    → t.network.registers ≡ answered_registers mid q packet → AskRounds host k left t rest
    → (seen t rest).undetected ≡ None → AskEnded host t rest

-- what moves on is still a request, or is none
moved_asks : (packet : List ℕ) (dest h : ℕ) → IsOn packet dest (suc h)
    → is_request (moved packet) ≡ is_request packet
moved_asks packet dest h on =
    (moves_same packet (moved packet) 1
    (OnceMore AsItWas (moves_on packet on.passes
    (ap is_spent on.hop ∙ ne_eqb (suc h) 0 (λ same. omega arith))).once)).1

module _ (host dest extra : ℕ) (wanted : Bool) (regs : List Registers)
    (links : List (PortRef × PortRef)) (laid : IsLaid regs links host)
    (heard : Heard host extra wanted regs links) where
  module _ (n k : ℕ) (noise left : List Edit) (s : Seen) (lines : List TraceLine) (p : PortRef)
      (item : Item) (enough : n + extra < suc k) (good : IsGood s)
      (same_regs : s.network.registers ≡ regs) (same_links : s.network.links ≡ links)
      (on : IsOn item.now dest n) (asks_is : is_request item.now ≡ wanted)
      (parts : Split (AskRound host noise left s) (λ t rest. GoesOn host k left t rest) s lines)
      (run : HasRun s parts.first (Rounded host s.network p item))
      (behind : (seen (seen s parts.first) parts.rest).undetected ≡ None)
      (stuck : peer_in s.network.links p ≡ None → AskEnded host s lines)
      (again : (h : ℕ) (q : PortRef) → n ≡ suc h
      → IsOnly (seen s parts.first).network (Waits q) (moved_item item)
      → (seen s parts.first).network.registers ≡ regs
      → AskRounds host k left (seen s parts.first) parts.rest
      → AskEnded host (seen s parts.first) parts.rest) where
    abbrev t : Seen
    t = seen s parts.first

    on_now : holds_some host t ≡ false → AskRounds host k left t parts.rest
    on_now holds = rounds_on host regs links laid k left t parts.rest holds parts.more

    finish : AskEnded host t parts.rest → AskEnded host s lines
    finish ended = ended_behind host s parts.first parts.rest lines parts.whole run.links ended

    cleared : IsClear t.network → AskEnded host s lines
    cleared clear =
        finish (gone host regs links laid k left t parts.rest clear run.good parts.still
        (made_endpoint host s parts.first good run.made
        (endpoint_at host regs links laid s same_regs))
        (on_now (nothing_holds host t clear.received)) behind)

    by_final : (q : PortRef) (mid : Network) → mid.registers ≡ regs → peer_in links q ≡ Some p
        → Final mid q item n t.network → AskEnded host s lines
    by_final q mid same peer (Fell none next clear regs_same) = cleared clear
    by_final q mid same peer (HasLeft endpoint other clear regs_same) = cleared clear
    by_final q mid same peer (WasHeard response answer only regs_same) =
        finish (heard k left t parts.rest q p mid item.now response (item_of mid q response)
        (omega (arith, enough)) run.good parts.still same (run.links ∙ same_links) peer on.passes
        asks_is answer refl only regs_same (on_now (nothing_holds host t only.received)) behind)

    by_end : (q : PortRef) (mid : Network) → mid.registers ≡ regs → peer_in links q ≡ Some p
        → EndsThere host dest regs links laid n mid t.network p q item → AskEnded host s lines
    by_end q mid same peer (IsLost none clear) = cleared clear
    by_end q mid same peer (IsThere here all final) = by_final q mid same peer final
    by_end q mid same peer (GoesFurther h to next goes fewer only regs_same) =
        finish (again h (port_at q.node to) next only (regs_same ∙ same)
        (on_now (nothing_holds host t only.received)))

    by_handled : (q : PortRef) (mid : Network) → mid.registers ≡ regs → peer_in links q ≡ Some p
        → peer_in links p ≡ Some q → IsOnly mid (Held q) item → Handled host mid q item t.network
        → AskEnded host s lines
    by_handled q mid same peer back only (Home here end_same) =
        let at_host : q ≡ port_of host =
        laid.ends q p peer (subst (IsEndpointIn regs) (sym here) laid.host_is) ∙ ap port_of here in
        let there : IsOnly t.network (Held (port_of host)) item =
        subst (λ (x : PortRef). IsOnly t.network (Held x) item) at_host
        (subst (λ (m : Network). IsOnly m (Held q) item) (sym end_same) only) in
        CameHome parts.first parts.rest item parts.whole there
        (subst (λ (b : Bool). MatchBool b (IsCollect t.network host parts.rest)
        (AskRounds host k left t parts.rest))
        (holds_it host t item there (few_prio item.now on.passes)) parts.more)
    by_handled q mid same peer back only (Away away becomes) =
        by_end q mid same peer
        (ends_there host dest regs links laid n mid t.network p q item same back on becomes)

    by_round : Rounded host s.network p item t.network → AskEnded host s lines
    by_round (Waited none same) = stuck none
    by_round (Handed q mid peer only same links2 handled) =
        let back = peer_back s.network.links p q good.proper peer in
        by_handled q mid (same.registers ∙ same_regs)
        (ap (λ (l : List (PortRef × PortRef)). peer_in l q) (sym same_links) ∙ peer)
        (ap (λ (l : List (PortRef × PortRef)). peer_in l p) (sym same_links) ∙ back) only handled

    one_round : AskEnded host s lines
    one_round = by_round run.is

  -- A packet that waits with so many hops left, and enough rounds.
  pub goes_on : (n rounds : ℕ) (noise : List Edit) (s : Seen) (lines : List TraceLine) (p : PortRef)
      (item : Item) → n + extra < rounds → Begins host rounds noise regs links s lines
      → IsOnly s.network (Waits p) item → IsOn item.now dest n → is_request item.now ≡ wanted
      → AskEnded host s lines
  goes_on n zero noise s lines p item enough begins only on asks_is = absurd (omega (arith, enough))
  goes_on n (suc k) noise s lines p item enough begins only on asks_is =
      let left = begins.rounds_are.0 in
      let parts = split (AskRound host noise left s) (λ t rest. GoesOn host k left t rest) s lines
      begins.rounds_are.1 begins.still in
      let run = rounded host noise left s parts.first p item begins.good begins.none only on.passes
      (laid_at host regs links laid s begins.same_regs begins.same_links) parts.own parts.still in
      let behind = sym (ap (λ (x : Seen). x.undetected) parts.after) ∙ begins.still in
      one_round n k noise left s lines p item enough begins.good begins.same_regs
      begins.same_links on asks_is parts run behind
      (λ away. waits_on host regs links laid (suc k) noise s lines p item begins only on.passes
      away)
      (λ h q next only2 regs2 rounds.
      goes_on h k left (seen s parts.first) parts.rest q (moved_item item)
      (omega (arith, enough, next)) (record {
        good = run.good;
        none = parts.still;
        same_regs = regs2;
        same_links = run.links ∙ begins.same_links;
        rounds_are = rounds;
        still = behind;
      }) only2 (on_moves item.now dest h (subst (IsOn item.now dest) next on))
      (moved_asks item.now dest h (subst (IsOn item.now dest) next on) ∙ asks_is))
