-- A packet whose walk ends nowhere comes to no host.
use Rattle.fabric_ask.proofs.Prelude.{◌≡◌, ℕ, zero, suc, false, List, ◌++◌, Option, Some, None, refl, sym, ap, ◌∙◌, subst, MatchBool, append-nil, Registers, Edit, PortRef, port_at, walk, Item, Network, peer_in, IsEndpoint, moved_item, peer_back, seen, Seen, TraceLine, IsCollect, IsGood, made_by, all_found, Waits, IsOnly, IsClear, IsEndpointIn, IsLaid, Handled, Home, Away, Rounded, Waited, Handed, CarryAll, Handles, AskRound, holds_some, AskRounds, topology_of, registers_of, IsOn, GoesOn, CollectsNothing}
use Rattle.fabric_ask.proofs.Crossing.{Split, split, HasRun, clear_stays}
use Rattle.fabric_ask.proofs.Handling.{run_of}
use Rattle.fabric_ask.proofs.Rounding.{handles_nothing, rounded}
use Rattle.fabric_ask.proofs.Uncollected.{never-append, never_by, never_none, made_endpoint, round_apart}
use Rattle.fabric_ask.proofs.Walking.{walk_endpoint, on_moves}
use Rattle.fabric_ask.proofs.Traveling.{nothing_holds, kind_endpoint, EndsThere, IsLost, IsThere, GoesFurther, ends_there}

-- a round in which there is no packet
clear_round : (host : ℕ) (noise left : List Edit) (s : Seen) (lines : List TraceLine) → IsGood s
    → s.undetected ≡ None → IsClear s.network → AskRound host noise left s lines
    → (seen s lines).undetected ≡ None → HasRun s lines (λ net. net ≡ s.network)
clear_round host noise left s lines good none clear round still =
    let parts = split (CarryAll s.network.links noise left s) (Handles host) s lines round still in
    let run = clear_stays s.network.links s.network.links noise left s parts.first good none refl
    (all_found s.network.links good.proper) clear parts.own parts.still in
    let t = seen s parts.first in
    let rest = handles_nothing host t parts.rest run.good
    (λ q r. ap (λ (n : Network). n.received q r) run.is ∙ clear.received q r) parts.more
    (sym (ap (λ (x : Seen). x.undetected) parts.after) ∙ still) in
    let whole : lines ≡ parts.first = parts.whole ∙ ap (λ (l : List TraceLine). parts.first ++ l)
    rest ∙ append-nil parts.first in
    run_of s lines (λ net. net ≡ s.network) good (made_by whole run.made)
    (ap (λ (l : List TraceLine). (seen s l).network) whole ∙ run.is)

-- In rounds in which there is no packet nothing changes, and the host collects nothing.
pub record StaysClear (host : ℕ) (s : Seen) (lines : List TraceLine) : Type 0 where
  pub same : (seen s lines).network ≡ s.network
  pub nothing : CollectsNothing host lines

pub clear_rounds : (host n : ℕ) (noise : List Edit) (s : Seen) (lines : List TraceLine) → IsGood s
    → s.undetected ≡ None → IsEndpoint s.network host → IsClear s.network
    → AskRounds host n noise s lines → (seen s lines).undetected ≡ None → StaysClear host s lines
clear_rounds host zero noise s lines good none is clear asks still = record {
  same = ap (λ (l : List TraceLine). (seen s l).network) asks;
  nothing = never_none host lines asks;
}
clear_rounds host (suc k) noise s lines good none is clear asks still =
    let left = asks.0 in
    let parts = split (AskRound host noise left s) (λ t rest. GoesOn host k left t rest) s lines
    asks.1 still in
    let run = clear_round host noise left s parts.first good none clear parts.own parts.still in
    let t = seen s parts.first in
    let there : IsClear t.network = subst IsClear (sym run.is) clear in
    let rounds : AskRounds host k left t parts.rest =
    subst (λ b. MatchBool b (IsCollect t.network host parts.rest)
    (AskRounds host k left t parts.rest)) (nothing_holds host t there.received) parts.more in
    let endpoint : IsEndpoint t.network host =
    subst (λ (n : Network). IsEndpoint n host) (sym run.is) is in
    let more = clear_rounds host k left t parts.rest run.good parts.still endpoint there rounds
    (sym (ap (λ (x : Seen). x.undetected) parts.after) ∙ still) in
    record {
      same = ap (λ (x : Seen). x.network) parts.after ∙ more.same ∙ run.is;
      nothing = never_by host parts.whole (never-append host parts.first parts.rest
          (round_apart host noise left s parts.first good none is parts.own).nothing
          more.nothing);
    }

module _ (host dest : ℕ) (regs : List Registers) (links : List (PortRef × PortRef))
    (laid : IsLaid regs links host) where
  -- what a round makes of a packet whose walk ends nowhere
  pub data Loses (n : ℕ) (s t : Seen) (p : PortRef) (item : Item) : Type 0 where
    Waits_on : peer_in s.network.links p ≡ None → t.network ≡ s.network → Loses n s t p item
    IsGone : IsClear t.network → Loses n s t p item
    GoesOn_as : (h : ℕ) (q : PortRef) → n ≡ suc h → IsOnly t.network (Waits q) (moved_item item)
        → t.network.registers ≡ regs
        → walk (topology_of regs links host) (registers_of regs) dest h q ≡ None
        → Loses n s t p item

  by_rounded : (n : ℕ) (s t : Seen) (p : PortRef) (item : Item) → IsGood s
      → s.network.registers ≡ regs → s.network.links ≡ links → IsOn item.now dest n
      → walk (topology_of regs links host) (registers_of regs) dest n p ≡ None
      → Rounded host s.network p item t.network → Loses n s t p item
  by_rounded n s t p item good same_regs same_links on ends (Waited none end_same) =
      Waits_on none end_same
  by_rounded n s t p item good same_regs same_links on ends
      (Handed q mid peer only same links2 handled) = by_handled handled
    where
      there : (topology_of regs links host).peer p ≡ Some q
      there = subst (λ l. peer_in l p ≡ Some q) same_links
          (peer_back s.network.links p q good.proper peer)

      mid_regs : mid.registers ≡ regs
      mid_regs = same.registers ∙ same_regs

      none_some : (o : Option PortRef) (x : PortRef) → o ≡ None → o ≡ Some x → ⊥
      none_some o x none some = let bad : None ≡ Some x = sym none ∙ some in absurd cc

      by_end : EndsThere host dest regs links laid n mid t.network p q item → Loses n s t p item
      by_end (IsLost none clear) = IsGone clear
      by_end (IsThere here all final) = absurd (none_some _ q ends here)
      by_end (GoesFurther h to next goes fewer only2 regs_same) =
          GoesOn_as h (port_at q.node to) next only2 (regs_same ∙ mid_regs) (sym goes ∙ ends)

      by_handled : Handled host mid q item t.network → Loses n s t p item
      by_handled (Home here end_same) =
          absurd (none_some _ q ends (walk_endpoint (topology_of regs links host)
          (registers_of regs) dest n p q there
          (kind_endpoint host dest regs links laid q.node
          (subst (IsEndpointIn regs) (sym here) laid.host_is))))
      by_handled (Away away becomes) = by_end
          (ends_there host dest regs links laid n mid t.network p q item mid_regs there on becomes)

  -- The packet never comes to the host.
  pub never_comes : (n rounds : ℕ) (noise : List Edit) (s : Seen) (lines : List TraceLine)
      (p : PortRef) (item : Item) → IsGood s → s.undetected ≡ None → s.network.registers ≡ regs
      → s.network.links ≡ links
      → IsOnly s.network (Waits p) item → IsOn item.now dest n
      → walk (topology_of regs links host) (registers_of regs) dest n p ≡ None
      → AskRounds host rounds noise s lines → (seen s lines).undetected ≡ None
      → CollectsNothing host lines
  never_comes n zero noise s lines p item good none same_regs same_links only on ends asks still =
      never_none host lines asks
  never_comes n (suc k) noise s lines p item good none same_regs same_links only on ends asks
      still = by_loss (by_rounded n s (seen s parts.first) p item good same_regs same_links on ends
      run.is)
      (λ m q item2 only2 regs2 on2 ends2 rounds. never_comes m k asks.0 (seen s parts.first)
      parts.rest q item2 run.good parts.still regs2 (run.links ∙ same_links) only2 on2 ends2
      rounds behind)
    where
      parts : Split (AskRound host noise asks.0 s) (λ t rest. GoesOn host k asks.0 t rest) s lines
      parts = split (AskRound host noise asks.0 s) (λ t rest. GoesOn host k asks.0 t rest) s lines
          asks.1 still

      run : HasRun s parts.first (Rounded host s.network p item)
      run = rounded host noise asks.0 s parts.first p item good none only on.passes
          (subst (λ r. IsLaid r s.network.links host) (sym same_regs)
          (subst (λ l. IsLaid regs l host) (sym same_links) laid)) parts.own parts.still

      behind : (seen (seen s parts.first) parts.rest).undetected ≡ None
      behind = sym (ap (λ (x : Seen). x.undetected) parts.after) ∙ still

      more : holds_some host (seen s parts.first) ≡ false
          → AskRounds host k asks.0 (seen s parts.first)
          parts.rest
      more is = subst (λ b. MatchBool b (IsCollect (seen s parts.first).network host parts.rest)
          (AskRounds host k asks.0 (seen s parts.first) parts.rest)) is parts.more

      endpoint : IsEndpoint s.network host
      endpoint = subst (λ r. IsEndpointIn r host) (sym same_regs) laid.host_is

      finish : CollectsNothing host parts.rest → CollectsNothing host lines
      finish rest = never_by host parts.whole (never-append host parts.first parts.rest
          (round_apart host noise asks.0 s parts.first good none endpoint parts.own).nothing rest)

      by_loss : Loses n s (seen s parts.first) p item
          → ((m : ℕ) (q : PortRef) (item2 : Item) → IsOnly (seen s parts.first).network (Waits q)
          item2 → (seen s parts.first).network.registers ≡ regs → IsOn item2.now dest m
          → walk (topology_of regs links host) (registers_of regs) dest m q ≡ None
          → AskRounds host k asks.0 (seen s parts.first) parts.rest
          → CollectsNothing host parts.rest) → CollectsNothing host lines
      by_loss (Waits_on none2 end_same) again =
          let only2 = subst (λ m. IsOnly m (Waits p) item) (sym end_same) only in
          finish (again n p item only2 (ap (λ (m : Network). m.registers) end_same ∙ same_regs) on
          ends (more (nothing_holds host (seen s parts.first) only2.received)))
      by_loss (IsGone clear) again =
          let rounds = more (nothing_holds host (seen s parts.first) clear.received) in
          finish (clear_rounds host k asks.0 (seen s parts.first) parts.rest run.good parts.still
          (made_endpoint host s parts.first good run.made endpoint) clear rounds behind).nothing
      by_loss (GoesOn_as h q next only2 regs2 ends2) again =
          finish (again h q (moved_item item) only2 regs2
          (on_moves item.now dest h (subst (IsOn item.now dest) next on)) ends2
          (more (nothing_holds host (seen s parts.first) only2.received)))
