-- A maintenance packet comes where its walk by the tables ends.
use Rattle.fabric_ask.proofs.Prelude.{◌≡◌, ◌≢◌, ℕ, zero, suc, ◌<◌, nat_lt, Bool, true, false, List, [], ◌∷◌, ◌++◌, length, Option, Some, None, option_map, slice_get, slice_index_or, refl, sym, ap, ◌∙◌, subst, arith, inl, inr, if◌then◌else◌, MatchBool, append_assoc, option_and_then, ne_eqb, is_request, Registers, is_switch, new_endpoint, next_port, Nowhere, RegisterUnit, Port, to_port, moved, is_spent, Edit, PortRef, port_at, Topology, AllRegisters, walk, Item, Network, port_of, peer_in, in_turn, moved_item, IsAfterMoves, MovesTo, AsItWas, OnceMore, moves_on, sent_by, peer_back, some_is, seen, Seen, TraceLine, IsCollect, seen-append, IsGood, made-append, Held, Waits, IsOnly, IsClear, AskRound, holds_some, AskRounds, ports_of_switch, topology_of, registers_of, hops_left, CollectsNothing, IsOn, GoesOn, HasCome}
use Rattle.fabric_ask.specs.Course.{HandledAs, Moves, Falls, IsHeard, GoesOut, IsEndpointIn, IsLaid, Handled, Home, Away, Rounded, Waited, Handed, Final, Fell, WasHeard, HasLeft, FinalAt, AtHost, NotHost}
use Rattle.fabric_ask.proofs.Uncollected.{never-append, round_apart}
use Rattle.fabric_ask.proofs.Crossing.{Split, split, HasRun}
use Rattle.fabric_ask.proofs.Handling.{NoneHeld}
use Rattle.fabric_ask.proofs.Rounding.{rounded}
use Rattle.fabric_ask.proofs.Walking.{next_ends, next_goes, on_moves, walk_endpoint, walk_switch, walk_none, left_endpoint, left_switch}

-- ---- rounds

pub nothing_holds : (host : ℕ) (t : Seen) → NoneHeld t.network → holds_some host t ≡ false
nothing_holds host t none =
    let p = port_of host in
    let empty : in_turn (t.network.received p) ≡ [] =
    λ i. none p 3 i ++ (none p 2 i ++ (none p 1 i ++ none p 0 i)) in
    ap (λ (l : List Item). nat_lt 0 (length l)) empty

-- one round more before
arrival_behind : (host rounds dest h left : ℕ) (s : Seen) (first rest lines : List TraceLine)
    (at : PortRef) (item : Item) → lines ≡ first ++ rest
    → HasRun s first (λ n. n.registers ≡ s.network.registers) → CollectsNothing host first
    → IsOn item.now dest (suc h)
    → HasCome host rounds dest h left (seen s first) rest at (moved_item item)
    → HasCome host (suc rounds) dest (suc h) left s lines at item
arrival_behind host rounds dest h left s first rest lines at item whole run nothing on a =
    let joined = seen-append s first a.front in
    record {
      front = first ++ a.front;
      rest = a.rest;
      whole = whole ∙ ap (λ (l : List TraceLine). first ++ l) a.whole
          ∙ sym (append_assoc first a.front a.rest);
      made = made-append run.made a.made;
      nothing = never-append host first a.front nothing a.nothing;
      still = ap (λ (x : Seen). x.undetected) joined ∙ a.still;
      links = ap (λ (x : Seen). x.network.links) joined ∙ a.links ∙ run.links;
      passed = a.passed;
      moves = suc a.moves;
      on = a.on;
      same_packet = after_one item.now (moved item.now) a.passed.now a.moves once a.same_packet;
      hops_are = (let before = a.hops_are in omega (arith, before));
      mid = a.mid;
      registers = a.registers ∙ run.is;
      final = subst (λ (x : Seen). FinalAt host a.mid at a.passed left x.network)
          (sym joined) a.final;
      rounds_left = a.rounds_left;
      noise_left = a.noise_left;
      enough = (let before = a.enough in omega (arith, before));
      more = subst (λ (x : Seen). GoesOn host a.rounds_left a.noise_left x a.rest) (sym joined)
          a.more;
    }
  where
    once : MovesTo item.now (moved item.now)
    once = (moves_on item.now on.passes
        (ap is_spent on.hop ∙ ne_eqb (suc h) 0 (λ same. omega arith))).once

    after_one : (old mid new : List ℕ) (n : ℕ) → MovesTo old mid → IsAfterMoves mid n new
        → IsAfterMoves old (suc n) new
    after_one old mid new zero one AsItWas = OnceMore AsItWas one
    after_one old mid new (suc n) one (OnceMore before last) =
        OnceMore (after_one old mid _ n one before) last

module _ (host dest : ℕ) (regs : List Registers) (links : List (PortRef × PortRef))
    (laid : IsLaid regs links host) where
  abbrev topo : Topology
  topo = topology_of regs links host

  abbrev table : AllRegisters
  table = registers_of regs

  kind_switch : (n : ℕ) (device : Registers) → slice_get regs n ≡ Some device
      → is_switch device ≡ true
      → topo.switch_ports n ≡ Some device.ports
  kind_switch n device stands kind = ap (option_and_then ports_of_switch) stands
      ∙ ap (λ b. if b then Some device.ports else None) kind

  pub kind_endpoint : (n : ℕ) → IsEndpointIn regs n → topo.switch_ports n ≡ None
  kind_endpoint n endpoint = by_device (slice_get regs n) refl endpoint
    where
      by_device : (o : Option Registers) → slice_get regs n ≡ o
          → option_map is_switch o ≡ Some false
          → option_and_then ports_of_switch (slice_get regs n) ≡ None
      by_device None stands is = absurd cc
      by_device (Some device) stands is =
          let other : is_switch device ≡ false = cc in
          ap (option_and_then ports_of_switch) stands
          ∙ ap (λ b. if b then Some device.ports else None) other

  pub table_is : (n : ℕ) (device : Registers) → slice_get regs n ≡ Some device → table n ≡ device
  table_is n device stands = index_is regs n device stands
    where
      index_is : (l : List Registers) (n : ℕ) (device : Registers) → slice_get l n ≡ Some device
          → slice_index_or l n (new_endpoint 0 false) ≡ device
      index_is [] n device stands = absurd cc
      index_is (x ∷ l) zero device stands = cc
      index_is (x ∷ l) (suc n) device stands = index_is l n device stands

  -- What becomes of the packet, by its walk: nothing is left where it ends nowhere, and but for its
  -- moving on it is at the end of its walk.
  pub data EndsThere (n : ℕ) (mid end : Network) (p q : PortRef) (item : Item) : Type 0 where
    IsLost : walk topo table dest n p ≡ None → IsClear end → EndsThere n mid end p q item
    IsThere : walk topo table dest n p ≡ Some q → hops_left topo table dest n p ≡ n
        → Final mid q item n end → EndsThere n mid end p q item
    GoesFurther : (h to : ℕ) → n ≡ suc h
        → walk topo table dest n p ≡ walk topo table dest h (port_at q.node to)
        → hops_left topo table dest n p ≡ hops_left topo table dest h (port_at q.node to)
        → IsOnly end (Waits (port_at q.node to)) (moved_item item)
        → end.registers ≡ mid.registers → EndsThere n mid end p q item

  pub ends_there : (n : ℕ) (mid end : Network) (p q : PortRef) (item : Item) → mid.registers ≡ regs
      → topo.peer p ≡ Some q → IsOn item.now dest n → HandledAs mid q item end
      → EndsThere n mid end p q item
  ends_there n mid end p q item same peer on (GoesOut endpoint other clear regs_same) =
      let kind = kind_endpoint q.node (subst (λ r. IsEndpointIn r q.node) same endpoint) in
      IsThere (walk_endpoint topo table dest n p q peer kind)
      (left_endpoint topo table dest n p q peer kind) (HasLeft endpoint other clear regs_same)
  ends_there zero mid end p q item same peer on (Moves to next only regs_same) =
      let sent = sent_by mid q.node item.now (Port to) next in
      absurd (not_port (is_request item.now) to (sym (next_ends sent.device item.now dest on)
      ∙ sent.sends))
    where
      not_port : (asks : Bool) (to : ℕ) → (if asks then RegisterUnit else Nowhere) ≡ Port to → ⊥
      not_port true to is = absurd cc
      not_port false to is = absurd cc
  ends_there (suc h) mid end p q item same peer on (Moves to next only regs_same) =
      let sent = sent_by mid q.node item.now (Port to) next in
      let known : slice_get regs q.node ≡ Some sent.device =
      subst (λ r. slice_get r q.node ≡ Some sent.device) same sent.known in
      let named : to_port (next_port sent.device dest) ≡ Port to =
      sym (next_goes sent.device item.now dest h on) ∙ sent.sends in
      let port = port_is (next_port sent.device dest) to named in
      let kind = kind_switch q.node sent.device known sent.switch in
      let next : next_port (table q.node) dest ≡ Some to =
      ap (λ d. next_port d dest) (table_is q.node sent.device known) ∙ port in
      GoesFurther h to refl
      (walk_switch topo table dest h sent.device.ports p q peer kind
      ∙ ap (option_and_then (λ port. walk topo table dest h (port_at q.node port))) next)
      (left_switch topo table dest h sent.device.ports to p q peer kind next) only regs_same
    where
      port_is : (o : Option ℕ) (to : ℕ) → to_port o ≡ Port to → o ≡ Some to
      port_is None to is = absurd cc
      port_is (Some x) to is = let same : x ≡ to = cc in ap Some same
  ends_there zero mid end p q item same peer on (Falls next clear regs_same) =
      IsThere peer refl (Fell refl next clear regs_same)
  ends_there (suc h) mid end p q item same peer on (Falls next clear regs_same) =
      let sent = sent_by mid q.node item.now Nowhere next in
      let known : slice_get regs q.node ≡ Some sent.device =
      subst (λ r. slice_get r q.node ≡ Some sent.device) same sent.known in
      let named : to_port (next_port sent.device dest) ≡ Nowhere =
      sym (next_goes sent.device item.now dest h on) ∙ sent.sends in
      let port = none_is (next_port sent.device dest) named in
      IsLost
      (walk_switch topo table dest h sent.device.ports p q peer
      (kind_switch q.node sent.device known sent.switch)
      ∙ ap (option_and_then (λ port. walk topo table dest h (port_at q.node port)))
      (ap (λ d. next_port d dest) (table_is q.node sent.device known) ∙ port)) clear
    where
      none_is : (o : Option ℕ) → to_port o ≡ Nowhere → o ≡ None
      none_is None is = refl
      none_is (Some x) is = absurd cc
  ends_there zero mid end p q item same peer on (IsHeard response own answer only regs_same) =
      IsThere peer refl (WasHeard response answer only regs_same)
  ends_there (suc h) mid end p q item same peer on
      (IsHeard response (inl endpoint) answer only regs_same) =
      let kind = kind_endpoint q.node (subst (λ r. IsEndpointIn r q.node) same endpoint) in
      IsThere (walk_endpoint topo table dest (suc h) p q peer kind)
      (left_endpoint topo table dest (suc h) p q peer kind)
      (WasHeard response answer only regs_same)
  ends_there (suc h) mid end p q item same peer on
      (IsHeard response (inr next) answer only regs_same) =
      let sent = sent_by mid q.node item.now RegisterUnit next in
      let named : to_port (next_port sent.device dest) ≡ RegisterUnit =
      sym (next_goes sent.device item.now dest h on) ∙ sent.sends in
      absurd (not_unit (next_port sent.device dest) named)
    where
      not_unit : (o : Option ℕ) → to_port o ≡ RegisterUnit → ⊥
      not_unit None is = absurd cc
      not_unit (Some x) is = absurd cc

  -- it has come to a port in this round
  arrival_here : (n k : ℕ) (left : List Edit) (s : Seen) (first rest lines : List TraceLine)
      (q at : PortRef) (item : Item) (mid : Network) → lines ≡ first ++ rest
      → {Is : Network → Type 0} → HasRun s first Is → CollectsNothing host first
      → (seen s first).undetected ≡ None
      → IsOn item.now dest n → mid.registers ≡ s.network.registers
      → FinalAt host mid q item n (seen s first).network
      → GoesOn host k left (seen s first) rest → q ≡ at
      → HasCome host (suc k) dest n n s lines at item
  arrival_here n k left s first rest lines q at item mid whole run nothing still on same handled
      more here =
      record {
        front = first;
        rest = rest;
        whole = whole;
        made = run.made;
        nothing = nothing;
        still = still;
        links = run.links;
        passed = item;
        moves = 0;
        on = on;
        same_packet = AsItWas;
        hops_are = omega arith;
        mid = mid;
        registers = same;
        final = subst (λ x. FinalAt host mid x item n (seen s first).network) here handled;
        rounds_left = k;
        noise_left = left;
        enough = omega arith;
        more = more;
      }

  module _ (n k : ℕ) (noise left : List Edit) (s : Seen) (lines : List TraceLine) (p at : PortRef)
      (item : Item) (good : IsGood s) (none : s.undetected ≡ None)
      (same_regs : s.network.registers ≡ regs)
      (same_links : s.network.links ≡ links)
      (on : IsOn item.now dest n) (ends : walk topo table dest n p ≡ Some at)
      (parts : Split (AskRound host noise left s) (λ t rest. GoesOn host k left t rest) s lines)
      (run : HasRun s parts.first (Rounded host s.network p item))
      (again : (h to : ℕ) (q : PortRef) → n ≡ suc h
      → IsOnly (seen s parts.first).network (Waits (port_at q.node to)) (moved_item item)
      → (seen s parts.first).network.registers ≡ regs
      → walk topo table dest h (port_at q.node to) ≡ Some at
      → AskRounds host k left (seen s parts.first) parts.rest
      → HasCome host k dest h (hops_left topo table dest h (port_at q.node to))
      (seen s parts.first) parts.rest at (moved_item item)) where
    abbrev t : Seen
    t = seen s parts.first

    nothing : CollectsNothing host parts.first
    nothing = (round_apart host noise left s parts.first good none
        (subst (λ r. IsEndpointIn r host) (sym same_regs) laid.host_is) parts.own).nothing

    none_some : (o : Option PortRef) → o ≡ None → o ≡ Some at → ⊥
    none_some o none some = let bad : None ≡ Some at = sym none ∙ some in absurd cc

    by_end : (q : PortRef) (mid : Network) → mid.registers ≡ regs → topo.peer p ≡ Some q
        → q.node ≢ host → EndsThere n mid t.network p q item
        → HasCome host (suc k) dest n (hops_left topo table dest n p) s lines at item
    by_end q mid same peer away (IsLost none clear) =
        absurd (none_some (walk topo table dest n p) none ends)
    by_end q mid same peer away (IsThere here all final) =
        subst (λ m. HasCome host (suc k) dest n m s lines at item) (sym all)
        (arrival_here n k left s parts.first parts.rest lines q at item mid parts.whole run
        nothing parts.still on (same ∙ sym same_regs) (NotHost away final) parts.more
        (some_is (walk topo table dest n p) q at here ends))
    by_end q mid same peer away (GoesFurther h to next goes fewer only regs_same) =
        let rounds : AskRounds host k left t parts.rest =
        subst (λ b. MatchBool b (IsCollect t.network host parts.rest)
        (AskRounds host k left t parts.rest)) (nothing_holds host t only.received) parts.more in
        let a = again h to q next only (regs_same ∙ same) (sym goes ∙ ends) rounds in
        subst (λ m. HasCome host (suc k) dest n m s lines at item) (sym fewer)
        (subst (λ m. HasCome host (suc k) dest m (hops_left topo table dest h (port_at q.node to))
        s lines at item) (sym next)
        (arrival_behind host k dest h (hops_left topo table dest h (port_at q.node to)) s
        parts.first parts.rest lines at item parts.whole
        (record {
          made = run.made;
          good = run.good;
          links = run.links;
          is = regs_same ∙ same
              ∙ sym same_regs;
        }) nothing (subst (IsOn item.now dest) next on) a))

    by_handled : (q : PortRef) (mid : Network) → mid.registers ≡ regs → topo.peer p ≡ Some q
        → IsOnly mid (Held q) item → Handled host mid q item t.network
        → HasCome host (suc k) dest n (hops_left topo table dest n p) s lines at item
    by_handled q mid same peer only (Home here end_same) =
        let kind = kind_endpoint q.node (subst (IsEndpointIn regs) (sym here) laid.host_is) in
        let ended = walk_endpoint topo table dest n p q peer kind in
        subst (λ m. HasCome host (suc k) dest n m s lines at item)
        (sym (left_endpoint topo table dest n p q peer kind))
        (arrival_here n k left s parts.first parts.rest lines q at item mid parts.whole run
        nothing parts.still on (same ∙ sym same_regs)
        (AtHost here (subst (λ m. IsOnly m (Held q) item) (sym end_same) only)
        (ap (λ (m : Network). m.registers) end_same)) parts.more
        (some_is (walk topo table dest n p) q at ended ends))
    by_handled q mid same peer only (Away away becomes) =
        by_end q mid same peer away
        (ends_there n mid t.network p q item same peer on becomes)

    by_round : Rounded host s.network p item t.network
        → HasCome host (suc k) dest n (hops_left topo table dest n p) s lines at item
    by_round (Waited none end_same) =
        absurd (none_some (walk topo table dest n p)
        (walk_none topo table dest n p (subst (λ l. peer_in l p ≡ None) same_links none)) ends)
    by_round (Handed q mid peer only2 same links2 handled) =
        let back = peer_back s.network.links p q good.proper peer in
        by_handled q mid (same.registers ∙ same_regs)
        (subst (λ l. peer_in l p ≡ Some q) same_links back) only2 handled

    one_round : HasCome host (suc k) dest n (hops_left topo table dest n p) s lines at item
    one_round = by_round run.is

  -- The packet comes where its walk ends.
  pub travels : (n rounds : ℕ) (noise : List Edit) (s : Seen) (lines : List TraceLine)
      (p at : PortRef) (item : Item) → n < rounds → IsGood s → s.undetected ≡ None
      → s.network.registers ≡ regs → s.network.links ≡ links
      → IsOnly s.network (Waits p) item → IsOn item.now dest n → walk topo table dest n p ≡ Some at
      → AskRounds host rounds noise s lines → (seen s lines).undetected ≡ None
      → HasCome host rounds dest n (hops_left topo table dest n p) s lines at item
  travels n zero noise s lines p at item below good none same_regs same_links only on ends asks
      still = absurd (omega arith)
  travels n (suc k) noise s lines p at item below good none same_regs same_links only on ends asks
      still =
      let left = asks.0 in
      let parts = split (AskRound host noise left s) (λ t rest. GoesOn host k left t rest) s lines
      asks.1 still in
      let laid_here = subst (λ r. IsLaid r s.network.links host) (sym same_regs)
      (subst (λ l. IsLaid regs l host) (sym same_links) laid) in
      let run = rounded host noise left s parts.first p item good none only on.passes laid_here
      parts.own parts.still in
      one_round n k noise left s lines p at item good none same_regs same_links on ends parts run
      (λ h to q next only2 same2 ends2 rounds.
      travels h k left (seen s parts.first) parts.rest (port_at q.node to) at (moved_item item)
      (omega (arith, below, next)) run.good parts.still same2 (run.links ∙ same_links) only2
      (on_moves item.now dest h (subst (IsOn item.now dest) next on)) ends2 rounds
      (sym (ap (λ (x : Seen). x.undetected) parts.after) ∙ still))
