-- One round and the one packet.
use Rattle.fabric_ask.proofs.Prelude.{◌≡◌, ◌≢◌, ℕ, ◌==◌, Bool, true, false, List, [], ◌++◌, Option, Some, None, option_map, slice_get, refl, sym, ap, ◌∙◌, subst, arith, append-nil, eqb-true, eq-eqb, Passes, Registers, is_switch, Edit, PortRef, Item, Network, peer_in, few_prio, seen, Seen, TraceLine, Made, Done, ServeNodes, IsGood, made-append, made_by, all_found, Held, Waits, IsOnly, IsDevicePort, HandledAs, IsEndpointIn, IsLaid, Handled, Home, Away, Rounded, Waited, Handed, CarryAll, CollectNodes, Handles, AskRound}
use Rattle.fabric_ask.proofs.Crossing.{Split, split, HasRun, away_alone, Ran, Reached, Stuck, waits_run}
use Rattle.fabric_ask.proofs.Handling.{NoneHeld, none_held, run_of, serve_switch, serve_endpoint, serve_nothing}
use Rattle.fabric_ask.proofs.Collecting.{collects_none, collects_other, collect_quiet, collect_endpoint}

-- two runs of lines, one behind the other
run_then : (s : Seen) (first rest lines : List TraceLine) (Is : Network → Type 0)
    → lines ≡ first ++ rest → Made s first → HasRun (seen s first) rest Is
    → (seen (seen s first) rest).network ≡ (seen s lines).network → IsGood s → HasRun s lines Is
run_then s first rest lines Is whole made run same good =
    run_of s lines Is good (made_by whole (made-append made run.made)) (subst Is same run.is)

-- ---- behind the links

clash : (registers : List Registers) (n m : ℕ) (device : Registers)
    → slice_get registers n ≡ Some device
    → is_switch device ≡ true → IsEndpointIn registers m → n ≡ m → ⊥
clash registers n m device stands kind endpoint same =
    let other : Some (is_switch device) ≡ Some false = sym (ap (option_map is_switch) stands)
    ∙ ap (λ k. option_map is_switch (slice_get registers k)) same ∙ endpoint in
    let both : true ≡ false = (let it : is_switch device ≡ false = cc in sym kind ∙ it) in
    absurd cc

module _ (host : ℕ) (s : Seen) (lines : List TraceLine) (q p : PortRef) (item : Item)
    (good : IsGood s) (none : s.undetected ≡ None) (only : IsOnly s.network (Held q) item)
    (passes : Passes item.now)
    (laid : IsLaid s.network.registers s.network.links host)
    (peer : peer_in s.network.links q ≡ Some p) (still : (seen s lines).undetected ≡ None)
    (parts : Split (λ first. ServeNodes 0 s.network.registers s first)
    (λ t rest. CollectNodes host 0 t.network.registers t rest) s lines) where
  by_switch : (port : IsDevicePort s.network.registers q) → is_switch port.device ≡ true
      → HasRun s lines (Handled host s.network q item)
  by_switch port kind =
      let own = serve_switch q.node s.network.registers 0 s parts.first q item port.device
      port.stands kind (omega arith) good only passes port parts.own parts.still in
      let t = seen s parts.first in
      let rest = collect_quiet host t.network.registers 0 t parts.rest
      (λ node more above apart. collects_none t node more own.good
      (none_held s.network t.network q item own.is)) parts.more
      (sym (ap (λ (x : Seen). x.undetected) parts.after) ∙ still) in
      let whole : lines ≡ parts.first = parts.whole ∙ ap (λ (l : List TraceLine). parts.first ++ l)
      rest ∙ append-nil parts.first in
      let away : q.node ≢ host = λ same. clash s.network.registers q.node host port.device
      port.stands kind laid.host_is same in
      run_of s lines (Handled host s.network q item) good (made_by whole own.made)
      (Away away (subst (λ l. HandledAs s.network q item (seen s l).network) (sym whole) own.is))

  by_endpoint : (port : IsDevicePort s.network.registers q) → is_switch port.device ≡ false
      → HasRun s lines (Handled host s.network q item)
  by_endpoint port kind = by_host (q.node == host) refl
    where
      endpoint : IsEndpointIn s.network.registers q.node
      endpoint = ap (option_map is_switch) port.stands ∙ ap Some kind

      first_none : parts.first ≡ []
      first_none = serve_endpoint s.network.registers s parts.first q item good only endpoint
          parts.own parts.still

      there : seen s parts.first ≡ s
      there = ap (seen s) first_none

      lines_are : lines ≡ parts.rest
      lines_are = parts.whole ∙ ap (λ (l : List TraceLine). l ++ parts.rest) first_none

      more : CollectNodes host 0 s.network.registers s parts.rest
      more = subst (λ (x : Seen). CollectNodes host 0 x.network.registers x parts.rest) there
          parts.more

      behind : (seen s parts.rest).undetected ≡ None
      behind = ap (λ (l : List TraceLine). (seen s l).undetected) (sym lines_are) ∙ still

      by_host : (own : Bool) → (q.node == host) ≡ own
          → HasRun s lines (Handled host s.network q item)
      by_host true own =
          let same : q.node ≡ host = eqb-true q.node host own in
          let rest = collect_quiet host s.network.registers 0 s parts.rest
          (λ node lines2 above apart.
          collects_other s node lines2 q item good only (λ is. let here : q.node ≡ node =
          ap (λ (x : PortRef). x.node) is in
          let yes : (node == host) ≡ true = subst (λ n. (n == host) ≡ true) here own in
          let bad : true ≡ false = sym yes ∙ apart in absurd cc)) more behind in
          let nothing = lines_are ∙ rest in
          subst (λ l. HasRun s l (Handled host s.network q item)) (sym nothing)
          (run_of s [] (Handled host s.network q item) good (Done refl) (Home same refl))
      by_host false own =
          let run = collect_endpoint host q.node s.network.registers 0 s parts.rest q item
          port.device port.stands kind (omega arith) own good none only passes
          (laid.ends q p peer endpoint) more behind in
          let away : q.node ≢ host = λ same. let bad : true ≡ false = sym (eq-eqb q.node host same)
          ∙ own in absurd cc in
          run_of s lines (Handled host s.network q item) good (made_by lines_are run.made)
          (Away away (subst (λ l. HandledAs s.network q item (seen s l).network) (sym lines_are)
          run.is))

  pub handled : HasRun s lines (Handled host s.network q item)
  handled = by_kind (is_switch (laid.ports q p peer).device) refl
    where
      by_kind : (kind : Bool) → is_switch (laid.ports q p peer).device ≡ kind
          → HasRun s lines (Handled host s.network q item)
      by_kind true is = by_switch (laid.ports q p peer) is
      by_kind false is = by_endpoint (laid.ports q p peer) is

-- nothing is to be handled
pub handles_nothing : (host : ℕ) (s : Seen) (lines : List TraceLine) → IsGood s → NoneHeld s.network
    → Handles host s lines → (seen s lines).undetected ≡ None → lines ≡ []
handles_nothing host s lines good none handles still =
    let parts = split (λ first. ServeNodes 0 s.network.registers s first)
    (λ t rest. CollectNodes host 0 t.network.registers t rest) s lines handles still in
    let first = serve_nothing s.network.registers s parts.first good none parts.own parts.still in
    let there : seen s parts.first ≡ s = ap (seen s) first in
    let more : CollectNodes host 0 s.network.registers s parts.rest =
    subst (λ (x : Seen). CollectNodes host 0 x.network.registers x parts.rest) there parts.more
    in
    let lines_are : lines ≡ parts.rest = parts.whole ∙ ap (λ (l : List TraceLine). l ++ parts.rest)
    first in
    lines_are ∙ collect_quiet host s.network.registers 0 s parts.rest
    (λ node own above apart. collects_none s node own good none) more
    (ap (λ (l : List TraceLine). (seen s l).undetected) (sym lines_are) ∙ still)

-- ---- a round

module _ (host : ℕ) (noise left : List Edit) (s : Seen) (lines : List TraceLine) (p : PortRef)
    (item : Item) (good : IsGood s) (none : s.undetected ≡ None)
    (only : IsOnly s.network (Waits p) item) (passes : Passes item.now)
    (laid : IsLaid s.network.registers s.network.links host)
    (round : AskRound host noise left s lines) (still : (seen s lines).undetected ≡ None) where
  abbrev parts : Split (CarryAll s.network.links noise left s) (Handles host) s lines
  parts = split (CarryAll s.network.links noise left s) (Handles host) s lines round still

  abbrev t : Seen
  t = seen s parts.first

  carried : HasRun s parts.first (Ran s.network.links s.network p item)
  carried = waits_run s.network.links s.network.links noise left s parts.first p item good none refl
      (all_found s.network.links good.proper) only (few_prio item.now passes) parts.own parts.still

  behind : (seen t parts.rest).undetected ≡ None
  behind = sym (ap (λ (x : Seen). x.undetected) parts.after) ∙ still

  by_ran : Ran s.network.links s.network p item t.network
      → HasRun s lines (Rounded host s.network p item)
  by_ran (Stuck away same) =
      let rest = handles_nothing host t parts.rest carried.good
      (λ c r. ap (λ (n : Network). n.received c r) same ∙ only.received c r) parts.more behind
      in
      let whole : lines ≡ parts.first = parts.whole ∙ ap (λ (l : List TraceLine). parts.first ++ l)
      rest ∙ append-nil parts.first in
      run_of s lines (Rounded host s.network p item) good (made_by whole carried.made)
      (Waited (by_peer (peer_in s.network.links p) refl)
      (ap (λ (l : List TraceLine). (seen s l).network) whole ∙ same))
    where
      by_peer : (peer : Option PortRef) → peer_in s.network.links p ≡ peer
          → peer_in s.network.links p ≡ None
      by_peer None is = is
      by_peer (Some q) is = absurd (away_alone s.network.links p q away is)
  by_ran (Reached q peer whole same) =
      let there : peer_in t.network.links q ≡ Some p =
      subst (λ l. peer_in l q ≡ Some p) (sym carried.links) peer in
      let laid_there : IsLaid t.network.registers t.network.links host =
      subst (λ r. IsLaid r t.network.links host) (sym same.registers)
      (subst (λ l. IsLaid s.network.registers l host) (sym carried.links) laid) in
      let two = split (λ first. ServeNodes 0 t.network.registers t first)
      (λ u rest. CollectNodes host 0 u.network.registers u rest) t parts.rest parts.more behind
      in
      let run = handled host t parts.rest q p item carried.good parts.still whole passes laid_there
      there behind two in
      run_of s lines (Rounded host s.network p item) good
      (made_by parts.whole (made-append carried.made run.made))
      (Handed q t.network peer whole same carried.links
      (subst (λ (x : Seen). Handled host t.network q item x.network) (sym parts.after) run.is))

  pub rounded : HasRun s lines (Rounded host s.network p item)
  rounded = by_ran carried.is
