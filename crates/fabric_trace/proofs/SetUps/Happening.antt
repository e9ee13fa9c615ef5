-- What a script that passes gives: its lines of set-up may stand behind each other, and its events
-- may happen.
use Rattle.fabric_trace.proofs.Prelude.{◌≡◌, ℕ, ◌%◌, ◌<◌, ◌≤◌, zero, suc, nat_lt, nat_le, ◌==◌, Bool, true, false, not, ◌&&◌, ◌||◌, List, [], ◌∷◌, ◌++◌, Option, Some, None, map, get_or, length, All, is_some, refl, sym, ap, ◌∙◌, subst, arith, and_parts, or_parts, eqb-true, true≢false, false≢true, not-false, nat_tests, All-nil, All-cons, map-append, PortRef, Line, Numbered, is_event, new_name, Known, of_script, nothing, known_after, node_ports, ports_of, same_port, is_linked, MayBe, IsFree, PassesFrom, ScriptPasses, Network, peer_in, bare, set_up, set_up_all, MaySetUp, MaySetUpAll, IsDataLength, IsInRange, HasLink, IsThere, MayHappen, IsNodePort, ArePorts, counts_after, counts_after_all, port_counts}
use Rattle.std.specs.List.{slice_get}
use Rattle.rio_packets.specs.Making.{most_rest}
use Rattle.fabric_script.specs.declared.lines.Line.TheVariants.{Endpoint, Switch, Link, Buffers, Route, Default, Lock, Large, Send, Read, Write, Pump, Deliver, Alter, Insert, Erase, Timeout, Settle, Move, Collect, Run, Send16, Read16, Write16, Credits}
use Rattle.fabric_script.specs.declared.reasons.Reason.TheVariants.{PortTaken, BadLength, WrongKind, OutOfPlace, NotLinked}
use Rattle.fabric_script.specs.Refusals.{is_bad_length, out_of_place_in}
use Rattle.fabric_script.proofs.PrintLaws.{named_all}
use Rattle.fabric_trace.proofs.SetUps.SettingUp.{set_up-event}
use Rattle.fabric_trace.proofs.SetUps.KnownNetworks.{KnowsNetwork, knows-after, endpoint_at, switch_is_at, device_at, knows_bare}

-- ---- links

no_peer : (links : List (PortRef × PortRef)) (p : PortRef) → is_linked links p ≡ false
    → peer_in links p ≡ None
no_peer [] p e = refl
no_peer (link ∷ links) p e =
    let parts = or_parts (same_port link.0 p || same_port link.1 p) (is_linked links p) e in
    let ends = or_parts (same_port link.0 p) (same_port link.1 p) parts.0 in
    rw (ends.0, ends.1) (no_peer links p parts.1)

a_peer : (links : List (PortRef × PortRef)) (p : PortRef) → is_linked links p ≡ true
    → is_some (peer_in links p) ≡ true
a_peer [] p e = absurd (false≢true e)
a_peer (link ∷ links) p e =
    by_tests (same_port link.0 p) (same_port link.1 p) refl refl (a_peer links p)
  where
    by_tests : (s t : Bool) → same_port link.0 p ≡ s → same_port link.1 p ≡ t
        → (is_linked links p ≡ true → is_some (peer_in links p) ≡ true)
        → is_some (peer_in (link ∷ links) p) ≡ true
    by_tests true t a b later = rw a refl
    by_tests false true a b later = rw (a, b) refl
    by_tests false false a b later =
        rw (a, b) (later (sym (ap (λ x. (x || same_port link.1 p) || is_linked links p) a
        ∙ ap (λ x. x || is_linked links p) b) ∙ e))

-- ---- each line of set-up may stand behind those before it

may_one : (known : Known) (new : List ℕ) (net : Network) (line : Line) → KnowsNetwork known net
    → MayBe known new line → IsFree known line → MaySetUp net line
may_one known new net (Endpoint name id) s may free = let id_in = may.fit.1.0.1 in omega arith
may_one known new net (Switch name ports) s may free = may.fit.1.0
may_one known new net (Link a b) s may free =
    let parts =
    or_parts (same_port a b) (is_linked known.links a || is_linked known.links b)
    (free PortTaken) in
    let ends = or_parts (is_linked known.links a) (is_linked known.links b) parts.1 in (
      parts.0,
      ap (λ links. peer_in links a) s.linked
          ∙ no_peer known.links a ends.0,
      ap (λ links. peer_in links b) s.linked
          ∙ no_peer known.links b ends.1,
    )
may_one known new net (Buffers port n) s may free = may.fit.1.0
may_one known new net (Route node id p) s may free =
    let id_in = may.fit.1.0.1 in
    let port_in = may.fit.1.1.0.1 in
    (switch_is_at known net node s may.fit.0 (free WrongKind), omega arith, omega arith)
may_one known new net (Default node p) s may free =
    let port_in = may.fit.1.0.1 in
    (switch_is_at known net node s may.fit.0 (free WrongKind), omega arith)
may_one known new net (Lock node id) s may free =
    let id_in = may.fit.1.0.1 in
    (device_at known net node s may.fit.0, omega arith)
may_one known new net (Large node id) s may free =
    let id_in = may.fit.1.0.1 in
    (endpoint_at known net node s may.fit.0 (free WrongKind), omega arith)
may_one known new net _ s may free = tt

may_all : (known : Known) (names : List (List ℕ)) (net : Network) (lines : List Numbered)
    → KnowsNetwork known net → PassesFrom known names lines → MaySetUpAll net lines
may_all known names net [] s passes = tt
may_all known names net (line ∷ lines) s passes = (
  may_one known (new_name names line.line) net line.line s passes.0 passes.1,
  may_all (known_after known (new_name names line.line) line.line) names (set_up net line.line)
      lines (knows-after known (new_name names line.line) net line.line s) passes.2,
)

pub may_set_up : (names : List (List ℕ)) (lines : List Numbered) → ScriptPasses names lines
    → MaySetUpAll bare lines
may_set_up names lines passes = may_all nothing names bare lines (knows_bare of_script) passes

-- ---- nothing is set up behind an event

event_of : (begun event : Bool) → begun ≡ true → begun && not event ≡ false → event ≡ true
event_of true true b e = refl
event_of true false b e = absurd (true≢false e)
event_of false event b e = absurd (false≢true b)

begun_stays : (begun event : Bool) → begun ≡ true → begun || event ≡ true
begun_stays true event b = refl
begun_stays false event b = absurd (false≢true b)

begun_by : (begun event : Bool) → event ≡ true → begun || event ≡ true
begun_by true event e = refl
begun_by false event e = e

stays : (known : Known) (names : List (List ℕ)) (net : Network) (lines : List Numbered)
    → known.mode ≡ of_script → known.begun ≡ true → PassesFrom known names lines
    → set_up_all net lines ≡ net
stays known names net [] mode begun passes = refl
stays known names net (line ∷ lines) mode begun passes =
    let event =
    event_of known.begun (is_event line.line) begun
    (ap (λ m. out_of_place_in m known.begun (is_event line.line)) (sym mode)
    ∙ passes.1 OutOfPlace) in
    ap (λ (n : Network). set_up_all n lines) (set_up-event net line.line event)
    ∙ stays (known_after known (new_name names line.line) line.line) names net lines mode
    (begun_stays known.begun (is_event line.line) begun) passes.2

-- ---- an event may happen

data_length : (large : Bool) (ftype count : ℕ) → is_bad_length large ftype count ≡ false
    → IsDataLength large ftype count
data_length large ftype count e =
    let forms : Bool = not (nat_le 6 count && nat_le count 70 && (count % 8 == 6)) in
    let parts =
    or_parts (not (count % 2 == 0) || nat_lt (most_rest large) count) ((ftype == 8) && forms) e in
    let both = or_parts (not (count % 2 == 0)) (nat_lt (most_rest large) count) parts.0 in
    let long = both.1 in
    record {
      even = eqb-true (count % 2) 0 (not-false (count % 2 == 0) both.0);
      most = grind (arith, nat_tests, long);
      maintenance =
          λ is. of_form (not-false (nat_le 6 count && nat_le count 70 && (count % 8 == 6))
          (sym (ap (λ f. (f == 8) && forms) is) ∙ parts.1));
    }
  where
    of_form : nat_le 6 count && nat_le count 70 && (count % 8 == 6) ≡ true
        → (6 ≤ count) × (count ≤ 70) × (count % 8 ≡ 6)
    of_form is =
        let outer = and_parts (nat_le 6 count && nat_le count 70) (count % 8 == 6) is in
        let inner = and_parts (nat_le 6 count) (nat_le count 70) outer.0 in
        let least = inner.0 in
        let most = inner.1 in (
          grind (arith, nat_tests, least),
          grind (arith, nat_tests, most),
          eqb-true (count % 8) 6
              outer.1,
        )

in_range : (known : Known) (new : List ℕ) (line : Line) → MayBe known new line → IsFree known line
    → IsInRange line
in_range known new (Send node prio ftype dest hex) may free =
    let prio_in = may.fit.1.0.1 in
    let ftype_in = may.fit.1.1.0.1 in
    (omega arith, omega arith, data_length false ftype (length hex) (free BadLength))
in_range known new (Read node prio dest hop tid offset) may free =
    let prio_in = may.fit.1.0.1 in
    (omega arith, may.fit.1.1.1.1.1.0.1)
in_range known new (Write node prio dest hop tid offset value) may free =
    let prio_in = may.fit.1.0.1 in
    (omega arith, may.fit.1.1.1.1.1.0.1, may.fit.1.1.1.1.1.1.0.1)
in_range known new (Send16 node prio ftype dest hex) may free =
    let prio_in = may.fit.1.0.1 in
    let ftype_in = may.fit.1.1.0.1 in
    (omega arith, omega arith, data_length true ftype (length hex) (free BadLength))
in_range known new (Read16 node prio dest hop tid offset) may free =
    let prio_in = may.fit.1.0.1 in
    (omega arith, may.fit.1.1.1.1.1.0.1)
in_range known new (Write16 node prio dest hop tid offset value) may free =
    let prio_in = may.fit.1.0.1 in
    (omega arith, may.fit.1.1.1.1.1.0.1, may.fit.1.1.1.1.1.1.0.1)
in_range known new (Pump port n) may free = may.fit.1.0
in_range known new (Deliver port n) may free = may.fit.1.0
in_range known new (Alter port place ch) may free = may.fit.1.0.1
in_range known new (Insert port place ch) may free = may.fit.1.0.1
in_range known new (Erase port place n) may free = (may.fit.1.0.1, may.fit.1.1.0.0, may.fit.1.1.0.1)
in_range known new (Run n) may free = may.fit.0
in_range known new _ may free = tt

link_at : (known : Known) (net : Network) (p : PortRef) → KnowsNetwork known net
    → not (is_linked known.links p) ≡ false → HasLink net p
link_at known net p s e =
    subst (λ links. is_some (peer_in links p) ≡ true) (sym s.linked)
    (a_peer known.links p (not-false (is_linked known.links p) e))

is_there : (known : Known) (new : List ℕ) (net : Network) (line : Line) → KnowsNetwork known net
    → MayBe known new line → IsFree known line → IsThere net line
is_there known new net (Send node prio ftype dest hex) s may free =
    endpoint_at known net node s may.fit.0 (free WrongKind)
is_there known new net (Read node prio dest hop tid offset) s may free =
    endpoint_at known net node s may.fit.0 (free WrongKind)
is_there known new net (Write node prio dest hop tid offset value) s may free =
    endpoint_at known net node s may.fit.0 (free WrongKind)
is_there known new net (Send16 node prio ftype dest hex) s may free =
    endpoint_at known net node s may.fit.0 (free WrongKind)
is_there known new net (Read16 node prio dest hop tid offset) s may free =
    endpoint_at known net node s may.fit.0 (free WrongKind)
is_there known new net (Write16 node prio dest hop tid offset value) s may free =
    endpoint_at known net node s may.fit.0 (free WrongKind)
is_there known new net (Move node) s may free =
    switch_is_at known net node s may.fit.0 (free WrongKind)
is_there known new net (Collect node) s may free =
    endpoint_at known net node s may.fit.0 (free WrongKind)
is_there known new net (Pump port n) s may free = link_at known net port s (free NotLinked)
is_there known new net (Deliver port n) s may free = link_at known net port s (free NotLinked)
is_there known new net (Alter port place ch) s may free = link_at known net port s (free NotLinked)
is_there known new net (Insert port place ch) s may free = link_at known net port s (free NotLinked)
is_there known new net (Erase port place n) s may free = link_at known net port s (free NotLinked)
is_there known new net (Timeout port) s may free = link_at known net port s (free NotLinked)
is_there known new net (Settle port) s may free = link_at known net port s (free NotLinked)
is_there known new net _ s may free = tt

-- what is said of each line
abbrev Happens : Network → Numbered → Type 0
Happens net line = is_event line.line ≡ true → IsInRange line.line × IsThere net line.line

happen_from : (known : Known) (names : List (List ℕ)) (net : Network) (lines : List Numbered)
    → known.mode ≡ of_script → KnowsNetwork known net → PassesFrom known names lines
    → All (Happens (set_up_all net lines)) lines
happen_from known names net [] mode s passes = All-nil (Happens net)
happen_from known names net (line ∷ lines) mode s passes =
    let new = new_name names line.line in
    let next = known_after known new line.line in
    let quiet : is_event line.line ≡ true → set_up_all net (line ∷ lines) ≡ net = λ event.
    ap (λ (n : Network). set_up_all n lines) (set_up-event net line.line event)
    ∙ stays next names net lines mode (begun_by known.begun (is_event line.line) event) passes.2 in
    All-cons (Happens (set_up_all net (line ∷ lines))) line lines
    (λ event. (
      in_range known new line.line passes.0 passes.1,
      subst
          (λ (n : Network). IsThere n line.line) (sym (quiet event))
          (is_there known new net line.line s passes.0 passes.1),
    ))
    (happen_from next names (set_up net line.line) lines mode
    (knows-after known new net line.line s) passes.2)

pub may_happen : (names : List (List ℕ)) (lines : List Numbered) → ScriptPasses names lines
    → All (λ line. is_event line.line ≡ true → MayHappen names (set_up_all bare lines) line.line)
    lines
may_happen names lines passes =
    let all = happen_from nothing names bare lines refl (knows_bare of_script) passes in
    let named = named_all nothing names lines passes in
    λ k d within event. record {
      named = named k d within;
      range = (all k d within event).0;
      there = (all k d within event).1;
    }

-- ---- the ports that lines name are there

-- how many ports nodes have
record Counts (known : Known) (counts : List ℕ) : Type 0 where
  counted : map (λ node. node_ports (Some node)) known.nodes ≡ counts

counts-after : (known : Known) (new : List ℕ) (counts : List ℕ) (line : Line) → Counts known counts
    → Counts (known_after known new line) (counts_after counts line)
counts-after known new counts (Endpoint name id) c =
    record {
      counted =
          map-append (λ node. node_ports (Some node)) known.nodes _
          ∙ ap (λ xs. xs ++ 1 ∷ []) c.counted;
    }
counts-after known new counts (Switch name ports) c =
    record {
      counted =
          map-append (λ node. node_ports (Some node)) known.nodes _
          ∙ ap (λ xs. xs ++ ports ∷ []) c.counted;
    }
counts-after known new counts _ c = record { counted = c.counted }

pub count_at : {N : Type 0} (f : Option N → ℕ) (nodes : List N) (n : ℕ) → f None ≡ 0
    → f (slice_get nodes n) ≡ get_or (map (λ node. f (Some node)) nodes) n 0
count_at f [] n none = none
count_at f (node ∷ nodes) zero none = refl
count_at f (node ∷ nodes) (suc n) none = count_at f nodes n none

ports_one : (known : Known) (new : List ℕ) (counts : List ℕ) (line : Line) → Counts known counts
    → MayBe known new line → ArePorts counts line
ports_one known new counts line c may = by_line line may
  where
    here : (p : PortRef) → p.port < ports_of known.nodes p.node → IsNodePort counts p
    here p within =
        subst (λ n. p.port < n) (count_at node_ports known.nodes p.node refl
        ∙ ap (λ xs. get_or xs p.node 0) c.counted) within

    by_line : (line : Line) → MayBe known new line → ArePorts counts line
    by_line (Link a b) may = (here a may.fit.0.2, here b may.fit.1.0.2)
    by_line (Buffers port n) may = here port may.fit.0.2
    by_line (Credits port) may = here port may.fit.0.2
    by_line (Pump port n) may = here port may.fit.0.2
    by_line (Deliver port n) may = here port may.fit.0.2
    by_line (Alter port place ch) may = here port may.fit.0.2
    by_line (Insert port place ch) may = here port may.fit.0.2
    by_line (Erase port place n) may = here port may.fit.0.2
    by_line (Timeout port) may = here port may.fit.0.2
    by_line (Settle port) may = here port may.fit.0.2
    by_line _ may = tt

ports_from : (known : Known) (names : List (List ℕ)) (counts : List ℕ)
    (before behind : List Numbered) (line : Numbered) → Counts known counts
    → PassesFrom known names (before ++ line ∷ behind)
    → ArePorts (counts_after_all counts before) line.line
ports_from known names counts [] behind line c passes =
    ports_one known (new_name names line.line) counts line.line c passes.0
ports_from known names counts (first ∷ before) behind line c passes =
    ports_from (known_after known (new_name names first.line) first.line) names
    (counts_after counts first.line) before behind line
    (counts-after known (new_name names first.line) counts first.line c) passes.2

pub ports_there : (names : List (List ℕ)) (before behind : List Numbered) (line : Numbered)
    → ScriptPasses names (before ++ line ∷ behind) → ArePorts (port_counts before) line.line
ports_there names before behind line passes =
    ports_from nothing names [] before behind line (record { counted = refl }) passes
