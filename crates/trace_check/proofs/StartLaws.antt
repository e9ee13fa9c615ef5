-- What a line of set-up adds: a node with its ports, or a link.
use Rattle.std.proofs.Common.{◌≡◌, ℕ, ◌+◌, ◌<◌, ◌≤◌, Bool, true, false, ◌⊎◌, inl, inr, List, [], ◌∷◌, ◌++◌, length, map, take, drop, get_or, replicate, slice_get, slice_set, option_map, Option, Some, None, cond, refl, sym, ap, ◌∙◌, subst, arith, length-append}
use Rattle.std.proofs.lemmas.Bool.{false_from_ne_true}
use Rattle.std.proofs.lemmas.List.{get_or-append-add, get_or-replicate, get_or_append_left, length-map, length-replicate, take_more}
use Rattle.std.proofs.lemmas.Option.{get_or_from_slice_get, slice_get-map, slice_get_read}
use Rattle.maint_registers.specs.Devices.{new_endpoint, new_switch}
use Rattle.fabric_script.specs.Known.{Known, known_after, names_after, nothing}
use Rattle.fabric_script.specs.Lines.{new_name}
use Rattle.fabric_script.specs.Reading.{MayBe}
use Rattle.fabric_script.specs.Scripts.{ScriptPasses, PassesFrom}
use Rattle.fabric_script.specs.declared.lines.Line.{Line}
use Rattle.fabric_script.specs.declared.lines.Line.TheVariants.{Endpoint, Switch, Link, Buffers, Route, Default, Lock, Large, Credits}
use Rattle.fabric_script.specs.declared.lines.Numbered.{Numbered}
use Rattle.fabric_script.specs.declared.ports.PortRef.{PortRef}
use Rattle.fabric_model.specs.Network.{Network, peer_in, same_port, with_device}
use Rattle.fabric_model.proofs.Devices.{length-with_device}
use Rattle.fabric_model.proofs.Peers.{apart_back, port_is, same_port-refl}
use Rattle.fabric_trace.specs.Runs.{bare, set_up, set_up_all}
use Rattle.fabric_trace.specs.Settings.{defaulted, held_by, large_set, linked_at, routed}
use Rattle.fabric_trace.specs.SetUps.{MaySetUpAll}
use Rattle.fabric_trace.proofs.SetUps.Happening.{may_set_up}
use Rattle.fabric_trace.proofs.SetUps.SettingUp.{set_up_all-append, lines_at}
use Rattle.trace_check.specs.Starting.{AreEnds, ArePortsIn, MayStandBehind}
use Rattle.trace_check.specs.Tables.{IsIn, IsTable, table_place}
use Rattle.trace_check.proofs.TableLaws.{place_within, table_set}

-- ---- one node more

module _ {A : Type 0} {nodes : ℕ} where
  -- the places of one node more, which all have the same
  pub table_more : {Has More : PortRef → A → Type 0} {list : List A} (x : A)
      → IsTable nodes Has list → ((p : PortRef) (y : A) → IsIn nodes p → Has p y → More p y)
      → ((p : PortRef) → p.node ≡ nodes → More p x)
      → IsTable (nodes + 1) More (list ++ replicate 16 x)
  table_more {More = More} {list} x table kept new = record {
    size = omega (arith, table.size, length-append list (replicate 16 x), length-replicate 16 x);
    at = λ p y is_in there. at_port p y is_in there (is_old p is_in);
  }
    where
      is_old : (p : PortRef) → IsIn (nodes + 1) p → (p.node < nodes) ⊎ (p.node ≡ nodes)
      is_old p is_in = let within = is_in.node in grind (arith, within)

      at_port : (p : PortRef) (y : A) → IsIn (nodes + 1) p
          → slice_get (list ++ replicate 16 x) (table_place p) ≡ Some y
          → (p.node < nodes) ⊎ (p.node ≡ nodes) → More p y
      at_port p y is_in there (inl low) =
          let old : IsIn nodes p = record { node = low; port = is_in.port } in
          let within = place_within old in
          let size = table.size in
          let less : table_place p < length list = omega (arith, within, size) in
          let read : get_or list (table_place p) y ≡ y
          = sym (get_or_append_left list (replicate 16 x) y (table_place p) less)
          ∙ get_or_from_slice_get (list ++ replicate 16 x) (table_place p) y y there in
          kept p y old (table.at p y old
          (slice_get_read list (length list) (table_place p) y refl less (sym read)))
      at_port p y is_in there (inr last) =
          let size = table.size in
          let place : table_place p ≡ length list + p.port = omega (arith, last, size) in
          let read : get_or (list ++ replicate 16 x) (length list + p.port) y ≡ y
          = ap (λ i. get_or (list ++ replicate 16 x) i y) (sym place)
          ∙ get_or_from_slice_get (list ++ replicate 16 x) (table_place p) y y there in
          let own : x ≡ y = sym (get_or-replicate 16 p.port x y is_in.port)
          ∙ sym (get_or-append-add list (replicate 16 x) p.port y) ∙ read in
          subst (More p) own (new p last)

-- a table of what the elements of a list show, and the list as a table
module _ {A B : Type 0} (nodes : ℕ) (view : A → B) (Has : PortRef → B → Type 0) where
  pub table_shown : (list : List A) → IsTable nodes (λ p x. Has p (view x)) list
      → IsTable nodes Has (map view list)
  table_shown list table = record {
    size = length-map list view ∙ table.size;
    at = λ p y is_in there. by_item p y is_in (slice_get list (table_place p)) refl
        (sym (slice_get-map view list (table_place p)) ∙ there);
  }
    where
      by_item : (p : PortRef) (y : B) → IsIn nodes p → (o : Option A)
          → slice_get list (table_place p) ≡ o → option_map view o ≡ Some y → Has p y
      by_item p y is_in None there shown = absurd cc
      by_item p y is_in (Some x) there shown =
          let same : view x ≡ y = cc in subst (Has p) same (table.at p x is_in there)

  pub table_behind : (list : List A) → IsTable nodes Has (map view list)
      → IsTable nodes (λ p x. Has p (view x)) list
  table_behind list table = record {
    size = sym (length-map list view) ∙ table.size;
    at = λ p x is_in there. table.at p (view x) is_in
        (slice_get-map view list (table_place p) ∙ ap (option_map view) there);
  }

-- ---- links

pub ends_more : (nodes : ℕ) (links : List (PortRef × PortRef)) → AreEnds nodes links
    → AreEnds (nodes + 1) links
ends_more nodes [] are = tt
ends_more nodes (link ∷ links) are = (
  (in_more nodes link.0 are.0.0, in_more nodes link.1 are.0.1),
  ends_more nodes links are.1,
)
  where
    in_more : (nodes : ℕ) (p : PortRef) → IsIn nodes p → IsIn (nodes + 1) p
    in_more nodes p is_in =
        let node = is_in.node in record { node = omega (arith, node); port = is_in.port }

-- a port of a later node is another
pub later_apart : (nodes : ℕ) (p q : PortRef) → IsIn nodes p → nodes ≤ q.node
    → same_port p q ≡ false
later_apart nodes p q is_in later = false_from_ne_true (same_port p q) (λ same.
    let node : p.node ≡ q.node = ap (λ (x : PortRef). x.node) (port_is p q same) in
    let low = is_in.node in
    absurd (omega (arith, node, low, later)))

pub unlinked_later : (nodes : ℕ) (links : List (PortRef × PortRef)) (p : PortRef)
    → AreEnds nodes links → nodes ≤ p.node → peer_in links p ≡ None
unlinked_later nodes [] p are later = refl
unlinked_later nodes (link ∷ links) p are later =
    rw (later_apart nodes link.0 p are.0.0 later, later_apart nodes link.1 p are.0.1 later)
    (unlinked_later nodes links p are.1 later)

-- the other end of a link is a port of these nodes
pub peer_within : (nodes : ℕ) (links : List (PortRef × PortRef)) (p q : PortRef)
    → AreEnds nodes links → peer_in links q ≡ Some p → IsIn nodes p
peer_within nodes [] p q are peer = absurd cc
peer_within nodes (link ∷ links) p q are peer =
    by_link (same_port link.0 q) (same_port link.1 q) peer (peer_within nodes links p q are.1)
  where
    by_link : (s t : Bool)
        → cond s (Some link.1) (cond t (Some link.0) (peer_in links q)) ≡ Some p
        → (peer_in links q ≡ Some p → IsIn nodes p) → IsIn nodes p
    by_link true t is later = let same : link.1 ≡ p = cc in subst (IsIn nodes) same are.0.1
    by_link false true is later = let same : link.0 ≡ p = cc in subst (IsIn nodes) same are.0.0
    by_link false false is later = later is

-- the first, if there is one
abbrev or_else : Option PortRef → Option PortRef → Option PortRef
or_else None second = second
or_else (Some peer) second = Some peer

peer_append : (links more : List (PortRef × PortRef)) (p : PortRef)
    → peer_in (links ++ more) p ≡ or_else (peer_in links p) (peer_in more p)
peer_append [] more p = refl
peer_append (link ∷ links) more p =
    by_link (same_port link.0 p) (same_port link.1 p) (peer_append links more p)
  where
    by_link : (s t : Bool)
        → peer_in (links ++ more) p ≡ or_else (peer_in links p) (peer_in more p)
        → cond s (Some link.1) (cond t (Some link.0) (peer_in (links ++ more) p))
        ≡ or_else (cond s (Some link.1) (cond t (Some link.0) (peer_in links p))) (peer_in more p)
    by_link true t later = refl
    by_link false true later = refl
    by_link false false later = later

module _ (nodes : ℕ) (links : List (PortRef × PortRef)) (a b : PortRef) where
  abbrev joined : List (PortRef × PortRef)
  joined = links ++ (a, b) ∷ []

  peer_first : peer_in links a ≡ None → peer_in joined a ≡ Some b
  peer_first none =
      peer_append links ((a, b) ∷ []) a ∙ ap (λ o. or_else o (peer_in ((a, b) ∷ []) a)) none
      ∙ ap (λ s. cond s (Some b) (cond (same_port b a) (Some a) None)) (same_port-refl a)

  peer_second : same_port a b ≡ false → peer_in links b ≡ None → peer_in joined b ≡ Some a
  peer_second apart none =
      peer_append links ((a, b) ∷ []) b ∙ ap (λ o. or_else o (peer_in ((a, b) ∷ []) b)) none
      ∙ (λ i. cond (apart i) (Some b) (cond (same_port-refl b i) (Some a) None))

  or_none : (o : Option PortRef) → or_else o None ≡ o
  or_none None = refl
  or_none (Some peer) = refl

  peer_other : (p : PortRef) → same_port p a ≡ false → same_port p b ≡ false
      → peer_in joined p ≡ peer_in links p
  peer_other p not_a not_b =
      peer_append links ((a, b) ∷ []) p
      ∙ (λ i. or_else (peer_in links p)
      (cond (apart_back p a not_a i) (Some b) (cond (apart_back p b not_b i) (Some a) None)))
      ∙ or_none (peer_in links p)

  -- the two ends of a new link are entered one after the other
  pub peers_joined : (list : List (Option PortRef)) (i j : ℕ)
      → IsTable nodes (λ p peer. peer ≡ peer_in links p) list → IsIn nodes a → IsIn nodes b
      → same_port a b ≡ false → peer_in links a ≡ None → peer_in links b ≡ None
      → i ≡ table_place a → j ≡ table_place b
      → IsTable nodes (λ p peer. peer ≡ peer_in joined p)
      (slice_set (slice_set list i (Some b)) j (Some a))
  peers_joined list i j table in_a in_b apart none_a none_b at_a at_b =
      table_set (Some a)
      (table_set {More = Half} (Some b) table in_a at_a
      (λ not_b. sym (peer_first none_a))
      (λ p peer not_a has not_b. has ∙ sym (peer_other p not_a not_b)))
      in_b at_b (sym (peer_second apart none_b)) (λ p peer not_b half. half not_b)
    where
      Half : PortRef → Option PortRef → Type 0
      Half p peer = same_port p b ≡ false → peer ≡ peer_in joined p

pub ends_joined : (nodes : ℕ) (links : List (PortRef × PortRef)) (a b : PortRef)
    → AreEnds nodes links → IsIn nodes a → IsIn nodes b → AreEnds nodes (links ++ (a, b) ∷ [])
ends_joined nodes [] a b are in_a in_b = ((in_a, in_b), tt)
ends_joined nodes (link ∷ links) a b are in_a in_b =
    (are.0, ends_joined nodes links a b are.1 in_a in_b)

-- ---- from line to line

-- the ports that each line names are there
abbrev AllPorts : Network → List Numbered → Type 0
AllPorts net [] = Unit {0}
AllPorts net (line ∷ lines) =
    ArePortsIn (length net.registers) line.line × AllPorts (set_up net line.line) lines

-- as many nodes as names
count_after : (net : Network) (names : List (List ℕ)) (new : List ℕ) (line : Line)
    → length net.registers ≡ length names
    → length (set_up net line).registers ≡ length (names_after names new line)
count_after net names new (Endpoint name id) same = omega (
  arith,
  same,
  length-append net.registers (new_endpoint id false ∷ []),
  length-append names (new ∷ []),
)
count_after net names new (Switch name ports) same = omega (
  arith,
  same,
  length-append net.registers (new_switch ports 0 ∷ []),
  length-append names (new ∷ []),
)
count_after net names new (Link a b) same =
    length-with_device (with_device net.registers a.node (linked_at a.port)) b.node
    (linked_at b.port)
    ∙ length-with_device net.registers a.node (linked_at a.port) ∙ same
count_after net names new (Route node id p) same =
    length-with_device net.registers node (routed id p) ∙ same
count_after net names new (Default node p) same =
    length-with_device net.registers node (defaulted p) ∙ same
count_after net names new (Lock node id) same =
    length-with_device net.registers node (held_by id) ∙ same
count_after net names new (Large node id) same =
    length-with_device net.registers node (large_set id) ∙ same
count_after net names new _ same = same

ports_in : (known : Known) (new : List ℕ) (nodes : ℕ) (line : Line)
    → nodes ≡ length known.names → MayBe known new line → ArePortsIn nodes line
ports_in known new nodes (Link a b) same may =
    let first = may.fit.0 in
    let second = may.fit.1.0 in
    let low = first.0 in
    let low_second = second.0 in (
      record { node = omega (arith, same, low); port = first.1 },
      record { node = omega (arith, same, low_second); port = second.1 },
    )
ports_in known new nodes (Buffers p n) same may =
    let first = may.fit.0 in
    let low = first.0 in
    record { node = omega (arith, same, low); port = first.1 }
ports_in known new nodes (Credits p) same may =
    let first = may.fit.0 in
    let low = first.0 in
    record { node = omega (arith, same, low); port = first.1 }
ports_in known new nodes _ same may = tt

all_ports : (known : Known) (names : List (List ℕ)) (net : Network) (lines : List Numbered)
    → length net.registers ≡ length known.names → PassesFrom known names lines
    → AllPorts net lines
all_ports known names net [] same passes = tt
all_ports known names net (line ∷ lines) same passes =
    let new = new_name names line.line in (
      ports_in known new (length net.registers) line.line same passes.0,
      all_ports (known_after known new line.line) names (set_up net line.line) lines
          (count_after net known.names new line.line same) passes.2,
    )

count_all : (known : Known) (names : List (List ℕ)) (net : Network) (lines : List Numbered)
    → length net.registers ≡ length known.names → PassesFrom known names lines
    → length (set_up_all net lines).registers ≡ length names
count_all known names net [] same passes = same ∙ ap length passes
count_all known names net (line ∷ lines) same passes =
    let new = new_name names line.line in
    count_all (known_after known new line.line) names (set_up net line.line) lines
    (count_after net known.names new line.line same) passes.2

pub nodes_named : (names : List (List ℕ)) (lines : List Numbered) → ScriptPasses names lines
    → length (set_up_all bare lines).registers ≡ length names
nodes_named names lines passes = count_all nothing names bare lines refl passes

may_at : (net : Network) (before behind : List Numbered) (line : Numbered)
    → MaySetUpAll net (before ++ line ∷ behind) → AllPorts net (before ++ line ∷ behind)
    → MayStandBehind (set_up_all net before) line.line
may_at net [] behind line may ports = record { may = may.0; ports = ports.0 }
may_at net (first ∷ before) behind line may ports =
    may_at (set_up net first.line) before behind line may.1 ports.1

-- the next line may be added
pub next_may : (names : List (List ℕ)) (lines : List Numbered) (i : ℕ) (line : Numbered)
    → ScriptPasses names lines → i < length lines → line ≡ get_or lines i line
    → MayStandBehind (set_up_all bare (take i lines)) line.line
next_may names lines i line passes within at =
    let split = lines_at lines i line within at in
    may_at bare (take i lines) (drop (i + 1) lines) line
    (subst (MaySetUpAll bare) split (may_set_up names lines passes))
    (subst (AllPorts bare) split (all_ports nothing names bare lines refl passes))

-- and makes the next network
next_net : (lines : List Numbered) (i : ℕ) (line : Numbered) → i < length lines
    → line ≡ get_or lines i line
    → set_up_all bare (take (i + 1) lines) ≡ set_up (set_up_all bare (take i lines)) line.line
next_net lines i line within at =
    ap (set_up_all bare) (take_more lines i line within
    ∙ ap (λ x. take i lines ++ x ∷ []) (sym at))
    ∙ set_up_all-append bare (take i lines) (line ∷ [])

-- so what a line makes of what the network is, is so of the next
pub on_next : (Was Is : Network → Type 0) (names : List (List ℕ)) (lines : List Numbered) (i : ℕ)
    (line : Numbered) → ScriptPasses names lines → i < length lines → line ≡ get_or lines i line
    → Was (set_up_all bare (take i lines))
    → ((net : Network) → Was net → MayStandBehind net line.line → Is (set_up net line.line))
    → Is (set_up_all bare (take (i + 1) lines))
on_next Was Is names lines i line passes within at was makes =
    subst Is (sym (next_net lines i line within at))
    (makes (set_up_all bare (take i lines)) was (next_may names lines i line passes within at))
