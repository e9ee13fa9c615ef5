-- What set-up lines of a script that passes make, line by line.
use Rattle.host_enumerate.proofs.Prelude.{◌≡◌, ◌≢◌, ℕ, zero, suc, ◌+◌, ◌<◌, ◌≤◌, ◌||◌, nat_le, nat_lt, Bool, true, false, List, [], ◌∷◌, ◌++◌, map, length, length-append, slice_get, Option, Some, None, is_some, append-nil, ◌&&◌, if◌then◌else◌, arith, refl, sym, ap, subst, ◌∙◌, or_parts, false≢true, map-append, length-map, same_Some, Registers, is_switch, new_endpoint, new_switch, with_link, with_device, linked_at, routed, defaulted, held_by, large_set, map-with_device, PortRef, Node, Line, Numbered, PortTaken, WrongKind, TooMuchWork, new_name, Known, of_script, nothing, known_after, nodes_after, cost_of, node_ports, ports_of, node_is_switch, same_port, is_linked, peer_in, MayBe, IsFree, PassesFrom, port_at, port_is, same_port-refl, peer-linked, peer-before, peer-behind, with_linked_end, devices_after, devices_after_all, links_after_all}
use Rattle.std.proofs.lemmas.Bool.Decides.{nat_tests}
use Rattle.std.proofs.lemmas.List.Folds.{list_any-append}
use Rattle.fabric_script.specs.declared.known.Node.TheVariants.{Endpoint as AnEndpoint, Switch as ASwitch}
use Rattle.fabric_script.specs.declared.lines.Line.TheVariants.{Endpoint, Switch, Link, Route, Default, Lock, Large}
use Rattle.fabric_script.specs.Refusals.{makes_node, counts_work}
use Rattle.fabric_script.proofs.KnownLaws.{count-after}
use Rattle.host_enumerate.proofs.NewDevices.{IsNew, AreNew, new_endpoint_is, new_switch_is, routed_is, defaulted_is, held_by_is, large_set_is, kind_known, also, are_changed, are_linked, are_longer, are_as}

-- ---- what is known of earlier lines, and what they make

-- a port of a node
abbrev pub IsEnd : Known → PortRef → Type 0
IsEnd known p = (p.node < length known.nodes) × (p.port < ports_of known.nodes p.node)

-- the ends of a link
pub record AreEnds (known : Known) (p q : PortRef) : Type 0 where
  pub first : IsEnd known p
  pub back : peer_in known.links q ≡ Some p
  pub apart : p ≢ q

abbrev pub count_ports : Registers → ℕ
count_ports device = device.ports

pub record Stage (known : Known) (devices : List Registers) : Type 0 where
  pub mode : known.mode ≡ of_script
  pub count : length known.nodes ≡ length known.names
  pub few : length known.names ≤ 64
  pub kinds : map is_switch devices ≡ map (λ node. node_is_switch (Some node)) known.nodes
  pub ports : map count_ports devices ≡ map (λ node. node_ports (Some node)) known.nodes
  pub are : AreNew (λ p. is_linked known.links p) devices
  pub ends : (p q : PortRef) → peer_in known.links p ≡ Some q → AreEnds known p q

-- the device that a line makes, as a list
abbrev made_by : Line → List Registers
made_by (Endpoint name id) = new_endpoint id false ∷ []
made_by (Switch name ports) = new_switch ports 0 ∷ []
made_by _ = []

-- kind and ports stay of all, and a new device stands behind them
viewed : {A : Type 0} (view : Registers → A)
    → ((device : Registers) (linked large : ℕ) (routes : List ℕ) (port lock : ℕ)
    → view (record device {
      linked = linked;
      large_id = large;
      routes = routes;
      default_port = port;
      lock = lock;
    }) ≡ view device)
    → (devices : List Registers) (line : Line)
    → map view (devices_after devices line) ≡ map view devices ++ map view (made_by line)
viewed view same devices (Endpoint name id) = map-append view devices _
viewed view same devices (Switch name ports) = map-append view devices _
viewed view same devices (Link a b) =
    map-with_device view (with_linked_end devices a) b.node (linked_at b.port)
    (λ d. same d (with_link d.linked b.port) d.large_id d.routes d.default_port d.lock)
    ∙ map-with_device view devices a.node (linked_at a.port)
    (λ d. same d (with_link d.linked a.port) d.large_id d.routes d.default_port d.lock)
    ∙ sym (append-nil (map view devices))
viewed view same devices (Route node id p) =
    map-with_device view devices node (routed id p)
    (λ d. same d d.linked d.large_id (routed id p d).routes d.default_port d.lock)
    ∙ sym (append-nil (map view devices))
viewed view same devices (Default node p) =
    map-with_device view devices node (defaulted p)
    (λ d. same d d.linked d.large_id d.routes p d.lock)
    ∙ sym (append-nil (map view devices))
viewed view same devices (Lock node id) =
    map-with_device view devices node (held_by id)
    (λ d. same d d.linked d.large_id d.routes d.default_port id)
    ∙ sym (append-nil (map view devices))
viewed view same devices (Large node id) =
    map-with_device view devices node (large_set id)
    (λ d. same d d.linked id d.routes d.default_port d.lock)
    ∙ sym (append-nil (map view devices))
viewed view same devices _ = sym (append-nil (map view devices))

kinds-made : (known : Known) (line : Line)
    → map (λ node. node_is_switch (Some node)) known.nodes ++ map is_switch (made_by line)
    ≡ map (λ node. node_is_switch (Some node)) (nodes_after known.nodes line)
kinds-made known (Endpoint name id) =
    sym (map-append (λ node. node_is_switch (Some node)) known.nodes _)
kinds-made known (Switch name ports) =
    sym (map-append (λ node. node_is_switch (Some node)) known.nodes _)
kinds-made known _ = append-nil _

ports-made : (known : Known) (line : Line)
    → map (λ node. node_ports (Some node)) known.nodes ++ map count_ports (made_by line)
    ≡ map (λ node. node_ports (Some node)) (nodes_after known.nodes line)
ports-made known (Endpoint name id) =
    sym (map-append (λ node. node_ports (Some node)) known.nodes _)
ports-made known (Switch name ports) =
    sym (map-append (λ node. node_ports (Some node)) known.nodes _)
ports-made known _ = append-nil _

-- nodes of earlier lines keep their ports
ports-longer : (nodes : List _) (node : _) (n : ℕ) → n < length nodes
    → ports_of (nodes ++ node ∷ []) n ≡ ports_of nodes n
ports-longer [] node n less = absurd (omega (arith, less))
ports-longer (first ∷ nodes) node zero less = refl
ports-longer (first ∷ nodes) node (suc n) less = ports-longer nodes node n (omega (arith, less))

module _ (known : Known) (new : List ℕ) (devices : List Registers)
    (stage : Stage known devices) where
  abbrev next : Line → Known
  next line = known_after known new line

  -- a port behind all nodes has no link
  unlinked : (port : ℕ) → is_linked known.links (port_at (length devices) port) ≡ false
  unlinked port = go (peer_in known.links p) refl (peer-linked known.links p)
    where
      p : PortRef
      p = port_at (length devices) port

      as_many : length devices ≡ length known.nodes
      as_many = sym (length-map devices is_switch) ∙ (ap length stage.kinds
          ∙ length-map known.nodes (λ node. node_is_switch (Some node)))

      go : (o : Option PortRef) → peer_in known.links p ≡ o
          → is_some (peer_in known.links p) ≡ is_linked known.links p
          → is_linked known.links p ≡ false
      go None is same = sym same ∙ ap (λ o. is_some o) is
      go (Some q) is same =
          let inside = (stage.ends p q is).first.0 in
          absurd (omega (arith, inside, as_many))

  -- a line that makes a node is at most the 64th
  room : (line : Line) → makes_node line ≡ true → IsFree known line → length known.names < 64
  room line makes free =
      let work : (true && ((true && nat_le 64 (length known.names))
      || nat_lt 100000 (known.cost + cost_of known.links line))) ≡ false =
      ap (λ b. b && ((true && nat_le 64 (length known.names))
      || nat_lt 100000 (known.cost + cost_of known.links line)))
      (sym (ap counts_work stage.mode))
      ∙ (ap (λ b. counts_work known.mode && ((b && nat_le 64 (length known.names))
      || nat_lt 100000 (known.cost + cost_of known.links line))) (sym makes)
      ∙ free TooMuchWork) in
      let less = (or_parts (nat_le 64 (length known.names))
      (nat_lt 100000 (known.cost + cost_of known.links line)) work).0 in
      grind (arith, nat_tests, less)

  -- with what is left to be shown of a line
  with_line : (line : Line) → length (next line).names ≤ 64
      → AreNew (λ p. is_linked (next line).links p) (devices_after devices line)
      → ((p q : PortRef) → peer_in (next line).links p ≡ Some q → AreEnds (next line) p q)
      → Stage (next line) (devices_after devices line)
  with_line line few are ends = record {
    mode = stage.mode;
    count = count-after known new line stage.count;
    few = few;
    kinds = viewed is_switch (λ device linked large routes port lock. refl) devices line
        ∙ (ap (λ kinds. kinds ++ map is_switch (made_by line)) stage.kinds
        ∙ kinds-made known line);
    ports = viewed count_ports (λ device linked large routes port lock. refl) devices line
        ∙ (ap (λ ports. ports ++ map count_ports (made_by line)) stage.ports
        ∙ ports-made known line);
    are = are;
    ends = ends;
  }

  -- a new node behind the others
  few_longer : (name : List ℕ) → length known.names < 64 → length (known.names ++ name ∷ []) ≤ 64
  few_longer name less =
      let more = length-append known.names (name ∷ [])
      in
      omega (arith, less, more)

  ends_longer : (node : Node) (later : Known) → later.nodes ≡ known.nodes ++ node ∷ []
      → later.links ≡ known.links → (p q : PortRef) → peer_in later.links p ≡ Some q
      → AreEnds later p q
  ends_longer node later nodes links p q is =
      let ends = stage.ends p q (ap (λ l. peer_in l p) (sym links) ∙ is) in
      let more = length-append known.nodes (node ∷ []) in
      let inside = ends.first.0 in
      record {
        first = (
          subst (λ l. p.node < length l) (sym nodes) (omega (arith, more, inside)),
          subst (λ l. p.port < ports_of l p.node) (sym nodes)
              (subst (λ n. p.port < n) (sym (ports-longer known.nodes node p.node inside))
              ends.first.1),
        );
        back = ap (λ l. peer_in l q) links ∙ ends.back;
        apart = ends.apart;
      }

  -- two more ports with a link
  both_linked : (a b p : PortRef)
      → also (also (λ q. is_linked known.links q) a) b p
      ≡ is_linked (known.links ++ (a, b) ∷ []) p
  both_linked a b p =
      go (is_linked known.links p) (same_port a p) (same_port b p)
      ∙ sym (list_any-append (λ link. same_port link.0 p || same_port link.1 p) known.links
      ((a, b) ∷ []))
    where
      go : (x y z : Bool) → ((x || y) || z) ≡ (x || ((y || z) || false))
      go true y z = refl
      go false true z = refl
      go false false true = refl
      go false false false = refl

  module _ (a b : PortRef) (first : IsEnd known a) (second : IsEnd known b)
      (apart : same_port a b ≡ false) (free_a : peer_in known.links a ≡ None)
      (free_b : peer_in known.links b ≡ None) where
    differ : (p q : PortRef) → same_port p q ≡ false → p ≢ q
    differ p q other same =
        let is = ap (λ r. same_port p r) (sym same) ∙ same_port-refl p in
        absurd (false≢true (sym other ∙ is))

    here : peer_in (known.links ++ (a, b) ∷ []) a ≡ Some b
    here = peer-behind known.links (a, b) a free_a ∙ rw (same_port-refl a) refl

    there : peer_in (known.links ++ (a, b) ∷ []) b ≡ Some a
    there = peer-behind known.links (a, b) b free_b ∙ rw (apart, same_port-refl b) refl

    ends_joined : (p q : PortRef) → peer_in (known.links ++ (a, b) ∷ []) p ≡ Some q
        → AreEnds (next (Link a b)) p q
    ends_joined p q is = go (peer_in known.links p) refl
      where
        last : (s t : Bool) → same_port a p ≡ s → same_port b p ≡ t
            → (if s then Some b else (if t then Some a else None)) ≡ Some q
            → AreEnds (next (Link a b)) p q
        last true t s_is t_is found =
            subst (λ r. AreEnds (next (Link a b)) p r) (same_Some b q found)
            (subst (λ r. AreEnds (next (Link a b)) r b) (port_is a p s_is)
            (record { first = first; back = there; apart = differ a b apart }))
        last false true s_is t_is found =
            subst (λ r. AreEnds (next (Link a b)) p r) (same_Some a q found)
            (subst (λ r. AreEnds (next (Link a b)) r a) (port_is b p t_is)
            (record {
              first = second;
              back = here;
              apart = λ same. differ a b apart (sym same);
            }))
        last false false s_is t_is found = absurd (cc)

        go : (o : Option PortRef) → peer_in known.links p ≡ o → AreEnds (next (Link a b)) p q
        go None none =
            last (same_port a p) (same_port b p) refl refl
            (sym (peer-behind known.links (a, b) p none) ∙ is)
        go (Some r) some =
            let ends = stage.ends p r some in
            let same = same_Some r q (sym (peer-before known.links (a, b) p r some) ∙ is) in
            subst (λ s. AreEnds (next (Link a b)) p s) same
            (record {
              first = ends.first;
              back = peer-before known.links (a, b) r p ends.back;
              apart = ends.apart;
            })

  no_peer : (p : PortRef) → is_linked known.links p ≡ false → peer_in known.links p ≡ None
  no_peer p none = go (peer_in known.links p) refl
    where
      go : (o : Option PortRef) → peer_in known.links p ≡ o → o ≡ None
      go None is = refl
      go (Some q) is =
          absurd (false≢true (sym none ∙ (sym (peer-linked known.links p)
          ∙ ap (λ o. is_some o) is)))

  end_is : (p : PortRef) → (p.node < length known.names) → p.port < ports_of known.nodes p.node
      → IsEnd known p
  end_is p inside below = let count = stage.count in (omega (arith, inside, count), below)

  -- a line that changes devices alone, or nothing
  same_known : (line : Line) → (next line).names ≡ known.names
      → (next line).nodes ≡ known.nodes → (next line).links ≡ known.links
      → AreNew (λ p. is_linked known.links p) (devices_after devices line)
      → Stage (next line) (devices_after devices line)
  same_known line names nodes links are =
      with_line line (subst (λ l. length l ≤ 64) (sym names) stage.few)
      (subst (λ l. AreNew (λ p. is_linked l p) (devices_after devices line)) (sym links) are)
      (λ p q is.
      let ends = stage.ends p q (ap (λ l. peer_in l p) (sym links) ∙ is) in
      record {
        first = (
          subst (λ l. p.node < length l) (sym nodes) ends.first.0,
          subst (λ l. p.port < ports_of l p.node) (sym nodes) ends.first.1,
        );
        back = ap (λ l. peer_in l q) links ∙ ends.back;
        apart = ends.apart;
      })

  -- one device is changed
  are_with : (n : ℕ) (change : Registers → Registers)
      → ((held : Registers) → slice_get devices n ≡ Some held
      → IsNew (λ p. is_linked known.links p) n held
      → IsNew (λ p. is_linked known.links p) n (change held))
      → AreNew (λ p. is_linked known.links p) (with_device devices n change)
  are_with n change here =
      are_changed (λ p. is_linked known.links p) (λ p. is_linked known.links p) devices n change
      here (λ node held apart is. is) stage.are

  -- what one more line makes
  pub stage_after : (line : Line) → MayBe known new line → IsFree known line
      → Stage (next line) (devices_after devices line)
  stage_after (Endpoint name id) may free =
      let most = may.fit.1.0.1 in
      with_line (Endpoint name id) (few_longer new (room (Endpoint name id) refl free))
      (are_longer (λ p. is_linked known.links p) devices (new_endpoint id false) stage.are
      (new_endpoint_is (λ p. is_linked known.links p) (length devices) id (omega (arith, most))
      unlinked))
      (ends_longer (AnEndpoint id) (next (Endpoint name id)) refl refl)
  stage_after (Switch name ports) may free =
      with_line (Switch name ports) (few_longer new (room (Switch name ports) refl free))
      (are_longer (λ p. is_linked known.links p) devices (new_switch ports 0) stage.are
      (new_switch_is (λ p. is_linked known.links p) (length devices) ports may.fit.1.0.1 unlinked))
      (ends_longer (ASwitch ports) (next (Switch name ports)) refl refl)
  stage_after (Link a b) may free =
      let parts = or_parts (same_port a b) (is_linked known.links a || is_linked known.links b)
      (free PortTaken) in
      let taken = or_parts (is_linked known.links a) (is_linked known.links b) parts.1 in
      with_line (Link a b) stage.few
      (are_as (also (also (λ p. is_linked known.links p) a) b)
      (λ p. is_linked (known.links ++ (a, b) ∷ []) p)
      (with_linked_end (with_linked_end devices a) b) (both_linked a b)
      (are_linked (also (λ p. is_linked known.links p) a) (with_linked_end devices a) b
      (are_linked (λ p. is_linked known.links p) devices a stage.are)))
      (ends_joined a b (end_is a may.fit.0.0 may.fit.0.2)
      (end_is b may.fit.1.0.0 may.fit.1.0.2) parts.0 (no_peer a taken.0) (no_peer b taken.1))
  stage_after (Route node id p) may free =
      same_known (Route node id p) refl refl refl (are_with node (routed id p)
      (λ held stands is. routed_is (λ q. is_linked known.links q) node held is id p))
  stage_after (Default node p) may free =
      same_known (Default node p) refl refl refl (are_with node (defaulted p)
      (λ held stands is. defaulted_is (λ q. is_linked known.links q) node held is p))
  stage_after (Lock node id) may free =
      let most = may.fit.1.0.1 in
      same_known (Lock node id) refl refl refl (are_with node (held_by id)
      (λ held stands is. held_by_is (λ q. is_linked known.links q) node held is id
      (omega (arith, most))))
  stage_after (Large node id) may free =
      let most = may.fit.1.0.1 in
      same_known (Large node id) refl refl refl (are_with node (large_set id)
      (λ held stands is. large_set_is (λ q. is_linked known.links q) node held id
      (omega (arith, most))
      (kind_known devices known.nodes node held stage.kinds stands ∙ free WrongKind) is))
  stage_after line may free = same_known line refl refl refl stage.are

-- what all lines make
pub stage_after_all : (known : Known) (names : List (List ℕ)) (devices : List Registers)
    (lines : List Numbered) → Stage known devices → PassesFrom known names lines
    → (end : Known) × Stage end (devices_after_all devices lines)
    × (end.links ≡ links_after_all known.links lines) × (end.names ≡ names)
stage_after_all known names devices [] stage passes = (known, stage, refl, passes)
stage_after_all known names devices (line ∷ lines) stage passes =
    stage_after_all (known_after known (new_name names line.line) line.line) names
    (devices_after devices line.line) lines
    (stage_after known (new_name names line.line) devices stage line.line passes.0 passes.1)
    passes.2

-- before the first line
pub first_stage : Stage nothing []
first_stage = record {
  mode = refl;
  count = refl;
  few = omega arith;
  kinds = refl;
  ports = refl;
  are = λ node held stands. absurd (cc);
  ends = λ p q is. absurd (cc);
}
