-- What is known of earlier lines of a script is so of the network that they set up.
use Rattle.fabric_trace.proofs.Prelude.{◌≡◌, ℕ, ◌<◌, zero, suc, Bool, false, not, List, [], ◌∷◌, ◌++◌, Option, Some, map, length, refl, sym, ap, ◌∙◌, arith, append-nil, not-false, length-map, map-append, slice_get-map, Line, Endpoint, Switch, Known, known_after, nodes_after, links_after, node_is_switch, is_known_switch, nothing_in, is_switch, Network, IsEndpoint, IsSwitch, switch_at, bare, set_up}
use Rattle.std.specs.List.{slice_get}
use Rattle.fabric_script.proofs.KnownLaws.{count-after}
use Rattle.fabric_trace.proofs.SetUps.SettingUp.{set_up-links, made_by, set_up-kinds}
use Rattle.fabric_script.specs.declared.known.Mode.{Mode}

-- The links, and which nodes are switches, are as they are known to be, and each node has a name.
pub record KnowsNetwork (known : Known) (net : Network) : Type 0 where
  pub linked : net.links ≡ known.links
  pub count : length known.nodes ≡ length known.names
  pub kinds : map is_switch net.registers ≡ map (λ node. node_is_switch (Some node)) known.nodes

kinds_made : (known : Known) (line : Line)
    → map (λ node. node_is_switch (Some node)) known.nodes ++ map is_switch (made_by line)
    ≡ map (λ node. node_is_switch (Some node)) (nodes_after known.nodes line)
kinds_made known (Endpoint name id) =
    sym (map-append (λ node. node_is_switch (Some node)) known.nodes _)
kinds_made known (Switch name ports) =
    sym (map-append (λ node. node_is_switch (Some node)) known.nodes _)
kinds_made known _ = append-nil _

pub knows-after : (known : Known) (new : List ℕ) (net : Network) (line : Line)
    → KnowsNetwork known net → KnowsNetwork (known_after known new line) (set_up net line)
knows-after known new net line s = record {
  linked = set_up-links net line ∙ ap (λ links. links_after links line) s.linked;
  count = count-after known new line s.count;
  kinds = set_up-kinds net line ∙ ap (λ kinds. kinds ++ map is_switch (made_by line)) s.kinds
      ∙ kinds_made known line;
}

-- a node that is known is a switch of the network, or an endpoint, as it is known to be
kind_at : (known : Known) (net : Network) (n : ℕ) → KnowsNetwork known net → n < length known.names
    → switch_at net n ≡ Some (is_known_switch known.nodes n)
kind_at known net n s within =
    let same = s.count in
    sym (slice_get-map is_switch net.registers n) ∙ ap (λ kinds. slice_get kinds n) s.kinds
    ∙ there node_is_switch known.nodes n (omega arith)
  where
    there : {N : Type 0} (f : Option N → Bool) (nodes : List N) (n : ℕ) → n < length nodes
        → slice_get (map (λ node. f (Some node)) nodes) n ≡ Some (f (slice_get nodes n))
    there f [] n within = absurd (omega arith)
    there f (node ∷ nodes) zero within = refl
    there f (node ∷ nodes) (suc n) within = there f nodes n (omega arith)

pub endpoint_at : (known : Known) (net : Network) (n : ℕ) → KnowsNetwork known net
    → n < length known.names → is_known_switch known.nodes n ≡ false → IsEndpoint net n
endpoint_at known net n s within own = kind_at known net n s within ∙ ap Some own

pub switch_is_at : (known : Known) (net : Network) (n : ℕ) → KnowsNetwork known net
    → n < length known.names → not (is_known_switch known.nodes n) ≡ false → IsSwitch net n
switch_is_at known net n s within own =
    kind_at known net n s within ∙ ap Some (not-false (is_known_switch known.nodes n) own)

pub device_at : (known : Known) (net : Network) (n : ℕ) → KnowsNetwork known net
    → n < length known.names → n < length net.registers
device_at known net n s within =
    let names = s.count in
    let nodes : length net.registers ≡ length known.nodes =
    sym (length-map net.registers is_switch) ∙ ap length s.kinds
    ∙ length-map known.nodes (λ node. node_is_switch (Some node)) in
    omega arith

-- before the first line
pub knows_bare : (mode : Mode) → KnowsNetwork (nothing_in mode) bare
knows_bare mode = record { linked = refl; count = refl; kinds = refl }
