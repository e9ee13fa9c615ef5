-- The ports that a replay tells of are of nodes that have names.
use Rattle.std.proofs.Common.{◌≡◌, ◌≢◌, ℕ, ◌+◌, ◌<◌, ◌≤◌, suc, zero, Bool, true, false, List, [], ◌∷◌, ◌++◌, All, map, Some, None, length, length-append, slice_get, refl, sym, ap, ◌∙◌, subst, arith, if◌then◌else◌}
use Rattle.std.proofs.lemmas.List.{length-map}
use Rattle.std.proofs.lemmas.List.Elements.{All-head, All-tail}
use Rattle.maint_registers.specs.Devices.{Registers, is_switch}
use Rattle.fabric_script.specs.declared.ports.PortRef.{PortRef}
use Rattle.fabric_script.specs.declared.lines.Line.{Line}
use Rattle.fabric_script.specs.declared.lines.Line.TheVariants.{Endpoint, Switch}
use Rattle.fabric_script.specs.declared.lines.Numbered.{Numbered}
use Rattle.fabric_script.specs.Known.{Known, one_event, nothing, known_after}
use Rattle.fabric_script.specs.Lines.{new_name}
use Rattle.fabric_script.specs.Reading.{IsFree}
use Rattle.fabric_script.specs.Scripts.{PassesFrom, ScriptPasses}
use Rattle.fabric_script.proofs.KnownLaws.{within_nodes}
use Rattle.fabric_model.specs.Network.{Network, same_port, peer_in}
use Rattle.fabric_model.proofs.Peers.{port_is}
use Rattle.fabric_trace.specs.Boards.{IsSameBoard}
use Rattle.fabric_trace.specs.Fold.{seen}
use Rattle.fabric_trace.specs.Known.{UndetectedAt, Seen}
use Rattle.trace_lines.specs.Lines.{TraceLine}
use Rattle.fabric_trace.specs.Runs.{bare, set_up, set_up_all, start}
use Rattle.fabric_trace.proofs.Network.Boards.{same_board, seen_board, found_linked}
use Rattle.fabric_trace.proofs.SetUps.SettingUp.{made_by, set_up-kinds}
use Rattle.fabric_ports.specs.Places.{HasPort}
use Rattle.fabric_ports.specs.Showing.{ends_of, ShowsCable}
use Rattle.fabric_ports.specs.Standing.{Stands}
use Rattle.fabric_ports.specs.declared.fabric.Cable.{Cable}
use Rattle.fabric_ports.specs.declared.fabric.Fabric.{Fabric}

-- ---- each device has a name

-- how many devices there are with one more line
count_after : (net : Network) (line : Line) → length (set_up net line).registers
    ≡ length net.registers + length (made_by line)
count_after net line =
    let before : length (map is_switch net.registers) ≡ length net.registers =
    length-map net.registers is_switch in
    let made : length (map is_switch (made_by line)) ≡ length (made_by line) =
    length-map (made_by line) is_switch in
    let both : length (map is_switch net.registers ++ map is_switch (made_by line))
    ≡ length (map is_switch net.registers) + length (map is_switch (made_by line)) =
    length-append (map is_switch net.registers) (map is_switch (made_by line)) in
    let after : length (map is_switch (set_up net line).registers)
    ≡ length (set_up net line).registers = length-map (set_up net line).registers is_switch
    in
    let same = ap length (set_up-kinds net line) in
    omega (arith, before, made, both, after, same)

-- a line that makes a device gives it a name
names_made : (known : Known) (new : List ℕ) (line : Line) → length known.names
    + length (made_by line) ≤ length (known_after known new line).names
names_made known new (Endpoint name id) = omega (arith, length-append known.names (new ∷ []))
names_made known new (Switch name ports) = omega (arith, length-append known.names (new ∷ []))
names_made known new _ = omega arith

few_registers : (known : Known) (new : List ℕ) (net : Network) (line : Line) → length net.registers
    ≤ length known.names → length (set_up net line).registers
    ≤ length (known_after known new line).names
few_registers known new net line few =
    omega (arith, few, count_after net line, names_made known new line)

names_from : (known : Known) (names : List (List ℕ)) (net : Network) (lines : List Numbered)
    → length net.registers ≤ length known.names → PassesFrom known names lines
    → length (set_up_all net lines).registers ≤ length names
names_from known names net [] few passes = subst (λ l. length net.registers ≤ length l) passes few
names_from known names net (line ∷ lines) few passes =
    names_from (known_after known (new_name names line.line) line.line) names (set_up net line.line)
    lines (few_registers known (new_name names line.line) net line.line few) passes.2

-- ---- there are few names

-- the names with one more line
more_names : (known : Known) (new : List ℕ) (line : Line) → known.mode ≢ one_event
    → IsFree known line → length known.names ≤ 64
    → length (known_after known new line).names ≤ 64
more_names known new (Endpoint name id) apart free few =
    let room = within_nodes known (Endpoint name id) apart free refl
    in
    omega (arith, room, length-append known.names (new ∷ []))
more_names known new (Switch name ports) apart free few =
    let room = within_nodes known (Switch name ports) apart free refl
    in
    omega (arith, room, length-append known.names (new ∷ []))
more_names known new _ apart free few = few

few_from : (known : Known) (names : List (List ℕ)) (lines : List Numbered) → known.mode ≢ one_event
    → length known.names ≤ 64 → PassesFrom known names lines → length names ≤ 64
few_from known names [] apart few passes = subst (λ l. length l ≤ 64) passes few
few_from known names (line ∷ lines) apart few passes =
    few_from (known_after known (new_name names line.line) line.line) names lines apart
    (more_names known (new_name names line.line) line.line apart passes.1 few) passes.2

pub names_few : (names : List (List ℕ)) (script : List Numbered) → ScriptPasses names script
    → length names ≤ 256
names_few names script passes =
    let few = few_from nothing names script (λ is. absurd cc) (omega arith) passes
    in
    omega arith

-- ---- ports of cables

within_get : (devices : List Registers) (n port : ℕ) → HasPort (slice_get devices n) port → n
    < length devices
within_get [] n port has = absurd has
within_get (d ∷ devices) zero port has = omega arith
within_get (d ∷ devices) (suc n) port has =
    let within = within_get devices n port has
    in
    omega arith

cable_port : (devices : List Registers) (s : Seen) (cables : List Cable) (port p : PortRef)
    → All (ShowsCable devices s) cables → peer_in (map ends_of cables) port ≡ Some p → port.node
    < length devices
cable_port devices s [] port p shown linked = absurd cc
cable_port devices s (cable ∷ cables) port p shown linked =
    by_ends (same_port cable.a port) (same_port cable.b port) refl refl linked
    (λ at. cable_port devices s cables port p
    (All-tail (ShowsCable devices s) cable cables shown) at)
  where
    own : ShowsCable devices s cable
    own = All-head (ShowsCable devices s) cable cables shown

    by_ends : (a b : Bool) → same_port cable.a port ≡ a → same_port cable.b port ≡ b
        → (if a then Some cable.b else
        (if b then Some cable.a else peer_in (map ends_of cables) port)) ≡ Some p
        → (peer_in (map ends_of cables) port ≡ Some p → port.node < length devices) → port.node
        < length devices
    by_ends true b is_a is_b at later = subst (λ (x : PortRef). x.node < length devices)
        (port_is cable.a port is_a) (within_get devices cable.a.node cable.a.port own.port_a)
    by_ends false true is_a is_b at later = subst (λ (x : PortRef). x.node < length devices)
        (port_is cable.b port is_b) (within_get devices cable.b.node cable.b.port own.port_b)
    by_ends false false is_a is_b at later = later at

-- ---- of a fabric that stands

module _ (names : List (List ℕ)) (script : List Numbered) (from : Seen) (lines : List TraceLine)
    (fabric : Fabric) (passes : ScriptPasses names script)
    (board : IsSameBoard (set_up_all bare script) from.network)
    (stands : Stands from lines fabric) where
  pub names_suffice_on : length fabric.devices.items ≤ length names
  names_suffice_on =
      let few = names_from nothing names bare script (omega arith) passes in
      let known = sym ((seen_board lines from).count ∙ board.count)
      ∙ ap length stands.shows.registers in
      omega (arith, few, known)

  pub found_named_on : (all : List TraceLine) (found : UndetectedAt) → from.undetected ≡ None
      → (seen from all).undetected ≡ Some found → found.port.node < length names
  found_named_on all found none finds =
      let linked = found_linked all from found none finds in
      let links = sym (seen_board lines from).links ∙ sym stands.shows.links in
      let within = cable_port fabric.devices.items (seen from lines) fabric.cables.items
      found.port linked.0 stands.shows.cables
      (ap (λ (l : List (PortRef × PortRef)). peer_in l found.port) (sym links) ∙ linked.1) in
      let few = names_suffice_on in
      omega arith

pub names_suffice : (names : List (List ℕ)) (script : List Numbered) (lines : List TraceLine)
    (fabric : Fabric) → ScriptPasses names script → Stands (start script) lines fabric
    → length fabric.devices.items ≤ length names
names_suffice names script lines fabric passes stands =
    let net = set_up_all bare script in
    names_suffice_on names script (start script) lines fabric passes (same_board net net refl)
    stands

pub found_named : (names : List (List ℕ)) (script : List Numbered) (lines all : List TraceLine)
    (fabric : Fabric) (found : UndetectedAt) → ScriptPasses names script
    → Stands (start script) lines fabric
    → (seen (start script) all).undetected ≡ Some found → found.port.node < length names
found_named names script lines all fabric found passes stands finds =
    let net = set_up_all bare script in
    found_named_on names script (start script) lines fabric passes (same_board net net refl)
    stands all found refl finds
