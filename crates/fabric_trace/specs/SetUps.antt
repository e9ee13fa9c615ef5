-- Which networks the lines of set-up may give.
use Rattle.std.specs.Prelude.{◌≡◌, ◌<◌, ◌≤◌, false, List, [], ◌∷◌, length, None, ⊤}
use Rattle.std.specs.List.{AllByRecursion}
use Rattle.link_sound.specs.Histories.{AreBuffers}
use Rattle.maint_registers.specs.Within.{IsWithin}
use Rattle.fabric_script.specs.declared.ports.PortRef.{PortRef}
use Rattle.fabric_script.specs.declared.lines.Line.{Line}
use Rattle.fabric_script.specs.declared.lines.Line.TheVariants.{Endpoint, Switch, Link, Buffers, Route, Default, Lock, Large}
use Rattle.fabric_script.specs.declared.lines.Numbered.{Numbered}
use Rattle.fabric_model.specs.Network.{Network, IsEndpoint, IsSwitch, same_port, peer_in}
use Rattle.fabric_model.specs.Laws.History.{IsEmptyNetwork}
use Rattle.fabric_model.specs.Laws.Proper.{AreProper}
use Rattle.fabric_trace.specs.Settings.{set_up}

-- No packet was taken, each port stands in at most one link and has 4 to 30 receive buffers, and
-- each number of a device fits its register.
pub record IsSetUp (net : Network) : Type 0 where
  pub empty : IsEmptyNetwork net
  pub proper : AreProper net.links
  pub buffers : (p : PortRef) → AreBuffers (net.buffers p)
  pub within : AllByRecursion IsWithin net.registers

-- What a line needs: a switch has 2 to 16 ports; a link joins two ports that have none; 4 to 30
-- buffers; a route is one of a switch, a 16-bit ID that of an endpoint, and a lock that of a node;
-- and IDs, routes and locks fit their registers.
abbrev pub MaySetUp : Network → Line → Type 0
MaySetUp net (Link a b) =
    (same_port a b ≡ false) × (peer_in net.links a ≡ None) × (peer_in net.links b ≡ None)
MaySetUp net (Endpoint name id) = id < 0x100
MaySetUp net (Switch name ports) = (2 ≤ ports) × (ports ≤ 16)
MaySetUp net (Buffers port n) = AreBuffers n
MaySetUp net (Route node id p) = IsSwitch net node × (id < 0x400) × (p < 0x100)
MaySetUp net (Default node p) = IsSwitch net node × (p < 0x100)
MaySetUp net (Lock node id) = (node < length net.registers) × (id < 0x10000)
MaySetUp net (Large node id) = IsEndpoint net node × (id < 0x10000)
MaySetUp net _ = ⊤

-- the same of each line of a script, after the lines before it
abbrev pub MaySetUpAll : Network → List Numbered → Type 0
MaySetUpAll net [] = ⊤
MaySetUpAll net (line ∷ script) = MaySetUp net line.line × MaySetUpAll (set_up net line.line) script
