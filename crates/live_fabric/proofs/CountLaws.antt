-- How many ports devices have: as many as their lines say, whatever comes.
use Rattle.std.proofs.Common.{◌≡◌, ℕ, zero, suc, List, [], ◌∷◌, ◌++◌, map, Some, slice_get, refl, ap, ◌∙◌, append-nil}
use Rattle.maint_registers.specs.Changes.{with_device, linked_at, standard_shown}
use Rattle.maint_registers.specs.Devices.{Registers}
use Rattle.maint_registers.proofs.SameLaws.{write_same}
use Rattle.fabric_script.specs.declared.lines.Line.{Line}
use Rattle.fabric_script.specs.declared.lines.Line.TheVariants.{Endpoint, Switch}
use Rattle.fabric_script.specs.declared.lines.Numbered.{Numbered}
use Rattle.fabric_model.specs.Network.{Network}
use Rattle.fabric_model.proofs.Devices.{map-with_device}
use Rattle.fabric_model.proofs.Nodes.{count_ports, counts_stay}
use Rattle.fabric_trace.specs.Boards.{IsSameBoard}
use Rattle.fabric_trace.specs.Events.{counts_after, counts_after_all, port_counts}
use Rattle.fabric_trace.specs.Fold.{edit_of, seen_line, seen}
use Rattle.fabric_trace.specs.Known.{Seen, peer_of}
use Rattle.fabric_trace.specs.Runs.{bare, set_up, set_up_all}
use Rattle.fabric_trace.proofs.Network.Boards.{changed_board}
use Rattle.fabric_trace.proofs.Parts.Folding.{edited_net, got_net, fired_net}
use Rattle.fabric_trace.proofs.SetUps.SettingUp.{made_by, set_up-map}
use Rattle.trace_lines.specs.Lines.{TraceLine, Begun, Stepped, Signed, Sent, Got, Fired}
use Rattle.fabric_ports.specs.OwnRegisters.{device_with, seen_with, with_standard, with_standards}
use Rattle.fabric_ports.specs.Plans.{counts_of}
use Rattle.outside_lines.specs.declared.reading.OutsideLine.{OutsideLine}
use Rattle.outside_lines.specs.declared.reading.OutsideLine.TheVariants as Lines
use Rattle.live_fabric.specs.Outside.{after_outside}

-- ---- lines of set-up

counts_one : (net : Network) (counts : List ℕ) (line : Line) → counts_of net.registers ≡ counts
    → counts_of (set_up net line).registers ≡ counts_after counts line
counts_one net counts line same =
    set_up-map count_ports (λ device linked routes port lock large. refl) net line
    ∙ (ap (λ xs. xs ++ map count_ports (made_by line)) same ∙ by_line line)
  where
    by_line : (line : Line) → counts ++ map count_ports (made_by line) ≡ counts_after counts line
    by_line (Endpoint name id) = refl
    by_line (Switch name ports) = refl
    by_line _ = append-nil counts

counts_all : (net : Network) (counts : List ℕ) (lines : List Numbered)
    → counts_of net.registers ≡ counts
    → counts_of (set_up_all net lines).registers ≡ counts_after_all counts lines
counts_all net counts [] same = same
counts_all net counts (line ∷ lines) same =
    counts_all (set_up net line.line) (counts_after counts line.line) lines
    (counts_one net counts line.line same)

pub made_counts : (lines : List Numbered)
    → counts_of (set_up_all bare lines).registers ≡ port_counts lines
made_counts lines = counts_all bare [] lines refl

-- ---- what comes after them

-- each device has as many ports as before
abbrev pub KeepsCounts : Seen → Seen → Type 0
KeepsCounts old new = counts_of new.network.registers ≡ counts_of old.network.registers

abbrev net_counts : Network → List ℕ
net_counts net = counts_of net.registers

line_counts : (s : Seen) (line : TraceLine) → KeepsCounts s (seen_line s line)
line_counts s (Begun line) = ap net_counts (edited_net s (edit_of line))
line_counts s (Stepped step) = counts_stay s.network step
line_counts s (Signed (Sent p chars)) = refl
line_counts s (Signed (Got q chars)) = ap net_counts (got_net s (peer_of s q) q chars)
line_counts s (Signed (Fired p)) = ap net_counts (fired_net s (peer_of s p) p)
line_counts s _ = refl

pub seen_counts : (lines : List TraceLine) (s : Seen) → KeepsCounts s (seen s lines)
seen_counts [] s = refl
seen_counts (line ∷ lines) s = seen_counts lines (seen_line s line) ∙ line_counts s line

-- ---- devices that change without a packet

pub standard_counts : (s : Seen) (node : ℕ) → KeepsCounts s (with_standard node s)
standard_counts s node =
    map-with_device count_ports s.network.registers node standard_shown (λ device. refl)

pub standards_counts : (n : ℕ) (s : Seen) → KeepsCounts s (with_standards n s)
standards_counts zero s = refl
standards_counts (suc n) s =
    standard_counts (with_standards n s) n ∙ standards_counts n s

counts_with : (devices : List Registers) (node : ℕ) (device next : Registers)
    → slice_get devices node ≡ Some device → next.ports ≡ device.ports
    → counts_of (with_device devices node (λ other. next)) ≡ counts_of devices
counts_with [] node device next there same = refl
counts_with (first ∷ devices) zero device next there same =
    let is : device.ports ≡ first.ports = cc in
    ap (λ n. n ∷ counts_of devices) (same ∙ is)
counts_with (first ∷ devices) (suc node) device next there same =
    ap (λ counts. first.ports ∷ counts) (counts_with devices node device next there same)

pub own_counts : (s : Seen) (node : ℕ) (device : Registers) (offset value : ℕ)
    → slice_get s.network.registers node ≡ Some device
    → KeepsCounts s (seen_with node device offset value s)
own_counts s node device offset value there =
    counts_with s.network.registers node device (device_with device offset value) there
    (write_same device offset value).ports

-- ---- lines of devices outside

pub outside_counts : (line : OutsideLine) (s : Seen) → KeepsCounts s (after_outside line s)
outside_counts (Lines.External at) s =
    map-with_device count_ports s.network.registers at.port.node (linked_at at.port.port)
    (λ device. refl)
outside_counts (Lines.Sent at chars) s = refl
outside_counts (Lines.Pump port count) s = refl
outside_counts (Lines.Timeout port) s = refl

pub outside_board : (line : OutsideLine) (s : Seen)
    → IsSameBoard s.network (after_outside line s).network
outside_board (Lines.External at) s =
    changed_board s.network at.port.node (linked_at at.port.port) (λ device. refl)
outside_board (Lines.Sent at chars) s =
    record { count = refl; kinds = λ n. refl; links = refl }
outside_board (Lines.Pump port count) s =
    record { count = refl; kinds = λ n. refl; links = refl }
outside_board (Lines.Timeout port) s =
    record { count = refl; kinds = λ n. refl; links = refl }
