-- What `enumerate` reads and writes: set-up lines, the lines of a host's asks, and the map.
use Rattle.std.specs.Prelude.{◌≡◌, ◌<◌, ◌⊎◌, ℕ, ◌+◌, List, [], ◌++◌, length, Option, Result, Ok, Err, codes}
use Rattle.std.specs.Io.KnownBytes.{Appends, Keeps}
use Rattle.rio_chars.specs.Faults.{Rose}
use Rattle.rio_chars.specs.Fronts.{AppendsFront}
use Rattle.rio_chars.specs.declared.edit.Edit.{Edit}
use Rattle.fabric_script.specs.declared.lines.Numbered.{Numbered}
use Rattle.fabric_script.specs.Known.{of_set_up}
use Rattle.fabric_script.specs.Scripts.{IsScriptIn, RefusedIn}
use Rattle.fabric_script.specs.Reasons.{reason_number}
use Rattle.fabric_map.specs.Topology.{Topology}
use Rattle.fabric_map.specs.Routes.{AllRegisters}
use Rattle.fabric_map.specs.Plain.{topology_of, registers_of}
use Rattle.fabric_map.specs.Numbered.{IsNumbered}
use Rattle.fabric_map.specs.declared.map.Device.{Device}
use Rattle.fabric_map.specs.declared.map.Entry.{Entry}
use Rattle.fabric_map.specs.declared.map.Map.{Map}
use Rattle.host_enumerate.specs.Devised.{devices_of, links_of}
use Rattle.host_enumerate.specs.Ends.{EndsAtLock, IsLockFree}
use Rattle.host_enumerate.specs.Hosts.{reason_of, FindsHost}
use Rattle.host_enumerate.specs.Underway.{AreUntagged}
use Rattle.host_enumerate.specs.MapTexts.{map_text, locked_text}
use Rattle.host_enumerate.specs.declared.devising.NoHost.{NoHost}
use Rattle.host_enumerate.specs.declared.ends.EnumEnd.{EnumEnd}
use Rattle.host_enumerate.specs.declared.ends.EnumEnd.TheVariants as Ends
use Rattle.fabric_trace.specs.Known.{Seen}
use Rattle.trace_lines.specs.Lines.{TraceLine}
use Rattle.fabric_trace.specs.Runs.{start}
use Rattle.trace_lines.specs.Text.{trace_text}
use Rattle.fabric_ports.specs.declared.noise.Quiet.{Quiet}
use Rattle.fabric_maint.specs.Asked.{Asked}
use Rattle.fabric_maint.specs.Going.{LeadsTo, FrontOfAsk, topology_in, registers_in, StandsWhole, MaintRestsAt, Followed}
use Rattle.fabric_maint.specs.declared.maint.FabricMaint.{FabricMaint}
use Rattle.script_input.specs.Inputs.{texts_of}
use Rattle.rio_cli.specs.declared.status.Status.{Status}
use Rattle.rio_cli.specs.declared.status.Status.TheVariants.{Done, Words, Script, ReadFault, WriteFault, NoMemory, Undetected, TooLong, Locked, Unlawful}

-- ---- what is read

-- The bytes spell set-up lines, and the node of this name is the host among them.
pub record HasHost (word bytes : List ℕ) : Type 0 where
  pub names : List (List ℕ)
  pub lines : List Numbered
  pub spells : IsScriptIn of_set_up bytes names lines
  pub host : ℕ
  pub found : FindsHost names (devices_of lines) (links_of lines) word (Ok host)

-- A line is refused; or none is, and the node of this name cannot be the host, which is told at the
-- line after the last.
pub data IsRefusedFor (word bytes : List ℕ) : (line reason : ℕ) → Type 0 where
  HitFor : {line reason : ℕ} → RefusedIn of_set_up bytes line reason
      → IsRefusedFor word bytes line reason
  NotHostFor : (names : List (List ℕ)) (lines : List Numbered) (end : NoHost)
      → IsScriptIn of_set_up bytes names lines
      → FindsHost names (devices_of lines) (links_of lines) word (Err end)
      → IsRefusedFor word bytes (length (texts_of bytes) + 1) (reason_number (reason_of end))

-- ---- what a host does

-- no wire meets an edit
abbrev pub no_edits : Quiet → List Edit
no_edits quiet = []

-- the devices and links of set-up lines, and the host
abbrev pub topology_for : List Numbered → ℕ → Topology
topology_for lines host = topology_of (devices_of lines) (links_of lines) host

-- the registers behind set-up lines
abbrev pub registers_for : List Numbered → AllRegisters
registers_for lines = registers_of (devices_of lines)

-- The host of a new fabric of its script, which has asked nothing yet.
pub record IsNewHost {K : Type 0} (written : K → Option (List ℕ)) (faults : K → ℕ)
    (maint : FabricMaint Quiet K) : Type 0 where
  pub whole : StandsWhole maint
  pub rests : MaintRestsAt maint.host (start maint.script.now.lines.items) maint.fabric.now
  pub registers : registers_in maint ≡ registers_for maint.script.now.lines.items
  pub untagged : AreUntagged (topology_in maint) (registers_in maint)
  pub has_id : (registers_in maint maint.host).base_id < 255
  pub first : maint.tid ≡ 0
  pub follows : Followed no_edits written faults maint maint

-- From the state behind the set-up lines on a host has made asks. These are their lines; they may
-- stand in a trace, every event that was acted on was sent, and they lead to these registers, but
-- for what the host wrote to its own.
pub record HasAsked (lines : List Numbered) (host : ℕ) (trace : List TraceLine)
    (after : AllRegisters)
    : Type 0 where
  pub end : Seen
  pub tid : ℕ
  pub asked : Asked [] host (start lines) 0 trace [] end tid
  pub leads : LeadsTo host (start lines) trace end
  pub after_is : after ≡ registers_of end.network.registers

-- The lines of the asks of a host were written, and lead to these registers.
pub record ToldAsks (names : List (List ℕ)) (lines : List Numbered) (host : ℕ)
    (written written_after : Option (List ℕ)) (after : AllRegisters) : Type 0 where
  pub trace : List TraceLine
  pub asked : HasAsked lines host trace after
  pub told : Appends written written_after (trace_text names trace)

-- The lines of the asks of a host were written, and then a front of the lines of one more.
pub record ToldAsksFront (names : List (List ℕ)) (lines : List Numbered) (host : ℕ)
    (written written_after : Option (List ℕ)) : Type 0 where
  pub trace : List TraceLine
  pub end : Seen
  pub tid : ℕ
  pub asked : Asked [] host (start lines) 0 trace [] end tid
  pub leads : LeadsTo host (start lines) trace end
  pub part : List ℕ
  pub told : Appends written written_after (trace_text names trace ++ part)
  pub begun : FrontOfAsk [] host names (start lines) trace end tid part

-- ---- what it answers

-- The fabric is numbered, and no device that is reached had the lock of another host.
pub record IsMapOf (lines : List Numbered) (host : ℕ) (devices : List Device)
    (entries : List Entry) (after : AllRegisters) : Type 0 where
  pub numbered : IsNumbered (topology_for lines host) devices entries (registers_for lines) after
  pub free : IsLockFree (topology_for lines host) (registers_for lines)

-- by what the asks came to; no event is acted on that was not sent
abbrev pub Maps : List (List ℕ) → List Numbered → ℕ → Option (List ℕ) → Option (List ℕ)
    → Result Map EnumEnd → Type 0
Maps names lines host written written_after (Ok map) = (after : AllRegisters)
    × ToldAsks names lines host written written_after after
    × IsMapOf lines host map.devices.items map.entries.items after
Maps names lines host written written_after (Err (Ends.LockedBy path id)) = (after : AllRegisters)
    × ToldAsks names lines host written written_after after
    × EndsAtLock (topology_for lines host) (registers_for lines) after path id
Maps names lines host written written_after (Err (Ends.Undetected port event)) = ⊥
Maps names lines host written written_after (Err Ends.WriteFault) =
    ToldAsksFront names lines host written written_after
Maps names lines host written written_after (Err Ends.NoMemory) =
    ToldAsksFront names lines host written written_after

-- ---- what is written

-- the lines of the asks, then the map, then `end`
abbrev pub numbered_text : List (List ℕ) → List TraceLine → List Device → List Entry → List ℕ
numbered_text names trace devices entries =
    trace_text names trace ++ (map_text devices entries ++ codes "end\n")

-- The text of a fabric that was numbered.
pub record NumbersTo (names : List (List ℕ)) (lines : List Numbered) (host : ℕ) (text : List ℕ)
    : Type 0 where
  pub trace : List TraceLine
  pub after : AllRegisters
  pub asked : HasAsked lines host trace after
  pub devices : List Device
  pub entries : List Entry
  pub map : IsMapOf lines host devices entries after
  pub text_is : text ≡ numbered_text names trace devices entries

-- The text of a fabric of which another host holds a device that is reached: the lines of the asks,
-- and the line that names the first such device.
pub record LocksTo (names : List (List ℕ)) (lines : List Numbered) (host : ℕ) (text : List ℕ)
    : Type 0 where
  pub trace : List TraceLine
  pub after : AllRegisters
  pub asked : HasAsked lines host trace after
  pub path : List ℕ
  pub id : ℕ
  pub locked : EndsAtLock (topology_for lines host) (registers_for lines) after path id
  pub text_is : text ≡ trace_text names trace ++ locked_text path id

-- either text
abbrev pub EndsTo : List (List ℕ) → List Numbered → ℕ → List ℕ → Type 0
EndsTo names lines host text = NumbersTo names lines host text ⊎ LocksTo names lines host text

-- a front was written: of the lines of the asks, or of what stands behind them
abbrev pub EndsFront : List (List ℕ) → List Numbered → ℕ → Option (List ℕ) → Option (List ℕ)
    → Type 0
EndsFront names lines host written written_after =
    ToldAsksFront names lines host written written_after
    ⊎ ((text : List ℕ) × EndsTo names lines host text × AppendsFront written written_after text)

-- by the status; memory may run out before anything is written
abbrev pub SaysOfHost : List (List ℕ) → List Numbered → ℕ → Status → Option (List ℕ) → ℕ
    → Option (List ℕ) → ℕ → Type 0
SaysOfHost names lines host Done written faults written_after faults_after =
    (text : List ℕ) × NumbersTo names lines host text × Appends written written_after text
SaysOfHost names lines host Locked written faults written_after faults_after =
    (text : List ℕ) × LocksTo names lines host text × Appends written written_after text
SaysOfHost names lines host WriteFault written faults written_after faults_after =
    Rose faults faults_after × EndsFront names lines host written written_after
SaysOfHost names lines host NoMemory written faults written_after faults_after =
    Keeps written written_after ⊎ EndsFront names lines host written written_after
SaysOfHost names lines host Undetected written faults written_after faults_after = ⊥
SaysOfHost names lines host Words written faults written_after faults_after = ⊥
SaysOfHost names lines host Script written faults written_after faults_after = ⊥
SaysOfHost names lines host ReadFault written faults written_after faults_after = ⊥
SaysOfHost names lines host TooLong written faults written_after faults_after = ⊥
SaysOfHost names lines host Unlawful written faults written_after faults_after = ⊥

-- ---- of the bytes

-- The bytes have a host, and the whole text of its map was written.
pub record Numbers (word bytes : List ℕ) (written written_after : Option (List ℕ)) : Type 0 where
  pub is : HasHost word bytes
  pub text : List ℕ
  pub to : NumbersTo is.names is.lines is.host text
  pub told : Appends written written_after text

-- The bytes have a host, and it met a device that another host holds.
pub record FindsLock (word bytes : List ℕ) (written written_after : Option (List ℕ)) : Type 0 where
  pub is : HasHost word bytes
  pub text : List ℕ
  pub to : LocksTo is.names is.lines is.host text
  pub told : Appends written written_after text

-- The bytes have a host, and a front was written.
pub record NumbersFront (word bytes : List ℕ) (written written_after : Option (List ℕ)) : Type 0
  where
    pub is : HasHost word bytes
    pub front : EndsFront is.names is.lines is.host written written_after
