use Rattle.host_enumerate.proofs.Prelude.{◌≡◌, ◌≤◌, ◌-◌, length, onward, AllRegisters, HasFound, HasAnswered, IsNumbering}
use Rattle.host_enumerate.proofs.walk.+explore.Given as goal

abbrev pub decreases-explore : goal.decreases-explore
decreases-explore g l = 64 - length l.numbering.now.devices.items

abbrev pub invariant-loop-port : goal.invariant-loop-port
invariant-loop-port g l = record {
  goes_on : HasAnswered g.M.Maint l.initial.maint l.maint;
  found : HasFound g.M.Maint l.maint l.numbering l.switch;
  tried : (before : AllRegisters)
      → IsNumbering g.M.Maint l.initial.maint l.initial.numbering (onward l.switch.path 0) before
      → IsNumbering g.M.Maint l.maint l.numbering (onward l.switch.path l.port) before;
  host : l.numbering.host_id ≡ l.initial.numbering.host_id;
  longer : length l.initial.numbering.devices.items ≤ length l.numbering.devices.items;
}
