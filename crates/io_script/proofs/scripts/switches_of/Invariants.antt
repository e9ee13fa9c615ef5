use Rattle.std.proofs.Common.{◌≡◌, take}
use Rattle.io_script.specs.IoTaking.{switches_of}
use Rattle.io_script.proofs.scripts.switches_of.Given as goal

abbrev pub invariant-loop-line : goal.invariant-loop-line
invariant-loop-line l = l.switches.items ≡ switches_of (take l.line-index l.lines)
