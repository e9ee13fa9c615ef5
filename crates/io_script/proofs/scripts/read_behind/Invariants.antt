use Rattle.std.proofs.Common.{◌+◌, ◌≤◌, length}
use Rattle.fabric_script.specs.Known.{Known}
use Rattle.script_input.specs.Inputs.{texts_of}
use Rattle.io_script.specs.IoTaking.{IsFabric}
use Rattle.io_script.proofs.IoThrough.{IsThrough}
use Rattle.io_script.proofs.scripts.read_behind.Given as goal

abbrev pub invariant-loop-text : goal.invariant-loop-text
invariant-loop-text l = record {
  few : l.number + length l.left ≤ l.fn.first + length l.fn.bytes;
  through : (known : Known)
      → IsFabric known l.fabric.names.now l.fabric.switches.now l.fabric.links
      → IsThrough known l.fn.first (texts_of l.fn.bytes) l.lines.items l.number l.earlier
      (texts_of l.left);
}

abbrev pub decreases-loop-text : goal.decreases-loop-text
decreases-loop-text l = length l.left
