use Rattle.std.proofs.Common.{◌≡◌, ◌≤◌, take}
use Rattle.io_script.specs.IoTaking.{links_among}
use Rattle.io_script.proofs.scripts.count_links.Given as goal

abbrev pub invariant-loop-line : goal.invariant-loop-line
invariant-loop-line l = record {
  count : l.links ≡ links_among (take l.line-index l.lines);
  few : l.links ≤ l.line-index;
}
