use Rattle.host_enumerate.proofs.LinesLeft.{IsLeft}
use Rattle.host_enumerate.proofs.devising.Devised.by.Given as goal

abbrev pub invariant-loop-numbered : goal.invariant-loop-numbered
invariant-loop-numbered l =
    IsLeft l.script.names.items l.script.lines.items l.numbered-index l.devised.devices.items
    l.devised.links.items
