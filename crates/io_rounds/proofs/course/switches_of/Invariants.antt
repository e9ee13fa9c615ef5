use Rattle.std.proofs.Common.{◌≡◌, take}
use Rattle.io_rounds.proofs.BeginLaws.{kinds_in}
use Rattle.io_rounds.proofs.course.switches_of.Given as goal

abbrev pub invariant-loop-numbered : goal.invariant-loop-numbered
invariant-loop-numbered l = l.switches.items ≡ kinds_in (take l.numbered-index l.lines)
