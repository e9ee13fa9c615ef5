use Rattle.std.proofs.Common.{◌≡◌, length}
use Rattle.link_model.specs.declared.event.Event.TheVariants.{Ctl}
use Rattle.link_wires.specs.Kept.{behind}
use Rattle.link_wires.specs.Heads.{events_of, size_of_all}
use Rattle.link_wires.proofs.kept.Kept.find_symbol.Given as goal

-- the symbol is looked for in what is left
abbrev pub invariant-loop-head : goal.invariant-loop-head
invariant-loop-head l =
    let now = l.self-inside in
    let first = l.initial.self-inside in
    record {
      size : size_of_all now.heads.items ≡ length now.bytes;
      left : behind (Ctl l.symbol) (events_of now.heads.items now.bytes)
          ≡ behind (Ctl l.symbol) (events_of first.heads.items first.bytes);
    }

abbrev pub decreases-loop-head : goal.decreases-loop-head
decreases-loop-head l = length l.self-inside.heads.items
