use Rattle.std.proofs.Common.{◌≡◌, length}
use Rattle.link_model.specs.declared.event.Event.TheVariants.{Pkt}
use Rattle.link_wires.specs.Kept.{behind}
use Rattle.link_wires.specs.Heads.{events_of, size_of_all}
use Rattle.link_wires.proofs.kept.Kept.find_packet.Given as goal

-- the packet is looked for in what is left
abbrev pub invariant-loop-sent : goal.invariant-loop-sent
invariant-loop-sent l =
    let now = l.self-inside in
    let first = l.initial.self-inside in
    record {
      size : size_of_all now.heads.items ≡ length now.bytes;
      left : behind (Pkt l.ack l.packet) (events_of now.heads.items now.bytes)
          ≡ behind (Pkt l.ack l.packet) (events_of first.heads.items first.bytes);
    }

abbrev pub decreases-loop-sent : goal.decreases-loop-sent
decreases-loop-sent l = length l.self-inside.heads.items
