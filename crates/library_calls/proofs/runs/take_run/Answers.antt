use Rattle.std.proofs.Common.{◌≡◌, ℕ, suc, ◌-◌, ◌≤◌, length, get_or, take, drop, sym, ap, ◌∙◌, subst, rules, arith}
use Rattle.link_port.specs.Ports.{PortState}
use Rattle.link_port.specs.Steps.{takes}
use Rattle.link_port.specs.Streams.{Streamed, followed, takes_each}
use Rattle.library_calls.specs.Wires.{wire_char, wire_chars}
use Rattle.library_calls.proofs.ReadingLaws.{first_number}
use Rattle.library_calls.proofs.RunLaws.{IsRun, IsRun-begin, IsRun-end, IsRunWithin-more, each-next, each-none}
use Rattle.library_calls.proofs.runs.take_run.Goals as goal

pub loop-left-init : goal.loop-left-init
loop-left-init c = record {
  run = IsRun-begin (takes_each c.args.port.now (wire_chars c.args.numbers.now)) c.args.room.now;
  held = omega arith;
  freed = omega arith;
  sent = omega arith;
}

pub add_char-requires : goal.add_char-requires
add_char-requires c =
    let h = c.loop-left.invariant in record {
      held = omega (arith, h.held, c.requires.few, c.in-len1-up.len_at_least);
      freed = omega (arith, h.freed, c.requires.few, c.in-len1-up.len_at_least);
      sent = omega (arith, h.sent, c.requires.few, c.in-len1-up.len_at_least);
      room =
          omega (arith, h.sent, c.requires.room, c.in-len1-up.len_at_least, c.loop-left.auto.room);
    }

pub loop-left-preserved : goal.loop-left-preserved
loop-left-preserved c =
    let left = c.loop-left.left.now in
    let first : ℕ = get_or left 0 0 in
    let rest = take (length left - 1) (drop 1 left) in
    let port = c.loop-left.port in
    let one : length left ≡ suc (length rest) =
    ap length (first_number left 0 c.in-len1-up.len_at_least) in
    IsRunWithin-more (takes port (wire_char first)) (length c.args.numbers.now) (length left)
    (length rest) c.loop-left.invariant
    (each-next port left rest first (first_number left 0 c.in-len1-up.len_at_least)
    ∙ ap (λ (p : PortState). followed (takes port (wire_char first))
    (takes_each p (wire_chars rest))) (sym c.add_char.ensures.port))
    c.add_char.ensures.adds one

pub returns : goal.returns
returns c =
    let few : length c.loop-left.left.now ≤ 0 = search rules in
    let port = c.loop-left.port in
    let ends = IsRun-end port
    (subst (λ (s : Streamed). IsRun (takes_each c.args.port.now (wire_chars c.args.numbers.now)) s
    c.loop-left.did c.args.room.now c.loop-left.room)
    (each-none port c.loop-left.left.now few) c.loop-left.invariant.run) in
    record { port = sym ends.0; did = ends.1 }
