use Rattle.std.proofs.Common.{◌≡◌, ◌-◌, ◌++◌, ◌<◌, List, ap, ◌∙◌, sym, arith}
use Rattle.rio_chars.specs.declared.chars.Char.{Char}
use Rattle.link_port.specs.Prelude.{Event, PortState, Burst, no_burst, turns_to, turn_sends}
use Rattle.link_port.specs.declared.sending.Sending.{Sending}
use Rattle.link_port.specs.declared.sending.Sending.TheVariants.{Nothing}
use Rattle.link_port.specs.Bursts.{sending_burst}
use Rattle.link_wires.specs.Wires.{port_turned, bursts}
use Rattle.link_wires.proofs.QuietTurns.{quiet_turn, turned_quiet, bursts_quiet}
use Rattle.link_wires.proofs.PumpLaws.{turned_next, turned_none, bursts_none, sent_then, chars_then, sent_end, chars_end}
use Rattle.link_wires.proofs.pumps.put_turns.Goals as goal

pub loop-left-preserved : goal.loop-left-preserved
loop-left-preserved c =
    let n = c.loop-left.left in
    let port = c.loop-left.port in
    let more : 0 < n = omega arith in
    let state = c.start_turn-sending.ensures.state in
    let sends = c.start_turn-sending.ensures.sends in
    let put = c.in_ok-put_sending.ensures in
    record {
      port = ap (port_turned (n - 1)) state ∙ turned_next n port more ∙ c.loop-left.invariant.port;
      kept = ap (λ (p : PortState). c.put_sending.new.kept ++ (bursts (n - 1) p).sent) state
          ∙ ap (λ (l : List Event). l ++ (bursts (n - 1) (turns_to port)).sent)
          (put.kept ∙ ap (λ (s : Burst). c.loop-left.kept ++ s.sent) sends)
          ∙ sent_then c.loop-left.kept n port more ∙ c.loop-left.invariant.kept;
      chars =
          ap (λ (p : PortState). c.put_sending.new.chars.items ++ (bursts (n - 1) p).chars) state
          ∙ ap (λ (l : List Char). l ++ (bursts (n - 1) (turns_to port)).chars)
          (put.chars ∙ ap (λ (s : Burst). c.loop-left.chars.items ++ s.chars) sends)
          ∙ chars_then c.loop-left.chars.items n port more ∙ c.loop-left.invariant.chars;
    }

-- the turns that are left send nothing either

quiet : (port next : PortState) (sending : Sending) → sending ≡ Nothing
    → sending_burst sending next.queued ≡ turn_sends port
    → (turns_to port ≡ port) × (turn_sends port ≡ no_burst)
quiet port next sending none sends =
    quiet_turn port (sym (ap (λ (s : Burst). s.sent) sends)
    ∙ ap (λ (s : Sending). (sending_burst s next.queued).sent) none)

pub returns-in-Nothing-clause-port : goal.returns-in-Nothing-clause-port
returns-in-Nothing-clause-port c =
    let n = c.loop-left.left in
    let port = c.loop-left.port in
    let same = quiet port c.start_turn-sending.new.self c.start_turn-sending.result c.in-Nothing.is
    c.start_turn-sending.ensures.sends in
    c.start_turn-sending.ensures.state
    ∙ same.0
    ∙ sym (turned_quiet n port same.0)
    ∙ c.loop-left.invariant.port

pub returns-in-Nothing-clause-kept : goal.returns-in-Nothing-clause-kept
returns-in-Nothing-clause-kept c =
    let n = c.loop-left.left in
    let port = c.loop-left.port in
    let same = quiet port c.start_turn-sending.new.self c.start_turn-sending.result c.in-Nothing.is
    c.start_turn-sending.ensures.sends in
    sym (sent_end c.loop-left.kept (bursts n port) (bursts_quiet n port same.0 same.1))
    ∙ c.loop-left.invariant.kept

pub returns-in-Nothing-clause-chars : goal.returns-in-Nothing-clause-chars
returns-in-Nothing-clause-chars c =
    let n = c.loop-left.left in
    let port = c.loop-left.port in
    let same = quiet port c.start_turn-sending.new.self c.start_turn-sending.result c.in-Nothing.is
    c.start_turn-sending.ensures.sends in
    sym (chars_end c.loop-left.chars.items (bursts n port) (bursts_quiet n port same.0 same.1))
    ∙ c.loop-left.invariant.chars

pub returns-clause-port : goal.returns-clause-port
returns-clause-port c =
    let none : c.loop-left.left ≡ 0 = omega arith in
    sym (ap (λ k. port_turned k c.loop-left.port) none ∙ turned_none c.loop-left.port)
    ∙ c.loop-left.invariant.port

pub returns-clause-kept : goal.returns-clause-kept
returns-clause-kept c =
    let none : c.loop-left.left ≡ 0 = omega arith in
    sym (sent_end c.loop-left.kept (bursts c.loop-left.left c.loop-left.port)
    (ap (λ k. bursts k c.loop-left.port) none ∙ bursts_none c.loop-left.port))
    ∙ c.loop-left.invariant.kept

pub returns-clause-chars : goal.returns-clause-chars
returns-clause-chars c =
    let none : c.loop-left.left ≡ 0 = omega arith in
    sym (chars_end c.loop-left.chars.items (bursts c.loop-left.left c.loop-left.port)
    (ap (λ k. bursts k c.loop-left.port) none ∙ bursts_none c.loop-left.port))
    ∙ c.loop-left.invariant.chars
