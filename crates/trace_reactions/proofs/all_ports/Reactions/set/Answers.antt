use Rattle.std.proofs.Common.{sym, ap, ◌∙◌, subst, if◌then◌else◌}
use Rattle.std.specs.HashMap.{get}
use Rattle.trace_reactions.specs.Judging.{KeepsPort, port_key, same_key}
use Rattle.trace_reactions.specs.PortsKept.{unheard_port}
use Rattle.trace_reactions.proofs.JudgingLaws.{buffers_other, port_put}
use Rattle.trace_reactions.proofs.all_ports.Reactions.set.Goals as goal

pub returns-in_ok-put-in-Buffers : goal.returns-in_ok-put-in-Buffers
returns-in_ok-put-in-Buffers c = λ buffers kept.
    let old = c.args.self.now in
    let p = c.in-Buffers.port in
    let n = c.in-Buffers.n in
    rw c.in-Buffers.is record {
      ports = port_put old c.put.new.self p c.new.result c.in_ok-put-in-Buffers.ensures.put
          (λ q same. ap (λ b. unheard_port (if b then n else buffers q)) same ∙ sym c.new.ensures)
          (λ q other. ap (λ b. unheard_port (if b then n else buffers q)) other) kept.ports;
      answered = c.put.ensures.answered ∙ kept.answered;
    }

pub returns-in_default : goal.returns-in_default
returns-in_default c = λ buffers kept.
    let old = c.args.self.now in
    let same = buffers_other c.args.line.now c.in_default.not-Buffers in record {
      ports = λ q. subst (λ n. KeepsPort (unheard_port n) (get same_key old.ports (port_key q)))
          (sym (same (buffers q) q)) (kept.ports q);
      answered = kept.answered;
    }
