use Rattle.std.proofs.Common.{◌≡◌, ap, ◌∙◌}
use Rattle.fabric_script.specs.SetUps.{SetUpLines}
use Rattle.live_fabric.specs.Served.{served_of}
use Rattle.live_fabric.specs.Sessions.{SessionHeld, SessionHolds, AreServed}
use Rattle.live_fabric.proofs.AnsweringLaws.{on_each}
use Rattle.live_fabric.proofs.KeptLaws.{are_served}
use Rattle.live_fabric.proofs.session.Session.nodes_served.Goals as goal

pub returns : goal.returns
returns c =
    let session = c.args.self.now in
    on_each
    (λ nodes. nodes.items
    ≡ served_of session.served.all session.served.nodes.items c.lines.result.now)
    (λ nodes. (held : SessionHeld) → SessionHolds session held → AreServed held nodes.items)
    c.among.result
    (λ nodes among held holds. are_served held session c.lines.result.now nodes.items holds
    (c.lines.ensures ∙ ap (λ (s : SetUpLines). s.lines) c.set_up.ensures) among)
    c.among.ensures
