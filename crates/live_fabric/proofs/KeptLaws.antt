-- What a session holds behind a line.
use Rattle.std.proofs.Common.{◌≡◌, ℕ, List, sym, ap, ◌∙◌, subst}
use Rattle.fabric_script.specs.declared.lines.Numbered.{Numbered}
use Rattle.live_fabric.specs.declared.served.Served.{Served}
use Rattle.live_fabric.specs.declared.session.Session.{Session}
use Rattle.live_fabric.specs.Lines.{Taken}
use Rattle.live_fabric.specs.Served.{served_of}
use Rattle.live_fabric.specs.Holding.{LiveHolds, MayCollect}
use Rattle.live_fabric.specs.Sessions.{SessionHeld, nodes_served, SessionHolds, AreServed}
use Rattle.live_fabric.proofs.TakenLaws.{may_collect}

-- other lines were taken
pub kept_behind : (held : SessionHeld) (session now : Session) (end : Taken)
    → SessionHolds session held → now.quiet ≡ session.quiet → now.served ≡ session.served
    → LiveHolds now.live end → SessionHolds now (record held { taken = end })
kept_behind held session now end holds quiet served live = record {
  live = live;
  quiet = quiet ∙ holds.quiet;
  all = ap (λ (s : Served). s.all) served ∙ holds.all;
  nodes = ap (λ (s : Served). s.nodes.items) served ∙ holds.nodes;
}

-- the same lines were
pub kept_as : (held : SessionHeld) (session now : Session) → SessionHolds session held
    → now.quiet ≡ session.quiet → now.served ≡ session.served → LiveHolds now.live held.taken
    → SessionHolds now held
kept_as held session now holds quiet served live =
    let kept = kept_behind held session now held.taken holds quiet served live in
    record { live = kept.live; quiet = kept.quiet; all = kept.all; nodes = kept.nodes }

-- which nodes are served, by the lines that are held
pub are_served : (held : SessionHeld) (session : Session) (lines : List Numbered) (nodes : List ℕ)
    → SessionHolds session held → lines ≡ session.live.set_up.lines
    → nodes ≡ served_of session.served.all session.served.nodes.items lines
    → AreServed held nodes
are_served held session lines nodes holds read among =
    let same : nodes ≡ nodes_served held =
    among
    ∙ ap (λ all. served_of all session.served.nodes.items lines) holds.all
    ∙ ap (λ ns. served_of held.all ns lines) holds.nodes
    ∙ ap (λ ls. served_of held.all held.nodes ls) (read ∙ holds.live.lines) in (
      same,
      subst (MayCollect held.taken) (sym same)
          (may_collect session.live held.taken held.all held.nodes holds.live),
    )
