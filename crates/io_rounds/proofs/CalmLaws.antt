-- In events without edits nothing that was not sent is acted on.
use Rattle.std.proofs.Common.{◌≡◌, ℕ, zero, suc, Bool, true, false, List, [], ◌∷◌, Some, None, refl, sym, ap, ◌∙◌, subst, if◌then◌else◌}
use Rattle.link_machine.specs.States.{link}
use Rattle.link_machine.specs.Calm.{IsCalm}
use Rattle.link_machine.proofs.Settling.Calming.{acts_calm, new_calm}
use Rattle.fabric_script.specs.declared.ports.PortRef.{PortRef}
use Rattle.fabric_script.specs.declared.lines.Line.{Line}
use Rattle.fabric_script.specs.declared.lines.Line.TheVariants.{Send, Run, Collect}
use Rattle.switch_core.specs.declared.endpoint.Collected.{Collected}
use Rattle.switch_core.specs.declared.endpoint.Collected.TheVariants as Collects
use Rattle.switch_core.specs.EndpointSteps.{collected}
use Rattle.rio_packets.specs.Fields.{prio_of}
use Rattle.fabric_model.specs.Network.{Network, port_of, peer_in, link_in, room_out}
use Rattle.fabric_model.specs.Steps.{Take, AtNode}
use Rattle.fabric_model.proofs.Peers.{ArePeers, link_peers}
use Rattle.fabric_trace.specs.Blocks.{take_lines, IsSettle, IsBlock}
use Rattle.fabric_trace.specs.Fold.{seen_line, seen}
use Rattle.fabric_trace.specs.Known.{Seen, link_at}
use Rattle.trace_lines.specs.Lines.{Full, TraceLine, Begun, Stepped, Signed, Lacked, Ended, Undetected}
use Rattle.fabric_trace.specs.Parts.{Made, Done}
use Rattle.fabric_trace.specs.Rounds.{Follows, NamesNothing, SettleAll, ServeNodes, Round, Rounds}
use Rattle.fabric_trace.specs.Runs.{begins}
use Rattle.fabric_trace.specs.Served.{face_in, collect_lines}
use Rattle.fabric_trace.proofs.Network.Boards.{seen_board}
use Rattle.fabric_trace.proofs.Parts.Folding.{seen-append}
use Rattle.fabric_trace.proofs.Parts.Keeping.{IsGood, made_keeps}
use Rattle.fabric_trace.proofs.Parts.Making.{made-append, made_by}
use Rattle.fabric_trace.proofs.Rounds.Blocks.{AreFound, all_found}
use Rattle.fabric_trace.proofs.Rounds.Running.{acts_reach}
use Rattle.fabric_ask.proofs.Calming.{steps_still, serve_made, after_link}
use Rattle.fabric_ask.proofs.Quieting.{OnlySteps, serve_steps}
use Rattle.io_rounds.specs.Calm.{LinksAreCalm}
use Rattle.io_rounds.specs.Course.{IsIoEvent}

-- ---- steps change nothing on a link

steps_calm : (s : Seen) (lines : List TraceLine) (a b : PortRef) → OnlySteps lines
    → IsCalm (link_at s a b) → IsCalm (link_at (seen s lines) a b)
unfolding OnlySteps
steps_calm s [] a b only calm = calm
steps_calm s (Stepped step ∷ lines) a b only calm =
    steps_calm (seen_line s (Stepped step)) lines a b only (record {
      to_b = record { rests = calm.to_b.rests; found = calm.to_b.found };
      to_a = record { rests = calm.to_a.rests; found = calm.to_a.found };
    })
steps_calm s (Begun line ∷ lines) a b only calm = absurd only
steps_calm s (Signed sign ∷ lines) a b only calm = absurd only
steps_calm s (Lacked lack ∷ lines) a b only calm = steps_calm s lines a b only calm
steps_calm s (Ended ∷ lines) a b only calm = absurd only
steps_calm s (Undetected n q e ∷ lines) a b only calm = absurd only

-- nothing was found in these lines, and all links are calm behind them
pub record StayCalm (s : Seen) (lines : List TraceLine) : Type 0 where
  pub still : (seen s lines).undetected ≡ None
  pub calm : LinksAreCalm (seen s lines)

calm_steps : (s : Seen) (lines : List TraceLine) → OnlySteps lines → s.undetected ≡ None
    → LinksAreCalm s → StayCalm s lines
calm_steps s lines only none calm =
    let links = (seen_board lines s).links in
    record {
      still = steps_still s lines only ∙ none;
      calm = λ a b peer. steps_calm s lines a b only
          (calm a b (subst (λ l. peer_in l a ≡ Some b) links peer));
    }

-- ---- a link settles

-- lines that were made, behind which nothing was found and all links are calm
record SettlesCalm (s : Seen) (lines : List TraceLine) : Type 0 where
  made : Made s lines
  links : (seen s lines).network.links ≡ s.network.links
  stays : StayCalm s lines

settle_calm : (s : Seen) (a b : PortRef) (block : List TraceLine) → IsGood s
    → s.undetected ≡ None → ArePeers s.network.links a b → LinksAreCalm s → IsSettle s a b block
    → SettlesCalm s block
settle_calm s a b block good none peers calm settles =
    let r = acts_reach settles.acts s a b good none peers in
    let own = acts_calm settles.acts (link_at s a b) (good.links none a b peers.there).sound
    (calm a b peers.there) in
    let there = r.there own.m own.there in
    subst (SettlesCalm s) (sym settles.lines) (record {
      made = r.made;
      links = r.others.links;
      stays = record {
        still = there.0;
        calm = after_link s _ a b good.proper peers r.others (subst IsCalm (sym there.1) own.calm)
            calm;
      };
    })

-- ---- rounds

settle_all_calm : (all links : List (PortRef × PortRef)) (s : Seen) (lines : List TraceLine)
    → IsGood s → s.undetected ≡ None → s.network.links ≡ all → AreFound all links → LinksAreCalm s
    → SettleAll IsSettle links s lines → SettlesCalm s lines
settle_all_calm all [] s lines good none same found calm is =
    subst (SettlesCalm s) (sym is)
    (record { made = Done refl; links = refl; stays = record { still = none; calm = calm } })
settle_all_calm all (link ∷ links) s lines good none same found calm joined =
    let first = joined.0 in
    let rest = joined.1 in
    let t = seen s first in
    let peers = link_peers s.network.links link.0 link good.proper
    (ap (λ l. link_in l link.0) same ∙ found.0) in
    let own = settle_calm s link.0 link.1 first good none peers calm joined.3 in
    let more : SettleAll IsSettle links t rest =
    subst (λ f. Follows f (SettleAll IsSettle links t) NamesNothing rest) own.stays.still joined.4
    in
    let behind = settle_all_calm all links t rest (made_keeps good own.made).good own.stays.still
    (own.links ∙ same) found.1 own.stays.calm more in
    let after : seen s lines ≡ seen t rest = ap (seen s) joined.2 ∙ seen-append s first rest in
    record {
      made = made_by joined.2 (made-append own.made behind.made);
      links = ap (λ (x : Seen). x.network.links) after ∙ behind.links ∙ own.links;
      stays = record {
        still = ap (λ (x : Seen). x.undetected) after ∙ behind.stays.still;
        calm = subst LinksAreCalm (sym after) behind.stays.calm;
      };
    }

round_calm : (s : Seen) (lines : List TraceLine) → IsGood s → s.undetected ≡ None → LinksAreCalm s
    → Round IsSettle s lines → SettlesCalm s lines
round_calm s lines good none calm joined =
    let first = joined.0 in
    let rest = joined.1 in
    let t = seen s first in
    let own = settle_all_calm s.network.links s.network.links s first good none refl
    (all_found s.network.links good.proper) calm joined.3 in
    let more : ServeNodes 0 t.network.registers t rest =
    subst (λ f. Follows f (λ rest. ServeNodes 0 t.network.registers t rest) NamesNothing rest)
    own.stays.still joined.4 in
    let kept = made_keeps good own.made in
    let made = serve_made t.network.registers 0 t rest kept.good own.stays.still more in
    let steps = calm_steps t rest (serve_steps t.network.registers 0 t rest more) own.stays.still
    own.stays.calm in
    let after : seen s lines ≡ seen t rest = ap (seen s) joined.2 ∙ seen-append s first rest in
    record {
      made = made_by joined.2 (made-append own.made made);
      links = (seen_board lines s).links;
      stays = record {
        still = ap (λ (x : Seen). x.undetected) after ∙ steps.still;
        calm = subst LinksAreCalm (sym after) steps.calm;
      };
    }

rounds_calm : (n : ℕ) (s : Seen) (lines : List TraceLine) → IsGood s → s.undetected ≡ None
    → LinksAreCalm s → Rounds IsSettle n s lines → StayCalm s lines
rounds_calm zero s lines good none calm is =
    subst (StayCalm s) (sym is) (record { still = none; calm = calm })
rounds_calm (suc n) s lines good none calm joined =
    let first = joined.0 in
    let rest = joined.1 in
    let t = seen s first in
    let own = round_calm s first good none calm joined.3 in
    let more : Rounds IsSettle n t rest =
    subst (λ f. Follows f (Rounds IsSettle n t) NamesNothing rest) own.stays.still joined.4 in
    let behind = rounds_calm n t rest (made_keeps good own.made).good own.stays.still own.stays.calm
    more in
    let after : seen s lines ≡ seen t rest = ap (seen s) joined.2 ∙ seen-append s first rest in
    record {
      still = ap (λ (x : Seen). x.undetected) after ∙ behind.still;
      calm = subst LinksAreCalm (sym after) behind.calm;
    }

-- ---- events

one_take : (s : Seen) (node : ℕ) (packet : List ℕ) → OnlySteps (take_lines s node packet)
unfolding OnlySteps
one_take s node packet = by_room (room_out s.network (port_of node) (prio_of packet))
  where
    by_room : (room : Bool)
        → OnlySteps (if room then Stepped (AtNode (Take node packet)) ∷ [] else Lacked Full ∷ [])
    by_room true = tt
    by_room false = tt

one_collect : (node : ℕ) (what : Collected) → OnlySteps (collect_lines node what)
unfolding OnlySteps
one_collect node (Collects.Left packet) = tt
one_collect node (Collects.Answered request response) = tt
one_collect node Collects.Empty = tt
one_collect node Collects.Full = tt

-- an event without edits leaves all links calm
pub event_calm : (s : Seen) (line : Line) (block : List TraceLine) → IsIoEvent line → IsGood s
    → s.undetected ≡ None → LinksAreCalm s → IsBlock s line block → StayCalm s (Begun line ∷ block)
event_calm s (Send node prio ftype dest hex) block event good none calm is =
    let stays = calm_steps s block (subst OnlySteps (sym is.lines) (one_take s node is.packet)) none
    calm in
    record { still = stays.still; calm = stays.calm }
event_calm s (Collect node) block event good none calm is =
    let stays = calm_steps s block (subst OnlySteps (sym is.lines)
    (one_collect node (collected is.device (face_in s.network (port_of node))))) none calm in
    record { still = stays.still; calm = stays.calm }
event_calm s (Run n) block event good none calm is =
    let stays = rounds_calm n s block good none calm is in
    record { still = stays.still; calm = stays.calm }
event_calm s _ block event good none calm is = absurd event

-- before the first event all links are calm
pub begins_calm : (net : Network) → LinksAreCalm (begins net)
begins_calm net a b peer =
    let new = new_calm false false 0 0 in
    record {
      to_b = record { rests = new.to_b.rests; found = new.to_b.found };
      to_a = record { rests = new.to_a.rests; found = new.to_a.found };
    }
