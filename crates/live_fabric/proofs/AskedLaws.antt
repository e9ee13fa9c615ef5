-- A register is asked for.
use Rattle.std.proofs.Common.{◌≡◌, ◌==◌, not, ℕ, List, [], ◌++◌, Some, codes, inl, inr, refl, sym, ap, ◌∙◌, subst}
use Rattle.std.proofs.lemmas.List.Elements.{All-filter}
use Rattle.rio_chars.specs.Written.{Outgoing, Writes}
use Rattle.rio_chars.proofs.WrittenLaws.{Writes-nil, Writes-then}
use Rattle.fabric_script.specs.declared.lines.Line.{Line}
use Rattle.fabric_script.specs.declared.lines.Line.TheVariants.{Collect}
use Rattle.fabric_script.specs.SetUps.{SetUpLines, for_event}
use Rattle.refusal_words.specs.Citing.{refusal_line}
use Rattle.live_fabric.specs.declared.asking.AskOutcome.{AskOutcome}
use Rattle.live_fabric.specs.declared.asking.AskOutcome.TheVariants.{Refused}
use Rattle.live_fabric.specs.declared.asking.Reply.{Reply}
use Rattle.live_fabric.specs.declared.asking.Reply.TheVariants.{Came, Missing, Undetected}
use Rattle.live_fabric.specs.declared.asks.Ask.{Ask}
use Rattle.live_fabric.specs.declared.session.Session.{Session}
use Rattle.live_fabric.specs.Lines.{SaysWhy}
use Rattle.live_fabric.specs.Holding.{MayBeCarried, MayCollect}
use Rattle.live_fabric.specs.Asking.{SpellsAsk, IsNoAsk, ask_of, others_than, TellsAsk, IsAskFront, reply_told, after_ask}
use Rattle.live_fabric.specs.AskCourse.{MayCollectWith, ReplyGoes, AskDone, AskBreaks, reply_said, reply_outcome}
use Rattle.live_fabric.specs.Sessions.{SessionHeld, nodes_served, SessionHolds, SessionGoes, AreServed, AskTold, AskAnswered, AskFalls, RequestCarried, RequestBroke}
use Rattle.live_fabric.proofs.RequestLaws.{said_told, outcome_came}
use Rattle.live_fabric.proofs.TakenLaws.{may_collect_of}
use Rattle.live_fabric.proofs.KeptLaws.{kept_behind}

-- the words are a request behind the lines that are held
pub spells_held : (held : SessionHeld) (session : Session) (read : SetUpLines) (words : List ℕ)
    (event : Line) (ask : Ask) → SessionHolds session held → read ≡ session.live.set_up
    → SpellsAsk read.known words event ask
    → SpellsAsk (for_event held.taken.known) words event ask
spells_held held session read words event ask holds same spells =
    subst (λ k. SpellsAsk k words event ask)
    (ap (λ (s : SetUpLines). s.known) same ∙ holds.live.known) spells

module _ (held : SessionHeld) (number : ℕ) (words : List ℕ) where
  pub ask_taken : (out next : Outgoing) (now : Session) (event : Line) (ask : Ask)
      (outcome : AskOutcome) → SpellsAsk (for_event held.taken.known) words event ask
      → RequestCarried held number event ask out next now outcome
      → AskTold held number words out next now outcome
  ask_taken out next now event ask outcome spells e = record {
    text = e.text ++ reply_told ask e.end;
    next = record held { taken = e.end };
    answers = inl (
      record {
        event = event;
        ask = ask;
        spells = spells;
        told = e.text;
        end = e.end;
        tells = e.tells;
        answer = refl;
        then = refl;
      },
      e.came,
    );
    told = e.told;
    goes = e.goes;
  }

  pub ask_refused : (out next : Outgoing) (session : Session) (reason : ℕ)
      → SessionHolds session held → IsNoAsk session.live.set_up.known words reason
      → ((why : List ℕ) × SaysWhy words reason why × Writes out next (refusal_line reason why))
      → AskTold held number words out next session (Refused reason)
  ask_refused out next session reason holds refused told = record {
    text = refusal_line reason told.0;
    next = held;
    answers = inr (
      record {
        reason = reason;
        why = told.0;
        refused = subst (λ k. IsNoAsk k words reason) holds.live.known refused;
        says = told.1;
        answer = refl;
        then = refl;
      },
      refl,
    );
    told = told.2;
    goes = holds;
  }

  -- and its last line
  pub ask_answered : (out mid next : Outgoing) (session : Session) (outcome : AskOutcome)
      → AskTold held number words out mid session outcome → Writes mid next (codes "ok\n")
      → AskAnswered held number words out next session outcome
  ask_answered out mid next session outcome t ok = record {
    text = t.text ++ codes "ok\n";
    next = t.next;
    answers = t.answers;
    told = Writes-then t.text (codes "ok\n") t.told ok;
    goes = t.goes;
  }

  pub ask_breaks : (out next : Outgoing) (event : Line) (ask : Ask)
      → SpellsAsk (for_event held.taken.known) words event ask
      → RequestBroke held number event ask out next → AskFalls held number words out next
  ask_breaks out next event ask spells b = record {
    text = b.text;
    is = inr (record { event = event; ask = ask; spells = spells; front = b.is });
    told = b.told;
  }

  -- nothing was told
  pub ask_falls_at_once : (out next : Outgoing) → next ≡ out → AskFalls held number words out next
  ask_falls_at_once out next same = record {
    text = [];
    is = inl refl;
    told = subst (λ o. Writes out o []) (sym same) (Writes-nil out);
  }

-- ---- an ask is carried out

module _ (held : SessionHeld) (number : ℕ) (event : Line) (ask : Ask) (session : Session)
    (nodes : List ℕ) (holds : SessionHolds session held)
    (at : nodes ≡ others_than ask.host (nodes_served held)) where
  pub request_carried : (now : Session) (out mid next : Outgoing) (reply : Reply)
      → now.quiet ≡ session.quiet → now.served ≡ session.served
      → AskDone session.quiet held.taken number nodes event ask out mid now.live reply
      → Writes mid next (reply_said ask.offset reply)
      → RequestCarried held number event ask out next now (reply_outcome ask.offset reply)
  request_carried now out mid next reply quiet served d said = record {
    text = d.text;
    end = d.end;
    tells =
        subst (λ q. TellsAsk q held.taken number (others_than ask.host (nodes_served held))
        event ask d.text d.end) holds.quiet
        (subst (λ ns. TellsAsk session.quiet held.taken number ns event ask d.text d.end) at d.is);
    told =
        Writes-then d.text (reply_told ask d.end) d.told
        (subst (Writes mid next) (said_told ask reply now.live d.end d.goes) said);
    came = outcome_came ask reply now.live d.end d.goes;
    goes = by_reply reply d.goes;
  }
    where
      by_reply : (r : Reply) → ReplyGoes ask.tid r now.live d.end
          → SessionGoes (after_ask (reply_outcome ask.offset r)) now
          (record held { taken = d.end })
      by_reply (Came response) goes =
          kept_behind held session now d.end holds quiet served goes.0
      by_reply Missing goes = kept_behind held session now d.end holds quiet served goes.0
      by_reply Undetected goes = goes

  pub request_broke : (out next : Outgoing)
      → AskBreaks session.quiet held.taken number nodes event ask out next
      → RequestBroke held number event ask out next
  request_broke out next b = record {
    text = b.text;
    is =
        subst (λ q. IsAskFront q held.taken number (others_than ask.host (nodes_served held))
        event ask b.text) holds.quiet
        (subst (λ ns. IsAskFront session.quiet held.taken number ns event ask b.text) at b.is);
    told = b.told;
  }

-- nothing was told of it
pub request_falls : (held : SessionHeld) (number : ℕ) (event : Line) (ask : Ask) (out : Outgoing)
    → RequestBroke held number event ask out out
request_falls held number event ask out =
    record { text = []; is = inl (inl (inl refl)); told = Writes-nil out }

-- the nodes beside a host may collect, and then the host
pub may_ask : (held : SessionHeld) (event : Line) (ask : Ask) (nodes others : List ℕ)
    → AreServed held nodes → others ≡ others_than ask.host nodes → MayBeCarried held.taken event
    → ask_of event ≡ Some ask → MayCollectWith held.taken others ask.host
may_ask held event ask nodes others served at may asks = (
  subst (MayCollect held.taken) (sym at)
      (All-filter (λ node. not (node == ask.host))
      (λ node. MayBeCarried held.taken (Collect node)) nodes served.1),
  may_collect_of held.taken event ask may asks,
)

-- the nodes beside a host, by those that are served
pub beside_are : (held : SessionHeld) (host : ℕ) (nodes others : List ℕ) → AreServed held nodes
    → others ≡ others_than host nodes → others ≡ others_than host (nodes_served held)
beside_are held host nodes others served at = at ∙ ap (others_than host) served.0
