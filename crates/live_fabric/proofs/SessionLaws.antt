-- What a session answers, one line after another.
use Rattle.std.proofs.Common.{◌≡◌, ◌⊎◌, ℕ, ◌+◌, suc, List, [], ◌∷◌, ◌++◌, length, codes, inl, inr, refl, sym, ap, ◌∙◌, subst, arith, append-nil, append_assoc}
use Rattle.rio_chars.specs.Written.{Outgoing, Writes}
use Rattle.rio_chars.proofs.WrittenLaws.{Writes-nil, Writes-then}
use Rattle.fabric_script.specs.declared.lines.Line.{Line}
use Rattle.fabric_script.specs.Reading.{Spells}
use Rattle.fabric_script.specs.SetUps.{IsRefused}
use Rattle.refusal_words.specs.Citing.{refusal_line}
use Rattle.live_fabric.specs.declared.answers.AfterLine.{AfterLine}
use Rattle.live_fabric.specs.declared.answers.AfterLine.TheVariants as Goings
use Rattle.live_fabric.specs.declared.asking.AskOutcome.{AskOutcome}
use Rattle.live_fabric.specs.declared.live.Live.{Live}
use Rattle.live_fabric.specs.declared.own_lines.OwnLine.{OwnLine}
use Rattle.live_fabric.specs.declared.session.Session.{Session}
use Rattle.live_fabric.specs.Lines.{Taken, IsSent, SaysWhy, IsEventLine, taken_after}
use Rattle.live_fabric.specs.Asking.{after_ask}
use Rattle.live_fabric.specs.Served.{with_served, events_carried}
use Rattle.live_fabric.specs.Telling.{plain_told, TellsEvents, IsEventsFront}
use Rattle.live_fabric.specs.Holding.{LiveHolds, MayBeCarried, MayCollect}
use Rattle.live_fabric.specs.OwnRegisters.{collect_text}
use Rattle.live_fabric.specs.Answers.{LiveGoes, ReadPlainly}
use Rattle.live_fabric.specs.Course.{EventsDone, EventsBreak}
use Rattle.live_fabric.specs.Sessions.{SessionHeld, own_text, held_after, serve_text, ask_text, nodes_served, IsNoOwnLine, IsScriptLine, LineAnswers, AnswersSession, IsAskAnswerFront, IsSessionFront, SessionHolds, SessionAnswered, SessionGoes, SessionBreaks, SessionTold, ServeTold, AreServed, AskTaken, AskRefused, AskComesTo, AskTold, AskFalls}
use Rattle.live_fabric.proofs.TakenLaws.{may_be_carried}
use Rattle.live_fabric.proofs.KeptLaws.{kept_behind}

-- a line more is answered
pub session_more : (held : SessionHeld) (number : ℕ) (lines : List (List ℕ)) (line text : List ℕ)
    (mid : SessionHeld) (n : ℕ) (more : List ℕ) (next : SessionHeld)
    → AnswersSession held number lines text mid
    → n ≡ number + length lines → IsSent mid.taken → LineAnswers mid n line more next
    → AnswersSession held number (lines ++ line ∷ []) (text ++ more) next
session_more held number [] line text mid n more next answers at sent is =
    let same = answers.1 in
    let here : n ≡ number = at ∙ omega arith in (
      more,
      [],
      next,
      subst (λ (h : SessionHeld). IsSent h.taken) same sent,
      subst (λ (h : SessionHeld). LineAnswers h number line more next) same
          (subst (λ k. LineAnswers mid k line more next) here is),
      (refl, refl),
      ap (λ (l : List ℕ). l ++ more) answers.0 ∙ sym (append-nil more),
    )
session_more held number (other ∷ lines) line text mid n more next answers at sent is =
    let first = answers.0 in
    let rest = answers.1 in
    let behind : n ≡ suc number + length lines = omega arith in (
      first,
      rest ++ more,
      answers.2,
      answers.3,
      answers.4,
      session_more answers.2 (suc number) lines line rest mid n more next answers.5 behind sent is,
      ap (λ (l : List ℕ). l ++ more) answers.6 ∙ append_assoc first rest more,
    )

-- and what waited was written
pub session_whole : (held : SessionHeld) (number : ℕ) (line : List ℕ) (out mid next : Outgoing)
    (session : Session) (going : AfterLine)
    → SessionAnswered held number line out mid session going → Writes mid next []
    → SessionAnswered held number line out next session going
session_whole held number line out mid next session going a flushed = record {
  text = a.text;
  next = a.next;
  answers = a.answers;
  told = subst (Writes out next) (append-nil a.text) (Writes-then a.text [] a.told flushed);
  goes = a.goes;
}

-- ---- the answer of a line

-- and its last line
pub session_answered : (held : SessionHeld) (number : ℕ) (line : List ℕ) (out mid next : Outgoing)
    (session : Session) (going : AfterLine) → SessionTold held number line out mid session going
    → Writes mid next (codes "ok\n") → SessionAnswered held number line out next session going
session_answered held number line out mid next session going t ok = record {
  text = t.text ++ codes "ok\n";
  next = t.next;
  answers = t.answers;
  told = Writes-then t.text (codes "ok\n") t.told ok;
  goes = t.goes;
}

-- ---- a node is served

module _ (held : SessionHeld) (words : List ℕ) where
  pub serve_taken : (out : Outgoing) (session now : Session) (event : Line)
      → SessionHolds session held → now.live ≡ session.live → now.quiet ≡ session.quiet
      → now.served.all ≡ session.served.all
      → now.served.nodes.items ≡ with_served session.served.nodes.items event
      → Spells session.live.set_up.known (collect_text words) event
      → ServeTold held words out out now
  serve_taken out session now event holds live quiet all nodes spells = record {
    text = [];
    next = record held { nodes = with_served held.nodes event };
    answers = inl (record {
      event = event;
      spells = subst (λ k. Spells k (collect_text words) event) holds.live.known spells;
      answer = refl;
      then = refl;
    });
    told = Writes-nil out;
    holds = record {
      live = subst (λ live. LiveHolds live held.taken) (sym live) holds.live;
      quiet = quiet ∙ holds.quiet;
      all = all ∙ holds.all;
      nodes = nodes ∙ ap (λ ns. with_served ns event) holds.nodes;
    };
  }

  pub serve_refused : (out next : Outgoing) (session : Session) (reason : ℕ)
      → SessionHolds session held
      → IsRefused session.live.set_up.known (collect_text words) reason
      → ((why : List ℕ) × SaysWhy (collect_text words) reason why
      × Writes out next (refusal_line reason why))
      → ServeTold held words out next session
  serve_refused out next session reason holds refused told = record {
    text = refusal_line reason told.0;
    next = held;
    answers = inr (record {
      reason = reason;
      why = told.0;
      refused =
          subst (λ k. IsRefused k (collect_text words) reason) holds.live.known refused;
      says = told.1;
      answer = refl;
      then = refl;
    });
    told = told.2;
    holds = holds;
  }

-- ---- a line

module _ (held : SessionHeld) (number : ℕ) (line : List ℕ) where
  -- it is one of a word of its own
  pub told_own : (out : Outgoing) (now : Session) (own : OwnLine)
      → own_text own ≡ line → SessionHolds now (held_after own held)
      → SessionTold held number line out out now Goings.On
  told_own out now own is holds = record {
    text = [];
    next = held_after own held;
    answers = inl (record { own = own; is = is; answer = refl; then = refl });
    told = Writes-nil out;
    goes = holds;
  }

  pub told_serve : (out next : Outgoing) (now : Session) (words : List ℕ)
      → IsNoOwnLine line → line ≡ serve_text words
      → ServeTold held words out next now
      → SessionTold held number line out next now Goings.On
  told_serve out next now words other is s = record {
    text = s.text;
    next = s.next;
    answers = inr (inl (record { other = other; words = words; is = is; answers = s.answers }));
    told = s.told;
    goes = s.holds;
  }

  -- nothing was told of it
  pub session_breaks_at_once : (out next : Outgoing) → next ≡ out
      → SessionBreaks held number line out next
  session_breaks_at_once out next same = record {
    text = [];
    is = inl refl;
    told = subst (λ o. Writes out o []) (sym same) (Writes-nil out);
  }

  -- it asks for a register
  pub ask_answers : (words text : List ℕ) (next : SessionHeld) (outcome : AskOutcome)
      → line ≡ ask_text words → AskComesTo held number words text next outcome
      → LineAnswers held number line text next
  ask_answers words text next outcome is comes =
      inr (inr (inl (record { words = words; is = is; answers = either comes })))
    where
      either : AskComesTo held number words text next outcome
          → AskTaken held number words text next ⊎ AskRefused held words text next
      either (inl taken) = inl taken.0
      either (inr refused) = inr refused.0

  pub told_ask : (out next : Outgoing) (now : Session) (words : List ℕ) (outcome : AskOutcome)
      → line ≡ ask_text words → AskTold held number words out next now outcome
      → SessionTold held number line out next now (after_ask outcome)
  told_ask out next now words outcome is a = record {
    text = a.text;
    next = a.next;
    answers = ask_answers words (a.text ++ codes "ok\n") a.next outcome is a.answers;
    told = a.told;
    goes = a.goes;
  }

  pub breaks_ask : (out next : Outgoing) (words : List ℕ) → line ≡ ask_text words
      → AskFalls held number words out next → SessionBreaks held number line out next
  breaks_ask out next words is a =
      record { text = a.text; is = by_front a.is; told = a.told }
    where
      by_front : ((a.text ≡ []) ⊎ IsAskAnswerFront held number words a.text)
          → IsSessionFront held number line a.text
      by_front (inl none) = inl none
      by_front (inr front) = inr (inr (words, is, front))

  -- it is no event
  pub told_plain : (out next : Outgoing) (session now : Session) → SessionHolds session held
      → IsScriptLine held line → now.quiet ≡ session.quiet → now.served ≡ session.served
      → ReadPlainly held.taken line out next now.live
      → SessionTold held number line out next now Goings.On
  told_plain out next session now holds other quiet served p = record {
    text = plain_told p.outcome;
    next = record held { taken = taken_after held.taken number line p.outcome };
    answers = inr (inr (inr (inr (inr (inl (record {
      other = other;
      outcome = p.outcome;
      plain = p.plain;
      reads = p.reads;
      answer = refl;
      then = refl;
    }))))));
    told = p.told;
    goes =
        kept_behind held session now (taken_after held.taken number line p.outcome) holds quiet
        served (p.holds number);
  }

-- an event was read, and nothing was told yet
abbrev pub EventRead : Taken → Live → List ℕ → Line → Outgoing → Outgoing → Type 0
EventRead taken live line event out mid =
    LiveHolds live taken × IsEventLine taken line event × (mid ≡ out)

module _ (held : SessionHeld) (number : ℕ) (line : List ℕ) (session : Session) (live : Live)
    (nodes : List ℕ) (event : Line) (out mid : Outgoing) (holds : SessionHolds session held)
    (read : EventRead held.taken live line event out mid) (served : AreServed held nodes) where
  pub may_carry : MayBeCarried held.taken event
  may_carry = may_be_carried live held.taken line event read.0 read.1.2

  -- it was carried out while these nodes are served
  pub told_events : (next : Outgoing) (now : Session) (going : AfterLine)
      → IsScriptLine held line → now.quiet ≡ session.quiet → now.served ≡ session.served
      → ((taken : Taken) → LiveHolds live taken → MayBeCarried taken event
      → MayCollect taken nodes
      → EventsDone session.quiet taken number (events_carried nodes event) mid next now.live going)
      → SessionTold held number line out next now going
  told_events next now going other quiet same done =
      let d = done held.taken read.0 may_carry served.1 in
      record {
        text = d.text;
        next = record held { taken = d.end };
        answers = inr (inr (inr (inr (inr (inr (record {
          other = other;
          event = event;
          is = read.1;
          told = d.text;
          end = d.end;
          tells =
              subst (λ q. TellsEvents q held.taken number
              (events_carried (nodes_served held) event) d.text d.end) holds.quiet
              (subst (λ ns. TellsEvents session.quiet held.taken number (events_carried ns event)
              d.text d.end) served.0 d.is);
          answer = refl;
          then = refl;
        }))))));
        told = subst (λ o. Writes o next d.text) read.2 d.told;
        goes = by_going going d.end d.goes;
      }
    where
      by_going : (g : AfterLine) (end : Taken) → LiveGoes g now.live end
          → SessionGoes g now (record held { taken = end })
      by_going Goings.On end goes = kept_behind held session now end holds quiet same goes
      by_going Goings.Undetected end goes = goes

  pub breaks_events : (next : Outgoing) → IsScriptLine held line
      → ((taken : Taken) → LiveHolds live taken → MayBeCarried taken event
      → MayCollect taken nodes
      → EventsBreak session.quiet taken number (events_carried nodes event) mid next)
      → SessionBreaks held number line out next
  breaks_events next other breaks =
      let b = breaks held.taken read.0 may_carry served.1 in
      record {
        text = b.text;
        is = inr (inl (record {
          other = other;
          event = event;
          is = read.1;
          front =
              subst (λ q. IsEventsFront q held.taken number
              (events_carried (nodes_served held) event) b.text) holds.quiet
              (subst (λ ns. IsEventsFront session.quiet held.taken number
              (events_carried ns event) b.text) served.0 b.is);
        }));
        told = subst (λ o. Writes o next b.text) read.2 b.told;
      }
