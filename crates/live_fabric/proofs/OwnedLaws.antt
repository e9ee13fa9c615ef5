-- What a session answers of registers that are changed without a packet.
use Rattle.std.proofs.Common.{◌≡◌, ◌≢◌, ℕ, List, [], codes, inl, inr, refl, ap, ◌∙◌}
use Rattle.rio_chars.specs.Written.{Outgoing, Writes}
use Rattle.rio_chars.proofs.WrittenLaws.{Writes-nil}
use Rattle.fabric_script.specs.SetUps.{SetUpLines, for_event}
use Rattle.fabric_trace.specs.Known.{Seen}
use Rattle.refusal_words.specs.Citing.{refusal_line}
use Rattle.live_fabric.specs.declared.answers.AfterLine.TheVariants as Goings
use Rattle.live_fabric.specs.declared.asking.AskOutcome.TheVariants.{Refused, Said}
use Rattle.live_fabric.specs.declared.asks.RegisterSaid.{RegisterSaid}
use Rattle.live_fabric.specs.declared.session.Session.{Session}
use Rattle.live_fabric.specs.Lines.{Taken, SaysWhy, seen_so_far, taken_anew}
use Rattle.live_fabric.specs.Holding.{LiveHolds}
use Rattle.live_fabric.specs.OwnRegisters.{collect_text, standard_text, ShowsStandard, NamesNoDevice, NamesOwn, NamesNoOwn, OwnRead, OwnWrites}
use Rattle.live_fabric.specs.Sessions.{SessionHeld, SessionHolds, SessionTold, StandardTold, OwnReadCame, OwnWriteCame}
use Rattle.live_fabric.proofs.KeptLaws.{kept_behind}

-- what was read after the lines that are held, by what they make known
pub known_held : (held : SessionHeld) (session : Session) (read : SetUpLines)
    → SessionHolds session held → read ≡ session.live.set_up
    → read.known ≡ for_event held.taken.known
known_held held session read holds same =
    ap (λ (s : SetUpLines). s.known) same ∙ holds.live.known

-- ---- devices show what standard hosts look for

module _ (held : SessionHeld) (words : List ℕ) where
  pub standard_taken : (out : Outgoing) (session now : Session) (after : Seen)
      → SessionHolds session held → now.quiet ≡ session.quiet → now.served ≡ session.served
      → ShowsStandard (for_event held.taken.known) words (seen_so_far held.taken) after
      → LiveHolds now.live (taken_anew held.taken after)
      → StandardTold held words out out now
  standard_taken out session now after holds quiet served shows live = record {
    text = [];
    next = record held { taken = taken_anew held.taken after };
    answers = inl (record { after = after; shows = shows; answer = refl; then = refl });
    told = Writes-nil out;
    holds = kept_behind held session now (taken_anew held.taken after) holds quiet served live;
  }

  pub standard_refused : (out next : Outgoing) (session : Session) (reason : ℕ)
      → SessionHolds session held → words ≢ codes "all"
      → NamesNoDevice (for_event held.taken.known) words reason
      → ((why : List ℕ) × SaysWhy (collect_text words) reason why
      × Writes out next (refusal_line reason why))
      → StandardTold held words out next session
  standard_refused out next session reason holds other refused told = record {
    text = refusal_line reason told.0;
    next = held;
    answers = inr (record {
      other = other;
      reason = reason;
      why = told.0;
      refused = refused;
      says = told.1;
      answer = refl;
      then = refl;
    });
    told = told.2;
    holds = holds;
  }

  pub told_standard : (number : ℕ) (line : List ℕ) (out next : Outgoing) (now : Session)
      → line ≡ standard_text words → StandardTold held words out next now
      → SessionTold held number line out next now Goings.On
  told_standard number line out next now is s = record {
    text = s.text;
    next = s.next;
    answers = inr (inr (inr (inl (record { words = words; is = is; answers = s.answers }))));
    told = s.told;
    goes = s.holds;
  }

-- ---- a node's own registers

module _ (held : SessionHeld) (name : List ℕ) (offset : ℕ) (session now : Session)
    (holds : SessionHolds session held) where
  pub own_read_came : (node : ℕ) (said : RegisterSaid) → now.quiet ≡ session.quiet
      → now.served ≡ session.served → NamesOwn (for_event held.taken.known) name node
      → ((end : Taken) × OwnRead held.taken node offset said end × LiveHolds now.live end)
      → OwnReadCame held name offset now (Said said)
  own_read_came node said quiet served named read = record {
    next = record held { taken = read.0 };
    came = inl (node, said, read.0, named, read.1, refl, refl);
    holds = kept_behind held session now read.0 holds quiet served read.2;
  }

  pub own_write_came : (value node : ℕ) (said : RegisterSaid) → now.quiet ≡ session.quiet
      → now.served ≡ session.served → NamesOwn (for_event held.taken.known) name node
      → ((end : Taken) × OwnWrites held.taken node offset value said end × LiveHolds now.live end)
      → OwnWriteCame held name offset value now (Said said)
  own_write_came value node said quiet served named written = record {
    next = record held { taken = written.0 };
    came = inl (node, said, written.0, named, written.1, refl, refl);
    holds = kept_behind held session now written.0 holds quiet served written.2;
  }

pub own_write_refused : (held : SessionHeld) (name : List ℕ) (offset value : ℕ)
    (session : Session) (reason : ℕ) → SessionHolds session held
    → NamesNoOwn (for_event held.taken.known) name reason
    → OwnWriteCame held name offset value session (Refused reason)
own_write_refused held name offset value session reason holds none =
    record { next = held; came = inr (reason, none, refl, refl); holds = holds }
