-- Lines that a fabric is given end.
use Rattle.std.proofs.Common.{◌≡◌, ℕ, ◌+◌, ◌-◌, ◌^◌, Option, Bool, true, false, if◌then◌else◌, List, [], ◌++◌, length, codes, inl, inr, refl, sym, ap, ◌∙◌, subst}
use Rattle.std.specs.Io.KnownBytes.{Consumes}
use Rattle.rio_chars.specs.Written.{Outgoing, Writes}
use Rattle.live_lines.specs.declared.input.LineEnd.{LineEnd}
use Rattle.live_lines.specs.declared.input.LineEnd.TheVariants as stops_at
use Rattle.live_lines.specs.declared.status.LiveStatus.{LiveStatus}
use Rattle.live_lines.specs.declared.status.LiveStatus.TheVariants as ends_with
use Rattle.live_lines.specs.Lines.{LinesStop}
use Rattle.live_lines.specs.Serving.{ServesLines, end_status}
use Rattle.live_lines.proofs.ServingLaws.{Going-read, Going-told, Going-stops, Going-done, Going-fault}
use Rattle.live_fabric.specs.declared.session.Session.{Session}
use Rattle.live_fabric.specs.Sessions.{SessionHeld, nothing_held, AnswersSession, SessionHolds}
use Rattle.rio_live.specs.Ending.{LinesStopped}
use Rattle.rio_live.specs.Program.{Closes, LiveServes}
use Rattle.live_fabric.proofs.TakenLaws.{is_sent}
use Rattle.rio_live.proofs.ServingLaws.{Course, with_nothing}

module _ (begun : Outgoing) (left : Option (List ℕ)) (read_faults : ℕ) where
  -- there is no further line, and not since the input ended
  pub Course-stops : {out : Outgoing} {session : Session} {left_now left_last : Option (List ℕ)}
      (pending taken : List ℕ) {count : ℕ} (read_faults_now read_faults_last : ℕ) (end : LineEnd)
      → (end ≡ stops_at.End → ⊥)
      → Course begun out session left left_now pending count read_faults read_faults_now
      → begun.waiting ≡ [] → out.failed ≡ false → out.waiting ≡ []
      → Consumes left_now left_last taken
      → LinesStop end left_last read_faults_now read_faults_last (pending ++ taken)
      → LiveServes (end_status end) left left_last read_faults read_faults_last
      begun.written out.written begun.faults out.faults
  Course-stops {out} {session} {left_now} {left_last} pending taken {count} read_faults_now
      read_faults_last end other h clear fine empty more stops = record {
        lines = h.lines;
        text = h.text;
        held = h.held;
        last = [];
        answers = h.answers;
        trace = h.holds.live.trace;
        closes = by_end end _ other;
        serves =
            with_nothing begun left read_faults out (end_status end) h.lines h.text
            (Going-stops begun left read_faults (2 ^ 32 - 1) pending taken
            read_faults_now read_faults_last end h.lines h.text h.going clear fine empty more
            stops);
      }
    where
      by_end : (e : LineEnd) (behind : List ℕ) → (e ≡ stops_at.End → ⊥)
          → Closes (end_status e) h.held (length h.lines + 1) behind []
      by_end stops_at.End behind other = absurd (other refl)
      by_end stops_at.Fault behind other = (is_sent session.live h.held.taken h.holds.live, refl)
      by_end stops_at.TooLong behind other = (is_sent session.live h.held.taken h.holds.live, refl)
      by_end stops_at.NoMemory behind other =
          (is_sent session.live h.held.taken h.holds.live, inl refl)

  -- the last line of the trace was told
  closes_trace : {left_last : Option (List ℕ)} {read_faults_last : ℕ} (next : Outgoing)
      (session : Session) (status : LiveStatus) (lines : List (List ℕ)) (text : List ℕ)
      (held : SessionHeld)
      → AnswersSession nothing_held 1 lines text held → SessionHolds session held
      → (next.failed ≡ true
      → ServesLines (2 ^ 32 - 1) ends_with.WriteFault left left_last read_faults read_faults_last
      begun.written next.written begun.faults next.faults lines (text ++ codes "end\n"))
      → (next.failed ≡ false
      → ServesLines (2 ^ 32 - 1) ends_with.Done left left_last read_faults read_faults_last
      begun.written next.written begun.faults next.faults lines (text ++ codes "end\n"))
      → status ≡ (if next.failed then ends_with.WriteFault else ends_with.Done)
      → LiveServes status left left_last read_faults read_faults_last
      begun.written next.written begun.faults next.faults
  closes_trace {left_last} {read_faults_last} next session status lines text held answers holds
      fault done is = by_failed next.failed refl
    where
      as_serves : (s : LiveStatus)
          → ((behind : List ℕ) → Closes s held (length lines + 1) behind (codes "end\n"))
          → ServesLines (2 ^ 32 - 1) s left left_last read_faults read_faults_last
          begun.written next.written begun.faults next.faults lines (text ++ codes "end\n")
          → LiveServes s left left_last read_faults read_faults_last
          begun.written next.written begun.faults next.faults
      as_serves s closes serves = record {
        lines = lines;
        text = text;
        held = held;
        last = codes "end\n";
        answers = answers;
        trace = holds.live.trace;
        closes = closes serves.behind;
        serves = serves;
      }

      by_failed : (b : Bool) → next.failed ≡ b
          → LiveServes status left left_last read_faults read_faults_last begun.written
          next.written begun.faults next.faults
      by_failed true failed =
          subst (λ s. LiveServes s left left_last read_faults read_faults_last
          begun.written next.written begun.faults next.faults)
          (sym (is ∙ ap (λ f. if f then ends_with.WriteFault else ends_with.Done) failed))
          (as_serves ends_with.WriteFault (λ behind. inr (inl refl)) (fault failed))
      by_failed false fine =
          subst (λ s. LiveServes s left left_last read_faults read_faults_last
          begun.written next.written begun.faults next.faults)
          (sym (is ∙ ap (λ f. if f then ends_with.WriteFault else ends_with.Done) fine))
          (as_serves ends_with.Done
          (λ behind. (is_sent session.live held.taken holds.live, refl)) (done fine))

  -- the input ended
  pub Course-ends : {out next : Outgoing} {session : Session} {left_now left_last : Option (List ℕ)}
      (pending taken : List ℕ) {count : ℕ} (read_faults_now read_faults_last : ℕ)
      (status : LiveStatus)
      → Course begun out session left left_now pending count read_faults read_faults_now
      → begun.waiting ≡ [] → begun.failed ≡ false → next.waiting ≡ []
      → Consumes left_now left_last taken
      → LinesStop stops_at.End left_last read_faults_now read_faults_last (pending ++ taken)
      → Writes out next (codes "end\n")
      → status ≡ (if next.failed then ends_with.WriteFault else ends_with.Done)
      → LiveServes status left left_last read_faults read_faults_last
      begun.written next.written begun.faults next.faults
  Course-ends {out} {next} {session} pending taken read_faults_now read_faults_last status h clear
      fresh empty more stops told is =
      let ended =
      Going-told begun left read_faults pending read_faults_now h.lines h.text
      (codes "end\n") h.going told in
      closes_trace next session status h.lines h.text h.held h.answers h.holds
      (λ failed. Going-fault begun left read_faults (2 ^ 32 - 1)
      (pending ++ taken) read_faults_last h.lines (h.text ++ codes "end\n")
      (Going-read begun left read_faults pending taken (pending ++ taken)
      read_faults_now read_faults_last h.lines (h.text ++ codes "end\n") ended more refl
      stops.2)
      clear fresh failed)
      (λ fine. Going-stops begun left read_faults (2 ^ 32 - 1) pending taken
      read_faults_now read_faults_last stops_at.End h.lines (h.text ++ codes "end\n") ended clear
      fine empty more stops)
      is

  -- there is no further line
  pub Course-closed : (next : Outgoing) {out : Outgoing} {session : Session}
      {left_now left_last : Option (List ℕ)}
      (pending taken : List ℕ) {count : ℕ} (read_faults_now read_faults_last : ℕ)
      (end : LineEnd) (status : LiveStatus)
      → Course begun out session left left_now pending count read_faults read_faults_now
      → begun.waiting ≡ [] → begun.failed ≡ false → out.failed ≡ false
      → out.waiting ≡ [] → Consumes left_now left_last taken
      → LinesStop end left_last read_faults_now read_faults_last (pending ++ taken)
      → LinesStopped end out next status
      → LiveServes status left left_last read_faults read_faults_last
      begun.written next.written begun.faults next.faults
  Course-closed next {out} {session} {left_now} {left_last} pending taken {count}
      read_faults_now read_faults_last end status h clear fresh fine empty more = by_end end
    where
      other : (e : LineEnd) → (e ≡ stops_at.End → ⊥)
          → LinesStop e left_last read_faults_now read_faults_last (pending ++ taken)
          → (status ≡ end_status e) × (next ≡ out)
          → LiveServes status left left_last read_faults read_faults_last
          begun.written next.written begun.faults next.faults
      other e no_end stops is =
          subst (λ s. LiveServes s left left_last read_faults read_faults_last
          begun.written next.written begun.faults next.faults) (sym is.0)
          (subst (λ (o : Outgoing). LiveServes (end_status e) left left_last read_faults
          read_faults_last begun.written o.written begun.faults o.faults) (sym is.1)
          (Course-stops pending taken read_faults_now read_faults_last e no_end h clear fine
          empty more stops))

      by_end : (e : LineEnd)
          → LinesStop e left_last read_faults_now read_faults_last (pending ++ taken)
          → LinesStopped e out next status
          → LiveServes status left left_last read_faults read_faults_last
          begun.written next.written begun.faults next.faults
      by_end stops_at.End stops stopped =
          Course-ends pending taken read_faults_now read_faults_last status h clear fresh
          stopped.1 more stops stopped.0 stopped.2
      by_end stops_at.Fault stops stopped =
          other stops_at.Fault (λ is. absurd cc) stops (stopped.0, stopped.1)
      by_end stops_at.TooLong stops stopped =
          other stops_at.TooLong (λ is. absurd cc) stops (stopped.0, stopped.1)
      by_end stops_at.NoMemory stops stopped =
          other stops_at.NoMemory (λ is. absurd cc) stops (stopped.0, stopped.1)

  -- the most lines were served
  pub Course-done : {out next : Outgoing} {session : Session} {left_now : Option (List ℕ)}
      (pending : List ℕ) {count : ℕ} (read_faults_now : ℕ) (status : LiveStatus)
      → Course begun out session left left_now pending count read_faults read_faults_now
      → begun.waiting ≡ [] → begun.failed ≡ false → next.waiting ≡ []
      → count ≡ 2 ^ 32 - 1 → Writes out next (codes "end\n")
      → status ≡ (if next.failed then ends_with.WriteFault else ends_with.Done)
      → LiveServes status left left_now read_faults read_faults_now
      begun.written next.written begun.faults next.faults
  Course-done {out} {next} {session} pending read_faults_now status h clear fresh empty all told
      is =
      let ended =
      Going-told begun left read_faults pending read_faults_now h.lines h.text
      (codes "end\n") h.going told in
      closes_trace next session status h.lines h.text h.held h.answers h.holds
      (λ failed. Going-fault begun left read_faults (2 ^ 32 - 1) pending
      read_faults_now h.lines (h.text ++ codes "end\n") ended clear fresh failed)
      (λ fine. Going-done begun left read_faults (2 ^ 32 - 1) pending
      read_faults_now h.lines (h.text ++ codes "end\n") ended clear fine empty all)
      is
