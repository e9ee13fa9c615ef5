-- The answer of a line is the last one.
use Rattle.std.proofs.Common.{◌≡◌, ℕ, ◌+◌, ◌-◌, ◌^◌, Option, Result, Ok, Err, IfOk, OnErr, true, false, List, [], ◌∷◌, ◌++◌, length, inl, inr, refl, sym, ap, subst}
use Rattle.std.specs.Io.KnownBytes.{Consumes}
use Rattle.rio_chars.specs.Written.{Outgoing}
use Rattle.live_lines.specs.declared.status.LiveStatus.{LiveStatus}
use Rattle.live_lines.specs.declared.status.LiveStatus.TheVariants as ends_with
use Rattle.live_lines.specs.Lines.{IsLine, with_feed}
use Rattle.live_lines.specs.Serving.{ServesLines}
use Rattle.live_lines.proofs.ServingLaws.{Going, Going-read, Going-told, Going-no_memory, Going-undetected, Going-fault}
use Rattle.live_fabric.specs.declared.answers.BrokenOff.{BrokenOff}
use Rattle.live_fabric.specs.declared.answers.AfterLine.{AfterLine}
use Rattle.live_fabric.specs.declared.answers.AfterLine.TheVariants as Goings
use Rattle.live_fabric.specs.declared.session.Session.{Session}
use Rattle.live_fabric.specs.Holding.{IsTrace}
use Rattle.live_fabric.specs.Sessions.{SessionHeld, SessionHolds, SessionGoes, SessionAnswered, SessionBreaks, IsSessionFront}
use Rattle.rio_live.specs.Program.{IsFurtherFront, Closes, LiveServes}
use Rattle.live_fabric.proofs.TakenLaws.{is_sent}
use Rattle.rio_live.proofs.ServingLaws.{Course, with_nothing, line_told, with_answer}

module _ (begun : Outgoing) (left : Option (List ℕ)) (read_faults : ℕ) where
  -- the lines that were taken are a trace, whether there may be a further one or not
  goes_trace : (going : AfterLine) (session : Session) (held : SessionHeld)
      → SessionGoes going session held → IsTrace held.taken
  goes_trace Goings.On session held goes = goes.live.trace
  goes_trace Goings.Undetected session held goes = goes.0

  -- a write failed in the answer of a line
  pub Course-fault : {out next : Outgoing} {session session_next : Session}
      {left_now left_next : Option (List ℕ)} (pending pending_next line taken : List ℕ)
      {count : ℕ} (read_faults_now read_faults_next : ℕ) (going : AfterLine)
      → (h : Course begun out session left left_now pending count read_faults read_faults_now)
      → begun.waiting ≡ [] → begun.failed ≡ false → next.failed ≡ true
      → Consumes left_now left_next taken → pending ++ taken ≡ with_feed line ++ pending_next
      → IsLine line → read_faults_next ≡ read_faults_now
      → SessionAnswered h.held (count + 1) line out next session_next going
      → LiveServes ends_with.WriteFault left left_next read_faults read_faults_next
      begun.written next.written begun.faults next.faults
  Course-fault {out} {next} {session} {session_next} pending pending_next line taken {count}
      read_faults_now read_faults_next going h clear fresh failed read is good same a =
      let more = a.text in
      record {
        lines = h.lines ++ line ∷ [];
        text = h.text ++ more;
        held = a.next;
        last = [];
        answers = with_answer begun left read_faults pending line more read_faults_now a.next h
            a.answers;
        trace = goes_trace going session_next a.next a.goes;
        closes = inl refl;
        serves =
            with_nothing begun left read_faults next ends_with.WriteFault
            (h.lines ++ line ∷ []) (h.text ++ more)
            (Going-fault begun left read_faults (2 ^ 32 - 1) pending_next
            read_faults_next (h.lines ++ line ∷ []) (h.text ++ more)
            (line_told begun left read_faults pending pending_next line taken more
            read_faults_now read_faults_next h read is good a.told same)
            clear fresh failed);
      }

  -- a port acted on an event that was not sent
  pub Course-undetected : {out next : Outgoing} {session session_next : Session}
      {left_now left_next : Option (List ℕ)} (pending pending_next line taken : List ℕ)
      {count : ℕ} (read_faults_now read_faults_next : ℕ)
      → (h : Course begun out session left left_now pending count read_faults read_faults_now)
      → begun.waiting ≡ [] → next.failed ≡ false → next.waiting ≡ []
      → Consumes left_now left_next taken → pending ++ taken ≡ with_feed line ++ pending_next
      → IsLine line → read_faults_next ≡ read_faults_now
      → SessionAnswered h.held (count + 1) line out next session_next Goings.Undetected
      → LiveServes ends_with.Undetected left left_next read_faults read_faults_next
      begun.written next.written begun.faults next.faults
  Course-undetected {out} {next} {session} {session_next} pending pending_next line taken {count}
      read_faults_now read_faults_next h clear fine empty read is good same a =
      let more = a.text in
      record {
        lines = h.lines ++ line ∷ [];
        text = h.text ++ more;
        held = a.next;
        last = [];
        answers = with_answer begun left read_faults pending line more read_faults_now a.next h
            a.answers;
        trace = a.goes.0;
        closes = (a.goes.1, refl);
        serves =
            with_nothing begun left read_faults next ends_with.Undetected
            (h.lines ++ line ∷ []) (h.text ++ more)
            (Going-undetected begun left read_faults (2 ^ 32 - 1) pending_next
            read_faults_next (h.lines ++ line ∷ []) (h.text ++ more)
            (line_told begun left read_faults pending pending_next line taken more
            read_faults_now read_faults_next h read is good a.told same)
            clear fine empty);
      }

  -- the answer of a line broke off
  breaks : {out next : Outgoing} {session : Session} {left_now left_next : Option (List ℕ)}
      (status : LiveStatus) (pending pending_next line taken : List ℕ) {count : ℕ}
      (read_faults_now read_faults_next : ℕ)
      → (h : Course begun out session left left_now pending count read_faults read_faults_now)
      → (b : SessionBreaks h.held (count + 1) line out next)
      → (serves : ServesLines (2 ^ 32 - 1) status left left_next read_faults read_faults_next
      begun.written next.written begun.faults next.faults h.lines (h.text ++ b.text))
      → Closes status h.held (length h.lines + 1) serves.behind b.text
      → LiveServes status left left_next read_faults read_faults_next
      begun.written next.written begun.faults next.faults
  breaks status pending pending_next line taken read_faults_now read_faults_next h b serves
      closes = record {
        lines = h.lines;
        text = h.text;
        held = h.held;
        last = b.text;
        answers = h.answers;
        trace = h.holds.live.trace;
        closes = closes;
        serves = serves;
      }

  -- what was told then
  broken : {out next : Outgoing} {session : Session} {left_now left_next : Option (List ℕ)}
      (pending pending_next line taken : List ℕ) {count : ℕ}
      (read_faults_now read_faults_next : ℕ)
      → (h : Course begun out session left left_now pending count read_faults read_faults_now)
      → Consumes left_now left_next taken → pending ++ taken ≡ with_feed line ++ pending_next
      → read_faults_next ≡ read_faults_now
      → (b : SessionBreaks h.held (count + 1) line out next)
      → Going begun next left left_next (with_feed line ++ pending_next) count
      read_faults read_faults_next h.lines (h.text ++ b.text)
  broken pending pending_next line taken read_faults_now read_faults_next h read is same b =
      Going-told begun left read_faults (with_feed line ++ pending_next)
      read_faults_next h.lines h.text b.text
      (Going-read begun left read_faults pending taken
      (with_feed line ++ pending_next) read_faults_now read_faults_next h.lines h.text h.going
      read is same)
      b.told

  -- the front is of the answer of the next line, and has its number
  cut_at : {out next : Outgoing} {session : Session} {left_now : Option (List ℕ)}
      (pending pending_next line : List ℕ) {count : ℕ} (read_faults_now : ℕ)
      → (h : Course begun out session left left_now pending count read_faults read_faults_now)
      → IsLine line → (b : SessionBreaks h.held (count + 1) line out next)
      → IsFurtherFront h.held (length h.lines + 1) (with_feed line ++ pending_next) b.text
  cut_at {out} {next} {session} pending pending_next line read_faults_now h good b = (
    is_sent session.live h.held.taken h.holds.live,
    inr (record {
      line = line;
      rest = pending_next;
      is_line = good;
      first = refl;
      front =
          subst (λ n. IsSessionFront h.held n line b.text)
          (ap (λ n. n + 1) (sym h.going.counted)) b.is;
    }),
  )

  pub Course-no_memory : {out next : Outgoing} {session : Session}
      {left_now left_next : Option (List ℕ)} (pending pending_next line taken : List ℕ)
      {count : ℕ} (read_faults_now read_faults_next : ℕ)
      → (h : Course begun out session left left_now pending count read_faults read_faults_now)
      → begun.waiting ≡ [] → next.failed ≡ false → next.waiting ≡ []
      → Consumes left_now left_next taken → pending ++ taken ≡ with_feed line ++ pending_next
      → IsLine line → read_faults_next ≡ read_faults_now
      → SessionBreaks h.held (count + 1) line out next
      → LiveServes ends_with.NoMemory left left_next read_faults read_faults_next
      begun.written next.written begun.faults next.faults
  Course-no_memory {out} {next} {session} {left_now} {left_next} pending pending_next line taken
      read_faults_now read_faults_next h clear fine empty read is good same b =
      let behind = with_feed line ++ pending_next in
      let told =
      broken pending pending_next line taken read_faults_now read_faults_next h read is same b in
      let serves : ServesLines (2 ^ 32 - 1) ends_with.NoMemory left left_next read_faults
      read_faults_next begun.written next.written begun.faults next.faults h.lines
      (h.text ++ b.text) = record {
        behind = behind;
        are_lines = told.are_lines;
        read = told.read;
        ends = told.counts;
        writes =
            (Going-no_memory begun left read_faults (2 ^ 32 - 1) behind read_faults_next h.lines
            (h.text ++ b.text) told clear fine empty).writes;
      } in
      breaks ends_with.NoMemory pending pending_next line taken read_faults_now read_faults_next h b
      serves (cut_at pending pending_next line read_faults_now h good b)

  -- and a write failed in it
  pub Course-fault_within : {out next : Outgoing} {session : Session}
      {left_now left_next : Option (List ℕ)} (pending pending_next line taken : List ℕ)
      {count : ℕ} (read_faults_now read_faults_next : ℕ)
      → (h : Course begun out session left left_now pending count read_faults read_faults_now)
      → begun.waiting ≡ [] → begun.failed ≡ false → next.failed ≡ true
      → Consumes left_now left_next taken → pending ++ taken ≡ with_feed line ++ pending_next
      → IsLine line → read_faults_next ≡ read_faults_now
      → SessionBreaks h.held (count + 1) line out next
      → LiveServes ends_with.WriteFault left left_next read_faults read_faults_next
      begun.written next.written begun.faults next.faults
  Course-fault_within {out} {next} {session} {left_now} {left_next} pending pending_next line taken
      read_faults_now read_faults_next h clear fresh failed read is good same b =
      let behind = with_feed line ++ pending_next in
      let told =
      broken pending pending_next line taken read_faults_now read_faults_next h read is same b in
      let serves : ServesLines (2 ^ 32 - 1) ends_with.WriteFault left left_next read_faults
      read_faults_next begun.written next.written begun.faults next.faults h.lines
      (h.text ++ b.text) = record {
        behind = behind;
        are_lines = told.are_lines;
        read = told.read;
        ends = told.counts;
        writes =
            (Going-fault begun left read_faults (2 ^ 32 - 1) behind read_faults_next h.lines
            (h.text ++ b.text) told clear fresh failed).writes;
      } in
      breaks ends_with.WriteFault pending pending_next line taken read_faults_now read_faults_next h
      b serves (inr (inr (cut_at pending pending_next line read_faults_now h good b)))

  -- a write failed, whether the line was answered or not
  pub Course-failed : (next : Outgoing) (session_next : Session)
      {out : Outgoing} {session : Session}
      {left_now left_next : Option (List ℕ)} (pending pending_next line taken : List ℕ)
      {count : ℕ} (read_faults_now read_faults_next : ℕ) (result : Result AfterLine BrokenOff)
      → Course begun out session left left_now pending count read_faults read_faults_now
      → begun.waiting ≡ [] → begun.failed ≡ false → next.failed ≡ true
      → Consumes left_now left_next taken → pending ++ taken ≡ with_feed line ++ pending_next
      → IsLine line → read_faults_next ≡ read_faults_now
      → IfOk result (λ going. (t : SessionHeld) → SessionHolds session t
      → SessionAnswered t (count + 1) line out next session_next going)
      → OnErr result ((t : SessionHeld) → SessionHolds session t
      → SessionBreaks t (count + 1) line out next)
      → LiveServes ends_with.WriteFault left left_next read_faults read_faults_next
      begun.written next.written begun.faults next.faults
  Course-failed next session_next pending pending_next line taken read_faults_now read_faults_next
      (Ok going) h clear fresh failed read is good same answered short =
      Course-fault pending pending_next line taken read_faults_now read_faults_next going h
      clear fresh failed read is good same (answered h.held h.holds)
  Course-failed next session_next pending pending_next line taken read_faults_now read_faults_next
      (Err end) h clear fresh failed read is good same answered short =
      Course-fault_within pending pending_next line taken read_faults_now read_faults_next h
      clear fresh failed read is good same (short h.held h.holds)
