-- Lines that a fabric is given, one after another.
use Rattle.std.proofs.Common.{◌≡◌, ℕ, ◌+◌, ◌-◌, ◌^◌, Option, Result, Ok, IfOk, List, [], ◌∷◌, ◌++◌, inl, refl, sym, subst, append-nil, arith}
use Rattle.std.specs.Io.KnownBytes.{Consumes}
use Rattle.rio_chars.specs.Written.{Outgoing, Writes}
use Rattle.live_lines.specs.declared.status.LiveStatus.{LiveStatus}
use Rattle.live_lines.specs.declared.status.LiveStatus.TheVariants as ends_with
use Rattle.live_lines.specs.Lines.{IsLine, with_feed}
use Rattle.live_lines.specs.Serving.{ServesLines}
use Rattle.live_lines.proofs.ServingLaws.{Going, Going-begin, Going-line, Going-told, served_none}
use Rattle.live_fabric.specs.declared.answers.AfterLine.TheVariants as Goings
use Rattle.live_fabric.specs.declared.session.Session.{Session}
use Rattle.fabric_trace.specs.Runs.{bare}
use Rattle.fabric_trace.proofs.Network.Boards.{same_board}
use Rattle.live_fabric.specs.Holding.{IsTrace}
use Rattle.live_fabric.specs.Lines.{nothing_taken}
use Rattle.live_fabric.specs.Sessions.{SessionHeld, nothing_held, SessionHolds, SessionAnswered, LineAnswers, AnswersSession}
use Rattle.rio_live.specs.Program.{LiveServes}
use Rattle.live_fabric.proofs.TakenLaws.{is_sent}
use Rattle.live_fabric.proofs.SessionLaws.{session_more}

-- Lines were served so far, and these bytes were read behind the last one.
pub record Course (begun out : Outgoing) (session : Session) (left left_now : Option (List ℕ))
    (pending : List ℕ) (count : ℕ) (read_faults read_faults_now : ℕ) : Type 0 where
  pub lines : List (List ℕ)
  pub text : List ℕ
  pub held : SessionHeld
  pub answers : AnswersSession nothing_held 1 lines text held
  pub holds : SessionHolds session held
  pub going : Going begun out left left_now pending count read_faults read_faults_now lines text

-- what is said of an answer that is no error, by which one it is
pub as_ok : {T E : Type 0} (P : T → Type 0) (result : Result T E) (x y : T) → result ≡ Ok x
    → x ≡ y → IfOk result P → P y
as_ok P result x y is same p = subst P same (subst (λ r. IfOk r P) is p)

-- no line has come
nothing_is_trace : IsTrace nothing_taken
nothing_is_trace = record {
  passes = refl;
  no_events = tt;
  board = same_board bare bare refl;
  sent = refl;
  events = tt;
  blocks = refl;
}

-- nothing was read or written, since memory was not given
pub serves_none : (left written : Option (List ℕ)) (read_faults write_faults : ℕ)
    → LiveServes ends_with.NoMemory left left read_faults read_faults written written write_faults
    write_faults
serves_none left written read_faults write_faults = record {
  lines = [];
  text = [];
  held = nothing_held;
  last = [];
  answers = (refl, refl);
  trace = nothing_is_trace;
  closes = (refl, inl refl);
  serves = served_none (2 ^ 32 - 1) left written read_faults write_faults;
}

module _ (begun : Outgoing) (left : Option (List ℕ)) (read_faults : ℕ) where
  pub Course-begin : (session : Session) (pending : List ℕ)
      → SessionHolds session nothing_held → pending ≡ []
      → Course begun begun session left left pending 0 read_faults read_faults
  Course-begin session pending holds none = record {
    lines = [];
    text = [];
    held = nothing_held;
    answers = (refl, refl);
    holds = holds;
    going = Going-begin begun left read_faults pending none;
  }

  -- a line more was read, and a text told of it
  pub line_told : {out next : Outgoing} {session : Session} {left_now left_next : Option (List ℕ)}
      (pending pending_next line taken more : List ℕ) {count : ℕ}
      (read_faults_now read_faults_next : ℕ)
      → (h : Course begun out session left left_now pending count read_faults read_faults_now)
      → Consumes left_now left_next taken → pending ++ taken ≡ with_feed line ++ pending_next
      → IsLine line → Writes out next more
      → read_faults_next ≡ read_faults_now
      → Going begun next left left_next pending_next (count + 1) read_faults
      read_faults_next (h.lines ++ line ∷ []) (h.text ++ more)
  line_told pending pending_next line taken more read_faults_now read_faults_next h read is good
      told same =
      Going-told begun left read_faults pending_next read_faults_next
      (h.lines ++ line ∷ []) h.text more
      (Going-line begun left read_faults pending pending_next line taken
      read_faults_now read_faults_next h.lines h.text h.going read is good same)
      told

  -- it is answered
  pub with_answer : {out : Outgoing} {session : Session} {left_now : Option (List ℕ)}
      (pending line more : List ℕ) {count : ℕ} (read_faults_now : ℕ) (next : SessionHeld)
      → (h : Course begun out session left left_now pending count read_faults read_faults_now)
      → LineAnswers h.held (count + 1) line more next
      → AnswersSession nothing_held 1 (h.lines ++ line ∷ []) (h.text ++ more) next
  with_answer {out} {session} pending line more {count} read_faults_now next h answers =
      let counted = h.going.counted in
      session_more nothing_held 1 h.lines line h.text h.held (count + 1) more next h.answers
      (omega arith) (is_sent session.live h.held.taken h.holds.live) answers

  pub Course-line : {out next : Outgoing} {session session_next : Session}
      {left_now left_next : Option (List ℕ)} (pending pending_next line taken : List ℕ)
      {count : ℕ} (read_faults_now read_faults_next : ℕ)
      → (h : Course begun out session left left_now pending count read_faults read_faults_now)
      → Consumes left_now left_next taken → pending ++ taken ≡ with_feed line ++ pending_next
      → IsLine line → read_faults_next ≡ read_faults_now
      → SessionAnswered h.held (count + 1) line out next session_next Goings.On
      → Course begun next session_next left left_next pending_next (count + 1)
      read_faults read_faults_next
  Course-line pending pending_next line taken {count} read_faults_now read_faults_next h read is
      good same a = record {
        lines = h.lines ++ line ∷ [];
        text = h.text ++ a.text;
        held = a.next;
        answers = with_answer pending line a.text read_faults_now a.next h a.answers;
        holds = a.goes;
        going =
            line_told pending pending_next line taken a.text read_faults_now read_faults_next h read
            is good a.told same;
      }

  -- what is said of a text, and of it with nothing behind it
  pub with_nothing : {left_last : Option (List ℕ)} {read_faults_last : ℕ} (out : Outgoing)
      (status : LiveStatus) (lines : List (List ℕ)) (text : List ℕ)
      → ServesLines (2 ^ 32 - 1) status left left_last read_faults read_faults_last
      begun.written out.written begun.faults out.faults lines text
      → ServesLines (2 ^ 32 - 1) status left left_last read_faults read_faults_last
      begun.written out.written begun.faults out.faults lines (text ++ [])
  with_nothing {left_last} {read_faults_last} out status lines text serves =
      subst (λ l. ServesLines (2 ^ 32 - 1) status left left_last read_faults read_faults_last
      begun.written out.written begun.faults out.faults lines l) (sym (append-nil text)) serves
