-- A restart-from-retry or a link-request comes to a port, and answers come back.
use Rattle.link_machine.proofs.Prelude.{◌≡◌, ◌⊎◌, inl, inr, ℕ, Bool, true, false, nat_lt, nat_le, ◌&&◌, ◌==◌, if◌then◌else◌, Option, None, option_to_list, List, [], ◌∷◌, ◌++◌, take, length, refl, sym, ap, ◌∙◌, append-nil, Char, Fields, InRange, Input, Arrival, Received, symbol_arrival, receives, Output, hears, hears_report, Outstanding, from_ack, distance, Place, run, place, place_start, place_after, at_rest, Text, Plain, Within, symbol_chars_of, said, Report, packets_of, lists_without, Event, Ctl, Pkt, Bad, Pending, Nothing, Opened, One, Two, PortState, prios_of, expected_of, Acted, acts, replies, Heard, Stype0, stype0, heard, ignored, accepted, retried, responded, reported, has_buffer_status, base_of, report_of, is_oldest, broken_off, begins_in, opened, text_after, told, InputOk, InputRetryStopped, InputErrorStopped, acted, acts_symbol, led, port_fed, port_answers, chars_of, controls, AreAnswers}
use Rattle.link_machine.proofs.Settling.SaidLaws.{reads, prepended, symbol_reads}
use Rattle.link_machine.proofs.Settling.TableLaws.{led-append, replies-append}
use Rattle.link_machine.proofs.Settling.AnswerLaws.{LeavesInput, answers_leave, first_breaks}

-- ---- by what was read

abbrev pub fed_by : PortState → List Event × Place → PortState
fed_by port r = record (led port r.0) { place = r.1 }

pub fed_is : (p : PortState) (cs : List Char) → port_fed p cs ≡ fed_by p (reads p.place cs)
unfolding port_fed
fed_is p cs = refl

pub answered_is : (p : PortState) (cs : List Char)
    → port_answers p cs ≡ replies p (reads p.place cs).0
unfolding port_answers
answered_is p cs = refl

-- no character
pub fed_none : (p : PortState) → port_fed p [] ≡ p
unfolding port_fed run led place_after
fed_none p = refl

pub answered_none : (p : PortState) → port_answers p [] ≡ []
unfolding port_answers run replies
answered_none p = refl

-- ---- a symbol is broken off

abbrev pub input_broken : Pending → Input → Input
input_broken Nothing input = input
input_broken (Opened d) input = (receives (Arrival.Damaged 5) input).state
input_broken (One d x) input = (receives (Arrival.Damaged 5) input).state
input_broken (Two d x y) input = (receives (Arrival.Damaged 5) input).state

abbrev pub reply_broken : Pending → Input → Option Fields
reply_broken Nothing input = None
reply_broken (Opened d) input = (receives (Arrival.Damaged 5) input).reply
reply_broken (One d x) input = (receives (Arrival.Damaged 5) input).reply
reply_broken (Two d x y) input = (receives (Arrival.Damaged 5) input).reply

pub break_led : (p : PortState) (k : Pending)
    → led p (broken_off k) ≡ record p { input = input_broken k p.input }
unfolding led
break_led p Nothing = refl
break_led p _ = refl

pub break_replies : (p : PortState) (k : Pending)
    → replies p (broken_off k) ≡ option_to_list (reply_broken k p.input)
unfolding replies
break_replies p Nothing = refl
break_replies p _ = append-nil (option_to_list (receives (Arrival.Damaged 5) p.input).reply)

-- ---- a symbol that ends whatever was in progress

-- restart-from-retry, or link-request, with the status of the port that sends it
pub record IsSignal (s : Fields) (what : Arrival) : Type 0 where
  pub range : InRange s
  pub status : stype0 s.s0 ≡ Stype0.OtherStype0
  pub tells : (t : Text) → told t s ≡ Ctl s ∷ []
  pub plain : (t : Text) → text_after t s.s1 ≡ Plain
  pub arrival : symbol_arrival s.s1 s.cmd ≡ what

-- what a symbol does, by what the two halves make of it
abbrev pub hearing : PortState → Heard → Received → Acted
hearing port h r =
    acted (record port {
      output = h.state;
      queued = lists_without (take h.freed (prios_of port.output)) port.queued;
      input = r.state;
    })
    r.reply None (packets_of (take h.freed (prios_of port.output)) port.queued)

other_is_ignored : (o : Output) (ack : ℕ) → hears Stype0.OtherStype0 o ack ≡ ignored o
other_is_ignored (Output.Ok w) ack = refl
other_is_ignored (Output.RetryStopped w) ack = refl
other_is_ignored (Output.ErrorStopped asked w) ack = refl
other_is_ignored Output.Failed ack = refl

-- a status moves the input half, and tells the output half of free buffers
abbrev pub status_moved : PortState → Fields → Received → Acted
status_moved port s r =
    acted (record port { output = hears_report s port.output; input = r.state }) r.reply None []

pub status_acts : (p : PortState) (s : Fields) → stype0 s.s0 ≡ Stype0.OtherStype0
    → acts_symbol p s ≡ status_moved p s (receives (symbol_arrival s.s1 s.cmd) p.input)
status_acts p s status =
    ap (λ (k : Stype0). hearing p (hears k (hears_report s p.output) s.p0)
    (receives (symbol_arrival s.s1 s.cmd) p.input)) status
    ∙ ap (λ (h : Heard). hearing p h (receives (symbol_arrival s.s1 s.cmd) p.input))
    (other_is_ignored (hears_report s p.output) s.p0)

signal_acts : (p : PortState) (s : Fields) (what : Arrival) → IsSignal s what
    → acts p (Ctl s) ≡ status_moved p s (receives what p.input)
signal_acts p s what is =
    status_acts p s is.status
    ∙ ap (λ (a : Arrival). status_moved p s (receives a p.input)) is.arrival

signal_reads : (from : Place) (s : Fields) (what : Arrival) → IsSignal s what
    → reads from (symbol_chars_of s) ≡ (broken_off from.pending ++ Ctl s ∷ [], place_start)
unfolding run place_after
signal_reads from s what is =
    let u = begins_in from.text from.pending in
    ap (reads from) (sym (append-nil (symbol_chars_of s)))
    ∙ symbol_reads from.text from.pending s [] is.range
    ∙ ap (λ (es : List Event). prepended (broken_off from.pending ++ es)
    (reads (place (text_after u s.s1) Nothing) [])) (is.tells u)
    ∙ ap
    (λ (v : Text). prepended (broken_off from.pending ++ Ctl s ∷ []) (reads (place v Nothing) []))
    (is.plain u)
    ∙ ap (λ (es : List Event). (es, place_start))
    (append-nil (broken_off from.pending ++ Ctl s ∷ []))

-- the input half after it, and the answers
abbrev pub input_signalled : Arrival → Pending → Input → Input
input_signalled what k input = (receives what (input_broken k input)).state

abbrev pub replies_signalled : Arrival → Pending → Input → List Fields
replies_signalled what k input =
    option_to_list (reply_broken k input)
    ++ option_to_list (receives what (input_broken k input)).reply

pub signal_fed : (p : PortState) (s : Fields) (what : Arrival) → IsSignal s what
    → port_fed p (symbol_chars_of s)
    ≡ record p {
      output = hears_report s p.output;
      input = input_signalled what p.place.pending p.input;
      place = place_start;
    }
unfolding led
signal_fed p s what is =
    let k = p.place.pending in
    fed_is p (symbol_chars_of s)
    ∙ ap (fed_by p) (signal_reads p.place s what is)
    ∙ ap (λ (q : PortState). record q { place = place_start })
    (led-append p (broken_off k) (Ctl s ∷ [])
    ∙ ap (λ (q : PortState). (acts q (Ctl s)).port) (break_led p k))
    ∙ ap (λ (a : Acted). record a.port { place = place_start })
    (signal_acts (record p { input = input_broken k p.input }) s what is)

pub signal_answered : (p : PortState) (s : Fields) (what : Arrival) → IsSignal s what
    → port_answers p (symbol_chars_of s) ≡ replies_signalled what p.place.pending p.input
unfolding led replies
signal_answered p s what is =
    let k = p.place.pending in
    answered_is p (symbol_chars_of s)
    ∙ ap (λ (r : List Event × Place). replies p r.0) (signal_reads p.place s what is)
    ∙ replies-append p (broken_off k) (Ctl s ∷ [])
    ∙ ap (λ (r : List Fields). r ++ replies (led p (broken_off k)) (Ctl s ∷ [])) (break_replies p k)
    ∙ ap (λ (q : PortState). option_to_list (reply_broken k p.input) ++ replies q (Ctl s ∷ []))
    (break_led p k)
    ∙ ap (λ (a : Acted). option_to_list (reply_broken k p.input) ++ (option_to_list a.reply ++ []))
    (signal_acts (record p { input = input_broken k p.input }) s what is)
    ∙ ap (λ (r : List Fields). option_to_list (reply_broken k p.input) ++ r)
    (append-nil (option_to_list (receives what (input_broken k p.input)).reply))

-- ---- answers come back

-- the text after answers
abbrev pub text_answered : List Fields → Text → Text
text_answered [] text = text
text_answered (s ∷ ss) text = opened text

pub unbroken_reads : (t : Text) (ss : List Fields) → AreAnswers ss
    → reads (place t Nothing) (chars_of ss) ≡ (controls ss, place (text_answered ss t) Nothing)
unfolding chars_of controls run place_after
unbroken_reads t [] are = refl
unbroken_reads t (s ∷ ss) are = first_breaks t Nothing s ss are

pub resting_answered : (ss : List Fields) (t : Text) → at_rest (place t Nothing) ≡ true
    → at_rest (place (text_answered ss t) Nothing) ≡ true
resting_answered [] t rests = rests
resting_answered (s ∷ ss) (Within bytes) rests = absurd cc
resting_answered (s ∷ ss) _ rests = refl

-- where no symbol is in progress, answers leave the input half as it is, and have no answer
pub unbroken_leaves : (p : PortState) (t : Text) (ss : List Fields) → p.place ≡ place t Nothing
    → AreAnswers ss
    → LeavesInput p (port_fed p (chars_of ss)) (port_answers p (chars_of ss))
    × ((port_fed p (chars_of ss)).place ≡ place (text_answered ss t) Nothing)
unbroken_leaves p t ss there are =
    let r = ap (λ (from : Place). reads from (chars_of ss)) there ∙ unbroken_reads t ss are in
    let leaves = answers_leave p ss are in
    let fed_to = fed_is p (chars_of ss) ∙ ap (fed_by p) r in
    let said_to =
    answered_is p (chars_of ss) ∙ ap (λ (x : List Event × Place). replies p x.0) r in (
      record {
        input = ap (λ (q : PortState). q.input) fed_to ∙ leaves.input;
        received = ap (λ (q : PortState). q.received) fed_to ∙ leaves.received;
        silent = said_to ∙ leaves.silent;
      },
      ap (λ (q : PortState). q.place) fed_to,
    )

-- after an answer no symbol is in progress
pub answers_end : (p : PortState) (s : Fields) (ss : List Fields) → AreAnswers (s ∷ ss)
    → (port_fed p (chars_of (s ∷ ss))).place
    ≡ place (begins_in p.place.text p.place.pending) Nothing
answers_end p s ss are =
    ap (λ (q : PortState). q.place) (fed_is p (chars_of (s ∷ ss))
    ∙ ap (fed_by p) (first_breaks p.place.text p.place.pending s ss are))

-- Of answers, what is answered to those, and what is answered to that: it has no answer.
pub third_is_silent : (q p : PortState) (second fourth : List Fields) → AreAnswers second
    → AreAnswers fourth
    → fourth ≡ port_answers p (chars_of (port_answers q (chars_of second)))
    → port_answers (port_fed q (chars_of second)) (chars_of fourth) ≡ []
unfolding chars_of
third_is_silent q p [] fourth are answer is =
    let none : port_answers q [] ≡ [] = answered_none q in
    let silent : fourth ≡ [] =
    is ∙ ap (λ (r : List Fields). port_answers p (chars_of r)) none ∙ answered_none p in
    ap (λ (r : List Fields). port_answers (port_fed q []) (chars_of r)) silent
    ∙ answered_none (port_fed q [])
third_is_silent q p (s ∷ ss) fourth are answer is =
    let next = port_fed q (chars_of (s ∷ ss)) in
    let leaves =
    unbroken_leaves next (begins_in q.place.text q.place.pending) fourth
    (answers_end q s ss are) answer in
    leaves.0.silent

-- ---- a sender that has nothing on its way

abbrev pub IsDown : Output → Type 0
IsDown (Output.Ok w) = w.prios ≡ []
IsDown (Output.RetryStopped w) = ⊥
IsDown (Output.ErrorStopped asked w) = Unit {0}
IsDown Output.Failed = Unit {0}

none_oldest : (w : Outstanding) (ack : ℕ) → w.prios ≡ [] → is_oldest w ack ≡ false
none_oldest w ack none = ap (λ (prios : List ℕ). nat_lt 0 (length prios) && (ack == w.oldest)) none

down_accepted : (w : Outstanding) (ack : ℕ) → w.prios ≡ [] → IsDown (accepted w ack).state
down_accepted w ack none = rw (none_oldest w ack none) tt

down_retried : (w : Outstanding) (ack : ℕ) → w.prios ≡ [] → IsDown (retried w ack).state
down_retried w ack none = rw (none_oldest w ack none) tt

down_responded : (within : Bool) (w : Outstanding) (ack count : ℕ)
    → IsDown
    (if within then heard (Output.Ok (from_ack ack w.report)) count
    else heard Output.Failed 0).state
down_responded true w ack count = refl
down_responded false w ack count = tt

down_heard : (kind : Stype0) (o : Output) (ack : ℕ) → IsDown o → IsDown (hears kind o ack).state
down_heard Stype0.PacketAccepted (Output.Ok w) ack down = down_accepted w ack down
down_heard Stype0.PacketAccepted (Output.RetryStopped w) ack down = tt
down_heard Stype0.PacketAccepted (Output.ErrorStopped asked w) ack down = tt
down_heard Stype0.PacketAccepted Output.Failed ack down = tt
down_heard Stype0.PacketRetry (Output.Ok w) ack down = down_retried w ack down
down_heard Stype0.PacketRetry (Output.RetryStopped w) ack down = tt
down_heard Stype0.PacketRetry (Output.ErrorStopped asked w) ack down = tt
down_heard Stype0.PacketRetry Output.Failed ack down = tt
down_heard Stype0.PacketNotAccepted (Output.Ok w) ack down = tt
down_heard Stype0.PacketNotAccepted (Output.RetryStopped w) ack down = tt
down_heard Stype0.PacketNotAccepted (Output.ErrorStopped asked w) ack down = tt
down_heard Stype0.PacketNotAccepted Output.Failed ack down = tt
down_heard Stype0.LinkResponse (Output.Ok w) ack down = down
down_heard Stype0.LinkResponse (Output.RetryStopped w) ack down = down
down_heard Stype0.LinkResponse (Output.ErrorStopped false w) ack down = tt
down_heard Stype0.LinkResponse (Output.ErrorStopped true w) ack down =
    down_responded (nat_le (distance w.oldest ack) (length w.prios)) w ack (distance w.oldest ack)
down_heard Stype0.LinkResponse Output.Failed ack down = tt
down_heard Stype0.OtherStype0 (Output.Ok w) ack down = down
down_heard Stype0.OtherStype0 (Output.RetryStopped w) ack down = down
down_heard Stype0.OtherStype0 (Output.ErrorStopped asked w) ack down = tt
down_heard Stype0.OtherStype0 Output.Failed ack down = tt

down_reported : (has : Bool) (report : Option Report) (o : Output) → IsDown o
    → IsDown (if has then reported report o else o)
down_reported true report (Output.Ok w) down = down
down_reported true report (Output.RetryStopped w) down = down
down_reported true report (Output.ErrorStopped asked w) down = tt
down_reported true report Output.Failed down = tt
down_reported false report o down = down

pub down_led : (p : PortState) (es : List Event) → IsDown p.output → IsDown (led p es).output
unfolding led
down_led p [] down = down
down_led p (Ctl s ∷ es) down =
    down_led (acts p (Ctl s)).port es
    (down_heard (stype0 s.s0) (hears_report s p.output) s.p0
    (down_reported (has_buffer_status s.s0) (report_of (base_of s.s0 s.p0) s.p1) p.output down))
down_led p (Pkt ack packet ∷ es) down = down_led (acts p (Pkt ack packet)).port es down
down_led p (Bad cause ∷ es) down = down_led (acts p (Bad cause)).port es down

pub down_fed : (p : PortState) (cs : List Char) → IsDown p.output → IsDown (port_fed p cs).output
unfolding port_fed
down_fed p cs down = down_led p (said p.place cs) down

-- ---- a link-request and its response

-- a link-request is answered by a link-response, and the input half takes packets
pub request_input : (k : Pending) (i : Input)
    → input_signalled Arrival.LinkRequest k i ≡ InputOk (expected_of i)
request_input Nothing (InputOk e) = refl
request_input Nothing (InputRetryStopped e) = refl
request_input Nothing (InputErrorStopped e) = refl
request_input _ (InputOk e) = refl
request_input _ (InputRetryStopped e) = refl
request_input _ (InputErrorStopped e) = refl

-- the output half after a list of symbols
unfoldable pub output_after : Output → List Fields → Output
output_after o [] = o
output_after o (s ∷ ss) = output_after (hears (stype0 s.s0) (hears_report s o) s.p0).state ss

pub output_led : (p : PortState) (ss : List Fields)
    → (led p (controls ss)).output ≡ output_after p.output ss
unfolding led controls output_after
output_led p [] = refl
output_led p (s ∷ ss) = output_led (acts p (Ctl s)).port ss

-- a sender that has asked hears the answers to its link-request
pub response_heard : (k : Pending) (i : Input) (w : Outstanding)
    → output_after (Output.ErrorStopped true w) (replies_signalled Arrival.LinkRequest k i)
    ≡ (responded true w (expected_of i)).state
unfolding output_after
response_heard Nothing (InputOk e) w = refl
response_heard Nothing (InputRetryStopped e) w = refl
response_heard Nothing (InputErrorStopped e) w = refl
response_heard _ (InputOk e) w = refl
response_heard _ (InputRetryStopped e) w = refl
response_heard _ (InputErrorStopped e) w = refl

responded_by : (within : Bool) (next : Outstanding) (count : ℕ)
    → ((if within then heard (Output.Ok next) count else heard Output.Failed 0).state
    ≡ Output.Ok next)
    ⊎ ((if within then heard (Output.Ok next) count else heard Output.Failed 0).state
    ≡ Output.Failed)
responded_by true next count = inl refl
responded_by false next count = inr refl

pub response_is : (w : Outstanding) (ack : ℕ)
    → ((responded true w ack).state ≡ Output.Ok (from_ack ack w.report))
    ⊎ ((responded true w ack).state ≡ Output.Failed)
response_is w ack =
    responded_by (nat_le (distance w.oldest ack) (length w.prios)) (from_ack ack w.report)
    (distance w.oldest ack)
