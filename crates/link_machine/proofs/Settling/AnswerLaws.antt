-- What ports answer says nothing to a receiver: answers have no answer.
use Rattle.link_machine.proofs.Prelude.{◌≡◌, ℕ, ◌<◌, Bool, true, false, Option, Some, None, option_to_list, List, [], ◌∷◌, ◌++◌, refl, sym, ap, ◌∙◌, subst, arith, append_assoc, Fields, number_of, Input, Arrival, symbol_arrival, receives, run, place, place_after, Text, Buffered, stored, Event, Ctl, Pkt, Bad, Pending, Nothing, PortState, IsPort, expected_of, acts, replies, broken_off, begins_in, opened, text_after, told, InputOk, IsAnswer, IsReply, expected_below, begins_opened, led, chars_of, controls, AreAnswers}
use Rattle.link_model.specs.Input as in_half
use Rattle.link_port.proofs.AnswerLaws.{reply_answers, answer_tells, answer_stays}
use Rattle.link_machine.proofs.Settling.SaidLaws.{reads, prepended, symbol_reads}

-- ---- what a port answers

-- the expected ackID and the number of buffers have five bits
abbrev pub IsNarrow : PortState → Type 0
IsNarrow p = (expected_of p.input < 32) × (p.received.buffers < 32)

pub port_narrow : (p : PortState) → IsPort p → IsNarrow p
port_narrow p is = let most = is.receives.most in (is.expected_ack, omega arith)

acts_below : (p : PortState) (e : Event) → expected_of p.input < 32
    → expected_of (acts p e).port.input < 32
acts_below p (Ctl s) below = expected_below (symbol_arrival s.s1 s.cmd) p.input below
acts_below p (Pkt ack packet) below = expected_below _ p.input below
acts_below p (Bad cause) below = expected_below (Arrival.Damaged (number_of cause)) p.input below

stored_buffers : (held : Bool) (store : Buffered) (packet : List ℕ)
    → (stored held store packet).buffers ≡ store.buffers
stored_buffers true store packet = refl
stored_buffers false store packet = refl

acts_buffers : (p : PortState) (e : Event) → (acts p e).port.received.buffers ≡ p.received.buffers
acts_buffers p (Ctl s) = refl
acts_buffers p (Pkt ack packet) = stored_buffers _ p.received packet
acts_buffers p (Bad cause) = refl

-- they stay so
pub acts_narrow : (p : PortState) (e : Event) → IsNarrow p → IsNarrow (acts p e).port
acts_narrow p e narrow =
    (acts_below p e narrow.0, subst (λ (n : ℕ). n < 32) (sym (acts_buffers p e)) narrow.1)

one_more : (o : Option Fields) (ss : List Fields) → IsReply o → AreAnswers ss
    → AreAnswers (option_to_list o ++ ss)
unfolding AreAnswers
one_more None ss is are = are
one_more (Some s) ss is are = (is, are)

-- Whatever comes, a port answers with answers.
pub replies_answer : (p : PortState) (es : List Event) → IsNarrow p → AreAnswers (replies p es)
unfolding replies AreAnswers
replies_answer p [] narrow = tt
replies_answer p (e ∷ es) narrow =
    one_more (acts p e).reply (replies (acts p e).port es) (reply_answers p e narrow.0 narrow.1)
    (replies_answer (acts p e).port es (acts_narrow p e narrow))

pub AreAnswers-append : (xs ys : List Fields) → AreAnswers xs → AreAnswers ys
    → AreAnswers (xs ++ ys)
unfolding AreAnswers
AreAnswers-append [] ys are more = more
AreAnswers-append (x ∷ xs) ys are more = (are.0, AreAnswers-append xs ys are.1 more)

-- ---- how answers read

-- answers where a symbol may begin
pub answers_read : (t : Text) (ss : List Fields) → opened t ≡ t → AreAnswers ss
    → reads (place t Nothing) (chars_of ss) ≡ (controls ss, place t Nothing)
unfolding AreAnswers chars_of controls run place_after
answers_read t [] may are = refl
answers_read t (s ∷ ss) may are =
    symbol_reads t Nothing s (chars_of ss) are.0.range
    ∙ ap
    (λ (u : Text). prepended (told u s) (reads (place (text_after u s.s1) Nothing) (chars_of ss)))
    may
    ∙ ap
    (λ (es : List Event). prepended es (reads (place (text_after t s.s1) Nothing) (chars_of ss)))
    (answer_tells t s are.0)
    ∙ ap (λ (u : Text). prepended (Ctl s ∷ []) (reads (place u Nothing) (chars_of ss)))
    (answer_stays t s are.0)
    ∙ ap (prepended (Ctl s ∷ [])) (answers_read t ss may are.1)

-- the first answer breaks a symbol off
pub first_breaks : (t : Text) (k : Pending) (s : Fields) (ss : List Fields) → AreAnswers (s ∷ ss)
    → reads (place t k) (chars_of (s ∷ ss))
    ≡ (broken_off k ++ controls (s ∷ ss), place (begins_in t k) Nothing)
unfolding AreAnswers chars_of controls
first_breaks t k s ss are =
    let u = begins_in t k in
    symbol_reads t k s (chars_of ss) are.0.range
    ∙ ap (λ (es : List Event). prepended (broken_off k ++ es)
    (reads (place (text_after u s.s1) Nothing) (chars_of ss))) (answer_tells u s are.0)
    ∙ ap
    (λ (v : Text). prepended (broken_off k ++ Ctl s ∷ []) (reads (place v Nothing) (chars_of ss)))
    (answer_stays u s are.0)
    ∙ ap (prepended (broken_off k ++ Ctl s ∷ [])) (answers_read u ss (begins_opened t k) are.1)
    ∙ ap (λ (es : List Event). (es, place u Nothing))
    (append_assoc (broken_off k) (Ctl s ∷ []) (controls ss))

-- ---- what answers do

pub silent : (input : Input) → receives Arrival.OtherStype1 input ≡ in_half.silent input
silent (InputOk e) = refl
silent _ = refl

answer_is_silent : (p : PortState) (s : Fields) → IsAnswer s
    → receives (symbol_arrival s.s1 s.cmd) p.input ≡ in_half.silent p.input
answer_is_silent p s is =
    ap (λ (n : ℕ). receives (symbol_arrival n s.cmd) p.input) is.nop ∙ silent p.input

-- the input half stays, and nothing is answered
pub record LeavesInput (p next : PortState) (replies : List Fields) : Type 0 where
  pub input : next.input ≡ p.input
  pub received : next.received ≡ p.received
  pub silent : replies ≡ []

pub answers_leave : (p : PortState) (ss : List Fields) → AreAnswers ss
    → LeavesInput p (led p (controls ss)) (replies p (controls ss))
unfolding AreAnswers controls led replies
answers_leave p [] are = record { input = refl; received = refl; silent = refl }
answers_leave p (s ∷ ss) are =
    let rest = answers_leave (acts p (Ctl s)).port ss are.1 in
    let first = answer_is_silent p s are.0 in
    record {
      input = rest.input ∙ ap (λ (r : in_half.Received). r.state) first;
      received = rest.received;
      silent =
          ap (λ (r : in_half.Received). option_to_list r.reply
          ++ replies (acts p (Ctl s)).port (controls ss)) first
          ∙ rest.silent;
    }
