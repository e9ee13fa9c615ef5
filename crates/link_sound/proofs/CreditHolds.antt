-- What a packet that comes to a receiver does to what is told of free buffers.
use Rattle.link_sound.proofs.Prelude.{◌≡◌, ℕ, suc, ◌+◌, ◌-◌, ◌%◌, ◌<◌, ◌≤◌, ◌==◌, Bool, true, false, Option, IfSome, List, [], ◌∷◌, ◌++◌, length, inl, inr, refl, sym, ap, subst, arith, if◌then◌else◌, cases_lt, eq-eqb, ltb-false, append-nil, set_past, IfSome_then, Buffered, list_at, appended, packet_count, room_for, stored, packet_count-appended, prio_of, Input, packet_arrival, receives, untold, ExpectedWithRoom, ExpectedWithoutRoom, UnexpectedAck, Report, InputOk, InputRetryStopped, InputErrorStopped, buffer_status, expected_of, expects, Forward, ForwardPacket, ReceiverOk, ReceiverRetryStopped, ReceiverErrorStopped, Lacks, receiver_of, Word, Accepted, WordTold, WordsInTurn, IsCovered, AreCounted, free_buffers}
use Rattle.link_sound.proofs.CreditLaws.{WordsInTurn-more, WordsInTurn-accept, is_responded, HaveRoom-lower, HaveRoom-more}
use Rattle.link_sound.proofs.CreditTimely.{IsTimely}
use Rattle.link_sound.proofs.CreditAnswers.{say_counted, may_tell, status_free, Answered, no_packet_answered}

-- a packet takes at most one buffer
count_stored : (lists : List (List (List ℕ))) (prio : ℕ) (packet : List ℕ)
    → packet_count (appended lists prio packet) ≤ packet_count lists + 1
count_stored lists prio packet =
    elim (cases_lt prio (length lists)) [
      | inl within ↦ let one = packet_count-appended lists prio packet within in omega arith
      | inr beyond ↦
          let same = ap packet_count (set_past lists prio (list_at lists prio ++ packet ∷ [])
          beyond) in
          omega arith
    ]

free_stored : (store : Buffered) (packet : List ℕ)
    → free_buffers store ≤ suc (free_buffers (stored true store packet))
free_stored store packet =
    let more = count_stored store.lists (prio_of packet) packet in omega arith

-- the sender keeps its report
pub covered_more : (held next total later more : ℕ) (report : Option Report) → held ≤ later
    → total ≤ more → IfSome report (IsCovered held next total)
    → IfSome report (IsCovered later next more)
covered_more held next total later more report below grows is =
    IfSome_then report is (λ r c. record {
      base = c.base;
      number = c.number;
      told_first = omega (arith, c.told_first);
      near = c.near;
      enough = omega (arith, c.enough);
    })

-- the packet is held
accept_counted :
    (oldest count : ℕ) (report : Option Report) (ack total freed held free : ℕ)
    (words : List Word) → held < freed + count → free < untold → total ≤ free + suc held
    → Lacks is_responded words → AreCounted oldest count report ack total freed held words
    → AreCounted oldest count report ((ack + 1) % 32) (free + suc held) freed (suc held)
    (words ++ Accepted ack free ∷ [])
accept_counted oldest count report ack total freed held free words within few grows none c =
    let more = WordsInTurn-more freed held total (free + suc held) words grows c.words_are in
    record {
      oldest_is = c.oldest_is;
      expected_is = omega (arith, c.expected_is);
      held_first = omega (arith, c.held_first);
      sent_first = within;
      words_are =
          subst (λ (a : ℕ). WordsInTurn freed (suc held) (free + suc held)
          (words ++ Accepted a free ∷ [])) (sym c.expected_is)
          (WordsInTurn-accept freed held (free + suc held) free words c.held_first few
          (omega arith) none more);
      report_is =
          covered_more held (freed + count) total (suc held) (free + suc held) report
          (omega arith) grows c.report_is;
    }

accept_timely :
    (timely : Bool) (report : Option Report) (total more held next ack : ℕ) (packet : List ℕ)
    (kept : List Forward) → total ≤ more
    → IsTimely timely report ReceiverOk total held next (ForwardPacket ack packet ∷ kept)
    → IsTimely timely report ReceiverOk more (suc held) next kept
accept_timely true report total more held next ack packet kept grows
    (some, (n, is, from, within, room, rest)) = (
      some,
      HaveRoom-more total more (suc held) next kept grows
          (HaveRoom-lower total (suc held) (suc n) next kept (omega arith) rest),
    )
accept_timely false report total more held next ack packet kept grows known = tt

-- a packet for which a sender had credit is not refused
retry_timely :
    (timely : Bool) (report : Option Report) (store : Buffered) (held next ack : ℕ)
    (packet : List ℕ) (kept : List Forward) → room_for store (prio_of packet) ≡ false
    → IsTimely timely report ReceiverOk (free_buffers store + held) held next
    (ForwardPacket ack packet ∷ kept)
    → IsTimely timely report ReceiverRetryStopped (free_buffers store + held) held next kept
retry_timely true report store held next ack packet kept full
    (some, (n, is, from, within, room, rest)) =
    let none =
    ltb-false (packet_count store.lists + (3 - prio_of packet)) store.buffers full in
    absurd (omega arith)
retry_timely false report store held next ack packet kept full known = tt

-- the packet that is expected
pub expected_answered :
    (timely tells : Bool) (room : Bool) (store : Buffered) (ack : ℕ) (packet : List ℕ)
    (oldest count : ℕ) (report : Option Report) (freed held : ℕ) (words : List Word)
    (kept : List Forward) → room_for store (prio_of packet) ≡ room → tells ≡ true
    → store.buffers ≤ 30 → held < freed + count → Lacks is_responded words
    → AreCounted oldest count report ack (free_buffers store + held) freed held words
    → IsTimely timely report ReceiverOk (free_buffers store + held) held (freed + count)
    (ForwardPacket ack packet ∷ kept)
    → Answered timely oldest count report freed words kept
    (receives (packet_arrival ack ack room (buffer_status tells (stored room store packet)))
    (InputOk ack)).state
    (stored (receives (packet_arrival ack ack room
    (buffer_status tells (stored room store packet))) (InputOk ack)).held store packet)
    (receives (packet_arrival ack ack room (buffer_status tells (stored room store packet)))
    (InputOk ack)).reply
expected_answered timely tells true store ack packet oldest count report freed held words kept
    room is few within none c known =
    let after = stored true store packet in
    let free = status_free tells after is in
    let grows : free_buffers store + held ≤ free_buffers after + suc held =
    omega (arith, free_stored store packet) in
    rw (eq-eqb ack ack refl) (
      suc held,
      subst (λ (f : ℕ). AreCounted oldest count report ((ack + 1) % 32)
          (free_buffers after + suc held) freed (suc held) (words ++ Accepted ack f ∷ []))
          (sym free)
          (accept_counted oldest count report ack (free_buffers store + held) freed held
          (free_buffers after) words within (omega arith) grows none c),
      accept_timely timely report (free_buffers store + held) (free_buffers after + suc held) held
          (freed + count) ack packet kept grows known,
    )
expected_answered timely tells false store ack packet oldest count report freed held words kept
    room is few within none c known =
    rw (eq-eqb ack ack refl) (
      held,
      say_counted oldest count report ack (free_buffers store + held) freed held words
          (WordTold ack (buffer_status tells store)) (may_tell tells store ack held is few
          c.expected_is) c,
      retry_timely timely report store held (freed + count) ack packet kept room known,
    )

-- a packet that comes to a shut receiver
shut_answered :
    (timely same room : Bool) (buffers : ℕ) (store : Buffered) (packet : List ℕ) (e : ℕ)
    (oldest count : ℕ) (report : Option Report) (freed held : ℕ) (words : List Word)
    (kept : List Forward)
    → AreCounted oldest count report e (free_buffers store + held) freed held words
    → IsTimely timely report ReceiverRetryStopped (free_buffers store + held) held (freed + count)
    kept
    → Answered timely oldest count report freed words kept
    (receives (if same
    then (if room then ExpectedWithRoom buffers else ExpectedWithoutRoom buffers)
    else UnexpectedAck) (InputRetryStopped e)).state
    (stored (receives (if same
    then (if room then ExpectedWithRoom buffers else ExpectedWithoutRoom buffers)
    else UnexpectedAck) (InputRetryStopped e)).held store packet)
    (receives (if same
    then (if room then ExpectedWithRoom buffers else ExpectedWithoutRoom buffers)
    else UnexpectedAck) (InputRetryStopped e)).reply
shut_answered timely true true buffers store packet e oldest count report freed held words kept c
    known =
    rw append-nil (held, c, known)
shut_answered timely true false buffers store packet e oldest count report freed held words kept c
    known =
    rw append-nil (held, c, known)
shut_answered timely false room buffers store packet e oldest count report freed held words kept c
    known =
    rw append-nil (held, c, known)

stopped_answered :
    (timely same room : Bool) (buffers : ℕ) (store : Buffered) (packet : List ℕ) (e : ℕ)
    (oldest count : ℕ) (report : Option Report) (freed held : ℕ) (words : List Word)
    (kept : List Forward)
    → AreCounted oldest count report e (free_buffers store + held) freed held words
    → IsTimely timely report ReceiverErrorStopped (free_buffers store + held) held (freed + count)
    kept
    → Answered timely oldest count report freed words kept
    (receives (if same
    then (if room then ExpectedWithRoom buffers else ExpectedWithoutRoom buffers)
    else UnexpectedAck) (InputErrorStopped e)).state
    (stored (receives (if same
    then (if room then ExpectedWithRoom buffers else ExpectedWithoutRoom buffers)
    else UnexpectedAck) (InputErrorStopped e)).held store packet)
    (receives (if same
    then (if room then ExpectedWithRoom buffers else ExpectedWithoutRoom buffers)
    else UnexpectedAck) (InputErrorStopped e)).reply
stopped_answered timely true true buffers store packet e oldest count report freed held words kept
    c known =
    rw append-nil (held, c, known)
stopped_answered timely true false buffers store packet e oldest count report freed held words
    kept c known =
    rw append-nil (held, c, known)
stopped_answered timely false room buffers store packet e oldest count report freed held words
    kept c known =
    rw append-nil (held, c, known)

-- a packet that is not acted on
pub unexpected_answered :
    (timely room : Bool) (buffers : ℕ) (input : Input) (store : Buffered) (ack : ℕ)
    (packet : List ℕ) (oldest count : ℕ) (report : Option Report) (freed held : ℕ)
    (words : List Word) (kept : List Forward) → expects input ack ≡ false
    → AreCounted oldest count report (expected_of input) (free_buffers store + held) freed held
    words
    → IsTimely timely report (receiver_of input) (free_buffers store + held) held (freed + count)
    kept
    → Answered timely oldest count report freed words kept
    (receives (packet_arrival (expected_of input) ack room buffers) input).state
    (stored (receives (packet_arrival (expected_of input) ack room buffers) input).held store
    packet)
    (receives (packet_arrival (expected_of input) ack room buffers) input).reply
unexpected_answered timely room buffers (InputOk e) store ack packet oldest count report freed
    held words kept other c known =
    rw other (no_packet_answered timely UnexpectedAck (InputOk e) oldest count report freed held
    words kept store tt tt c known)
unexpected_answered timely room buffers (InputRetryStopped e) store ack packet oldest count report
    freed held words kept other c known =
    shut_answered timely (ack == e) room buffers store packet e oldest count report freed held
    words kept c known
unexpected_answered timely room buffers (InputErrorStopped e) store ack packet oldest count report
    freed held words kept other c known =
    stopped_answered timely (ack == e) room buffers store packet e oldest count report freed held
    words kept c known
