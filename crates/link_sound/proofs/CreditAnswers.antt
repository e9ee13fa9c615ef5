-- What a receiver answers, and what it sends in its turns, tells of no buffer that is not there.
use Rattle.link_sound.proofs.Prelude.{◌≡◌, ℕ, ◌+◌, ◌%◌, ◌≤◌, Bool, true, false, Option, Some, None, List, [], ◌∷◌, ◌++◌, map, slice_get, append_assoc, refl, ◌∙◌, subst, arith, if◌then◌else◌, append-nil, Fields, Buffered, list_at, Input, receives, Sends, status, Arrival, InputOk, InputRetryStopped, InputErrorStopped, ExpectedWithRoom, ExpectedWithoutRoom, UnexpectedAck, Damaged, RestartFromRetry, LinkRequest, OtherStype1, Report, PortState, IsPort, standing, buffer_status, expected_of, burst_of, packet_burst, symbol_burst, no_burst, Forward, is_forward, Lacks, receiver_of, reply_sent, Word, WordTold, Responded, Silent, word, AreCounted, free_buffers, HaveRoomAt}
use Rattle.link_sound.proofs.CreditLaws.{WordsInTurn-append, MaySay, HaveRoom-none}
use Rattle.link_sound.proofs.CreditTimely.{IsTimely}

pub say_counted :
    (oldest count : ℕ) (report : Option Report) (expected total freed held : ℕ)
    (words : List Word) (w : Word) → MaySay held total w
    → AreCounted oldest count report expected total freed held words
    → AreCounted oldest count report expected total freed held (words ++ w ∷ [])
say_counted oldest count report expected total freed held words w may c = record {
  oldest_is = c.oldest_is;
  expected_is = c.expected_is;
  held_first = c.held_first;
  sent_first = c.sent_first;
  words_are = WordsInTurn-append freed held total words w c.held_first may c.words_are;
  report_is = c.report_is;
}

-- the buffer status of a port that tells
pub status_free : (tells : Bool) (store : Buffered) → tells ≡ true
    → buffer_status tells store ≡ free_buffers store
status_free true store is = refl
status_free false store is = absurd cc

-- what a port that tells says of itself
pub may_tell : (tells : Bool) (store : Buffered) (ack held : ℕ) → tells ≡ true → store.buffers ≤ 30
    → ack ≡ held % 32
    → MaySay held (free_buffers store + held) (WordTold ack (buffer_status tells store))
may_tell tells store ack held is few same =
    let free = status_free tells store is in (same, omega arith, omega arith)

packet_counted :
    (p : PortState) (oldest count : ℕ) (report : Option Report) (freed held ack : ℕ)
    (packet : Option (List ℕ)) (words : List Word) → p.tells ≡ true → IsPort p
    → AreCounted oldest count report (expected_of p.input) (free_buffers p.received + held) freed
    held words
    → AreCounted oldest count report (expected_of p.input) (free_buffers p.received + held) freed
    held (words ++ map word (packet_burst (standing p) ack packet).sent)
packet_counted p oldest count report freed held ack None words tells is c = rw append-nil c
packet_counted p oldest count report freed held ack (Some packet) words tells is c =
    let total = free_buffers p.received + held in
    let told = WordTold (expected_of p.input) (buffer_status p.tells p.received) in
    let may =
    may_tell p.tells p.received (expected_of p.input) held tells is.receives.most c.expected_is in
    let one = words ++ told ∷ [] in
    let two = one ++ Silent ∷ [] in
    let first = say_counted oldest count report _ total freed held words told may c in
    let second = say_counted oldest count report _ total freed held one Silent tt first in
    let third = say_counted oldest count report _ total freed held two told may second in
    subst
    (λ (ws : List Word). AreCounted oldest count report (expected_of p.input) total freed held ws)
    (append_assoc one (Silent ∷ []) (told ∷ [])
    ∙ append_assoc words (told ∷ []) (Silent ∷ told ∷ [])) third

-- a turn of the port of the receiver
pub burst_counted :
    (p : PortState) (sends : Sends) (waiting : List (List (List ℕ))) (oldest count : ℕ)
    (report : Option Report) (freed held : ℕ) (words : List Word) → p.tells ≡ true → IsPort p
    → AreCounted oldest count report (expected_of p.input) (free_buffers p.received + held) freed
    held words
    → AreCounted oldest count report (expected_of p.input) (free_buffers p.received + held) freed
    held (words ++ map word (burst_of sends (standing p) waiting).sent)
burst_counted p (Sends.Packet ack prio) waiting oldest count report freed held words tells is c =
    packet_counted p oldest count report freed held ack (slice_get (list_at waiting prio) 0) words
    tells is c
burst_counted p Sends.Nothing waiting oldest count report freed held words tells is c =
    rw append-nil c
burst_counted p _ waiting oldest count report freed held words tells is c =
    say_counted oldest count report _ _ freed held words _
    (may_tell p.tells p.received (expected_of p.input) held tells is.receives.most c.expected_is) c

-- it tells once more
pub telling_counted :
    (p : PortState) (does : Bool) (oldest count : ℕ) (report : Option Report) (freed held : ℕ)
    (words : List Word) → p.tells ≡ true → IsPort p
    → AreCounted oldest count report (expected_of p.input) (free_buffers p.received + held) freed
    held words
    → AreCounted oldest count report (expected_of p.input) (free_buffers p.received + held) freed
    held (words ++ map word (if does
    then symbol_burst (status (standing p).expected (standing p).buffers) else no_burst).sent)
telling_counted p true oldest count report freed held words tells is c =
    say_counted oldest count report _ _ freed held words _
    (may_tell p.tells p.received (expected_of p.input) held tells is.receives.most c.expected_is) c
telling_counted p false oldest count report freed held words tells is c = rw append-nil c

-- the sender, and the receiver after something came to it
abbrev pub Answered : (timely : Bool) → (oldest count : ℕ) → Option Report → (freed : ℕ)
    → List Word → List Forward → Input → Buffered → Option Fields → Type 0
Answered timely oldest count report freed words kept state store reply =
    (held : ℕ) × AreCounted oldest count report (expected_of state) (free_buffers store + held)
    freed held (words ++ map word (reply_sent reply))
    × IsTimely timely report (receiver_of state) (free_buffers store + held) held (freed + count)
    kept

-- what comes is no expected packet
abbrev pub IsNoExpected : Arrival → Type 0
IsNoExpected (ExpectedWithRoom buffers) = ⊥
IsNoExpected (ExpectedWithoutRoom buffers) = ⊥
IsNoExpected UnexpectedAck = Unit {0}
IsNoExpected (Damaged cause) = Unit {0}
IsNoExpected RestartFromRetry = Unit {0}
IsNoExpected LinkRequest = Unit {0}
IsNoExpected OtherStype1 = Unit {0}

-- nothing is on its way behind a link-request
abbrev pub IsAlone : Arrival → List Forward → Type 0
IsAlone (ExpectedWithRoom buffers) kept = Unit {0}
IsAlone (ExpectedWithoutRoom buffers) kept = Unit {0}
IsAlone UnexpectedAck kept = Unit {0}
IsAlone (Damaged cause) kept = Unit {0}
IsAlone RestartFromRetry kept = Unit {0}
IsAlone LinkRequest kept = Lacks is_forward kept
IsAlone OtherStype1 kept = Unit {0}

-- its answer
no_packet_said :
    (what : Arrival) (input : Input) (oldest count : ℕ) (report : Option Report)
    (total freed held : ℕ) (words : List Word) → IsNoExpected what
    → AreCounted oldest count report (expected_of input) total freed held words
    → AreCounted oldest count report (expected_of (receives what input).state) total freed held
    (words ++ map word (reply_sent (receives what input).reply))
no_packet_said (ExpectedWithRoom buffers) input oldest count report total freed held words none c =
    absurd none
no_packet_said (ExpectedWithoutRoom buffers) input oldest count report total freed held words none c
    =
    absurd none
no_packet_said UnexpectedAck (InputOk e) oldest count report total freed held words none c =
    say_counted oldest count report _ _ freed held words Silent tt c
no_packet_said UnexpectedAck (InputRetryStopped e) oldest count report total freed held words none
    c =
    rw append-nil c
no_packet_said UnexpectedAck (InputErrorStopped e) oldest count report total freed held words none
    c =
    rw append-nil c
no_packet_said (Damaged cause) (InputOk e) oldest count report total freed held words none c =
    say_counted oldest count report _ _ freed held words Silent tt c
no_packet_said (Damaged cause) (InputRetryStopped e) oldest count report total freed held words
    none c =
    say_counted oldest count report _ _ freed held words Silent tt c
no_packet_said (Damaged cause) (InputErrorStopped e) oldest count report total freed held words
    none c =
    rw append-nil c
no_packet_said RestartFromRetry (InputOk e) oldest count report total freed held words none c =
    say_counted oldest count report _ _ freed held words Silent tt c
no_packet_said RestartFromRetry (InputRetryStopped e) oldest count report total freed held words
    none c =
    rw append-nil c
no_packet_said RestartFromRetry (InputErrorStopped e) oldest count report total freed held words
    none c =
    rw append-nil c
no_packet_said LinkRequest (InputOk e) oldest count report total freed held words none c =
    say_counted oldest count report _ _ freed held words (Responded e) c.expected_is c
no_packet_said LinkRequest (InputRetryStopped e) oldest count report total freed held words none
    c =
    say_counted oldest count report _ _ freed held words (Responded e) c.expected_is c
no_packet_said LinkRequest (InputErrorStopped e) oldest count report total freed held words none
    c =
    say_counted oldest count report _ _ freed held words (Responded e) c.expected_is c
no_packet_said OtherStype1 (InputOk e) oldest count report total freed held words none c =
    rw append-nil c
no_packet_said OtherStype1 (InputRetryStopped e) oldest count report total freed held words none
    c =
    rw append-nil c
no_packet_said OtherStype1 (InputErrorStopped e) oldest count report total freed held words none
    c =
    rw append-nil c

-- the packets behind it
no_packet_room :
    (what : Arrival) (input : Input) (total held next : ℕ) (kept : List Forward)
    → IsNoExpected what → IsAlone what kept
    → HaveRoomAt (receiver_of input) total held next kept
    → HaveRoomAt (receiver_of (receives what input).state) total held next kept
no_packet_room (ExpectedWithRoom buffers) input total held next kept none alone find = absurd none
no_packet_room (ExpectedWithoutRoom buffers) input total held next kept none alone find =
    absurd none
no_packet_room what (InputRetryStopped e) total held next kept none alone find = absurd find
no_packet_room UnexpectedAck (InputOk e) total held next kept none alone find = tt
no_packet_room UnexpectedAck (InputErrorStopped e) total held next kept none alone find = tt
no_packet_room (Damaged cause) (InputOk e) total held next kept none alone find = tt
no_packet_room (Damaged cause) (InputErrorStopped e) total held next kept none alone find = tt
no_packet_room RestartFromRetry (InputOk e) total held next kept none alone find = tt
no_packet_room RestartFromRetry (InputErrorStopped e) total held next kept none alone find = tt
no_packet_room LinkRequest (InputOk e) total held next kept none alone find = find
no_packet_room LinkRequest (InputErrorStopped e) total held next kept none alone find =
    HaveRoom-none total held next kept alone
no_packet_room OtherStype1 (InputOk e) total held next kept none alone find = find
no_packet_room OtherStype1 (InputErrorStopped e) total held next kept none alone find = tt

no_packet_timely :
    (timely : Bool) (what : Arrival) (input : Input) (report : Option Report)
    (total held next : ℕ) (kept : List Forward) → IsNoExpected what → IsAlone what kept
    → IsTimely timely report (receiver_of input) total held next kept
    → IsTimely timely report (receiver_of (receives what input).state) total held next kept
no_packet_timely true what input report total held next kept none alone (some, find) =
    (some, no_packet_room what input total held next kept none alone find)
no_packet_timely false what input report total held next kept none alone known = tt

pub no_packet_answered :
    (timely : Bool) (what : Arrival) (input : Input) (oldest count : ℕ) (report : Option Report)
    (freed held : ℕ) (words : List Word) (kept : List Forward) (store : Buffered)
    → IsNoExpected what → IsAlone what kept
    → AreCounted oldest count report (expected_of input) (free_buffers store + held) freed held
    words
    → IsTimely timely report (receiver_of input) (free_buffers store + held) held (freed + count)
    kept
    → Answered timely oldest count report freed words kept (receives what input).state store
    (receives what input).reply
no_packet_answered timely what input oldest count report freed held words kept store none alone c
    known = (
      held,
      no_packet_said what input oldest count report (free_buffers store + held) freed held words
          none c,
      no_packet_timely timely what input report (free_buffers store + held) held (freed + count)
          kept none alone known,
    )
