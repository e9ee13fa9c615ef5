-- What a port that tells its free buffers has told, and what the far port may start by it, counted
-- in whole numbers of packets. The receiver has held so many of the packets sent, `held`, and the
-- sender has freed so many, `freed`; an ackID is such a number modulo 32. The free buffers and the
-- packets held are together `total`: a packet that is held leaves it, and one that is taken from
-- the store makes it more, so that it never falls.
use Rattle.std.specs.Prelude.{◌≡◌, ℕ, suc, ◌+◌, ◌-◌, ◌%◌, ◌<◌, ◌≤◌, Bool, true, List, [], ◌∷◌, length, map, Option, IfSome, if◌then◌else◌, IsSome}
use Rattle.link_buffers.specs.Prelude.{Buffered, packet_count}
use Rattle.link_model.specs.Prelude.{prio_of, Input, Output, untold}
use Rattle.link_model.specs.Output.{Stype0, stype0}
use Rattle.link_model.specs.Reports.{has_buffer_status}
use Rattle.link_model.specs.declared.reports.Report.{Report}
use Rattle.link_port.specs.Prelude.{Event, Ctl, Pkt, Bad, PortState, prios_of, expected_of}
use Rattle.link_sound.specs.Marks.{Forward, ForwardPacket, ForwardRestart, ForwardRequest, Other}
use Rattle.link_sound.specs.Meanings.{forward, oldest_of, receiver_of}
use Rattle.link_sound.specs.Receiver.{Receiver, ReceiverOk, ReceiverRetryStopped, ReceiverErrorStopped}
use Rattle.link_sound.specs.Told.{last_report}

-- what an event tells on its way back to the sender
pub data Word : Type 0 where
  -- packet-accepted, with its ackID and buffer status
  Accepted : (ack free : ℕ) → Word
  -- packet-retry or status, with the ackID that is expected and the buffer status
  WordTold : (ack free : ℕ) → Word
  -- link-response, with the ackID that is expected
  Responded : (ack : ℕ) → Word
  Silent : Word

abbrev pub word_of : Stype0 → (has : Bool) → (ack free : ℕ) → Word
word_of Stype0.PacketAccepted has ack free = Accepted ack free
word_of Stype0.PacketRetry has ack free = WordTold ack free
word_of Stype0.PacketNotAccepted has ack free = Silent
word_of Stype0.LinkResponse has ack free = Responded ack
word_of Stype0.OtherStype0 has ack free = if has then WordTold ack free else Silent

abbrev pub word : Event → Word
word (Ctl symbol) = word_of (stype0 symbol.s0) (has_buffer_status symbol.s0) symbol.p0 symbol.p1
word (Pkt ack packet) = Silent
word (Bad cause) = Silent

-- Each word that tells of free buffers is for a packet that is held, the first at least of `least`,
-- or for the one that is expected next, and each in turn. From the packet that is expected then on
-- there is, or was taken since, a buffer for each packet of which it tells. Behind a link-response
-- nothing is for a packet before the one that is expected.
abbrev pub WordsInTurn : (least held total : ℕ) → List Word → Type 0
WordsInTurn least held total [] = Unit {0}
WordsInTurn least held total (Accepted ack free ∷ words) =
    (n : ℕ) × (ack ≡ n % 32) × (least ≤ n) × (n < held) × (free < untold)
    × (free + suc n ≤ total) × WordsInTurn (suc n) held total words
WordsInTurn least held total (WordTold ack free ∷ words) =
    (n : ℕ) × (ack ≡ n % 32) × (least ≤ n) × (n ≤ held) × (free < untold) × (free + n ≤ total)
    × WordsInTurn least held total words
WordsInTurn least held total (Responded ack ∷ words) =
    (ack ≡ held % 32) × WordsInTurn held held total words
WordsInTurn least held total (Silent ∷ words) = WordsInTurn least held total words

-- A report that is kept: the packet that was expected then is held or expected now, the one to be
-- sent next is at most 31 from it, and there is a buffer for each packet of which it tells.
pub record IsCovered (held next total : ℕ) (report : Report) : Type 0 where
  pub base : ℕ
  pub number : report.base ≡ base % 32
  pub told_first : base ≤ held
  pub near : next ≤ base + 31
  pub enough : report.free + base ≤ total

-- a sender with an oldest ackID, so many outstanding packets and a last report, a receiver that
-- expects an ackID, and the words on their way back
pub record AreCounted (oldest count : ℕ) (report : Option Report) (expected : ℕ)
    (total freed held : ℕ) (words : List Word) : Type 0 where
  pub oldest_is : oldest ≡ freed % 32
  pub expected_is : expected ≡ held % 32
  pub held_first : freed ≤ held
  pub sent_first : held ≤ freed + count
  pub words_are : WordsInTurn freed held total words
  pub report_is : IfSome report (IsCovered held (freed + count) total)

-- of the output half of the one port and the input half of the other
abbrev pub AreCountedAt : Output → Input → (total freed held : ℕ) → List Word → Type 0
AreCountedAt output input total freed held words =
    AreCounted (oldest_of output) (length (prios_of output)) (last_report output)
    (expected_of input) total freed held words

-- how many buffers are free
abbrev pub free_buffers : Buffered → ℕ
free_buffers store = store.buffers - packet_count store.lists

-- The port `teller` tells its free buffers. What it has told, and the port `hearer` has not acted
-- on, and what the hearer keeps of it, tells of no buffer that is not there.
pub record HasTold (hearer teller : PortState) (kept_back : List Event) : Type 0 where
  pub tells : teller.tells ≡ true
  pub freed : ℕ
  pub held : ℕ
  pub counted :
      AreCountedAt hearer.output teller.input (free_buffers teller.received + held) freed held
      (map word kept_back)

-- the packets on their way are those from `least` on, before `next`, in turn, and for each there
-- are more buffers, when it comes, than there are higher priorities
abbrev pub HaveRoom : (total least next : ℕ) → List Forward → Type 0
HaveRoom total least next [] = Unit {0}
HaveRoom total least next (ForwardPacket ack packet ∷ kept) =
    (n : ℕ) × (ack ≡ n % 32) × (least ≤ n) × (n < next) × (n + (3 - prio_of packet) < total)
    × HaveRoom total (suc n) next kept
HaveRoom total least next (ForwardRestart ∷ kept) = HaveRoom total least next kept
HaveRoom total least next (ForwardRequest ∷ kept) = HaveRoom total least next kept
HaveRoom total least next (Other ∷ kept) = HaveRoom total least next kept

-- so if the receiver takes packets; and it never waits for a restart-from-retry
abbrev pub HaveRoomAt : Receiver → (total held next : ℕ) → List Forward → Type 0
HaveRoomAt ReceiverOk total held next kept = HaveRoom total held next kept
HaveRoomAt ReceiverRetryStopped total held next kept = ⊥
HaveRoomAt ReceiverErrorStopped total held next kept = Unit {0}

-- What was told is true, and the hearer was told in time: it keeps a report, and its packets on
-- their way have room.
pub record FindsRoom (hearer teller : PortState) (kept_ahead kept_back : List Event) : Type 0 where
  pub tells : teller.tells ≡ true
  pub freed : ℕ
  pub held : ℕ
  pub counted :
      AreCountedAt hearer.output teller.input (free_buffers teller.received + held) freed held
      (map word kept_back)
  pub report : IsSome (last_report hearer.output)
  pub room :
      HaveRoomAt (receiver_of teller.input) (free_buffers teller.received + held) held
      (freed + length (prios_of hearer.output)) (map forward kept_ahead)
