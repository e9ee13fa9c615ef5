-- A sender and a receiver that tells, and, where the sender was told in time, the packets that have
-- room.
use Rattle.link_sound.proofs.Prelude.{◌≡◌, ℕ, suc, ◌+◌, ◌-◌, ◌%◌, ◌<◌, ◌≤◌, Bool, true, false, Option, IsSome, List, [], ◌∷◌, ◌++◌, map, length, refl, ◌∙◌, subst, append_assoc, prio_of, Report, Event, PortState, prios_of, Forward, ForwardPacket, Other, is_forward, is_packet, Receiver, IsShut, ReceiverOk, ReceiverRetryStopped, ReceiverErrorStopped, Lacks, forward, receiver_of, last_report, word, AreCountedAt, free_buffers, HasTold, HaveRoomAt, FindsRoom}
use Rattle.link_sound.proofs.CreditLaws.{HaveRoom-lost, HaveRoom-more, HaveRoom-append, HaveRoom-start, HaveRoom-none}

-- the sender keeps a report, and its packets find room; nothing is said if it was not told in time
abbrev pub IsTimely : (timely : Bool) → Option Report → Receiver → (total held next : ℕ)
    → List Forward → Type 0
IsTimely true report r total held next kept = IsSome report × HaveRoomAt r total held next kept
IsTimely false report r total held next kept = Unit {0}

pub record IsKnown (timely : Bool) (hearer teller : PortState) (kept_ahead kept_back : List Event)
    : Type 0 where
  pub tells : teller.tells ≡ true
  pub freed : ℕ
  pub held : ℕ
  pub counted :
      AreCountedAt hearer.output teller.input (free_buffers teller.received + held) freed held
      (map word kept_back)
  pub in_time :
      IsTimely timely (last_report hearer.output) (receiver_of teller.input)
      (free_buffers teller.received + held) held (freed + length (prios_of hearer.output))
      (map forward kept_ahead)

HaveRoomAt-append : (r : Receiver) (total held next : ℕ) (kept : List Forward) (e : Forward)
    → is_packet e ≡ false → HaveRoomAt r total held next kept
    → HaveRoomAt r total held next (kept ++ e ∷ [])
HaveRoomAt-append ReceiverOk total held next kept e is find =
    HaveRoom-append total held next kept e is find
HaveRoomAt-append ReceiverRetryStopped total held next kept e is find = find
HaveRoomAt-append ReceiverErrorStopped total held next kept e is find = tt

pub timely_append :
    (timely : Bool) (report : Option Report) (r : Receiver) (total held next : ℕ)
    (kept : List Forward) (e : Forward) → is_packet e ≡ false
    → IsTimely timely report r total held next kept
    → IsTimely timely report r total held next (kept ++ e ∷ [])
timely_append true report r total held next kept e is (some, find) =
    (some, HaveRoomAt-append r total held next kept e is find)
timely_append false report r total held next kept e is known = tt

HaveRoomAt-lost : (r : Receiver) (total held next : ℕ) (lost kept : List Forward)
    → HaveRoomAt r total held next (lost ++ kept) → HaveRoomAt r total held next kept
HaveRoomAt-lost ReceiverOk total held next lost kept find =
    HaveRoom-lost total held next lost kept find
HaveRoomAt-lost ReceiverRetryStopped total held next lost kept find = find
HaveRoomAt-lost ReceiverErrorStopped total held next lost kept find = tt

pub timely_lost :
    (timely : Bool) (report : Option Report) (r : Receiver) (total held next : ℕ)
    (lost kept : List Forward) → IsTimely timely report r total held next (lost ++ kept)
    → IsTimely timely report r total held next kept
timely_lost true report r total held next lost kept (some, find) =
    (some, HaveRoomAt-lost r total held next lost kept find)
timely_lost false report r total held next lost kept known = tt

HaveRoomAt-more : (r : Receiver) (total more held next : ℕ) (kept : List Forward) → total ≤ more
    → HaveRoomAt r total held next kept → HaveRoomAt r more held next kept
HaveRoomAt-more ReceiverOk total more held next kept grows find =
    HaveRoom-more total more held next kept grows find
HaveRoomAt-more ReceiverRetryStopped total more held next kept grows find = find
HaveRoomAt-more ReceiverErrorStopped total more held next kept grows find = tt

pub timely_more :
    (timely : Bool) (report : Option Report) (r : Receiver) (total more held next : ℕ)
    (kept : List Forward) → total ≤ more → IsTimely timely report r total held next kept
    → IsTimely timely report r more held next kept
timely_more true report r total more held next kept grows (some, find) =
    (some, HaveRoomAt-more r total more held next kept grows find)
timely_more false report r total more held next kept grows known = tt

HaveRoomAt-none : (r : Receiver) (total held next other : ℕ) (kept : List Forward)
    → Lacks is_forward kept → HaveRoomAt r total held next kept → HaveRoomAt r total held other kept
HaveRoomAt-none ReceiverOk total held next other kept none find =
    HaveRoom-none total held other kept none
HaveRoomAt-none ReceiverRetryStopped total held next other kept none find = find
HaveRoomAt-none ReceiverErrorStopped total held next other kept none find = tt

-- another packet is the next to be sent, and nothing is on its way
pub timely_none :
    (timely : Bool) (report : Option Report) (r : Receiver) (total held next other : ℕ)
    (kept : List Forward) → Lacks is_forward kept → IsTimely timely report r total held next kept
    → IsTimely timely report r total held other kept
timely_none true report r total held next other kept none (some, find) =
    (some, HaveRoomAt-none r total held next other kept none find)
timely_none false report r total held next other kept none known = tt

HaveRoomAt-shut : (r : Receiver) (total held next other : ℕ) (kept more : List Forward) → IsShut r
    → HaveRoomAt r total held next kept → HaveRoomAt r total held other more
HaveRoomAt-shut ReceiverOk total held next other kept more shut find = absurd shut
HaveRoomAt-shut ReceiverRetryStopped total held next other kept more shut find = find
HaveRoomAt-shut ReceiverErrorStopped total held next other kept more shut find = tt

-- the receiver takes no packets
pub timely_shut :
    (timely : Bool) (report : Option Report) (r : Receiver) (total held next other : ℕ)
    (kept more : List Forward) → IsShut r → IsTimely timely report r total held next kept
    → IsTimely timely report r total held other more
timely_shut true report r total held next other kept more shut (some, find) =
    (some, HaveRoomAt-shut r total held next other kept more shut find)
timely_shut false report r total held next other kept more shut known = tt

HaveRoomAt-start :
    (r : Receiver) (total held next : ℕ) (kept : List Forward) (packet : List ℕ) → held ≤ next
    → next + (3 - prio_of packet) < total → HaveRoomAt r total held next kept
    → HaveRoomAt r total held (suc next) (kept ++ ForwardPacket (next % 32) packet ∷ [])
HaveRoomAt-start ReceiverOk total held next kept packet below room find =
    HaveRoom-start total held next kept packet below room find
HaveRoomAt-start ReceiverRetryStopped total held next kept packet below room find = find
HaveRoomAt-start ReceiverErrorStopped total held next kept packet below room find = tt

-- a packet starts, of the three events of its start one means something
pub timely_start :
    (timely : Bool) (report : Option Report) (r : Receiver) (total held next : ℕ)
    (kept : List Forward) (packet : List ℕ) → held ≤ next
    → (IsSome report → next + (3 - prio_of packet) < total)
    → IsTimely timely report r total held next kept
    → IsTimely timely report r total held (suc next)
    (kept ++ Other ∷ ForwardPacket (next % 32) packet ∷ Other ∷ [])
timely_start true report r total held next kept packet below room (some, find) =
    let first = kept ++ Other ∷ [] in
    let second = first ++ ForwardPacket (next % 32) packet ∷ [] in
    let started =
    HaveRoomAt-start r total held next first packet below (room some)
    (HaveRoomAt-append r total held next kept Other refl find) in (
      some,
      subst (λ (fs : List Forward). HaveRoomAt r total held (suc next) fs)
          (append_assoc first (ForwardPacket (next % 32) packet ∷ []) (Other ∷ [])
          ∙ append_assoc kept (Other ∷ []) (ForwardPacket (next % 32) packet ∷ Other ∷ []))
          (HaveRoomAt-append r total held (suc next) second Other refl started),
    )
timely_start false report r total held next kept packet below room known = tt

-- what was told is true, whether in time or not
pub known_from_told :
    (a b : PortState) (kept_a kept_b : List Event) → HasTold a b kept_b
    → IsKnown false a b kept_a kept_b
known_from_told a b kept_a kept_b t =
    record { tells = t.tells; freed = t.freed; held = t.held; counted = t.counted; in_time = tt }

pub told_from_known :
    (a b : PortState) (kept_a kept_b : List Event) → IsKnown false a b kept_a kept_b
    → HasTold a b kept_b
told_from_known a b kept_a kept_b k =
    record { tells = k.tells; freed = k.freed; held = k.held; counted = k.counted }

pub known_from_room :
    (a b : PortState) (kept_a kept_b : List Event) → FindsRoom a b kept_a kept_b
    → IsKnown true a b kept_a kept_b
known_from_room a b kept_a kept_b f = record {
  tells = f.tells;
  freed = f.freed;
  held = f.held;
  counted = f.counted;
  in_time = (f.report, f.room);
}

pub room_from_known :
    (a b : PortState) (kept_a kept_b : List Event) → IsKnown true a b kept_a kept_b
    → FindsRoom a b kept_a kept_b
room_from_known a b kept_a kept_b k = record {
  tells = k.tells;
  freed = k.freed;
  held = k.held;
  counted = k.counted;
  report = k.in_time.0;
  room = k.in_time.1;
}
