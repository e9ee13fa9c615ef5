-- Histories that are played: moves of two ports, one after another, of which each is a step.
use Rattle.link_sound.proofs.Prelude.{◌≡◌, nat_lt, Bool, true, false, List, [], ◌∷◌, length, refl, arith, ltb-true, BadPacket, place_start, no_packets, list_at, Event, Bad, is_acted, Link, link_turned_round, after_turn, after_event, after_put, IsStep, StepTurns, StepActs, Others, Puts, Loses, StepGoesOn, IsHistory, Rests, AtFirst, AtSecond, worked_packet}
use Rattle.link_sound.proofs.PortBounds.{new_is_port}
use Rattle.link_sound.proofs.WorkedHistory.{passes_packet}

-- what a port does
pub data Does : Type 0 where
  -- the packet is put
  PutsOne : Does
  TakesTurn : Does
  -- the first event that the other has sent and that is not lost
  Hears : Does
  -- it is lost
  Misses : Does
  -- a packet with a bad CRC
  MeetsError : Does
  -- the packets received are taken away
  Empties : Does

pub data Move : Type 0 where
  First : Does → Move
  Second : Does → Move

-- a link without an event
abbrev still : Link → Link
still l = record l { kept_a = l.kept_a; kept_b = l.kept_b }

abbrev putting : Bool → Link → Link
putting true l = after_put l worked_packet
putting false l = still l

abbrev hearing : Bool → Link → Event → List Event → Link
hearing true l e rest = after_event l e rest
hearing false l e rest = still l

abbrev heard : Link → List Event → Link
heard l [] = still l
heard l (e ∷ rest) = hearing (is_acted l.a e) l e rest

abbrev missed : Link → List Event → Link
missed l [] = still l
missed l (e ∷ rest) = record l { kept_a = l.kept_a; kept_b = rest }

-- the link after the first port does something; where it cannot, nothing changes
abbrev pub after : Does → Link → Link
after PutsOne l = putting (nat_lt (length (list_at l.a.queued 0)) 16) l
after TakesTurn l = after_turn l
after Hears l = heard l l.kept_b
after Misses l = missed l l.kept_b
after MeetsError l = after_event l (Bad BadPacket) l.kept_b
after Empties l =
    record l {
      a =
          record l.a { received = record { lists = no_packets; buffers = 4 }; place = place_start };
    }

stays : (l : Link) → IsStep l (still l)
stays l = Loses l [] l.kept_a [] l.kept_b refl refl

put_step : (l : Link) (room : Bool) → nat_lt (length (list_at l.a.queued 0)) 16 ≡ room
    → IsStep l (putting room l)
put_step l true is =
    Puts l worked_packet (omega arith) passes_packet
    (ltb-true (length (list_at l.a.queued 0)) 16 is)
put_step l false is = stays l

hearing_step : (l : Link) (e : Event) (rest : List Event) (does : Bool) → l.kept_b ≡ e ∷ rest
    → is_acted l.a e ≡ does → IsStep l (hearing does l e rest)
hearing_step l e rest true first is = StepActs l e rest first is
hearing_step l e rest false first is = stays l

heard_step : (l : Link) (kept : List Event) → l.kept_b ≡ kept → IsStep l (heard l kept)
heard_step l [] is = stays l
heard_step l (e ∷ rest) is = hearing_step l e rest (is_acted l.a e) is refl

missed_step : (l : Link) (kept : List Event) → l.kept_b ≡ kept → IsStep l (missed l kept)
missed_step l [] is = stays l
missed_step l (e ∷ rest) is = Loses l [] l.kept_a (e ∷ []) rest refl is

step : (d : Does) (l : Link) → IsStep l (after d l)
step PutsOne l = put_step l _ refl
step TakesTurn l = StepTurns l
step Hears l = heard_step l l.kept_b refl
step Misses l = missed_step l l.kept_b refl
step MeetsError l = Others l (Bad BadPacket) refl
step Empties l =
    StepGoesOn l (record { lists = no_packets; buffers = 4 }) place_start
    (new_is_port false 4 (omega arith, omega arith)).receives tt

-- the link after the moves
unfoldable pub played : List Move → Link → Link
played [] l = l
played (First d ∷ moves) l = played moves (after d l)
played (Second d ∷ moves) l = played moves (link_turned_round (after d (link_turned_round l)))

pub is_history : (moves : List Move) (l : Link) → IsHistory l (played moves l)
unfolding played
is_history [] l = Rests l
is_history (First d ∷ moves) l = AtFirst l (step d l) (is_history moves (after d l))
is_history (Second d ∷ moves) l =
    AtSecond l (step d (link_turned_round l))
    (is_history moves (link_turned_round (after d (link_turned_round l))))
