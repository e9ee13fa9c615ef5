-- A port that was heard in time asks for no packet again.
use Rattle.trace_laws.proofs.Prelude.{◌≡◌, ◌≢◌, ℕ, zero, suc, Bool, true, false, List, [], ◌∷◌, map, take, Option, Some, None, refl, sym, ap, ◌∙◌, subst, arith, if◌then◌else◌, AllByRecursion, Char, Fields, list_at, PortState, IsPort, A, B, told_of, bursts, answers, sent_notes, has_chars, delivery_from, move_note, delivery_notes, pump_notes, tell_notes, is_silent, port_narrow, PortRef, peer_in, peer_back, some_is, TraceLine, port_at_side, lines_of, Seen, UndetectedAt, peer_of, port_seen, kept_of, link_at, edit_of, says, seen, Part, PartBegins, PartLacks, PartEnds, PartNames, PartSteps, PartServes, PartTurns, PartTells, PartDelivers, PartFires, Made, Done, Then, begins, answers_say, edited_found, IsGood, part_keeps, made_keeps, good_start, seen_links, IsNoRetry, AsksNoneAgain, ToldInTimeAsksNoneAgain}
use Rattle.std.specs.Prelude.{slice_get}
use Rattle.std.proofs.lemmas.List.Elements.{All-head, All-tail}
use Rattle.rio_symbols.specs.declared.stype0.TheConstants.{PACKET_RETRY}
use Rattle.link_model.specs.declared.event.Event.TheVariants.{Ctl}
use Rattle.link_model.specs.Prelude.{Sends}
use Rattle.link_model.specs.Symbols.{status}
use Rattle.link_port.specs.Turns.{standing, no_burst, symbol_burst, packet_burst, burst_of, port_turn, turn_sends, turns_to, waiting_in, tell_sends}
use Rattle.link_sound.proofs.CreditHistory.{room_in_time}
use Rattle.link_watch.specs.declared.note.Note.TheVariants.{Fire}
use Rattle.link_watch.specs.declared.side.Side.{Side}
use Rattle.link_wires.specs.declared.moves.Move.{Move}
use Rattle.link_wires.specs.declared.moves.Move.TheVariants.{Held, Freed}
use Rattle.link_machine.specs.InTime.{ends_of_link, RoomAhead, NoRetries}
use Rattle.link_machine.proofs.InTime.{runs_find_room, deliveries_ask_none}
use Rattle.link_machine.proofs.Settling.Bursting.{turns_read, tell_read}
use Rattle.fabric_model.proofs.Lists.{all-append}
use Rattle.link_machine.proofs.Settling.Replies.{delivered_answers}
use Rattle.trace_laws.proofs.Running.{part_runs}
use Rattle.fabric_trace.proofs.Parts.Carrying.{delivery_lines}

-- ---- what a turn or a status sends

packet_asks_none : (at : _) (ack : ℕ) (found : Option (List ℕ))
    → AllByRecursion IsNoRetry (packet_burst at ack found).sent
packet_asks_none at ack None = tt
packet_asks_none at ack (Some packet) =
    (λ same. omega (arith, same), (tt, (λ same. omega (arith, same), tt)))

burst_asks_none : (sends : Sends) (at : _) (waiting : List (List (List ℕ)))
    → AllByRecursion IsNoRetry (burst_of sends at waiting).sent
burst_asks_none (Sends.Packet ack prio) at waiting =
    packet_asks_none at ack (slice_get (list_at waiting prio) 0)
burst_asks_none Sends.Restart at waiting = (λ same. omega (arith, same), tt)
burst_asks_none Sends.Request at waiting = (λ same. omega (arith, same), tt)
burst_asks_none Sends.Status at waiting = (λ same. omega (arith, same), tt)
burst_asks_none Sends.Nothing at waiting = tt

turns_ask_none : (n : ℕ) (port : PortState) → AllByRecursion IsNoRetry (bursts n port).sent
unfolding bursts
turns_ask_none zero port = tt
turns_ask_none (suc n) port =
    all-append IsNoRetry (turn_sends port).sent (bursts n (turns_to port)).sent
    (burst_asks_none (port_turn port).sends (standing port) (waiting_in port))
    (turns_ask_none n (turns_to port))

tell_asks_none : (tells : Bool) (expected buffers : ℕ)
    → AllByRecursion IsNoRetry
    (if tells then symbol_burst (status expected buffers) else no_burst).sent
tell_asks_none true expected buffers = (λ same. omega (arith, same), tt)
tell_asks_none false expected buffers = tt

-- ---- lines

module _ (q : PortRef) where
  abbrev AskNone : List TraceLine → Type 0
  AskNone lines = AllByRecursion (AsksNoneAgain q) lines

  sent_lines : (x y : PortRef) (side : Side) (chars : List Char)
      → (port_at_side x y side ≡ q → AllByRecursion IsNoRetry (says chars))
      → AskNone (lines_of x y (sent_notes side chars))
  sent_lines x y side [] h = tt
  sent_lines x y side (c ∷ chars) h = (h, tt)

  move_lines : (x y : PortRef) (side : Side) (moves : List Move)
      → AskNone (lines_of x y (map (move_note side) moves))
  move_lines x y side [] = tt
  move_lines x y side (Held packet ∷ moves) = (tt, move_lines x y side moves)
  move_lines x y side (Freed packet ∷ moves) = (tt, move_lines x y side moves)

  fired_lines : (x y : PortRef) (silent : Bool)
      → AskNone (lines_of x y (if silent then Fire A ∷ [] else []))
  fired_lines x y true = (tt, tt)
  fired_lines x y false = tt

  turn_lines : (s : Seen) (x y : PortRef) (n : ℕ) → IsPort (port_seen s x)
      → AskNone (lines_of x y (pump_notes A n (link_at s x y)))
  turn_lines s x y n is =
      sent_lines x y A (bursts n (port_seen s x)).chars
      (λ own. subst (AllByRecursion IsNoRetry) (sym (turns_read n (port_seen s x) is).says)
      (turns_ask_none n (port_seen s x)))

  tell_lines : (s : Seen) (x y : PortRef) → IsPort (port_seen s x)
      → AskNone (lines_of x y (tell_notes A (link_at s x y)))
  tell_lines s x y is =
      let at = standing (port_seen s x) in
      sent_lines x y A (tell_sends (port_seen s x)).chars
      (λ own. subst (AllByRecursion IsNoRetry) (sym (tell_read (port_seen s x) is).says)
      (tell_asks_none (port_seen s x).tells at.expected at.buffers))

  -- answers of which none is a packet-retry
  replies_ask_none : (replies : List Fields) → NoRetries replies
      → AllByRecursion IsNoRetry (map (λ symbol. Ctl symbol) replies)
  replies_ask_none [] all = tt
  replies_ask_none (symbol ∷ replies) all = (
    All-head (λ (x : Fields). x.s0 ≢ PACKET_RETRY) symbol replies all,
    replies_ask_none replies (All-tail (λ (x : Fields). x.s0 ≢ PACKET_RETRY) symbol replies all),
  )

  delivery_asks : (s : Seen) (x y : PortRef) (n : ℕ) → IsPort (port_seen s y)
      → has_chars A n (link_at s x y) ≡ true
      → (y ≡ q → NoRetries (told_of (delivery_from A n (link_at s x y))).replies)
      → AskNone (lines_of x y (delivery_notes A n (link_at s x y)))
  delivery_asks s x y n is has own =
      let l = link_at s x y in
      let chars = take n (s.wires x).chars in
      let told = told_of (delivery_from A n l) in
      let sent = (answers told.replies).chars in
      let moves = lines_of x y (map (move_note B) told.moves) in
      let are = delivered_answers (port_seen s y) (kept_of (s.wires x)) chars
      (port_narrow (port_seen s y) is) in
      subst AskNone (sym (delivery_lines x y n l has)) (
        tt,
        all-append (AsksNoneAgain q) moves (lines_of x y (sent_notes B sent))
            (move_lines x y B told.moves)
            (sent_lines x y B sent
            (λ same. subst (AllByRecursion IsNoRetry) (sym (answers_say told.replies are))
            (replies_ask_none told.replies (own same)))),
      )

-- ---- while every event that was acted on was sent

module _ (s : Seen) (good : IsGood s) (p q : PortRef) (peer : peer_of s p ≡ Some q)
    (room : RoomAhead (link_at s p q)) where
  -- who delivers to q is p
  from_peer : (x y : PortRef) → peer_of s x ≡ Some y → y ≡ q → x ≡ p
  from_peer x y own same =
      some_is (peer_in s.network.links q) x p
      (subst (λ r. peer_in s.network.links r ≡ Some x) same
      (peer_back s.network.links y x good.proper own))
      (peer_back s.network.links q p good.proper peer)

  delivers_lines : (x y : PortRef) (n : ℕ) → peer_of s x ≡ Some y → s.undetected ≡ None
      → has_chars A n (link_at s x y) ≡ true
      → AskNone q (lines_of x y (delivery_notes A n (link_at s x y)))
  delivers_lines x y n own none has =
      let link = good.links none x y own in
      delivery_asks q s x y n link.sound.port_b has
      (λ same.
      let ahead = subst (λ r. RoomAhead (link_at s r y)) (sym (from_peer x y own same))
      (subst (λ r. RoomAhead (link_at s p r)) (sym same) room) in
      deliveries_ask_none A n (link_at s x y) link.sound ahead)

  pub part_asks_none : {lines : List TraceLine} → Part s lines → AskNone q lines
  part_asks_none (PartBegins line is) = subst (AskNone q) (sym is) (tt, tt)
  part_asks_none (PartLacks lack is) = subst (AskNone q) (sym is) (tt, tt)
  part_asks_none (PartEnds is) = subst (AskNone q) (sym is) (tt, tt)
  part_asks_none (PartNames number r e found is) = subst (AskNone q) (sym is) (tt, tt)
  part_asks_none (PartSteps step needs few is) = subst (AskNone q) (sym is) (tt, tt)
  part_asks_none (PartServes step needs is) = subst (AskNone q) (sym is) (tt, tt)
  part_asks_none (PartTurns x y n own none is) =
      subst (AskNone q) (sym is) (turn_lines q s x y n (good.links none x y own).sound.port_a)
  part_asks_none (PartTells x y own none is) =
      subst (AskNone q) (sym is) (tell_lines q s x y (good.links none x y own).sound.port_a)
  part_asks_none (PartDelivers x y n own none has is) =
      subst (AskNone q) (sym is) (delivers_lines x y n own none has)
  part_asks_none (PartFires x y own none silent is) =
      subst (AskNone q) (sym is) (fired_lines q x y (is_silent (link_at s x y)))

-- ---- behind an event that was not sent

abbrev HasFound : Seen → Type 0
HasFound s = (found : UndetectedAt) × (s.undetected ≡ Some found)

clash : (s : Seen) → HasFound s → s.undetected ≡ None → ⊥
clash s found none = let is = found.1 in absurd (cc (none, is))

-- nothing is done at a link
part_is_still : {s : Seen} {lines : List TraceLine} (q : PortRef) → HasFound s → Part s lines
    → AskNone q lines × HasFound (seen s lines)
part_is_still {s} q found (PartBegins line is) =
    subst (λ l. AskNone q l × HasFound (seen s l)) (sym is)
    ((tt, tt), (found.0, edited_found s (edit_of line) ∙ found.1))
part_is_still {s} q found (PartLacks lack is) =
    subst (λ l. AskNone q l × HasFound (seen s l)) (sym is) ((tt, tt), found)
part_is_still {s} q found (PartEnds is) =
    subst (λ l. AskNone q l × HasFound (seen s l)) (sym is) ((tt, tt), found)
part_is_still {s} q found (PartNames number r e own is) =
    subst (λ l. AskNone q l × HasFound (seen s l)) (sym is) ((tt, tt), found)
part_is_still {s} q found (PartSteps step needs few is) =
    subst (λ l. AskNone q l × HasFound (seen s l)) (sym is) ((tt, tt), found)
part_is_still {s} q found (PartServes step needs is) =
    subst (λ l. AskNone q l × HasFound (seen s l)) (sym is) ((tt, tt), found)
part_is_still {s} q found (PartTurns x y n own none is) = absurd (clash s found none)
part_is_still {s} q found (PartTells x y own none is) = absurd (clash s found none)
part_is_still {s} q found (PartDelivers x y n own none has is) = absurd (clash s found none)
part_is_still {s} q found (PartFires x y own none silent is) = absurd (clash s found none)

made_is_still : {s : Seen} {lines : List TraceLine} (q : PortRef) → HasFound s → Made s lines
    → AskNone q lines
made_is_still q found (Done is) = subst (AskNone q) (sym is) tt
made_is_still q found (Then first rest is own more) =
    let one = part_is_still q found own in
    subst (AskNone q) (sym is)
    (all-append (AsksNoneAgain q) first rest one.0 (made_is_still q one.1 more))

-- ---- all lines

-- by whether an event was found that was not sent
by_found : (t : Seen) (Z : Type 0) (o : Option UndetectedAt) → t.undetected ≡ o
    → (t.undetected ≡ None → Z) → (HasFound t → Z) → Z
by_found t Z None is none some = none is
by_found t Z (Some found) is none some = some (found, is)

made_asks_none : {s : Seen} {lines : List TraceLine} (p q : PortRef) → IsGood s → Made s lines
    → peer_of s p ≡ Some q → s.undetected ≡ None → RoomAhead (link_at s p q) → AskNone q lines
made_asks_none p q good (Done is) peer none room = subst (AskNone q) (sym is) tt
made_asks_none {s} p q good (Then first rest is own more) peer none room =
    let links = ap (λ l. peer_in l p) (seen_links s first) in
    let later : AskNone q rest =
    by_found (seen s first) (AskNone q rest) (seen s first).undetected refl
    (λ still.
    let run = part_runs s good p q peer own still in
    made_asks_none p q (part_keeps good own).good more (links ∙ peer) still
    (runs_find_room A (link_at s p q) (link_at (seen s first) p q) run.0 run.1
    (good.links none p q peer).sound room))
    (λ found. made_is_still q found more) in
    subst (AskNone q) (sym is)
    (all-append (AsksNoneAgain q) first rest (part_asks_none s good p q peer room own) later)

pub asks_none_again : ToldInTimeAsksNoneAgain
asks_none_again net front rest p q is made more peer none told =
    let s = begins net in
    let links = ap (λ l. peer_in l p) (seen_links s front) in
    made_asks_none p q (made_keeps (good_start net is) made).good more (links ∙ peer) none
    (room_in_time (ends_of_link (link_at (seen s front) p q)) told)
