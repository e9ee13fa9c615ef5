-- One way of a link whose lane has wrong bits: what is read of what was sent is kept as sent.
use Rattle.lane_faults.proofs.Prelude.{◌≡◌, ℕ, zero, suc, ◌+◌, Bool, true, false, if◌then◌else◌, List, [], ◌∷◌, ◌++◌, map, length, take, drop, Option, Some, None, slice_get, refl, sym, ap, ◌∙◌, subst, Char, Event, Bad, Fields, Place, at_rest, run, place_after, said, PortState, is_acted, tell_sends, symbol_burst, Burst, IsRead, no_burst, packet_burst, burst_of, port_turn, turn_sends, turns_to, standing, waiting_in, Sends, status, Flow, Delivered, Through, begun, done, met, comes, goes_on, come, ended, delivered, behind, IsSubsequence, WireState, with_sent, bursts, answers, silenced, sub_none, sub_drop, sub-append, sub_behind, IsDelimited, read_at_rest, GoodStandIn, none_stands, bad_is_passed, same_stands, other_is_passed, IsGoodEvent, AreGood, HeardUpTo, HeardWithMistakes}
use Rattle.std.proofs.lemmas.List.{take-append-drop}
use Rattle.link_model.proofs.PlacesLaws.{place_after-append}
use Rattle.link_buffers.specs.Queues.{list_at}
use Rattle.link_machine.proofs.Settling.SaidLaws.{said-append}
use Rattle.lane_faults.proofs.LeadLaws.{StandAt, lead, heard_so}
use Rattle.lane_faults.proofs.MistakeLaws.{mistakes_make_none}

-- ---- good events, without their places

abbrev pub AllGood : List Event → Type 0
AllGood [] = Unit {0}
AllGood (event ∷ events) = IsGoodEvent event × AllGood events

pub good_both : (xs ys : List Event) → AllGood xs → AllGood ys → AllGood (xs ++ ys)
good_both [] ys h k = k
good_both (x ∷ xs) ys h k = (h.0, good_both xs ys h.1 k)

pub good_front : (xs ys : List Event) → AllGood (xs ++ ys) → AllGood xs
good_front [] ys h = tt
good_front (x ∷ xs) ys h = (h.0, good_front xs ys h.1)

pub good_back : (xs ys : List Event) → AllGood (xs ++ ys) → AllGood ys
good_back [] ys h = h
good_back (x ∷ xs) ys h = good_back xs ys h.1

pub good_placed : (events : List (ℕ × Event)) → AllGood (map (λ (p : ℕ × Event). p.1) events)
    → AreGood events
good_placed [] h = tt
good_placed (event ∷ events) h = (h.0, good_placed events h.1)

-- what a port sends is good
good_packet : (port : PortState) (ack : ℕ) (found : Option (List ℕ))
    → AllGood (packet_burst (standing port) ack found).sent
good_packet port ack None = tt
good_packet port ack (Some packet) = (tt, (tt, (tt, tt)))

good_burst : (sends : Sends) (port : PortState) (waiting : List (List (List ℕ)))
    → AllGood (burst_of sends (standing port) waiting).sent
good_burst (Sends.Packet ack prio) port waiting =
    good_packet port ack (slice_get (list_at waiting prio) 0)
good_burst Sends.Restart port waiting = (tt, tt)
good_burst Sends.Request port waiting = (tt, tt)
good_burst Sends.Status port waiting = (tt, tt)
good_burst Sends.Nothing port waiting = tt

pub good_turns : (n : ℕ) (port : PortState) → AllGood (bursts n port).sent
unfolding bursts
good_turns zero port = tt
good_turns (suc n) port =
    good_both (turn_sends port).sent (bursts n (turns_to port)).sent
    (good_burst (port_turn port).sends port (waiting_in port)) (good_turns n (turns_to port))

pub good_tell : (port : PortState) → AllGood (tell_sends port).sent
good_tell port = by port.tells
  where
    by : (b : Bool) → AllGood (if b
        then symbol_burst (status (standing port).expected (standing port).buffers)
        else no_burst).sent
    by true = (tt, tt)
    by false = tt

pub good_answers : (replies : List Fields) → AllGood (answers replies).sent
good_answers [] = tt
good_answers (symbol ∷ replies) = (tt, good_answers replies)

-- ---- a delivery

-- all events come, and more may
pub record GoesThrough (d : Delivered) (more : List Event) : Type 0 where
  pub flow : Flow
  pub through : d ≡ Through flow
  pub left : IsSubsequence more flow.kept

one_through : (event : ℕ × Event) (flow : Flow) (more : List Event)
    → IsSubsequence (event.1 ∷ more) flow.kept → GoesThrough (comes flow event) more
one_through event flow more sub = by_test (is_acted flow.port e)
  where
    e : Event
    e = event.1

    found : (kept : List Event) × ((behind e flow.kept ≡ Some kept) × IsSubsequence more kept)
    found = sub_behind e more flow.kept sub

    by_test : (b : Bool) → GoesThrough (if b then met event.0 e (behind e flow.kept) flow
        else Through (done e [] flow.kept flow)) more
    by_test true = record {
      flow = done e (e ∷ []) found.0 flow;
      through = ap (λ o. met event.0 e o flow) found.1.0;
      left = found.1.1;
    }
    by_test false =
        record { flow = done e [] flow.kept flow; through = refl; left = sub_drop sub }

sub_drops : (events more kept : List Event) → IsSubsequence (events ++ more) kept
    → IsSubsequence more kept
sub_drops [] more kept sub = sub
sub_drops (e ∷ events) more kept sub = sub_drops events more kept (sub_drop sub)

abbrev events_of_placed : List (ℕ × Event) → List Event
events_of_placed events = map (λ (p : ℕ × Event). p.1) events

-- the good events of those that come stand among these, and more stands behind them
all_through : {found events : List (ℕ × Event)} → GoodStandIn found events → (flow : Flow)
    (more : List Event) → IsSubsequence (events_of_placed events ++ more) flow.kept
    → GoesThrough (come found flow) more
unfolding come
all_through (none_stands {events}) flow more sub = record {
  flow = flow;
  through = refl;
  left = sub_drops (events_of_placed events) more flow.kept sub;
}
all_through (bad_is_passed {found} {events} at cause h) flow more sub =
    all_through h (done (Bad cause) [] flow.kept flow) more sub
all_through (same_stands {found} {events} event h) flow more sub =
    let one = one_through event flow (events_of_placed events ++ more) sub in
    let rest = all_through h one.flow more one.left in
    record {
      flow = rest.flow;
      through = ap (goes_on (come found)) one.through ∙ rest.through;
      left = rest.left;
    }
all_through (other_is_passed event h) flow more sub = all_through h flow more (sub_drop sub)

-- ---- one way

-- What a receiver that was never astray would read of the characters on a wire was sent in this
-- order, and is not acted on yet. The receiver stands beside it.
pub record IsFairWay (astray : Bool) (receiver : PortState) (wire : WireState) : Type 0 where
  pub true_at : Place
  pub stands : StandAt astray receiver.place true_at
  pub rests : at_rest (place_after true_at wire.chars) ≡ true
  pub found : IsSubsequence (said true_at wire.chars) wire.kept
  pub good : AllGood (said true_at wire.chars)

pub fair_sent : (astray : Bool) (receiver : PortState) (wire : WireState) (burst : Burst)
    → IsRead burst → IsDelimited burst.chars → AllGood burst.sent
    → IsFairWay astray receiver wire → IsFairWay astray receiver (with_sent wire burst)
fair_sent astray receiver wire burst read delimited goods fair =
    let from = fair.true_at in
    let there = place_after from wire.chars in
    let more = read_at_rest there burst fair.rests read delimited in
    let says = said-append from wire.chars burst.chars
    ∙ ap (λ l. said from wire.chars ++ l) more.says in
    record {
      true_at = from;
      stands = fair.stands;
      rests = ap at_rest (place_after-append from wire.chars burst.chars) ∙ more.rests;
      found =
          subst (λ l. IsSubsequence l (wire.kept ++ burst.sent)) (sym says)
          (sub-append burst.sent fair.found);
      good = subst AllGood (sym says) (good_both (said from wire.chars) burst.sent fair.good goods);
    }

-- the same for another port whose framer stands there
pub fair_at : (astray : Bool) (receiver other : PortState) (wire : WireState)
    → other.place ≡ receiver.place → IsFairWay astray receiver wire → IsFairWay astray other wire
fair_at astray receiver other wire same fair = record {
  true_at = fair.true_at;
  stands = subst (λ (p : Place). StandAt astray p fair.true_at) (sym same) fair.stands;
  rests = fair.rests;
  found = fair.found;
  good = fair.good;
}

said_empty : (p : Place) (sent : List Event) → IsSubsequence (said p []) sent
unfolding run
said_empty p sent = sub_none sent

pub fair_silent : (astray : Bool) (receiver other : PortState) (wire : WireState)
    → other.place ≡ receiver.place → wire.chars ≡ [] → IsFairWay astray receiver wire
    → IsFairWay astray other (silenced wire)
fair_silent astray receiver other wire same none fair = record {
  true_at = fair.true_at;
  stands = subst (λ (p : Place). StandAt astray p fair.true_at) (sym same) fair.stands;
  rests = fair.rests;
  found =
      subst (λ l. IsSubsequence (said fair.true_at l) []) (sym none) (said_empty fair.true_at []);
  good = fair.good;
}

-- what is heard of some characters finds no event that was not sent, and leaves the way fair
pub record HearsFairly (after : Bool) (n : ℕ) (receiver : PortState) (wire : WireState)
    (heard : List Char) : Type 0 where
  pub flow : Flow
  pub through : delivered receiver wire.kept heard ≡ Through flow
  pub true_after : Place
  pub stands : StandAt after (place_after receiver.place heard) true_after
  pub rests : at_rest (place_after true_after (drop n wire.chars)) ≡ true
  pub left : IsSubsequence (said true_after (drop n wire.chars)) flow.kept
  pub good : AllGood (said true_after (drop n wire.chars))

pub fair_heard : (astray after : Bool) (n : ℕ) (receiver : PortState) (wire : WireState)
    (heard : List Char) → IsFairWay astray receiver wire
    → HeardUpTo astray (take n wire.chars) heard after → HearsFairly after n receiver wire heard
fair_heard astray after n receiver wire heard fair h =
    let xs = take n wire.chars in
    let ys = drop n wire.chars in
    let from = fair.true_at in
    let there = place_after from xs in
    let joined : xs ++ ys ≡ wire.chars = take-append-drop n wire.chars in
    let says : said from wire.chars ≡ said from xs ++ said there ys =
    ap (said from) (sym joined) ∙ said-append from xs ys in
    let goods : AllGood (said from xs ++ said there ys) = subst AllGood says fair.good in
    let good : AreGood (run from 0 xs) =
    good_placed (run from 0 xs) (good_front (said from xs) (said there ys) goods) in
    let stand : GoodStandIn (run receiver.place 0 heard) (run from 0 xs) =
    made_none astray receiver.place from xs heard fair.stands (heard_so astray after xs heard h)
    good in
    let all = all_through stand (begun receiver wire.kept) (said there ys)
    (subst (λ l. IsSubsequence l wire.kept) says fair.found) in
    record {
      flow = record all.flow {
        port = record all.flow.port { place = place_after receiver.place heard };
        told = record all.flow.told { count = 0 + length heard };
      };
      through = ap (ended (place_after receiver.place heard) (0 + length heard)) all.through;
      true_after = there;
      stands = lead astray after receiver.place from 0 xs heard fair.stands h good;
      rests =
          ap at_rest (sym (place_after-append from xs ys) ∙ ap (place_after from) joined)
          ∙ fair.rests;
      left = all.left;
      good = good_back (said from xs) (said there ys) goods;
    }
  where
    made_none : (astray : Bool) (mine other : Place) (sent heard : List Char)
        → StandAt astray mine other → HeardWithMistakes astray sent heard
        → AreGood (run other 0 sent) → GoodStandIn (run mine 0 heard) (run other 0 sent)
    made_none true mine other sent heard stand h good =
        mistakes_make_none true mine.text other.text mine.pending other.pending 0 sent heard stand
        h good
    made_none false mine other sent heard stand h good =
        mistakes_make_none false mine.text other.text mine.pending other.pending 0 sent heard stand
        h good
