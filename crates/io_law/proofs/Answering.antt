-- Each `done` line is of the reply to a packet that was served before, and no two are of one.
use Rattle.io_law.proofs.Prelude.{◌≡◌, ◌≤◌, ◌⊎◌, inl, inr, ℕ, zero, suc, List, [], ◌∷◌, ◌++◌, length, map, Option, Some, None, refl, sym, ap, ap₂, option_map, ◌∙◌, subst, arith, append-nil, if◌then◌else◌, slice_get, AllByRecursion, eq-eqb, ftype_of, Numbered, Item, EndLeft, ended_by, taken_by, items_taken, gone, WasTaken, how_often, IsAfterMoves, moves, all-parts, steps_of, start, set_up_all, bare, lawful, Done, NumberedIo, met_by, IoState, IoGoes, IoComes, Here, Further, IsIoFit, first_state, io_of, IoTold, ToldCame, io_told, told_by, and_told, io_asked, asked_by, network_at, came, IsSentBy, DonesAnswerRequests, io_number_of, IoArrival, Served, arrived_by, io_arrived, served_by, io_served_at, reply_to, IoSent, io_sent_by, sent_at, IsIoServed, IsReplyTo}
use Rattle.std.proofs.lemmas.Option.{slice_get-map}
use Rattle.io_law.proofs.Arriving.{same_after}
use Rattle.io_law.proofs.Dones.{IsAReply, all_replied, arrived_came, DoneBy, done_by}
use Rattle.io_law.proofs.Fit.{fit_comes, first_fit}
use Rattle.io_law.proofs.Items.{one_line_each}
use Rattle.io_law.proofs.Places.{often_at, slice_get-append, slice_get-seam, get_below, get_all}
use Rattle.io_law.proofs.Plain.{not_maintenance}
use Rattle.io_law.proofs.Requests.{IsIn, all_asked, arrival_of, served_in, served_few}
use Rattle.io_law.proofs.Responses.{no_maintenance}
use Rattle.io_law.proofs.Sending.{last_none}
use Rattle.io_law.proofs.Serving.{replies_answer}
use Rattle.io_law.proofs.Taking.{comes_gone, goes_gone, goes_taken, run_plain}
use Rattle.io_law.proofs.Tracing.{added, trace_goes, sent_comes, fit_set_up, gathered_goes}
use Rattle.io_law.proofs.Turning.{IsReplied}
use Rattle.io_law.proofs.Types.{answered_number, numbered_request, met_done, reply_type, answer_is_told}

-- what stands in a list that is made of another is made of what stands there
record MadeAt {X Y : Type 0} (f : X → Y) (xs : List X) (k : ℕ) (y : Y) : Type 0 where
  pub from : X
  pub is : slice_get xs k ≡ Some from
  pub same : y ≡ f from

made_at : {X Y : Type 0} (f : X → Y) (xs : List X) (k : ℕ) (y : Y)
    → slice_get (map f xs) k ≡ Some y → MadeAt f xs k y
made_at f [] zero y is = absurd cc
made_at f [] (suc k) y is = absurd cc
made_at f (x ∷ xs) zero y is = record { from = x; is = refl; same = cc }
made_at f (x ∷ xs) (suc k) y is =
    let rest = made_at f xs k y is in
    let from = rest.from in
    let at = rest.is in
    let same = rest.same in
    record { from = from; is = at; same = same }

-- a place of some and one more is one of them, or the last
get_last : {X : Type 0} (xs : List X) (y x : X) (k : ℕ) → slice_get (xs ++ y ∷ []) k ≡ Some x
    → (slice_get xs k ≡ Some x) ⊎ ((y ≡ x) × (k ≡ length xs))
get_last [] y x zero is = inr (cc, refl)
get_last [] y x (suc zero) is = absurd cc
get_last [] y x (suc (suc k)) is = absurd cc
get_last (first ∷ xs) y x zero is = inl is
get_last (first ∷ xs) y x (suc k) is = by (get_last xs y x k is)
  where
    by : (slice_get xs k ≡ Some x) ⊎ ((y ≡ x) × (k ≡ length xs))
        → (slice_get xs k ≡ Some x) ⊎ ((y ≡ x) × (suc k ≡ suc (length xs)))
    by (inl before) = inl before
    by (inr last) = inr (last.0, ap suc last.1)

-- a number that stands once stands at one place
one_place : (items : List Item) (i j : ℕ) (x y : Item) → how_often x.number items ≤ 1
    → slice_get items i ≡ Some x → slice_get items j ≡ Some y → x.number ≡ y.number → i ≡ j
one_place [] zero j x y few at other same = absurd cc
one_place [] (suc i) j x y few at other same = absurd cc
one_place (item ∷ items) zero zero x y few at other same = refl
one_place (item ∷ items) zero (suc j) x y few at other same =
    let it : item ≡ x = cc in
    let own = ap {B = ℕ} (λ b. if b then 1 else 0)
    (eq-eqb item.number x.number (ap (λ (i : Item). i.number) it)) in
    let rest = often_at items j y other in
    let moved = ap (λ n. how_often n items) same in
    absurd (omega (arith, own, rest, moved, few))
one_place (item ∷ items) (suc i) zero x y few at other same =
    let it : item ≡ y = cc in
    let own = ap {B = ℕ} (λ b. if b then 1 else 0)
    (eq-eqb item.number x.number (ap (λ (i : Item). i.number) it ∙ sym same)) in
    let rest = often_at items i x at in
    absurd (omega (arith, own, rest, few))
one_place (item ∷ items) (suc i) (suc j) x y few at other same =
    ap suc (one_place items i j x y (omega (arith, few)) at other same)

-- ---- with what is served a node asked

item_at : {names : List (List ℕ)} {script : List Numbered} {first s : IoState}
    (comes : IoComes names script first s) (n : ℕ) (arrival : IoArrival)
    → slice_get (io_arrived comes) n ≡ Some arrival → slice_get (came comes) n ≡ Some arrival.item
item_at comes n arrival is =
    ap (λ l. slice_get l n) (sym (arrived_came comes))
    ∙ slice_get-map (λ (a : IoArrival). a.item) (io_arrived comes) n
    ∙ ap (option_map (λ (a : IoArrival). a.item)) is

request_asked : {names : List (List ℕ)} {script : List Numbered} {io : List NumberedIo}
    {s : IoState} (comes : IoComes names script (first_state names io) s)
    → IsIoFit names script io → (arrival : IoArrival) (tid : ℕ) → IsIn (io_arrived comes) arrival
    → io_number_of (io_of arrival.item.now) ≡ Some tid → IsIn (io_asked comes) arrival.item
request_asked {names} {script} {io} {s} comes fit arrival tid there number =
    let set_up = fit_set_up names script io fit in
    let own = first_fit names io in
    let net = set_up_all bare script in
    let steps = steps_of s.trace in
    let item = arrival.item in
    let shown = lawful net s.trace set_up (sent_comes set_up refl comes).made in
    let place = there.place in
    let there_is = there.is in
    let P = λ (x : Item). IsAfterMoves x.taken (how_often x.number (moves net steps)) x.now
    × WasTaken net steps x in
    let was = get_all P (came comes) place item
    (subst (AllByRecursion P) (comes_gone comes refl own) shown.unchanged.same)
    (item_at comes place arrival there_is) in
    let request = numbered_request item.now tid number in
    let no_maintenance = request.no_maintenance in
    let no_response = request.no_response in
    let same = same_after item.taken _ item.now was.0
    (not_maintenance item.now no_maintenance) in
    let in_asked = get_all (λ x. (IsReplied x → ⊥)
    → IsIn (io_asked comes) x) (items_taken net steps)
    item.number (record item { now = item.taken })
    (all_asked comes own refl (run_plain comes set_up refl own).none) was.1
    (λ response. no_response (ap ftype_of same ∙ response)) in
    subst (λ p. IsIn (io_asked comes) (record item { now = p })) (sym same) in_asked

-- ---- the last line

module _ {names : List (List ℕ)} {script : List Numbered} {io : List NumberedIo}
    (fit : IsIoFit names script io) where
  done_here : {before s : IoState} (comes : IoComes names script (first_state names io) before)
      (goes : IoGoes names script before s) (node tid status : ℕ) (load : Option (List ℕ))
      → DoneBy (length (io_told comes)) goes node tid status load
      → IsReplyTo (Further before comes goes) (length (io_told comes)) node tid status load
  done_here {before} {s} comes goes node tid status load it =
      let set_up = fit_set_up names script io fit in
      let own = first_fit names io in
      let own_before = fit_comes comes own in
      let net = set_up_all bare script in
      let steps = steps_of s.trace in
      let item = it.item in
      let held = it.held in
      let arrives = it.arrives in
      let met = it.met in
      let leaves = it.leaves in
      let takes = it.takes in
      let plain = (last_none script before (added goes) s (trace_goes goes)
      (run_plain (Further before comes goes) set_up refl own).none) in
      let shown = lawful net s.trace set_up
      (sent_comes set_up refl (Further before comes goes)).made
      in
      let P = λ (x : Item). IsAfterMoves x.taken (how_often x.number (moves net steps)) x.now
      × WasTaken net steps x in
      let mine = (subst (AllByRecursion P) (goes_gone goes own_before ∙ leaves)
      (all-parts P (gone net (steps_of before.trace))
      (gone (network_at script before) (steps_of (added goes)))
      (subst (AllByRecursion P) (gathered_goes (ended_by EndLeft) goes)
      shown.unchanged.same)).1).0 in
      let type = reply_type item.now status tid load (met_done held item.now tid status load met)
      in
      let unchanged = same_after item.taken _ item.now mine.0 (no_maintenance item.now type) in
      let was : slice_get (items_taken net (steps_of before.trace)) item.number
      ≡ Some (record item { now = item.taken }) =
      subst (λ l. slice_get l item.number ≡ Some (record item { now = item.taken }))
      (gathered_goes taken_by goes
      ∙ ap (λ l. items_taken net (steps_of before.trace) ++ l)
      (goes_taken goes own_before plain.1 ∙ takes)
      ∙ append-nil (items_taken net (steps_of before.trace))) mine.1 in
      let replied = get_all (λ x. ftype_of x.taken ≡ 13 → IsAReply comes x)
      (items_taken net (steps_of before.trace)) item.number (record item { now = item.taken })
      (all_replied comes own refl plain.0) was (ap ftype_of (sym unchanged) ∙ type) in
      let server = replied.server in
      let turn = replied.turn in
      let reply = replied.reply in
      let reply_at = replied.is in
      let same : reply.item ≡ item =
      replied.same ∙ ap (λ p. record item { now = p }) (sym unchanged) in
      let law = replies_answer names script io before comes server fit in
      let from = made_at (reply_to server) (io_served_at server comes) turn reply.line
      (subst (λ l. slice_get l turn ≡ Some reply.line) (sym law.in_turn.1)
      (slice_get-append (map (λ (x : IoSent). x.line) (sent_at server comes)) law.in_turn.0 turn
      reply.line (slice_get-map (λ (x : IoSent). x.line) (sent_at server comes) turn
      ∙ ap (option_map (λ (x : IoSent). x.line)) reply_at))) in
      let request = from.from in
      let request_at = from.is in
      let replies = from.same in
      let served = get_all (IsIoServed (io_told comes) server) (io_served_at server comes) turn
      request
      law.served request_at in
      let sent = get_all (λ (x : IoSent). IsSentBy (start script).network x.line x.item)
      (sent_at server comes) turn reply law.sent reply_at in
      let answer = answer_is_told (start script).network server held _ request.item.now
      request.answer item tid status load served.answer
      (subst (λ i. IsSentBy (start script).network (reply_to server request) i) same
      (subst (λ l. IsSentBy (start script).network l reply.item) replies sent))
      (ap (met_by held) (sym unchanged) ∙ met) in
      let number = answered_number _ request.item.now request.answer status tid load served.answer
      answer in
      let ask = request_asked comes fit (arrival_of server request) tid
      (get_all (λ x. IsIn (io_arrived comes) (arrival_of server x)) (io_served_at server comes) turn
      request (served_in server comes) request_at) number in
      let ask_place = ask.place in
      let ask_at = ask.is in
      let arrival : IoArrival =
      record { before = length (io_told comes); node = node; item = item } in
      record {
        at = length (io_arrived comes);
        arrival = arrival;
        arrival_is = subst (λ l. slice_get (io_arrived comes ++ l) (length (io_arrived comes))
            ≡ Some arrival) (sym arrives) (slice_get-seam (io_arrived comes) arrival []);
        of_line = refl;
        of_node = refl;
        server = server;
        turn = turn;
        reply = reply;
        reply_is = slice_get-append (sent_at server comes) (io_sent_by server goes) turn reply
            reply_at;
        request = request;
        request_is = slice_get-append (io_served_at server comes)
            (served_by server (length (io_told comes)) goes) turn request request_at;
        replies = replies;
        same = same;
        unchanged = unchanged;
        earlier = get_below (io_told comes) request.before _ served.line;
        answer = answer;
        ask = ask_place;
        ask_is = slice_get-append (io_asked comes) (asked_by goes) ask_place request.item ask_at;
        number = number;
      }

-- ---- all lines

reply_on : {names : List (List ℕ)} {script : List Numbered} {first before s : IoState}
    (comes : IoComes names script first before) (goes : IoGoes names script before s)
    (k node tid status : ℕ) (load : Option (List ℕ)) → IsReplyTo comes k node tid status load
    → IsReplyTo (Further before comes goes) k node tid status load
reply_on comes goes k node tid status load is =
    let at = is.at in
    let arrival = is.arrival in
    let arrival_is = is.arrival_is in
    let of_line = is.of_line in
    let of_node = is.of_node in
    let server = is.server in
    let turn = is.turn in
    let reply = is.reply in
    let reply_is = is.reply_is in
    let request = is.request in
    let request_is = is.request_is in
    let replies = is.replies in
    let same = is.same in
    let unchanged = is.unchanged in
    let earlier = is.earlier in
    let answer = is.answer in
    let ask = is.ask in
    let ask_is = is.ask_is in
    let number = is.number in
    record {
      at = at;
      arrival = arrival;
      arrival_is = slice_get-append (io_arrived comes) (arrived_by (length (io_told comes)) goes) at
          arrival arrival_is;
      of_line = of_line;
      of_node = of_node;
      server = server;
      turn = turn;
      reply = reply;
      reply_is =
          slice_get-append (sent_at server comes) (io_sent_by server goes) turn reply reply_is;
      request = request;
      request_is = slice_get-append (io_served_at server comes)
          (served_by server (length (io_told comes)) goes) turn request request_is;
      replies = replies;
      same = same;
      unchanged = unchanged;
      earlier = earlier;
      answer = answer;
      ask = ask;
      ask_is = slice_get-append (io_asked comes) (asked_by goes) ask request.item ask_is;
      number = number;
    }

-- if it is so of all lines told before and of the last one
by_last : (P : ℕ → Type 0) (lines : List IoTold) (more : Option IoTold) (k : ℕ) (line : IoTold)
    → (slice_get lines k ≡ Some line → P k) → (more ≡ Some line → P (length lines))
    → slice_get (and_told lines more) k ≡ Some line → P k
by_last P lines None k line before last is = before is
by_last P lines (Some own) k line before last is = by (get_last lines own line k is)
  where
    by : (slice_get lines k ≡ Some line) ⊎ ((own ≡ line) × (k ≡ length lines)) → P k
    by (inl one) = before one
    by (inr one) = subst P (sym one.1) (last (ap (λ l. Some l) one.0))

all_done : {names : List (List ℕ)} {script : List Numbered} {io : List NumberedIo} {s : IoState}
    (fit : IsIoFit names script io) (comes : IoComes names script (first_state names io) s)
    (k node tid status : ℕ) (load : Option (List ℕ))
    → slice_get (io_told comes) k ≡ Some (ToldCame node (Done tid status load))
    → IsReplyTo comes k node tid status load
all_done fit (Here is) zero node tid status load at = absurd cc
all_done fit (Here is) (suc k) node tid status load at = absurd cc
all_done fit (Further before comes goes) k node tid status load at =
    by_last (λ n. IsReplyTo (Further before comes goes) n node tid status load) (io_told comes)
    (told_by goes) k (ToldCame node (Done tid status load))
    (λ is. reply_on comes goes k node tid status load
    (all_done fit comes k node tid status load is))
    (λ is. done_here fit comes goes node tid status load
    (done_by fit comes goes (length (io_told comes)) node tid status load is)) at

-- ---- no two are of one request

some_is : {X : Type 0} {x y : X} → Some x ≡ Some y → x ≡ y
some_is is = cc

-- an item came once, and so it was served once
record SameTurn (a b t u : ℕ) : Type 0 where
  pub servers : a ≡ b
  pub turns : t ≡ u

module _ {names : List (List ℕ)} {script : List Numbered} {first s : IoState}
    (comes : IoComes names script first s) (once : (n : ℕ) → how_often n (came comes) ≤ 1) where
  same_arrival : (i j : ℕ) (a b : IoArrival) → slice_get (io_arrived comes) i ≡ Some a
      → slice_get (io_arrived comes) j ≡ Some b → a.item ≡ b.item → a ≡ b
  same_arrival i j a b one other items =
      some_is (sym one ∙ ap (slice_get (io_arrived comes))
      (one_place (came comes) i j a.item b.item (once a.item.number) (item_at comes i a one)
      (item_at comes j b other) (ap (λ (x : Item). x.number) items)) ∙ other)

  served_item : (node turn : ℕ) (x : Served) → slice_get (io_served_at node comes) turn ≡ Some x
      → slice_get (map (λ (x : Served). x.item) (io_served_at node comes)) turn ≡ Some x.item
  served_item node turn x is =
      slice_get-map (λ (x : Served). x.item) (io_served_at node comes) turn
      ∙ ap (option_map (λ (x : Served). x.item)) is

  same_turn : (a b t u : ℕ) (x y : Served) → slice_get (io_served_at a comes) t ≡ Some x
      → slice_get (io_served_at b comes) u ≡ Some y → x.item ≡ y.item → SameTurn a b t u
  same_turn a b t u x y one other items =
      let here = get_all (λ x. IsIn (io_arrived comes) (arrival_of a x)) (io_served_at a comes) t x
      (served_in a comes) one in
      let there = get_all (λ x. IsIn (io_arrived comes) (arrival_of b x)) (io_served_at b comes) u y
      (served_in b comes) other in
      let here_place = here.place in
      let here_is = here.is in
      let there_place = there.place in
      let there_is = there.is in
      let servers = ap (λ (a : IoArrival). a.node)
      (same_arrival here_place there_place (arrival_of a x) (arrival_of b y) here_is there_is
      items) in
      let few = once x.item.number in
      let fewer = served_few x.item.number a comes in
      record {
        servers = servers;
        turns = one_place (map (λ (x : Served). x.item) (io_served_at a comes)) t u x.item y.item
            (omega (arith, few, fewer)) (served_item a t x one)
            (subst (λ n. slice_get (map (λ (x : Served). x.item) (io_served_at n comes)) u
            ≡ Some y.item) (sym servers) (served_item b u y other))
            (ap (λ (x : Item). x.number) items);
      }

  same_line : (j k a b x y r t : ℕ) (l m : Option (List ℕ)) (one : IsReplyTo comes j a x r l)
      (other : IsReplyTo comes k b y t m) → one.ask ≡ other.ask → j ≡ k
  same_line j k a b x y r t l m one other asks =
      let ask_is = one.ask_is in
      let other_ask_is = other.ask_is in
      let request_is = one.request_is in
      let other_request_is = other.request_is in
      let requests = some_is (sym ask_is ∙ ap (slice_get (io_asked comes)) asks ∙ other_ask_is) in
      let it = same_turn one.server other.server one.turn other.turn one.request other.request
      request_is other_request_is requests in
      let reply_is = one.reply_is in
      let other_reply_is = other.reply_is in
      let replies = some_is (sym reply_is
      ∙ ap₂ (λ server turn. slice_get (sent_at server comes) turn) it.servers it.turns
      ∙ other_reply_is) in
      let same = one.same in
      let other_same = other.same in
      let arrival_is = one.arrival_is in
      let other_is = other.arrival_is in
      let arrivals = same_arrival one.at other.at one.arrival other.arrival arrival_is other_is
      (sym same ∙ ap (λ (x : IoSent). x.item) replies ∙ other_same) in
      let of_line = one.of_line in
      let other_line = other.of_line in
      sym of_line ∙ ap (λ (a : IoArrival). a.before) arrivals ∙ other_line

pub dones_answer : DonesAnswerRequests
dones_answer names script io s comes fit = record {
  each = λ k node tid status load at. all_done fit comes k node tid status load at;
  once = λ j k a b x y r t l m one other asks.
      same_line comes (one_line_each names script io s comes fit).came_once j k a b x y r t l m one
      other asks;
}
