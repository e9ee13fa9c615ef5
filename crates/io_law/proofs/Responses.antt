-- Each response that came is a packet with which a node replied.
use Rattle.io_law.proofs.Prelude.{◌≡◌, ◌≤◌, ◌<◌, ℕ, false, List, [], ◌∷◌, ◌++◌, refl, sym, ap, ◌∙◌, subst, arith, if◌then◌else◌, AllByRecursion, eq-eqb, ftype_of, is_maintenance, Numbered, Item, taken_by, items_taken, WasTaken, how_often, IsAfterMoves, moves, all-append, all_weaker, how_often-append, steps_of, start, set_up_all, bare, lawful, IoTask, Carry, Ask, Settle, Turn, Reply, Fetch, Finish, IoState, IoGoes, IoBegins, IoTurns, IoActs, IoEnds, IoComes, Here, Further, replied_behind, network_at, asked_by, replied_by, io_replied, came, ResponsesWereReplied}
use Rattle.io_law.proofs.Arriving.{same_after, all_come}
use Rattle.io_law.proofs.Fit.{IsFit, fit_comes, first_fit}
use Rattle.io_law.proofs.Items.{given_goes}
use Rattle.io_law.proofs.Numbers.{taken_once}
use Rattle.io_law.proofs.Places.{get_all}
use Rattle.io_law.proofs.Plain.{NoAnswers}
use Rattle.io_law.proofs.Sending.{last_none}
use Rattle.io_law.proofs.Taking.{goes_taken, run_plain}
use Rattle.io_law.proofs.Tracing.{added, trace_goes, sent_comes, fit_set_up, gathered_goes}
use Rattle.io_law.proofs.Turning.{IsAsked, goes_asked}

-- ---- a response that is taken is a reply

-- it is among these replies, if it is a response
abbrev IsAmong : List Item → Item → Type 0
IsAmong replies item = ftype_of item.taken ≡ 13 → 0 < how_often item.number replies

-- all of some are among them
all_among : (items : List Item) → AllByRecursion (IsAmong items) items
all_among [] = tt
all_among (item ∷ items) = (
  λ response.
      let own = ap {B = ℕ} (λ b. if b then 1 else 0) (eq-eqb item.number item.number refl) in
      omega (arith, own),
  all_weaker (IsAmong items) (IsAmong (item ∷ items))
      (λ x among response. let few = among response in omega (arith, few)) items (all_among items),
)

comes_among : {names : List (List ℕ)} {script : List Numbered} {first s : IoState}
    (comes : IoComes names script first s) → IsFit first → first.trace ≡ []
    → NoAnswers (steps_of s.trace)
    → AllByRecursion (IsAmong (io_replied comes))
    (items_taken (start script).network (steps_of s.trace))
comes_among {names} {script} (Here is) fit none plain =
    subst (λ l. AllByRecursion (IsAmong []) (items_taken (start script).network (steps_of l)))
    (sym (ap (λ (x : IoState). x.trace) is ∙ none)) tt
comes_among {names} {script} {first} {s} (Further before comes goes) fit none plain =
    let parts = last_none script before (added goes) s (trace_goes goes) plain in
    let own = fit_comes comes fit in
    let old = items_taken (start script).network (steps_of before.trace) in
    let replies = io_replied comes ++ replied_by goes in
    subst (AllByRecursion (IsAmong replies))
    (sym (gathered_goes taken_by goes ∙ ap (λ l. old ++ l) (goes_taken goes own parts.1)))
    (all-append (IsAmong replies) old (asked_by goes ++ replied_by goes)
    (all_weaker (IsAmong (io_replied comes)) (IsAmong replies)
    (λ x among response.
    let few = among response in
    omega (arith, few, how_often-append x.number (io_replied comes) (replied_by goes)))
    old (comes_among comes fit none parts.0))
    (all-append (IsAmong replies) (asked_by goes) (replied_by goes)
    (all_weaker IsAsked (IsAmong replies) (λ x is response. absurd (is.2 response))
    (asked_by goes) (goes_asked goes own))
    (all_weaker (IsAmong (replied_by goes)) (IsAmong replies)
    (λ x among response.
    let few = among response in
    omega (arith, few, how_often-append x.number (io_replied comes) (replied_by goes)))
    (replied_by goes) (all_among (replied_by goes)))))

-- ---- no reply is one of another

replied_few : (n : ℕ) (task : IoTask) (items : List Item)
    → how_often n (replied_behind task items) ≤ how_often n items
replied_few n (Reply node line) items = omega arith
replied_few n (Ask node tid line) items = omega arith
replied_few n (Carry line) items = omega arith
replied_few n Settle items = omega arith
replied_few n (Turn node) items = omega arith
replied_few n (Fetch node) items = omega arith
replied_few n Finish items = omega arith

replied_goes_few : {names : List (List ℕ)} {script : List Numbered} {s t : IoState} (n : ℕ)
    (goes : IoGoes names script s t)
    → how_often n (replied_by goes)
    ≤ how_often n (items_taken (network_at script s) (steps_of (added goes)))
replied_goes_few n (IoBegins line rest is to) = omega arith
replied_goes_few n (IoTurns node rest is to) = omega arith
replied_goes_few {names} {script} {s} n (IoActs task rest line block is event block_is sent to) =
    replied_few n task (items_taken (network_at script s) (steps_of block))
replied_goes_few n (IoEnds rest is to) = omega arith

replied_comes_few : {names : List (List ℕ)} {script : List Numbered} {first s : IoState} (n : ℕ)
    (comes : IoComes names script first s)
    → how_often n (io_replied comes)
    ≤ how_often n (items_taken (start script).network (steps_of s.trace))
replied_comes_few n (Here is) = omega arith
replied_comes_few n (Further before comes goes) =
    omega (
      arith,
      how_often-append n (io_replied comes) (replied_by goes),
      replied_comes_few n comes,
      replied_goes_few n goes,
      given_goes n taken_by goes,
    )

-- ---- what came

pub no_maintenance : (packet : List ℕ) → ftype_of packet ≡ 13 → is_maintenance packet ≡ false
no_maintenance packet is = rw is refl

pub were_replied : ResponsesWereReplied
were_replied names script io s comes fit =
    let set_up = fit_set_up names script io fit in
    let net = set_up_all bare script in
    let steps = steps_of s.trace in
    let shown = lawful net s.trace set_up (sent_comes set_up refl comes).made in
    let own = first_fit names io in
    let among = comes_among comes own refl (run_plain comes set_up refl own).none in
    record {
      replies = all_weaker
          (λ item. IsAfterMoves item.taken (how_often item.number (moves net steps)) item.now
          × WasTaken net steps item)
          (λ item. ftype_of item.now ≡ 13 → 0 < how_often item.number (io_replied comes))
          (λ item was response.
          let same = same_after item.taken _ item.now was.0
          (no_maintenance item.now response) in
          get_all (IsAmong (io_replied comes)) (items_taken net steps) item.number
          (record item { now = item.taken }) among was.1
          (ap ftype_of (sym same) ∙ response))
          (came comes)
          (all_come
          (λ item. IsAfterMoves item.taken (how_often item.number (moves net steps)) item.now
          × WasTaken net steps item) comes shown.unchanged.same);
      replied_once = λ n.
          let few = replied_comes_few n comes in omega (arith, few, taken_once n net steps);
    }
