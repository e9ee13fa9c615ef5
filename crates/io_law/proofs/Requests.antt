-- What is served is among what came, and with what is answered a node asked.
use Rattle.io_law.proofs.Prelude.{◌≡◌, ◌≤◌, ◌<◌, ℕ, Bool, true, false, eqb, List, [], ◌∷◌, ◌++◌, length, map, Option, Some, None, refl, sym, ap, ◌∙◌, subst, arith, append_assoc, if◌then◌else◌, slice_get, AllByRecursion, eqb-true, map-append, ftype_of, Numbered, Item, taken_by, items_taken, gone, WasTaken, IsAfterMoves, moves, how_often, all-append, all_weaker, how_often-append, steps_of, start, set_up_all, bare, lawful, happened, Happened, Io, answer_at_node, IoTask, Carry, Ask, Settle, Turn, Reply, Fetch, Finish, IoState, IoGoes, IoBegins, IoTurns, IoActs, IoEnds, IoComes, Here, Further, io_told, came_behind, network_at, asked_by, replied_by, came_by, io_asked, came, IoArrival, arrived_behind, arrived_by, io_arrived, Served, served_with, served_behind, served_by, io_served_at, RequestsWereAsked}
use Rattle.fabric_ports.specs.declared.answers.Happened.TheVariants as Answers
use Rattle.io_law.proofs.Arriving.{stays_same}
use Rattle.io_law.proofs.Fit.{IsFit, fit_comes, first_fit}
use Rattle.io_law.proofs.Places.{get_all, often_at, slice_get-append, slice_get-seam}
use Rattle.io_law.proofs.Plain.{IsPlain, NoAnswers, not_maintenance}
use Rattle.io_law.proofs.Sending.{last_none}
use Rattle.io_law.proofs.Taking.{comes_gone, goes_taken, run_plain}
use Rattle.io_law.proofs.Tracing.{fit_set_up, sent_comes, added, trace_goes, gathered_goes}
use Rattle.io_law.proofs.Turning.{IsAsked, goes_asked, IsReplied, replied_plain, goes_replied}

-- ---- standing in a list

pub record IsIn {X : Type 0} (xs : List X) (x : X) : Type 0 where
  pub place : ℕ
  pub is : slice_get xs place ≡ Some x

in_append : {X : Type 0} (xs ys : List X) (x : X) → IsIn xs x → IsIn (xs ++ ys) x
in_append xs ys x one =
    let place = one.place in
    let is = one.is in
    record { place = place; is = slice_get-append xs ys place x is }

-- each stands behind what stood before
all_in : {X : Type 0} (old xs : List X) → AllByRecursion (IsIn (old ++ xs)) xs
all_in old [] = tt
all_in old (x ∷ xs) = (
  record { place = length old; is = slice_get-seam old x xs },
  subst (λ l. AllByRecursion (IsIn l) xs) (append_assoc old (x ∷ []) xs)
      (all_in (old ++ x ∷ []) xs),
)

-- ---- with what is no response a node asked

pub all_asked : {names : List (List ℕ)} {script : List Numbered} {first s : IoState}
    (comes : IoComes names script first s) → IsFit first → first.trace ≡ []
    → NoAnswers (steps_of s.trace)
    → AllByRecursion (λ x. (IsReplied x → ⊥) → IsIn (io_asked comes) x)
    (items_taken (start script).network (steps_of s.trace))
all_asked {names} {script} (Here is) fit none plain =
    subst (λ l. AllByRecursion (λ x. (IsReplied x → ⊥) → IsIn [] x)
    (items_taken (start script).network (steps_of l)))
    (sym (ap (λ (x : IoState). x.trace) is ∙ none)) tt
all_asked {names} {script} {first} {s} (Further before comes goes) fit none plain =
    let parts = last_none script before (added goes) s (trace_goes goes) plain in
    let old = items_taken (start script).network (steps_of before.trace) in
    let own = fit_comes comes fit in
    let P = λ (x : Item). (IsReplied x → ⊥) → IsIn (io_asked comes ++ asked_by goes) x in
    subst (AllByRecursion P)
    (sym (gathered_goes taken_by goes ∙ ap (λ l. old ++ l) (goes_taken goes own parts.1)))
    (all-append P old (asked_by goes ++ replied_by goes)
    (all_weaker (λ x. (IsReplied x → ⊥) → IsIn (io_asked comes) x) P
    (λ x is other. in_append (io_asked comes) (asked_by goes) x (is other)) old
    (all_asked comes fit none parts.0))
    (all-append P (asked_by goes) (replied_by goes)
    (all_weaker (IsIn (io_asked comes ++ asked_by goes)) P (λ x is other. is) (asked_by goes)
    (all_in (io_asked comes) (asked_by goes)))
    (all_weaker IsReplied P (λ x is other. absurd (other is)) (replied_by goes)
    (goes_replied goes own))))

-- all that is taken is no maintenance packet
all_plain : {names : List (List ℕ)} {script : List Numbered} {first s : IoState}
    (comes : IoComes names script first s) → IsFit first → first.trace ≡ []
    → NoAnswers (steps_of s.trace)
    → AllByRecursion (λ x. IsPlain x.taken) (items_taken (start script).network (steps_of s.trace))
all_plain {names} {script} (Here is) fit none plain =
    subst (λ l. AllByRecursion (λ x. IsPlain x.taken)
    (items_taken (start script).network (steps_of l)))
    (sym (ap (λ (x : IoState). x.trace) is ∙ none)) tt
all_plain {names} {script} {first} {s} (Further before comes goes) fit none plain =
    let parts = last_none script before (added goes) s (trace_goes goes) plain in
    let old = items_taken (start script).network (steps_of before.trace) in
    let own = fit_comes comes fit in
    let P = λ (x : Item). IsPlain x.taken in
    subst (AllByRecursion P)
    (sym (gathered_goes taken_by goes ∙ ap (λ l. old ++ l) (goes_taken goes own parts.1)))
    (all-append P old (asked_by goes ++ replied_by goes) (all_plain comes fit none parts.0)
    (all-append P (asked_by goes) (replied_by goes)
    (all_weaker IsAsked P (λ x is. is.1) (asked_by goes) (goes_asked goes own))
    (all_weaker IsReplied P replied_plain (replied_by goes) (goes_replied goes own))))

pub requests_asked : RequestsWereAsked
requests_asked names script io s comes fit =
    let set_up = fit_set_up names script io fit in
    let own = first_fit names io in
    let net = set_up_all bare script in
    let steps = steps_of s.trace in
    let none = (run_plain comes set_up refl own).none in
    let shown = lawful net s.trace set_up (sent_comes set_up refl comes).made in
    let was = λ (x : Item). IsAfterMoves x.taken (how_often x.number (moves net steps)) x.now
    × WasTaken net steps x in
    all_weaker was (λ x. (ftype_of x.now ≡ 13 → ⊥) → 0 < how_often x.number (io_asked comes))
    (λ x is other.
    let before : Item = record x { now = x.taken } in
    let plain = get_all (λ y. IsPlain y.taken) (items_taken net steps) x.number before
    (all_plain comes own refl none) is.1 in
    let same = stays_same x.taken _ x.now is.0 (not_maintenance x.taken plain) in
    let stands = get_all (λ y. (IsReplied y → ⊥) → IsIn (io_asked comes) y) (items_taken net steps)
    x.number before (all_asked comes own refl none) is.1
    (λ response. other (ap ftype_of same ∙ response)) in
    let stands_is = stands.is in
    often_at (io_asked comes) stands.place before stands_is)
    (came comes)
    (subst (AllByRecursion was) (comes_gone comes refl own) shown.unchanged.same)

-- ---- what is served came

-- the arrival of what is served
abbrev pub arrival_of : ℕ → Served → IoArrival
arrival_of node x = record { before = x.before; node = node; item = x.item }

with_in : (lines node : ℕ) (old : List IoArrival) (answer : Option Io) (items : List Item)
    → AllByRecursion (λ x. IsIn
    (old ++ map (λ item. record { before = lines; node = node; item = item }) items)
    (arrival_of node x)) (served_with lines answer items)
with_in lines node old None items = tt
with_in lines node old (Some io) [] = tt
with_in lines node old (Some io) (item ∷ items) =
    let mine : IoArrival = record { before = lines; node = node; item = item } in
    let rest : List IoArrival =
    map (λ item. record { before = lines; node = node; item = item }) items in (
      record { place = length old; is = slice_get-seam old mine rest },
      subst (λ l. AllByRecursion (λ x. IsIn l (arrival_of node x))
          (served_with lines (Some io) items)) (append_assoc old (mine ∷ []) rest)
          (with_in lines node (old ++ mine ∷ []) (Some io) items),
    )

task_in : (lines node : ℕ) (old : List IoArrival) (answers : ℕ → List ℕ → Option Io) (task : IoTask)
    (what : Happened) (items : List Item)
    → AllByRecursion (λ x. IsIn (old ++ arrived_behind lines task what items) (arrival_of node x))
    (served_behind node lines answers task what items)
task_in lines node old answers (Fetch at) (Answers.Left packet) items = by (eqb at node) refl
  where
    by : (b : Bool) → eqb at node ≡ b
        → AllByRecursion (λ x. IsIn
        (old ++ map (λ item. record { before = lines; node = at; item = item }) items)
        (arrival_of node x)) (if b then served_with lines (answers at packet) items else [])
    by true same =
        subst (λ n. AllByRecursion (λ x. IsIn
        (old ++ map (λ item. record { before = lines; node = at; item = item }) items)
        (arrival_of n x)) (served_with lines (answers at packet) items)) (eqb-true at node same)
        (with_in lines at old (answers at packet) items)
    by false other = tt
task_in lines node old answers (Fetch at) Answers.Took items = tt
task_in lines node old answers (Fetch at) Answers.Answered items = tt
task_in lines node old answers (Fetch at) _ items = tt
task_in lines node old answers (Ask at tid line) what items = tt
task_in lines node old answers (Carry line) what items = tt
task_in lines node old answers Settle what items = tt
task_in lines node old answers (Turn at) what items = tt
task_in lines node old answers (Reply at line) what items = tt
task_in lines node old answers Finish what items = tt

goes_in : {names : List (List ℕ)} {script : List Numbered} {s t : IoState} (lines node : ℕ)
    (old : List IoArrival) (goes : IoGoes names script s t)
    → AllByRecursion (λ x. IsIn (old ++ arrived_by lines goes) (arrival_of node x))
    (served_by node lines goes)
goes_in lines node old (IoBegins line rest is to) = tt
goes_in lines node old (IoTurns at rest is to) = tt
goes_in {names} {script} {s} lines node old
    (IoActs task rest line block is event block_is sent to) =
    task_in lines node old (answer_at_node s.stations) task (happened line block)
    (gone (network_at script s) (steps_of block))
goes_in lines node old (IoEnds rest is to) = tt

pub served_in : {names : List (List ℕ)} {script : List Numbered} {first s : IoState} (node : ℕ)
    (comes : IoComes names script first s)
    → AllByRecursion (λ x. IsIn (io_arrived comes) (arrival_of node x)) (io_served_at node comes)
served_in node (Here is) = tt
served_in node (Further before comes goes) =
    let lines = length (io_told comes) in
    let P = λ (x : Served). IsIn (io_arrived comes ++ arrived_by lines goes) (arrival_of node x) in
    all-append P (io_served_at node comes) (served_by node lines goes)
    (all_weaker (λ x. IsIn (io_arrived comes) (arrival_of node x)) P
    (λ x is. in_append (io_arrived comes) (arrived_by lines goes) (arrival_of node x) is)
    (io_served_at node comes) (served_in node comes))
    (goes_in lines node (io_arrived comes) goes)

-- ---- each of them once

with_few : (n lines : ℕ) (answer : Option Io) (items : List Item)
    → how_often n (map (λ (x : Served). x.item) (served_with lines answer items))
    ≤ how_often n items
with_few n lines None items = omega arith
with_few n lines (Some io) [] = omega arith
with_few n lines (Some io) (item ∷ items) =
    let rest = with_few n lines (Some io) items in omega (arith, rest)

task_few : (n lines node : ℕ) (answers : ℕ → List ℕ → Option Io) (task : IoTask)
    (what : Happened) (items : List Item)
    → how_often n (map (λ (x : Served). x.item)
    (served_behind node lines answers task what items))
    ≤ how_often n (came_behind task what items)
task_few n lines node answers (Fetch at) (Answers.Left packet) items = by (eqb at node)
  where
    by : (b : Bool)
        → how_often n (map (λ (x : Served). x.item)
        (if b then served_with lines (answers at packet) items else [])) ≤ how_often n items
    by true = with_few n lines (answers at packet) items
    by false = omega arith
task_few n lines node answers (Fetch at) Answers.Took items = omega arith
task_few n lines node answers (Fetch at) Answers.Answered items = omega arith
task_few n lines node answers (Fetch at) _ items = omega arith
task_few n lines node answers (Ask at tid line) what items = omega arith
task_few n lines node answers (Carry line) what items = omega arith
task_few n lines node answers Settle what items = omega arith
task_few n lines node answers (Turn at) what items = omega arith
task_few n lines node answers (Reply at line) what items = omega arith
task_few n lines node answers Finish what items = omega arith

goes_few : {names : List (List ℕ)} {script : List Numbered} {s t : IoState} (n lines node : ℕ)
    (goes : IoGoes names script s t)
    → how_often n (map (λ (x : Served). x.item) (served_by node lines goes))
    ≤ how_often n (came_by goes)
goes_few n lines node (IoBegins line rest is to) = omega arith
goes_few n lines node (IoTurns at rest is to) = omega arith
goes_few {names} {script} {s} n lines node
    (IoActs task rest line block is event block_is sent to) =
    task_few n lines node (answer_at_node s.stations) task (happened line block)
    (gone (network_at script s) (steps_of block))
goes_few n lines node (IoEnds rest is to) = omega arith

pub served_few : {names : List (List ℕ)} {script : List Numbered} {first s : IoState} (n node : ℕ)
    (comes : IoComes names script first s)
    → how_often n (map (λ (x : Served). x.item) (io_served_at node comes))
    ≤ how_often n (came comes)
served_few n node (Here is) = omega arith
served_few n node (Further before comes goes) =
    let lines = length (io_told comes) in
    omega (
      arith,
      ap (how_often n) (map-append (λ (x : Served). x.item) (io_served_at node comes)
          (served_by node lines goes)),
      how_often-append n (map (λ (x : Served). x.item) (io_served_at node comes))
          (map (λ (x : Served). x.item) (served_by node lines goes)),
      how_often-append n (came comes) (came_by goes),
      served_few n node comes,
      goes_few n lines node goes,
    )
