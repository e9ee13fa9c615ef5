-- In every state what is to be asked is a request and what is to be replied a response, and a node
-- that replies or collects keeps no reply.
use Rattle.io_law.proofs.Prelude.{◌≡◌, ◌<◌, ◌+◌, ◌⊎◌, inl, inr, ℕ, zero, suc, Bool, true, false, min, List, [], ◌∷◌, ◌++◌, length, map, replicate, Option, Some, None, refl, sym, ap, ◌∙◌, subst, arith, if◌then◌else◌, slice_set, slice_range, AllByRecursion, get_or, get_or-map, map-set_same, length-set, prio_of, Line, Send, Numbered, all-append, happened, Happened, Io, io_of, is_within, answer_to, IoLine, Memory, NRead, NWriteR, Round, NumberedIo, new_station, memory_of, kept_of_node, with_kept, counted_on, answer_by, answer_at_node, stations_after, stations_met, IoTask, Carry, Ask, Settle, Turn, Reply, Fetch, Finish, reply_line, tasks_of, stations_by, task_behind, IoState, left_to_do, with_event, first_of_turn, behind_event, endpoints_of, IoGoes, IoBegins, IoTurns, IoActs, IoEnds, IoComes, Here, Further, first_state, met_length}
use Rattle.fabric_ports.specs.declared.answers.Happened.TheVariants as Answers
use Rattle.io_packets.specs.declared.io.Io.TheVariants as Ios
use Rattle.io_packets.specs.Writing.{type_of}
use Rattle.io_law.proofs.Memories.{has_place}

-- ---- what holds of a state

-- the line sends a request of this node, which is no maintenance packet
abbrev pub AsksFit : ℕ → Line → Type 0
AsksFit node (Send at prio ftype dest hex) =
    (at ≡ node) × (prio ≡ 1) × (ftype < 16) × (ftype ≡ 13 → ⊥) × (ftype ≡ 8 → ⊥)
AsksFit node _ = ⊥

-- the line sends a response of this node
abbrev pub RepliesFit : ℕ → Line → Type 0
RepliesFit node (Send at prio ftype dest hex) = (at ≡ node) × (prio < 4) × (ftype ≡ 13)
RepliesFit node _ = ⊥

abbrev pub KeptFit : ℕ → Option Line → Type 0
KeptFit node None = Unit {0}
KeptFit node (Some line) = RepliesFit node line

-- a task behind the first
abbrev pub RestFit : IoTask → Type 0
RestFit (Ask node tid line) = AsksFit node line
RestFit (Reply node line) = ⊥
RestFit (Fetch node) = ⊥
RestFit _ = Unit {0}

-- the first task: a node that replies or collects keeps no reply
abbrev pub HeadFit : (ℕ → Option Line) → ℕ → IoTask → Type 0
HeadFit kept count (Ask node tid line) = AsksFit node line
HeadFit kept count (Reply node line) = RepliesFit node line
    × (kept node ≡ None) × (node < count)
HeadFit kept count (Fetch node) = kept node ≡ None
HeadFit kept count _ = Unit {0}

abbrev pub TasksFit : (ℕ → Option Line) → ℕ → List IoTask → Type 0
TasksFit kept count [] = Unit {0}
TasksFit kept count (task ∷ rest) = HeadFit kept count task × AllByRecursion RestFit rest

pub record IsFit (s : IoState) : Type 0 where
  pub tasks : TasksFit (kept_of_node s.stations) (length s.stations) s.tasks
  pub kept : (n : ℕ) → KeptFit n (kept_of_node s.stations n)

head_fit : (kept : ℕ → Option Line) (count : ℕ) (task : IoTask) → RestFit task
    → HeadFit kept count task
head_fit kept count (Carry line) fit = tt
head_fit kept count (Ask node tid line) fit = fit
head_fit kept count Settle fit = tt
head_fit kept count (Turn node) fit = tt
head_fit kept count (Reply node line) fit = absurd fit
head_fit kept count (Fetch node) fit = absurd fit
head_fit kept count Finish fit = tt

tasks_fit : (stations : List _) (tasks : List IoTask) → AllByRecursion RestFit tasks
    → TasksFit (kept_of_node stations) (length stations) tasks
tasks_fit stations [] all = tt
tasks_fit stations (task ∷ rest) all =
    (head_fit (kept_of_node stations) (length stations) task all.0, all.1)

-- ---- what is kept of nodes

kept_map : (stations : List _) (n : ℕ)
    → kept_of_node stations n ≡ get_or (map (λ x. kept_of_node (x ∷ []) 0) stations) n None
kept_map stations n = sym (get_or-map (λ x. kept_of_node (x ∷ []) 0) stations n new_station)

-- other things are changed
pub same_kept : (stations : List _) (i : ℕ) (x : _) (n : ℕ)
    → kept_of_node (x ∷ []) 0 ≡ kept_of_node stations i
    → kept_of_node (slice_set stations i x) n ≡ kept_of_node stations n
same_kept stations i x n is =
    kept_map (slice_set stations i x) n
    ∙ ap (λ l. get_or l n None)
    (map-set_same (λ x. kept_of_node (x ∷ []) 0) stations i x new_station is)
    ∙ sym (kept_map stations n)

-- one is changed, or stays if it is none of the nodes
set_kept : (stations : List _) (at : ℕ) (x : _) (n : ℕ)
    → (kept_of_node (slice_set stations at x) n ≡ kept_of_node stations n)
    ⊎ ((n ≡ at) × (kept_of_node (slice_set stations at x) n ≡ kept_of_node (x ∷ []) 0))
set_kept [] zero x n = inl refl
set_kept [] (suc at) x n = inl refl
set_kept (first ∷ stations) zero x zero = inr (refl, refl)
set_kept (first ∷ stations) zero x (suc n) = inl refl
set_kept (first ∷ stations) (suc at) x zero = inl refl
set_kept (first ∷ stations) (suc at) x (suc n) = by (set_kept stations at x n)
  where
    by : (kept_of_node (slice_set stations at x) n ≡ kept_of_node stations n)
        ⊎ ((n ≡ at) × (kept_of_node (slice_set stations at x) n ≡ kept_of_node (x ∷ []) 0))
        → (kept_of_node (slice_set stations at x) n ≡ kept_of_node stations n)
        ⊎ ((suc n ≡ suc at) × (kept_of_node (slice_set stations at x) n ≡ kept_of_node (x ∷ []) 0))
    by (inl same) = inl same
    by (inr own) = inr (ap suc own.0, own.1)

-- what is taken away is kept no more
pub none_kept : (stations : List _) (at : ℕ) (x : _) → kept_of_node (x ∷ []) 0 ≡ None
    → kept_of_node (slice_set stations at x) at ≡ None
none_kept [] zero x is = refl
none_kept [] (suc at) x is = refl
none_kept (first ∷ stations) zero x is = is
none_kept (first ∷ stations) (suc at) x is = none_kept stations at x is

-- only a node that is kept keeps a reply
pub kept_place : (stations : List _) (n : ℕ) (line : Line)
    → kept_of_node stations n ≡ Some line → n < length stations
kept_place [] zero line is = absurd cc
kept_place [] (suc n) line is = absurd cc
kept_place (first ∷ stations) zero line is = omega arith
kept_place (first ∷ stations) (suc n) line is =
    let more = kept_place stations n line is in omega (arith, more)

kept_with : (stations : List _) (at : ℕ) (kept : Option Line) → KeptFit at kept
    → ((n : ℕ) → KeptFit n (kept_of_node stations n)) → (n : ℕ)
    → KeptFit n (kept_of_node (with_kept stations at kept) n)
kept_with stations at kept fit all n = by (set_kept stations at _ n)
  where
    by : (kept_of_node (with_kept stations at kept) n ≡ kept_of_node stations n)
        ⊎ ((n ≡ at) × (kept_of_node (with_kept stations at kept) n ≡ kept))
        → KeptFit n (kept_of_node (with_kept stations at kept) n)
    by (inl same) = subst (KeptFit n) (sym same) (all n)
    by (inr own) = subst (KeptFit n) (sym own.1)
        (subst (λ m. KeptFit m kept) (sym own.0) fit)

pub begun_kept : (stations : List _) (line : IoLine) (n : ℕ)
    → kept_of_node (stations_by line stations) n ≡ kept_of_node stations n
begun_kept stations (Memory node bytes) n = same_kept stations node _ n refl
begun_kept stations _ n = refl

pub counted_kept : (stations : List _) (node : ℕ) (tid : Option ℕ) (n : ℕ)
    → kept_of_node (counted_on stations node tid) n ≡ kept_of_node stations n
counted_kept stations node None n = refl
counted_kept stations node (Some tid) n = same_kept stations node _ n refl

pub met_kept : (stations : List _) (node : ℕ) (packet : List ℕ) (n : ℕ)
    → kept_of_node (stations_met stations node packet) n ≡ kept_of_node stations n
met_kept stations node packet n = by (memory_of stations node)
  where
    by : (memory : Option (List ℕ))
        → kept_of_node (stations_after stations node packet memory) n ≡ kept_of_node stations n
    by None = refl
    by (Some memory) = same_kept stations node _ n refl

-- ---- what lines ask and answer

pub line_fit : (endpoints : List ℕ) (stations : List _) (line : IoLine)
    → AllByRecursion RestFit (tasks_of endpoints stations line)
line_fit endpoints stations (Memory node bytes) = tt
line_fit endpoints stations Round = (tt, turns endpoints)
  where
    turns : (nodes : List ℕ) → AllByRecursion RestFit (map Turn nodes)
    turns [] = tt
    turns (node ∷ nodes) = (tt, turns nodes)
line_fit endpoints stations _ =
    ((refl, refl, omega arith, λ same. absurd cc, λ same. absurd cc), tt)

-- an answer is a response
pub answer_type : (memory : List ℕ) (io answer : Io) → answer_to memory io ≡ Some answer
    → type_of answer ≡ 13
answer_type memory (Ios.NRead tid addr size) answer is =
    by (is_within memory addr size) (slice_range memory addr (addr + size)) is
  where
    by : (b : Bool) (load : List ℕ)
        → (if b then Some (Ios.Reply 0 tid (Some load)) else Some (Ios.Reply 7 tid None))
        ≡ Some answer → type_of answer ≡ 13
    by true load is =
        let same : Ios.Reply 0 tid (Some load) ≡ answer = cc in sym (ap type_of same)
    by false load is = let same : Ios.Reply 7 tid None ≡ answer = cc in sym (ap type_of same)
answer_type memory (Ios.NWriteR tid addr load) answer is =
    by (is_within memory addr (length load)) is
  where
    by : (b : Bool) → (if b then Some (Ios.Reply 0 tid None) else Some (Ios.Reply 7 tid None))
        ≡ Some answer → type_of answer ≡ 13
    by true is = let same : Ios.Reply 0 tid None ≡ answer = cc in sym (ap type_of same)
    by false is = let same : Ios.Reply 7 tid None ≡ answer = cc in sym (ap type_of same)
answer_type memory (Ios.BadRead tid) answer is =
    let same : Ios.Reply 7 tid None ≡ answer = cc in sym (ap type_of same)
answer_type memory (Ios.BadWriteR tid) answer is =
    let same : Ios.Reply 7 tid None ≡ answer = cc in sym (ap type_of same)
answer_type memory _ answer is = absurd cc

pub reply_prio : (prio : ℕ) → min (prio + 1) 3 < 4
reply_prio prio = omega arith

pub answer_fit : (memory : Option (List ℕ)) (node : ℕ) (packet : List ℕ) (io : Io)
    → answer_by memory packet ≡ Some io → RepliesFit node (reply_line node packet io)
answer_fit None node packet io is = absurd cc
answer_fit (Some memory) node packet io is =
    (refl, reply_prio (prio_of packet), answer_type memory (io_of packet) io is)

answer_place : (stations : List _) (node : ℕ) (packet : List ℕ) (io : Io)
    → answer_at_node stations node packet ≡ Some io → node < length stations
answer_place stations node packet io is = by (memory_of stations node) refl is
  where
    by : (memory : Option (List ℕ)) → memory_of stations node ≡ memory
        → answer_by memory packet ≡ Some io → node < length stations
    by None none is = absurd cc
    by (Some memory) some is = has_place stations node memory some

-- ---- what each task leaves

reply_fit : (stations : List _) (node : ℕ) (packet : List ℕ) (answer : Option Io)
    → answer_at_node stations node packet ≡ answer → kept_of_node stations node ≡ None
    → HeadFit (kept_of_node (stations_met stations node packet))
    (length (stations_met stations node packet)) (task_behind node packet answer)
reply_fit stations node packet None is none = met_kept stations node packet node ∙ none
reply_fit stations node packet (Some io) is none = (
  answer_fit (memory_of stations node) node packet io is,
  met_kept stations node packet node ∙ none,
  subst (λ n. node < n) (sym (met_length stations node packet))
      (answer_place stations node packet io is),
)

turn_fit : (stations : List _) (node : ℕ) (kept : Option Line)
    → kept_of_node stations node ≡ kept → KeptFit node kept
    → HeadFit (kept_of_node (with_kept stations node None))
    (length (with_kept stations node None)) (first_of_turn node kept)
turn_fit stations node None is fit = none_kept stations node _ refl
turn_fit stations node (Some line) is fit = (
  fit,
  none_kept stations node _ refl,
  subst (λ n. node < n) (sym (length-set stations node _)) (kept_place stations node line is),
)

event_fit : (names : List (List ℕ)) (task : IoTask) (what : Happened) (s : IoState)
    → HeadFit (kept_of_node s.stations) (length s.stations) task → AllByRecursion RestFit s.tasks
    → ((n : ℕ) → KeptFit n (kept_of_node s.stations n))
    → IsFit (behind_event names task what s)
event_fit names (Carry line) what s head rest kept =
    record { tasks = tasks_fit s.stations s.tasks rest; kept = kept }
event_fit names (Ask node tid line) Answers.Took s head rest kept = record {
  tasks = tasks_fit (counted_on s.stations node tid) s.tasks rest;
  kept = λ n. subst (KeptFit n) (sym (counted_kept s.stations node tid n)) (kept n);
}
event_fit names (Ask node tid line) _ s head rest kept =
    record { tasks = tasks_fit s.stations s.tasks rest; kept = kept }
event_fit names Settle what s head rest kept =
    record { tasks = tasks_fit s.stations s.tasks rest; kept = kept }
event_fit names (Turn node) what s head rest kept =
    record { tasks = tasks_fit s.stations s.tasks rest; kept = kept }
event_fit names (Reply node line) Answers.Took s head rest kept =
    record { tasks = (head.1, rest); kept = kept }
event_fit names (Reply node line) _ s head rest kept = record {
  tasks = tasks_fit (with_kept s.stations node (Some line)) s.tasks rest;
  kept = kept_with s.stations node (Some line) head.0 kept;
}
event_fit names (Fetch node) (Answers.Left packet) s head rest kept = record {
  tasks = (
    reply_fit s.stations node packet (answer_at_node s.stations node packet) refl head,
    rest,
  );
  kept = λ n. subst (KeptFit n) (sym (met_kept s.stations node packet n)) (kept n);
}
event_fit names (Fetch node) Answers.Answered s head rest kept =
    record { tasks = (head, rest); kept = kept }
event_fit names (Fetch node) _ s head rest kept =
    record { tasks = tasks_fit s.stations s.tasks rest; kept = kept }
event_fit names Finish what s head rest kept =
    record { tasks = tasks_fit s.stations s.tasks rest; kept = kept }

fit_goes : {names : List (List ℕ)} {script : List Numbered} {s t : IoState}
    (goes : IoGoes names script s t) → IsFit s → IsFit t
fit_goes {names} {script} {s} (IoBegins line rest is to) fit =
    let left = subst (TasksFit (kept_of_node s.stations) (length s.stations)) is fit.tasks in
    subst IsFit (sym to) (record {
      tasks = tasks_fit (stations_by line s.stations) _
          (all-append RestFit (tasks_of (endpoints_of script) s.stations line) rest
          (line_fit (endpoints_of script) s.stations line) left.1);
      kept = λ n. subst (KeptFit n) (sym (begun_kept s.stations line n)) (fit.kept n);
    })
fit_goes {names} {script} {s} (IoTurns node rest is to) fit =
    let left = subst (TasksFit (kept_of_node s.stations) (length s.stations)) is fit.tasks in
    subst IsFit (sym to) (record {
      tasks = (
        turn_fit s.stations node (kept_of_node s.stations node) refl (fit.kept node),
        left.1,
      );
      kept = kept_with s.stations node None tt fit.kept;
    })
fit_goes {names} {script} {s} (IoActs task rest line block is event block_is sent to) fit =
    let left = subst (TasksFit (kept_of_node s.stations) (length s.stations)) is fit.tasks in
    subst IsFit (sym to)
    (event_fit names task (happened line block) (with_event (left_to_do s rest) line block)
    left.0 left.1 fit.kept)
fit_goes {names} {script} {s} (IoEnds rest is to) fit =
    let left = subst (TasksFit (kept_of_node s.stations) (length s.stations)) is fit.tasks in
    subst IsFit (sym to) (record { tasks = tasks_fit s.stations rest left.1; kept = fit.kept })

pub fit_comes : {names : List (List ℕ)} {script : List Numbered} {first s : IoState}
    (comes : IoComes names script first s) → IsFit first → IsFit s
fit_comes (Here is) fit = subst IsFit (sym is) fit
fit_comes (Further before comes goes) fit = fit_goes goes (fit_comes comes fit)

-- a station at first keeps nothing
pub new_none : (count n : ℕ) → kept_of_node (replicate count new_station) n ≡ None
new_none zero zero = refl
new_none zero (suc n) = refl
new_none (suc count) zero = refl
new_none (suc count) (suc n) = new_none count n

pub first_fit : (names : List (List ℕ)) (io : List NumberedIo) → IsFit (first_state names io)
first_fit names io = record {
  tasks = tasks_fit _ _ (lines io);
  kept = λ n. subst (KeptFit n) (sym (new_none (length names) n)) tt;
}
  where
    lines : (io : List NumberedIo)
        → AllByRecursion RestFit (map (λ (line : NumberedIo). Carry line.io) io ++ Finish ∷ [])
    lines [] = (tt, tt)
    lines (line ∷ io) = (tt, lines io)
