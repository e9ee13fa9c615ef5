-- What of the requests of a script stands between two tasks: the next is to be asked as its line
-- says, and its number is that of the node.
use Rattle.io_law.proofs.Prelude.{◌≡◌, ◌<◌, ◌+◌, ◌%◌, ℕ, Bool, true, false, eqb, List, [], ◌∷◌, ◌++◌, All, length, map, Option, Some, None, refl, sym, ap, ◌∙◌, arith, if◌then◌else◌, slice_set, AllByRecursion, get_or, get_or-map, map-set_same, eqb-true, eqb-false, length-set, get_or-set_same, get_or-set_other, All-cons, All-append, All-map, Line, Network, Item, IoLine, Memory, NRead, NWrite, NWriteR, SWrite, Round, new_station, station_at, next_tid_of, memory_of, counted_on, stations_after, stations_met, IoTask, Carry, Ask, Settle, Turn, sends_io, tasks_of, stations_by, IoState, IsSentBy, IoRequest, io_request, io_request_of, IoAsking, counts_with, next_number_of, name_in_ask, AreSent}
use Rattle.io_packets.specs.declared.io.Io.TheVariants as Ios

-- ---- the number of the next request of a node

tid_map : (stations : List _) (n : ℕ)
    → next_tid_of stations n ≡ get_or (map (λ x. next_tid_of (x ∷ []) 0) stations) n 0
tid_map stations n = sym (get_or-map (λ x. next_tid_of (x ∷ []) 0) stations n new_station)

-- other things are changed
pub same_tid : (stations : List _) (i : ℕ) (x : _) (n : ℕ)
    → next_tid_of (x ∷ []) 0 ≡ next_tid_of stations i
    → next_tid_of (slice_set stations i x) n ≡ next_tid_of stations n
same_tid stations i x n is =
    tid_map (slice_set stations i x) n
    ∙ ap (λ l. get_or l n 0)
    (map-set_same (λ x. next_tid_of (x ∷ []) 0) stations i x new_station is)
    ∙ sym (tid_map stations n)

counted_tid : (stations : List _) (at tid n : ℕ) → at < length stations
    → next_tid_of (counted_on stations at (Some tid)) n
    ≡ (if eqb at n then (tid + 1) % 256 else next_tid_of stations n)
counted_tid stations at tid n within = by (eqb at n) refl
  where
    by : (b : Bool) → eqb at n ≡ b
        → next_tid_of (counted_on stations at (Some tid)) n
        ≡ (if b then (tid + 1) % 256 else next_tid_of stations n)
    by true same =
        ap (λ m. next_tid_of (counted_on stations at (Some tid)) m) (sym (eqb-true at n same))
        ∙ ap (λ x. next_tid_of (x ∷ []) 0) (get_or-set_same stations at
        (record (station_at stations at) { next_tid = (tid + 1) % 256 }) new_station within)
    by false other =
        ap (λ x. next_tid_of (x ∷ []) 0)
        (get_or-set_other stations at n
        (record (station_at stations at) { next_tid = (tid + 1) % 256 }) new_station
        (λ same. eqb-false at n other (sym same)))

pub begun_tid : (stations : List _) (line : IoLine) (n : ℕ)
    → next_tid_of (stations_by line stations) n ≡ next_tid_of stations n
begun_tid stations (Memory node bytes) n = same_tid stations node _ n refl
begun_tid stations _ n = refl

pub begun_long : (stations : List _) (line : IoLine)
    → length (stations_by line stations) ≡ length stations
begun_long stations (Memory node bytes) = length-set stations node _
begun_long stations _ = refl

pub met_tid : (stations : List _) (node : ℕ) (packet : List ℕ) (n : ℕ)
    → next_tid_of (stations_met stations node packet) n ≡ next_tid_of stations n
met_tid stations node packet n = by (memory_of stations node)
  where
    by : (memory : Option (List ℕ))
        → next_tid_of (stations_after stations node packet memory) n ≡ next_tid_of stations n
    by None = refl
    by (Some memory) = same_tid stations node _ n refl

pub counted_long : (stations : List _) (node : ℕ) (tid : Option ℕ)
    → length (counted_on stations node tid) ≡ length stations
counted_long stations node None = refl
counted_long stations node (Some tid) = length-set stations node _

-- each node's next number is what its requests so far make it
abbrev NumbersAre : IoState → (ℕ → ℕ) → Type 0
NumbersAre s counts = (n : ℕ) → next_tid_of s.stations n ≡ next_number_of counts n

abbrev pub TidIs : ℕ → Option ℕ → Type 0
TidIs number None = Unit {0}
TidIs number (Some tid) = tid ≡ number

one_more : (count tid : ℕ) → tid ≡ count % 256 → (tid + 1) % 256 ≡ (count + 1) % 256
one_more count tid is = omega (arith, is)

pub counted_numbers : (s t : IoState) (counts : ℕ → ℕ) (at : ℕ) (tid : Option ℕ)
    → t.stations ≡ counted_on s.stations at tid → at < length s.stations
    → TidIs (next_number_of counts at) tid → NumbersAre s counts
    → NumbersAre t (counts_with at tid counts)
counted_numbers s t counts at None same within is all n = ap (λ l. next_tid_of l n) same ∙ all n
counted_numbers s t counts at (Some tid) same within is all n =
    ap (λ l. next_tid_of l n) same
    ∙ (counted_tid s.stations at tid n within ∙ by (eqb at n) refl)
  where
    by : (b : Bool) → eqb at n ≡ b
        → (if b then (tid + 1) % 256 else next_tid_of s.stations n)
        ≡ (if b then counts n + 1 else counts n) % 256
    by true eq = one_more (counts n) tid (is ∙ ap (λ m. counts m % 256) (eqb-true at n eq))
    by false other = all n

-- ---- what is to be done

-- the request that is asked next
abbrev pub head_asks : List IoTask → Option IoRequest
head_asks (Ask node tid line ∷ rest) = Some (io_request node tid line)
head_asks _ = None

abbrev pub IsNoAsk : IoTask → Type 0
IsNoAsk (Ask node tid line) = ⊥
IsNoAsk _ = Unit {0}

-- none is asked later
abbrev pub RestAsksNot : List IoTask → Type 0
RestAsksNot [] = Unit {0}
RestAsksNot (task ∷ rest) = AllByRecursion IsNoAsk rest

-- the lines that are to be begun
abbrev pub carried : List IoTask → List IoLine
carried [] = []
carried (Carry line ∷ rest) = line ∷ carried rest
carried (_ ∷ rest) = carried rest

-- who asks is one of so many nodes
abbrev pub IsAskOf : ℕ → IoLine → Type 0
IsAskOf count (Memory node bytes) = Unit {0}
IsAskOf count (NRead node dest addr size) = node < count
IsAskOf count (NWrite node dest addr load) = node < count
IsAskOf count (NWriteR node dest addr load) = node < count
IsAskOf count (SWrite node dest addr load) = node < count
IsAskOf count Round = Unit {0}

abbrev pub CarriesWithin : ℕ → IoTask → Type 0
CarriesWithin count (Carry line) = IsAskOf count line
CarriesWithin count _ = Unit {0}

abbrev pub NextIs : (ℕ → ℕ) → ℕ → Option IoRequest → Type 0
NextIs counts count None = Unit {0}
NextIs counts count (Some request) =
    (request.node < count) × TidIs (next_number_of counts request.node) request.tid

pub rest_none : (tasks : List IoTask) → AllByRecursion IsNoAsk tasks → head_asks tasks ≡ None
rest_none [] all = refl
rest_none (Ask node tid line ∷ rest) all = absurd all.0
rest_none (_ ∷ rest) all = refl

pub rest_on : (tasks : List IoTask) → AllByRecursion IsNoAsk tasks → RestAsksNot tasks
rest_on [] all = tt
rest_on (task ∷ rest) all = all.1

-- ---- a line is begun

turns_ask_not : (nodes : List ℕ) (rest : List IoTask) → AllByRecursion IsNoAsk rest
    → AllByRecursion IsNoAsk (map Turn nodes ++ rest)
turns_ask_not [] rest all = all
turns_ask_not (node ∷ nodes) rest all = (tt, turns_ask_not nodes rest all)

turns_carry_none : (nodes : List ℕ) (rest : List IoTask)
    → carried (map Turn nodes ++ rest) ≡ carried rest
turns_carry_none [] rest = refl
turns_carry_none (node ∷ nodes) rest = turns_carry_none nodes rest

module _ (endpoints : List ℕ) (s : IoState) (counts : ℕ → ℕ) (rest : List IoTask) where
  pub line_next : (line : IoLine) → NumbersAre s counts → AllByRecursion IsNoAsk rest
      → head_asks (tasks_of endpoints s.stations line ++ rest)
      ≡ io_request_of (next_number_of counts) line
  line_next (Memory node bytes) numbers all = rest_none rest all
  line_next (NRead node dest addr size) numbers all =
      ap (λ (n : ℕ). Some (io_request node (Some n)
      (sends_io node 1 dest (Ios.NRead n addr size)))) (numbers node)
  line_next (NWriteR node dest addr load) numbers all =
      ap (λ (n : ℕ). Some (io_request node (Some n)
      (sends_io node 1 dest (Ios.NWriteR n addr load)))) (numbers node)
  line_next _ numbers all = refl

  pub line_rest : (line : IoLine) → AllByRecursion IsNoAsk rest
      → RestAsksNot (tasks_of endpoints s.stations line ++ rest)
  line_rest (Memory node bytes) all = rest_on rest all
  line_rest Round all = turns_ask_not endpoints rest all
  line_rest _ all = all

  pub line_carries : (line : IoLine)
      → carried (tasks_of endpoints s.stations line ++ rest) ≡ carried rest
  line_carries Round = turns_carry_none endpoints rest
  line_carries _ = refl

  pub line_within : (count : ℕ) (line : IoLine) → All (CarriesWithin count) rest
      → All (CarriesWithin count) (tasks_of endpoints s.stations line ++ rest)
  line_within count (Memory node bytes) all = all
  line_within count Round all =
      All-cons (CarriesWithin count) Settle (map Turn endpoints ++ rest) tt
      (All-append (CarriesWithin count) (map Turn endpoints) rest
      (All-map (CarriesWithin count) Turn endpoints (λ i d within. tt)) all)
  line_within count _ all = All-cons (CarriesWithin count) _ rest tt all

pub line_due : (counts : ℕ → ℕ) (count : ℕ) (line : IoLine) → IsAskOf count line
    → NextIs counts count (io_request_of (next_number_of counts) line)
line_due counts count (NRead node dest addr size) within = (within, refl)
line_due counts count (NWrite node dest addr load) within = (within, tt)
line_due counts count (NWriteR node dest addr load) within = (within, refl)
line_due counts count (SWrite node dest addr load) within = (within, tt)
line_due counts count _ within = tt

-- ---- what stands between two tasks

-- Of these lines of a script the first were begun, as the lines told say; and what was asked, and
-- what is to be asked, is as they say.
pub record IsAsking (all : List IoLine) (net : Network) (count : ℕ) (asking : IoAsking)
    (begun : List IoLine) (named : List (ℕ × Option ℕ)) (items : List Item)
    (s : IoState) (tasks : List IoTask) : Type 0 where
  pub long : length s.stations ≡ count
  pub numbers : NumbersAre s asking.counts
  pub next : head_asks tasks ≡ asking.next
  pub due : NextIs asking.counts count asking.next
  pub rest : RestAsksNot tasks
  pub within : All (CarriesWithin count) tasks
  pub in_order : begun ++ carried tasks ≡ all
  pub named_so : named ≡ map name_in_ask asking.asked
  pub sent : AreSent net asking.asked items

-- ---- sending

pub sent_append : (net : Network) (requests : List IoRequest) (items : List Item)
    (more : List IoRequest) (others : List Item) → AreSent net requests items
    → AreSent net more others → AreSent net (requests ++ more) (items ++ others)
sent_append net [] [] more others all rest = rest
sent_append net [] (item ∷ items) more others all rest = absurd all
sent_append net (request ∷ requests) [] more others all rest = absurd all
sent_append net (request ∷ requests) (item ∷ items) more others all rest =
    (all.0, sent_append net requests items more others all.1 rest)

pub one_sent : (net : Network) (node : ℕ) (tid : Option ℕ) (line : Line) (items : List Item)
    → length items ≡ 1 → AllByRecursion (IsSentBy net line) items
    → AreSent net (io_request node tid line ∷ []) items
one_sent net node tid line [] one all = absurd (omega (arith, one))
one_sent net node tid line (item ∷ []) one all = (all.0, tt)
one_sent net node tid line (item ∷ more ∷ items) one all = absurd (omega (arith, one))

-- what a task that asks has sent
abbrev pub AskSends : Network → IoTask → List Item → Type 0
AskSends net (Ask node tid line) items = AllByRecursion (IsSentBy net line) items
AskSends net _ items = Unit {0}
