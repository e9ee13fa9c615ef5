-- What one task does with the requests of a script.
use Rattle.io_law.proofs.Prelude.{◌≡◌, ◌<◌, ℕ, List, [], ◌∷◌, ◌++◌, All, length, map, Option, Some, None, refl, sym, ap, ◌∙◌, subst, append-nil, append_assoc, AllByRecursion, length-set, map-append, All-cons, All-head, All-tail, Line, Network, Item, Happened, Io, IoLine, next_tid_of, with_kept, counted_on, answer_at_node, stations_met, IoTask, Carry, Ask, Settle, Turn, Reply, Fetch, Finish, tasks_of, stations_by, task_event, task_behind, IoState, first_of_turn, behind_event, met_length, IoTold, ToldBegun, told_behind, IsSentBy, asked_behind, IoRequest, io_request, IoAsking, counts_with, next_number_of, as_list, asking_by, begun_in, ask_in, name_in_ask, AreSent}
use Rattle.fabric_ports.specs.declared.answers.Happened.TheVariants as Answers
use Rattle.io_law.proofs.Asking.{same_tid, begun_tid, begun_long, met_tid, counted_long, TidIs, counted_numbers, head_asks, RestAsksNot, carried, CarriesWithin, NextIs, rest_none, rest_on, line_next, line_rest, line_carries, line_within, line_due, IsAsking, sent_append, one_sent, AskSends}

-- ---- one task

-- what a line told, if there is one, says
abbrev pub asking_with : IoAsking → Option IoTold → IoAsking
asking_with asking None = asking
asking_with asking (Some line) = asking_by asking line

abbrev pub begun_with : Option IoTold → List IoLine
begun_with None = []
begun_with (Some line) = begun_in line

abbrev pub asks_with : Option IoTold → List (ℕ × Option ℕ)
asks_with None = []
asks_with (Some line) = ask_in line

module _ (all : List IoLine) (net : Network) (count : ℕ) (asking : IoAsking)
    (begun : List IoLine) (named : List (ℕ × Option ℕ)) (items : List Item) where
  abbrev Was : IoState → List IoTask → Type 0
  Was s tasks = IsAsking all net count asking begun named items s tasks

  -- other things of a state do not matter
  was_at : (s t : IoState) (tasks : List IoTask) → t.stations ≡ s.stations → Was s tasks
      → Was t tasks
  was_at s t tasks same was = record {
    long = ap (λ l. length l) same ∙ was.long;
    numbers = λ n. ap (λ l. next_tid_of l n) same ∙ was.numbers n;
    next = was.next;
    due = was.due;
    rest = was.rest;
    within = was.within;
    in_order = was.in_order;
    named_so = was.named_so;
    sent = was.sent;
  }

  pub begins_asking : (endpoints : List ℕ) (s t : IoState) (line : IoLine) (rest : List IoTask)
      → t.stations ≡ stations_by line s.stations → Was s (Carry line ∷ rest)
      → IsAsking all net count (asking_by asking (ToldBegun line)) (begun ++ line ∷ [])
      (named ++ []) (items ++ []) t (tasks_of endpoints s.stations line ++ rest)
  begins_asking endpoints s t line rest same was = record {
    long = ap (λ l. length l) same ∙ (begun_long s.stations line ∙ was.long);
    numbers = λ n. ap (λ l. next_tid_of l n) same
        ∙ (begun_tid s.stations line n ∙ was.numbers n);
    next = line_next endpoints s asking.counts rest line was.numbers was.rest;
    due = line_due asking.counts count line
        (All-head (CarriesWithin count) (Carry line) rest was.within);
    rest = line_rest endpoints s asking.counts rest line was.rest;
    within = line_within endpoints s asking.counts rest count line
        (All-tail (CarriesWithin count) (Carry line) rest was.within);
    in_order = ap (λ l. (begun ++ line ∷ []) ++ l)
        (line_carries endpoints s asking.counts rest line)
        ∙ (append_assoc begun (line ∷ []) (carried rest) ∙ was.in_order);
    named_so = append-nil named ∙ was.named_so;
    sent = subst (AreSent net asking.asked) (sym (append-nil items)) was.sent;
  }

  -- nothing is asked, and nothing was to be
  pub quiet : (old : IoState) (before : List IoTask) (now : IoState) (tasks : List IoTask)
      → Was old before → None ≡ asking.next → length now.stations ≡ length old.stations
      → ((n : ℕ) → next_tid_of now.stations n ≡ next_tid_of old.stations n)
      → head_asks tasks ≡ None → RestAsksNot tasks → All (CarriesWithin count) tasks
      → carried tasks ≡ carried before
      → IsAsking all net count asking (begun ++ []) (named ++ []) (items ++ []) now tasks
  quiet old before now tasks was none long same head rest within carries = record {
    long = long ∙ was.long;
    numbers = λ n. same n ∙ was.numbers n;
    next = head ∙ none;
    due = was.due;
    rest = rest;
    within = within;
    in_order = ap (λ l. l ++ carried tasks) (append-nil begun)
        ∙ (ap (λ l. begun ++ l) carries ∙ was.in_order);
    named_so = append-nil named ∙ was.named_so;
    sent = subst (AreSent net asking.asked) (sym (append-nil items)) was.sent;
  }

  pub turns_asking : (s t : IoState) (node : ℕ) (kept : Option Line) (rest : List IoTask)
      → t.stations ≡ with_kept s.stations node None → Was s (Turn node ∷ rest)
      → IsAsking all net count asking (begun ++ []) (named ++ []) (items ++ []) t
      (first_of_turn node kept ∷ rest)
  turns_asking s t node kept rest same was =
      let long : length t.stations ≡ length s.stations =
      ap (λ l. length l) same ∙ length-set s.stations node _ in
      let tids : (n : ℕ) → next_tid_of t.stations n ≡ next_tid_of s.stations n =
      λ n. ap (λ l. next_tid_of l n) same ∙ same_tid s.stations node _ n refl in
      by kept long tids
    where
      by : (kept : Option Line) → length t.stations ≡ length s.stations
          → ((n : ℕ) → next_tid_of t.stations n ≡ next_tid_of s.stations n)
          → IsAsking all net count asking (begun ++ []) (named ++ []) (items ++ []) t
          (first_of_turn node kept ∷ rest)
      by None long tids =
          quiet s (Turn node ∷ rest) t (Fetch node ∷ rest) was was.next long tids refl was.rest
          (All-cons (CarriesWithin count) (Fetch node) rest tt
          (All-tail (CarriesWithin count) (Turn node) rest was.within)) refl
      by (Some line) long tids =
          quiet s (Turn node ∷ rest) t (Reply node line ∷ rest) was was.next long tids refl
          was.rest
          (All-cons (CarriesWithin count) (Reply node line) rest tt
          (All-tail (CarriesWithin count) (Turn node) rest was.within)) refl

  -- a request was taken
  took_asking : (s t : IoState) (node : ℕ) (tid : Option ℕ) (line : Line) (rest : List IoTask)
      (taken : List Item) → t.stations ≡ counted_on s.stations node tid
      → Was s (Ask node tid line ∷ rest) → length taken ≡ 1
      → AllByRecursion (IsSentBy net line) taken
      → IsAsking all net count (record {
        counts = counts_with node tid asking.counts;
        asked = asking.asked ++ as_list asking.next;
        next = None;
      }) (begun ++ []) (named ++ (node, tid) ∷ []) (items ++ taken) t rest
  took_asking s t node tid line rest taken same was one sends =
      let mine = io_request node tid line in
      let due : (node < count) × TidIs (next_number_of asking.counts node) tid =
      subst (NextIs asking.counts count) (sym was.next) was.due in
      record {
        long = ap (λ l. length l) same ∙ (counted_long s.stations node tid ∙ was.long);
        numbers = counted_numbers s t asking.counts node tid same
            (subst (λ c. node < c) (sym was.long) due.0) due.1 was.numbers;
        next = rest_none rest was.rest;
        due = tt;
        rest = rest_on rest was.rest;
        within = All-tail (CarriesWithin count) (Ask node tid line) rest was.within;
        in_order = ap (λ l. l ++ carried rest) (append-nil begun) ∙ was.in_order;
        named_so = ap (λ l. l ++ (node, tid) ∷ []) was.named_so
            ∙ (sym (map-append name_in_ask asking.asked (mine ∷ []))
            ∙ ap (λ (o : Option IoRequest). map name_in_ask (asking.asked ++ as_list o))
            was.next);
        sent = subst (λ (o : Option IoRequest).
            AreSent net (asking.asked ++ as_list o) (items ++ taken)) was.next
            (sent_append net asking.asked items (mine ∷ []) taken was.sent
            (one_sent net node tid line taken one sends));
      }

  -- there was no room for it
  full_asking : (s t : IoState) (node : ℕ) (tid : Option ℕ) (line : Line) (rest : List IoTask)
      → t.stations ≡ s.stations → Was s (Ask node tid line ∷ rest)
      → IsAsking all net count (record asking { next = None }) (begun ++ []) (named ++ [])
      (items ++ []) t rest
  full_asking s t node tid line rest same was = record {
    long = ap (λ l. length l) same ∙ was.long;
    numbers = λ n. ap (λ l. next_tid_of l n) same ∙ was.numbers n;
    next = rest_none rest was.rest;
    due = tt;
    rest = rest_on rest was.rest;
    within = All-tail (CarriesWithin count) (Ask node tid line) rest was.within;
    in_order = ap (λ l. l ++ carried rest) (append-nil begun) ∙ was.in_order;
    named_so = append-nil named ∙ was.named_so;
    sent = subst (AreSent net asking.asked) (sym (append-nil items)) was.sent;
  }

  -- a packet came to a node
  comes_asking : (s t : IoState) (node : ℕ) (packet : List ℕ) (answer : Option Io)
      (rest : List IoTask) → t.stations ≡ stations_met s.stations node packet
      → Was s (Fetch node ∷ rest)
      → IsAsking all net count asking (begun ++ []) (named ++ []) (items ++ []) t
      (task_behind node packet answer ∷ rest)
  comes_asking s t node packet answer rest same was =
      by answer (ap (λ l. length l) same ∙ met_length s.stations node packet)
      (λ n. ap (λ l. next_tid_of l n) same ∙ met_tid s.stations node packet n)
    where
      by : (answer : Option Io) → length t.stations ≡ length s.stations
          → ((n : ℕ) → next_tid_of t.stations n ≡ next_tid_of s.stations n)
          → IsAsking all net count asking (begun ++ []) (named ++ []) (items ++ []) t
          (task_behind node packet answer ∷ rest)
      by None long tids =
          quiet s (Fetch node ∷ rest) t (Fetch node ∷ rest) was was.next long tids refl was.rest
          was.within refl
      by (Some io) long tids =
          quiet s (Fetch node ∷ rest) t (task_behind node packet (Some io) ∷ rest) was was.next
          long tids refl was.rest
          (All-cons (CarriesWithin count) (task_behind node packet (Some io)) rest tt
          (All-tail (CarriesWithin count) (Fetch node) rest was.within)) refl

  pub event_asking : (names : List (List ℕ)) (task : IoTask) (line : Line) (what : Happened)
      (taken : List Item) (old s : IoState) → Was s (task ∷ s.tasks)
      → task_event task ≡ Some line → (what ≡ Answers.Took → length taken ≡ 1)
      → AskSends net task taken
      → IsAsking all net count (asking_with asking (told_behind old task what))
      (begun ++ begun_with (told_behind old task what))
      (named ++ asks_with (told_behind old task what)) (items ++ asked_behind task what taken)
      (behind_event names task what s) (behind_event names task what s).tasks
  event_asking names (Ask node tid own) line Answers.Took taken old s was event one sends =
      took_asking s _ node tid own s.tasks taken refl was (one refl) sends
  event_asking names (Ask node tid own) line _ taken old s was event one sends =
      full_asking s _ node tid own s.tasks refl was
  event_asking names Settle line what taken old s was event one sends =
      quiet s (Settle ∷ s.tasks) s s.tasks was was.next refl (λ n. refl)
      (rest_none s.tasks was.rest) (rest_on s.tasks was.rest)
      (All-tail (CarriesWithin count) Settle s.tasks was.within) refl
  event_asking names (Reply node own) line Answers.Took taken old s was event one sends =
      quiet s (Reply node own ∷ s.tasks) _ (Fetch node ∷ s.tasks) was was.next
      refl (λ n. refl) refl was.rest
      (All-cons (CarriesWithin count) (Fetch node) s.tasks tt
      (All-tail (CarriesWithin count) (Reply node own) s.tasks was.within)) refl
  event_asking names (Reply node own) line _ taken old s was event one sends =
      quiet s (Reply node own ∷ s.tasks) _ s.tasks was was.next
      (length-set s.stations node _) (λ n. same_tid s.stations node _ n refl)
      (rest_none s.tasks was.rest) (rest_on s.tasks was.rest)
      (All-tail (CarriesWithin count) (Reply node own) s.tasks was.within) refl
  event_asking names (Fetch node) line (Answers.Left packet) taken old s was event one sends =
      comes_asking s _ node packet (answer_at_node s.stations node packet) s.tasks refl was
  event_asking names (Fetch node) line Answers.Answered taken old s was event one sends =
      quiet s (Fetch node ∷ s.tasks) _ (Fetch node ∷ s.tasks) was was.next
      refl (λ n. refl) refl was.rest was.within refl
  event_asking names (Fetch node) line _ taken old s was event one sends =
      quiet s (Fetch node ∷ s.tasks) s s.tasks was was.next refl (λ n. refl)
      (rest_none s.tasks was.rest) (rest_on s.tasks was.rest)
      (All-tail (CarriesWithin count) (Fetch node) s.tasks was.within) refl
  event_asking names _ line what taken old s was event one sends = absurd cc

  -- an event, from a state with the same stations
  pub event_from : (names : List (List ℕ)) (task : IoTask) (line : Line) (what : Happened)
      (taken : List Item) (old s : IoState) → s.stations ≡ old.stations
      → Was old (task ∷ s.tasks) → task_event task ≡ Some line
      → (what ≡ Answers.Took → length taken ≡ 1) → AskSends net task taken
      → IsAsking all net count (asking_with asking (told_behind old task what))
      (begun ++ begun_with (told_behind old task what))
      (named ++ asks_with (told_behind old task what)) (items ++ asked_behind task what taken)
      (behind_event names task what s) (behind_event names task what s).tasks
  event_from names task line what taken old s same was event one sends =
      event_asking names task line what taken old s
      (was_at old s (task ∷ s.tasks) same was) event one sends

  -- all is over
  pub ends_asking : (s t : IoState) (rest : List IoTask) → t.stations ≡ s.stations
      → Was s (Finish ∷ rest)
      → IsAsking all net count asking (begun ++ []) (named ++ []) (items ++ []) t rest
  ends_asking s t rest same was =
      quiet s (Finish ∷ rest) t rest was was.next (ap (λ l. length l) same)
      (λ n. ap (λ l. next_tid_of l n) same) (rest_none rest was.rest) (rest_on rest was.rest)
      (All-tail (CarriesWithin count) Finish rest was.within) refl
