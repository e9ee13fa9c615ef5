-- The script that a number stands for passes, whatever the number.
use Rattle.std.proofs.Common.{◌≡◌, ℕ, ◌+◌, ◌-◌, ◌*◌, ◌/◌, ◌%◌, ◌<◌, ◌≤◌, zero-add, nat_lt, not, ◌&&◌, zero, suc, Bool, true, false, ◌==◌, ◌||◌, List, [], ◌∷◌, ◌++◌, map, length, All, refl, sym, ap, ◌∙◌, subst, arith, if◌then◌else◌}
use Rattle.std.specs.List.{AllByRecursion}
use Rattle.std.proofs.lemmas.Bool.{le-ltb, eqb-true}
use Rattle.std.proofs.lemmas.List.Elements.{All-from_recursion}
use Rattle.fabric_script.specs.declared.lines.Line.{Line}
use Rattle.fabric_script.specs.declared.lines.Line.TheVariants.{Endpoint, Switch, Link, Buffers, Route, Default, Lock, Large, Credits, Send, Read, Write, Send16, Read16, Write16, Pump, Deliver, Alter, Insert, Erase, Timeout, Settle, Move, Collect, Run}
use Rattle.fabric_script.specs.declared.lines.Numbered.{Numbered}
use Rattle.fabric_script.specs.declared.ports.PortRef.{PortRef}
use Rattle.fabric_script.specs.Lines.{new_name}
use Rattle.fabric_script.specs.Known.{Known, nothing, cost_of, known_after, ports_of, is_known_switch, is_linked}
use Rattle.fabric_script.specs.Reading.{MayBe, IsFree}
use Rattle.fabric_script.specs.Refusals.{is_bad_length}
use Rattle.fabric_script.specs.Scripts.{PassesFrom, ScriptPasses}
use Rattle.fabric_script.specs.Soak.{soak_names, soak_set_up, soak_events, soak_values, soak_lines, next_number, numbers_behind, value_of_number, round_behind, soak_step_lines, times, round_lines, steps_from, last_rounds, numbered_from}
use Rattle.fabric_script.specs.Ports.{port_at}
use Rattle.fabric_script.proofs.SoakLaws.{numbered-append}
use Rattle.fabric_script.proofs.SoakSetUp.{soak_nodes, soak_links, soak_known, free, few_ports, passes_set_up}

-- ---- the events

-- what an event of the script is like
abbrev IsSoakEvent : Line → Type 0
IsSoakEvent (Send node prio ftype dest hex) = (node < 4) × (prio < 4) × (ftype ≡ 15) × (dest < 4)
    × (length hex ≡ 2) × All (λ b. b < 256) hex
IsSoakEvent (Pump port n) = (n' : ℕ) × (n' < 4) × (port ≡ port_at n' 0) × (n ≡ 1)
IsSoakEvent (Erase port place n) = (n' : ℕ) × (n' < 4) × (port ≡ port_at n' 0) × (place ≡ 0)
    × (n ≡ 1)
IsSoakEvent (Collect node) = node < 4
IsSoakEvent (Run n) = n ≡ 1
IsSoakEvent _ = ⊥

-- what lines cost
abbrev total : List Line → ℕ
total [] = 0
total (line ∷ lines) = cost_of soak_links line + total lines

total-append : (xs ys : List Line) → total (xs ++ ys) ≡ total xs + total ys
total-append [] ys = sym (zero-add (total ys))
total-append (x ∷ xs) ys = let rest = total-append xs ys in omega (arith, rest)

by_four : (P : ℕ → Type 0) → P 0 → P 1 → P 2 → P 3 → (n : ℕ) → n < 4 → P n
by_four P a b d e zero less = a
by_four P a b d e (suc zero) less = b
by_four P a b d e (suc (suc zero)) less = d
by_four P a b d e (suc (suc (suc zero))) less = e
by_four P a b d e (suc (suc (suc (suc n)))) less = absurd (omega (arith, less))

endpoint_is : (n : ℕ) → n < 4 → is_known_switch soak_nodes n ≡ false
endpoint_is = by_four (λ n. is_known_switch soak_nodes n ≡ false) refl refl refl refl

one_port : (n : ℕ) → n < 4 → 0 < ports_of soak_nodes n
one_port = by_four (λ n. 0 < ports_of soak_nodes n) (few_ports 0 0 refl) (few_ports 1 0 refl)
    (few_ports 2 0 refl) (few_ports 3 0 refl)

linked_is : (n : ℕ) → n < 4 → not (is_linked soak_links (port_at n 0)) ≡ false
linked_is = by_four (λ n. not (is_linked soak_links (port_at n 0)) ≡ false) refl refl refl refl

few_is : (cost : ℕ) → cost ≤ 100000 → nat_lt 100000 cost ≡ false
few_is cost few = le-ltb 100000 cost few

good_length : (hex : List ℕ) (ftype : ℕ) → length hex ≡ 2 → ftype ≡ 15
    → is_bad_length false ftype (length hex) ≡ false
good_length hex ftype two is = ap (λ n. is_bad_length false ftype n) two
    ∙ ap (λ f. is_bad_length false f 2) is

-- behind an event an event has its place
placed : (begun : Bool) → (begun && false) ≡ false
placed true = refl
placed false = refl

port_fits : (known : Known) (port : PortRef) (n : ℕ) → n < 4 → port ≡ port_at n 0
    → (port.node < 6) × (port.port < 16) × (port.port < ports_of soak_nodes port.node)
port_fits known port n less is =
    subst (λ (p : PortRef). (p.node < 6) × (p.port < 16) × (p.port < ports_of soak_nodes p.node))
    (sym is)
    (omega (arith, less), omega arith, one_port n less)

port_linked : (port : PortRef) (n : ℕ) → n < 4 → port ≡ port_at n 0
    → not (is_linked soak_links port) ≡ false
port_linked port n less is =
    subst (λ p. not (is_linked soak_links p) ≡ false) (sym is) (linked_is n less)

begun_too : (begun : Bool) → true ≡ (begun || true)
begun_too true = refl
begun_too false = refl

-- an event that may be said and that no reason hits, and those behind it
with_event : (begun : Bool) (cost : ℕ) (line : Line) → MayBe (soak_known begun cost) [] line
    → (known_after (soak_known begun cost) [] line
    ≡ soak_known (begun || true) (cost + cost_of soak_links line))
    → new_name soak_names line ≡ [] → IsFree (soak_known begun cost) line
    → (number : ℕ) (lines : List Numbered)
    → PassesFrom (soak_known true (cost + cost_of soak_links line)) soak_names lines
    → PassesFrom (soak_known begun cost) soak_names
    (record { number = number; line = line } ∷ lines)
with_event begun cost line may after unnamed frees number lines rest = (
  subst (λ new. MayBe (soak_known begun cost) new line) (sym unnamed) may,
  frees,
  subst (λ new. PassesFrom (known_after (soak_known begun cost) new line) soak_names lines)
      (sym unnamed)
      (subst (λ known. PassesFrom known soak_names lines) (sym after)
      (subst (λ x. PassesFrom (soak_known x (cost + cost_of soak_links line)) soak_names lines)
      (begun_too begun) rest)),
)

passes_events : (number : ℕ) (lines : List Line) (begun : Bool) (cost : ℕ)
    → AllByRecursion IsSoakEvent lines → cost + total lines ≤ 100000
    → PassesFrom (soak_known begun cost) soak_names (numbered_from number lines)
unfolding numbered_from
passes_events number [] begun cost all few = refl
passes_events number (Send node prio ftype dest hex ∷ lines) begun cost all few =
    let is = all.0 in
    let a = is.0 in
    let b = is.1 in
    let f = is.2 in
    let d = is.3 in
    let known = soak_known begun cost in
    let line = Send node prio ftype dest hex in
    with_event begun cost line
    (record {
      fit = (
        omega (arith, a),
        (
          (omega arith, omega (arith, b)),
          ((omega arith, omega (arith, f)), ((omega arith, omega (arith, d)), (is.5, tt))),
        ),
      );
      next = tt;
    }) refl refl
    (free known line refl refl refl (good_length hex ftype is.4 is.2) (endpoint_is node a)
    (placed begun) refl
    (few_is (cost + 1) (omega (arith, few))))
    number (numbered_from (suc number) lines)
    (passes_events (suc number) lines true (cost + 1) all.1 (omega (arith, few)))
passes_events number (Pump port n ∷ lines) begun cost all few =
    let is = all.0 in
    let known = soak_known begun cost in
    let line = Pump port n in
    let one = is.3 in
    with_event begun cost line (record {
      fit = (port_fits known port is.0 is.1 is.2, ((omega (arith, one), omega (arith, one)), tt));
      next = tt;
    }) refl refl
    (free known line refl refl refl refl refl (placed begun) (port_linked port is.0 is.1 is.2)
    (few_is (cost + n) (omega (arith, few))))
    number (numbered_from (suc number) lines)
    (passes_events (suc number) lines true (cost + n) all.1 (omega (arith, few)))
passes_events number (Erase port place n ∷ lines) begun cost all few =
    let is = all.0 in
    let known = soak_known begun cost in
    let line = Erase port place n in
    let first = is.3 in
    let one = is.4 in
    with_event begun cost line (record {
      fit = (
        port_fits known port is.0 is.1 is.2,
        (
          (omega (arith, first), omega (arith, first)),
          ((omega (arith, one), omega (arith, one)), tt),
        ),
      );
      next = tt;
    }) refl refl
    (free known line refl refl refl refl refl (placed begun) (port_linked port is.0 is.1 is.2)
    (few_is (cost + 1) (omega (arith, few))))
    number (numbered_from (suc number) lines)
    (passes_events (suc number) lines true (cost + 1) all.1 (omega (arith, few)))
passes_events number (Collect node ∷ lines) begun cost all few =
    let a = all.0 in
    let known = soak_known begun cost in
    with_event begun cost (Collect node) (record { fit = (omega (arith, a), tt); next = tt }) refl
    refl
    (free known (Collect node) refl refl refl refl (endpoint_is node a) (placed begun) refl
    (few_is (cost + 1) (omega (arith, few))))
    number (numbered_from (suc number) lines)
    (passes_events (suc number) lines true (cost + 1) all.1 (omega (arith, few)))
passes_events number (Run n ∷ lines) begun cost all few =
    let one = all.0 in
    let known = soak_known begun cost in
    with_event begun cost (Run n)
    (record { fit = ((omega (arith, one), omega (arith, one)), tt); next = tt }) refl refl
    (free known (Run n) refl refl refl refl refl (placed begun) refl
    (few_is (cost + cost_of soak_links (Run n)) (omega (arith, few))))
    number (numbered_from (suc number) lines)
    (passes_events (suc number) lines true (cost + cost_of soak_links (Run n)) all.1
    (omega (arith, few)))
passes_events number (Endpoint name id ∷ lines) begun cost all few = absurd all.0
passes_events number (Switch name ports ∷ lines) begun cost all few = absurd all.0
passes_events number (Link a b ∷ lines) begun cost all few = absurd all.0
passes_events number (Buffers port n ∷ lines) begun cost all few = absurd all.0
passes_events number (Route node id p ∷ lines) begun cost all few = absurd all.0
passes_events number (Default node p ∷ lines) begun cost all few = absurd all.0
passes_events number (Lock node id ∷ lines) begun cost all few = absurd all.0
passes_events number (Large node id ∷ lines) begun cost all few = absurd all.0
passes_events number (Credits port ∷ lines) begun cost all few = absurd all.0
passes_events number (Read node prio dest hop tid offset ∷ lines) begun cost all few = absurd all.0
passes_events number (Write node prio dest hop tid offset value ∷ lines) begun cost all few =
    absurd all.0
passes_events number (Send16 node prio ftype dest hex ∷ lines) begun cost all few = absurd all.0
passes_events number (Read16 node prio dest hop tid offset ∷ lines) begun cost all few =
    absurd all.0
passes_events number (Write16 node prio dest hop tid offset value ∷ lines) begun cost all few =
    absurd all.0
passes_events number (Deliver port n ∷ lines) begun cost all few = absurd all.0
passes_events number (Alter port place ch ∷ lines) begun cost all few = absurd all.0
passes_events number (Insert port place ch ∷ lines) begun cost all few = absurd all.0
passes_events number (Timeout port ∷ lines) begun cost all few = absurd all.0
passes_events number (Settle port ∷ lines) begun cost all few = absurd all.0
passes_events number (Move node ∷ lines) begun cost all few = absurd all.0

-- ---- what the events are, and cost

all-append : (xs ys : List Line) → AllByRecursion IsSoakEvent xs → AllByRecursion IsSoakEvent ys
    → AllByRecursion IsSoakEvent (xs ++ ys)
all-append [] ys a b = b
all-append (x ∷ xs) ys a b = (a.0, all-append xs ys a.1 b)

collects : (count node : ℕ) → node < 4
    → AllByRecursion IsSoakEvent (times count (Collect node))
    × (total (times count (Collect node)) ≡ count)
unfolding times
collects zero node less = (tt, refl)
collects (suc count) node less =
    let rest = collects count node less in
    let cost = rest.1 in
    ((less, rest.0), omega (arith, cost))

round_is : (count : ℕ) → AllByRecursion IsSoakEvent (round_lines count)
    × (total (round_lines count) ≡ 100 + 4 * count)
unfolding round_lines
round_is count =
    let a = collects count 0 (omega arith) in
    let b = collects count 1 (omega arith) in
    let d = collects count 2 (omega arith) in
    let e = collects count 3 (omega arith) in
    let two = times count (Collect 2) in
    let three = times count (Collect 3) in
    let one = times count (Collect 1) in
    let zero_ = times count (Collect 0) in
    let t1 = total-append two three in
    let t2 = total-append one (two ++ three) in
    let t3 = total-append zero_ (one ++ (two ++ three)) in
    let ca = a.1 in
    let cb = b.1 in
    let cd = d.1 in
    let ce = e.1 in (
      (
        refl,
        all-append zero_ (one ++ (two ++ three)) a.0
            (all-append one (two ++ three) b.0 (all-append two three d.0 e.0)),
      ),
      omega (arith, t1, t2, t3, ca, cb, cd, ce),
    )

step_is : (v : ℕ) → v < 32768 → AllByRecursion IsSoakEvent (soak_step_lines v)
    × (total (soak_step_lines v) ≤ 3)
unfolding soak_step_lines
step_is v small = by_test ((v / 64 % 3) == 0)
  where
    by_test : (b : Bool)
        → AllByRecursion IsSoakEvent
        (Send (v % 4) (v / 16 % 4) 15 (v / 4 % 4) (v / 256 ∷ v % 256 ∷ [])
        ∷ Pump (port_at (v % 4) 0) 1
        ∷ (if b then Erase (port_at (v % 4) 0) 0 1 ∷ [] else []))
        × (total (Send (v % 4) (v / 16 % 4) 15 (v / 4 % 4) (v / 256 ∷ v % 256 ∷ [])
        ∷ Pump (port_at (v % 4) 0) 1
        ∷ (if b then Erase (port_at (v % 4) 0) 0 1 ∷ [] else [])) ≤ 3)
    by_test true = (
      (
        (
          omega arith,
          omega arith,
          refl,
          omega arith,
          refl,
          All-from_recursion (λ b. b < 256)
              (v / 256 ∷ v % 256 ∷ []) (omega (arith, small), (omega arith, tt)),
        ),
        ((v % 4, omega arith, refl, refl), ((v % 4, omega arith, refl, refl, refl), tt)),
      ),
      omega arith,
    )
    by_test false = (
      (
        (
          omega arith,
          omega arith,
          refl,
          omega arith,
          refl,
          All-from_recursion (λ b. b < 256)
              (v / 256 ∷ v % 256 ∷ []) (omega (arith, small), (omega arith, tt)),
        ),
        ((v % 4, omega arith, refl, refl), tt),
      ),
      omega arith,
    )

behind_is : (number : ℕ) → 1 ≤ number → AllByRecursion IsSoakEvent (round_behind number)
    × (total (round_behind number) + 116 * ((number - 1) / 10) ≤ 116 * (number / 10))
unfolding round_behind
behind_is number some = by_test (number % 10 == 0) refl
  where
    by_test : (b : Bool) → (number % 10 == 0) ≡ b
        → AllByRecursion IsSoakEvent (if b then round_lines 4 else [])
        × (total (if b then round_lines 4 else []) + 116 * ((number - 1) / 10) ≤ 116
        * (number / 10))
    by_test true is =
        let tenth = eqb-true (number % 10) 0 is in
        let round = round_is 4 in
        let cost = round.1 in (round.0, omega (arith, tenth, cost, some))
    by_test false is = (tt, omega (arith, some))

steps_are : (number : ℕ) (values : List ℕ) → AllByRecursion (λ v. v < 32768) values
    → AllByRecursion IsSoakEvent (steps_from (number + 1) values)
    × (total (steps_from (number + 1) values) + 116 * (number / 10)
    ≤ 3 * length values + 116 * ((number + length values) / 10))
unfolding steps_from
steps_are number [] small = (tt, omega arith)
steps_are number (v ∷ values) small =
    let one = step_is v small.0 in
    let two = behind_is (number + 1) (omega arith) in
    let rest = steps_are (number + 1) values small.1 in
    let t1 = total-append (round_behind (number + 1)) (steps_from (number + 1 + 1) values) in
    let t2 = total-append (soak_step_lines v)
    (round_behind (number + 1) ++ steps_from (number + 1 + 1) values) in
    let ca = one.1 in
    let cb = two.1 in
    let cd = rest.1 in (
      all-append (soak_step_lines v) (round_behind (number + 1)
          ++ steps_from (number + 1 + 1) values)
          one.0
          (all-append (round_behind (number + 1)) (steps_from (number + 1 + 1) values) two.0
          rest.0),
      omega (arith, t1, t2, ca, cb, cd),
    )

rounds_are : (count : ℕ) → AllByRecursion IsSoakEvent (last_rounds count)
    × (total (last_rounds count) ≡ 132 * count)
unfolding last_rounds
rounds_are zero = (tt, refl)
rounds_are (suc count) =
    let one = round_is 8 in
    let rest = rounds_are count in
    let t1 = total-append (round_lines 8) (last_rounds count) in
    let ca = one.1 in
    let cb = rest.1 in
    (all-append (round_lines 8) (last_rounds count) one.0 rest.0, omega (arith, t1, ca, cb))

values_small : (count x : ℕ) → AllByRecursion (λ v. v < 32768)
    (map value_of_number (numbers_behind count x))
    × (length (map value_of_number (numbers_behind count x)) ≡ count)
unfolding numbers_behind
values_small zero x = (tt, refl)
values_small (suc count) x =
    let rest = values_small count (next_number x) in
    let long = rest.1 in
    ((omega arith, rest.0), omega (arith, long))

events_are : (seed : ℕ) → AllByRecursion IsSoakEvent (soak_events seed)
    × (total (soak_events seed) ≤ 100000)
unfolding soak_events soak_values
events_are seed =
    let values = values_small 2000 (seed % 2147483648) in
    let vs = map value_of_number (numbers_behind 2000 (seed % 2147483648)) in
    let one = steps_are 0 vs values.0 in
    let two = rounds_are 16 in
    let t1 = total-append (steps_from 1 vs) (last_rounds 16) in
    let long = values.1 in
    let ca = one.1 in
    let cb = two.1 in
    (all-append (steps_from 1 vs) (last_rounds 16) one.0 two.0, omega (arith, t1, long, ca, cb))

pub soak_passes : (seed : ℕ) → ScriptPasses soak_names (soak_lines seed)
unfolding soak_lines
soak_passes seed =
    let events = events_are seed in
    let cost = events.1 in
    subst (λ ls. PassesFrom nothing soak_names ls)
    (sym (numbered-append 1 soak_set_up (soak_events seed)))
    (passes_set_up (numbered_from 20 (soak_events seed))
    (passes_events 20 (soak_events seed) false 0 events.0 (omega (arith, cost))))
