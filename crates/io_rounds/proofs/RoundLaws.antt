-- A round: the endpoints have their turns, one after another.
use Rattle.std.proofs.Common.{◌≡◌, ◌≤◌, ◌+◌, ◌<◌, ℕ, zero, suc, Bool, true, false, List, [], ◌∷◌, ◌++◌, length, map, drop, get_or, refl, sym, ap, ◌∙◌, subst, arith, append_assoc, if◌then◌else◌}
use Rattle.std.proofs.lemmas.List.{length-map, drop_all}
use Rattle.maint_registers.specs.Devices.{Registers, is_switch}
use Rattle.fabric_script.specs.declared.lines.Line.TheVariants.{Run}
use Rattle.fabric_script.specs.declared.lines.Numbered.{Numbered}
use Rattle.fabric_trace.specs.Runs.{start}
use Rattle.fabric_ports.specs.declared.answers.Happened.{Happened}
use Rattle.fabric_replay.proofs.Naming.{names_suffice, names_few}
use Rattle.fabric_trace.proofs.Network.Boards.{seen_board}
use Rattle.io_rounds.specs.declared.course.Course.{Course}
use Rattle.io_rounds.specs.Tasks.{IoTask, Settle, Turn, endpoints_from}
use Rattle.io_rounds.specs.Going.{IoState, endpoints_of}
use Rattle.io_rounds.specs.Course.{CourseHolds, EventActed, IoAt, IoArrived, IoDoes, node_turn}
use Rattle.io_rounds.specs.Turns.{Underway, MayTurn}
use Rattle.io_rounds.proofs.TakeLaws.{settles}
use Rattle.io_rounds.proofs.BeginLaws.{at_itself, state_of, endpoint_is}
use Rattle.rio_chars.specs.Written.{Outgoing}

-- the turns of the endpoints from a node on
abbrev pub turns_from : List Numbered → ℕ → List IoTask
turns_from script i = map Turn (endpoints_from i (drop i (start script).network.registers))

turns_step : (n : ℕ) (devices : List Registers) (i : ℕ) → i < length devices
    → map Turn (endpoints_from n (drop i devices))
    ≡ node_turn (get_or (map is_switch devices) i false) n
    ++ map Turn (endpoints_from (suc n) (drop (suc i) devices))
turns_step n [] i within = absurd (omega (arith, within))
turns_step n (d ∷ devices) zero within = by_kind (is_switch d)
  where
    by_kind : (kind : Bool)
        → map Turn (if kind then endpoints_from (suc n) devices
        else n ∷ endpoints_from (suc n) devices)
        ≡ node_turn kind n ++ map Turn (endpoints_from (suc n) devices)
    by_kind true = refl
    by_kind false = refl
turns_step n (d ∷ devices) (suc i) within = turns_step n devices i (omega (arith, within))

-- The first endpoints have had their turns in a round, whatever it began with.
abbrev pub InRound : List (List ℕ) → Outgoing → Course → ℕ → Outgoing → Course → Type 0
InRound names old first_course i out course =
    (script : List Numbered) (begun : Outgoing) (first s : IoState) (rest : List IoTask)
    → IoAt begun old names script first s first_course
    → s.tasks ≡ Settle ∷ map Turn (endpoints_of script) ++ rest
    → IoArrived begun out names script first (turns_from script i ++ rest) course

-- the turn of a node comes next, if it is no switch
pub turn_next : {begun out : Outgoing} {names : List (List ℕ)} {script : List Numbered}
    {first : IoState} (i : ℕ) (course : Course) (rest : List IoTask)
    → i < length course.switches.items
    → (arrived : IoArrived begun out names script first (turns_from script i ++ rest) course)
    → arrived.state.tasks
    ≡ node_turn (get_or course.switches.items i false) i ++ (turns_from script (suc i) ++ rest)
turn_next {begun} {out} {names} {script} i course rest within arrived =
    let devices = (start script).network.registers in
    let same = arrived.at.holds.switches in
    let len = length-map devices is_switch in
    let sizes = ap length same in
    let inside : i < length devices = omega (arith, within, sizes, len) in
    arrived.left ∙ ap (λ l. l ++ rest) (turns_step i devices i inside)
    ∙ append_assoc (node_turn (get_or (map is_switch devices) i false) i)
    (turns_from script (suc i))
    rest
    ∙ ap (λ l. node_turn (get_or l i false) i ++ (turns_from script (suc i) ++ rest)) (sym same)

module _ {names : List (List ℕ)} {old : Outgoing} {first_course : Course} where
  pub round_begins : (what : Happened) (course : Course)
      → ((script : List Numbered) (s : IoState)
      → CourseHolds names script s.events s.trace s.stations first_course
      → EventActed names script s.events s.trace s.stations (Run 1) what course)
      → InRound names old first_course 0 old course
  round_begins what course acts script begun first s rest at is =
      settles (map Turn (endpoints_of script) ++ rest) what at is (acts script s at.holds)

  -- a node has its turn, if it is no switch
  pub round_turn : (i : ℕ) (out new : Outgoing) (course next : Course)
      → i < length course.switches.items
      → InRound names old first_course i out course
      → ((script : List Numbered) → IoDoes names script out course
      (node_turn (get_or course.switches.items i false) i) new next)
      → InRound names old first_course (i + 1) new next
  round_turn i out new course next within in_round turn script begun first s rest at begins =
      let arrived = in_round script begun first s rest at begins in
      let next_i : suc i ≡ i + 1 = omega arith in
      subst (λ n. IoArrived begun new names script first (turns_from script n ++ rest) next) next_i
      (turn script begun first arrived.state (turns_from script (suc i) ++ rest) arrived.at
      (turn_next i course rest within arrived))

  -- all have had their turns
  pub round_ends : (i : ℕ) (out : Outgoing) (course : Course)
      → length course.switches.items ≤ i
      → InRound names old first_course i out course
      → (script : List Numbered) → IoDoes names script old first_course
      (Settle ∷ map Turn (endpoints_of script)) out course
  round_ends i out course whole in_round script begun first s rest at begins =
      let arrived = in_round script begun first s rest at begins in
      let devices = (start script).network.registers in
      let len = length-map devices is_switch in
      let all : length devices ≤ i = let sizes = ap length arrived.at.holds.switches in
      omega (arith, whole, sizes, len) in
      record {
        state = arrived.state;
        at = arrived.at;
        left = arrived.left
            ∙ ap (λ l. map Turn (endpoints_from i l) ++ rest) (drop_all i devices all);
      }

  -- the round so far, from what holds
  pub round_itself : (i : ℕ) (out : Outgoing) (course : Course)
      → (way : Underway names first_course)
      → InRound names old first_course i out course
      → IoArrived old out names way.script
      (state_of way (Settle ∷ map Turn (endpoints_of way.script) ++ []))
      (turns_from way.script i ++ []) course
  round_itself i out course way in_round =
      let tasks = Settle ∷ map Turn (endpoints_of way.script) ++ [] in
      in_round way.script old (state_of way tasks) (state_of way tasks) []
      (at_itself old way tasks) refl

-- a node that is no switch is an endpoint, and its number is one of a name
pub turn_may : {names : List (List ℕ)} (i : ℕ) (course : Course) → Underway names course
    → i < length course.switches.items → get_or course.switches.items i false ≡ false
    → MayTurn names course i
turn_may {names} i course way within is =
    let holds = way.holds in
    let devices = (start way.script).network.registers in
    let len = length-map devices is_switch in
    let sizes = ap length holds.switches in
    let inside : i < length devices = omega (arith, within, sizes, len) in
    let board = (seen_board way.trace (start way.script)).count in
    let shown = ap length holds.stands.shows.registers in
    let few = names_suffice names way.script way.trace course.fabric holds.passes holds.stands in
    record {
      way = way;
      named = omega (arith, inside, board, shown, few);
      endpoint = endpoint_is devices i inside
          (ap (λ l. get_or l i false) (sym holds.switches) ∙ is);
    }

pub turn_small : {names : List (List ℕ)} (i : ℕ) (course : Course) → Underway names course
    → i < length course.switches.items → i < 256
turn_small {names} i course way within =
    let holds = way.holds in
    let devices = (start way.script).network.registers in
    let len = length-map devices is_switch in
    let board = (seen_board way.trace (start way.script)).count in
    let shown = ap length holds.stands.shows.registers in
    let same = ap length holds.switches in
    let suffice = names_suffice names way.script way.trace course.fabric holds.passes holds.stands
    in
    let few = names_few names way.script holds.passes in
    omega (arith, within, len, board, shown, same, suffice, few)

-- what was read at a place
pub index_false : (xs : List Bool) (i : ℕ) (b : Bool) → b ≡ get_or xs i b → b ≡ false
    → get_or xs i false ≡ false
index_false xs i b is none = subst (λ x. get_or xs i x ≡ x) none (sym is)
