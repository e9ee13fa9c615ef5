-- A line of a script of reads and writes is begun.
use Rattle.std.proofs.Common.{◌≡◌, ◌≢◌, ◌<◌, ℕ, List, [], ◌∷◌, ◌++◌, length, replicate, Option, codes, refl, sym, ap, ◌∙◌, subst, arith}
use Rattle.std.proofs.lemmas.List.{length-set}
use Rattle.std.proofs.lemmas.List.Elements.{All-set}
use Rattle.rio_chars.specs.Written.{Outgoing, Writes}
use Rattle.fabric_script.specs.declared.lines.Line.{Line}
use Rattle.fabric_script.specs.declared.lines.Numbered.{Numbered}
use Rattle.fabric_model.specs.Network.{Network}
use Rattle.fabric_trace.specs.Runs.{start}
use Rattle.io_packets.specs.declared.io.Io.TheVariants as Ios
use Rattle.io_script.specs.declared.lines.IoLine.{IoLine}
use Rattle.io_script.specs.declared.lines.IoLine.TheVariants.{Memory, NRead, NWrite, NWriteR, SWrite, Round}
use Rattle.io_script.specs.IoLines.{io_line_text, IsNamed}
use Rattle.io_rounds.specs.declared.course.Course.{Course}
use Rattle.io_rounds.specs.declared.stations.Station.{Station}
use Rattle.io_rounds.specs.Stations.{new_station, next_tid_of, with_memory}
use Rattle.io_rounds.specs.Tasks.{IoTask, Carry, Ask, tasks_of, stations_by}
use Rattle.io_rounds.specs.Going.{IoState, left_to_do, begun_line, endpoints_of}
use Rattle.io_rounds.specs.Course.{KeepsFit, CanSend, CourseHolds, IoAt, IoArrived}
use Rattle.io_rounds.specs.Drives.{MayCarry, AsksWithin}
use Rattle.io_rounds.specs.Turns.{MayBegin, MaySend}
use Rattle.io_rounds.proofs.BeginLaws.{may_send_io}
use Rattle.io_rounds.proofs.StateLaws.{begins_line, holds_with}

pub carry_named : (names : List (List ℕ)) (net : Network) (line : IoLine)
    → MayCarry names net line → IsNamed names line
carry_named names net (Memory node bytes) may = may.0
carry_named names net (NRead node dest addr size) may = may.0.0
carry_named names net (NWrite node dest addr load) may = may.0.0
carry_named names net (NWriteR node dest addr load) may = may.0.0
carry_named names net (SWrite node dest addr load) may = may.0.0
carry_named names net Round may = tt

pub carry_within : {names : List (List ℕ)} {course : Course} (line : IoLine)
    → MayBegin names course line → ((node bytes : ℕ) → line ≢ Memory node bytes) → line ≢ Round
    → AsksWithin (length course.stations.items) line
carry_within {names} {course} (Memory node bytes) may memory round = absurd (memory node bytes refl)
carry_within {names} {course} (NRead node dest addr size) may memory round =
    let named = may.may.0.0 in
    let same = ap length may.way.holds.same_stations in
    let count = may.way.holds.count in
    (omega (arith, named, same, count), may.may.1)
carry_within {names} {course} (NWrite node dest addr load) may memory round = may.may.1
carry_within {names} {course} (NWriteR node dest addr load) may memory round =
    let named = may.may.0.0 in
    let same = ap length may.way.holds.same_stations in
    let count = may.way.holds.count in
    (omega (arith, named, same, count), may.may.1)
carry_within {names} {course} (SWrite node dest addr load) may memory round = may.may.1
carry_within {names} {course} Round may memory round = absurd (round refl)

-- ---- a request

-- one task is another
same_ask : {node node2 : ℕ} {tid tid2 : Option ℕ} {line line2 : Line}
    → Ask node tid line ∷ [] ≡ Ask node2 tid2 line2 ∷ [] → (node ≡ node2) × (line ≡ line2)
same_ask is = (cc, cc)

asked_can : (names : List (List ℕ)) (net : Network) (node node2 : ℕ) (line line2 : Line)
    → node < length names → CanSend names net line → (node ≡ node2) × (line ≡ line2)
    → (node2 < length names) × CanSend names net line2
asked_can names net node node2 line line2 named can same = (
  subst (λ n. n < length names) same.0 named,
  subst (CanSend names net) same.1 can,
)

pub ask_can : (names : List (List ℕ)) (net : Network) (stations : List Station) (line : IoLine)
    (node : ℕ) (tid : Option ℕ) (event : Line) → MayCarry names net line
    → tasks_of [] stations line ≡ Ask node tid event ∷ []
    → (node < length names) × CanSend names net event
ask_can names net stations (Memory node2 bytes) node tid event may is = absurd cc
ask_can names net stations (NRead node2 dest addr size) node tid event may is =
    asked_can names net node2 node _ event may.0.0
    (may_send_io names net node2 1 dest (Ios.NRead (next_tid_of stations node2) addr size) may.0.0
    may.0.1 (omega arith) may.1) (same_ask is)
ask_can names net stations (NWrite node2 dest addr load) node tid event may is =
    asked_can names net node2 node _ event may.0.0
    (may_send_io names net node2 1 dest (Ios.NWrite addr load) may.0.0 may.0.1 (omega arith) may.1)
    (same_ask is)
ask_can names net stations (NWriteR node2 dest addr load) node tid event may is =
    asked_can names net node2 node _ event may.0.0
    (may_send_io names net node2 1 dest (Ios.NWriteR (next_tid_of stations node2) addr load) may.0.0
    may.0.1 (omega arith) may.1) (same_ask is)
ask_can names net stations (SWrite node2 dest addr load) node tid event may is =
    asked_can names net node2 node _ event may.0.0
    (may_send_io names net node2 1 dest (Ios.SWrite addr load) may.0.0 may.0.1 (omega arith) may.1)
    (same_ask is)
ask_can names net stations Round node tid event may is = absurd cc

pub ask_send : {names : List (List ℕ)} {course : Course} (line : IoLine) (node : ℕ)
    (tid : Option ℕ) (event : Line) → MayBegin names course line
    → tasks_of [] course.stations.items line ≡ Ask node tid event ∷ [] → MaySend names course event
ask_send {names} {course} line node tid event may is = record {
  way = may.way;
  can = (ask_can names (start may.way.script).network course.stations.items line node tid event
      may.may is).1;
}

pub ask_named : {names : List (List ℕ)} {course : Course} (line : IoLine) (node : ℕ)
    (tid : Option ℕ) (event : Line) → MayBegin names course line
    → tasks_of [] course.stations.items line ≡ Ask node tid event ∷ [] → node < length names
ask_named {names} {course} line node tid event may is =
    (ask_can names (start may.way.script).network course.stations.items line node tid event may.may
    is).0

-- ---- the lines

pub round_other : (line : IoLine) → line ≡ Round → (node bytes : ℕ) → line ≢ Memory node bytes
round_other line is node bytes other = let clash = sym is ∙ other in absurd cc

other_stations : (line : IoLine) (stations : List Station)
    → ((node bytes : ℕ) → line ≢ Memory node bytes) → stations_by line stations ≡ stations
other_stations (Memory node bytes) stations memory = absurd (memory node bytes refl)
other_stations _ stations memory = refl

module _ {begun old new : Outgoing} {names : List (List ℕ)} {script : List Numbered}
    {first s : IoState} where
  -- one that gives no memory
  pub begins_other : {course : Course} (line : IoLine) (rest : List IoTask)
      → IoAt begun old names script first s course → s.tasks ≡ Carry line ∷ rest
      → Writes old new (codes "> " ++ (io_line_text names line ++ codes "\n"))
      → ((node bytes : ℕ) → line ≢ Memory node bytes)
      → IoAt begun new names script first
      (begun_line names (endpoints_of script) line (left_to_do s rest)) course
  begins_other {course} line rest at is told other =
      begins_line line rest course at is told
      (subst (λ l. CourseHolds names script s.events s.trace l course)
      (sym (other_stations line s.stations other)) at.holds)

  pub begins_memory : {course : Course} (next : Course) (node bytes : ℕ) (memory : List ℕ)
      (line : IoLine) (rest : List IoTask)
      → IoAt begun old names script first s course → s.tasks ≡ Carry line ∷ rest
      → Writes old new (codes "> " ++ (io_line_text names line ++ codes "\n"))
      → line ≡ Memory node bytes → node < length names → memory ≡ replicate bytes 0
      → next.fabric ≡ course.fabric → next.switches ≡ course.switches
      → next.stations.items ≡ with_memory course.stations.items node memory
      → IoArrived begun new names script first rest next
  begins_memory {course} next node bytes memory line rest at is told given named zeros fabric
      switches stations =
      let holds = at.holds in
      let after : stations_by line s.stations ≡ with_memory s.stations node (replicate bytes 0) =
      ap (λ l. stations_by l s.stations) given in
      let within = subst (λ n. node < n) (sym holds.count) named in
      record {
        state = begun_line names (endpoints_of script) line (left_to_do s rest);
        at = begins_line line rest next at is told
            (subst (λ l. CourseHolds names script s.events s.trace l next) (sym after)
            (holds_with (with_memory s.stations node (replicate bytes 0)) next holds fabric
            (stations ∙ ap (λ l. with_memory l node memory) holds.same_stations
            ∙ ap (λ m. with_memory s.stations node m) zeros) switches
            (length-set s.stations node _)
            (All-set (KeepsFit names (start script).network) s.stations node _
            (holds.kept node new_station within) holds.kept)));
        left = ap (λ l. tasks_of (endpoints_of script) s.stations l ++ rest) given;
      }
