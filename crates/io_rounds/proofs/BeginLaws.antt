-- Before the first line, and what may be done then.
use Rattle.std.proofs.Common.{◌≡◌, ◌≤◌, ◌+◌, ◌<◌, ◌%◌, ℕ, zero, suc, min, Bool, true, false, List, [], ◌∷◌, ◌++◌, All, length, map, take, replicate, get_or, slice_get, Some, None, MatchBool, refl, sym, ap, ◌∙◌, subst, arith, option_map}
use Rattle.std.proofs.lemmas.List.{length-replicate, take_more, take_all}
use Rattle.std.proofs.lemmas.List.Elements.{All-nil, All-replicate, All-head, All-tail}
use Rattle.std.proofs.Math.Nat.{min-le_right}
use Rattle.rio_chars.proofs.WrittenLaws.{Writes-nil}
use Rattle.rio_packets.specs.Fields.{prio_of}
use Rattle.maint_registers.specs.Devices.{Registers, is_switch}
use Rattle.fabric_script.specs.Lines.{is_event}
use Rattle.fabric_script.specs.Scripts.{ScriptPasses}
use Rattle.fabric_script.specs.declared.lines.Line.{Line}
use Rattle.fabric_script.specs.declared.lines.Line.TheVariants.{Endpoint, Switch, Run, Collect}
use Rattle.fabric_script.specs.declared.lines.Numbered.{Numbered}
use Rattle.fabric_model.specs.Network.{Network, IsEndpoint}
use Rattle.fabric_trace.specs.Known.{Seen}
use Rattle.trace_lines.specs.Lines.{TraceLine}
use Rattle.fabric_trace.specs.Runs.{bare, set_up_all, start, BlocksFrom, BlockThen, NamesNothing}
use Rattle.fabric_trace.proofs.SetUps.SettingUp.{made_by, set_up-kinds, set_up_all-append}
use Rattle.fabric_ports.specs.Standing.{Stands}
use Rattle.io_packets.specs.Forms.{IsGood}
use Rattle.io_packets.specs.Writing.{type_of, io_behind_ids}
use Rattle.io_packets.specs.declared.io.Io.{Io}
use Rattle.io_packets.specs.declared.io.Io.TheVariants.{NRead, NWrite, NWriteR, SWrite, Reply, BadRead, BadWriteR, BadWrite, Other}
use Rattle.io_packets.proofs.SizeLaws.{size_most, size_eights, stream_most, stream_eights}
use Rattle.io_rounds.specs.declared.course.Course.{Course}
use Rattle.io_rounds.specs.declared.stations.Station.{Station}
use Rattle.io_rounds.specs.Stations.{new_station}
use Rattle.io_rounds.specs.Tasks.{IoTask, sends_io, reply_line}
use Rattle.io_rounds.specs.Going.{IoState, Here}
use Rattle.io_rounds.specs.Course.{kinds_of, KeepsFit, CanSend, CourseHolds, MayAct, IoAt}
use Rattle.io_rounds.specs.Turns.{Underway, MayTurn}
use Rattle.io_rounds.proofs.CalmLaws.{begins_calm}
use Rattle.rio_chars.specs.Written.{Outgoing}

-- ---- nothing is done yet

no_blocks : (s : Seen) (script : List Numbered) → All (λ line. is_event line.line ≡ false) script
    → BlocksFrom s (script ++ []) []
no_blocks s [] none = refl
no_blocks s (line ∷ script) none =
    subst (λ e. MatchBool e
    (BlockThen (λ t rest. BlocksFrom t (script ++ []) rest) NamesNothing s line.line [])
    (BlocksFrom s (script ++ []) []))
    (sym (All-head (λ (l : Numbered). is_event l.line ≡ false) line script none))
    (no_blocks s script (All-tail (λ (l : Numbered). is_event l.line ≡ false) line script none))

pub holds_first : (names : List (List ℕ)) (script : List Numbered) (course : Course)
    → ScriptPasses names script → All (λ line. is_event line.line ≡ false) script
    → Stands (start script) [] course.fabric
    → course.stations.items ≡ replicate (length names) new_station
    → course.switches.items ≡ map is_switch (start script).network.registers
    → CourseHolds names script [] [] (replicate (length names) new_station) course
holds_first names script course passes sets_up stands stations switches = record {
  passes = passes;
  sets_up = sets_up;
  are_events = All-nil (λ (l : Numbered). is_event l.line ≡ true);
  stands = stands;
  calm = begins_calm (set_up_all bare script);
  blocks = no_blocks (start script) script sets_up;
  same_stations = stations;
  count = length-replicate (length names) new_station;
  kept = All-replicate (KeepsFit names (start script).network) (length names) new_station tt;
  switches = switches;
}

-- ---- what may be done

-- a state that holds is reached from itself, with nothing told
abbrev pub state_of : {names : List (List ℕ)} {course : Course} → Underway names course
    → List IoTask → IoState
state_of way tasks = record {
  events = way.events;
  trace = way.trace;
  output = [];
  stations = way.stations;
  tasks = tasks;
}

pub at_itself : {names : List (List ℕ)} {course : Course} (out : Outgoing)
    (way : Underway names course) (tasks : List IoTask)
    → IoAt out out names way.script (state_of way tasks) (state_of way tasks) course
at_itself out way tasks =
    record { came = Here refl; told = Writes-nil out; holds = way.holds }

abbrev pub underway : {names : List (List ℕ)} {script : List Numbered} {events : List Numbered}
    {trace : List TraceLine} {stations : List Station} {course : Course}
    → CourseHolds names script events trace stations course → Underway names course
underway {names} {script} {events} {trace} {stations} holds = record {
  script = script;
  events = events;
  trace = trace;
  stations = stations;
  holds = holds;
}

pub may_run : (names : List (List ℕ)) (course : Course) → Underway names course
    → MayAct names course (Run 1)
may_run names course way = record {
  script = way.script;
  events = way.events;
  trace = way.trace;
  stations = way.stations;
  holds = way.holds;
  kind = tt;
  happens = record { named = tt; range = (omega arith, omega arith); there = tt };
}

pub may_collect : (names : List (List ℕ)) (course : Course) (node : ℕ) → MayTurn names course node
    → MayAct names course (Collect node)
may_collect names course node may = record {
  script = may.way.script;
  events = may.way.events;
  trace = may.way.trace;
  stations = may.way.stations;
  holds = may.way.holds;
  kind = tt;
  happens = record { named = may.named; range = tt; there = may.endpoint };
}

-- ---- what may be sent

even_eights : (n : ℕ) → n % 8 ≡ 0 → n % 2 ≡ 0
even_eights n is = omega (arith, is)

-- how many bytes stand behind the IDs of a packet
record FewBytes (bytes : List ℕ) : Type 0 where
  even : length bytes % 2 ≡ 0
  few : length bytes ≤ 70

few_bytes : (io : Io) → IsGood io → FewBytes (io_behind_ids io)
few_bytes (NRead tid addr size) good = record { even = refl; few = omega arith }
few_bytes (NWrite addr load) good =
    let most = size_most (length load) good.1 in
    let even = even_eights (length load) (size_eights (length load) good.1) in
    record { even = omega (arith, even); few = omega (arith, most) }
few_bytes (NWriteR tid addr load) good =
    let most = size_most (length load) good.1 in
    let even = even_eights (length load) (size_eights (length load) good.1) in
    record { even = omega (arith, even); few = omega (arith, most) }
few_bytes (SWrite addr load) good =
    let most = stream_most (length load) good.1 in
    let even = even_eights (length load) (stream_eights (length load) good.1) in
    record { even = omega (arith, even); few = omega (arith, most) }
few_bytes (Reply status tid None) good = record { even = refl; few = omega arith }
few_bytes (Reply status tid (Some load)) good =
    let most = size_most (length load) good.1 in
    let even = even_eights (length load) (size_eights (length load) good.1) in
    record { even = omega (arith, even); few = omega (arith, most) }
few_bytes (BadRead tid) good = absurd good
few_bytes (BadWriteR tid) good = absurd good
few_bytes BadWrite good = absurd good
few_bytes Other good = absurd good

small_type : (io : Io) → IsGood io → (type_of io < 16) × ((type_of io ≡ 8) → ⊥)
small_type (NRead tid addr size) good = (omega arith, λ is. absurd (omega (arith, is)))
small_type (NWrite addr load) good = (omega arith, λ is. absurd (omega (arith, is)))
small_type (NWriteR tid addr load) good = (omega arith, λ is. absurd (omega (arith, is)))
small_type (SWrite addr load) good = (omega arith, λ is. absurd (omega (arith, is)))
small_type (Reply status tid load) good = (omega arith, λ is. absurd (omega (arith, is)))
small_type (BadRead tid) good = absurd good
small_type (BadWriteR tid) good = absurd good
small_type BadWrite good = absurd good
small_type Other good = absurd good

pub may_send_io : (names : List (List ℕ)) (net : Network) (node prio dest : ℕ) (io : Io)
    → node < length names → IsEndpoint net node → prio < 4 → IsGood io
    → CanSend names net (sends_io node prio dest io)
may_send_io names net node prio dest io named endpoint small good =
    let type = small_type io good in
    let few = few_bytes io good in
    let most = few.few in (
      tt,
      record {
        named = named;
        range = (
          small,
          type.0,
          record {
            even = few.even;
            most = omega (arith, most);
            maintenance = λ is. absurd (type.1 is);
          },
        );
        there = endpoint;
      },
    )

pub may_reply : (names : List (List ℕ)) (net : Network) (node : ℕ) (packet : List ℕ) (io : Io)
    → node < length names → IsEndpoint net node → IsGood io
    → CanSend names net (reply_line node packet io)
may_reply names net node packet io named endpoint good =
    let small = min-le_right (prio_of packet + 1) 3 in
    may_send_io names net node (min (prio_of packet + 1) 3) _ io named endpoint
    (omega (arith, small)) good

-- ---- which nodes are endpoints

pub endpoint_is : (devices : List Registers) (i : ℕ) → i < length devices
    → get_or (map is_switch devices) i false ≡ false
    → option_map is_switch (slice_get devices i) ≡ Some false
endpoint_is [] i within is = absurd (omega (arith, within))
endpoint_is (d ∷ devices) zero within is = ap Some is
endpoint_is (d ∷ devices) (suc i) within is = endpoint_is devices i (omega (arith, within)) is

-- ---- whether each node is a switch

-- the kinds of the nodes of the first lines
abbrev pub kinds_in : List Numbered → List Bool
kinds_in lines = map is_switch (start lines).network.registers

pub kinds_more : (lines : List Numbered) (i : ℕ) (item : Numbered) → i < length lines
    → item ≡ get_or lines i item
    → kinds_in (take (i + 1) lines)
    ≡ kinds_in (take i lines) ++ map is_switch (made_by item.line)
kinds_more lines i item within is =
    ap kinds_in (take_more lines i item within)
    ∙ ap (λ x. kinds_in (take i lines ++ x ∷ [])) (sym is)
    ∙ ap (λ (n : Network). map is_switch n.registers)
    (set_up_all-append bare (take i lines) (item ∷ []))
    ∙ set_up-kinds (set_up_all bare (take i lines)) item.line

kinds_made : (line : Line) → map is_switch (made_by line) ≡ kinds_of line
kinds_made (Endpoint name id) = refl
kinds_made (Switch name ports) = refl
kinds_made _ = refl

pub kinds_pushed : (lines : List Numbered) (i : ℕ) (item : Numbered) (old new : List Bool)
    → i < length lines → item ≡ get_or lines i item → old ≡ kinds_in (take i lines)
    → new ≡ old ++ kinds_of item.line → new ≡ kinds_in (take (i + 1) lines)
kinds_pushed lines i item old new within is before pushed =
    pushed ∙ ap (λ l. l ++ kinds_of item.line) before
    ∙ ap (λ l. kinds_in (take i lines) ++ l) (sym (kinds_made item.line))
    ∙ sym (kinds_more lines i item within is)

pub kinds_all : (lines : List Numbered) (i : ℕ) → length lines ≤ i
    → kinds_in (take i lines) ≡ kinds_in lines
kinds_all lines i whole = ap kinds_in (take_all i lines whole)
