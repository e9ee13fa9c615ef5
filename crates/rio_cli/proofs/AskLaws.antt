-- What a host that has followed from its first state has asked and written.
use Rattle.std.proofs.Common.{◌≡◌, ◌≤◌, ℕ, List, [], ◌++◌, Option, Result, Ok, Err, OnOk, OnErr, IfErr, refl, sym, ap, subst}
use Rattle.std.specs.Result.{IsErrOf}
use Rattle.std.specs.Io.KnownBytes.{Appends}
use Rattle.fabric_script.specs.declared.lines.Numbered.{Numbered}
use Rattle.fabric_map.specs.Topology.{Topology}
use Rattle.fabric_map.specs.Routes.{AllRegisters}
use Rattle.fabric_map.specs.Plain.{registers_of}
use Rattle.fabric_map.specs.Numbered.{IsNumbered}
use Rattle.fabric_map.specs.declared.map.Map.{Map}
use Rattle.host_enumerate.specs.Ends.{EndsAtLock, IsEnded, IsLockFree}
use Rattle.host_enumerate.specs.Enumerated.{IsEnumerated}
use Rattle.host_enumerate.specs.declared.ends.EnumEnd.{EnumEnd}
use Rattle.host_enumerate.specs.declared.ends.EnumEnd.TheVariants.{LockedBy, Undetected, WriteFault, NoMemory}
use Rattle.fabric_trace.specs.Runs.{start}
use Rattle.trace_lines.specs.Text.{trace_text}
use Rattle.fabric_ports.specs.declared.noise.Quiet.{Quiet}
use Rattle.fabric_maint.specs.Asked.{Asked}
use Rattle.fabric_maint.specs.Going.{names_of, topology_in, registers_in, StandsWhole, MaintIsSame, LeadsTo, FrontOfAsk, Followed, FollowedFront, HasMet}
use Rattle.fabric_maint.specs.declared.maint.FabricMaint.{FabricMaint}
use Rattle.fabric_maint.proofs.Meeting.{never_met}
use Rattle.rio_chars.specs.Faults.{Rose}
use Rattle.rio_cli.specs.Numbering.{no_edits, topology_for, registers_for, IsNewHost, ToldAsks, ToldAsksFront, Maps}

module _ {K : Type 0} (written : K → Option (List ℕ)) (faults : K → ℕ)
    (first last : FabricMaint Quiet K) (new : IsNewHost written faults first) where
  abbrev lines : List Numbered
  lines = first.script.now.lines.items

  abbrev host : ℕ
  host = first.host

  -- its asks were told whole
  pub told_asks : Followed no_edits written faults first last → ToldAsks (names_of first) lines host
      (written first.sink.now) (written last.sink.now) (registers_in last)
  told_asks followed =
      let went = followed.went (start lines) new.rests in
      let here = followed.same.host in
      let names = ap (λ s. s.names.items) followed.same.script in
      record {
        trace = went.lines;
        asked = record {
          end = went.end;
          tid = last.tid;
          asked = subst (λ h. Asked [] h (start lines) 0 went.lines [] went.end last.tid) here
              (subst (λ n. Asked [] last.host (start lines) n went.lines [] went.end last.tid)
              new.first went.asked);
          leads = subst (λ h. LeadsTo h (start lines) went.lines went.end) here went.leads;
          after_is = ap registers_of (sym went.rests.can.stands.shows.registers);
        };
        told = subst (λ (ns : List (List ℕ)). Appends (written first.sink.now)
            (written last.sink.now) (trace_text ns went.lines)) names went.told;
      }

  -- or it left off in one of them
  pub told_front : FollowedFront no_edits written faults first last
      → ToldAsksFront (names_of first) lines host (written first.sink.now) (written last.sink.now)
  told_front abandoned =
      let left = abandoned.left (start lines) new.rests in
      let here = abandoned.same.host in
      let names = ap (λ s. s.names.items) abandoned.same.script in
      record {
        trace = left.lines;
        end = left.end;
        tid = left.tid;
        asked = subst (λ h. Asked [] h (start lines) 0 left.lines [] left.end left.tid) here
            (subst (λ n. Asked [] last.host (start lines) n left.lines [] left.end left.tid)
            new.first left.asked);
        leads = subst (λ h. LeadsTo h (start lines) left.lines left.end) here left.leads;
        part = left.bytes;
        told = subst (λ (ns : List (List ℕ)). Appends (written first.sink.now)
            (written last.sink.now) (trace_text ns left.lines ++ left.bytes)) names left.told;
        begun = subst (λ h. FrontOfAsk [] h (names_of first) (start lines) left.lines left.end
            left.tid left.bytes) here
            (subst (λ (ns : List (List ℕ)). FrontOfAsk [] last.host ns (start lines)
            left.lines left.end left.tid left.bytes) names left.begun);
      }

  -- ---- what the walk of a host that began here comes to

  abbrev Follows : Type 0
  Follows = (origin : FabricMaint Quiet K) → Followed no_edits written faults origin first
      → Followed no_edits written faults origin last

  abbrev AtLock : List ℕ → ℕ → Type 0
  AtLock path id = StandsWhole last × Follows

  abbrev Ends : EnumEnd → Type 0
  Ends = IsEnded (first.undetected, last.undetected) (faults first.sink.now, faults last.sink.now)
      (HasMet no_edits written last) AtLock

  -- what is said of the registers of the host's fabric is said of those of the lines
  by_lines : (P : Topology → AllRegisters → Type 0) → P (topology_in first) (registers_in first)
      → P (topology_for lines host) (registers_for lines)
  by_lines P is = subst (P (topology_in first)) new.registers is

  pub maps : (result : Result Map EnumEnd)
      → IsEnumerated (topology_in first) (registers_in first) (registers_in last) result
      → IfErr result Ends → OnOk result Follows
      → OnErr result ((origin : FabricMaint Quiet K)
      → Followed no_edits written faults origin first
      → FollowedFront no_edits written faults origin last)
      → Maps (names_of first) lines host (written first.sink.now) (written last.sink.now) result
  maps (Ok map) is end follows leaves = (
    registers_in last,
    told_asks (follows first new.follows),
    record {
      numbered = by_lines (λ t r. IsNumbered t map.devices.items map.entries.items r
          (registers_in last)) is.0;
      free = by_lines IsLockFree is.1;
    },
  )
  maps (Err (LockedBy path id)) is end follows leaves = (
    registers_in last,
    told_asks (end.0.1 first new.follows),
    by_lines (λ t r. EndsAtLock t r (registers_in last) path id) is,
  )
  maps (Err (Undetected port event)) is end follows leaves =
      never_met no_edits written (λ noise. refl) last port event end.0
  maps (Err WriteFault) is end follows leaves = told_front (leaves first new.follows)
  maps (Err NoMemory) is end follows leaves = told_front (leaves first new.follows)

  pub falls_never : (result : Result Map EnumEnd) → OnOk result Follows
      → OnErr result ((origin : FabricMaint Quiet K)
      → Followed no_edits written faults origin first
      → FollowedFront no_edits written faults origin last)
      → faults first.sink.now ≤ faults last.sink.now
  falls_never (Ok map) follows leaves = (follows first new.follows).never_falls
  falls_never (Err end) follows leaves = (leaves first new.follows).never_falls

  -- it keeps what it was lent
  pub same : (result : Result Map EnumEnd) → OnOk result Follows
      → OnErr result ((origin : FabricMaint Quiet K)
      → Followed no_edits written faults origin first
      → FollowedFront no_edits written faults origin last)
      → MaintIsSame first last
  same (Ok map) follows leaves = (follows first new.follows).same
  same (Err end) follows leaves = (leaves first new.follows).same

  pub rose : (result : Result Map EnumEnd) → IfErr result Ends → IsErrOf result WriteFault
      → Rose (faults first.sink.now) (faults last.sink.now)
  rose (Ok map) end is = cc
  rose (Err (LockedBy path id)) end is = cc
  rose (Err (Undetected port event)) end is = cc
  rose (Err WriteFault) end is = end.0
  rose (Err NoMemory) end is = cc

  pub counted : (result : Result Map EnumEnd) → IfErr result Ends
      → OnOk result (faults last.sink.now ≡ faults first.sink.now)
      → ¬ IsErrOf result WriteFault → faults last.sink.now ≡ faults first.sink.now
  counted (Ok map) end same other = same
  counted (Err (LockedBy path id)) end same other = end.2
  counted (Err (Undetected port event)) end same other = end.2
  counted (Err WriteFault) end same other = absurd (other refl)
  counted (Err NoMemory) end same other = end.1
