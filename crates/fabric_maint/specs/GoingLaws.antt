-- A fabric that a host can ask has a topology, which its registers show.
use Rattle.std.proofs.Common.{ℕ, List, [], Option, refl, sym, subst, append-nil}
use Rattle.std.specs.Io.KnownBytes.{Appends}
use Rattle.maint_registers.specs.Devices.{Registers}
use Rattle.rio_chars.specs.declared.edit.Edit.{Edit}
use Rattle.fabric_map.specs.Topology.{IsTopology}
use Rattle.fabric_map.specs.Fitting.{Fits}
use Rattle.fabric_map.specs.Plain.{registers_of}
use Rattle.host_enumerate.proofs.NewFabrics.{devised_fabric}
use Rattle.trace_lines.specs.Text.{trace_text}
use Rattle.fabric_maint.specs.Going.{names_of, topology_in, registers_in, StandsWhole, Followed, NothingTold, FollowedFront}
use Rattle.fabric_maint.specs.declared.maint.FabricMaint.{FabricMaint}

pub has_topology : {N K : Type 0} (maint : FabricMaint N K) → StandsWhole maint
    → IsTopology (topology_in maint)
has_topology maint whole =
    (devised_fabric (names_of maint) maint.script.now.lines.items maint.host whole.passes
    whole.host).topology

pub shows_kinds : {N K : Type 0} (maint : FabricMaint N K) → StandsWhole maint
    → Fits (topology_in maint) (registers_in maint)
shows_kinds maint whole =
    subst (λ (devices : List Registers). Fits (topology_in maint) (registers_of devices))
    whole.rests.can.stands.shows.registers whole.fits

-- whoever has come so far may leave off there
pub abandons : {N K : Type 0} (edits : N → List Edit) (written : K → Option (List ℕ))
    (faults : K → ℕ) (origin maint : FabricMaint N K) → Followed edits written faults origin maint
    → FollowedFront edits written faults origin maint
abandons edits written faults origin maint followed = record {
  same = followed.same;
  never_falls = followed.never_falls;
  left = λ s rests.
      let went = followed.went s rests in
      record {
        lines = went.lines;
        end = went.end;
        tid = maint.tid;
        noise = maint.noise.now;
        asked = went.asked;
        leads = went.leads;
        bytes = [];
        told = subst (Appends (written origin.sink.now) (written maint.sink.now))
            (sym (append-nil (trace_text (names_of maint) went.lines))) went.told;
        begun = NothingTold refl;
      };
}
