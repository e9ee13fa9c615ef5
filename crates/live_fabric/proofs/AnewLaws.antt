-- A device changes its registers without a packet, and the trace begins anew.
use Rattle.std.proofs.Common.{◌≡◌, ℕ, zero, suc, false, List, [], ◌∷◌, option_map, Option, Some, None, slice_get, refl, sym, ap, ◌∙◌, subst}
use Rattle.maint_registers.specs.Changes.{with_device, standard_shown}
use Rattle.maint_registers.specs.Devices.{Registers, is_switch}
use Rattle.maint_registers.proofs.SameLaws.{same_kind, write_same}
use Rattle.fabric_script.specs.SetUps.{SetUpLines}
use Rattle.fabric_model.specs.Network.{IsEndpoint}
use Rattle.fabric_model.proofs.Devices.{length-with_device}
use Rattle.fabric_trace.specs.Boards.{IsSameBoard}
use Rattle.fabric_trace.specs.Fold.{seen}
use Rattle.fabric_trace.specs.Known.{Seen}
use Rattle.fabric_trace.specs.Parts.{Done}
use Rattle.fabric_trace.specs.Runs.{bare, set_up_all}
use Rattle.fabric_trace.proofs.Network.Boards.{same_board, seen_board, board_then, changed_board}
use Rattle.fabric_trace.proofs.Traces.Existing.{ready_on}
use Rattle.trace_lines.specs.Lines.{TraceLine}
use Rattle.fabric_ports.specs.OwnRegisters.{device_with, seen_with, with_standard, with_standards}
use Rattle.fabric_ports.specs.Standing.{Stands}
use Rattle.fabric_ports.specs.declared.fabric.Fabric.{Fabric}
use Rattle.live_fabric.specs.declared.live.Live.{Live}
use Rattle.live_fabric.specs.declared.set_up_text.SetUpText.{SetUpText}
use Rattle.live_fabric.specs.Lines.{Taken, seen_so_far, taken_anew}
use Rattle.live_fabric.specs.Holding.{HasWholeLines, StandsBy, LiveHolds}
use Rattle.live_fabric.proofs.AnsweringLaws.{put_text, put_set_up, put_facing}
use Rattle.live_fabric.proofs.CountLaws.{KeepsCounts, seen_counts}

-- ---- the network is the same but for registers

pub standard_board : (s : Seen) (node : ℕ) → IsSameBoard s.network (with_standard node s).network
standard_board s node = changed_board s.network node standard_shown (λ device. refl)

pub standards_board : (n : ℕ) (s : Seen) → IsSameBoard s.network (with_standards n s).network
standards_board zero s = same_board s.network s.network refl
standards_board (suc n) s =
    board_then s.network (with_standards n s).network (with_standard n (with_standards n s)).network
    (standards_board n s) (standard_board (with_standards n s) n)

own_kinds : (devices : List Registers) (node n : ℕ) (device next : Registers)
    → slice_get devices node ≡ Some device → is_switch next ≡ is_switch device
    → option_map is_switch (slice_get (with_device devices node (λ other. next)) n)
    ≡ option_map is_switch (slice_get devices n)
own_kinds [] node n device next there same = absurd cc
own_kinds (first ∷ devices) zero zero device next there same =
    ap Some same ∙ ap (option_map is_switch) (sym there)
own_kinds (first ∷ devices) zero (suc n) device next there same = refl
own_kinds (first ∷ devices) (suc node) zero device next there same = refl
own_kinds (first ∷ devices) (suc node) (suc n) device next there same =
    own_kinds devices node n device next there same

pub own_board : (s : Seen) (node : ℕ) (device : Registers) (offset value : ℕ)
    → slice_get s.network.registers node ≡ Some device
    → IsSameBoard s.network (seen_with node device offset value s).network
own_board s node device offset value there = record {
  count = length-with_device s.network.registers node (λ other. device_with device offset value);
  kinds = λ n. own_kinds s.network.registers node n device (device_with device offset value) there
      (same_kind device (device_with device offset value) (write_same device offset value));
  links = refl;
}

-- ---- the fabric

-- it stands from what is known
pub stands_here : (from : Seen) (lines : List TraceLine) (fabric : Fabric)
    → Stands from lines fabric → Stands (seen from lines) [] fabric
stands_here from lines fabric stands = record {
  ready = ready_on stands.ready stands.made;
  made = Done refl;
  sent = stands.sent;
  shows = stands.shows;
}

-- an endpoint is one of its devices
pub device_of : (s : Seen) (node : ℕ) → IsEndpoint s.network node
    → (device : Registers) × (slice_get s.network.registers node ≡ Some device)
device_of s node endpoint = by_device (slice_get s.network.registers node) endpoint
  where
    by_device : (o : Option Registers) → option_map is_switch o ≡ Some false
        → (device : Registers) × (o ≡ Some device)
    by_device None is = absurd cc
    by_device (Some device) is = (device, refl)

-- ---- what is held

-- the fabric was taken out, and put back after a change, with which it stands from what is known
pub anew_holds : (live mid now : Live) (taken : Taken) (s : Seen) (fabric : Fabric)
    → LiveHolds live taken → mid.text ≡ live.text → mid.set_up ≡ live.set_up
    → mid.facing ≡ live.facing → now ≡ record mid { fabric = Some fabric }
    → IsSameBoard (seen_so_far taken).network s.network → KeepsCounts (seen_so_far taken) s
    → Stands s [] fabric → LiveHolds now (taken_anew taken s)
anew_holds live mid now taken s fabric holds text set_up facing put board counts stands =
    let same = put_set_up live mid now fabric put set_up in
    let same_text = put_text live mid now fabric put text in
    let net = set_up_all bare taken.set_up in
    let so_far = (seen_so_far taken).network in
    record {
      text = ap (λ (t : SetUpText). t.bytes.items) same_text ∙ holds.text;
      counted = subst (λ n. HasWholeLines n taken.text)
          (sym (ap (λ (t : SetUpText). t.count) same_text)) holds.counted;
      few = holds.few;
      spelled = holds.spelled;
      lines = ap (λ (l : SetUpLines). l.lines) same ∙ holds.lines;
      known = ap (λ (l : SetUpLines). l.known) same ∙ holds.known;
      trace = record {
        passes = holds.trace.passes;
        no_events = holds.trace.no_events;
        board =
            board_then net so_far s.network
            (board_then net taken.from.network so_far holds.trace.board
            (seen_board taken.trace taken.from)) board;
        sent = stands.sent;
        events = tt;
        blocks = refl;
      };
      stands =
          subst (λ f. StandsBy f (taken_anew taken s)) (sym (ap (λ (l : Live). l.fabric) put))
          (refl, stands);
      counts = counts ∙ (seen_counts taken.trace taken.from ∙ holds.counts);
      facing = put_facing live mid now fabric put facing ∙ holds.facing;
      faced = holds.faced;
    }
