-- Where the lines of asks lead, of a host that writes its own registers between.
use Rattle.std.proofs.Common.{◌≡◌, ℕ, zero, suc, ◌<◌, false, List, [], ◌∷◌, ◌++◌, Option, Some, None, option_map, slice_get, refl, sym, ap, ◌∙◌, subst}
use Rattle.std.proofs.lemmas.Option.{same_Some}
use Rattle.maint_registers.specs.Devices.{Registers, is_switch}
use Rattle.maint_registers.specs.Changes.{with_device}
use Rattle.maint_packets.specs.declared.request.Request.{Request}
use Rattle.maint_packets.specs.Requests.{IsGoodOp}
use Rattle.maint_packets.proofs.RequestLaws.{read_back}
use Rattle.rio_chars.specs.declared.edit.Edit.{Edit}
use Rattle.fabric_script.specs.declared.ports.PortRef.{PortRef}
use Rattle.fabric_model.specs.Network.{IsEndpoint}
use Rattle.fabric_trace.specs.Fold.{seen}
use Rattle.fabric_trace.specs.Known.{Seen}
use Rattle.trace_lines.specs.Lines.{TraceLine}
use Rattle.fabric_trace.specs.Parts.{Made, Done}
use Rattle.fabric_trace.specs.Ready.{IsReady}
use Rattle.fabric_trace.proofs.Traces.Existing.{good_of, ready_on}
use Rattle.fabric_trace.proofs.Parts.Folding.{seen-append}
use Rattle.fabric_trace.proofs.Parts.Making.{made-append}
use Rattle.fabric_ask.specs.Answered.{IsRoundTrip}
use Rattle.fabric_ask.specs.Asks.{IsAsk}
use Rattle.fabric_ask.specs.Own.{with_own, NeverAnswers}
use Rattle.fabric_ask.proofs.Answering.{is_replied}
use Rattle.fabric_ask.proofs.Owning.{made_own, seen_own}
use Rattle.fabric_ask.proofs.Resting.{AnswersNothing, ask_answers_nothing}
use Rattle.fabric_ask.proofs.Uncollected.{made_endpoint}
use Rattle.fabric_ports.specs.Asking.{CanAsk}
use Rattle.fabric_ports.specs.declared.fabric.Fabric.{Fabric}
use Rattle.fabric_maint.specs.Going.{LeadsTo}

-- ---- the registers of one device, set and set again

set_twice : (devices : List Registers) (node : ℕ) (first second : Registers)
    → with_device (with_device devices node (λ other. first)) node (λ other. second)
    ≡ with_device devices node (λ other. second)
set_twice [] node first second = refl
set_twice (device ∷ devices) zero first second = refl
set_twice (device ∷ devices) (suc node) first second =
    ap (λ more. device ∷ more) (set_twice devices node first second)

set_same : (devices : List Registers) (node : ℕ) (device : Registers)
    → slice_get devices node ≡ Some device
    → with_device devices node (λ other. device) ≡ devices
set_same [] node device stands = refl
set_same (other ∷ devices) zero device stands =
    ap (λ first. first ∷ devices) (sym (same_Some other device stands))
set_same (other ∷ devices) (suc node) device stands =
    ap (λ more. other ∷ more) (set_same devices node device stands)

with_registers : Seen → List Registers → Seen
with_registers s devices = record s { network = record s.network { registers = devices } }

own_twice : (host : ℕ) (first second : Registers) (s : Seen)
    → with_own host second (with_own host first s) ≡ with_own host second s
unfolding with_registers
own_twice host first second s =
    ap (with_registers s) (set_twice s.network.registers host first second)

own_same : (host : ℕ) (device : Registers) (s : Seen)
    → slice_get s.network.registers host ≡ Some device → with_own host device s ≡ s
unfolding with_registers
own_same host device s stands =
    ap (with_registers s) (set_same s.network.registers host device stands)

-- ---- a fabric that stands for lines stands for the state behind them

pub can_from : (host : ℕ) (s : Seen) (lines : List TraceLine) (fabric : Fabric)
    → CanAsk host s lines fabric → CanAsk host (seen s lines) [] fabric
can_from host s lines fabric can = record {
  stands = record {
    ready = ready_on can.stands.ready can.stands.made;
    made = Done refl;
    sent = can.stands.sent;
    shows = can.stands.shows;
  };
  clear = can.clear;
  laid = can.laid;
}

-- ---- the host as it stands

-- the device of an endpoint
pub record IsHostDevice (host : ℕ) (s : Seen) : Type 0 where
  pub device : Registers
  pub stands : slice_get s.network.registers host ≡ Some device
  pub kind : is_switch device ≡ false

pub host_device : (host : ℕ) (s : Seen) → IsEndpoint s.network host → IsHostDevice host s
host_device host s is = go (slice_get s.network.registers host) refl
  where
    go : (o : Option Registers) → slice_get s.network.registers host ≡ o → IsHostDevice host s
    go None at = let bad : None ≡ Some false = sym (ap (option_map is_switch) at) ∙ is in absurd cc
    go (Some device) at = record {
      device = device;
      stands = at;
      kind = same_Some (is_switch device) false (sym (ap (option_map is_switch) at) ∙ is);
    }

-- ---- where no ask was made

pub leads_none : (host : ℕ) (s : Seen) → s.undetected ≡ None → IsEndpoint s.network host
    → LeadsTo host s [] s
leads_none host s sent is =
    let own = host_device host s is in
    record {
      made = Done refl;
      sent = sent;
      endpoint = is;
      device = own.device;
      kind = own.kind;
      end_is = sym (own_same host own.device s own.stands);
    }

-- ---- one ask more

module _ (host : ℕ) (s end : Seen) (lines block : List TraceLine) (ready : IsReady s)
    (leads : LeadsTo host s lines end) (never : NeverAnswers host block)
    (made : Made end block) where
  abbrev mid : Seen
  mid = seen s lines

  -- its lines may stand behind the others, whatever the host's registers are
  made_behind : Made (seen s lines) block
  made_behind = made_own host leads.device leads.kind mid block leads.endpoint never
      (subst (λ (x : Seen). Made x block) leads.end_is made)

  pub made_more : Made s (lines ++ block)
  made_more = made-append leads.made made_behind

  more : seen s (lines ++ block) ≡ seen mid block
  more = seen-append s lines block

  end_more : seen end block ≡ with_own host leads.device (seen mid block)
  end_more = ap (λ (x : Seen). seen x block) leads.end_is
      ∙ seen_own host leads.device leads.kind mid block never

  pub leads_more : (seen end block).undetected ≡ None
      → LeadsTo host s (lines ++ block) (seen end block)
  leads_more still = record {
    made = made_more;
    sent = ap (λ (x : Seen). x.undetected) more ∙ sym (ap (λ (x : Seen). x.undetected) end_more)
        ∙ still;
    endpoint = subst (λ (x : Seen). IsEndpoint x.network host) (sym more)
        (made_endpoint host mid block (good_of (ready_on ready leads.made)) made_behind
        leads.endpoint);
    device = leads.device;
    kind = leads.kind;
    end_is = end_more ∙ ap (λ (x : Seen). with_own host leads.device x) (sym more);
  }

-- ---- the host writes a register

pub leads_own : (host : ℕ) (s end : Seen) (lines : List TraceLine) (device : Registers)
    → is_switch device ≡ false → LeadsTo host s lines end
    → LeadsTo host s lines (with_own host device end)
leads_own host s end lines device kind leads = record {
  made = leads.made;
  sent = leads.sent;
  endpoint = leads.endpoint;
  device = device;
  kind = kind;
  end_is = ap (λ (x : Seen). with_own host device x) leads.end_is
      ∙ own_twice host leads.device device (seen s lines);
}

-- ---- the lines of an ask whose request goes to a device and whose response comes back

pub ask_lines : (host : ℕ) (request : Request) (noise : List Edit) (at : PortRef) (s : Seen)
    (block : List TraceLine) (fabric : Fabric) → CanAsk host s [] fabric → request.hop < 256
    → request.prio < 4 → IsGoodOp request.op
    → IsRoundTrip s.network.registers s.network.links host request at
    → IsAsk host request noise s block → AnswersNothing host s block
ask_lines host request noise at s block fabric can low prio good trip ask =
    ask_answers_nothing host request noise at s block (good_of can.stands.ready) can.stands.sent
    can.laid.host_is ask
    (λ still. is_replied host request noise s block (good_of can.stands.ready) can.stands.sent
    can.clear can.laid can.stands.ready.formed.registers low
    (λ packet form. read_back request packet prio good form) ask still at trip)
