-- A host makes an ask that is answered.
use Rattle.std.proofs.Common.{◌≡◌, ℕ, ◌+◌, ◌%◌, ◌^◌, ◌<◌, ◌≤◌, arith, List, [], ◌++◌, length, Option, refl, sym, ap, ◌∙◌, subst}
use Rattle.std.proofs.lemmas.Option.{same_Some}
use Rattle.maint_registers.specs.Devices.{Registers}
use Rattle.maint_packets.specs.declared.request.Request.{Request}
use Rattle.maint_packets.specs.declared.response.Response.{Response}
use Rattle.maint_packets.specs.Requests.{IsGoodOp}
use Rattle.rio_chars.specs.declared.edit.Edit.{Edit}
use Rattle.fabric_script.specs.declared.ports.PortRef.{PortRef}
use Rattle.fabric_script.specs.Ports.{port_at}
use Rattle.fabric_map.specs.Topology.{Topology, IsTopology}
use Rattle.fabric_map.specs.Fitting.{Fits}
use Rattle.fabric_map.specs.Plain.{topology_of, registers_of}
use Rattle.fabric_trace.specs.Fold.{seen}
use Rattle.fabric_trace.specs.Known.{Seen}
use Rattle.trace_lines.specs.Lines.{TraceLine}
use Rattle.fabric_ask.specs.Answered.{after_request, IsRoundTrip, response_home}
use Rattle.fabric_ask.specs.Asks.{IsAsk}
use Rattle.fabric_ports.specs.Asking.{CanAsk, Replied}
use Rattle.fabric_ports.specs.declared.fabric.Fabric.{Fabric}
use Rattle.host_enumerate.specs.declared.maint.Access.{Access}
use Rattle.host_enumerate.specs.declared.maint.Access.TheVariants.{Read, Write}
use Rattle.host_enumerate.specs.Accesses.{answered, access_offset, after_access, IsAnswered}
use Rattle.host_enumerate.proofs.AccessKeeps.{access_keeps}
use Rattle.host_enumerate.proofs.Accessed.{fits-with}
use Rattle.host_enumerate.proofs.PlainWalks.{walk-inside}
use Rattle.fabric_maint.specs.Asked.{IsAskOf, AskedMore}
use Rattle.fabric_maint.specs.Going.{names_of, topology_in, registers_in, MaintRestsAt, StandsWhole, Went, Followed}
use Rattle.fabric_maint.specs.GoingLaws.{has_topology}
use Rattle.fabric_maint.specs.Requests.{request_for, answer_in}
use Rattle.fabric_maint.specs.declared.maint.FabricMaint.{FabricMaint}
use Rattle.fabric_maint.proofs.Carried.{after_same, topology_same, goes, brought}
use Rattle.fabric_maint.proofs.Leading.{can_from, leads_more}
use Rattle.fabric_maint.proofs.Told.{told_more}

pub good_request : (source tid dest hops : ℕ) (access : Access)
    → IsGoodOp (request_for source tid dest hops access).op
good_request source tid dest hops (Read offset) = tt
good_request source tid dest hops (Write offset value) = tt

module _ {N K : Type 0} (old : FabricMaint N K) (whole : StandsWhole old) (dest hops : ℕ)
    (access : Access) where
  abbrev source : ℕ
  source = (registers_in old old.host).base_id

  abbrev request : Request
  request = request_for source old.tid dest hops access

  -- ---- from any state that the fabric stands for

  devices_at : (t : Seen) → CanAsk old.host t [] old.fabric.now
      → t.network.registers ≡ old.fabric.now.devices.items
  devices_at t can = can.stands.shows.registers

  topology_at : (t : Seen) → CanAsk old.host t [] old.fabric.now
      → topology_of t.network.registers t.network.links old.host ≡ topology_in old
  topology_at t can =
      ap (λ (devices : List Registers). topology_of devices t.network.links old.host)
      (devices_at t can ∙ sym (devices_at whole.s whole.rests.can))
      ∙ ap (λ (links : List (PortRef × PortRef)). topology_of whole.s.network.registers links
      old.host) (sym can.stands.shows.links ∙ whole.rests.can.stands.shows.links)
      ∙ whole.topology

  source_at : (t : Seen) → CanAsk old.host t [] old.fabric.now
      → source ≡ (registers_of t.network.registers old.host).base_id
  source_at t can = ap (λ (devices : List Registers). (registers_of devices old.host).base_id)
      (sym (devices_at t can))

  -- the lines of its ask are those of the access
  pub ask_of : (noise : List Edit) (t : Seen) (block : List TraceLine) (asked : Request)
      → asked ≡ request → access_offset access < 2 ^ 24 → CanAsk old.host t [] old.fabric.now
      → IsAsk old.host asked noise t block → IsAskOf noise old.host t old.tid asked block
  ask_of noise t block asked is low can ask = record {
    dest = dest;
    hops = hops;
    access = access;
    offset = low;
    request_is = is ∙ ap (λ (id : ℕ). request_for id old.tid dest hops access) (source_at t can);
    is = ask;
  }

  module _ (at : PortRef)
      (is : IsAnswered (topology_in old) (registers_in old) dest hops access at) where
    answered_at : (t : Seen) → CanAsk old.host t [] old.fabric.now
        → IsAnswered (topology_of t.network.registers t.network.links old.host)
        (registers_of t.network.registers) dest hops access at
    answered_at t can =
        subst (λ (topology : Topology). IsAnswered topology (registers_of t.network.registers)
        dest hops access at) (sym (topology_at t can))
        (subst (λ (devices : List Registers). IsAnswered (topology_in old) (registers_of devices)
        dest hops access at) (sym (devices_at t can)) is)

    pub inside_at : (t : Seen) → CanAsk old.host t [] old.fabric.now
        → at.node < length t.network.registers
    inside_at t can = walk-inside
        (topology_of t.network.registers t.network.links old.host)
        (registers_of t.network.registers) dest hops (port_at old.host 0) at
        (subst IsTopology (sym (topology_at t can)) (has_topology old whole))
        (answered_at t can).ends

    pub trip_at : (t : Seen) → CanAsk old.host t [] old.fabric.now
        → IsRoundTrip t.network.registers t.network.links old.host request at
    trip_at t can = goes t.network.registers t.network.links old.host source old.tid dest hops
        access at (inside_at t can) (source_at t can) (answered_at t can)

    -- ---- the reply

    module _ (before after : Option (List ℕ)) (noise left : List Edit) (t : Seen)
        (can : CanAsk old.host t [] old.fabric.now) (fabric : Fabric) (response : Response)
        (replied : Replied (names_of old) before after old.host request noise left t [] fabric
        response) where
      one_port : replied.at ≡ at
      one_port = same_Some replied.at at (sym replied.trip.ends ∙ (trip_at t can).ends)

      end_registers : (seen t replied.block).network.registers
          ≡ after_request t.network.registers at request
      end_registers = replied.registers
          ∙ ap (λ (p : PortRef). after_request t.network.registers p request) one_port

      pub reply_answer : answer_in response (access_offset access)
          ≡ (answered (registers_in old at.node) at.port access).answer
      reply_answer =
          ap (λ (r : Response). answer_in r (access_offset access)) (replied.response_is
          ∙ ap (λ (p : PortRef). response_home t.network.registers t.network.links old.host request
          p) one_port)
          ∙ brought t.network.registers t.network.links old.host source old.tid dest hops access at
          (inside_at t can)
          ∙ ap (λ (devices : List Registers). (answered (registers_of devices at.node) at.port
          access).answer) (devices_at t can)

      pub reply_registers : registers_of fabric.devices.items
          ≡ after_access (registers_in old) at access
      reply_registers =
          ap registers_of (sym replied.again.stands.shows.registers ∙ end_registers)
          ∙ after_same t.network.registers t.network.links old.host source old.tid dest hops access
          at (inside_at t can)
          ∙ ap (λ (devices : List Registers). after_access (registers_of devices) at access)
          (devices_at t can)

      pub reply_rests : MaintRestsAt old.host (seen t replied.block) fabric
      reply_rests = record {
        can = can_from old.host t replied.block fabric replied.again;
        quiet = replied.quiet;
      }

      device : Registers
      device = registers_of t.network.registers at.node

      pub reply_fits : (topology : Topology) → Fits topology (registers_of t.network.registers)
          → Fits topology (registers_of (seen t replied.block).network.registers)
      unfolding device
      reply_fits topology fits = subst (Fits topology)
          (sym (ap registers_of end_registers ∙ after_same t.network.registers t.network.links
          old.host source old.tid dest hops access at (inside_at t can)))
          (fits-with topology (registers_of t.network.registers) at.node
          (answered device at.port access).device fits (access_keeps device at.port access))

      pub reply_topology : topology_of (seen t replied.block).network.registers
          (seen t replied.block).network.links old.host
          ≡ topology_of t.network.registers t.network.links old.host
      reply_topology =
          ap (λ (devices : List Registers). topology_of devices
          (seen t replied.block).network.links old.host) end_registers
          ∙ ap (λ (links : List (PortRef × PortRef)). topology_of
          (after_request t.network.registers at request) links old.host) replied.links
          ∙ topology_same t.network.registers t.network.links old.host source old.tid dest hops
          access at (inside_at t can)

-- ---- what it leaves of the host

-- the host behind an ask, with the next number
abbrev pub moved : {N K : Type 0} → FabricMaint N K → Fabric → N → K → ℕ → FabricMaint N K
moved old fabric noise sink undetected = record old {
  fabric = record old.fabric { now = fabric };
  noise = record old.noise { now = noise };
  sink = record old.sink { now = sink };
  tid = (old.tid + 1) % 256;
  undetected = undetected;
}

module _ {N K : Type 0} (edits : N → List Edit) (written : K → Option (List ℕ))
    (old : FabricMaint N K) (whole : StandsWhole old) (fabric : Fabric) (noise : N) (sink : K)
    (undetected dest hops : ℕ) (access : Access)
    (low : access_offset access < 2 ^ 24) (asked : Request) (response : Response) (id : ℕ)
    (id_is : id ≡ (registers_in old old.host).base_id)
    (asks : asked ≡ request_for id old.tid dest hops access)
    (names : List (List ℕ)) (named : names ≡ names_of old)
    (answers : (t : Seen) (lines : List TraceLine) → CanAsk old.host t lines old.fabric.now
    → Replied names (written old.sink.now) (written sink) old.host asked (edits old.noise.now)
    (edits noise) t lines fabric response) where
  request_is : asked ≡ request_for (registers_in old old.host).base_id old.tid dest hops access
  request_is = asks ∙ ap (λ (i : ℕ). request_for i old.tid dest hops access) id_is

  replied : (t : Seen) → CanAsk old.host t [] old.fabric.now → Replied (names_of old)
      (written old.sink.now) (written sink) old.host asked (edits old.noise.now) (edits noise) t []
      fabric response
  replied t can = subst (λ (ns : List (List ℕ)). Replied ns (written old.sink.now) (written sink)
      old.host asked (edits old.noise.now) (edits noise) t [] fabric response) named
      (answers t [] can)

  by_request : (t : Seen) → CanAsk old.host t [] old.fabric.now → Replied (names_of old)
      (written old.sink.now) (written sink) old.host
      (request_for (registers_in old old.host).base_id old.tid dest hops access)
      (edits old.noise.now) (edits noise) t [] fabric response
  by_request t can = subst (λ (r : Request). Replied (names_of old) (written old.sink.now)
      (written sink) old.host r (edits old.noise.now) (edits noise) t [] fabric response) request_is
      (replied t can)

  goes_on : (s : Seen) (origin : FabricMaint N K)
      → MaintRestsAt origin.host s origin.fabric.now → Went edits written s origin old
      → Went edits written s origin (moved old fabric noise sink undetected)
  goes_on s origin rests went =
      let own = replied went.end went.rests.can in
      record {
        lines = went.lines ++ own.block;
        end = seen went.end own.block;
        asked = AskedMore went.lines own.block (edits old.noise.now) went.end old.tid asked
            went.asked (ask_of old whole dest hops access (edits old.noise.now) went.end own.block
            asked request_is low went.rests.can own.is) own.spends own.again.stands.sent refl refl
            refl;
        leads = leads_more old.host s went.end went.lines own.block rests.can.stands.ready
            went.leads own.own own.again.stands.made own.again.stands.sent;
        told = told_more (names_of old) (written origin.sink.now) (written old.sink.now)
            (written sink) went.lines own.block went.told own.told;
        rests = record {
          can = can_from old.host went.end own.block fabric own.again;
          quiet = own.quiet;
        };
      }

  -- whoever has followed so far follows on
  pub asks_on : (faults : K → ℕ) (origin : FabricMaint N K)
      → faults old.sink.now ≤ faults sink → Followed edits written faults origin old
      → Followed edits written faults origin (moved old fabric noise sink undetected)
  asks_on faults origin more followed = record {
    same = record {
      script = followed.same.script;
      host = followed.same.host;
      fabric = followed.same.fabric;
      noise = followed.same.noise;
      sink = followed.same.sink;
    };
    never_falls = let before = followed.never_falls in omega (arith, before, more);
    went = λ s rests. goes_on s origin rests (followed.went s rests);
  }

  -- it stands whole behind its reply
  pub asked_whole : (at : PortRef)
      → IsAnswered (topology_in old) (registers_in old) dest hops access at
      → StandsWhole (moved old fabric noise sink undetected)
  asked_whole at is =
      let reply = by_request whole.s whole.rests.can in
      record {
        passes = whole.passes;
        host = whole.host;
        named = whole.named;
        few = whole.few;
        s = seen whole.s reply.block;
        rests = reply_rests old whole dest hops access at is (written old.sink.now)
            (written sink) (edits old.noise.now) (edits noise) whole.s whole.rests.can fabric
            response
            reply;
        topology = reply_topology old whole dest hops access at is (written old.sink.now)
            (written sink) (edits old.noise.now) (edits noise) whole.s whole.rests.can fabric
            response
            reply ∙ whole.topology;
        fits = reply_fits old whole dest hops access at is (written old.sink.now)
            (written sink) (edits old.noise.now) (edits noise) whole.s whole.rests.can fabric
            response
            reply (topology_in old) whole.fits;
      }

  pub asked_answer : (at : PortRef)
      → IsAnswered (topology_in old) (registers_in old) dest hops access at
      → answer_in response (access_offset access)
      ≡ (answered (registers_in old at.node) at.port access).answer
  asked_answer at is = reply_answer old whole dest hops access at is (written old.sink.now)
      (written sink) (edits old.noise.now) (edits noise) whole.s whole.rests.can fabric response
      (by_request whole.s whole.rests.can)

  pub asked_registers : (at : PortRef)
      → IsAnswered (topology_in old) (registers_in old) dest hops access at
      → registers_of fabric.devices.items ≡ after_access (registers_in old) at access
  asked_registers at is = reply_registers old whole dest hops access at is
      (written old.sink.now) (written sink) (edits old.noise.now) (edits noise) whole.s
      whole.rests.can fabric response (by_request whole.s whole.rests.can)
