-- An access as a request: what is answered, and where it goes, are the same.
use Rattle.std.proofs.Common.{◌≡◌, ℕ, ◌<◌, Bool, true, false, List, length, Option, Some, None, option_map, unwrap_or, if◌then◌else◌, refl, sym, ap, ◌∙◌}
use Rattle.maint_registers.specs.Devices.{Registers}
use Rattle.maint_registers.specs.Access.{value_at, written_at}
use Rattle.maint_packets.specs.declared.request.Request.{Request}
use Rattle.maint_packets.specs.Requests.{names_second, in_half}
use Rattle.maint_packets.specs.Answers as packets
use Rattle.maint_packets.proofs.AnswerLaws.{answered_same}
use Rattle.fabric_script.specs.declared.ports.PortRef.{PortRef}
use Rattle.fabric_map.specs.Topology.{Topology}
use Rattle.fabric_map.specs.Routes.{AllRegisters, walk}
use Rattle.fabric_map.specs.Plain.{topology_of, registers_of}
use Rattle.host_enumerate.specs.declared.maint.Access.{Access}
use Rattle.host_enumerate.specs.declared.maint.Access.TheVariants.{Read, Write}
use Rattle.host_enumerate.specs.Accesses.{access_answer, answered, access_offset, registers_with, after_access, IsAnswered}
use Rattle.fabric_ask.specs.Answered.{after_request, IsRoundTrip, response_home}
use Rattle.fabric_maint.specs.Requests.{request_for, word_named, answer_in}
use Rattle.fabric_maint.proofs.Tables.{registers_of-changed, topology_of-changed}

-- ---- one device

-- the word that an offset names is the one that was read and put there
word_put : (offset : ℕ) (read : Option ℕ)
    → word_named offset (option_map (in_half offset) read) ≡ unwrap_or read 0
word_put offset None = refl
word_put offset (Some value) = go (names_second offset)
  where
    go : (b : Bool) → (if b
        then (let pair : ℕ × ℕ = (if b then (0, value) else (value, 0)) in pair.1)
        else (let pair : ℕ × ℕ = (if b then (0, value) else (value, 0)) in pair.0)) ≡ value
    go true = refl
    go false = refl

-- a write gives no other value than 0
none_put : (next : Option Registers)
    → ◌≡◌ {A = ℕ} 0 (unwrap_or (option_map (λ device. 0) next) 0)
none_put None = refl
none_put (Some device) = refl

module _ (device : Registers) (source tid dest hops port : ℕ) where
  abbrev carried : Access → packets.RequestAnswered
  carried access = packets.request_answered device (request_for source tid dest hops access) port

  device_same : (access : Access) → (carried access).device ≡ (answered device port access).device
  device_same (Read offset) = refl
  device_same (Write offset value) = refl

  answer_same : (access : Access) → answer_in (carried access).response (access_offset access)
      ≡ (answered device port access).answer
  answer_same (Read offset) =
      ap (λ (n : ℕ). record (access_answer (value_at device offset port)) { value = n })
      (word_put offset (value_at device offset port))
  answer_same (Write offset value) =
      ap (λ (n : ℕ). record (answered device port (Write offset value)).answer { value = n })
      (none_put (written_at device offset value))

-- ---- the registers of a fabric

module _ (registers : List Registers) (links : List (PortRef × PortRef))
    (host source tid dest hops : ℕ) (access : Access) (at : PortRef)
    (inside : at.node < length registers) where
  abbrev request : Request
  request = request_for source tid dest hops access

  pub after_same : registers_of (after_request registers at request)
      ≡ after_access (registers_of registers) at access
  after_same =
      registers_of-changed registers at.node (λ device. (packets.request_answered device request
      at.port).device) inside
      ∙ ap (λ d. registers_with (registers_of registers) at.node d)
      (device_same (registers_of registers at.node) source tid dest hops at.port access)

  pub topology_same : topology_of (after_request registers at request) links host
      ≡ topology_of registers links host
  topology_same = topology_of-changed registers links host at.node
      (λ device. (packets.request_answered device request at.port).device)
      (λ device stands. answered_same device request at.port)

  walk_same : walk (topology_of (after_request registers at request) links host)
      (registers_of (after_request registers at request)) source 255 at
      ≡ walk (topology_of registers links host)
      (after_access (registers_of registers) at access) source 255 at
  walk_same = ap (λ (t : Topology). walk t (registers_of (after_request registers at request))
      source 255 at) topology_same
      ∙ ap (λ (r : AllRegisters). walk
      (topology_of registers links host) r source 255 at) after_same

  -- an access that is answered goes there and back as a request
  pub goes : source ≡ (registers_of registers host).base_id
      → IsAnswered (topology_of registers links host) (registers_of registers) dest hops access at
      → IsRoundTrip registers links host request at
  goes from is = record {
    ends = is.ends;
    away = is.not_host;
    returns = walk_same
        ∙ ap (λ (id : ℕ). walk (topology_of registers links host)
        (after_access (registers_of registers) at access) id 255 at) from ∙ is.returns;
  }

  -- and what goes there and back is answered
  pub comes : source ≡ (registers_of registers host).base_id
      → IsRoundTrip registers links host request at
      → IsAnswered (topology_of registers links host) (registers_of registers) dest hops access at
  comes from trip = record {
    ends = trip.ends;
    not_host = trip.away;
    returns = ap (λ (id : ℕ). walk (topology_of registers links host)
        (after_access (registers_of registers) at access) id 255 at) (sym from)
        ∙ sym walk_same ∙ trip.returns;
  }

  -- the answer that the response brings home
  pub brought : answer_in (response_home registers links host request at) (access_offset access)
      ≡ (answered (registers_of registers at.node) at.port access).answer
  brought = answer_same (registers_of registers at.node) source tid dest hops at.port access
