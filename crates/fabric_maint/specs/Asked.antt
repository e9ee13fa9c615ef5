-- What a host does, one ask after another.
use Rattle.std.specs.Prelude.{◌≡◌, ℕ, ◌+◌, ◌%◌, ◌^◌, ◌<◌, false, List, [], ◌++◌, None}
use Rattle.maint_registers.specs.Devices.{Registers, is_switch}
use Rattle.maint_registers.specs.Within.{IsWithin}
use Rattle.maint_packets.specs.declared.request.Request.{Request}
use Rattle.rio_chars.specs.declared.edit.Edit.{Edit}
use Rattle.fabric_map.specs.Plain.{registers_of}
use Rattle.host_enumerate.specs.Accesses.{access_offset}
use Rattle.host_enumerate.specs.declared.maint.Access.{Access}
use Rattle.fabric_trace.specs.Fold.{seen}
use Rattle.fabric_trace.specs.Known.{Seen}
use Rattle.trace_lines.specs.Lines.{TraceLine}
use Rattle.fabric_ask.specs.Asks.{IsAsk}
use Rattle.fabric_ask.specs.Own.{with_own}
use Rattle.fabric_ports.specs.Spending.{AskSpends}
use Rattle.fabric_maint.specs.Requests.{request_for}

-- The lines of an ask that carries an access of the host, under a transaction number. The wires
-- meet these edits, from the first on.
pub record IsAskOf (noise : List Edit) (host : ℕ) (s : Seen) (tid : ℕ) (request : Request)
    (block : List TraceLine) : Type 0 where
  pub dest : ℕ
  pub hops : ℕ
  pub access : Access
  pub offset : access_offset access < 2 ^ 24
  pub request_is : request
      ≡ request_for (registers_of s.network.registers host).base_id tid dest hops access
  pub is : IsAsk host request noise s block

-- From a state and a number on, a host makes asks one after another, each from the state in which
-- the one before left the network and with the next number, modulo 256; every event that was acted
-- on was sent. The wires meet the edits of one noise: each ask those that the one before left.
-- Between asks the host may write its own registers. These are the lines of all the asks, the edits
-- that are left, and the last state and number.
pub data Asked (noise : List Edit) (host : ℕ) (s : Seen) (tid : ℕ) :
    List TraceLine → List Edit → Seen → ℕ → Type 0 where
  AskedNothing : {lines : List TraceLine} {left : List Edit} {t : Seen} {next : ℕ} → lines ≡ []
      → left ≡ noise → t ≡ s → next ≡ tid → Asked noise host s tid lines left t next
  AskedMore : {lines : List TraceLine} {left : List Edit} {t : Seen} {next : ℕ}
      (before block : List TraceLine) (mid : List Edit) (u : Seen) (number : ℕ)
      (request : Request) → Asked noise host s tid before mid u number
      → IsAskOf mid host u number request block → AskSpends host request mid left u block
      → (seen u block).undetected ≡ None
      → lines ≡ before ++ block → t ≡ seen u block → next ≡ (number + 1) % 256
      → Asked noise host s tid lines left t next
  Owns : {lines : List TraceLine} {left : List Edit} {t : Seen} {next : ℕ} (u : Seen)
      (device : Registers) → Asked noise host s tid lines left u next → is_switch device ≡ false
      → IsWithin device → t ≡ with_own host device u → Asked noise host s tid lines left t next
