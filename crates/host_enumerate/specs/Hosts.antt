-- Which node of a script is the host that a name names.
use Rattle.std.specs.Prelude.{◌≡◌, ◌≢◌, ◌<◌, ◌⊎◌, ℕ, List, length, Contains, Result, Ok, Err}
use Rattle.maint_registers.specs.Devices.{Registers}
use Rattle.fabric_script.specs.Names.{name_of}
use Rattle.fabric_script.specs.declared.ports.PortRef.{PortRef}
use Rattle.fabric_script.specs.declared.reasons.Reason.{Reason}
use Rattle.fabric_script.specs.declared.reasons.Reason.TheVariants as Reasons
use Rattle.host_enumerate.specs.Devised.{IsHost, JudgesHost}
use Rattle.host_enumerate.specs.declared.devising.NoHost.{NoHost}
use Rattle.host_enumerate.specs.declared.devising.NoHost.TheVariants.{Unknown, WrongKind, NotLinked}

-- the reason for which a line is refused that names such a node as the host
abbrev pub reason_of : NoHost → Reason
reason_of Unknown = Reasons.UnknownNode
reason_of WrongKind = Reasons.WrongKind
reason_of NotLinked = Reasons.NotLinked

-- The node is the first with this name.
pub record IsFirstNamed (names : List (List ℕ)) (word : List ℕ) (node : ℕ) : Type 0 where
  pub within : node < length names
  pub named : name_of names node ≡ word
  pub first : (before : ℕ) → before < node → name_of names before ≢ word

-- the node with this name is the host, or this is why there is none
abbrev pub FindsHost : List (List ℕ) → List Registers → List (PortRef × PortRef) → List ℕ
    → Result ℕ NoHost → Type 0
FindsHost names devices links word (Ok node) =
    IsFirstNamed names word node × IsHost devices links node
FindsHost names devices links word (Err end) =
    (¬ Contains names word × (end ≡ Unknown))
    ⊎ ((node : ℕ) × IsFirstNamed names word node × JudgesHost devices links node (Err end))
