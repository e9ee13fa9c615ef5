-- Each input of each command is accepted, or refused at a line for a reason.
use Rattle.std.proofs.Common.{ℕ, ◌⊎◌, inl, inr, List, refl}
use Rattle.fabric_script.specs.declared.lines.Numbered.{Numbered}
use Rattle.fabric_script.specs.Known.{of_script}
use Rattle.io_script.specs.declared.lines.NumberedIo.{NumberedIo}
use Rattle.io_script.specs.IoScripts.{IsIoRefused, IsIoScript}
use Rattle.script_law.proofs.Inputs.{input_or_refused}
use Rattle.script_law.proofs.TextChoice.{script_or_refused}
use Rattle.rio_cli.specs.declared.command.Command.{Command}
use Rattle.rio_cli.specs.declared.command.Command.TheVariants.{Replay, Decode, Check, Io, Enumerate, Contest}
use Rattle.rio_cli.specs.Outputs.{InputIsAccepted, InputIsRefused}
use Rattle.rio_cli.proofs.DecodeEach.{decoded_or_bad}
use Rattle.rio_cli.proofs.HostEach.{host_or_refused, hosts_or_refused}

-- a row for each command; of `io` it is known
module _ (io_or_refused : (bytes : List ℕ)
    → ((names : List (List ℕ)) × (set_up : List Numbered) × (lines : List NumberedIo)
    × IsIoScript bytes names set_up lines)
    ⊎ ((line : ℕ) × (reason : ℕ) × IsIoRefused bytes line reason)) where
  pub accepted_or_refused : (command : Command) (bytes : List ℕ) → InputIsAccepted command bytes
      ⊎ ((line : ℕ) × (reason : ℕ) × InputIsRefused command bytes line reason)
  accepted_or_refused Replay bytes = script_or_refused of_script bytes
  accepted_or_refused Decode bytes = elim (decoded_or_bad bytes) [
    | inl spelled ↦ inl spelled
    | inr bad ↦ inr (bad.0, 1, (bad.1, refl))
  ]
  accepted_or_refused Check bytes = elim (input_or_refused bytes) [
    | inl is ↦ inl record { set_up = is.0; known = is.1; texts = is.2; input = is.3 }
    | inr refused ↦ inr refused
  ]
  accepted_or_refused Io bytes = elim (io_or_refused bytes) [
    | inl is ↦ inl record { names = is.0; set_up = is.1; lines = is.2; spells = is.3 }
    | inr refused ↦ inr refused
  ]
  accepted_or_refused (Enumerate node) bytes = host_or_refused node bytes
  accepted_or_refused (Contest first second seed) bytes = hosts_or_refused first second bytes
