-- A script of reads and writes of memory is not refused too, and what is said of it is said of the
-- bytes that spell it.
use Rattle.std.proofs.Common.{inl, inr, ℕ, List, Option}
use Rattle.rio_chars.specs.Faults.{Rose}
use Rattle.io_script.specs.IoScripts.{IsIoRefused}
use Rattle.io_script.proofs.IoOnce.{io_script_not_refused}
use Rattle.io_rounds.specs.Drives.{DrivenWhole, DrivenFront}
use Rattle.rio_cli.specs.declared.command.Command.TheVariants.{Io}
use Rattle.rio_cli.specs.declared.status.Status.TheVariants.{Done, WriteFault, NoMemory}
use Rattle.rio_cli.specs.Accessing.{HasAccesses}
use Rattle.rio_cli.specs.Answers.{SaysOfBytes}

pub accesses_not_refused : (bytes : List ℕ) (line reason : ℕ) → HasAccesses bytes
    → IsIoRefused bytes line reason → ⊥
accesses_not_refused bytes line reason is refused =
    io_script_not_refused bytes is.names is.set_up is.lines line reason is.spells refused

module _ {bytes : List ℕ} (is : HasAccesses bytes) (w : Option (List ℕ)) (f : ℕ)
    (w' : Option (List ℕ)) (f2 : ℕ) where
  pub says_done : DrivenWhole is.names is.set_up is.lines w w'
      → SaysOfBytes Io Done bytes w f w' f2
  says_done driven = record { is = is; driven = driven }

  pub says_fault : Rose f f2 × DrivenFront is.names is.set_up is.lines w w'
      → SaysOfBytes Io WriteFault bytes w f w' f2
  says_fault said = (said.0, inl (record { is = is; driven = said.1 }))

  pub says_front : DrivenFront is.names is.set_up is.lines w w'
      → SaysOfBytes Io NoMemory bytes w f w' f2
  says_front driven = inr (record { is = is; driven = driven })
