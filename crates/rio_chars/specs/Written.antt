-- What was told to an outbox, and what of it stands in the sink.
use Rattle.std.specs.Prelude.{◌≡◌, ◌≤◌, ℕ, Option, List, ◌++◌, Bool, true, false}
use Rattle.std.specs.Borrow.{GName}
use Rattle.std.specs.Io.KnownBytes.{Appends, Keeps}
use Rattle.rio_chars.specs.Faults.{FailedBy}

-- An outbox: which sink it writes to, what the sink tells of itself (the bytes that were written,
-- and how many writes failed), the bytes that wait, and whether a write of the outbox has failed.
pub record Outgoing : Type 0 where
  pub sink : GName
  pub written : Option (List ℕ)
  pub faults : ℕ
  pub waiting : List ℕ
  pub failed : Bool

-- From `start` on, this text was told: a front of it was written, and unless a write failed the
-- rest waits.
pub record TextTold (start written : Option (List ℕ)) (waiting : List ℕ) (failed : Bool)
    (text : List ℕ)
    : Type 0 where
  pub front : List ℕ
  pub rest : List ℕ
  pub whole : text ≡ front ++ rest
  pub told : Appends start written front
  pub waits : failed ≡ false → rest ≡ waiting

-- More bytes were told behind whatever text was told before.
abbrev pub TellsMore : Outgoing → Outgoing → List ℕ → Type 0
TellsMore old new bytes =
    (start : Option (List ℕ)) (text : List ℕ)
    → TextTold start old.written old.waiting old.failed text
    → TextTold start new.written new.waiting new.failed (text ++ bytes)

-- All that a call says that tells these bytes to an outbox. A write fails only if the sink's count
-- of faults rose, and the count rises in no other way; after a failed write nothing more is
-- written.
pub record Writes (old new : Outgoing) (bytes : List ℕ) : Type 0 where
  pub same : new.sink ≡ old.sink
  pub told : TellsMore old new bytes
  pub cause : FailedBy old.failed old.faults new.failed new.faults
  pub counts : new.failed ≡ false → new.faults ≡ old.faults
  pub never_falls : old.faults ≤ new.faults
  pub stays : old.failed ≡ true → (new.failed ≡ true) × Keeps old.written new.written
      × (new.faults ≡ old.faults)
