-- What `contest` reads and writes: set-up lines, and what became of two hosts.
use Rattle.std.specs.Prelude.{◌≡◌, ◌≢◌, ℕ, ◌+◌, ◌⊎◌, List, length, Option, Result, Ok, Err}
use Rattle.std.specs.Io.KnownBytes.{Appends}
use Rattle.rio_chars.specs.Fronts.{AppendsFront}
use Rattle.fabric_script.specs.declared.lines.Numbered.{Numbered}
use Rattle.fabric_script.specs.Known.{of_set_up}
use Rattle.fabric_script.specs.Scripts.{IsScriptIn, RefusedIn}
use Rattle.fabric_script.specs.Reasons.{reason_number}
use Rattle.host_enumerate.specs.Devised.{devices_of, links_of}
use Rattle.host_enumerate.specs.Hosts.{reason_of, FindsHost}
use Rattle.host_enumerate.specs.declared.devising.NoHost.{NoHost}
use Rattle.fabric_contest.specs.Contests.{contest_of}
use Rattle.fabric_contest.specs.ContestTexts.{contest_text}
use Rattle.script_input.specs.Inputs.{texts_of}

-- the node of this name is the host
abbrev pub FindsIn : List (List ℕ) → List Numbered → List ℕ → Result ℕ NoHost → Type 0
FindsIn names lines word found = FindsHost names (devices_of lines) (links_of lines) word found

-- the reason for which one node cannot be both hosts
abbrev pub same_host : ℕ
same_host = 16

-- The nodes of these names are two hosts. Or this is why they are not: the first is none, or the
-- second is none, or both are the same.
abbrev pub FindsHosts : List (List ℕ) → List Numbered → List ℕ → List ℕ → Result (ℕ × ℕ) ℕ → Type 0
FindsHosts names lines first second (Ok hosts) = FindsIn names lines first (Ok hosts.0)
    × FindsIn names lines second (Ok hosts.1) × (hosts.0 ≢ hosts.1)
FindsHosts names lines first second (Err reason) =
    ((end : NoHost) × FindsIn names lines first (Err end)
    × (reason ≡ reason_number (reason_of end)))
    ⊎ ((one : ℕ) × FindsIn names lines first (Ok one)
    × (((end : NoHost) × FindsIn names lines second (Err end)
    × (reason ≡ reason_number (reason_of end)))
    ⊎ (FindsIn names lines second (Ok one) × (reason ≡ same_host))))

-- The bytes spell set-up lines, and the nodes of these names are two hosts among them.
pub record HasHosts (first second bytes : List ℕ) : Type 0 where
  pub names : List (List ℕ)
  pub lines : List Numbered
  pub spells : IsScriptIn of_set_up bytes names lines
  pub hosts : ℕ × ℕ
  pub found : FindsHosts names lines first second (Ok hosts)

-- A line is refused; or none is, and the nodes of these names are not two hosts, which is told at
-- the line after the last.
pub data IsRefusedForTwo (first second bytes : List ℕ) : (line reason : ℕ) → Type 0 where
  HitForTwo : {line reason : ℕ} → RefusedIn of_set_up bytes line reason
      → IsRefusedForTwo first second bytes line reason
  NotHosts : (names : List (List ℕ)) (lines : List Numbered) (reason : ℕ)
      → IsScriptIn of_set_up bytes names lines
      → FindsHosts names lines first second (Err reason)
      → IsRefusedForTwo first second bytes (length (texts_of bytes) + 1) reason

-- the words and maps of two hosts, after the turns that a number stands for
abbrev pub contested : {first second bytes : List ℕ} → HasHosts first second bytes → ℕ → List ℕ
contested is seed = contest_text is.names is.hosts.0 is.hosts.1
    (contest_of is.lines is.hosts.0 is.hosts.1 seed)

-- The bytes have two hosts, and what became of them was written.
pub record Contests (first second : List ℕ) (seed : ℕ) (bytes : List ℕ)
    (written written_after : Option (List ℕ)) : Type 0 where
  pub is : HasHosts first second bytes
  pub told : Appends written written_after (contested is seed)

-- The bytes have two hosts, and a front of that was written.
pub record ContestsFront (first second : List ℕ) (seed : ℕ) (bytes : List ℕ)
    (written written_after : Option (List ℕ)) : Type 0 where
  pub is : HasHosts first second bytes
  pub told : AppendsFront written written_after (contested is seed)
