-- The lines of a contest.
use Rattle.std.specs.Prelude.{◌≡◌, ◌≤◌, ℕ, Bool, true, false, ◌&&◌, List, [], ◌++◌, Option, codes, if◌then◌else◌}
use Rattle.std.specs.Io.KnownBytes.{Appends}
use Rattle.rio_chars.specs.Faults.{Rose}
use Rattle.rio_chars.specs.Fronts.{AppendsFront}
use Rattle.fabric_script.specs.Names.{name_of}
use Rattle.fabric_map.specs.Numbered.{entries_of}
use Rattle.fabric_map.specs.declared.map.Device.{Device}
use Rattle.host_enumerate.specs.MapTexts.{map_text}
use Rattle.contest_machine.specs.Machine.{Walker}
use Rattle.contest_machine.specs.Turns.{Both}
use Rattle.host_contest.specs.Machines.{is_clear, is_last_stage, is_numbered}

-- A host has ended once it asks nothing and has nothing to write, and is done if it has numbered
-- the fabric.
abbrev pub is_over : Walker → Bool
is_over w = is_last_stage w.stage && is_clear w.todo

abbrev pub has_numbered : Walker → Bool
has_numbered w = is_numbered w.stage && is_clear w.todo

-- the word for what became of a host
abbrev pub word_by : (done over : Bool) → List ℕ
word_by done over = if done then codes "done" else (if over then codes "lost" else codes "going")

-- the line of a host
abbrev pub host_line : List (List ℕ) → ℕ → (done over : Bool) → List ℕ
host_line names node done over =
    codes "host " ++ name_of names node ++ codes " " ++ word_by done over ++ codes "\n"

abbrev pub host_text : List (List ℕ) → ℕ → Walker → List ℕ
host_text names node w = host_line names node (has_numbered w) (is_over w)

-- the lines of the map of these devices, if the host is done
abbrev pub map_if : Bool → List Device → List ℕ
map_if done devices = if done then map_text devices (entries_of devices) else []

abbrev pub map_by : Walker → List ℕ
map_by w = map_if (has_numbered w) w.devices

-- the line of each host, the map of each that is done, and `end`
abbrev pub contest_text : List (List ℕ) → ℕ → ℕ → Both → List ℕ
contest_text names first second both =
    host_text names first both.first ++ host_text names second both.second
    ++ map_by both.first ++ map_by both.second ++ codes "end\n"

-- A text was written, or a front of it if a write has failed.
pub record TextIsTold (failed : Bool) (written : Option (List ℕ)) (faults : ℕ)
    (written_after : Option (List ℕ)) (faults_after : ℕ) (text : List ℕ) : Type 0 where
  pub whole : failed ≡ false → Appends written written_after text
  pub counts : failed ≡ false → faults_after ≡ faults
  pub front : failed ≡ true → AppendsFront written written_after text
  pub rose : failed ≡ true → Rose faults faults_after
  pub never_falls : faults ≤ faults_after
