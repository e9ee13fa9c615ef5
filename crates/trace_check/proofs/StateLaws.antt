-- What is reached once a wire or the run of a port has changed.
use Rattle.std.proofs.Common.{◌≡◌, ℕ, ◌++◌, List, Option, Some, slice_set, sym, ap, ◌∙◌, subst, if◌then◌else◌}
use Rattle.std.proofs.lemmas.List.Prefix.{front_rest}
use Rattle.rio_chars.specs.declared.chars.Char.{Char}
use Rattle.fabric_script.specs.declared.ports.PortRef.{PortRef}
use Rattle.fabric_model.specs.Network.{same_port}
use Rattle.fabric_model.proofs.Peers.{same_port-refl}
use Rattle.fabric_trace.specs.Wires.{taken_chars, WireChars, with_chars}
use Rattle.trace_check.specs.declared.hearing.Hearing.{Hearing}
use Rattle.trace_check.specs.Running.{KeepsRun, PortRun}
use Rattle.trace_check.specs.Tables.{IsIn, IsTable, table_place}
use Rattle.trace_check.proofs.TableLaws.{table_set}

abbrev pub AreWires : ℕ → WireChars → List (List Char) → Type 0
AreWires nodes wires list = IsTable nodes (λ p chars. chars ≡ wires p) list

abbrev pub AreRuns : ℕ → (PortRef → PortRun) → List Hearing → Type 0
AreRuns nodes runs list = IsTable nodes (λ p hearing. KeepsRun (runs p) hearing) list

module _ {nodes : ℕ} {p : PortRef} {i : ℕ} where
  pub wires_set : {wires : WireChars} {list : List (List Char)} {after chars : List Char}
      → AreWires nodes wires list → IsIn nodes p → i ≡ table_place p → after ≡ chars
      → AreWires nodes (with_chars wires p chars) (slice_set list i after)
  wires_set {wires} {after = after} {chars} table is_in here same =
      table_set after table is_in here
      (same ∙ sym (ap (λ b. if b then chars else wires p) (same_port-refl p)))
      (λ q cs other has. has ∙ sym (ap (λ b. if b then chars else wires q) other))

  pub wires_taken : {wires : WireChars} {list : List (List Char)} {peer : Option PortRef}
      (after chars : List Char) → AreWires nodes wires list → IsIn nodes p → i ≡ table_place p
      → Some p ≡ peer → wires p ≡ chars ++ after
      → AreWires nodes (taken_chars wires peer chars) (slice_set list i after)
  wires_taken {wires} {list} after chars table is_in here peer_is stands =
      subst (λ o. AreWires nodes (taken_chars wires o chars) (slice_set list i after)) peer_is
      (wires_set table is_in here (sym (front_rest (wires p) chars after stands)))

  pub runs_set : {runs : PortRef → PortRun} {list : List Hearing} (hearing : Hearing)
      (after : PortRun → PortRun) → AreRuns nodes runs list → IsIn nodes p → i ≡ table_place p
      → KeepsRun (after (runs p)) hearing
      → AreRuns nodes (λ q. if same_port q p then after (runs q) else runs q)
      (slice_set list i hearing)
  runs_set {runs} hearing after table is_in here same =
      table_set hearing table is_in here
      (subst (λ b. KeepsRun (if b then after (runs p) else runs p) hearing)
      (sym (same_port-refl p)) same)
      (λ q h other has.
      subst (λ b. KeepsRun (if b then after (runs q) else runs q) h) (sym other) has)
