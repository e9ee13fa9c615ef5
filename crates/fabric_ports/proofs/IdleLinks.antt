-- A link that has nothing to do carries nothing, and settles by nothing.
use Rattle.std.proofs.Common.{◌≡◌, true, List, [], ◌∷◌, if◌then◌else◌, refl, sym, ap}
use Rattle.rio_chars.specs.declared.chars.Char.{Char}
use Rattle.rio_chars.specs.declared.edit.Edit.{Edit}
use Rattle.link_watch.specs.declared.side.Side.TheVariants.{A}
use Rattle.link_machine.specs.Calls.{has_none}
use Rattle.link_machine.specs.Acts.{acts_notes}
use Rattle.link_law.specs.Resting.{has_no_work}
use Rattle.link_law.proofs.RestLaws.{IsIdle, idle_by, idle_round, idle_notes, idle_settles, wires_empty}
use Rattle.fabric_script.specs.declared.ports.PortRef.{PortRef}
use Rattle.trace_lines.specs.Notes.{lines_of}
use Rattle.fabric_trace.specs.Blocks.{pumps, IsSettle}
use Rattle.fabric_trace.specs.Known.{Seen, link_at}
use Rattle.fabric_ask.specs.Noise.{edit_lines, stirred, IsCarry}

-- a wire without characters meets no edit
unstirred : (noise : List Edit) (p : PortRef) (chars : List Char) → has_none chars ≡ true
    → ([], noise) ≡ stirred noise p chars
unstirred [] p chars none = refl
unstirred (edit ∷ noise) p chars none =
    sym (ap (λ b. if b then ([], edit ∷ noise) else (edit_lines p edit chars, noise)) none)

pub idle_pumps : (s : Seen) (a b : PortRef) → IsIdle (link_at s a b) → [] ≡ pumps s a 1 b
idle_pumps s a b idle = ap (lines_of a b) (sym (idle_notes A 1 (link_at s a b) idle))

pub idle_block : (s : Seen) (a b : PortRef) → has_no_work (link_at s a b) ≡ true → IsSettle s a b []
unfolding acts_notes
idle_block s a b is = record {
  acts = [];
  settles = idle_settles (link_at s a b) (idle_by (link_at s a b) is);
  lines = refl;
}

pub idle_carries : (noise : List Edit) (s : Seen) (a b : PortRef)
    → has_no_work (link_at s a b) ≡ true → IsCarry noise noise s a b []
idle_carries noise s a b is =
    let idle = idle_by (link_at s a b) is in
    let none = wires_empty (link_at s a b) idle in
    record {
      one = [];
      two = [];
      first = ([], noise);
      second = ([], noise);
      block = [];
      one_is = idle_pumps s a b idle;
      two_is = idle_pumps s b a (idle_round (link_at s a b) idle);
      first_is = unstirred noise a (s.wires a).chars none.0;
      second_is = unstirred noise b (s.wires b).chars none.1;
      settles = idle_block s a b is;
      whole = refl;
      left_is = refl;
    }
