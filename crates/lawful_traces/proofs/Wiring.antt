-- What ports get are bytes, since what is sent and what edits put on wires are.
use Rattle.lawful_traces.proofs.Prelude.{ℕ, zero, suc, ◌+◌, ◌++◌, Bool, true, false, List, [], ◌∷◌, take, drop, length, Option, Some, None, if◌then◌else◌, subst, AllByRecursion, Char, HasByte, fits, edited, Edit, Known, new_name, MayBe, Line, Alter, Erase, Insert, PortRef, same_port, peer_in, all-append, all-parts, Sent, Got, Fired, TraceLine, Begun, Stepped, Signed, Lacked, Ended, Undetected, edit_of, changed}
use Rattle.std.specs.Prelude.{slice_set}
use Rattle.rio_chars.specs.declared.edit.Edit.TheVariants as Edits
use Rattle.fabric_trace.specs.Wires.{WireChars, with_chars, edited_chars, taken_chars, on_wires, StoodThere, WireFold}
use Rattle.lawful_traces.proofs.Bytes.{AreBytesOf}
use Rattle.lawful_traces.proofs.Ending.{IsFromScript}
use Rattle.lawful_traces.proofs.Sending.{IsAtLinks}

abbrev pub GotsBytes : TraceLine → Type 0
GotsBytes (Signed (Got q chars)) = AreBytesOf chars
GotsBytes _ = Unit {0}

abbrev WiresAreBytes : WireChars → Type 0
WiresAreBytes wires = (p : PortRef) → AreBytesOf (wires p)

-- ---- fronts and ends of bytes

take_bytes : (n : ℕ) (chars : List Char) → AreBytesOf chars → AreBytesOf (take n chars)
take_bytes zero chars all = tt
take_bytes (suc n) [] all = tt
take_bytes (suc n) (c ∷ chars) all = (all.0, take_bytes n chars all.1)

drop_bytes : (n : ℕ) (chars : List Char) → AreBytesOf chars → AreBytesOf (drop n chars)
drop_bytes zero chars all = all
drop_bytes (suc n) [] all = tt
drop_bytes (suc n) (c ∷ chars) all = drop_bytes n chars all.1

set_bytes : (chars : List Char) (n : ℕ) (ch : Char) → AreBytesOf chars → HasByte ch
    → AreBytesOf (slice_set chars n ch)
set_bytes [] zero ch all own = tt
set_bytes [] (suc n) ch all own = tt
set_bytes (c ∷ chars) zero ch all own = (own, all.1)
set_bytes (c ∷ chars) (suc n) ch all own = (all.0, set_bytes chars n ch all.1 own)

-- ---- edits

-- what an edit puts on a wire is a byte
abbrev pub PutsByte : Edit → Type 0
PutsByte (Edits.Alter place ch) = HasByte ch
PutsByte (Edits.Erase place n) = Unit {0}
PutsByte (Edits.Insert place ch) = HasByte ch

abbrev pub EditIsByte : Option (PortRef × Edit) → Type 0
EditIsByte None = Unit {0}
EditIsByte (Some edit) = PutsByte edit.1

line_byte : (known : Known) (new : List ℕ) (line : Line) → MayBe known new line
    → EditIsByte (edit_of line)
line_byte known new (Alter port place ch) may = may.fit.1.1.0
line_byte known new (Erase port place n) may = tt
line_byte known new (Insert port place ch) may = may.fit.1.1.0
line_byte known new _ may = tt

edited_bytes : (edit : Edit) (chars : List Char) → AreBytesOf chars → PutsByte edit
    → AreBytesOf (edited edit chars)
edited_bytes (Edits.Alter place ch) chars all own = set_bytes chars place ch all own
edited_bytes (Edits.Erase place n) chars all own =
    all-append HasByte (take place chars) (drop (place + n) chars) (take_bytes place chars all)
    (drop_bytes (place + n) chars all)
edited_bytes (Edits.Insert place ch) chars all own =
    all-append HasByte (take place chars) (ch ∷ drop place chars) (take_bytes place chars all)
    (own, drop_bytes place chars all)

changed_bytes : (edit : Edit) (chars : List Char) → AreBytesOf chars → PutsByte edit
    → AreBytesOf (changed edit chars)
changed_bytes edit chars all own = by (fits edit chars)
  where
    by : (b : Bool) → AreBytesOf (if b then edited edit chars else chars)
    by true = edited_bytes edit chars all own
    by false = all

-- ---- one line

with_bytes : (wires : WireChars) (p : PortRef) (chars : List Char) → WiresAreBytes wires
    → AreBytesOf chars → WiresAreBytes (with_chars wires p chars)
with_bytes wires p chars all own q = by (same_port q p)
  where
    by : (b : Bool) → AreBytesOf (if b then chars else wires q)
    by true = own
    by false = all q

edit_bytes : (wires : WireChars) (edit : Option (PortRef × Edit)) → WiresAreBytes wires
    → EditIsByte edit → WiresAreBytes (edited_chars wires edit)
edit_bytes wires None all own = all
edit_bytes wires (Some edit) all own =
    with_bytes wires edit.0 (changed edit.1 (wires edit.0)) all
    (changed_bytes edit.1 (wires edit.0) (all edit.0) own)

taken_bytes : (wires : WireChars) (peer : Option PortRef) (chars : List Char)
    → WiresAreBytes wires → WiresAreBytes (taken_chars wires peer chars)
taken_bytes wires None chars all = all
taken_bytes wires (Some p) chars all =
    with_bytes wires p (drop (length chars) (wires p)) all
    (drop_bytes (length chars) (wires p) (all p))

line_bytes : (known : Known) (links : List (PortRef × PortRef)) (wires : WireChars)
    (line : TraceLine) → IsFromScript known line → IsAtLinks known line → WiresAreBytes wires
    → WiresAreBytes (on_wires links wires line)
line_bytes known links wires (Begun line) from at all =
    edit_bytes wires (edit_of line) all (line_byte known (new_name known.names line) line from.0)
line_bytes known links wires (Stepped step) from at all = all
line_bytes known links wires (Signed (Sent p chars)) from at all =
    with_bytes wires p (wires p ++ chars) all (all-append HasByte (wires p) chars (all p) at.2)
line_bytes known links wires (Signed (Got q chars)) from at all =
    taken_bytes wires (peer_in links q) chars all
line_bytes known links wires (Signed (Fired p)) from at all = all
line_bytes known links wires (Lacked lack) from at all = all
line_bytes known links wires Ended from at all = all
line_bytes known links wires (Undetected number q e) from at all = all

stood_bytes : (links : List (PortRef × PortRef)) (wires : WireChars) (line : TraceLine)
    → StoodThere links wires line → WiresAreBytes wires → GotsBytes line
stood_bytes links wires (Signed (Got q chars)) stood all =
    (all-parts HasByte chars stood.behind (subst AreBytesOf stood.stands (all stood.peer))).0
stood_bytes links wires _ stood all = tt

-- ---- all lines

pub gots_bytes : (known : Known) (links : List (PortRef × PortRef)) (lines : List TraceLine)
    (wires : WireChars) → AllByRecursion (IsFromScript known) lines
    → AllByRecursion (IsAtLinks known) lines → WireFold links wires lines → WiresAreBytes wires
    → AllByRecursion GotsBytes lines
gots_bytes known links [] wires from at fold all = tt
gots_bytes known links (line ∷ lines) wires from at fold all = (
  stood_bytes links wires line fold.0 all,
  gots_bytes known links lines (on_wires links wires line) from.1 at.1 fold.1
      (line_bytes known links wires line from.0 at.0 all),
)
