-- Why a line of a script is refused, in words.
use Rattle.std.specs.Prelude.{ℕ, ◌==◌, List, [], ◌∷◌, codes, slice_index_or, if◌then◌else◌}

-- why a line of a script is refused, by the number of the reason, from 0 on; there is no reason 0
abbrev pub script_reasons : List (List ℕ)
script_reasons =
    codes "this line is refused"
    ∷ codes "no kind of line has this form"
    ∷ codes "a number is misspelled or out of range"
    ∷ codes "a name is misspelled"
    ∷ codes "a node of an earlier line has this name"
    ∷ codes "no node of an earlier line has this name"
    ∷ codes "the node has no port of this number"
    ∷ codes "the port is linked already"
    ∷ codes "an endpoint of an earlier line has this device ID"
    ∷ codes "bytes or a character are misspelled"
    ∷ codes "the packet has a length that is not allowed: its data is an even number of bytes, at most 268 (266 after send16), and of type 8 it is 6 and up to 8 times 8 bytes"
    ∷ codes "the node is of the wrong kind for this line"
    ∷ codes "a line that sets the fabric up may not come after an event"
    ∷ codes "the port has no link"
    ∷ codes "a script may have 64 nodes, and its events may cost 100000: run N costs 20 N times the links, settle 20, pump and deliver N, others 1"
    ∷ []

abbrev pub script_reason : ℕ → List ℕ
script_reason reason = slice_index_or script_reasons reason (codes "this line is refused")

-- the same of set-up lines alone, of which each event is refused
abbrev pub set_up_reason : ℕ → List ℕ
set_up_reason reason =
    if reason == 12
    then codes "only lines that set the fabric up may stand here: rio replay carries out events"
    else (if reason == 14 then codes "a fabric may have 64 nodes" else script_reason reason)
