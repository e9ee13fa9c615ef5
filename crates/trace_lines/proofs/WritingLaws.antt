-- What two calls print, one after the other.
use Rattle.std.proofs.Common.{◌≡◌, ℕ, List, ◌++◌, subst, append_assoc}
use Rattle.std.specs.Prelude.{codes}
use Rattle.rio_chars.specs.HexText.{hex_of}
use Rattle.rio_chars.specs.Written.{Outgoing, Writes}
use Rattle.rio_chars.proofs.WrittenLaws.{Writes-then}

regrouped : (x a h n : List ℕ) → x ++ (a ++ (h ++ n)) ≡ x ++ a ++ h ++ n
regrouped x a h n = simp append_assoc

-- a packet ends a line that begins with a word and a name
pub Writes-packet : {a b c d : Outgoing} (word name packet : List ℕ) → Writes a b word
    → Writes b c name
    → Writes c d (codes " " ++ (hex_of packet ++ codes "\n"))
    → Writes a d ((word ++ name ++ codes " " ++ hex_of packet) ++ codes "\n")
Writes-packet {a} {b} {c} {d} word name packet first second last =
    subst (Writes a d)
    (regrouped (word ++ name) (codes " ") (hex_of packet) (codes "\n"))
    (Writes-then (word ++ name) _ (Writes-then word name first second) last)
