-- An answer that is told to a sink is there.
use Rattle.std.proofs.Common.{◌≡◌, ℕ, List, [], Bool, true, false, sym, subst, append-nil}
use Rattle.rio_chars.specs.Written.{Outgoing, Writes}
use Rattle.rio_chars.proofs.WrittenLaws.{Writes-then, Writes-whole}
use Rattle.conform_lines.specs.Stimuli.{TellsAll}

pub told_all : (out mid last : Outgoing) (text : List ℕ) → out.waiting ≡ []
    → Writes out mid text → Writes mid last [] → (failed : Bool) → failed ≡ last.failed
    → last.waiting ≡ [] → TellsAll failed out.written last.written text
told_all out mid last text empty told flush false is none =
    Writes-whole out last text empty
    (subst (Writes out last) (append-nil text) (Writes-then text [] told flush)) (sym is) none
told_all out mid last text empty told flush true is none = tt
