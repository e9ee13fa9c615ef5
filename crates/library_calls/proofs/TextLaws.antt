-- What stands in a sink after all that was told was written, or a front of it.
use Rattle.std.proofs.Common.{◌≡◌, ℕ, List, [], Bool, true, false, refl, sym, subst, append-nil}
use Rattle.std.specs.Io.KnownBytes.{Appends}
use Rattle.std.proofs.KnownBytes.{Appends-nil}
use Rattle.rio_chars.specs.Fronts.{AppendsFront}
use Rattle.rio_chars.specs.Written.{Outgoing, TextTold, Writes}
use Rattle.rio_chars.proofs.WrittenLaws.{Told-end, Told-front, Writes-then}
use Rattle.library_calls.specs.PortLines.{WritesBut}

module _ (out mid last : Outgoing) (text : List ℕ) (empty : out.waiting ≡ [])
    (told : Writes out mid text) (flush : Writes mid last []) where
  -- from what was written at first on
  whole_told : TextTold out.written last.written last.waiting last.failed text
  whole_told =
      subst (TextTold out.written last.written last.waiting last.failed) (append-nil text)
      ((Writes-then text [] told flush).told out.written [] (record {
        front = [];
        rest = [];
        whole = refl;
        told = Appends-nil out.written;
        waits = λ fine. sym empty;
      }))

  pub front_told : AppendsFront out.written last.written text
  front_told =
      Told-front out.written last.written last.waiting last.failed text whole_told

  pub all_told : last.failed ≡ false → last.waiting ≡ []
      → Appends out.written last.written text
  all_told fine none =
      Told-end out.written last.written last.waiting last.failed text whole_told fine none

  pub told_but : (failed : Bool) → failed ≡ last.failed → last.waiting ≡ []
      → WritesBut failed out.written last.written text
  told_but false is none = all_told (sym is) none
  told_but true is none = front_told
