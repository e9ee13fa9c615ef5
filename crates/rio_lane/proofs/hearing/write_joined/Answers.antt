use Rattle.std.proofs.Common.{List, sym, subst}
use Rattle.rio_chars.specs.declared.chars.Char.{Char}
use Rattle.rio_chars.specs.Written.{Writes}
use Rattle.rio_chars.proofs.WrittenLaws.{Writes-nil}
use Rattle.rio_lane.specs.LaneAnswers.{joined_chars}
use Rattle.rio_lane.proofs.WordLaws.{chars_told, no_chars}
use Rattle.rio_lane.proofs.hearing.write_joined.Goals as goal

pub returns-in_default : goal.returns-in_default
returns-in_default g c =
    let out = c.args.outbox.now in
    let empty = no_chars c.args.chars.now c.in_default.len_below in
    subst (λ (cs : List Char). Writes out out (joined_chars cs)) (sym empty) (Writes-nil out)

pub returns : goal.returns
returns g c =
    let text = rw c.char_text.ensures at c.write.ensures in
    chars_told c.args.chars.now _ c.in-len1-up.len_at_least text c.write_chars.ensures
