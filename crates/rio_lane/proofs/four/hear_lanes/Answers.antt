use Rattle.std.proofs.Common.{ℕ, List, ◌++◌, codes, refl, subst}
use Rattle.rio_chars.specs.declared.chars.Char.{Char}
use Rattle.rio_chars.specs.Written.{Writes}
use Rattle.lane_rows.specs.RowHearing.{HearsRows}
use Rattle.rio_lane.specs.FourAnswers.{FourHeard}
use Rattle.rio_lane.specs.LaneAnswers.{lane_says, SpellGroups, joined_chars}
use Rattle.rio_lane.proofs.AnswerLaws.{spelled_text, refused_text}
use Rattle.rio_lane.proofs.four.hear_lanes.Goals as goal

pub returns-in_default-clause-answer : goal.returns-in_default-clause-answer
returns-in_default-clause-answer g c =
    refused_text SpellGroups (codes "refused group\n")
    (FourHeard c.args.place.commas c.args.ends.now) refl
    c.words_in.ensures (rw c.in_default.is at c.in_ok-groups.ensures) c.write.ensures

pub returns-clause-answer : goal.returns-clause-answer
returns-clause-answer g c =
    let spelled = rw c.in-Some.is at c.in_ok-groups.ensures in
    let ends = c.args.ends.now in
    let lanes = c.in_ok-lanes.lanes in
    let heard = c.in_ok-lanes.chars in
    let groups = c.in-Some.groups.items in (
      lane_says (record ends { receivers = lanes }) (joined_chars heard ++ codes "\n"),
      spelled_text SpellGroups groups c.words_in.ensures spelled (
        heard,
        lanes,
        subst (λ (gs : List ℕ). HearsRows c.args.place.commas ends.receivers gs lanes heard)
            c.as_slice.ensures.value c.in_ok-lanes.ensures,
        refl,
      ),
      refl,
      subst (λ (cs : List Char). Writes c.args.outbox.now c.write_line.new.outbox
          (joined_chars cs ++ codes "\n")) c.as_slice-2.ensures c.write_line.ensures,
    )
