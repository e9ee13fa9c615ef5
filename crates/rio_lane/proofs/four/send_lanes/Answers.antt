use Rattle.std.proofs.Common.{◌≡◌, ℕ, List, ◌++◌, Some, codes, refl, sym, ap, ◌∙◌, subst}
use Rattle.rio_chars.specs.Written.{Writes}
use Rattle.code_groups.specs.Streams.{HaveGroups, HaveTenBits}
use Rattle.lane_rows.specs.Rows.{burst_rows}
use Rattle.lane_rows.specs.RowSending.{rows_from, after_rows}
use Rattle.lane_rows.specs.declared.sending.FourSenders.{FourSenders}
use Rattle.lane_rows.proofs.RowLaws.{have_rows, tens_rows}
use Rattle.rio_lane.specs.FourAnswers.{four_answer}
use Rattle.rio_lane.specs.LaneAnswers.{SpellSent, joined_groups}
use Rattle.rio_lane.proofs.AnswerLaws.{spelled_text, refused_text}
use Rattle.rio_lane.proofs.four.send_lanes.Goals as goal

pub returns-in_default-clause-answer : goal.returns-in_default-clause-answer
returns-in_default-clause-answer g c =
    refused_text SpellSent (codes "refused character\n")
    (λ read answer. answer ≡ four_answer c.args.ends.now read) refl
    c.words_in.ensures (rw c.in_default.is at c.in_ok-chars.ensures) c.write.ensures

pub send_rows-requires : goal.send_rows-requires
send_rows-requires g c =
    let spelled = rw c.in-Some.is at c.in_ok-chars.ensures in
    let burst =
    c.as_slice-2.ensures.value ∙ c.in_ok-burst.ensures ∙ ap burst_rows c.as_slice.ensures in
    subst HaveGroups (sym burst) (have_rows c.in-Some.chars spelled.have)

pub write_groups_line-requires : goal.write_groups_line-requires
write_groups_line-requires g c =
    let spelled = rw c.in-Some.is at c.in_ok-chars.ensures in
    let burst =
    c.as_slice-2.ensures.value ∙ c.in_ok-burst.ensures ∙ ap burst_rows c.as_slice.ensures in
    let have = subst HaveGroups (sym burst) (have_rows c.in-Some.chars spelled.have) in
    subst HaveTenBits (sym (c.as_slice-3.ensures.value ∙ c.in_ok-senders.ensures.1))
    (tens_rows c.args.ends.now.senders c.as_slice-2.result.now have)

pub returns-clause-answer : goal.returns-clause-answer
returns-clause-answer g c =
    let spelled = rw c.in-Some.is at c.in_ok-chars.ensures in
    let ends = c.args.ends.now in
    let chars = c.in-Some.chars in
    let burst =
    c.as_slice-2.ensures.value ∙ c.in_ok-burst.ensures ∙ ap burst_rows c.as_slice.ensures in
    let groups =
    c.as_slice-3.ensures.value ∙ c.in_ok-senders.ensures.1 ∙ ap (rows_from ends.senders) burst in (
      four_answer ends (Some chars),
      spelled_text SpellSent chars c.words_in.ensures spelled refl,
      ap (λ (s : FourSenders). record ends { senders = s })
          (c.in_ok-senders.ensures.0 ∙ ap (after_rows ends.senders) burst),
      subst (λ (gs : List ℕ). Writes c.args.outbox.now c.write_groups_line.new.outbox
          (joined_groups gs ++ codes "\n")) groups c.write_groups_line.ensures,
    )
