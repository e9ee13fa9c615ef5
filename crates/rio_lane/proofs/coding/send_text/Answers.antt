use Rattle.std.proofs.Common.{◌≡◌, ℕ, List, ◌++◌, Some, codes, refl, sym, ap, ◌∙◌, subst}
use Rattle.rio_chars.specs.Written.{Writes}
use Rattle.code_groups.specs.declared.disparity.Disparity.{Disparity}
use Rattle.code_groups.specs.Streams.{HaveGroups, HaveTenBits, groups_from, after_chars}
use Rattle.rio_lane.specs.LaneAnswers.{sent_answer, SpellSent, joined_groups, burst_chars}
use Rattle.rio_lane.proofs.AnswerLaws.{spelled_text, refused_text}
use Rattle.rio_lane.proofs.WordLaws.{have_burst, groups_tens}
use Rattle.rio_lane.proofs.coding.send_text.Goals as goal

pub returns-in_default-clause-answer : goal.returns-in_default-clause-answer
returns-in_default-clause-answer g c =
    refused_text SpellSent (codes "refused character\n")
    (λ read answer. answer ≡ sent_answer c.args.head.now c.args.ends.now read) refl
    c.words_in.ensures (rw c.in_default.is at c.in_ok-chars.ensures) c.write.ensures

pub encode_all-requires : goal.encode_all-requires
encode_all-requires g c =
    let spelled = rw c.in-Some.is at c.in_ok-chars.ensures in
    let burst =
    c.as_slice-2.ensures.value ∙ c.in_ok-burst.ensures ∙ ap burst_chars c.as_slice.ensures in
    subst HaveGroups (sym burst) (have_burst c.in-Some.chars spelled.have)

pub write_groups_line-requires : goal.write_groups_line-requires
write_groups_line-requires g c =
    let spelled = rw c.in-Some.is at c.in_ok-chars.ensures in
    let burst =
    c.as_slice-2.ensures.value ∙ c.in_ok-burst.ensures ∙ ap burst_chars c.as_slice.ensures in
    let have = subst HaveGroups (sym burst) (have_burst c.in-Some.chars spelled.have) in
    subst HaveTenBits (sym (c.as_slice-3.ensures.value ∙ c.in_ok-groups.ensures))
    (groups_tens c.args.ends.now.sender c.as_slice-2.result.now have)

pub after_all-ends-requires : goal.after_all-ends-requires
after_all-ends-requires g c =
    let spelled = rw c.in-Some.is at c.in_ok-chars.ensures in
    let burst =
    c.as_slice-4.ensures.value ∙ c.in_ok-burst.ensures ∙ ap burst_chars c.as_slice.ensures in
    subst HaveGroups (sym burst) (have_burst c.in-Some.chars spelled.have)

pub returns-clause-answer : goal.returns-clause-answer
returns-clause-answer g c =
    let spelled = rw c.in-Some.is at c.in_ok-chars.ensures in
    let ends = c.args.ends.now in
    let head = c.args.head.now in
    let chars = c.in-Some.chars in
    let burst =
    c.as_slice-2.ensures.value ∙ c.in_ok-burst.ensures ∙ ap burst_chars c.as_slice.ensures in
    let last =
    c.as_slice-4.ensures.value ∙ c.in_ok-burst.ensures ∙ ap burst_chars c.as_slice.ensures in
    let groups =
    c.as_slice-3.ensures.value ∙ c.in_ok-groups.ensures ∙ ap (groups_from ends.sender) burst in (
      sent_answer head ends (Some chars),
      spelled_text SpellSent chars c.words_in.ensures spelled refl,
      ap (λ (d : Disparity). record ends { sender = d })
          (c.after_all-ends.ensures ∙ ap (after_chars ends.sender) last),
      subst (λ (gs : List ℕ). Writes c.args.outbox.now c.write_groups_line.new.outbox
          (head ++ joined_groups gs ++ codes "\n")) groups c.write_groups_line.ensures,
    )
