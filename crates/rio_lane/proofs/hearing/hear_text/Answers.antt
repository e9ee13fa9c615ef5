use Rattle.std.proofs.Common.{ℕ, List, ◌++◌, codes, refl, subst}
use Rattle.rio_chars.specs.declared.chars.Char.{Char}
use Rattle.rio_chars.specs.Written.{Writes}
use Rattle.lane_sync.specs.Syncing.{LaneHearsAll}
use Rattle.rio_lane.specs.LaneAnswers.{lane_says, HeardAnswer, SpellGroups, joined_chars}
use Rattle.rio_lane.proofs.AnswerLaws.{spelled_text, refused_text}
use Rattle.rio_lane.proofs.hearing.hear_text.Goals as goal

pub returns-in_default-clause-answer : goal.returns-in_default-clause-answer
returns-in_default-clause-answer g c =
    refused_text SpellGroups (codes "refused group\n")
    (HeardAnswer c.args.place.commas c.args.head.now c.args.ends.now) refl
    c.words_in.ensures (rw c.in_default.is at c.in_ok-groups.ensures) c.write.ensures

pub returns-clause-answer : goal.returns-clause-answer
returns-clause-answer g c =
    let spelled = rw c.in-Some.is at c.in_ok-groups.ensures in
    let ends = c.args.ends.now in
    let head = c.args.head.now in
    let state = c.in_ok-state.state in
    let heard = c.in_ok-state.chars in
    let groups = c.in-Some.groups.items in (
      lane_says (record ends { receiver = state }) (head ++ joined_chars heard ++ codes "\n"),
      spelled_text SpellGroups groups c.words_in.ensures spelled (
        heard,
        state,
        subst (λ (gs : List ℕ). LaneHearsAll c.args.place.commas ends.receiver gs state heard)
            c.as_slice.ensures.value c.in_ok-state.ensures,
        refl,
      ),
      refl,
      subst (λ (cs : List Char). Writes c.args.outbox.now c.write_line.new.outbox
          (head ++ joined_chars cs ++ codes "\n")) c.as_slice-2.ensures c.write_line.ensures,
    )
