use Rattle.std.proofs.Common.{◌++◌, ap, sym, subst, map, ◌∙◌}
use Rattle.code_groups.specs.Streams.{HaveTenBits}
use Rattle.group_text.specs.GroupTexts.{group_text_of}
use Rattle.fabric_script.specs.Words.{words_left}
use Rattle.rio_lane.proofs.WordLaws.{groups_stop, read_more, tens_more}
use Rattle.rio_lane.proofs.words.read_groups.Goals as goal

pub returns-in_default-read_group : goal.returns-in_default-read_group
returns-in_default-read_group c =
    let done = c.loop-left.groups.items in
    groups_stop (words_left c.args.words) done c.split_word.result.0.now
    (words_left c.split_word.result.1)
    (c.loop-left.invariant.read
    ∙ ap (λ ws. map group_text_of done ++ ws) (ap words_left c.in-Some.is ∙ c.split_word.ensures))
    c.in_default-read_group.ensures.none

pub loop-left-preserved : goal.loop-left-preserved
loop-left-preserved c =
    let done = c.loop-left.groups.items in
    let rest = words_left c.split_word.result.1 in
    let pushed = c.in_ok-push.ensures.items in
    record {
      read =
          read_more group_text_of (words_left c.args.words) done c.in-Some-read_group.group
          c.split_word.result.0.now rest
          (c.loop-left.invariant.read
          ∙ ap (λ ws. map group_text_of done ++ ws)
          (ap words_left c.in-Some.is ∙ c.split_word.ensures))
          c.in-Some-read_group.ensures.text
          ∙ ap (λ items. map group_text_of items ++ rest) (sym pushed);
      tens =
          subst HaveTenBits (sym pushed)
          (tens_more done c.in-Some-read_group.group c.loop-left.invariant.tens
          c.in-Some-read_group.ensures.small);
    }
