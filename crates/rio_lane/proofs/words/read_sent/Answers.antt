use Rattle.std.proofs.Common.{◌++◌, ap, sym, subst, map, ◌∙◌}
use Rattle.rio_chars.specs.CharText.{char_text_of}
use Rattle.code_groups.specs.Streams.{HaveGroups}
use Rattle.fabric_script.specs.Words.{words_left}
use Rattle.rio_lane.proofs.WordLaws.{sent_stop, read_more, have_more}
use Rattle.rio_lane.proofs.words.read_sent.Goals as goal

pub returns-in_default-read_coded : goal.returns-in_default-read_coded
returns-in_default-read_coded c =
    let done = c.loop-left.chars.items in
    sent_stop (words_left c.args.words) done c.split_word.result.0.now
    (words_left c.split_word.result.1)
    (c.loop-left.invariant.read
    ∙ ap (λ ws. map char_text_of done ++ ws) (ap words_left c.in-Some.is ∙ c.split_word.ensures))
    c.in_default-read_coded.ensures

pub loop-left-preserved : goal.loop-left-preserved
loop-left-preserved c =
    let done = c.loop-left.chars.items in
    let rest = words_left c.split_word.result.1 in
    let pushed = c.in_ok-push.ensures.items in
    record {
      read =
          read_more char_text_of (words_left c.args.words) done c.in-Some-read_coded.c
          c.split_word.result.0.now rest
          (c.loop-left.invariant.read
          ∙ ap (λ ws. map char_text_of done ++ ws)
          (ap words_left c.in-Some.is ∙ c.split_word.ensures))
          c.in-Some-read_coded.ensures.1
          ∙ ap (λ items. map char_text_of items ++ rest) (sym pushed);
      have =
          subst HaveGroups (sym pushed)
          (have_more done c.in-Some-read_coded.c c.loop-left.invariant.have
          c.in-Some-read_coded.ensures.0);
    }
