use Rattle.std.proofs.Common.{◌==◌, Contains, length, sym, subst, rules, tests}
use Rattle.std.specs.List.{slice_split}
use Rattle.std.proofs.lemmas.Iterator.Consumers.{YieldsList-turn}
use Rattle.std.proofs.lemmas.List.Elements.{Contains-get_or}
use Rattle.rio_words.proofs.WordRoads.{words-road}
use Rattle.rio_words.proofs.bad_word.bad_word_of.Goals as goal

pub returns-then-is_none : goal.returns-then-is_none
returns-then-is_none c =
    let all =
    words-road c.args.text.now c.loop-word.yielded _ c.loop-word.yielded_by (search rules)
    (search rules) (search rules) (λ x r q k. search (rules, tests)) in
    let turn =
    YieldsList-turn all c.loop-word.yielded _ c.loop-word.yielded_by _ _ c.in-Some.word
    c.in-Some.is c.next.ensures.steps in
    let pieces = slice_split (λ byte. byte == 32) c.args.text.now in
    record {
      there =
          subst (λ w. Contains pieces w) (sym turn.1)
          (Contains-get_or pieces (length c.loop-word.yielded) c.in-Some.word.now turn.0);
      some = search (rules, tests);
      bad = search (rules, tests);
    }
