use Rattle.std.proofs.Common.{◌++◌, ◌∷◌, [], map, filter, sym, ap, ◌∙◌, subst, append-nil, append_assoc, rules, tests}
use Rattle.std.proofs.lemmas.List.{map-append}
use Rattle.std.proofs.lemmas.List.Elements.{filter-append}
use Rattle.std.proofs.lemmas.Iterator.Consumers.{YieldsList-turn, YieldsList-end}
use Rattle.rio_cli.specs.Decoding.{is_word, word_in, words_in_line, AreTexts}
use Rattle.rio_words.proofs.WordRoads.{words-road}
use Rattle.rio_cli.proofs.WordLaws.{AreTexts-append, bad_word, spelled_behind}
use Rattle.rio_cli.proofs.words.read_line.Goals as goal

pub loop-word-init : goal.loop-word-init
loop-word-init c = ([], sym (append-nil _), tt)

pub loop-word-preserved : goal.loop-word-preserved
loop-word-preserved c =
    let h = c.loop-word.invariant in
    let new = c.in_ok-read_word.ensures.good c.if-not-branch.false in
    let words = map (λ w. w.now) c.loop-word.yielded in
    let all =
    ap (filter is_word) (map-append (λ w. w.now) c.loop-word.yielded (c.in-Some.word ∷ []))
    ∙ filter-append is_word words (c.in-Some.word.now ∷ []) in (
      h.0 ++ new.0,
      new.1 ∙ ap (λ xs. xs ++ new.0) h.1 ∙ append_assoc _ h.0 new.0,
      subst (λ ws. AreTexts ws (h.0 ++ new.0)) (sym all)
          (AreTexts-append (filter is_word words) (word_in c.in-Some.word.now) h.0 new.0 h.2 new.2),
    )

pub returns-then-not-branch-clause-bad : goal.returns-then-not-branch-clause-bad
returns-then-not-branch-clause-bad c = λ is h.
    let left = c.in_ok-left.left.now in
    let front = c.in_ok-left.ensures in
    let all =
    words-road left c.loop-word.yielded _ c.loop-word.yielded_by (search rules) (search rules)
    (search rules) (λ x r q k. search (rules, tests)) in
    let turn =
    YieldsList-turn all c.loop-word.yielded _ c.loop-word.yielded_by _ _ c.in-Some.word
    c.in-Some.is c.next.ensures.steps in
    bad_word left c.in-Some.word.now _ turn.0 turn.1
    (c.in_ok-read_word.ensures.bad c.if-not-branch.true)
    (spelled_behind front.1 (words_in_line left) h.0 (subst (λ ws. AreTexts ws h.0) front.3 h.1))

pub returns-clause-good : goal.returns-clause-good
returns-clause-good c = λ is.
    let left = c.in_ok-left.left.now in
    let front = c.in_ok-left.ensures in
    let all =
    words-road left c.loop-word.yielded _ c.loop-word.yielded_by (search rules) (search rules)
    (search rules) (λ x r q k. search (rules, tests)) in
    let end =
    YieldsList-end all c.loop-word.yielded _ c.loop-word.yielded_by _ _ c.in-None.is
    c.next.ensures.steps in
    let h = c.loop-word.invariant in (
      front.0 ++ h.0,
      h.1 ∙ ap (λ xs. xs ++ h.0) front.2 ∙ append_assoc _ front.0 h.0,
      subst (λ ws. AreTexts ws (front.0 ++ h.0)) (sym front.3) (AreTexts-append front.1
          (words_in_line left) front.0 h.0 front.4
          (subst (λ ws. AreTexts (filter is_word ws) h.0) end.0 h.2)),
    )
