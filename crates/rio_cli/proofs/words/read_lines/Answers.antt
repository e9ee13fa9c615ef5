use Rattle.std.proofs.Common.{◌≡◌, ◌++◌, ◌∷◌, [], ◌+◌, length, length-append, map, sym, ap, ◌∙◌, subst, append-nil, rules, tests, arith}
use Rattle.std.specs.List.{flat_map}
use Rattle.std.proofs.lemmas.List.{map-append, length-map}
use Rattle.std.proofs.lemmas.Grind.{flat_map-append}
use Rattle.std.proofs.lemmas.Iterator.Consumers.{YieldsList-turn, YieldsList-so_far, YieldsList-end}
use Rattle.rio_cli.specs.Decoding.{words_in_line, AreTexts, SpellsChars}
use Rattle.rio_cli.proofs.WordLaws.{AreTexts-append, BadWordAt-from_turn, few_chars, lines-road}
use Rattle.rio_cli.proofs.words.read_lines.Goals as goal

pub loop-text-preserved : goal.loop-text-preserved
loop-text-preserved c =
    let h = c.loop-text.invariant in
    let new = c.in_ok-read_line.ensures.good c.if-not-branch.false in
    let texts = map (λ t. t.now) c.loop-text.yielded in
    let all =
    ap (flat_map words_in_line) (map-append (λ t. t.now) c.loop-text.yielded (c.in-Some.text ∷ []))
    ∙ flat_map-append words_in_line texts (c.in-Some.text.now ∷ []) in
    let here : flat_map words_in_line (c.in-Some.text.now ∷ []) ≡ words_in_line c.in-Some.text.now =
    append-nil (words_in_line c.in-Some.text.now) in
    record {
      counted = simp length-append (omega arith);
      spelled =
          subst (λ cs. AreTexts
          (flat_map words_in_line (map (λ t. t.now) (c.loop-text.yielded ++ c.in-Some.text ∷ [])))
          cs)
          (sym new.1)
          (subst (λ ws. AreTexts ws (c.loop-text.chars.items ++ new.0)) (sym all)
          (AreTexts-append (flat_map words_in_line texts)
          (flat_map words_in_line (c.in-Some.text.now ∷ []))
          c.loop-text.chars.items new.0 h.spelled
          (subst (λ ws. AreTexts ws new.0) (sym here) new.2)));
    }

pub returns-then-not-branch-clause-bad : goal.returns-then-not-branch-clause-bad
returns-then-not-branch-clause-bad c = λ line is.
    let all =
    lines-road c.args.bytes.now c.loop-text.yielded _ c.loop-text.yielded_by (search rules)
    (search rules) (search rules) (λ x r q k. search (rules, tests)) in
    let turn =
    YieldsList-turn all c.loop-text.yielded _ c.loop-text.yielded_by _ _ c.in-Some.text
    c.in-Some.is c.next.ensures.steps in
    let so_far = YieldsList-so_far all c.loop-text.yielded _ c.loop-text.yielded_by in
    let texts = map (λ t. t.now) c.loop-text.yielded in
    let counted = c.loop-text.invariant.counted in
    let number : c.loop-text.line + 1 ≡ line = cc in
    BadWordAt-from_turn c.args.bytes.now (length c.loop-text.yielded) texts c.in-Some.text.now
    c.loop-text.chars.items line so_far turn.0 turn.1
    (sym (length-map c.loop-text.yielded (λ t. t.now))) c.loop-text.invariant.spelled
    (c.in_ok-read_line.ensures.bad c.if-not-branch.true) (sym number ∙ ap (λ n. n + 1) counted)

pub returns-clause-chars : goal.returns-clause-chars
returns-clause-chars c =
    let all =
    lines-road c.args.bytes.now c.loop-text.yielded _ c.loop-text.yielded_by (search rules)
    (search rules) (search rules) (λ x r q k. search (rules, tests)) in
    let end =
    YieldsList-end all c.loop-text.yielded _ c.loop-text.yielded_by _ _ c.in-None.is
    c.next.ensures.steps in
    subst (λ ts. AreTexts (flat_map words_in_line ts) c.loop-text.chars.items) end.0
    c.loop-text.invariant.spelled

pub returns-clause-count : goal.returns-clause-count
returns-clause-count c =
    let all =
    lines-road c.args.bytes.now c.loop-text.yielded _ c.loop-text.yielded_by (search rules)
    (search rules) (search rules) (λ x r q k. search (rules, tests)) in
    let end =
    YieldsList-end all c.loop-text.yielded _ c.loop-text.yielded_by _ _ c.in-None.is
    c.next.ensures.steps in
    let spelled : SpellsChars c.args.bytes.now c.loop-text.chars.items =
    subst (λ ts. AreTexts (flat_map words_in_line ts) c.loop-text.chars.items) end.0
    c.loop-text.invariant.spelled in
    let few = few_chars c.args.bytes.now c.loop-text.chars.items spelled in
    omega (arith, c.requires)
