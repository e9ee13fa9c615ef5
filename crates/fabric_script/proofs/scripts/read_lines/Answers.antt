use Rattle.std.proofs.Common.{◌≡◌, ◌+◌, ◌∷◌, [], length, length-append, map, sym, subst, ap, ◌∙◌, rules, tests, arith}
use Rattle.std.proofs.lemmas.List.{map-append, length-map}
use Rattle.std.proofs.lemmas.Iterator.Consumers.{YieldsList-turn, YieldsList-so_far, YieldsList-end}
use Rattle.fabric_script.specs.Known.{Known, nothing_in}
use Rattle.fabric_script.specs.Reading.{LeastHit}
use Rattle.fabric_script.specs.Scripts.{RefusedIn, KeepsLine}
use Rattle.fabric_script.specs.declared.scripts.Refusal.{Refusal}
use Rattle.fabric_script.proofs.PieceLaws.{SpellsFrom-skip, SpellsFrom-kept, RefusedAt-from_turn, pieces-road}
use Rattle.fabric_script.proofs.scripts.read_lines.Goals as goal

pub loop-text-preserved-then-is_skipped : goal.loop-text-preserved-then-is_skipped
loop-text-preserved-then-is_skipped c =
    let texts = map (λ t. t.now) c.loop-text.yielded in
    record {
      counted = simp length-append (omega arith);
      spelled = rw (map-append (λ t. t.now) c.loop-text.yielded (c.in-Some.text ∷ []))
          (SpellsFrom-skip 1 (nothing_in c.args.mode) c.loop-text.known texts c.in-Some.text.now
          c.loop-text.lines.items (sym c.if-is_skipped.ensures) c.loop-text.invariant.spelled);
      mode = c.loop-text.invariant.mode;
      orderly = c.loop-text.invariant.orderly;
      links = let few = c.loop-text.invariant.links in omega arith;
    }

pub loop-text-preserved : goal.loop-text-preserved
loop-text-preserved c =
    let texts = map (λ t. t.now) c.loop-text.yielded in
    let number : c.loop-text.number + 1 ≡ 1 + length texts =
    omega (arith, length-map c.loop-text.yielded (λ t. t.now)) in
    let keeps : KeepsLine c.loop-text.known c.loop-text.lines.items (c.loop-text.number + 1)
    c.in-Some.text.now c.keep_line.new.known c.keep_line.new.lines.items = search rules in
    let more = SpellsFrom-kept 1 (nothing_in c.args.mode) c.loop-text.known
    c.keep_line.new.known texts c.in-Some.text.now c.loop-text.lines.items
    c.keep_line.new.lines.items (c.loop-text.number + 1) (sym c.if-is_skipped.ensures) number
    keeps c.loop-text.invariant.spelled in
    let few = c.loop-text.invariant.links in
    let after = c.keep_line.ensures.links in
    record {
      counted = simp length-append (omega arith);
      spelled = rw (map-append (λ t. t.now) c.loop-text.yielded (c.in-Some.text ∷ [])) more;
      mode = ap {A = Known} (λ k. k.mode) keeps.then ∙ c.loop-text.invariant.mode;
      orderly = c.keep_line.ensures.orderly;
      links = omega (arith, few, after);
    }

pub returns-in-Err-clause-refused : goal.returns-in-Err-clause-refused
returns-in-Err-clause-refused c = λ refusal is.
    let all = pieces-road c.args.bytes.now c.loop-text.yielded _ c.loop-text.yielded_by
    (search rules) (search rules) (search rules) (λ x r q k. search (rules, tests)) in
    let turn = YieldsList-turn all c.loop-text.yielded _ c.loop-text.yielded_by _ _ c.in-Some.text
    c.in-Some.is c.next.ensures.steps in
    let so_far = YieldsList-so_far all c.loop-text.yielded _ c.loop-text.yielded_by in
    let reads : LeastHit c.loop-text.known c.in-Some.text.now c.in-Err.reason = search rules in
    let texts = map (λ t. t.now) c.loop-text.yielded in
    let here = RefusedAt-from_turn c.args.mode c.args.bytes.now (length c.loop-text.yielded) texts
    c.in-Some.text.now c.loop-text.lines.items c.loop-text.known c.in-Err.reason so_far
    turn.0 turn.1 (sym (length-map c.loop-text.yielded (λ t. t.now)))
    c.loop-text.invariant.spelled (sym c.if-is_skipped.ensures) reads in
    let answered : Refusal = record {
      line = c.loop-text.number + 1;
      reason = c.number-reason.result;
    } in
    let same : answered ≡ refusal = cc in
    subst (λ r. RefusedIn c.args.mode c.args.bytes.now r.line r.reason) same
    (rw (c.loop-text.invariant.counted, c.number-reason.ensures) here)

pub returns-clause-lines : goal.returns-clause-lines
returns-clause-lines c =
    let all = pieces-road c.args.bytes.now c.loop-text.yielded _ c.loop-text.yielded_by
    (search rules) (search rules) (search rules) (λ x r q k. search (rules, tests)) in
    let end = YieldsList-end all c.loop-text.yielded _ c.loop-text.yielded_by _ _ c.in-None.is
    c.next.ensures.steps in
    rw (← end.0) c.loop-text.invariant.spelled

pub keep_line-requires-clause-mode : goal.keep_line-requires-clause-mode
keep_line-requires-clause-mode c = λ is. c.requires.lines (sym c.loop-text.invariant.mode ∙ is)
