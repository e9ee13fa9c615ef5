use Rattle.std.proofs.Common.{◌≡◌, ◌+◌, ◌-◌, [], length, sym, ap, ◌∙◌, arith, eqb-true}
use Rattle.link_model.specs.Fronts.{Front, telling_front}
use Rattle.rio_framer.specs.Framing.{framing_after}
use Rattle.rio_framer.specs.Giving.{told_of_events}
use Rattle.rio_framer.proofs.PartLaws.{part-quiet, part-tells, part-none}
use Rattle.rio_framer.proofs.framer.Framer.read_run.Goals as goal

pub loop-rest-preserved : goal.loop-rest-preserved
loop-rest-preserved c =
    let part = c.read_part-count.ensures in
    let quiet = part.quiet c.in-Nothing.is in
    let within = c.loop-rest.invariant.within in
    let few = part.within in
    record {
      stands = quiet.0;
      within = omega arith;
      front =
          part-quiet c.loop-rest.self.place _ c.loop-rest.rest.now _ (length c.args.chars.now) _
          within part.within c.loop-rest.invariant.front quiet.1
          _ c.split_at.ensures.back (omega arith);
    }

pub returns-in_default : goal.returns-in_default
returns-in_default c =
    let part = c.read_part-count.ensures in
    let tells = part.tells c.in_default.not-Nothing in
    let within = c.loop-rest.invariant.within in
    let few = part.within in
    let some = part.some in
    let rest = c.loop-rest.rest.now in
    let n = length c.args.chars.now - length rest in
    let size : n + length rest ≡ length c.args.chars.now = omega arith in
    let is =
    part-tells c.loop-rest.self.place rest c.read_part-count.result.0 (length c.args.chars.now)
    n _ tells.0 c.loop-rest.invariant.front few size in
    let count : length c.args.chars.now - length c.split_at.result.1.now
    ≡ n + c.read_part-count.result.0 =
    omega arith in
    record {
      count = count ∙ ap (λ (f : Front). f.count) is;
      told = tells.1 ∙ ap (λ (f : Front). told_of_events f.step.gives) is;
      state = tells.2 ∙ ap (λ (f : Front). framing_after f.step) is;
      within = omega arith;
      some = λ _. omega arith;
    }

all : (c : goal.After-loop-rest)
    → record {
      count = length c.args.chars.now;
      step = record { place = c.loop-rest.self.place; gives = [] };
    }
    ≡ telling_front c.args.self.now.place c.args.chars.now
all c = part-none c.loop-rest.self.place c.loop-rest.rest.now (length c.args.chars.now) _
    (eqb-true (length c.loop-rest.rest.now) 0 (sym c.is_empty.ensures ∙ c.loop-rest-test.false))
    c.loop-rest.invariant.within c.loop-rest.invariant.front

pub returns-clause-count : goal.returns-clause-count
returns-clause-count c = ap (λ (f : Front). f.count) (all c)

pub returns-clause-told : goal.returns-clause-told
returns-clause-told c = ap (λ (f : Front). told_of_events f.step.gives) (all c)

pub returns-clause-state : goal.returns-clause-state
returns-clause-state c =
    c.loop-rest.invariant.stands ∙ ap (λ (f : Front). framing_after f.step) (all c)
