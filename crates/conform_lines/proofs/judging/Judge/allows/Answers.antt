use Rattle.std.proofs.Common.{◌≡◌, ◌+◌, refl, sym, ◌∙◌, subst, rules}
use Rattle.conform_lines.specs.Tolerances.{IsInTime}
use Rattle.conform_lines.proofs.CountLaws.{made}
use Rattle.conform_lines.proofs.JudgeLaws.{right_comes, came_comes, allowed_says, allowed_pays, no_iff}
use Rattle.conform_lines.proofs.judging.Judge.allows.Goals as goal

pub returns-then-not-says_alike-clause-other : goal.returns-then-not-says_alike-clause-other
returns-then-not-says_alike-clause-other c = λ none next allowed.
    let right = c.in_ok-right.right in
    let came = c.in_ok-came.came in
    let says = allowed_says c.self.view_is c.args.leeway c.args.right.now c.args.came.now
    (made right.sent.items right.other.items c.count_answer.new.reader.place)
    (made came.sent.items came.other.items c.count_answer-2.new.reader.place)
    c.in_ok-right.ensures c.in_ok-came.ensures next allowed in
    no_iff c.says_alike.result c.if-not-says_alike.true c.says_alike.ensures (search rules)

pub returns-clause-allowed : goal.returns-clause-allowed
returns-clause-allowed c = λ pays.
    let right = c.in_ok-right.right in
    let came = c.in_ok-came.came in
    let right_counts =
    made right.sent.items right.other.items c.count_answer.new.reader.place in
    let came_counts = made came.sent.items came.other.items c.count_answer-2.new.reader.place in
    record {
      right_counts = right_counts;
      came_counts = came_counts;
      right_comes =
          right_comes c.self.view_is c.args.leeway c.args.right.now c.args.came.now right_counts
          came_counts c.in_ok-right.ensures c.in_ok-came.ensures;
      came_comes =
          came_comes c.self.view_is c.args.leeway c.args.right.now c.args.came.now right_counts
          came_counts c.in_ok-right.ensures c.in_ok-came.ensures;
      says = search rules;
      right_place = refl;
      came_place = refl;
      turns = search rules;
      pays = search rules;
      in_time = (c.pay_in_time.ensures.pays pays).1;
    }

pub returns-clause-other : goal.returns-clause-other
returns-clause-other c = λ none next allowed.
    let right = c.in_ok-right.right in
    let came = c.in_ok-came.came in
    let pays = allowed_pays c.self.view_is c.args.leeway c.args.right.now c.args.came.now
    (made right.sent.items right.other.items c.count_answer.new.reader.place)
    (made came.sent.items came.other.items c.count_answer-2.new.reader.place)
    c.in_ok-right.ensures c.in_ok-came.ensures next allowed in
    let turns : c.in-Some.turns ≡ c.args.self.now.turns + c.args.leeway.turns = search rules in
    c.pay_in_time.ensures.other none next.owed (search rules)
    (subst (λ t. IsInTime t next.owed) (allowed.turns ∙ sym turns) allowed.in_time)
