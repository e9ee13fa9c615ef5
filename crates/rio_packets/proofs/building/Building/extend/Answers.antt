use Rattle.std.proofs.Common.{◌≡◌, ℕ, ◌-◌, ◌++◌, min, List, length, take, drop, ap, ◌∙◌, arith}
use Rattle.std.proofs.lemmas.List.{take_min, drop_min}
use Rattle.rio_packets.specs.declared.building.Building.TheInside.{Inside}
use Rattle.rio_packets.specs.Register.{fed_all, running}
use Rattle.rio_packets.proofs.BuildingLaws.{length-as_they_came, half_more, half_same, IsBuilding-more}
use Rattle.rio_packets.proofs.building.Building.extend.Goals.{then-before_middle-gt0, else-before_middle-gt0}
use Rattle.rio_packets.proofs.building.Building.extend.Goals as goal

pub invariant_of-self : goal.invariant_of-self
invariant_of-self c =
    let is = c.self.inside in
    let more = c.args.more.now in
    let size = length-as_they_came is.first is.form.items in
    let k = 82 - length is.form.items in
    let least : c.min.result ≡ min k (length more) = omega arith in
    let front : c.split_at.result.0.now ≡ take k more =
    c.split_at.ensures.front ∙ ap (λ n. take n more) least ∙ take_min k more in
    let back : c.split_at.result.1.now ≡ drop k more =
    c.split_at.ensures.back ∙ ap (λ n. drop n more) least ∙ drop_min k more in
    let after = c.run-register.ensures ∙ ap (fed_all is.register) front in
    let keeps : c.if-before_middle-gt0.self-inside.first ≡ is.first =
    elim c.if-before_middle-gt0.branch [
      | then-before_middle-gt0 w ↦ ap (λ (i : Inside). i.first) w.self-inside-is
      | else-before_middle-gt0 w ↦ ap (λ (i : Inside). i.first) w.self-inside-is
    ] in
    let form : c.if-before_middle-gt0.self-inside.form.items ≡ is.form.items =
    elim c.if-before_middle-gt0.branch [
      | then-before_middle-gt0 w ↦ ap (λ (i : Inside). i.form.items) w.self-inside-is
      | else-before_middle-gt0 w ↦ ap (λ (i : Inside). i.form.items) w.self-inside-is
    ] in
    let half : c.if-before_middle-gt0.self-inside.middle
    ≡ running (take 82 (is.form.items ++ more)) =
    elim c.if-before_middle-gt0.branch [
      | then-before_middle-gt0 w ↦ ap (λ (i : Inside). i.middle) w.self-inside-is
          ∙ half_more is.form.items more is.register c.run-register.result (omega arith)
          c.self.invariant.runs after
      | else-before_middle-gt0 w ↦ ap (λ (i : Inside). i.middle) w.self-inside-is
          ∙ half_same is.form.items more is.middle (omega arith) c.self.invariant.half
    ] in
    IsBuilding-more is.first _ is.form.items more _ k is.register is.middle c.run-register.result _
    _ c.self.invariant keeps
    (c.append.ensures ∙ ap (λ (p : List ℕ). p ++ more) form)
    (λ some. let old =
    ap length c.self.view_is in let h = c.requires.behind (omega arith) in omega arith)
    after (c.run-self-inside.ensures ∙ ap (fed_all c.run-register.result) back) half
