use Rattle.std.proofs.Common.{ℕ, List, ◌++◌, codes, refl, sym, ap, ◌∙◌, subst, inl, inr}
use Rattle.std.proofs.lemmas.Bool.Decides.{Decides-eqb}
use Rattle.std.proofs.lemmas.Slice.Eq.{strip_prefix_is}
use Rattle.rio_chars.proofs.WrittenLaws.{Writes-then}
use Rattle.rio_lane.specs.declared.ends.LaneWay.{LaneWay}
use Rattle.rio_lane.specs.LaneAnswers.{lane_says}
use Rattle.rio_lane.specs.LaneLines.{CodesText}
use Rattle.rio_lane.specs.Tasks.{task_way}
use Rattle.rio_lane.proofs.serving.tell_line.Goals as goal

pub returns-in_default-clause-answer : goal.returns-in_default-clause-answer
returns-in_default-clause-answer g c =
    let cases =
    strip_prefix_is Decides-eqb c.args.line.now c.head-head.result.now c.strip_prefix.result
    c.strip_prefix.ensures.cases in
    let none = rw c.in_default.is at cases in (
      lane_says c.args.ends.now (c.args.line.now ++ codes "\n"),
      inr (
        (λ text e. none text (e ∙ ap (λ (h : List ℕ). h ++ text) (sym c.head-head.ensures))),
        refl,
      ),
      refl,
      Writes-then _ _ c.write.ensures c.write-in_default.ensures,
    )

pub returns-clause-answer : goal.returns-clause-answer
returns-clause-answer g c =
    let cases =
    strip_prefix_is Decides-eqb c.args.line.now c.head-head.result.now c.strip_prefix.result
    c.strip_prefix.ensures.cases in
    let some = rw c.in-Some.is at cases in
    let text = c.in-Some.text.now in
    let given = c.in_ok-code_text.ensures.answer in
    let commas = c.args.place.commas in
    let ends = c.args.ends.now in
    let by_way =
    subst (λ (w : LaneWay). CodesText w commas c.head-head.result.now ends text given.0)
    c.way.ensures given.1 in (
      given.0,
      inl (
        text,
        some ∙ ap (λ (h : List ℕ). h ++ text) c.head-head.ensures,
        subst (λ (h : List ℕ). CodesText (task_way c.args.task) commas h ends text given.0)
            c.head-head.ensures by_way,
      ),
      given.2,
      given.3,
    )
