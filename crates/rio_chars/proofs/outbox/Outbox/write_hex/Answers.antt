use Rattle.std.proofs.Common.{[], ◌++◌, ℕ, List, ap, refl, sym, subst, ◌∙◌, append_assoc}
use Rattle.rio_chars.specs.HexText.{hex_of}
use Rattle.rio_chars.specs.Written.{Writes}
use Rattle.rio_chars.proofs.HexLaws.{hex_of-append}
use Rattle.rio_chars.proofs.WrittenLaws.{Writes-nil, Writes-then}
use Rattle.rio_chars.proofs.outbox.Outbox.write_hex.Goals as goal

pub loop-rest-init : goal.loop-rest-init
loop-rest-init g c = ([], refl, Writes-nil c.args.self.now)

pub loop-rest-preserved : goal.loop-rest-preserved
loop-rest-preserved g c =
    let loop = c.loop-rest in
    let call = c.write_hex_part in
    let done = loop.invariant.0 in
    let part = c.split_at.result.0.now in
    let Whole : List ℕ → Type 0 =
    λ text. Writes c.args.self.now call.new.self text in (
      done ++ part,
      loop.invariant.1
          ∙ ap (λ (l : List ℕ). done ++ l) c.split_at.ensures.by_index.0
          ∙ sym (append_assoc done part c.split_at.result.1.now),
      subst Whole (sym (hex_of-append done part)) (Writes-then _ _ loop.invariant.2 call.ensures),
    )

pub returns : goal.returns
returns g c =
    let loop = c.loop-rest in
    let call = c.write_hex_part-2 in
    let done = loop.invariant.0 in
    let Whole : List ℕ → Type 0 =
    λ text. Writes c.args.self.now call.new.self text in
    subst Whole (sym (ap hex_of loop.invariant.1 ∙ hex_of-append done loop.rest.now))
    (Writes-then _ _ loop.invariant.2 call.ensures)
