use Rattle.std.proofs.Common.{◌≡◌, ◌+◌, ◌++◌, ℕ, List, length, take, drop, sym, ap, ◌∙◌, arith}
use Rattle.std.proofs.lemmas.List.{take_rest}
use Rattle.rio_chars.proofs.Given.{given_front, given_end}
use Rattle.rio_chars.proofs.plain.PlainSourceSource.read.Goals as goal

pub returns-clause-bytes : goal.returns-clause-bytes
returns-clause-bytes c =
    let bytes = c.self.inside.bytes.items in
    let begin = c.self.inside.begin in
    let count = c.min-count.result in
    let given : take count c.copy_front.new.piece ≡ take count (drop begin bytes) =
    c.copy_front.ensures.front
    ∙ ap (take count) (take_rest c.deref.result.now begin)
    ∙ ap (λ (l : List ℕ). take count (drop begin l)) c.deref.ensures.value in (
      sym c.self.view_is
          ∙ given_front bytes begin count
          ∙ ap (λ (l : List ℕ). l ++ drop (begin + count) bytes) (sym given),
      λ none some. given_end bytes begin count (length c.args.piece.now) (omega arith) (omega arith)
          none,
    )
