-- What a growing sink has at the end.
use Rattle.std.proofs.Common.{◌≡◌, ℕ, Some, List, [], ◌++◌, false, ◌∙◌, append-nil, subst}
use Rattle.std.specs.Io.KnownBytes.{Appends}
use Rattle.rio_chars.specs.Written.{Outgoing, Writes}
use Rattle.rio_chars.proofs.WrittenLaws.{Writes-then, Writes-whole}

-- if no write failed and nothing waits, it has all that was told to a new outbox
pub whole_text : (start told out : Outgoing) (text bytes : List ℕ) → start.written ≡ Some []
    → start.waiting ≡ [] → Writes start told text → Writes told out [] → out.waiting ≡ []
    → out.failed ≡ false → out.written ≡ Some bytes → bytes ≡ text
whole_text start told out text bytes new empty once flushed none fine is =
    let all = Writes-whole start out (text ++ []) empty (Writes-then text [] once flushed) fine none
    in
    let known : Appends (Some []) (Some bytes) (text ++ []) =
    subst (λ w. Appends w (Some bytes) (text ++ [])) new
    (subst (λ w. Appends start.written w (text ++ [])) is all) in
    known ∙ append-nil text
