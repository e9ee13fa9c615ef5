-- The packet that the last character ended.
use Rattle.std.proofs.Common.{◌≡◌, ℕ, ◌≤◌, Bool, true, false, Some, Result, List, length, sym, ap, ◌∙◌, subst, refl}
use Rattle.std.specs.Prelude.{IsSome}
use Rattle.link_model.specs.Prelude.{Cause, checked}
use Rattle.link_model.specs.declared.reading_kinds.Pending.{Pending}
use Rattle.link_model.specs.Events.{checked_event}
use Rattle.link_model.proofs.EventLaws.{event-checked}
use Rattle.rio_framer.specs.declared.framer.FramerMode.{FramerMode}
use Rattle.rio_framer.specs.Framing.{Framing, framing_of}

-- it is told by what its bytes are answered with
pub ended-true : (m : FramerMode) (bytes : List ℕ) (p : Pending) (e : Bool) (f : Framing)
    (answer : Result (ℕ × List ℕ) Cause)
    → framing_of m bytes p e ≡ f → e ≡ true → length bytes ≤ 276 → checked bytes ≡ answer
    → f.ended ≡ Some (checked_event answer)
ended-true m bytes p e f answer is ends most answers =
    ap (λ (g : Framing). g.ended) (sym is) ∙ ap (λ (b : Bool). (framing_of m bytes p b).ended) ends
    ∙ ap Some (event-checked bytes most ∙ ap checked_event answers)

pub ended-some : (m : FramerMode) (bytes : List ℕ) (p : Pending) (e : Bool) (f : Framing)
    → framing_of m bytes p e ≡ f → IsSome f.ended → e ≡ true
ended-some m bytes p true f is some = refl
ended-some m bytes p false f is some = subst (λ (g : Framing). IsSome g.ended) (sym is) some
