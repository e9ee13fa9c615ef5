use Rattle.std.proofs.Common.{◌≡◌, ◌++◌, ℕ, map}
use Rattle.std.specs.List.{flat_map}
use Rattle.link_model.specs.declared.event.Event.{Event}
use Rattle.conform_lines.specs.Counting.{counted_event}
use Rattle.conform_lines.proofs.counting.count_chars.Given as goal

abbrev pub invariant-loop-found : goal.invariant-loop-found
invariant-loop-found l = l.sent.items ≡ l.initial.sent.items
    ++ flat_map counted_event (map (λ (e : ℕ × Event). e.1) l.yielded)
