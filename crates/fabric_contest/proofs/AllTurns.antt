-- The laws of all turns, over the turns of a number.
use Rattle.std.proofs.Common.{◌≡◌, ℕ, List, [], ◌∷◌, map, refl, ap, subst, ◌∙◌}
use Rattle.fabric_script.specs.declared.lines.Numbered.{Numbered}
use Rattle.link_watch.specs.declared.side.Side.{Side}
use Rattle.link_watch.specs.declared.side.Side.TheVariants.{A, B}
use Rattle.link_watch.specs.Sides.{other_side}
use Rattle.contest_machine.specs.Keeping.{IsNew, HoldsOn}
use Rattle.contest_machine.specs.Turns.{Both, turn_of, after_turns}
use Rattle.contest_machine.proofs.Keeping.Apart.{turns_keep_apart}
use Rattle.contest_machine.proofs.Keeping.Greater.{greater_holds_on}
use Rattle.fabric_contest.specs.Contests.{new_host, new_both}
use Rattle.fabric_contest.specs.Laws.{ContestsKeepApart, FirstHoldsOn, SecondHoldsOn}
use Rattle.fabric_contest.specs.Orders.{seeded_turns}
use Rattle.fabric_contest.proofs.Distinct.{ids_differ}

new_is : (lines : List Numbered) (node : ℕ) → IsNew (new_host lines node)
new_is lines node =
    record { devices = refl; tried = refl; todo = refl; path = refl; stage = refl }

pub keep_apart : ContestsKeepApart
keep_apart names lines first second seed hosts =
    turns_keep_apart (new_both lines first second) (seeded_turns seed) (new_is lines first)
    (new_is lines second)
    (ids_differ names lines hosts.passes first second hosts.first_host hosts.second_host
    hosts.differ)
    hosts.first_host.has_id hosts.second_host.has_id

pub first_holds_on : FirstHoldsOn
first_holds_on names lines first second seed hosts free less =
    greater_holds_on (new_both lines first second) (seeded_turns seed) (new_is lines first)
    (new_is lines second) less hosts.first_host.has_id free

-- ---- the hosts change places

abbrev pub flip : Both → Both
flip both =
    record { first = both.second; second = both.first; registers = both.registers }

flip_turn : (both : Both) (side : Side)
    → turn_of (flip both) (other_side side) ≡ flip (turn_of both side)
flip_turn both A = refl
flip_turn both B = refl

pub flip_turns : (both : Both) (turns : List Side)
    → after_turns (flip both) (map other_side turns) ≡ flip (after_turns both turns)
flip_turns both [] = refl
flip_turns both (side ∷ turns) =
    ap (λ (b : Both). after_turns b (map other_side turns)) (flip_turn both side)
    ∙ flip_turns (turn_of both side) turns

pub second_holds_on : SecondHoldsOn
second_holds_on names lines first second seed hosts free less =
    subst (λ (b : Both). HoldsOn b.first.stage)
    (flip_turns (new_both lines first second) (seeded_turns seed))
    (greater_holds_on (flip (new_both lines first second)) (map other_side (seeded_turns seed))
    (new_is lines second) (new_is lines first) less hosts.second_host.has_id free)
