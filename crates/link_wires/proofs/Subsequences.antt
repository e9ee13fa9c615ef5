-- Events that stand in a list in their order, when more is sent and when one was found.
use Rattle.std.proofs.Common.{◌≡◌, ◌++◌, List, [], ◌∷◌, Option, Some, None, IsSome, refl}
use Rattle.link_port.specs.Prelude.{Event}
use Rattle.link_wires.specs.Kept.{behind, behind_some, behind_all, IsSubsequence, EndsWithin, TakesWithin, SkipsWithin}
use Rattle.link_wires.proofs.KeptLaws.{finds_all, is_in}

pub sub_none : (sent : List Event) → IsSubsequence [] sent
sub_none [] = EndsWithin
sub_none (x ∷ sent) = SkipsWithin x (sub_none sent)

pub sub_drop : {e : Event} {rest sent : List Event} → IsSubsequence (e ∷ rest) sent
    → IsSubsequence rest sent
sub_drop (TakesWithin e sub) = SkipsWithin e sub
sub_drop (SkipsWithin x sub) = SkipsWithin x (sub_drop sub)

sub_same : (xs : List Event) → IsSubsequence xs xs
sub_same [] = EndsWithin
sub_same (x ∷ xs) = TakesWithin x (sub_same xs)

pub sub-append : {acted sent : List Event} (more : List Event) → IsSubsequence acted sent
    → IsSubsequence (acted ++ more) (sent ++ more)
sub-append more EndsWithin = sub_same more
sub-append more (TakesWithin e sub) = TakesWithin e (sub-append more sub)
sub-append more (SkipsWithin x sub) = SkipsWithin x (sub-append more sub)

-- the first event is found, and the rest stand behind it
pub sub_behind : (e : Event) (rest sent : List Event) → IsSubsequence (e ∷ rest) sent
    → (kept : List Event) × ((behind e sent ≡ Some kept) × IsSubsequence rest kept)
sub_behind e rest sent sub = by_found (behind e sent) refl (finds_all sub)
  where
    by_found : (o : Option (List Event)) → behind e sent ≡ o
        → IsSome (behind_some (behind_all rest) o)
        → (kept : List Event) × ((behind e sent ≡ Some kept) × IsSubsequence rest kept)
    by_found None is some = absurd cc
    by_found (Some kept) is some = (kept, (is, is_in rest kept some))
