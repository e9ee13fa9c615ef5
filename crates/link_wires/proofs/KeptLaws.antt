-- Acted events are sent ones, in order.
use Rattle.std.proofs.Common.{◌≡◌, ◌++◌, true, false, List, [], ◌∷◌, Option, Some, None, IsSome, refl, sym, ap, ◌∙◌, subst, if◌then◌else◌}
use Rattle.link_model.specs.declared.event.Event.{Event}
use Rattle.link_model.specs.Events.{same_event}
use Rattle.link_model.specs.EventsEqual.{found_same, same_back}
use Rattle.link_wires.specs.Kept.{behind, behind_some, behind_all, IsSubsequence}
use Rattle.link_wires.specs.Kept.IsSubsequence.{EndsWithin, TakesWithin, SkipsWithin}

-- events behind others are looked for in what these leave
pub behind_all-append : (xs ys sent : List Event)
    → behind_all (xs ++ ys) sent ≡ behind_some (behind_all ys) (behind_all xs sent)
behind_all-append [] ys sent = refl
behind_all-append (x ∷ xs) ys sent =
    elim (behind x sent) as (λ o. behind_some (behind_all (xs ++ ys)) o
    ≡ behind_some (behind_all ys) (behind_some (behind_all xs) o)) [
      | None ↦ refl
      | Some rest ↦ behind_all-append xs ys rest
    ]

-- one more event is looked for in what is left
pub all_then : (acted sent : List Event) (e : Event)
    → behind_all (acted ++ e ∷ []) sent ≡ behind_some (behind e) (behind_all acted sent)
all_then [] sent e =
    elim (behind e sent) as (λ o. behind_some (behind_all []) o ≡ o)
    [ None ↦ refl | Some rest ↦ refl ]
all_then (x ∷ acted) sent e =
    elim (behind x sent) as (λ o. behind_some (behind_all (acted ++ e ∷ [])) o
    ≡ behind_some (behind e) (behind_some (behind_all acted) o)) [
      | None ↦ refl
      | Some rest ↦ all_then acted rest e
    ]

-- what is sent later stands behind
pub behind-more : (e : Event) (sent kept more : List Event) → behind e sent ≡ Some kept
    → behind e (sent ++ more) ≡ Some (kept ++ more)
behind-more e [] kept more h = cc
behind-more e (x ∷ sent) kept more h =
    elim (same_event x e) as (λ b. (if b then Some sent else behind e sent) ≡ Some kept
    → (if b then Some (sent ++ more) else behind e (sent ++ more)) ≡ Some (kept ++ more)) [
      | true ↦ λ (is : Some sent ≡ Some kept). cc
      | false ↦ behind-more e sent kept more
    ] h

pub all-more : (acted sent kept more : List Event) → behind_all acted sent ≡ Some kept
    → behind_all acted (sent ++ more) ≡ Some (kept ++ more)
all-more [] sent kept more h = cc
all-more (e ∷ acted) sent kept more h =
    elim (behind e sent) as (λ o. behind e sent ≡ o → behind_some (behind_all acted) o ≡ Some kept
    → behind_all (e ∷ acted) (sent ++ more) ≡ Some (kept ++ more)) [
      | None ↦ λ (is : behind e sent ≡ None) (all : None ≡ Some kept). cc
      | Some rest ↦ λ (is : behind e sent ≡ Some rest) (all : behind_all acted rest ≡ Some kept).
          ap (behind_some (behind_all acted)) (behind-more e sent rest more is)
          ∙ all-more acted rest kept more all
    ] refl h

-- nothing stands in every list
none_in : (sent : List Event) → IsSubsequence [] sent
none_in [] = EndsWithin
none_in (x ∷ sent) = SkipsWithin x (none_in sent)

-- an event that was found, and those behind it
found_in : (e : Event) (acted sent rest : List Event) → behind e sent ≡ Some rest
    → IsSubsequence acted rest → IsSubsequence (e ∷ acted) sent
found_in e acted [] rest h sub = absurd cc
found_in e acted (x ∷ sent) rest h sub =
    elim (same_event x e) as (λ b. same_event x e ≡ b
    → (if b then Some sent else behind e sent) ≡ Some rest → IsSubsequence (e ∷ acted) (x ∷ sent)) [
      | true ↦ λ (same : same_event x e ≡ true) (is : Some sent ≡ Some rest).
          let there : rest ≡ sent = cc in
          subst (λ (y : Event). IsSubsequence (e ∷ acted) (y ∷ sent)) (sym (found_same x e same))
          (TakesWithin e (subst (λ (l : List Event). IsSubsequence acted l) there sub))
      | false ↦ λ (same : same_event x e ≡ false) (is : behind e sent ≡ Some rest). SkipsWithin x
          (found_in e acted sent rest is sub)
    ] refl h

pub all_in : (acted sent kept : List Event) → behind_all acted sent ≡ Some kept
    → IsSubsequence acted sent
all_in [] sent kept h = none_in sent
all_in (e ∷ acted) sent kept h =
    elim (behind e sent) as (λ o. behind e sent ≡ o → behind_some (behind_all acted) o ≡ Some kept
    → IsSubsequence (e ∷ acted) sent) [
      | None ↦ λ (is : behind e sent ≡ None) (all : None ≡ Some kept). absurd cc
      | Some rest ↦ λ (is : behind e sent ≡ Some rest) (all : behind_all acted rest ≡ Some kept).
          found_in e acted sent rest is (all_in acted rest kept all)
    ] refl h

-- what is found behind an event is found in the whole list, where it is found with one more event
-- in front
behind_whole :
    (acted : List Event) → ((x : Event) (sent : List Event) → IsSome (behind_all acted sent)
    → IsSome (behind_all acted (x ∷ sent)))
    → (e : Event) (sent : List Event) → IsSome (behind_some (behind_all acted) (behind e sent))
    → IsSome (behind_all acted sent)
behind_whole acted one_more e [] h = absurd cc
behind_whole acted one_more e (y ∷ sent) h =
    elim (same_event y e) as (λ b. IsSome
    (behind_some (behind_all acted) (if b then Some sent else behind e sent))
    → IsSome (behind_all acted (y ∷ sent))) [
      | true ↦ one_more y sent
      | false ↦ λ (is : IsSome (behind_some (behind_all acted) (behind e sent))). one_more y sent
          (behind_whole acted one_more e sent is)
    ] h

-- more in front does no harm
pub one_in_front : (acted : List Event) (x : Event) (sent : List Event)
    → IsSome (behind_all acted sent) → IsSome (behind_all acted (x ∷ sent))
one_in_front [] x sent h = refl
one_in_front (e ∷ acted) x sent h =
    elim (same_event x e) as
    (λ b. IsSome (behind_some (behind_all acted) (if b then Some sent else behind e sent))) [
      | true ↦ behind_whole acted (one_in_front acted) e sent h
      | false ↦ h
    ]

-- the search from the front finds all events that stand there in order
pub finds_all : {acted sent : List Event} → IsSubsequence acted sent
    → IsSome (behind_all acted sent)
finds_all EndsWithin = refl
finds_all (TakesWithin {acted = acted} {sent = sent} e sub) =
    subst (λ b. IsSome (behind_some (behind_all acted) (if b then Some sent else behind e sent)))
    (sym (same_back e e refl)) (finds_all sub)
finds_all (SkipsWithin {acted = acted} {sent = sent} x sub) =
    one_in_front acted x sent (finds_all sub)

some_in : (acted sent : List Event) (o : Option (List Event)) → behind_all acted sent ≡ o → IsSome o
    → IsSubsequence acted sent
some_in acted sent None is h = absurd cc
some_in acted sent (Some kept) is h = all_in acted sent kept is

pub is_in : (acted sent : List Event) → IsSome (behind_all acted sent) → IsSubsequence acted sent
is_in acted sent h = some_in acted sent (behind_all acted sent) refl h
