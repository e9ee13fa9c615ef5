-- What was sent on a wire and is not acted on yet.
use Rattle.std.specs.Prelude.{List, [], ◌∷◌, Option, Some, None, if◌then◌else◌}
use Rattle.link_model.specs.declared.event.Event.{Event}
use Rattle.link_model.specs.Events.{same_event}

-- what stands behind the first event that equals this one
abbrev pub behind : Event → List Event → Option (List Event)
behind e [] = None
behind e (x ∷ sent) = if same_event x e then Some sent else behind e sent

-- by a rule, of what was found
abbrev pub behind_some : (List Event → Option (List Event)) → Option (List Event)
    → Option (List Event)
behind_some rest None = None
behind_some rest (Some sent) = rest sent

-- what stands behind the last of events that are found one after another, each the first that
-- equals it behind the one before
abbrev pub behind_all : List Event → List Event → Option (List Event)
behind_all [] sent = Some sent
behind_all (e ∷ acted) sent = behind_some (behind_all acted) (behind e sent)

-- The events of the first list stand in the second in the same order, with others between them.
pub data IsSubsequence : List Event → List Event → Type 0 where
  EndsWithin : IsSubsequence [] []
  TakesWithin : {acted sent : List Event} (e : Event) → IsSubsequence acted sent
      → IsSubsequence (e ∷ acted) (e ∷ sent)
  SkipsWithin : {acted sent : List Event} (x : Event) → IsSubsequence acted sent
      → IsSubsequence acted (x ∷ sent)
