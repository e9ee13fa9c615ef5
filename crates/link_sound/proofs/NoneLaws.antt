-- Where nothing that means anything is on its way, nothing of a kind is.
use Rattle.link_sound.proofs.Prelude.{List, [], ◌∷◌, refl, Forward, Other, is_restart, is_forward_request, is_forward, Backward, Neutral, is_retry, is_backward, Lacks}

pub Lacks-restart : (kept : List Forward) → Lacks is_forward kept → Lacks is_restart kept
Lacks-restart [] none = tt
Lacks-restart (Other ∷ kept) none = (refl, Lacks-restart kept none.1)
Lacks-restart (_ ∷ kept) none = absurd cc

pub Lacks-request : (kept : List Forward) → Lacks is_forward kept → Lacks is_forward_request kept
Lacks-request [] none = tt
Lacks-request (Other ∷ kept) none = (refl, Lacks-request kept none.1)
Lacks-request (_ ∷ kept) none = absurd cc

pub Lacks-retry : (kept : List Backward) → Lacks is_backward kept → Lacks is_retry kept
Lacks-retry [] none = tt
Lacks-retry (Neutral ∷ kept) none = (refl, Lacks-retry kept none.1)
Lacks-retry (_ ∷ kept) none = absurd cc
