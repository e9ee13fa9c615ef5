-- The lists of ports where one of them changes.
use Rattle.std.proofs.Common.{◌≡◌, ℕ, zero, suc, ◌<◌, List, [], ◌∷◌, length, set, get_or, slice_get, Option, ap, sym, ◌∙◌}
use Rattle.std.proofs.lemmas.List.{map-set, get_or-map}
use Rattle.link_buffers.specs.Queues.{list_at, no_packets}
use Rattle.switch_core.specs.Faces.{Face, face_of, faces_of, face_at, head_of, AllAlike}

module _ {P : Type 0} (received queued : P → List (List (List ℕ))) where
  -- the lists at a place are those of the port there
  pub face_at-port : (ports : List P) (n : ℕ) (d : P) → n < length ports
      → face_at (faces_of received queued ports) n ≡ face_of received queued (get_or ports n d)
  face_at-port ports n d below =
      get_or-map (face_of received queued) ports n d
      (record { received = no_packets; queued = no_packets }) below

  -- what stands first in a list of a port
  pub head_at-port : (ports : List P) (n : ℕ) (port : P) (prio : ℕ) (first : Option (List ℕ))
      → n < length ports → port ≡ get_or ports n port
      → first ≡ slice_get (list_at (received port) prio) 0
      → head_of (face_at (faces_of received queued ports) n) prio ≡ first
  head_at-port ports n port prio first below is there =
      ap (λ (face : Face). head_of face prio)
      (face_at-port ports n port below ∙ ap (face_of received queued) (sym is))
      ∙ sym there

  -- a port changes
  pub faces_of-set : (ports : List P) (n : ℕ) (next : P) (face : Face)
      → face_of received queued next ≡ face
      → faces_of received queued (set ports n next) ≡ set (faces_of received queued ports) n face
  faces_of-set ports n next face e =
      map-set (face_of received queued) ports n next ∙ ap (set (faces_of received queued ports) n) e

module _ {P : Type 0} (alike : P → P → Type 0) (same : (p : P) → alike p p) where
  pub AreAlike-same : (ports : List P) → AllAlike alike ports ports
  AreAlike-same [] = tt
  AreAlike-same (p ∷ ports) = (same p, AreAlike-same ports)

  -- one port is alike to what it was
  pub AreAlike-set : (ports : List P) (n : ℕ) (d next : P) → alike (get_or ports n d) next
      → AllAlike alike ports (set ports n next)
  AreAlike-set [] n d next h = tt
  AreAlike-set (q ∷ ports) zero d next h = (h, AreAlike-same ports)
  AreAlike-set (q ∷ ports) (suc n) d next h = (same q, AreAlike-set ports n d next h)

  module _ (on : (p q r : P) → alike p q → alike q r → alike p r) where
    pub AreAlike-on : (first second third : List P) → AllAlike alike first second
        → AllAlike alike second third → AllAlike alike first third
    AreAlike-on [] [] [] h k = tt
    AreAlike-on (p ∷ ps) (q ∷ qs) (r ∷ rs) h k = (on p q r h.0 k.0, AreAlike-on ps qs rs h.1 k.1)
    AreAlike-on [] (q ∷ qs) third h k = absurd h
    AreAlike-on (p ∷ ps) [] third h k = absurd h
    AreAlike-on [] [] (r ∷ rs) h k = absurd k
    AreAlike-on (p ∷ ps) (q ∷ qs) [] h k = absurd k
