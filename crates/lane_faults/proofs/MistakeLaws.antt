-- Mistakes make no event that was not sent.
use Rattle.lane_faults.proofs.Prelude.{◌≡◌, ℕ, suc, Bool, true, false, List, [], ◌∷◌, refl, sym, ap, ◌∙◌, subst, inl, inr, IsData, Char, Data, Invalid, Event, CharKind, Byte, Stray, Pending, Nothing, Place, place, step_by, run, Text, Skipped, placed, kind, GoodStandIn, none_stands, AreGood, IsMistakenFor, HeardWithMistakes}
use Rattle.lane_faults.proofs.AmongLaws.{then_stand, bad_stand, good_parts, AreBad, NoneBad}
use Rattle.lane_faults.proofs.ReaderLaws.{IsOtherByte, GoesAstray, IsAstray, IsBehind, level_with, skips, stray_ends, astray_data, mistaken_step, begins_none, data_of_byte, same_step, begun_alike}

-- how the two readers stand, by whether the first is astray
abbrev StandSo : Bool → Text → Pending → Text → Pending → Type 0
StandSo false t a u b = IsBehind t a u b
StandSo true t a u b = IsAstray a b

other_bytes : (c h : Char) → IsMistakenFor c h → (x y : ℕ) → kind h ≡ Byte x → kind c ≡ Byte y
    → IsOtherByte x y
other_bytes c h m x y e f =
    let heard : h ≡ Data x = data_of_byte h x e in
    let sent : c ≡ Data y = data_of_byte c y f in (
      (λ same. m.differs (heard ∙ ap Data same ∙ sym sent)),
      m.in_one_block y x sent heard,
    )

-- the kind of data
data_kind : (c : Char) → IsData c → (byte : ℕ) × (kind c ≡ Byte byte)
unfolding kind
data_kind (Data byte) h = (byte, refl)
data_kind _ h = absurd h

astray_same : (t u : Text) {a b : Pending} (c : Char) → IsData c → IsAstray a b
    → NoneBad (step_by u b (kind c)).gives
    → GoesAstray (step_by t a (kind c)) (step_by u b (kind c))
astray_same t u {a} {b} c data_is astray good =
    let byte = data_kind c data_is in
    subst (λ (k : CharKind). GoesAstray (step_by t a k) (step_by u b k)) (sym byte.1)
    (astray_data t u byte.0 astray
    (subst (λ (k : CharKind). NoneBad (step_by u b k).gives) byte.1 good))

-- after a character that is invalid the first reader skips
invalid_then : (t u : Text) (a b : Pending) (at : ℕ) (c : Char) (sent heard : List Char)
    → GoodStandIn (run (place Skipped Nothing) (suc at) heard)
    (run (step_by u b (kind c)).place (suc at) sent)
    → GoodStandIn (run (place t a) at (Invalid ∷ heard)) (run (place u b) at (c ∷ sent))
unfolding run kind
invalid_then t u a b at c sent heard rest =
    let ends = stray_ends t a in
    let others : List (ℕ × Event) = run (step_by u b (kind c)).place (suc at) sent in
    then_stand at (step_by t a Stray).gives (step_by u b (kind c)).gives
    (run (step_by t a Stray).place (suc at) heard) others
    (bad_stand at (step_by t a Stray).gives (placed at (step_by u b (kind c)).gives) ends.0)
    (subst (λ (p : Place). GoodStandIn (run p (suc at) heard) others) (sym ends.1) rest)

-- the events of both from here on
abbrev Stands : Text → Text → Pending → Pending → ℕ → List Char → List Char → Type 0
Stands t u a b at heard sent = GoodStandIn (run (place t a) at heard) (run (place u b) at sent)

-- one character, and those after it
step_then : (t u : Text) (a b : Pending) (at : ℕ) (x c : Char) (heard sent : List Char)
    → GoodStandIn (placed at (step_by t a (kind x)).gives) (placed at (step_by u b (kind c)).gives)
    → GoodStandIn (run (step_by t a (kind x)).place (suc at) heard)
    (run (step_by u b (kind c)).place (suc at) sent)
    → Stands t u a b at (x ∷ heard) (c ∷ sent)
unfolding run
step_then t u a b at x c heard sent here rest =
    then_stand at (step_by t a (kind x)).gives (step_by u b (kind c)).gives
    (run (step_by t a (kind x)).place (suc at) heard)
    (run (step_by u b (kind c)).place (suc at) sent) here rest

bad_then : (t u : Text) (a b : Pending) (at : ℕ) (x c : Char) (heard sent : List Char)
    → AreBad (step_by t a (kind x)).gives
    → GoodStandIn (run (step_by t a (kind x)).place (suc at) heard)
    (run (step_by u b (kind c)).place (suc at) sent)
    → Stands t u a b at (x ∷ heard) (c ∷ sent)
bad_then t u a b at x c heard sent bad rest =
    step_then t u a b at x c heard sent
    (bad_stand at (step_by t a (kind x)).gives (placed at (step_by u b (kind c)).gives) bad) rest

nothing_heard : (t u : Text) (a b : Pending) (at : ℕ) (heard sent : List Char) → heard ≡ []
    → Stands t u a b at heard sent
unfolding run
nothing_heard t u a b at heard sent e =
    subst (λ (hs : List Char). Stands t u a b at hs sent) (sym e) none_stands

good_next : (u : Text) (b : Pending) (at : ℕ) (c : Char) (sent : List Char)
    → AreGood (run (place u b) at (c ∷ sent))
    → NoneBad (step_by u b (kind c)).gives
    × AreGood (run (step_by u b (kind c)).place (suc at) sent)
unfolding run
good_next u b at c sent good =
    good_parts at (step_by u b (kind c)).gives (run (step_by u b (kind c)).place (suc at) sent) good

as_heard : (t u : Text) (a b : Pending) (at : ℕ) (x y c : Char) (heard sent : List Char) → x ≡ y
    → Stands t u a b at (y ∷ heard) (c ∷ sent) → Stands t u a b at (x ∷ heard) (c ∷ sent)
as_heard t u a b at x y c heard sent e h =
    subst (λ (z : Char). Stands t u a b at (z ∷ heard) (c ∷ sent)) (sym e) h

pub mistakes_make_none : (astray : Bool) (t u : Text) (a b : Pending) (at : ℕ)
    (sent heard : List Char) → StandSo astray t a u b → HeardWithMistakes astray sent heard
    → AreGood (run (place u b) at sent)
    → GoodStandIn (run (place t a) at heard) (run (place u b) at sent)
mistakes_make_none astray t u a b at [] heard stand h good = nothing_heard t u a b at heard [] h
mistakes_make_none astray t u a b at (c ∷ sent) [] stand h good = absurd h
mistakes_make_none false t u a b at (c ∷ sent) (x ∷ heard) stand h good =
    let parts = good_next u b at c sent good in
    let next : Place = (step_by u b (kind c)).place in
    elim h [
      | inl same ↦
          let steps = same_step at (kind c) stand in
          let mine : Place = (step_by t a (kind c)).place in
          as_heard t u a b at x c c heard sent same.0
          (step_then t u a b at c c heard sent steps.0 (mistakes_make_none false mine.text
          next.text mine.pending next.pending (suc at) sent heard steps.1 same.1 parts.1))
      | inr wrong ↦ elim wrong [
        | inl invalid ↦
            as_heard t u a b at x Invalid c heard sent invalid.0
            (invalid_then t u a b at c sent heard (mistakes_make_none false Skipped next.text
            Nothing next.pending (suc at) sent heard (skips next.text next.pending) invalid.1
            parts.1))
        | inr mistaken ↦
            let steps = mistaken_step t u (kind x) (kind c)
            (begins_none x mistaken.0.no_delimiter) (other_bytes c x mistaken.0)
            (begun_alike stand) parts.0 in
            let mine : Place = (step_by t a (kind x)).place in
            bad_then t u a b at x c heard sent steps.0
            (mistakes_make_none true mine.text next.text mine.pending next.pending (suc at) sent
            heard steps.1 mistaken.1 parts.1)
      ]
    ]
mistakes_make_none true t u a b at (c ∷ sent) (x ∷ heard) stand h good =
    let parts = good_next u b at c sent good in
    let next : Place = (step_by u b (kind c)).place in
    elim h [
      | inl invalid ↦
          as_heard t u a b at x Invalid c heard sent invalid.0
          (invalid_then t u a b at c sent heard (mistakes_make_none false Skipped next.text
          Nothing next.pending (suc at) sent heard (skips next.text next.pending) invalid.1
          parts.1))
      | inr same ↦
          let steps = astray_same t u c same.1 stand parts.0 in
          let mine : Place = (step_by t a (kind c)).place in
          as_heard t u a b at x c c heard sent same.0
          (bad_then t u a b at c c heard sent steps.0
          (mistakes_make_none true mine.text next.text mine.pending next.pending (suc at) sent
          heard steps.1 same.2 parts.1))
    ]

pub no_event_made : (from : Place) (at : ℕ) (sent heard : List Char)
    → HeardWithMistakes false sent heard → AreGood (run from at sent)
    → GoodStandIn (run from at heard) (run from at sent)
no_event_made from at sent heard h good =
    mistakes_make_none false from.text from.text from.pending from.pending at sent heard
    (level_with from.text from.pending) h good
