-- Where two readers stand after a piece of what was sent, of which one heard some characters wrong.
use Rattle.lane_faults.proofs.Prelude.{◌≡◌, ℕ, suc, Bool, true, false, List, [], ◌∷◌, ◌++◌, refl, sym, ap, ◌∙◌, subst, inl, inr, IsData, Char, Data, Invalid, CharKind, Byte, Pending, Nothing, Place, place, step_by, run, place_after, Text, Skipped, kind, AreGood, HeardUpTo, IsMistakenFor, HeardWithMistakes}
use Rattle.lane_faults.proofs.AmongLaws.{good_parts, NoneBad}
use Rattle.lane_faults.proofs.ReaderLaws.{IsOtherByte, IsAstray, IsBehind, skips, stray_ends, astray_data, mistaken_step, begins_none, data_of_byte, same_step, begun_alike}

-- how the two readers stand, by whether the first is astray
abbrev pub StandAt : Bool → Place → Place → Type 0
StandAt false mine other = IsBehind mine.text mine.pending other.text other.pending
StandAt true mine other = IsAstray mine.pending other.pending

next_good : (p : Place) (at : ℕ) (c : Char) (sent : List Char)
    → AreGood (run p at (c ∷ sent))
    → NoneBad (step_by p.text p.pending (kind c)).gives
    × AreGood (run (step_by p.text p.pending (kind c)).place (suc at) sent)
unfolding run
next_good p at c sent good =
    good_parts at (step_by p.text p.pending (kind c)).gives
    (run (step_by p.text p.pending (kind c)).place (suc at) sent) good

byte_mistaken : (c h : Char) → IsMistakenFor c h → (x y : ℕ) → kind h ≡ Byte x → kind c ≡ Byte y
    → IsOtherByte x y
byte_mistaken c h m x y e f =
    let heard : h ≡ Data x = data_of_byte h x e in
    let sent : c ≡ Data y = data_of_byte c y f in (
      (λ same. m.differs (heard ∙ ap Data same ∙ sym sent)),
      m.in_one_block y x sent heard,
    )

data_byte : (c : Char) → IsData c → (byte : ℕ) × (kind c ≡ Byte byte)
unfolding kind
data_byte (Data byte) h = (byte, refl)
data_byte _ h = absurd h

astray_on : (t u : Text) {a b : Pending} (c : Char) → IsData c → IsAstray a b
    → NoneBad (step_by u b (kind c)).gives
    → IsAstray (step_by t a (kind c)).place.pending (step_by u b (kind c)).place.pending
astray_on t u {a} {b} c data_is astray good =
    let byte = data_byte c data_is in
    subst (λ (k : CharKind). IsAstray (step_by t a k).place.pending (step_by u b k).place.pending)
    (sym byte.1)
    (astray_data t u byte.0 astray
    (subst (λ (k : CharKind). NoneBad (step_by u b k).gives) byte.1 good)).1

-- after these characters
abbrev StandThen : Bool → Place → Place → List Char → List Char → Type 0
StandThen after mine other heard sent =
    StandAt after (place_after mine heard) (place_after other sent)

none_then : (astray after : Bool) (mine other : Place) (heard : List Char) → heard ≡ []
    → after ≡ astray → StandAt astray mine other → StandThen after mine other heard []
unfolding place_after
none_then astray after mine other heard none same stand =
    subst (λ (hs : List Char). StandAt after (place_after mine hs) other) (sym none)
    (subst (λ (b : Bool). StandAt b mine other) (sym same) stand)

one_then : (after : Bool) (mine other : Place) (x c : Char) (heard sent : List Char)
    → StandThen after (step_by mine.text mine.pending (kind x)).place
    (step_by other.text other.pending (kind c)).place heard sent
    → StandThen after mine other (x ∷ heard) (c ∷ sent)
unfolding place_after
one_then after mine other x c heard sent h = h

heard_then : (after : Bool) (mine other : Place) (x y c : Char) (heard sent : List Char) → x ≡ y
    → StandThen after mine other (y ∷ heard) (c ∷ sent)
    → StandThen after mine other (x ∷ heard) (c ∷ sent)
heard_then after mine other x y c heard sent e h =
    subst (λ (z : Char). StandThen after mine other (z ∷ heard) (c ∷ sent)) (sym e) h

-- an invalid character: the first reader skips
invalid_skips : (after : Bool) (mine other : Place) (heard sent : List Char)
    → StandThen after (place Skipped Nothing) other heard sent
    → StandThen after (step_by mine.text mine.pending (kind Invalid)).place other heard sent
unfolding kind
invalid_skips after mine other heard sent h =
    subst (λ (p : Place). StandThen after p other heard sent)
    (sym (stray_ends mine.text mine.pending).1) h

pub lead : (astray after : Bool) (mine other : Place) (at : ℕ) (sent heard : List Char)
    → StandAt astray mine other → HeardUpTo astray sent heard after
    → AreGood (run other at sent) → StandThen after mine other heard sent
lead astray after mine other at [] heard stand h good =
    none_then astray after mine other heard h.0 h.1 stand
lead astray after mine other at (c ∷ sent) [] stand h good = absurd h
lead false after mine other at (c ∷ sent) (x ∷ heard) stand h good =
    let parts = next_good other at c sent good in
    let next : Place = (step_by other.text other.pending (kind c)).place in
    elim h [
      | inl same ↦
          let steps = same_step at (kind c) stand in
          let moved : Place = (step_by mine.text mine.pending (kind c)).place in
          heard_then after mine other x c c heard sent same.0
          (one_then after mine other c c heard sent
          (lead false after moved next (suc at) sent heard steps.1 same.1 parts.1))
      | inr wrong ↦ elim wrong [
        | inl invalid ↦
            heard_then after mine other x Invalid c heard sent invalid.0
            (one_then after mine other Invalid c heard sent
            (invalid_skips after mine next heard sent
            (lead false after (place Skipped Nothing) next (suc at) sent heard
            (skips next.text next.pending) invalid.1 parts.1)))
        | inr mistaken ↦
            let steps = mistaken_step mine.text other.text (kind x) (kind c)
            (begins_none x mistaken.0.no_delimiter) (byte_mistaken c x mistaken.0)
            (begun_alike stand) parts.0 in
            let moved : Place = (step_by mine.text mine.pending (kind x)).place in
            one_then after mine other x c heard sent
            (lead true after moved next (suc at) sent heard steps.1 mistaken.1 parts.1)
      ]
    ]
lead true after mine other at (c ∷ sent) (x ∷ heard) stand h good =
    let parts = next_good other at c sent good in
    let next : Place = (step_by other.text other.pending (kind c)).place in
    elim h [
      | inl invalid ↦
          heard_then after mine other x Invalid c heard sent invalid.0
          (one_then after mine other Invalid c heard sent
          (invalid_skips after mine next heard sent
          (lead false after (place Skipped Nothing) next (suc at) sent heard
          (skips next.text next.pending) invalid.1 parts.1)))
      | inr same ↦
          let moved : Place = (step_by mine.text mine.pending (kind c)).place in
          heard_then after mine other x c c heard sent same.0
          (one_then after mine other c c heard sent
          (lead true after moved next (suc at) sent heard
          (astray_on mine.text other.text c same.1 stand parts.0) same.2 parts.1))
    ]

-- without how it ends
pub heard_so : (astray after : Bool) (sent heard : List Char) → HeardUpTo astray sent heard after
    → HeardWithMistakes astray sent heard
heard_so astray after [] heard h = h.0
heard_so astray after (c ∷ sent) [] h = absurd h
heard_so false after (c ∷ sent) (x ∷ heard) h = elim h [
  | inl same ↦ inl (same.0, heard_so false after sent heard same.1)
  | inr wrong ↦ elim wrong [
    | inl invalid ↦ inr (inl (invalid.0, heard_so false after sent heard invalid.1))
    | inr mistaken ↦ inr (inr (mistaken.0, heard_so true after sent heard mistaken.1))
  ]
]
heard_so true after (c ∷ sent) (x ∷ heard) h = elim h [
  | inl invalid ↦ inl (invalid.0, heard_so false after sent heard invalid.1)
  | inr same ↦ inr (same.0, same.1, heard_so true after sent heard same.2)
]

-- what is heard of two pieces
pub record HeardInTwo (astray : Bool) (front back heard : List Char) : Type 0 where
  pub first : List Char
  pub second : List Char
  pub after : Bool
  pub joined : heard ≡ first ++ second
  pub of_front : HeardUpTo astray front first after
  pub of_back : HeardWithMistakes after back second

pub in_two : (astray : Bool) (front back heard : List Char)
    → HeardWithMistakes astray (front ++ back) heard → HeardInTwo astray front back heard
in_two astray [] back heard h = record {
  first = [];
  second = heard;
  after = astray;
  joined = refl;
  of_front = (refl, refl);
  of_back = h;
}
in_two astray (c ∷ front) back [] h = absurd h
in_two false (c ∷ front) back (x ∷ heard) h = elim h [
  | inl same ↦
      let rest = in_two false front back heard same.1 in
      record {
        first = x ∷ rest.first;
        second = rest.second;
        after = rest.after;
        joined = ap (λ (l : List Char). x ∷ l) rest.joined;
        of_front = inl (same.0, rest.of_front);
        of_back = rest.of_back;
      }
  | inr wrong ↦ elim wrong [
    | inl invalid ↦
        let rest = in_two false front back heard invalid.1 in
        record {
          first = x ∷ rest.first;
          second = rest.second;
          after = rest.after;
          joined = ap (λ (l : List Char). x ∷ l) rest.joined;
          of_front = inr (inl (invalid.0, rest.of_front));
          of_back = rest.of_back;
        }
    | inr mistaken ↦
        let rest = in_two true front back heard mistaken.1 in
        record {
          first = x ∷ rest.first;
          second = rest.second;
          after = rest.after;
          joined = ap (λ (l : List Char). x ∷ l) rest.joined;
          of_front = inr (inr (mistaken.0, rest.of_front));
          of_back = rest.of_back;
        }
  ]
]
in_two true (c ∷ front) back (x ∷ heard) h = elim h [
  | inl invalid ↦
      let rest = in_two false front back heard invalid.1 in
      record {
        first = x ∷ rest.first;
        second = rest.second;
        after = rest.after;
        joined = ap (λ (l : List Char). x ∷ l) rest.joined;
        of_front = inl (invalid.0, rest.of_front);
        of_back = rest.of_back;
      }
  | inr same ↦
      let rest = in_two true front back heard same.2 in
      record {
        first = x ∷ rest.first;
        second = rest.second;
        after = rest.after;
        joined = ap (λ (l : List Char). x ∷ l) rest.joined;
        of_front = inr (same.0, same.1, rest.of_front);
        of_back = rest.of_back;
      }
]
