-- What is true of lines is true of each front of them.
use Rattle.fabric_trace.proofs.Prelude.{◌≡◌, ◌⊎◌, inl, inr, ℕ, ◌+◌, ◌++◌, Bool, true, false, List, [], ◌∷◌, length, take, refl, sym, ap, ◌∙◌, subst, append_assoc, arith, if◌then◌else◌, append-nil, Char, Event, Side, A, B, told_of, IsSubsequence, EndsWithin, TakesWithin, SkipsWithin, bursts, answers, sent_notes, has_chars, delivery_from, told_notes, is_silent, PortRef, TraceLine, Begun, Stepped, Signed, Lacked, Ended, Undetected, Sent, Got, Fired, Seen, link_at, says, seen, lines_of, Part, PartBegins, PartLacks, PartEnds, PartNames, PartSteps, PartServes, PartTurns, PartTells, PartDelivers, PartFires, Made, Done, Then, WireChars, WireFold, on_wires, got, holds, numbered_packets, HoldsCame, Gotten, FreesSaid, gets, frees_by, tell_sends}
use Rattle.link_watch.specs.declared.note.Note.TheVariants as Notes
use Rattle.fabric_trace.proofs.Holds.Coming.{none_within, numbered-append}
use Rattle.fabric_trace.proofs.Parts.Folding.{seen-append}
use Rattle.fabric_trace.proofs.Holds.HoldsStill.{got-append, holds-append}
use Rattle.fabric_trace.proofs.Parts.Making.{one_part, made-append}
use Rattle.fabric_trace.proofs.Holds.Still.{GotNone, moves_none}

-- ---- laws that are read from the front

pub fold_front : (xs ys : List TraceLine) (links : List (PortRef × PortRef)) (wires : WireChars)
    → WireFold links wires (xs ++ ys) → WireFold links wires xs
fold_front [] ys links wires h = tt
fold_front (x ∷ xs) ys links wires h = (h.0, fold_front xs ys links (on_wires links wires x) h.1)

pub frees_front : (p : PortRef) (known : Gotten) (j : ℕ) (xs ys : List TraceLine)
    → FreesSaid p known j (xs ++ ys) → FreesSaid p known j xs
frees_front p known j [] ys h = tt
frees_front p known j (x ∷ xs) ys h =
    (h.0, frees_front p (gets p known x) (j + frees_by p x) xs ys h.1)

-- ---- where a front of lines that are made of parts ends: within a part, or behind one

-- of two ways to cut a list, one cuts it no later
data Cuts {A : Type 0} (xs ys us vs : List A) : Type 0 where
  Before : (more : List A) → us ≡ xs ++ more → ys ≡ more ++ vs → Cuts xs ys us vs
  Behind : (more : List A) → xs ≡ us ++ more → vs ≡ more ++ ys → Cuts xs ys us vs

cuts_more : {A : Type 0} (x u : A) (xs ys us vs : List A) → x ≡ u → Cuts xs ys us vs
    → Cuts (x ∷ xs) ys (u ∷ us) vs
cuts_more x u xs ys us vs same (Before more is rest) = Before more (cc (same, is)) rest
cuts_more x u xs ys us vs same (Behind more is rest) = Behind more (cc (same, is)) rest

cuts : {A : Type 0} (xs ys us vs : List A) → xs ++ ys ≡ us ++ vs → Cuts xs ys us vs
cuts [] ys us vs is = Before us refl is
cuts (x ∷ xs) ys [] vs is = Behind (x ∷ xs) refl (sym is)
cuts (x ∷ xs) ys (u ∷ us) vs is =
    let rest : xs ++ ys ≡ us ++ vs = cc in
    let same : x ≡ u = cc in
    cuts_more x u xs ys us vs same (cuts xs ys us vs rest)

-- ---- a port gets characters at the first line of a part, if it does

abbrev pub GetsFirst : List TraceLine → Type 0
GetsFirst [] = Unit {0}
GetsFirst (line ∷ lines) = GotNone lines

sent_first : (a b : PortRef) (side : Side) (chars : List Char)
    → GetsFirst (lines_of a b (sent_notes side chars))
unfolding GotNone
sent_first a b side [] = tt
sent_first a b side (c ∷ chars) = tt

fired_first : (a b : PortRef) (x : Bool)
    → GetsFirst (lines_of a b (if x then Notes.Fire A ∷ [] else []))
unfolding GotNone
fired_first a b true = tt
fired_first a b false = tt

told_first : (s : Seen) (p q : PortRef) (n : ℕ) (x : Bool)
    → GetsFirst (lines_of p q
    (if x then told_notes B (take n (s.wires p).chars)
    (told_of (delivery_from A n (link_at s p q))) else []))
unfolding GotNone
told_first s p q n true =
    let told = told_of (delivery_from A n (link_at s p q)) in
    moves_none p q B told.moves (answers told.replies).chars
told_first s p q n false = tt

gets_first : {s : Seen} {lines : List TraceLine} → Part s lines → GetsFirst lines
unfolding GotNone
gets_first {s} (PartBegins line is) = subst GetsFirst (sym is) tt
gets_first {s} (PartLacks lack is) = subst GetsFirst (sym is) tt
gets_first {s} (PartEnds is) = subst GetsFirst (sym is) tt
gets_first {s} (PartNames number q e found is) = subst GetsFirst (sym is) tt
gets_first {s} (PartSteps step needs few is) = subst GetsFirst (sym is) tt
gets_first {s} (PartServes step needs is) = subst GetsFirst (sym is) tt
gets_first {s} (PartTurns p q n peer none is) =
    subst GetsFirst (sym is) (sent_first p q A (bursts n (link_at s p q).a).chars)
gets_first {s} (PartTells p q peer none is) =
    subst GetsFirst (sym is) (sent_first p q A (tell_sends (link_at s p q).a).chars)
gets_first {s} (PartDelivers p q n peer none has is) =
    subst GetsFirst (sym is) (told_first s p q n (has_chars A n (link_at s p q)))
gets_first {s} (PartFires p q peer none silent is) =
    subst GetsFirst (sym is) (fired_first p q (is_silent (link_at s p q)))

none_got : (q : PortRef) (lines : List TraceLine) → GotNone lines → got q lines ≡ []
unfolding GotNone
none_got q [] none = refl
none_got q (Begun line ∷ lines) none = none_got q lines none
none_got q (Stepped step ∷ lines) none = none_got q lines none
none_got q (Signed (Sent p chars) ∷ lines) none = none_got q lines none
none_got q (Signed (Got p chars) ∷ lines) none = absurd none
none_got q (Signed (Fired p) ∷ lines) none = none_got q lines none
none_got q (Lacked lack ∷ lines) none = none_got q lines none
none_got q (Ended ∷ lines) none = none_got q lines none
none_got q (Undetected number p e ∷ lines) none = none_got q lines none

none_behind : (xs ys : List TraceLine) → GotNone (xs ++ ys) → GotNone ys
unfolding GotNone
none_behind [] ys none = none
none_behind (Begun line ∷ xs) ys none = none_behind xs ys none
none_behind (Stepped step ∷ xs) ys none = none_behind xs ys none
none_behind (Signed (Sent p chars) ∷ xs) ys none = none_behind xs ys none
none_behind (Signed (Got p chars) ∷ xs) ys none = absurd none
none_behind (Signed (Fired p) ∷ xs) ys none = none_behind xs ys none
none_behind (Lacked lack ∷ xs) ys none = none_behind xs ys none
none_behind (Ended ∷ xs) ys none = none_behind xs ys none
none_behind (Undetected number p e ∷ xs) ys none = none_behind xs ys none

-- ---- a front of lines that are made of parts

-- whole parts, and lines of one more, which ends with other lines
pub record IsCut (s : Seen) (front : List TraceLine) : Type 0 where
  pub before : List TraceLine
  pub beyond : List TraceLine
  pub behind : List TraceLine
  pub is : front ≡ before ++ beyond
  pub made : Made s before
  pub more : Made (seen s before) (beyond ++ behind)
  pub first : GetsFirst (beyond ++ behind)

cut_behind : {s : Seen} {first more : List TraceLine} → Part s first → IsCut (seen s first) more
    → IsCut s (first ++ more)
cut_behind {s} {first} {more} own cut = record {
  before = first ++ cut.before;
  beyond = cut.beyond;
  behind = cut.behind;
  is = ap (λ (l : List TraceLine). first ++ l) cut.is
      ∙ sym (append_assoc first cut.before cut.beyond);
  made = Then first cut.before refl own cut.made;
  more = subst (λ (x : Seen). Made x (cut.beyond ++ cut.behind))
      (sym (seen-append s first cut.before)) cut.more;
  first = cut.first;
}

cut_within : {s : Seen} (front more first : List TraceLine) → first ≡ front ++ more → Part s first
    → IsCut s front
cut_within {s} front more first is own = record {
  before = [];
  beyond = front;
  behind = more;
  is = refl;
  made = Done refl;
  more = subst (Made s) is (one_part own);
  first = subst GetsFirst is (gets_first own);
}

cut_nowhere : (s : Seen) → IsCut s []
cut_nowhere s =
    record {
      before = [];
      beyond = [];
      behind = [];
      is = refl;
      made = Done refl;
      more = Done refl;
      first = tt;
    }

nothing_cut : (front rest : List TraceLine) → [] ≡ front ++ rest → front ≡ []
nothing_cut [] rest is = refl
nothing_cut (x ∷ front) rest is = absurd cc

pub cut : {s : Seen} {lines : List TraceLine} (front rest : List TraceLine) → lines ≡ front ++ rest
    → Made s lines → IsCut s front
cut {s} front rest is (Done none) =
    subst (IsCut s) (sym (nothing_cut front rest (sym none ∙ is))) (cut_nowhere s)
cut {s} front rest is (Then first more whole own made) =
    by_cuts (cuts front rest first more (sym is ∙ whole)) (λ extra same. cut extra rest same made)
  where
    by_cuts : Cuts front rest first more
        → ((extra : List TraceLine) → more ≡ extra ++ rest → IsCut (seen s first) extra)
        → IsCut s front
    by_cuts (Before extra same behind) later = cut_within front extra first same own
    by_cuts (Behind extra same behind) later =
        subst (IsCut s) (sym same) (cut_behind own (later extra behind))

-- ---- holds

within_front : {zs ys : List Event} (xs us : List Event) → zs ≡ xs ++ us → IsSubsequence zs ys
    → IsSubsequence xs ys
within_front {zs} {ys} [] us is within = none_within ys
within_front (x ∷ xs) us is EndsWithin = absurd cc
within_front (x ∷ xs) us is (TakesWithin {acted} {sent} e rest) =
    let same : e ≡ x = cc in
    let tail : acted ≡ xs ++ us = cc in
    subst (λ (y : Event). IsSubsequence (x ∷ xs) (y ∷ sent)) (sym same)
    (TakesWithin x (within_front xs us tail rest))
within_front (x ∷ xs) us is (SkipsWithin y rest) = SkipsWithin y (within_front (x ∷ xs) us is rest)

same_got : (q : PortRef) (beyond behind : List TraceLine) → GetsFirst (beyond ++ behind)
    → (beyond ≡ []) ⊎ (got q behind ≡ [])
same_got q [] behind first = inl refl
same_got q (x ∷ beyond) behind first = inr (none_got q behind (none_behind beyond behind first))

came_front : (q : PortRef) (front behind : List TraceLine) → got q behind ≡ []
    → HoldsCame q (front ++ behind) → HoldsCame q front
came_front q front behind none came =
    let same : got q (front ++ behind) ≡ got q front =
    got-append q front behind ∙ ap (λ (l : List Char). got q front ++ l) none
    ∙ append-nil (got q front) in
    let split : numbered_packets 0 (holds q (front ++ behind)) ≡ numbered_packets 0 (holds q front)
    ++ numbered_packets (length (holds q front)) (holds q behind) =
    ap (numbered_packets 0) (holds-append q front behind)
    ∙ numbered-append 0 (length (holds q front)) (holds q front) (holds q behind) (omega arith) in
    within_front (numbered_packets 0 (holds q front)) _ split
    (subst (λ (l : List Char).
    IsSubsequence (numbered_packets 0 (holds q (front ++ behind))) (says l)) same
    came)

-- where what was made came, each front of it did
pub cut_came : (q : PortRef) (s : Seen) (front : List TraceLine)
    → ((lines : List TraceLine) → Made s lines → HoldsCame q lines) → IsCut s front
    → HoldsCame q front
cut_came q s front came cut = by_got (same_got q cut.beyond cut.behind cut.first)
  where
    by_got : (cut.beyond ≡ []) ⊎ (got q cut.behind ≡ []) → HoldsCame q front
    by_got (inl none) =
        subst (HoldsCame q) (sym
        (cut.is ∙ ap (λ (l : List TraceLine). cut.before ++ l) none ∙ append-nil cut.before))
        (came cut.before cut.made)
    by_got (inr none) =
        subst (HoldsCame q) (sym cut.is) (came_front q (cut.before ++ cut.beyond) cut.behind none
        (subst (HoldsCame q) (sym (append_assoc cut.before cut.beyond cut.behind))
        (came _ (made-append cut.made cut.more))))
