-- The parts of a run that a framer takes at once.
use Rattle.std.proofs.Common.{◌≡◌, ℕ, suc, ◌+◌, ◌-◌, ◌<◌, ◌≤◌, Bool, true, false, Option, Some, None, List, [], ◌∷◌, ◌++◌, length, drop, if◌then◌else◌, refl, sym, ap, ◌∙◌, subst, arith, append_assoc, append-nil, length-append}
use Rattle.std.proofs.lemmas.List.{length-map}
use Rattle.link_model.specs.Prelude.{Char, Data, Delimiter, allowed, Fields, spelled, telling_front, Place, place, step, Text, Plain, Skipped, Within, data_chars}
use Rattle.link_model.specs.declared.event.Event.{Event}
use Rattle.link_model.specs.declared.event.Event.TheVariants.{Ctl}
use Rattle.link_model.specs.declared.reading_kinds.CharKind.TheVariants.{Opens}
use Rattle.link_model.specs.declared.reading_kinds.Pending.{Pending}
use Rattle.link_model.specs.declared.reading_kinds.Pending.TheVariants.{Nothing, Opened, One, Two}
use Rattle.link_model.specs.Fronts.{Front, front_by}
use Rattle.link_model.specs.Places.{ReaderStep, opened, byte_added, symbol_taken, finished, step_by}
use Rattle.link_model.specs.Reading.{packet_ended, ends_packet}
use Rattle.link_model.specs.ReadingKinds.{kind}
use Rattle.link_model.proofs.ReadingSpeltLaws.{kind-data}
use Rattle.link_model.proofs.ReadingSteps.{below}
use Rattle.rio_framer.specs.Framing.{Framing, framing_at, framing_after, ended_of}
use Rattle.rio_framer.specs.Giving.{told_of_events}
use Rattle.rio_framer.specs.Parts.{later, IsPart, StartsWithSymbol, TakesBytes, with_bytes}
use Rattle.rio_framer.specs.declared.events.Told.{Told}
use Rattle.rio_framer.specs.declared.events.Told.TheVariants as told
use Rattle.rio_framer.proofs.GivingLaws.{quiet-step}
use Rattle.rio_framer.proofs.FrontsLaws.{front-cons, front-none}

-- ---- one character

one_quiet : (from : Place) (c : Char) (cs : List Char) (to : Framing) → (step from c).gives ≡ []
    → to ≡ framing_after (step from c)
    → (to ≡ framing_at to.place)
    × (telling_front from (c ∷ cs) ≡ later 1 (telling_front to.place cs))
one_quiet from c cs to none is =
    let at : to ≡ framing_at (step from c).place =
    is
    ∙ ap (λ (es : List Event). record { place = (step from c).place; ended = ended_of es })
    none in
    let there : to.place ≡ (step from c).place = ap (λ (f : Framing). f.place) at in
    let behind = telling_front (step from c).place cs in
    let more : suc behind.count ≡ 1 + behind.count = omega arith in (
      at ∙ ap framing_at (sym there),
      front-cons from c cs ∙ ap (λ (es : List Event). front_by es (step from c) behind) none
          ∙ ap (λ (n : ℕ). record { count = n; step = behind.step }) more
          ∙ ap (λ (p : Place). later 1 (telling_front p cs)) (sym there),
    )

tells_by : (es : List Event) (first : ReaderStep) (behind : Front)
    → (told_of_events es ≡ told.Nothing → ⊥)
    → front_by es first behind ≡ record {
      count = 1;
      step = first;
    }
tells_by [] first behind tells = absurd (tells refl)
tells_by (e ∷ es) first behind tells = refl

pub part-one : (from : Place) (c : Char) (cs chars : List Char) (outcome : Told) (to : Framing)
    → chars ≡ c ∷ cs
    → outcome ≡ told_of_events (step from c).gives → to ≡ framing_after (step from c)
    → IsPart from chars 1 outcome to
part-one from c cs chars outcome to is tells stands = rw is (record {
  some = omega arith;
  within = omega arith;
  quiet = λ none. one_quiet from c cs to (quiet-step from c (sym tells ∙ none)) stands;
  tells = λ told_some.
      let front =
      front-cons from c cs
      ∙ tells_by (step from c).gives (step from c) (telling_front (step from c).place cs)
      (λ none. told_some (tells ∙ none)) in (
        ap (λ (f : Front). f.count) (sym front),
        tells ∙ ap (λ (f : Front). told_of_events f.step.gives) (sym front),
        stands ∙ ap (λ (f : Front). framing_after f.step) (sym front),
      );
})

-- ---- data characters of a packet

later-none : (f : Front) → later 0 f ≡ f
later-none f =
    let same : 0 + f.count ≡ f.count = omega arith in
    ap (λ (n : ℕ). record { count = n; step = f.step }) same

data-step : (bytes : List ℕ) (x : ℕ) → length bytes < 276
    → step (place (Within bytes) Nothing) (Data x) ≡ record {
      place = place (Within (bytes ++ x ∷ [])) Nothing;
      gives = [];
    }
data-step bytes x h =
    ap (step_by (Within bytes) Nothing) (kind-data x)
    ∙ ap (byte_added bytes x) (below (length bytes) 276 h)

quiet_by : (from : Place) (c : Char) (cs : List Char) (to : Place) → step from c ≡ record {
  place = to;
  gives = [];
}
    → telling_front from (c ∷ cs) ≡ record {
      count = suc (telling_front to cs).count;
      step = (telling_front to cs).step;
    }
quiet_by from c cs to is =
    front-cons from c cs ∙ ap (λ (s : ReaderStep). front_by s.gives s (telling_front s.place cs)) is

data-front : (bytes xs : List ℕ) (cs : List Char) → length bytes + length xs ≤ 276
    → telling_front (place (Within bytes) Nothing) (data_chars xs ++ cs)
    ≡ later (length xs) (telling_front (place (Within (bytes ++ xs)) Nothing) cs)
data-front bytes [] cs h =
    ap (λ (all : List ℕ). telling_front (place (Within all) Nothing) cs) (sym (append-nil bytes))
    ∙ sym (later-none (telling_front (place (Within (bytes ++ [])) Nothing) cs))
data-front bytes (x ∷ xs) cs h =
    let behind = telling_front (place (Within (bytes ++ x ∷ xs)) Nothing) cs in
    let more : suc (length xs + behind.count) ≡ suc (length xs) + behind.count = omega arith in
    quiet_by (place (Within bytes) Nothing) (Data x) (data_chars xs ++ cs)
    (place (Within (bytes ++ x ∷ [])) Nothing) (data-step bytes x (omega arith))
    ∙ ap (λ (f : Front). record { count = suc f.count; step = f.step })
    (data-front (bytes ++ x ∷ []) xs cs (longer bytes x xs h)
    ∙ ap (λ (all : List ℕ). later (length xs) (telling_front (place (Within all) Nothing) cs))
    (append_assoc bytes (x ∷ []) xs))
    ∙ ap (λ (n : ℕ). record { count = n; step = behind.step }) more
  where
    longer : (bytes : List ℕ) (x : ℕ) (xs : List ℕ) → length bytes + length (x ∷ xs) ≤ 276
        → length (bytes ++ x ∷ []) + length xs ≤ 276
    longer bytes x xs h = grind (arith, length-append)

part-data : (bytes xs : List ℕ) (chars : List Char) (to : Framing) → length bytes + length xs ≤ 276
    → 0 < length xs
    → chars ≡ data_chars xs ++ drop (length xs) chars
    → to ≡ framing_at (place (Within (bytes ++ xs)) Nothing)
    → IsPart (place (Within bytes) Nothing) chars (length xs) told.Nothing to
part-data bytes xs chars to most some is stands =
    let size = ap length is ∙ length-append (data_chars xs) (drop (length xs) chars) in
    let data_size : length (data_chars xs) ≡ length xs = length-map xs (λ (byte : ℕ). Data byte) in
    record {
      some = some;
      within = omega arith;
      quiet = λ none. (
        stands ∙ ap framing_at (sym (ap (λ (f : Framing). f.place) stands)),
        ap (telling_front (place (Within bytes) Nothing)) is
            ∙ data-front bytes xs (drop (length xs) chars) most
            ∙ ap (λ (p : Place). later (length xs) (telling_front p (drop (length xs) chars)))
            (sym (ap (λ (f : Framing). f.place) stands)),
      );
      tells = λ told_some. absurd (told_some refl);
    }

pub part-run : (t : Text) (p : Pending) (n : ℕ) (xs : List ℕ) (chars : List Char) (to : Framing)
    → 0 < n → TakesBytes t p n → length xs ≡ n → chars ≡ data_chars xs ++ drop n chars
    → to ≡ framing_at (place (with_bytes t xs) Nothing) → IsPart (place t p) chars n told.Nothing to
part-run (Within bytes) Nothing n xs chars to some takes many is stands =
    subst (λ (m : ℕ). IsPart (place (Within bytes) Nothing) chars m told.Nothing to) many
    (part-data bytes xs chars to (omega arith) (omega arith)
    (is ∙ ap (λ (m : ℕ). data_chars xs ++ drop m chars) (sym many)) stands)
part-run (Within bytes) (Opened d) n xs chars to some takes many is stands = absurd takes
part-run (Within bytes) (One d x) n xs chars to some takes many is stands = absurd takes
part-run (Within bytes) (Two d x y) n xs chars to some takes many is stands = absurd takes
part-run Plain p n xs chars to some takes many is stands = absurd takes
part-run Skipped p n xs chars to some takes many is stands = absurd takes

-- if some bytes fit, so do fewer
pub TakesBytes-fewer : (t : Text) (p : Pending) (m n : ℕ) → TakesBytes t p n → m ≤ n
    → TakesBytes t p m
TakesBytes-fewer (Within bytes) Nothing m n takes fewer = omega arith
TakesBytes-fewer (Within bytes) (Opened d) m n takes fewer = takes
TakesBytes-fewer (Within bytes) (One d x) m n takes fewer = takes
TakesBytes-fewer (Within bytes) (Two d x y) m n takes fewer = takes
TakesBytes-fewer Plain p m n takes fewer = takes
TakesBytes-fewer Skipped p m n takes fewer = takes

-- ---- a symbol

told_tells : (t : Text) (s : Fields) (b : Bool)
    → told_of_events ((if b then packet_ended t else []) ++ Ctl s ∷ []) ≡ told.Nothing → ⊥
told_tells t s false e = cc
told_tells Plain s true e = cc
told_tells Skipped s true e = cc
told_tells (Within bytes) s true e = cc

finished_tells : (t : Text) (d : Delimiter) (o : Option Fields)
    → told_of_events (finished t d o).gives ≡ told.Nothing → ⊥
finished_tells t d None e = cc
finished_tells t d (Some s) e = by_allowed (allowed d s) e
  where
    by_allowed : (b : Bool) → told_of_events (symbol_taken t s b).gives ≡ told.Nothing → ⊥
    by_allowed true e = told_tells t s (ends_packet s.s1) e
    by_allowed false e = cc

symbol-front : (t : Text) (d : Delimiter) (c : Char) (x y z : ℕ) (cs : List Char) → kind c ≡ Opens d
    → telling_front (place t Nothing) (c ∷ Data x ∷ Data y ∷ Data z ∷ cs) ≡ record {
      count = 4;
      step = finished (opened t) d (spelled x y z);
    }
symbol-front t d c x y z cs opens =
    let last = finished (opened t) d (spelled x y z) in
    let fourth : step (place (opened t) (Two d x y)) (Data z) ≡ last =
    ap (step_by (opened t) (Two d x y)) (kind-data z) in
    quiet_by (place t Nothing) c (Data x ∷ Data y ∷ Data z ∷ cs) (place (opened t) (Opened d))
    (ap (step_by t Nothing) opens)
    ∙ ap (λ (f : Front). record { count = suc f.count; step = f.step })
    (quiet_by (place (opened t) (Opened d)) (Data x) (Data y ∷ Data z ∷ cs)
    (place (opened t) (One d x)) (ap (step_by (opened t) (Opened d)) (kind-data x))
    ∙ ap (λ (f : Front). record { count = suc f.count; step = f.step })
    (quiet_by (place (opened t) (One d x)) (Data y) (Data z ∷ cs) (place (opened t) (Two d x y))
    (ap (step_by (opened t) (One d x)) (kind-data y))
    ∙ ap (λ (f : Front). record { count = suc f.count; step = f.step })
    (front-cons (place (opened t) (Two d x y)) (Data z) cs
    ∙ ap (λ (s : ReaderStep). front_by s.gives s (telling_front s.place cs)) fourth
    ∙ tells_by last.gives last (telling_front last.place cs)
    (finished_tells (opened t) d (spelled x y z)))))

pub part-symbol : (t : Text) (p : Pending) (d : Delimiter) (x y z : ℕ) (chars : List Char)
    (outcome : Told) (to : Framing) → p ≡ Nothing
    → StartsWithSymbol d x y z chars
    → outcome ≡ told_of_events (finished (opened t) d (spelled x y z)).gives
    → to ≡ framing_after (finished (opened t) d (spelled x y z))
    → IsPart (place t p) chars 4 outcome to
part-symbol t p d x y z chars outcome to none starts tells stands =
    let size = ap length starts.is in
    let front : telling_front (place t p) chars
    ≡ record { count = 4; step = finished (opened t) d (spelled x y z) } =
    ap (λ (q : Pending). telling_front (place t q) chars) none
    ∙ ap (telling_front (place t Nothing)) starts.is
    ∙ symbol-front t d starts.first x y z (drop 4 chars) starts.opens in
    record {
      some = omega arith;
      within = omega arith;
      quiet = λ quiet. absurd (finished_tells (opened t) d (spelled x y z) (sym tells ∙ quiet));
      tells = λ told_some. (
        ap (λ (f : Front). f.count) (sym front),
        tells ∙ ap (λ (f : Front). told_of_events f.step.gives) (sym front),
        stands ∙ ap (λ (f : Front). framing_after f.step) (sym front),
      );
    }

-- ---- parts one after another

pub later-later : (m n : ℕ) (f : Front) → later m (later n f) ≡ later (m + n) f
later-later m n f =
    let same : m + (n + f.count) ≡ m + n + f.count = omega arith in
    ap (λ (k : ℕ). record { count = k; step = f.step }) same

-- what a run keeps after a part that tells nothing
pub part-quiet : (from to : Place) (chars : List Char) (count size : ℕ) (all : Front)
    → length chars ≤ size → count ≤ length chars
    → ((n : ℕ) → n + length chars ≡ size → later n (telling_front from chars) ≡ all)
    → telling_front from chars ≡ later count (telling_front to (drop count chars))
    → (behind : List Char) → behind ≡ drop count chars → length behind + count ≡ length chars
    → (n : ℕ) → n + length behind ≡ size → later n (telling_front to behind) ≡ all
part-quiet from to chars count size all within few so_far front behind is length_is n e =
    let m : ℕ = size - length chars in
    let before : m + length chars ≡ size = omega arith in
    let same : m + count ≡ n = omega arith in
    ap (λ (xs : List Char). later n (telling_front to xs)) is
    ∙ ap (λ (k : ℕ). later k (telling_front to (drop count chars))) (sym same)
    ∙ sym (later-later m count (telling_front to (drop count chars)))
    ∙ ap (later m) (sym front) ∙ so_far m before

-- and where it ends
pub part-tells : (from : Place) (chars : List Char) (count size n : ℕ) (all : Front)
    → count ≡ (telling_front from chars).count
    → ((k : ℕ) → k + length chars ≡ size → later k (telling_front from chars) ≡ all)
    → count ≤ length chars → n + length chars ≡ size
    → record { count = n + count; step = (telling_front from chars).step } ≡ all
part-tells from chars count size n all is so_far few e =
    ap (λ (k : ℕ). record { count = n + k; step = (telling_front from chars).step }) is ∙ so_far n e

-- no character is left
pub part-none : (from : Place) (chars : List Char) (size : ℕ) (all : Front) → length chars ≡ 0
    → length chars ≤ size
    → ((k : ℕ) → k + length chars ≡ size → later k (telling_front from chars) ≡ all)
    → record { count = size; step = record { place = from; gives = [] } } ≡ all
part-none from [] size all none within so_far =
    let whole : size + 0 ≡ size = omega arith in
    ap (λ (n : ℕ). record { count = n; step = record { place = from; gives = [] } }) (sym whole)
    ∙ ap (later size) (sym (front-none from)) ∙ so_far size (omega arith)
part-none from (c ∷ cs) size all none within so_far = absurd (omega arith)
