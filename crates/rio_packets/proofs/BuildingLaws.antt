-- The bytes of a packet as they come, and what they are answered with.
use Rattle.std.proofs.Common.{◌≡◌, ℕ, ◌+◌, ◌-◌, ◌/◌, ◌<◌, ◌≤◌, Bool, true, Option, Some, None, Err, List, [], ◌∷◌, ◌++◌, length, take, drop, get_or, refl, sym, ap, ◌∙◌, arith, lt-ltb, le-ltb, take-append-drop, if◌then◌else◌}
use Rattle.std.proofs.lemmas.List.{take-append-le}
use Rattle.std.proofs.lemmas.List.Elements.{All-cons, All-tail}
use Rattle.std.proofs.Math.Seq.{take-append-add}
use Rattle.rio_packets.specs.declared.cause.Cause.TheVariants.{General}
use Rattle.rio_packets.specs.Building.{as_they_came, IsBuilding}
use Rattle.rio_packets.specs.Carries.{at_origin, register_passes, carried, found_or_bad, checked}
use Rattle.rio_packets.specs.LinkForm.{AreBytes, Passes}
use Rattle.rio_packets.specs.Register.{fed_all, running}
use Rattle.rio_packets.proofs.CarriesLaws.{carried-register, Carries-from_carried, Passes-from_Carries}
use Rattle.rio_packets.proofs.Shifts.{fed_all-append}

pub length-as_they_came : (first : ℕ) (form : List ℕ)
    → length (as_they_came first form) ≡ length form
length-as_they_came first [] = refl
length-as_they_came first (b ∷ bs) = refl

AreBytes-as_they_came : (first : ℕ) (form : List ℕ) → first < 256 → AreBytes form
    → AreBytes (as_they_came first form)
AreBytes-as_they_came first [] small range = range
AreBytes-as_they_came first (b ∷ bs) small range =
    All-cons (λ x. x < 256) first bs small (All-tail (λ x. x < 256) b bs range)

first-as_they_came : (first : ℕ) (form : List ℕ) → 0 < length form
    → get_or (as_they_came first form) 0 0 ≡ first
first-as_they_came first [] h = absurd (omega arith)
first-as_they_came first (b ∷ bs) h = refl

pub checked-few : (bytes : List ℕ) → length bytes < 8 → checked bytes ≡ Err General
unfolding checked
checked-few bytes h = rw (lt-ltb (length bytes) 8 h) refl

pub checked-in_range : (bytes : List ℕ) → 8 ≤ length bytes → length bytes ≤ 276
    → checked bytes ≡ found_or_bad (carried bytes)
unfolding checked
checked-in_range bytes least most =
    rw (le-ltb (length bytes) 8 least, le-ltb 276 (length bytes) most) refl

-- what is answered of a form and the first byte that came
answer : ℕ → List ℕ → Bool → Option (ℕ × List ℕ)
answer first form passed = if passed then Some (first / 8, form) else None

pub carried-built : (first : ℕ) (form : List ℕ) → first < 256 → AreBytes form
    → at_origin (as_they_came first form) ≡ form → 8 ≤ length form
    → length form ≤ 276 → carried (as_they_came first form)
    ≡ (if register_passes form then Some (first / 8, form) else None)
carried-built first form small range origin least most =
    let bytes = as_they_came first form in
    let size = length-as_they_came first form in
    carried-register bytes (omega arith) (omega arith)
    (AreBytes-as_they_came first form small range)
    ∙ ap (λ (p : List ℕ). if register_passes p then Some (get_or bytes 0 0 / 8, p) else None) origin
    ∙ ap (λ (b : ℕ). if register_passes form then Some (b / 8, form) else None)
    (first-as_they_came first form (omega arith))

pub checked-built : (first : ℕ) (form : List ℕ) → first < 256 → AreBytes form
    → at_origin (as_they_came first form) ≡ form → 8 ≤ length form
    → length form ≤ 276 → checked (as_they_came first form)
    ≡ found_or_bad (if register_passes form then Some (first / 8, form) else None)
checked-built first form small range origin least most =
    let size = length-as_they_came first form in
    checked-in_range (as_they_came first form) (omega arith) (omega arith)
    ∙ ap found_or_bad (carried-built first form small range origin least most)

pub Passes-built : (first : ℕ) (form : List ℕ) → first < 256 → AreBytes form
    → at_origin (as_they_came first form) ≡ form → 8 ≤ length form
    → length form ≤ 276 → register_passes form ≡ true → Passes form
Passes-built first form small range origin least most passed =
    Passes-from_Carries (as_they_came first form) (first / 8) form
    (Carries-from_carried (as_they_came first form) (first / 8) form
    (carried-built first form small range origin least most
    ∙ ap (λ (b : Bool). if b then Some (first / 8, form) else None) passed))

origin_more : (first : ℕ) (form more : List ℕ) → at_origin (as_they_came first form) ≡ form
    → (0 < length form + length more → 0 < length form)
    → at_origin (as_they_came first (form ++ more)) ≡ form ++ more
origin_more first [] [] origin behind = refl
origin_more first [] (m ∷ ms) origin behind =
    absurd (let none = behind (omega arith) in omega arith)
origin_more first (b ∷ bs) more origin behind = ap (λ (p : List ℕ). p ++ more) origin

runs_more : (form more : List ℕ) (k r after last : ℕ) → r ≡ running form
    → after ≡ fed_all r (take k more) → last ≡ fed_all after (drop k more)
    → last ≡ running (form ++ more)
runs_more form more k r after last runs first second =
    second
    ∙ ap (λ (n : ℕ). fed_all n (drop k more)) first
    ∙ sym (fed_all-append r (take k more) (drop k more))
    ∙ ap (fed_all r) (take-append-drop k more)
    ∙ ap (λ (n : ℕ). fed_all n more) runs
    ∙ sym (fed_all-append 0xffff form more)

pub half_more : (form more : List ℕ) (r after : ℕ) → length form < 82 → r ≡ running form
    → after ≡ fed_all r (take (82 - length form) more) → after ≡ running (take 82 (form ++ more))
half_more form more r after short runs first =
    let whole : length form + (82 - length form) ≡ 82 = omega arith in
    first ∙ ap (λ (n : ℕ). fed_all n (take (82 - length form) more)) runs
    ∙ sym (fed_all-append 0xffff form (take (82 - length form) more))
    ∙ ap running (sym (take-append-add form more (82 - length form))
    ∙ ap (λ (n : ℕ). take n (form ++ more)) whole)

pub half_same : (form more : List ℕ) (half : ℕ) → 82 ≤ length form → half ≡ running (take 82 form)
    → half ≡ running (take 82 (form ++ more))
half_same form more half long is = is ∙ ap running (sym (take-append-le 82 form more long))

pub IsBuilding-more : (first kept : ℕ) (form more both : List ℕ) (k r half after last now : ℕ)
    → IsBuilding first form r half → kept ≡ first → both ≡ form ++ more
    → (0 < length form + length more → 0 < length form) → after ≡ fed_all r (take k more)
    → last ≡ fed_all after (drop k more)
    → now ≡ running (take 82 (form ++ more)) → IsBuilding kept both last now
IsBuilding-more first kept form more both k r half after last now is keeps same behind front back
    middle =
    rw (keeps, same) (record {
      origin = origin_more first form more is.origin behind;
      runs = runs_more form more k r after last is.runs front back;
      half = middle;
    })
