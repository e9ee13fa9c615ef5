-- Four characters that say one symbol, and the bytes of a packet with an ackID.
use Rattle.std.proofs.Common.{◌≡◌, ℕ, suc, ◌+◌, ◌*◌, ◌<◌, ◌-◌, List, [], ◌∷◌, ◌++◌, length, get_or, slice_set, slice_index, drop, refl, sym, ap, ◌∙◌, subst, arith}
use Rattle.std.proofs.lemmas.List.{drop_all, length-set}
use Rattle.rio_symbols.specs.Fields.{Fields}
use Rattle.link_model.specs.Prelude.{Char, telling_front}
use Rattle.link_model.specs.declared.event.Event.{Event}
use Rattle.link_model.specs.declared.event.Event.TheVariants.{Ctl, Pkt, Bad}
use Rattle.link_model.specs.Reading.{placed, IsReading}
use Rattle.link_model.specs.ReadingSpelt.{bytes_with_ack}
use Rattle.link_model.specs.Places.{place_start, run, AreGiven}
use Rattle.link_model.proofs.FrontLaws.{front-some, front-all, front-given, run-telling_front}
use Rattle.link_model.proofs.PlacesLaws.{reading_exists, reading_only, run-none}
use Rattle.rio_framer.specs.declared.events.Told.{Told}
use Rattle.rio_framer.specs.declared.events.Told.TheVariants as told
use Rattle.rio_framer.specs.Framing.{Framing, framing_at}
use Rattle.rio_framer.specs.Giving.{told_of_events}
use Rattle.library_calls.specs.Wires.{wire_char, wire_chars}
use Rattle.library_calls.specs.Words.{SaySymbol}

-- four numbers as characters
pub four_chars : (numbers : List ℕ) (a b c d : Char) → length numbers ≡ 4
    → a ≡ wire_char (get_or numbers 0 0) → b ≡ wire_char (get_or numbers 1 0)
    → c ≡ wire_char (get_or numbers 2 0) → d ≡ wire_char (get_or numbers 3 0)
    → wire_chars numbers ≡ a ∷ b ∷ c ∷ d ∷ []
four_chars [] a b c d four h0 h1 h2 h3 = absurd (omega (arith, four))
four_chars (p ∷ []) a b c d four h0 h1 h2 h3 = absurd (omega (arith, four))
four_chars (p ∷ q ∷ []) a b c d four h0 h1 h2 h3 = absurd (omega (arith, four))
four_chars (p ∷ q ∷ r ∷ []) a b c d four h0 h1 h2 h3 = absurd (omega (arith, four))
four_chars (p ∷ q ∷ r ∷ s ∷ []) a b c d four h0 h1 h2 h3 =
    ap (λ (x : Char). x ∷ wire_char q ∷ wire_char r ∷ wire_char s ∷ []) (sym h0)
    ∙ ap (λ (x : Char). a ∷ x ∷ wire_char r ∷ wire_char s ∷ []) (sym h1)
    ∙ ap (λ (x : Char). a ∷ b ∷ x ∷ wire_char s ∷ []) (sym h2)
    ∙ ap (λ (x : Char). a ∷ b ∷ c ∷ x ∷ []) (sym h3)
four_chars (p ∷ q ∷ r ∷ s ∷ t ∷ more) a b c d four h0 h1 h2 h3 = absurd (omega (arith, four))

-- what tells a symbol alone is that symbol
one_of_ctl : (es : List Event) (symbol : Fields) → AreGiven es
    → told_of_events es ≡ told.Ctl symbol → es ≡ Ctl symbol ∷ []
one_of_ctl [] symbol h is = cc
one_of_ctl (Ctl s ∷ []) symbol h is =
    let same : s ≡ symbol = cc in ap (λ (f : Fields). Ctl f ∷ []) same
one_of_ctl (Pkt ack packet ∷ []) symbol h is = absurd h
one_of_ctl (Bad cause ∷ []) symbol h is = cc
one_of_ctl (e ∷ x ∷ []) symbol (bytes, s, first, x_is, either) is =
    absurd (let ends : told.Ends s ≡ told.Ctl symbol = rw x_is at is in cc)
one_of_ctl (e ∷ x ∷ y ∷ es) symbol h is = absurd h

-- the front tells a symbol at the fourth character
says_one : (chars : List Char) (symbol : Fields) → length chars ≡ 4
    → (telling_front place_start chars).count ≡ 4
    → told_of_events (telling_front place_start chars).step.gives ≡ told.Ctl symbol
    → SaySymbol chars symbol
says_one chars symbol four count is =
    let front = telling_front place_start chars in
    let gives = one_of_ctl front.step.gives symbol (front-given place_start chars) is in
    let none : drop front.count chars ≡ [] =
    drop_all front.count chars (omega (arith, four, count)) in
    let ran : run place_start 0 chars ≡ (3, Ctl symbol) ∷ [] =
    run-telling_front place_start 0 3 chars (omega (arith, count))
    ∙ ap (λ (cs : List Char). placed 3 front.step.gives ++ run front.step.place 4 cs) none
    ∙ ap (λ (es : List (ℕ × Event)). placed 3 front.step.gives ++ es) (run-none front.step.place 4)
    ∙ ap (λ (es : List Event). placed 3 es ++ []) gives in (
      four,
      subst (λ (es : List (ℕ × Event)). IsReading chars es) ran (reading_exists chars),
    )

-- the same, as the framer read the characters
pub read_one : (numbers : List ℕ) (chars : List Char) (from : Framing) (count : ℕ) (read : Told)
    (symbol : Fields) → wire_chars numbers ≡ chars → length numbers ≡ 4
    → from ≡ framing_at place_start → count ≡ (telling_front from.place chars).count
    → read ≡ told_of_events (telling_front from.place chars).step.gives → read ≡ told.Ctl symbol
    → count ≡ 4 → SaySymbol (wire_chars numbers) symbol
read_one numbers chars from count read symbol chars_are four from_is count_is told_is is last =
    let start = ap (λ (f : Framing). f.place) from_is in
    let size : length chars ≡ 4 = ap length (sym chars_are) ∙ length_wires numbers ∙ four in
    subst (λ (cs : List Char). SaySymbol cs symbol) (sym chars_are)
    (says_one chars symbol size
    (sym (ap (λ p. (telling_front p chars).count) start) ∙ sym count_is ∙ last)
    (sym (ap (λ p. told_of_events (telling_front p chars).step.gives) start) ∙ sym told_is ∙ is))
  where
    length_wires : (ns : List ℕ) → length (wire_chars ns) ≡ length ns
    length_wires [] = refl
    length_wires (n ∷ ns) = ap suc (length_wires ns)

some_is_none : (x : ℕ × Event) (xs : List (ℕ × Event)) → x ∷ xs ≡ [] → ⊥
some_is_none x xs is = cc

heads : (x y : ℕ × Event) (xs ys : List (ℕ × Event)) → x ∷ xs ≡ y ∷ ys → x ≡ y
heads x y xs ys is = cc

tails : (x y : ℕ × Event) (xs ys : List (ℕ × Event)) → x ∷ xs ≡ y ∷ ys → xs ≡ ys
tails x y xs ys is = cc

-- where one symbol is all that is given, it is told at its place
one_front : (gives : List Event) (n : ℕ) (behind : List (ℕ × Event)) (symbol : Fields)
    → (gives ≡ [] → behind ≡ []) → (3, Ctl symbol) ∷ [] ≡ placed n gives ++ behind
    → (n ≡ 3) × (told_of_events gives ≡ told.Ctl symbol)
one_front [] n behind symbol none is =
    absurd (some_is_none (3, Ctl symbol) [] (is ∙ none refl))
one_front (e ∷ []) n behind symbol none is =
    let first : (3, Ctl symbol) ≡ (n, e) = heads (3, Ctl symbol) (n, e) [] behind is in (
      sym (ap (λ (p : ℕ × Event). p.0) first),
      ap (λ (p : ℕ × Event). told_of_events (p.1 ∷ [])) (sym first),
    )
one_front (e ∷ x ∷ es) n behind symbol none is =
    let more = (n, x) ∷ (placed n es ++ behind) in
    absurd (some_is_none (n, x) (placed n es ++ behind)
    (sym (tails (3, Ctl symbol) (n, e) [] more is)))

-- characters that say a symbol tell it at the fourth of them
pub read_back : (numbers : List ℕ) (chars : List Char) (from : Framing) (count : ℕ) (read : Told)
    (symbol : Fields) → wire_chars numbers ≡ chars
    → from ≡ framing_at place_start → count ≡ (telling_front from.place chars).count
    → read ≡ told_of_events (telling_front from.place chars).step.gives
    → SaySymbol (wire_chars numbers) symbol → (count ≡ 4) × (read ≡ told.Ctl symbol)
read_back numbers chars from count read symbol chars_are from_is count_is told_is says =
    let said = subst (λ (cs : List Char). SaySymbol cs symbol) chars_are says in
    let four : length chars ≡ 4 = said.0 in
    let start = ap (λ (f : Framing). f.place) from_is in
    let front = telling_front place_start chars in
    let some : 0 < front.count = front-some place_start chars (omega (arith, four)) in
    let n : ℕ = front.count - 1 in
    let here : 0 + front.count ≡ suc n = omega (arith, some) in
    let behind = run front.step.place (suc n) (drop front.count chars) in
    let none : front.step.gives ≡ [] → behind ≡ [] = λ quiet.
    ap (run front.step.place (suc n)) (drop_all front.count chars
    (omega (arith, front-all place_start chars quiet))) ∙ run-none front.step.place (suc n) in
    let found = one_front front.step.gives n behind symbol none
    (reading_only chars ((3, Ctl symbol) ∷ []) said.1
    ∙ run-telling_front place_start 0 n chars here) in
    let last : front.count ≡ 4 = omega (arith, found.0, here) in (
      count_is ∙ ap (λ p. (telling_front p chars).count) start ∙ last,
      told_is ∙ ap (λ p. told_of_events (telling_front p chars).step.gives) start ∙ found.1,
    )

-- ---- packets

pub with_ack_is : (ack : ℕ) (packet : List ℕ)
    → slice_set packet 0 (8 * ack + slice_index packet 0) ≡ bytes_with_ack ack packet
unfolding bytes_with_ack
with_ack_is ack packet = refl

pub with_ack_length : (ack : ℕ) (packet : List ℕ)
    → length (slice_set packet 0 (8 * ack + slice_index packet 0)) ≡ length packet
with_ack_length ack packet = length-set packet 0 (8 * ack + slice_index packet 0)
