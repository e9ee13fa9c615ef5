-- What is said in pieces, and what is sent for a symbol.
use Rattle.link_machine.proofs.Prelude.{◌≡◌, ℕ, suc, ◌+◌, List, [], ◌∷◌, ◌++◌, length, refl, sym, ap, ◌∙◌, map-append, Char, Fields, InRange, Place, place, step, run, place_after, Text, placed, symbol_chars_of, said, Event, Pending, Nothing, broken_off, begins_in, text_after, told, run-append, place_after-append, events_of, placed_away, run-symbol_anywhere, place_after-symbol_anywhere}

-- what is said does not depend on the place of the first character
said_from : (from : Place) (at n : ℕ) (cs : List Char)
    → events_of (run from at cs) ≡ events_of (run from n cs)
unfolding run
said_from from at n [] = refl
said_from from at n (c ∷ cs) =
    map-append (λ (p : ℕ × Event). p.1) (placed at (step from c).gives)
    (run (step from c).place (suc at) cs)
    ∙ (λ i. (placed_away at (step from c).gives ∙ sym (placed_away n (step from c).gives)) i
    ++ said_from (step from c).place (suc at) (suc n) cs i)
    ∙ sym (map-append (λ (p : ℕ × Event). p.1) (placed n (step from c).gives)
    (run (step from c).place (suc n) cs))

pub said-append : (from : Place) (xs cs : List Char)
    → said from (xs ++ cs) ≡ said from xs ++ said (place_after from xs) cs
said-append from xs cs =
    let n = length xs in
    ap events_of (run-append from 0 (0 + n) xs cs refl)
    ∙ map-append (λ (p : ℕ × Event). p.1) (run from 0 xs) (run (place_after from xs) (0 + n) cs)
    ∙ ap (λ (es : List Event). said from xs ++ es) (said_from (place_after from xs) (0 + n) 0 cs)

-- what characters say, and where the reader stands after them
abbrev pub reads : Place → List Char → List Event × Place
reads from cs = (said from cs, place_after from cs)

abbrev pub prepended : List Event → List Event × Place → List Event × Place
prepended es r = (es ++ r.0, r.1)

symbol_said : (t : Text) (k : Pending) (s : Fields) → InRange s
    → said (place t k) (symbol_chars_of s) ≡ broken_off k ++ told (begins_in t k) s
symbol_said t k s range =
    let tells = told (begins_in t k) s in
    ap events_of (run-symbol_anywhere t k 0 s range)
    ∙ map-append (λ (p : ℕ × Event). p.1) (placed 0 (broken_off k)) (placed (0 + 3) tells)
    ∙ (λ i. placed_away 0 (broken_off k) i ++ placed_away (0 + 3) tells i)

-- A symbol, from any place, and more characters.
pub symbol_reads : (t : Text) (k : Pending) (s : Fields) (cs : List Char) → InRange s
    → reads (place t k) (symbol_chars_of s ++ cs)
    ≡ prepended (broken_off k ++ told (begins_in t k) s)
    (reads (place (text_after (begins_in t k) s.s1) Nothing) cs)
symbol_reads t k s cs range =
    let from = place t k in
    let xs = symbol_chars_of s in
    (λ i. (said-append from xs cs i, place_after-append from xs cs i))
    ∙ (λ i. (
      symbol_said t k s range i ++ said (place_after-symbol_anywhere t k s range i) cs,
      place_after (place_after-symbol_anywhere t k s range i) cs,
    ))
