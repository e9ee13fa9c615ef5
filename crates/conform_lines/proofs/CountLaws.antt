-- What lines of an answer come to, one after another, and that they come to one thing.
use Rattle.std.proofs.Common.{◌≡◌, ℕ, inl, inr, List, [], ◌∷◌, ◌++◌, All, map, refl, sym, ap, ◌∙◌, subst, append-nil, append_assoc}
use Rattle.std.proofs.lemmas.List.Elements.{All-head, All-tail}
use Rattle.std.specs.List.{flat_map}
use Rattle.rio_chars.specs.CharText.{char_text_of, HasByte}
use Rattle.rio_chars.specs.declared.chars.Char.{Char}
use Rattle.rio_chars.proofs.CharLaws.{char_text_of-injective}
use Rattle.link_model.specs.Places.{Place}
use Rattle.link_model.specs.declared.event.Event.{Event}
use Rattle.port_lines.specs.Requests.{SpellsGot}
use Rattle.conform_lines.specs.declared.counting.Counted.{Counted}
use Rattle.conform_lines.specs.Counting.{AnswerCounts, counts_none, counts_chars, counts_then, SendsChars, LineComesTo, LinesComeTo, counted_event}

-- what lines come to, by its parts
abbrev pub made : List Counted → List ℕ → Place → AnswerCounts
made sent other place = record { sent = sent; other = other; place = place }

both : (place : Place) (a b : List Counted) (c d : List ℕ) → a ≡ b → c ≡ d
    → made a c place ≡ made b d place
both place a b c d same alike = ap (λ l. made l c place) same ∙ ap (λ l. made b l place) alike

counts_then-none : (from : Place) (more : AnswerCounts)
    → counts_then (counts_none from) more ≡ counts_then more (counts_none more.place)
counts_then-none from more =
    both more.place more.sent (more.sent ++ []) more.other (more.other ++ [])
    (sym (append-nil more.sent)) (sym (append-nil more.other))

counts_then-then : (first mid last : AnswerCounts)
    → counts_then (counts_then first mid) last ≡ counts_then first (counts_then mid last)
counts_then-then first mid last =
    both last.place ((first.sent ++ mid.sent) ++ last.sent)
    (first.sent ++ (mid.sent ++ last.sent)) ((first.other ++ mid.other) ++ last.other)
    (first.other ++ (mid.other ++ last.other))
    (append_assoc first.sent mid.sent last.sent) (append_assoc first.other mid.other last.other)

-- a line more
pub LinesComeTo-more : (from : Place) (lines : List (List ℕ)) (line : List ℕ)
    (so_far more : AnswerCounts) → LinesComeTo from lines so_far
    → LineComesTo so_far.place line more
    → LinesComeTo from (lines ++ line ∷ []) (counts_then so_far more)
LinesComeTo-more from [] line so_far more h k = (
  more,
  counts_none more.place,
  subst (λ p. LineComesTo p line more) (ap (λ (c : AnswerCounts). c.place) h) k,
  refl,
  ap (λ (c : AnswerCounts). counts_then c more) h ∙ counts_then-none from more,
)
LinesComeTo-more from (other ∷ lines) line so_far more h k = (
  h.0,
  counts_then h.1 more,
  h.2,
  LinesComeTo-more h.0.place lines line h.1 more h.3
      (subst (λ p. LineComesTo p line more) (ap (λ (c : AnswerCounts). c.place) h.4) k),
  ap (λ (c : AnswerCounts). counts_then c more) h.4 ∙ counts_then-then h.0 h.1 more,
)

-- one event more
pub events_more : (events : List (ℕ × Event)) (last : ℕ × Event)
    → flat_map counted_event (map (λ (e : ℕ × Event). e.1) (events ++ last ∷ []))
    ≡ flat_map counted_event (map (λ (e : ℕ × Event). e.1) events) ++ counted_event last.1
events_more [] last = append-nil (counted_event last.1)
events_more (first ∷ events) last =
    ap (λ l. counted_event first.1 ++ l) (events_more events last)
    ∙ sym (append_assoc (counted_event first.1)
    (flat_map counted_event (map (λ (e : ℕ × Event). e.1) events)) (counted_event last.1))

-- what lines come to with one more
pub same_counts : (so_far more : AnswerCounts) (sent : List Counted) (other : List ℕ)
    (place : Place)
    → sent ≡ so_far.sent ++ more.sent → other ≡ so_far.other ++ more.other → place ≡ more.place
    → counts_then so_far more ≡ made sent other place
same_counts so_far more sent other place same alike here =
    both more.place (so_far.sent ++ more.sent) sent (so_far.other ++ more.other) other
    (sym same) (sym alike)
    ∙ ap (made sent other) (sym here)

-- ---- characters

-- words spell one list of characters
texts_once : (chars others : List Char) → map char_text_of chars ≡ map char_text_of others
    → chars ≡ others
texts_once [] [] is = refl
texts_once [] (c ∷ others) is = absurd cc
texts_once (c ∷ chars) [] is = absurd cc
texts_once (c ∷ chars) (d ∷ others) is =
    let first = char_text_of-injective c d cc in
    let rest = texts_once chars others cc in
    cc

-- characters whose texts these are have one with the text of the next word
char_among : (chars before : List Char) (word : List ℕ) (more : List (List ℕ))
    → All (λ c. HasByte c) chars
    → map char_text_of before ++ word ∷ more ≡ map char_text_of chars
    → (c : Char) × HasByte c × (word ≡ char_text_of c)
char_among [] [] word more all is = absurd cc
char_among [] (x ∷ before) word more all is = absurd cc
char_among (c ∷ chars) [] word more all is = (c, All-head (λ x. HasByte x) c chars all, cc)
char_among (c ∷ chars) (x ∷ before) word more all is =
    char_among chars before word more (All-tail (λ y. HasByte y) c chars all) cc

-- words of which one is no character spell no characters
pub no_chars_among : (words : List (List ℕ)) (before : List Char) (word : List ℕ)
    (more : List (List ℕ)) → words ≡ map char_text_of before ++ word ∷ more
    → ((c : Char) → HasByte c → ¬ (word ≡ char_text_of c))
    → (chars : List Char) → ¬ SpellsGot words chars
no_chars_among words before word more is none chars spells =
    let found = char_among chars before word more spells.0 (sym is ∙ spells.1) in
    none found.0 found.1 found.2

abbrev behind_of : List (List ℕ) → List (List ℕ)
behind_of [] = []
behind_of (word ∷ words) = words

-- a line sends one list of characters
sends_once : (line : List ℕ) (chars others : List Char) → SendsChars line chars
    → SendsChars line others → chars ≡ others
sends_once line chars others h k =
    texts_once chars others
    (sym h.2.1 ∙ ap behind_of (sym h.1 ∙ k.1) ∙ k.2.1)

-- ---- one thing

line_once : (from : Place) (line : List ℕ) (one other : AnswerCounts)
    → LineComesTo from line one → LineComesTo from line other → one ≡ other
line_once from line one other (inl h) (inl k) =
    h.2 ∙ ap (counts_chars from) (sends_once line h.0 k.0 h.1 k.1) ∙ sym k.2
line_once from line one other (inl h) (inr k) = absurd (k.0 h.0 h.1)
line_once from line one other (inr h) (inl k) = absurd (h.0 k.0 k.1)
line_once from line one other (inr h) (inr k) = h.1 ∙ sym k.1

pub LinesComeTo-once : (from : Place) (lines : List (List ℕ)) (one other : AnswerCounts)
    → LinesComeTo from lines one → LinesComeTo from lines other → one ≡ other
LinesComeTo-once from [] one other h k = h ∙ sym k
LinesComeTo-once from (line ∷ lines) one other h k =
    let first : h.0 ≡ k.0 = line_once from line h.0 k.0 h.2 k.2 in
    let rest : h.1 ≡ k.1 =
    LinesComeTo-once k.0.place lines h.1 k.1
    (subst (λ (c : AnswerCounts). LinesComeTo c.place lines h.1) first h.3) k.3 in
    h.4 ∙ ap (λ (c : AnswerCounts). counts_then c h.1) first
    ∙ ap (λ (c : AnswerCounts). counts_then k.0 c) rest ∙ sym k.4
