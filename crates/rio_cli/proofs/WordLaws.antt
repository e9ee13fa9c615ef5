-- Characters are read line by line and word by word.
use Rattle.std.proofs.Common.{◌≡◌, ◌≢◌, ◌==◌, ℕ, ◌+◌, ◌-◌, ◌/◌, ◌%◌, ◌<◌, ◌≤◌, suc, Bool, true, false, cond, ◌⊎◌, inl, inr, List, [], ◌∷◌, ◌++◌, length, get_or, take, drop, drop-cons, refl, sym, ap, ◌∙◌, subst, arith, take-append-drop, length-append, filter}
use denote.Param.Members.{Mut}
use denote.Ref.{Bor}
use Rattle.std.specs.Fn.{CalledAt}
use Rattle.std.specs.List.{flat_map, slice_split, onto_first}
use Rattle.std.specs.Iterator.{Yields}
use Rattle.std.specs.Slice.Iter.{split_rest, split_done, split_callee, split_steps}
use Rattle.std.proofs.lemmas.Iterator.{YieldsList}
use Rattle.std.proofs.lemmas.Iterator.Splits.{YieldsList-from_slice_split}
use Rattle.std.proofs.lemmas.Grind.{flat_map-append}
use Rattle.std.proofs.lemmas.List.Elements.{filter-append}
use Rattle.std.proofs.lemmas.Bool.{ne_eqb}
use Rattle.std.proofs.lemmas.Bool.Decides.{nat_tests}
use Rattle.std.proofs.lemmas.Grind.{common_steps}
use Rattle.rio_chars.specs.CharText.{char_text_of}
use Rattle.rio_chars.specs.HexText.{hex_digit}
use Rattle.rio_chars.specs.declared.chars.Char.TheVariants.{Data, Special, Invalid}
use Rattle.rio_chars.proofs.CharLaws.{char_text_of-injective}
use Rattle.rio_chars.specs.declared.chars.Char.{Char}
use Rattle.rio_chars.specs.Lines.{text_lines}
use Rattle.rio_cli.specs.Decoding.{is_word, word_in, words_in_line, words_of_input, AreTexts, AreSpelled, SpellsChars, BadWordAt}

pub AreTexts-append : (words more : List (List ℕ)) (chars others : List Char) → AreTexts words chars
    → AreTexts more others → AreTexts (words ++ more) (chars ++ others)
AreTexts-append [] more [] others h k = k
AreTexts-append [] more (c ∷ chars) others h k = absurd h
AreTexts-append (w ∷ words) more [] others h k = absurd h
AreTexts-append (w ∷ words) more (c ∷ chars) others h k =
    (h.0, h.1, AreTexts-append words more chars others h.2 k)

spelled_front : (words more : List (List ℕ)) (chars : List Char) → AreTexts (words ++ more) chars
    → AreSpelled words
spelled_front [] more chars h = ([], tt)
spelled_front (w ∷ words) more [] h = absurd h
spelled_front (w ∷ words) more (c ∷ chars) h =
    let rest = spelled_front words more chars h.2 in (c ∷ rest.0, (h.0, h.1, rest.1))

pub spelled_behind : (words more : List (List ℕ)) (chars : List Char)
    → AreTexts (words ++ more) chars → AreSpelled more
spelled_behind [] more chars h = (chars, h)
spelled_behind (w ∷ words) more [] h = absurd h
spelled_behind (w ∷ words) more (c ∷ chars) h = spelled_behind words more chars h.2

pub AreTexts-once : (words : List (List ℕ)) (chars others : List Char) → AreTexts words chars
    → AreTexts words others → others ≡ chars
AreTexts-once [] [] [] h k = refl
AreTexts-once [] [] (d ∷ others) h k = absurd k
AreTexts-once [] (c ∷ chars) others h k = absurd h
AreTexts-once (w ∷ words) [] others h k = absurd h
AreTexts-once (w ∷ words) (c ∷ chars) [] h k = absurd k
AreTexts-once (w ∷ words) (c ∷ chars) (d ∷ others) h k =
    let first : d ≡ c = char_text_of-injective d c (sym k.1 ∙ h.1) in
    ap (λ x. x ∷ others) first ∙ ap (λ xs. c ∷ xs) (AreTexts-once words chars others h.2 k.2)

AreTexts-length : (words : List (List ℕ)) (chars : List Char) → AreTexts words chars
    → length chars ≡ length words
AreTexts-length [] [] h = refl
AreTexts-length [] (c ∷ chars) h = absurd h
AreTexts-length (w ∷ words) [] h = absurd h
AreTexts-length (w ∷ words) (c ∷ chars) h = ap suc (AreTexts-length words chars h.2)

-- ---- a word of three bytes that a space follows

digit_no_space : (n : ℕ) → hex_digit n ≢ 32
digit_no_space n is = grind (arith, nat_tests)

no_space : (c : Char) (x y z : ℕ) → (x ∷ y ∷ z ∷ []) ≡ char_text_of c
    → (x ≢ 32) × (y ≢ 32) × (z ≢ 32)
no_space (Data b) x y z e =
    let first : x ≡ 100 = cc in
    let second : y ≡ hex_digit (b / 16) = cc in
    let third : z ≡ hex_digit (b % 16) = cc in (
      (λ is. absurd (omega arith)),
      (λ is. digit_no_space (b / 16) (sym second ∙ is)),
      (λ is. digit_no_space (b % 16) (sym third ∙ is)),
    )
no_space (Special b) x y z e =
    let first : x ≡ 107 = cc in
    let second : y ≡ hex_digit (b / 16) = cc in
    let third : z ≡ hex_digit (b % 16) = cc in (
      (λ is. absurd (omega arith)),
      (λ is. digit_no_space (b / 16) (sym second ∙ is)),
      (λ is. digit_no_space (b % 16) (sym third ∙ is)),
    )
no_space Invalid x y z e =
    let first : x ≡ 105 = cc in
    let second : y ≡ 110 = cc in
    let third : z ≡ 118 = cc in
    ((λ is. absurd (omega arith)), (λ is. absurd (omega arith)), (λ is. absurd (omega arith)))

words_front : (x y z : ℕ) (rest : List ℕ) → x ≢ 32 → y ≢ 32 → z ≢ 32
    → words_in_line (x ∷ y ∷ z ∷ 32 ∷ rest) ≡ (x ∷ y ∷ z ∷ []) ∷ words_in_line rest
words_front x y z rest nx ny nz =
    let ex : (x == 32) ≡ false = ne_eqb x 32 nx in
    let ey : (y == 32) ≡ false = ne_eqb y 32 ny in
    let ez : (z == 32) ≡ false = ne_eqb z 32 nz in
    rw (ex, ey, ez) refl

-- one more word was read
pub words-turn : (left : List ℕ) (c : Char) → 4 ≤ length left → get_or left 3 0 ≡ 32
    → (get_or left 0 0 ∷ get_or left 1 0 ∷ get_or left 2 0 ∷ []) ≡ char_text_of c
    → words_in_line left ≡ char_text_of c ∷ words_in_line (take (length left - 4) (drop 4 left))
words-turn [] c four space is = absurd (omega arith)
words-turn (x ∷ []) c four space is = absurd (omega arith)
words-turn (x ∷ y ∷ []) c four space is = absurd (omega arith)
words-turn (x ∷ y ∷ z ∷ []) c four space is = absurd (omega arith)
words-turn (x ∷ y ∷ z ∷ s ∷ rest) c four space is =
    let no = no_space c x y z is in
    let all : take (length (x ∷ y ∷ z ∷ s ∷ rest) - 4) rest ≡ rest = grind (arith, common_steps) in
    rw all (ap (λ b. words_in_line (x ∷ y ∷ z ∷ b ∷ rest)) space
    ∙ words_front x y z rest no.0 no.1 no.2
    ∙ ap (λ w. w ∷ words_in_line rest) is)

-- ---- and one that a space or a line feed follows

digit_no_end : (n : ℕ) → hex_digit n ≢ 10
digit_no_end n is = grind (arith, nat_tests)

no_end : (c : Char) (x y z : ℕ) → (x ∷ y ∷ z ∷ []) ≡ char_text_of c
    → (x ≢ 10) × (y ≢ 10) × (z ≢ 10)
no_end (Data b) x y z e =
    let first : x ≡ 100 = cc in
    let second : y ≡ hex_digit (b / 16) = cc in
    let third : z ≡ hex_digit (b % 16) = cc in (
      (λ is. absurd (omega arith)),
      (λ is. digit_no_end (b / 16) (sym second ∙ is)),
      (λ is. digit_no_end (b % 16) (sym third ∙ is)),
    )
no_end (Special b) x y z e =
    let first : x ≡ 107 = cc in
    let second : y ≡ hex_digit (b / 16) = cc in
    let third : z ≡ hex_digit (b % 16) = cc in (
      (λ is. absurd (omega arith)),
      (λ is. digit_no_end (b / 16) (sym second ∙ is)),
      (λ is. digit_no_end (b % 16) (sym third ∙ is)),
    )
no_end Invalid x y z e =
    let first : x ≡ 105 = cc in
    let second : y ≡ 110 = cc in
    let third : z ≡ 118 = cc in
    ((λ is. absurd (omega arith)), (λ is. absurd (omega arith)), (λ is. absurd (omega arith)))

-- by the lines of what stands behind
by_lines : (x y z : ℕ) (lines : List (List ℕ)) → x ≢ 32 → y ≢ 32 → z ≢ 32
    → flat_map words_in_line (onto_first x (onto_first y (onto_first z (onto_first 32 lines))))
    ≡ (x ∷ y ∷ z ∷ []) ∷ flat_map words_in_line lines
by_lines x y z [] nx ny nz =
    ap (λ ws. ws ++ []) (words_front x y z [] nx ny nz)
by_lines x y z (line ∷ lines) nx ny nz =
    ap (λ ws. ws ++ flat_map words_in_line lines) (words_front x y z line nx ny nz)

alone : (x y z : ℕ) → x ≢ 32 → y ≢ 32 → z ≢ 32
    → words_in_line (x ∷ y ∷ z ∷ []) ≡ (x ∷ y ∷ z ∷ []) ∷ []
alone x y z nx ny nz =
    let ex : (x == 32) ≡ false = ne_eqb x 32 nx in
    let ey : (y == 32) ≡ false = ne_eqb y 32 ny in
    let ez : (z == 32) ≡ false = ne_eqb z 32 nz in
    rw (ex, ey, ez) refl

words_before : (x y z s : ℕ) (rest : List ℕ) → (x ≢ 32) × (y ≢ 32) × (z ≢ 32)
    → (x ≢ 10) × (y ≢ 10) × (z ≢ 10) → (s ≡ 32) ⊎ (s ≡ 10)
    → words_of_input (x ∷ y ∷ z ∷ s ∷ rest) ≡ (x ∷ y ∷ z ∷ []) ∷ words_of_input rest
words_before x y z s rest spaceless endless (inl space) =
    let ex : (x == 10) ≡ false = ne_eqb x 10 endless.0 in
    let ey : (y == 10) ≡ false = ne_eqb y 10 endless.1 in
    let ez : (z == 10) ≡ false = ne_eqb z 10 endless.2 in
    ap (λ b. words_of_input (x ∷ y ∷ z ∷ b ∷ rest)) space
    ∙ rw (ex, ey, ez)
    (by_lines x y z (text_lines rest) spaceless.0 spaceless.1 spaceless.2)
words_before x y z s rest spaceless endless (inr end) =
    let ex : (x == 10) ≡ false = ne_eqb x 10 endless.0 in
    let ey : (y == 10) ≡ false = ne_eqb y 10 endless.1 in
    let ez : (z == 10) ≡ false = ne_eqb z 10 endless.2 in
    ap (λ b. words_of_input (x ∷ y ∷ z ∷ b ∷ rest)) end
    ∙ rw (ex, ey, ez) (ap (λ ws. ws ++ words_of_input rest)
    (alone x y z spaceless.0 spaceless.1 spaceless.2))

-- one more word was read
pub words-next : (left : List ℕ) (c : Char) → 4 ≤ length left
    → (get_or left 3 0 ≡ 32) ⊎ (get_or left 3 0 ≡ 10)
    → (get_or left 0 0 ∷ get_or left 1 0 ∷ get_or left 2 0 ∷ []) ≡ char_text_of c
    → words_of_input left ≡ char_text_of c ∷ words_of_input (take (length left - 4) (drop 4 left))
words-next [] c four behind is = absurd (omega arith)
words-next (x ∷ []) c four behind is = absurd (omega arith)
words-next (x ∷ y ∷ []) c four behind is = absurd (omega arith)
words-next (x ∷ y ∷ z ∷ []) c four behind is = absurd (omega arith)
words-next (x ∷ y ∷ z ∷ s ∷ rest) c four behind is =
    let all : take (length (x ∷ y ∷ z ∷ s ∷ rest) - 4) rest ≡ rest = grind (arith, common_steps) in
    rw all (words_before x y z s rest (no_space c x y z is) (no_end c x y z is) behind
    ∙ ap (λ w. w ∷ words_of_input rest) is)

-- a space or a line feed before words is none of them
space_before : (lines : List (List ℕ))
    → flat_map words_in_line (onto_first 32 lines) ≡ flat_map words_in_line lines
space_before [] = refl
space_before (line ∷ lines) = refl

blank_before : (s : ℕ) (rest : List ℕ) → (s ≡ 32) ⊎ (s ≡ 10)
    → words_of_input (s ∷ rest) ≡ words_of_input rest
blank_before s rest (inl space) =
    ap (λ b. words_of_input (b ∷ rest)) space ∙ space_before (text_lines rest)
blank_before s rest (inr end) = ap (λ b. words_of_input (b ∷ rest)) end

pub words-blank : (left : List ℕ) → 1 ≤ length left
    → (get_or left 0 0 ≡ 32) ⊎ (get_or left 0 0 ≡ 10)
    → words_of_input left ≡ words_of_input (take (length left - 1) (drop 1 left))
words-blank [] one blank = absurd (omega arith)
words-blank (s ∷ rest) one blank =
    let all : take (length (s ∷ rest) - 1) rest ≡ rest = grind (arith, common_steps) in
    rw all (blank_before s rest blank)

pub no_words : (left : List ℕ) → length left ≡ 0 → words_of_input left ≡ []
no_words [] none = refl
no_words (x ∷ left) none = absurd (omega arith)

-- ---- a part that is not spelled

parted : {X : Type 0} (all : List X) (n : ℕ) (x : X) → n < length all → x ≡ get_or all n x
    → all ≡ take n all ++ x ∷ drop (suc n) all
parted all n x within here =
    sym (take-append-drop n all)
    ∙ ap (λ xs. take n all ++ xs) (drop-cons all n x within)
    ∙ ap (λ y. take n all ++ y ∷ drop (suc n) all) (sym here)

-- one word of a line
pub bad_word : (line word : List ℕ) (n : ℕ) → n < length (slice_split (λ byte. byte == 32) line)
    → word ≡ get_or (slice_split (λ byte. byte == 32) line) n word
    → ¬ AreSpelled (word_in word) → ¬ AreSpelled (words_in_line line)
bad_word line word n within here bad h =
    let pieces = slice_split (λ byte. byte == 32) line in
    let whole : words_in_line line
    ≡ filter is_word (take n pieces) ++ (word_in word ++ filter is_word (drop (suc n) pieces)) =
    ap (filter is_word) (parted pieces n word within here)
    ∙ filter-append is_word (take n pieces) (word ∷ drop (suc n) pieces)
    ∙ ap (λ xs. filter is_word (take n pieces) ++ xs)
    (filter-append is_word (word ∷ []) (drop (suc n) pieces)) in
    let behind =
    spelled_behind (filter is_word (take n pieces))
    (word_in word ++ filter is_word (drop (suc n) pieces)) h.0
    (subst (λ words. AreTexts words h.0) whole h.1) in
    bad (spelled_front (word_in word) (filter is_word (drop (suc n) pieces)) behind.0 behind.1)

-- what is spelled has no bad word
pub no_bad_word : (bytes : List ℕ) (chars : List Char) (line : ℕ) → SpellsChars bytes chars
    → BadWordAt bytes line → ⊥
no_bad_word bytes chars line spelled b =
    let whole : words_of_input bytes
    ≡ flat_map words_in_line b.before ++ (words_in_line b.text ++ flat_map words_in_line b.behind) =
    ap (flat_map words_in_line) b.split
    ∙ flat_map-append words_in_line b.before (b.text ∷ b.behind) in
    let behind =
    spelled_behind (flat_map words_in_line b.before) (words_in_line b.text
    ++ flat_map words_in_line b.behind)
    chars (subst (λ words. AreTexts words chars) whole spelled) in
    b.bad (spelled_front (words_in_line b.text) (flat_map words_in_line b.behind) behind.0 behind.1)

-- the first bad line is one
same_front : (before before2 : List (List ℕ)) (text text2 : List ℕ) (behind behind2 : List (List ℕ))
    → before ++ text ∷ behind ≡ before2 ++ text2 ∷ behind2
    → AreSpelled (flat_map words_in_line before) → ¬ AreSpelled (words_in_line text)
    → AreSpelled (flat_map words_in_line before2) → ¬ AreSpelled (words_in_line text2)
    → length before ≡ length before2
same_front [] [] text text2 behind behind2 e h bad h2 bad2 = refl
same_front [] (y ∷ ys) text text2 behind behind2 e h bad h2 bad2 =
    let here : text ≡ y = cc in
    absurd (bad (subst (λ t. AreSpelled (words_in_line t)) (sym here)
    (spelled_front (words_in_line y) (flat_map words_in_line ys) h2.0 h2.1)))
same_front (x ∷ xs) [] text text2 behind behind2 e h bad h2 bad2 =
    let here : x ≡ text2 = cc in
    absurd (bad2 (subst (λ t. AreSpelled (words_in_line t)) here
    (spelled_front (words_in_line x) (flat_map words_in_line xs) h.0 h.1)))
same_front (x ∷ xs) (y ∷ ys) text text2 behind behind2 e h bad h2 bad2 =
    let rest : xs ++ text ∷ behind ≡ ys ++ text2 ∷ behind2 = cc in
    ap suc (same_front xs ys text text2 behind behind2 rest
    (spelled_behind (words_in_line x) (flat_map words_in_line xs) h.0 h.1) bad
    (spelled_behind (words_in_line y) (flat_map words_in_line ys) h2.0 h2.1) bad2)

pub bad_word_once : (bytes : List ℕ) (line line2 : ℕ) → BadWordAt bytes line → BadWordAt bytes line2
    → line ≡ line2
bad_word_once bytes line line2 h k =
    let same : length h.before ≡ length k.before =
    same_front h.before k.before h.text k.text h.behind k.behind (sym h.split ∙ k.split)
    h.spelled h.bad k.spelled k.bad in
    h.place ∙ ap (λ n. n + 1) same ∙ sym k.place

-- the n-th of the lines is bad, and those before it are not
pub BadWordAt-from_turn : (bytes : List ℕ) (n : ℕ) (before : List (List ℕ)) (text : List ℕ)
    (chars : List Char) (line : ℕ) → before ≡ take n (text_lines bytes)
    → n < length (text_lines bytes)
    → text ≡ get_or (text_lines bytes) n text → n ≡ length before
    → AreTexts (flat_map words_in_line before) chars → ¬ AreSpelled (words_in_line text)
    → line ≡ n + 1
    → BadWordAt bytes line
BadWordAt-from_turn bytes n before text chars line so_far within here counted spelled bad at =
    record {
      before = before;
      text = text;
      behind = drop (suc n) (text_lines bytes);
      split =
          parted (text_lines bytes) n text within here
          ∙ ap (λ xs. xs ++ text ∷ drop (suc n) (text_lines bytes)) (sym so_far);
      spelled = (chars, spelled);
      bad = bad;
      place = omega arith;
    }

-- ---- there are no more characters than bytes

word_longer : (b : Bool) (x : ℕ) (pieces : List (List ℕ))
    → length (filter is_word (cond b ([] ∷ pieces) (onto_first x pieces)))
    ≤ 1 + length (filter is_word pieces)
word_longer true x pieces = omega arith
word_longer false x [] = omega arith
word_longer false x ([] ∷ pieces) = omega arith
word_longer false x ((y ∷ ys) ∷ pieces) = omega arith

line_longer : (b : Bool) (x : ℕ) (lines : List (List ℕ))
    → length (flat_map words_in_line (cond b ([] ∷ lines) (onto_first x lines)))
    ≤ 1 + length (flat_map words_in_line lines)
line_longer true x lines = omega arith
line_longer false x [] =
    let one = word_longer (x == 32) x ([] ∷ []) in
    omega (arith, length-append (words_in_line (x ∷ [])) [])
line_longer false x (line ∷ lines) =
    let one = word_longer (x == 32) x (slice_split (λ byte. byte == 32) line) in
    omega (
      arith,
      length-append (words_in_line (x ∷ line)) (flat_map words_in_line lines),
      length-append (words_in_line line) (flat_map words_in_line lines),
    )

few_words : (bytes : List ℕ) → length (words_of_input bytes) ≤ length bytes
few_words [] = omega arith
few_words (x ∷ bytes) =
    let more = line_longer (x == 10) x (text_lines bytes) in let rest = few_words bytes
    in omega arith

pub few_chars : (bytes : List ℕ) (chars : List Char) → SpellsChars bytes chars
    → length chars ≤ length bytes
few_chars bytes chars spelled =
    let same = AreTexts-length (words_of_input bytes) chars spelled in let few = few_words bytes in
    omega arith

-- ---- what loops go over

pub lines-road : {F : Type 0} {g : Mut F (Bor ℕ × Unit {0}) Bool} {f : F} {s : _} (bytes : List ℕ)
    (xs : List (Bor (List ℕ))) (t : _) → Yields (split_steps g) s xs t → split_rest s ≡ bytes
    → split_done s ≡ false → split_callee s ≡ f
    → ((x : ℕ) (b : Bool) (q : F) → CalledAt g f x b q → (q ≡ f) × (b ≡ (x == 10)))
    → YieldsList (split_steps g) (λ x. x.now) s (text_lines bytes)
lines-road {g} bytes xs t yields rest done closure calls =
    YieldsList-from_slice_split g (λ b. b == 10) bytes rest done closure calls
