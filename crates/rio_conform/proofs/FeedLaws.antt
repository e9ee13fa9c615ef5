-- Lines one after another are parted by their line feeds in one way.
use Rattle.std.proofs.Common.{◌≡◌, ◌≢◌, ℕ, nat_le, Bool, true, List, [], ◌∷◌, ◌++◌, All, codes, refl, sym, ap, ◌∙◌, subst, append_assoc}
use Rattle.std.specs.List.{flat_map, list_all}
use Rattle.std.proofs.lemmas.List.Folds.{list_all-append}
use Rattle.std.proofs.lemmas.List.Elements.{All-nil, All-cons, All-head, All-tail}
use Rattle.fabric_script.proofs.Points.{and_parts}
use Rattle.live_lines.specs.Lines.{IsLine, HasNoFeed, with_feed}

-- each byte is above a line feed
abbrev pub is_high : List ℕ → Bool
is_high bytes = list_all (λ byte. nat_le 11 byte) bytes

pub high_append : (a b : List ℕ) → is_high a ≡ true → is_high b ≡ true → is_high (a ++ b) ≡ true
high_append a b high_a high_b = list_all-append (λ byte. nat_le 11 byte) a b ∙ rw (high_a, high_b)

pub no_feed_of : (bytes : List ℕ) → is_high bytes ≡ true → HasNoFeed bytes
no_feed_of [] e = All-nil (λ byte. byte ≢ 10)
no_feed_of (b ∷ bytes) e =
    let parts = and_parts (nat_le 11 b) (is_high bytes) e in
    All-cons (λ byte. byte ≢ 10) b bytes (differs b parts.0) (no_feed_of bytes parts.1)
  where
    differs : (b : ℕ) → nat_le 11 b ≡ true → b ≢ 10
    differs b h is = let low : nat_le 11 10 ≡ true = ap (nat_le 11) (sym is) ∙ h in absurd cc

-- bytes with a line feed among them
pub has_feed : (front rest : List ℕ) → ¬ HasNoFeed (front ++ 10 ∷ rest)
has_feed [] rest none = All-head (λ byte. byte ≢ 10) 10 rest none refl
has_feed (b ∷ front) rest none =
    has_feed front rest (All-tail (λ byte. byte ≢ 10) b (front ++ 10 ∷ rest) none)

-- what stands before the first line feed
pub feed_split : (one other rest more : List ℕ) → HasNoFeed one → HasNoFeed other
    → one ++ 10 ∷ rest ≡ other ++ 10 ∷ more → (one ≡ other) × (rest ≡ more)
feed_split [] [] rest more h k is = (refl, cc)
feed_split [] (b ∷ other) rest more h k is =
    let first : 10 ≡ b = cc in
    absurd (All-head (λ byte. byte ≢ 10) b other k (sym first))
feed_split (b ∷ one) [] rest more h k is =
    let first : b ≡ 10 = cc in
    absurd (All-head (λ byte. byte ≢ 10) b one h first)
feed_split (b ∷ one) (d ∷ other) rest more h k is =
    let behind = feed_split one other rest more (All-tail (λ byte. byte ≢ 10) b one h)
    (All-tail (λ byte. byte ≢ 10) d other k) cc in
    let first : b ≡ d = cc in
    (ap (λ x. x ∷ one) first ∙ ap (λ l. d ∷ l) behind.0, behind.1)

-- lines, and what stands behind them
pub feed_head : (line : List ℕ) (lines : List (List ℕ)) (rest : List ℕ)
    → flat_map with_feed (line ∷ lines) ++ rest
    ≡ line ++ 10 ∷ (flat_map with_feed lines ++ rest)
feed_head line lines rest =
    append_assoc (with_feed line) (flat_map with_feed lines) rest
    ∙ append_assoc line (10 ∷ []) (flat_map with_feed lines ++ rest)

abbrev AreLines : List (List ℕ) → Type 0
AreLines lines = All (λ line. HasNoFeed line) lines

abbrev NoneEnds : List (List ℕ) → Type 0
NoneEnds lines = All (λ line. line ≢ codes "ok") lines

-- two answers are one if they begin the same bytes
pub answers_once : (one other : List (List ℕ)) (rest more : List ℕ) → AreLines one → NoneEnds one
    → AreLines other → NoneEnds other
    → flat_map with_feed one ++ (codes "ok\n" ++ rest)
    ≡ flat_map with_feed other ++ (codes "ok\n" ++ more)
    → (one ≡ other) × (rest ≡ more)
answers_once [] [] rest more a b c d is = (refl, cc)
answers_once [] (l ∷ other) rest more a b c d is =
    let split = feed_split (codes "ok") l rest (flat_map with_feed other ++ (codes "ok\n" ++ more))
    (no_feed_of (codes "ok") refl) (All-head (λ line. HasNoFeed line) l other c)
    (is ∙ feed_head l other (codes "ok\n" ++ more)) in
    absurd (All-head (λ line. line ≢ codes "ok") l other d (sym split.0))
answers_once (l ∷ one) [] rest more a b c d is =
    let split = feed_split l (codes "ok") (flat_map with_feed one ++ (codes "ok\n" ++ rest)) more
    (All-head (λ line. HasNoFeed line) l one a) (no_feed_of (codes "ok") refl)
    (sym (feed_head l one (codes "ok\n" ++ rest)) ∙ is) in
    absurd (All-head (λ line. line ≢ codes "ok") l one b split.0)
answers_once (l ∷ one) (m ∷ other) rest more a b c d is =
    let split = feed_split l m (flat_map with_feed one ++ (codes "ok\n" ++ rest))
    (flat_map with_feed other ++ (codes "ok\n" ++ more))
    (All-head (λ line. HasNoFeed line) l one a) (All-head (λ line. HasNoFeed line) m other c)
    (sym (feed_head l one (codes "ok\n" ++ rest)) ∙ is
    ∙ feed_head m other (codes "ok\n" ++ more)) in
    let behind = answers_once one other rest more (All-tail (λ line. HasNoFeed line) l one a)
    (All-tail (λ line. line ≢ codes "ok") l one b) (All-tail (λ line. HasNoFeed line) m other c)
    (All-tail (λ line. line ≢ codes "ok") m other d) split.1 in
    (ap (λ x. x ∷ one) split.0 ∙ ap (λ ls. m ∷ ls) behind.0, behind.1)

-- bytes that have no answer do not begin with one
pub no_answer : (one other : List (List ℕ)) (behind more : List ℕ) → AreLines one → NoneEnds one
    → HasNoFeed behind → AreLines other → NoneEnds other
    → flat_map with_feed one ++ behind ≡ flat_map with_feed other ++ (codes "ok\n" ++ more) → ⊥
no_answer [] [] behind more a b c d e is = has_feed (codes "ok") more (subst HasNoFeed is c)
no_answer [] (l ∷ other) behind more a b c d e is =
    has_feed l (flat_map with_feed other ++ (codes "ok\n" ++ more))
    (subst HasNoFeed (is ∙ feed_head l other (codes "ok\n" ++ more)) c)
no_answer (l ∷ one) [] behind more a b c d e is =
    let split = feed_split l (codes "ok") (flat_map with_feed one ++ behind) more
    (All-head (λ line. HasNoFeed line) l one a) (no_feed_of (codes "ok") refl)
    (sym (feed_head l one behind) ∙ is) in
    All-head (λ line. line ≢ codes "ok") l one b split.0
no_answer (l ∷ one) (m ∷ other) behind more a b c d e is =
    let split = feed_split l m (flat_map with_feed one ++ behind)
    (flat_map with_feed other ++ (codes "ok\n" ++ more))
    (All-head (λ line. HasNoFeed line) l one a) (All-head (λ line. HasNoFeed line) m other d)
    (sym (feed_head l one behind) ∙ is ∙ feed_head m other (codes "ok\n" ++ more)) in
    no_answer one other behind more (All-tail (λ line. HasNoFeed line) l one a)
    (All-tail (λ line. line ≢ codes "ok") l one b) c (All-tail (λ line. HasNoFeed line) m other d)
    (All-tail (λ line. line ≢ codes "ok") m other e) split.1

-- lines of a device have no line feed
pub lines_of : (lines : List (List ℕ)) → All (λ line. IsLine line) lines → AreLines lines
lines_of [] h = All-nil (λ line. HasNoFeed line)
lines_of (line ∷ lines) h =
    All-cons (λ l. HasNoFeed l) line lines (All-head (λ l. IsLine l) line lines h).no_feed
    (lines_of lines (All-tail (λ l. IsLine l) line lines h))
