-- Bytes of a line, one piece after another.
use Rattle.std.proofs.Common.{◌≡◌, ◌≢◌, ℕ, ◌<◌, Option, List, [], ◌∷◌, ◌++◌, length, length-append, take, refl, sym, ap, ◌∙◌, subst, append_assoc, append-nil, arith}
use Rattle.std.specs.Io.KnownBytes.{Consumes}
use Rattle.std.proofs.KnownBytes.{Consumes-trans}
use Rattle.std.proofs.lemmas.List.{take-append-le, take_all}
use Rattle.live_lines.specs.Lines.{HasNoFeed, with_feed}

-- more was read
pub taken_more : (a b c : Option (List ℕ)) (pending line mid more : List ℕ)
    → ((taken : List ℕ) × Consumes a b taken × (pending ++ taken ≡ line ++ mid))
    → ((taken : List ℕ) × Consumes b c taken × (mid ++ taken ≡ more))
    → (taken : List ℕ) × Consumes a c taken × (pending ++ taken ≡ line ++ more)
taken_more a b c pending line mid more h k = (
  h.0 ++ k.0,
  Consumes-trans a b c h.0 k.0 h.1 k.1,
  sym (append_assoc pending h.0 k.0) ∙ ap (λ l. l ++ k.0) h.2 ∙ append_assoc line mid k.0
      ∙ ap (λ l. line ++ l) k.2,
)

-- a piece of it is in the line
pub line_longer : (bytes line more front last longer : List ℕ) → bytes ≡ line ++ more
    → more ≡ front ++ last → longer ≡ line ++ front → bytes ≡ longer ++ last
line_longer bytes line more front last longer is split grown =
    is
    ∙ ap (λ l. line ++ l) split
    ∙ sym (append_assoc line front last)
    ∙ ap (λ l. l ++ last) (sym grown)

-- a piece of it ends the line
pub line_whole : (bytes line more front last longer : List ℕ) → bytes ≡ line ++ more
    → more ≡ with_feed front ++ last → longer ≡ line ++ front → bytes ≡ with_feed longer ++ last
line_whole bytes line more front last longer is split grown =
    line_longer bytes line more (with_feed front) last (with_feed longer) is split
    (ap with_feed grown ∙ append_assoc line front (10 ∷ []))

pub some_length : (bytes : List ℕ) → bytes ≢ [] → 0 < length bytes
some_length [] some = absurd (some refl)
some_length (byte ∷ bytes) some = omega arith

-- bytes that have one among them
pub some_bytes : (bytes line more : List ℕ) → bytes ≡ line ++ more → more ≢ [] → bytes ≢ []
some_bytes bytes line more is some none =
    let long = ap length is in
    let short : length bytes ≡ 0 = ap length none in
    omega (arith, long, short, length-append line more, some_length more some)

-- bytes that are all in the line
pub all_taken : (bytes line more : List ℕ) → bytes ≡ line ++ more → more ≡ []
    → HasNoFeed line → HasNoFeed bytes
all_taken bytes line more is none no_feed =
    subst HasNoFeed (sym (is ∙ ap (λ l. line ++ l) none ∙ append-nil line)) no_feed

-- a line of 4,194,305 bytes is too long
pub long_line : (pending taken line rest : List ℕ) → pending ++ taken ≡ line ++ rest
    → HasNoFeed line → length line ≡ 4194305
    → (4194304 < length (pending ++ taken)) × HasNoFeed (take 4194305 (pending ++ taken))
long_line pending taken line rest is no_feed just = (
  omega (arith, ap length is, length-append line rest, just),
  subst HasNoFeed (sym front) no_feed,
)
  where
    front : take 4194305 (pending ++ taken) ≡ line
    front =
        ap (take 4194305) is
        ∙ take-append-le 4194305 line rest (omega (arith, just))
        ∙ take_all 4194305 line (omega (arith, just))
