-- A line among the lines of an input.
use Rattle.std.proofs.Common.{◌≡◌, ℕ, ◌-◌, ◌<◌, ◌+◌, ◌≤◌, zero, suc, List, [], ◌∷◌, length, get_or, refl, sym, ap, ◌∙◌, arith}
use Rattle.rio_chars.specs.Lines.{text_lines}
use Rattle.rio_cli.specs.Messages.{input_line_text}

-- what is there is read whatever stands in for what is not
there : (lines : List (List ℕ)) (n : ℕ) (a b : List ℕ) → n < length lines
    → get_or lines n a ≡ get_or lines n b
there [] n a b within = absurd (omega arith)
there (line ∷ lines) zero a b within = refl
there (line ∷ lines) (suc n) a b within = there lines n a b (omega arith)

-- the line behind n others
pub line-there : (bytes : List ℕ) (line n : ℕ) (text : List ℕ) → line - 1 ≡ n
    → n < length (text_lines bytes) → text ≡ get_or (text_lines bytes) n text
    → text ≡ input_line_text bytes line
line-there bytes line n text at within here =
    here ∙ there (text_lines bytes) n text [] within
    ∙ ap (λ k. get_or (text_lines bytes) k []) (sym at)

-- the line that is left alone is behind all that were passed
pub last-left : (line left n : ℕ) → left + n ≡ line → (1 ≤ line → 1 ≤ left) → left ≤ 1
    → line - 1 ≡ n
last-left zero left n counted some last = omega (arith, counted)
last-left (suc line) left n counted some last =
    let one = some (omega arith) in omega (arith, counted)

-- and no more were passed
pub before-left : (line left n : ℕ) → left + n ≡ line → (1 ≤ line → 1 ≤ left) → n ≤ line - 1
before-left zero left n counted some = omega (arith, counted)
before-left (suc line) left n counted some = let one = some (omega arith) in omega (arith, counted)

none : (lines : List (List ℕ)) (n : ℕ) → length lines ≤ n → get_or lines n [] ≡ []
none [] n few = refl
none (line ∷ lines) zero few = absurd (omega arith)
none (line ∷ lines) (suc n) few = none lines n (omega arith)

-- there is no such line
pub line-none : (bytes : List ℕ) (line n : ℕ) → length (text_lines bytes) ≡ n → n ≤ line - 1
    → [] ≡ input_line_text bytes line
line-none bytes line n all few =
    sym (none (text_lines bytes) (line - 1) (omega (arith, all)))
