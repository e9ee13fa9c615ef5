-- The lines of the script that a number stands for: how they are numbered, and that they pass.
use Rattle.std.proofs.Common.{Result, Ok, Err, IfOk, ◌≡◌, ◌≢◌, ℕ, ◌+◌, ◌-◌, ◌/◌, ◌%◌, ◌<◌, ◌≤◌, zero, suc, Bool, List, [], ◌∷◌, ◌++◌, map, length, length-append, refl, sym, ap, ◌∙◌, arith, append_assoc, append-nil, if◌then◌else◌}
use Rattle.std.proofs.lemmas.Bool.{ne_eqb, eq-eqb}
use Rattle.fabric_script.specs.declared.lines.Line.{Line}
use Rattle.fabric_script.specs.declared.lines.Line.TheVariants.{Send, Pump, Erase, Collect, Run}
use Rattle.fabric_script.specs.declared.lines.Numbered.{Numbered}
use Rattle.fabric_script.specs.Soak.{soak_set_up, soak_events, soak_values, soak_lines, next_number, numbers_behind, value_of_number, soak_step_lines, times, round_lines, round_behind, steps_from, last_rounds, numbered_from}
use Rattle.fabric_script.specs.Ports.{port_at}

-- ---- numbers of lines

pub numbered-append : (number : ℕ) (xs ys : List Line)
    → numbered_from number (xs ++ ys) ≡ numbered_from number xs
    ++ numbered_from (number + length xs) ys
unfolding numbered_from
numbered-append number [] ys = ap (λ n. numbered_from n ys) (omega arith)
numbered-append number (x ∷ xs) ys =
    ap (λ ls. record { number = number; line = x } ∷ ls) (numbered-append (suc number) xs ys
    ∙ ap (λ n. numbered_from (suc number) xs ++ numbered_from n ys) (omega arith))

pub length-numbered : (number : ℕ) (xs : List Line) → length (numbered_from number xs) ≡ length xs
unfolding numbered_from
length-numbered number [] = refl
length-numbered number (x ∷ xs) = ap (λ n. suc n) (length-numbered (suc number) xs)

pub numbered_one : (number : ℕ) (line : Line)
    → record { number = number; line = line } ∷ [] ≡ numbered_from number (line ∷ [])
unfolding numbered_from
numbered_one number line = refl

-- one line more, with the next number
pub numbered-push : (before : List Line) (line : Line) (old : List Numbered)
    → old ≡ numbered_from 1 before
    → old ++ record { number = length old + 1; line = line } ∷ []
    ≡ numbered_from 1 (before ++ line ∷ [])
numbered-push before line old is =
    let long : length old ≡ length before = ap length is ∙ length-numbered 1 before in
    ap (λ ls. ls ++ record { number = length old + 1; line = line } ∷ []) is
    ∙ ap (λ n. numbered_from 1 before ++ record { number = n; line = line } ∷ [])
    (omega (arith, long))
    ∙ ap (λ ls. numbered_from 1 before ++ ls) (numbered_one (1 + length before) line)
    ∙ sym (numbered-append 1 before (line ∷ []))

pub times-none : (line : Line) → [] ≡ times 0 line
unfolding times
times-none line = refl

pub times-push : (count : ℕ) (line : Line) → times count line ++ line ∷ [] ≡ times (suc count) line
unfolding times
times-push zero line = refl
times-push (suc count) line = ap (λ ls. line ∷ ls) (times-push count line)

pub joined_round : (before : List Line) (n : ℕ)
    → ((((before ++ Run 1 ∷ []) ++ times n (Collect 0)) ++ times n (Collect 1))
    ++ times n (Collect 2))
    ++ times n (Collect 3) ≡ before ++ round_lines n
unfolding round_lines
joined_round before n =
    let a = times n (Collect 0) in
    let b = times n (Collect 1) in
    let d = times n (Collect 2) in
    let e = times n (Collect 3) in
    append_assoc (((before ++ Run 1 ∷ []) ++ a) ++ b) d e
    ∙ append_assoc ((before ++ Run 1 ∷ []) ++ a) b (d ++ e)
    ∙ append_assoc (before ++ Run 1 ∷ []) a (b ++ (d ++ e))
    ∙ append_assoc before (Run 1 ∷ []) (a ++ (b ++ (d ++ e)))

-- what an answer holds, of the same answer
pub IfOk-on : {T E : Type 0} (result : Result T E) {P Q : T → Type 0} → IfOk result P
    → ((value : T) → P value → Q value) → IfOk result Q
IfOk-on (Ok value) holds on = on value holds
IfOk-on (Err end) holds on = tt

-- ---- a step

pub joined_step : (before : List Line) (v : ℕ) → (v / 64 % 3 ≡ 0)
    → ((before ++ Send (v % 4) (v / 16 % 4) 15 (v / 4 % 4) (v / 256 ∷ v % 256 ∷ []) ∷ [])
    ++ Pump (port_at (v % 4) 0) 1 ∷ []) ++ Erase (port_at (v % 4) 0) 0 1 ∷ []
    ≡ before ++ soak_step_lines v
unfolding soak_step_lines
joined_step before v is =
    append_assoc (before ++ Send (v % 4) (v / 16 % 4) 15 (v / 4 % 4) (v / 256 ∷ v % 256 ∷ []) ∷ [])
    (Pump (port_at (v % 4) 0) 1 ∷ []) (Erase (port_at (v % 4) 0) 0 1 ∷ [])
    ∙ append_assoc before (Send (v % 4) (v / 16 % 4) 15 (v / 4 % 4) (v / 256 ∷ v % 256 ∷ []) ∷ []) _
    ∙ ap (λ (b : Bool). before ++ Send (v % 4) (v / 16 % 4) 15 (v / 4 % 4) (v / 256 ∷ v % 256 ∷ [])
    ∷ Pump (port_at (v % 4) 0) 1
    ∷ (if b then Erase (port_at (v % 4) 0) 0 1 ∷ [] else [])) (sym (eq-eqb (v / 64 % 3) 0 is))

pub joined_step_kept : (before : List Line) (v : ℕ) → (v / 64 % 3 ≢ 0)
    → (before ++ Send (v % 4) (v / 16 % 4) 15 (v / 4 % 4) (v / 256 ∷ v % 256 ∷ []) ∷ [])
    ++ Pump (port_at (v % 4) 0) 1 ∷ [] ≡ before ++ soak_step_lines v
unfolding soak_step_lines
joined_step_kept before v is =
    append_assoc before (Send (v % 4) (v / 16 % 4) 15 (v / 4 % 4) (v / 256 ∷ v % 256 ∷ []) ∷ []) _
    ∙ ap (λ (b : Bool). before ++ Send (v % 4) (v / 16 % 4) 15 (v / 4 % 4) (v / 256 ∷ v % 256 ∷ [])
    ∷ Pump (port_at (v % 4) 0) 1
    ∷ (if b then Erase (port_at (v % 4) 0) 0 1 ∷ [] else [])) (sym (ne_eqb (v / 64 % 3) 0 is))

-- ---- the steps, one after another

abbrev pub steps_behind : ℕ → ℕ → ℕ → List Line
steps_behind number count x = steps_from number (map value_of_number (numbers_behind count x))

steps_turn : (number count x : ℕ) → steps_behind number (suc count) x
    ≡ soak_step_lines (value_of_number (next_number x)) ++ (round_behind number
    ++ steps_behind (number + 1) count (next_number x))
unfolding steps_from numbers_behind
steps_turn number count x = refl

steps_end : (number x : ℕ) → steps_behind number 0 x ≡ []
unfolding steps_from numbers_behind
steps_end number x = refl

pub tenth_round : (number : ℕ) → number % 10 ≡ 0 → round_lines 4 ≡ round_behind number
unfolding round_behind
tenth_round number is = ap (λ (b : Bool). if b then round_lines 4 else [])
    (sym (eq-eqb (number % 10) 0 is))

pub no_round : (number : ℕ) → number % 10 ≢ 0 → [] ≡ round_behind number
unfolding round_behind
no_round number is = ap (λ (b : Bool). if b then round_lines 4 else [])
    (sym (ne_eqb (number % 10) 0 is))

-- so far these lines were added, and what is left of the steps follows them
pub record IsUpTo (seed i x : ℕ) (new : List Numbered) (before : List Line) : Type 0 where
  pub done : List Line
  pub numbered : new ≡ numbered_from 1 (before ++ done)
  pub rest : steps_behind 1 2000 seed ≡ done ++ steps_behind (i + 1) (2000 - i) x

pub up_to_none : (seed : ℕ) (old : List Numbered) (before : List Line)
    → old ≡ numbered_from 1 before → IsUpTo seed 0 seed old before
up_to_none seed old before is = record {
  done = [];
  numbered = is ∙ ap (λ ls. numbered_from 1 ls) (sym (append-nil before));
  rest = refl;
}

pub up_to_all : (seed x : ℕ) (new : List Numbered) (before : List Line)
    → IsUpTo seed 2000 x new before → new ≡ numbered_from 1 (before ++ steps_behind 1 2000 seed)
up_to_all seed x new before up =
    up.numbered ∙ ap (λ ls. numbered_from 1 (before ++ ls))
    (sym (up.rest ∙ ap (λ ls. up.done ++ ls) (steps_end 2001 x) ∙ append-nil up.done))

pub up_to_next : (seed i x : ℕ) (mid next new : List Numbered) (before : List Line) → i < 2000
    → IsUpTo seed i x mid before
    → ((ls : List Line) → mid ≡ numbered_from 1 ls
    → next ≡ numbered_from 1 (ls ++ soak_step_lines (next_number x / 65536)))
    → ((ls : List Line) → next ≡ numbered_from 1 ls
    → new ≡ numbered_from 1 (ls ++ round_behind (i + 1)))
    → IsUpTo seed (i + 1) (next_number x) new before
up_to_next seed i x mid next new before less up step round =
    let one = soak_step_lines (value_of_number (next_number x)) in
    let two = round_behind (i + 1) in
    let left : 2000 - i ≡ suc (2000 - (i + 1)) = omega (arith, less) in
    let tail = steps_behind (i + 1 + 1) (2000 - (i + 1)) (next_number x) in
    record {
      done = up.done ++ (one ++ two);
      numbered = round ((before ++ up.done) ++ one) (step (before ++ up.done) up.numbered)
          ∙ ap (λ ls. numbered_from 1 ls) (append_assoc (before ++ up.done) one two
          ∙ append_assoc before up.done (one ++ two));
      rest = up.rest ∙ ap (λ n. up.done ++ steps_behind (i + 1) n x) left
          ∙ ap (λ ls. up.done ++ ls) (steps_turn (i + 1) (2000 - (i + 1)) x
          ∙ sym (append_assoc one two tail))
          ∙ sym (append_assoc up.done (one ++ two) tail);
    }

-- ---- the lines of set-up, one after another

-- so many of the lines of set-up were added, and these are left
pub record AreSoFar (lines : List Numbered) (rest : List Line) : Type 0 where
  pub done : List Line
  pub numbered : lines ≡ numbered_from 1 done
  pub all : done ++ rest ≡ soak_set_up

pub numbered_none : (number : ℕ) → [] ≡ numbered_from number []
unfolding numbered_from
numbered_none number = refl

pub so_far_none : (lines : List Numbered) (rest : List Line) → lines ≡ [] → rest ≡ soak_set_up
    → AreSoFar lines rest
so_far_none lines rest none all =
    record { done = []; numbered = none ∙ numbered_none 1; all = all }

pub so_far_next : (lines new : List Numbered) (line : Line) (rest : List Line)
    → AreSoFar lines (line ∷ rest)
    → ((before : List Line) → lines ≡ numbered_from 1 before
    → new ≡ numbered_from 1 (before ++ line ∷ []))
    → AreSoFar new rest
so_far_next lines new line rest far add = record {
  done = far.done ++ line ∷ [];
  numbered = add far.done far.numbered;
  all = append_assoc far.done (line ∷ []) rest ∙ far.all;
}

pub so_far_few : (lines : List Numbered) (rest : List Line) → AreSoFar lines rest
    → length lines ≤ 19
so_far_few lines rest far =
    let long : length lines ≡ length far.done = ap length far.numbered
    ∙ length-numbered 1 far.done in
    let all : length far.done + length rest ≡ 19 =
    sym (length-append far.done rest) ∙ ap length far.all in
    omega (arith, long, all)

pub so_far_all : (lines : List Numbered) → AreSoFar lines []
    → lines ≡ numbered_from 1 soak_set_up
so_far_all lines far =
    far.numbered ∙ ap (λ ls. numbered_from 1 ls) (sym (append-nil far.done) ∙ far.all)

-- ---- the last rounds

pub rounds_end : [] ≡ last_rounds 0
unfolding last_rounds
rounds_end = refl

pub rounds-push : (count : ℕ) → last_rounds count ++ round_lines 8 ≡ last_rounds (suc count)
unfolding last_rounds
rounds-push zero = sym (append-nil (round_lines 8))
rounds-push (suc count) =
    append_assoc (round_lines 8) (last_rounds count) (round_lines 8)
    ∙ ap (λ ls. round_lines 8 ++ ls) (rounds-push count)

pub soak_parts : (seed : ℕ)
    → numbered_from 1 ((soak_set_up ++ steps_behind 1 2000 (seed % 2147483648)) ++ last_rounds 16)
    ≡ soak_lines seed
unfolding soak_lines soak_events soak_values
soak_parts seed = ap (λ ls. numbered_from 1 ls)
    (append_assoc soak_set_up (steps_behind 1 2000 (seed % 2147483648)) (last_rounds 16))
