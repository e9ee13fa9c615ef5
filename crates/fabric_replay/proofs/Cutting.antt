-- A front of the text of a trace is that of whole lines, and a part of one more.
use Rattle.std.proofs.Common.{◌≡◌, ◌≢◌, ℕ, List, [], ◌∷◌, ◌++◌, codes, refl, sym, ap, ◌∙◌, subst, append_assoc}
use Rattle.trace_lines.specs.Lines.{TraceLine}
use Rattle.trace_lines.specs.Text.{trace_line_text, trace_text}
use Rattle.fabric_replay.specs.Replaying.{IsPartOfLine}

-- of two ways to cut a list: the first list is less than the second, or the second is its front
data Cuts (xs ys us vs : List ℕ) : Type 0 where
  Within : (left : List ℕ) → left ≢ [] → us ≡ xs ++ left → Cuts xs ys us vs
  Beyond : (more : List ℕ) → xs ≡ us ++ more → vs ≡ more ++ ys → Cuts xs ys us vs

cuts_more : (x u : ℕ) (xs ys us vs : List ℕ) → x ≡ u → Cuts xs ys us vs
    → Cuts (x ∷ xs) ys (u ∷ us) vs
cuts_more x u xs ys us vs same (Within left some is) = Within left some (cc (same, is))
cuts_more x u xs ys us vs same (Beyond more is rest) = Beyond more (cc (same, is)) rest

cuts : (xs ys us vs : List ℕ) → xs ++ ys ≡ us ++ vs → Cuts xs ys us vs
cuts xs ys [] vs is = Beyond xs refl (sym is)
cuts [] ys (u ∷ us) vs is = Within (u ∷ us) (λ none. absurd cc) refl
cuts (x ∷ xs) ys (u ∷ us) vs is =
    let rest : xs ++ ys ≡ us ++ vs = cc in
    let same : x ≡ u = cc in
    cuts_more x u xs ys us vs same (cuts xs ys us vs rest)

-- these whole lines, and a part of the one behind them, are the front of the text
pub record IsCutText (names : List (List ℕ)) (all : List TraceLine) (front : List ℕ) : Type 0 where
  pub lines : List TraceLine
  pub behind : List TraceLine
  pub part : List ℕ
  pub whole : all ≡ lines ++ behind
  pub text : front ≡ trace_text names lines ++ part
  pub cut : IsPartOfLine names behind part

cut_more : (names : List (List ℕ)) (line : TraceLine) (all : List TraceLine) (front more : List ℕ)
    → front ≡ (trace_line_text names line ++ codes "\n") ++ more → IsCutText names all more
    → IsCutText names (line ∷ all) front
cut_more names line all front more is cut = record {
  lines = line ∷ cut.lines;
  behind = cut.behind;
  part = cut.part;
  whole = ap (λ (l : List TraceLine). line ∷ l) cut.whole;
  text = is ∙ ap (λ (l : List ℕ). (trace_line_text names line ++ codes "\n") ++ l) cut.text
      ∙ sym (append_assoc (trace_line_text names line ++ codes "\n") (trace_text names cut.lines)
      cut.part);
  cut = cut.cut;
}

nothing_of : (front rest : List ℕ) → [] ≡ front ++ rest → front ≡ []
nothing_of [] rest is = refl
nothing_of (x ∷ front) rest is = absurd cc

pub cut_text : (names : List (List ℕ)) (all : List TraceLine) (front rest : List ℕ)
    → trace_text names all ≡ front ++ rest → IsCutText names all front
cut_text names [] front rest is =
    let none = nothing_of front rest is in
    record { lines = []; behind = []; part = front; whole = refl; text = refl; cut = none }
cut_text names (line ∷ all) front rest is =
    by_cuts (cuts front rest (trace_line_text names line ++ codes "\n") (trace_text names all)
    (sym is)) (λ more same. cut_text names all more rest same)
  where
    by_cuts : Cuts front rest (trace_line_text names line ++ codes "\n") (trace_text names all)
        → ((more : List ℕ) → trace_text names all ≡ more ++ rest → IsCutText names all more)
        → IsCutText names (line ∷ all) front
    by_cuts (Within left some same) later = record {
      lines = [];
      behind = line ∷ all;
      part = front;
      whole = refl;
      text = refl;
      cut = (left, some, same);
    }
    by_cuts (Beyond more same behind) later =
        cut_more names line all front more same (later more behind)

-- less than the first of lines is less than the first of those and more
never_nothing : (xs : List ℕ) (x : ℕ) → xs ++ x ∷ [] ≢ []
never_nothing [] x none = absurd cc
never_nothing (y ∷ xs) x none = absurd cc

no_part : (names : List (List ℕ)) (lines : List TraceLine) → IsPartOfLine names lines []
no_part names [] = refl
no_part names (line ∷ lines) =
    (trace_line_text names line ++ codes "\n", never_nothing (trace_line_text names line) 10, refl)

pub part_more : (names : List (List ℕ)) (lines more : List TraceLine) (bytes : List ℕ)
    → IsPartOfLine names lines bytes → IsPartOfLine names (lines ++ more) bytes
part_more names [] more bytes none = subst (IsPartOfLine names more) (sym none) (no_part names more)
part_more names (line ∷ lines) more bytes part = part
