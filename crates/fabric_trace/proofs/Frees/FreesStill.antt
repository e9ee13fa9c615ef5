-- What a port got and freed along lines, and lines in which it gets and frees nothing.
use Rattle.fabric_trace.proofs.Prelude.{◌≡◌, ℕ, ◌+◌, ◌%◌, ◌++◌, List, [], ◌∷◌, None, refl, sym, ap, ◌∙◌, subst, arith, if◌then◌else◌, Char, place_start, place_after, oldest_of, PortRef, Hold, Free, Linked, AtNode, ByDevice, Sent, Got, Fired, TraceLine, Begun, Stepped, Signed, Lacked, Ended, Undetected, Seen, Gotten, nothing_got, gets, frees_by, FreeSaid, FreesSaid}
use Rattle.fabric_trace.proofs.Parts.Quiet.{IsQuietLine, IsQuiet, StaysSo}

-- ---- folds

abbrev pub gets_all : PortRef → Gotten → List TraceLine → Gotten
gets_all p known [] = known
gets_all p known (line ∷ lines) = gets_all p (gets p known line) lines

abbrev pub frees_all : PortRef → List TraceLine → ℕ
frees_all p [] = 0
frees_all p (line ∷ lines) = frees_by p line + frees_all p lines

pub gets-append : (p : PortRef) (known : Gotten) (xs ys : List TraceLine)
    → gets_all p known (xs ++ ys) ≡ gets_all p (gets_all p known xs) ys
gets-append p known [] ys = refl
gets-append p known (x ∷ xs) ys = gets-append p (gets p known x) xs ys

pub frees-append : (p : PortRef) (xs ys : List TraceLine)
    → frees_all p (xs ++ ys) ≡ frees_all p xs + frees_all p ys
frees-append p [] ys = omega arith
frees-append p (x ∷ xs) ys = let more = frees-append p xs ys in omega (arith, more)

pub said-join : (p : PortRef) (xs ys : List TraceLine) (known : Gotten) (j : ℕ)
    → FreesSaid p known j xs → FreesSaid p (gets_all p known xs) (j + frees_all p xs) ys
    → FreesSaid p known j (xs ++ ys)
said-join p [] ys known j first rest = let same : j + 0 ≡ j =
    omega arith in subst (λ k. FreesSaid p known k ys) same rest
said-join p (x ∷ xs) ys known j first rest =
    let same : j + (frees_by p x + frees_all p xs) ≡ (j + frees_by p x) + frees_all p xs =
    omega arith in (
      first.0,
      said-join p xs ys (gets p known x) (j + frees_by p x) first.1
          (subst (λ k. FreesSaid p (gets_all p (gets p known x) xs) k ys) same rest),
    )

-- everything that a port got
abbrev pub all_got : Gotten → List Char
all_got known = known.before ++ known.last

-- Of a port, after lines: its frees are acknowledged; its framer stands behind what it got; and its
-- oldest packet is the next to be freed.
pub record IsFreed (before : List TraceLine) (s : Seen) (p : PortRef) : Type 0 where
  pub said : FreesSaid p nothing_got 0 before
  pub place : s.undetected ≡ None
      → (s.halves p).place ≡ place_after place_start (all_got (gets_all p nothing_got before))
  pub oldest : s.undetected ≡ None → oldest_of (s.halves p).output ≡ frees_all p before % 32

-- ---- lines in which a port gets and frees nothing

quiet_line : (c : PortRef) (line : TraceLine) (known : Gotten) (j : ℕ) → IsQuietLine c line
    → FreeSaid c known j line × (frees_by c line ≡ 0) × (gets c known line ≡ known)
quiet_line c (Begun line) known j quiet = (tt, refl, refl)
quiet_line c (Stepped (Linked (Hold q packet))) known j quiet = (tt, refl, refl)
quiet_line c (Stepped (Linked (Free q packet))) known j quiet =
    (λ own. absurd (cc (own, quiet)), ap (λ own. if own then 1 else 0) quiet, refl)
quiet_line c (Stepped (AtNode step)) known j quiet = (tt, refl, refl)
quiet_line c (Stepped (ByDevice step)) known j quiet = (tt, refl, refl)
quiet_line c (Signed (Sent p chars)) known j quiet = (tt, refl, refl)
quiet_line c (Signed (Got q chars)) known j quiet = (
  tt,
  refl,
  ap (λ own. if own then record { before = known.before ++ known.last; last = chars } else known)
      quiet,
)
quiet_line c (Signed (Fired p)) known j quiet = (tt, refl, refl)
quiet_line c (Lacked lack) known j quiet = (tt, refl, refl)
quiet_line c Ended known j quiet = (tt, refl, refl)
quiet_line c (Undetected number q e) known j quiet = (tt, refl, refl)

quiet_lines : (c : PortRef) (lines : List TraceLine) (known : Gotten) (j : ℕ) → IsQuiet c lines
    → FreesSaid c known j lines × (frees_all c lines ≡ 0) × (gets_all c known lines ≡ known)
quiet_lines c [] known j quiet = (tt, refl, refl)
quiet_lines c (line ∷ lines) known j quiet =
    let one = quiet_line c line known j quiet.0 in
    let more = quiet_lines c lines (gets c known line) (j + frees_by c line) quiet.1 in
    let first = one.1 in
    let rest = more.1 in
    ((one.0, more.0), omega (arith, first, rest), more.2 ∙ one.2)

pub quiet_freed : (c : PortRef) (before lines : List TraceLine) (s t : Seen) → IsQuiet c lines
    → StaysSo s t c → IsFreed before s c → IsFreed (before ++ lines) t c
quiet_freed c before lines s t quiet stays h =
    let known = gets_all c nothing_got before in
    let nothing = quiet_lines c lines known (0 + frees_all c before) quiet in
    let got : gets_all c nothing_got (before ++ lines) ≡ known =
    gets-append c nothing_got before lines ∙ nothing.2 in
    let none = nothing.1 in
    let all = frees-append c before lines in
    let frees : frees_all c (before ++ lines) ≡ frees_all c before = omega (arith, all, none) in
    record {
      said = said-join c before lines nothing_got 0 h.said nothing.0;
      place = λ still. stays.place ∙ h.place (stays.found still)
          ∙ ap (λ (g : Gotten). place_after place_start (all_got g)) (sym got);
      oldest = λ still. stays.oldest ∙ h.oldest (stays.found still)
          ∙ ap (λ k. k % 32) (sym frees);
    }
