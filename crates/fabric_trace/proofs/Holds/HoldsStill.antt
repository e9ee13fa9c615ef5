-- What a port got and held along lines, and lines in which it gets and holds nothing.
use Rattle.fabric_trace.proofs.Prelude.{◌≡◌, ℕ, ◌%◌, ◌++◌, List, [], ◌∷◌, length, None, refl, sym, ap, ◌∙◌, subst, append_assoc, if◌then◌else◌, append-nil, Char, place_start, place_after, expected_of, IsSubsequence, PortRef, Hold, Free, Linked, AtNode, ByDevice, Sent, Got, Fired, TraceLine, Begun, Stepped, Signed, Lacked, Ended, Undetected, Seen, says, got_by, got, held_by_line, holds, numbered_packets, HoldsCame}
use Rattle.fabric_trace.proofs.Parts.Quiet.{IsQuietLine, IsQuiet, StaysSo}

pub got-append : (q : PortRef) (xs ys : List TraceLine) → got q (xs ++ ys) ≡ got q xs ++ got q ys
got-append q [] ys = refl
got-append q (x ∷ xs) ys =
    ap (λ (l : List Char). got_by q x ++ l) (got-append q xs ys)
    ∙ sym (append_assoc (got_by q x) (got q xs) (got q ys))

pub holds-append : (q : PortRef) (xs ys : List TraceLine)
    → holds q (xs ++ ys) ≡ holds q xs ++ holds q ys
holds-append q [] ys = refl
holds-append q (x ∷ xs) ys =
    ap (λ (l : List (List ℕ)). held_by_line q x ++ l) (holds-append q xs ys)
    ∙ sym (append_assoc (held_by_line q x) (holds q xs) (holds q ys))

-- Of a port, after lines: its holds are read in what it got; its framer stands behind that, and it
-- expects the next one.
pub record IsRead (before : List TraceLine) (s : Seen) (q : PortRef) : Type 0 where
  pub within : HoldsCame q before
  pub place : s.undetected ≡ None → (s.halves q).place ≡ place_after place_start (got q before)
  pub expected : s.undetected ≡ None → expected_of (s.halves q).input ≡ length (holds q before) % 32

-- ---- lines in which a port gets and holds nothing

quiet_line : (c : PortRef) (line : TraceLine) → IsQuietLine c line
    → (got_by c line ≡ []) × (held_by_line c line ≡ [])
quiet_line c (Begun line) quiet = (refl, refl)
quiet_line c (Stepped (Linked (Hold q packet))) quiet =
    (refl, ap (λ own. if own then packet ∷ [] else []) quiet)
quiet_line c (Stepped (Linked (Free q packet))) quiet = (refl, refl)
quiet_line c (Stepped (AtNode step)) quiet = (refl, refl)
quiet_line c (Stepped (ByDevice step)) quiet = (refl, refl)
quiet_line c (Signed (Sent p chars)) quiet = (refl, refl)
quiet_line c (Signed (Got q chars)) quiet = (ap (λ own. if own then chars else []) quiet, refl)
quiet_line c (Signed (Fired p)) quiet = (refl, refl)
quiet_line c (Lacked lack) quiet = (refl, refl)
quiet_line c Ended quiet = (refl, refl)
quiet_line c (Undetected number q e) quiet = (refl, refl)

quiet_lines : (c : PortRef) (lines : List TraceLine) → IsQuiet c lines
    → (got c lines ≡ []) × (holds c lines ≡ [])
quiet_lines c [] quiet = (refl, refl)
quiet_lines c (line ∷ lines) quiet =
    let one = quiet_line c line quiet.0 in
    let more = quiet_lines c lines quiet.1 in
    (λ i. one.0 i ++ more.0 i, λ i. one.1 i ++ more.1 i)

pub quiet_read : (c : PortRef) (before lines : List TraceLine) (s t : Seen) → IsQuiet c lines
    → StaysSo s t c → IsRead before s c → IsRead (before ++ lines) t c
quiet_read c before lines s t quiet stays h =
    let nothing = quiet_lines c lines quiet in
    let gets : got c (before ++ lines) ≡ got c before =
    got-append c before lines ∙ ap (λ (l : List Char). got c before ++ l) nothing.0
    ∙ append-nil (got c before) in
    let has : holds c (before ++ lines) ≡ holds c before =
    holds-append c before lines ∙ ap (λ (l : List (List ℕ)). holds c before ++ l) nothing.1
    ∙ append-nil (holds c before) in
    record {
      within = subst (λ (l : List (List ℕ)). IsSubsequence (numbered_packets 0 l)
          (says (got c (before ++ lines)))) (sym has)
          (subst (λ (l : List Char). IsSubsequence (numbered_packets 0 (holds c before)) (says l))
          (sym gets) h.within);
      place = λ none. stays.place ∙ h.place (stays.found none)
          ∙ ap (place_after place_start) (sym gets);
      expected =
          λ none. ap expected_of stays.input ∙ h.expected (stays.found none)
          ∙ ap (λ (l : List (List ℕ)). length l % 32) (sym has);
    }
