-- The frees of a port are acknowledged in what it got.
use Rattle.fabric_trace.proofs.Prelude.{◌≡◌, ℕ, suc, ◌+◌, ◌%◌, ◌<◌, ◌++◌, Bool, List, [], ◌∷◌, map, None, refl, sym, ap, ◌∙◌, subst, arith, if◌then◌else◌, Char, Place, place_start, place_after, said, place_after-append, place_after-none, oldest_of, Side, B, Delivered, Through, WentUndetected, told_of, undetected, Move, Held, Freed, through_place, move_note, PortRef, same_port, same_port-refl, Got, TraceLine, Signed, Half, Seen, port_seen, kept_of, taken_from, half_after, undetected_at, port_at_side, lines_of, IsSaid, Gotten, nothing_got, gets, completed, FreesSaid, IsLink}
use Rattle.fabric_trace.proofs.Frees.Heard.{freed_count, HaveFreed, delivered_frees}
use Rattle.fabric_trace.proofs.Frees.FreesStill.{gets_all, gets-append, frees-append, said-join, all_got, IsFreed, quiet_freed}
use Rattle.fabric_trace.proofs.Parts.Carrying.{got_lines, Carries}
pub use Rattle.fabric_trace.proofs.Frees.FreesStill.{frees_all}

-- ---- a delivery

abbrev one_if : Bool → ℕ
one_if own = if own then 1 else 0

moves_kept : (c a b : PortRef) (side : Side) (moves : List Move) (known : Gotten)
    → gets_all c known (lines_of a b (map (move_note side) moves)) ≡ known
moves_kept c a b side [] known = refl
moves_kept c a b side (Held packet ∷ moves) known = moves_kept c a b side moves known
moves_kept c a b side (Freed packet ∷ moves) known = moves_kept c a b side moves known

moves_own : (a b : PortRef) (side : Side) (moves : List Move)
    → frees_all (port_at_side a b side) (lines_of a b (map (move_note side) moves))
    ≡ freed_count moves
moves_own a b side [] = refl
moves_own a b side (Held packet ∷ moves) = let more =
    moves_own a b side moves in omega (arith, more)
moves_own a b side (Freed packet ∷ moves) =
    let more = moves_own a b side moves in
    let one : one_if (same_port (port_at_side a b side) (port_at_side a b side)) ≡ 1 =
    ap one_if (same_port-refl (port_at_side a b side)) in
    omega (arith, more, one)

-- the frees of moves are said, if each is
moves_said : (a b : PortRef) (side : Side) (moves : List Move) (known : Gotten) (j : ℕ)
    → ((i : ℕ) → i < freed_count moves → IsSaid (j + i) (completed known))
    → FreesSaid (port_at_side a b side) known j (lines_of a b (map (move_note side) moves))
moves_said a b side [] known j said = tt
moves_said a b side (Held packet ∷ moves) known j said =
    let same : j ≡ j + 0 = omega arith in (
      tt,
      subst (λ k. FreesSaid (port_at_side a b side) known k
          (lines_of a b (map (move_note side) moves))) same
          (moves_said a b side moves known j said),
    )
moves_said a b side (Freed packet ∷ moves) known j said =
    let first : j + 0 ≡ j = omega arith in
    let one : one_if (same_port (port_at_side a b side) (port_at_side a b side)) ≡ 1 =
    ap one_if (same_port-refl (port_at_side a b side)) in
    let next : suc j ≡ j + one_if (same_port (port_at_side a b side) (port_at_side a b side)) =
    omega (arith, one) in (
      λ own. subst (λ k. IsSaid k (completed known)) first (said 0 (omega arith)),
      subst (λ k. FreesSaid (port_at_side a b side) known k
          (lines_of a b (map (move_note side) moves))) next
          (moves_said a b side moves known (suc j)
          (λ i few. (let number : j + suc i ≡ suc j + i = omega arith in subst
          (λ k. IsSaid k (completed known)) number (said (suc i) (omega (arith, few)))))),
    )

-- the port that got the characters, by what came of them
own_freed : (q : PortRef) (before : List TraceLine) (s t : Seen) (p : PortRef) (chars : List Char)
    (d : Delivered) → s.undetected ≡ None → IsLink s p q → taken_from s p q chars ≡ d
    → t.halves q ≡ half_after (s.halves q) d → t.undetected ≡ undetected_at q (undetected d)
    → IsFreed before s q → IsFreed (before ++ got_lines p q chars (told_of d).moves) t q
own_freed q before s t p chars d none link is half found h =
    by_end d is half found
    (subst (HaveFreed (frees_all q before) (said (s.halves q).place chars)) is
    (delivered_frees s p q chars (frees_all q before) link (h.oldest none)))
  where
    next : (moves : List Move)
        → gets_all q (gets_all q nothing_got before) (got_lines p q chars moves) ≡ record {
          before = all_got (gets_all q nothing_got before);
          last = chars;
        }
    next moves =
        moves_kept q p q B moves (gets q (gets_all q nothing_got before) (Signed (Got q chars)))
        ∙ ap (λ x. if x then record {
          before = all_got (gets_all q nothing_got before);
          last = chars;
        } else gets_all q nothing_got before) (same_port-refl q)

    gotten : (moves : List Move)
        → gets_all q nothing_got (before ++ got_lines p q chars moves) ≡ record {
          before = all_got (gets_all q nothing_got before);
          last = chars;
        }
    gotten moves = gets-append q nothing_got before (got_lines p q chars moves) ∙ next moves

    count : (moves : List Move)
        → frees_all q (before ++ got_lines p q chars moves) ≡ frees_all q before + freed_count moves
    count moves = let all = frees-append q before (got_lines p q chars moves) in let own =
        moves_own p q B moves in omega (arith, all, own)

    all_said : (moves : List Move)
        → ((i : ℕ) → i < freed_count moves
        → IsSaid (frees_all q before + i) (said (s.halves q).place chars))
        → FreesSaid q nothing_got 0 (before ++ got_lines p q chars moves)
    all_said moves each =
        let last : Gotten =
        record { before = all_got (gets_all q nothing_got before); last = chars } in
        let here : completed last ≡ said (s.halves q).place chars =
        ap (λ (x : Place). said x chars) (sym (h.place none)) in
        let one : gets q (gets_all q nothing_got before) (Signed (Got q chars)) ≡ last =
        ap (λ x. if x then last else gets_all q nothing_got before) (same_port-refl q) in
        let number : frees_all q before ≡ (0 + frees_all q before) + 0 = omega arith in
        said-join q before (got_lines p q chars moves) nothing_got 0 h.said (
          tt,
          subst (λ (g : Gotten). FreesSaid q g ((0 + frees_all q before) + 0)
              (lines_of p q (map (move_note B) moves))) (sym one)
              (subst (λ k. FreesSaid q last k (lines_of p q (map (move_note B) moves))) number
              (moves_said p q B moves last (frees_all q before)
              (λ i few. subst (IsSaid (frees_all q before + i)) (sym here) (each i few)))),
        )

    by_end : (d' : Delivered) → taken_from s p q chars ≡ d'
        → t.halves q ≡ half_after (s.halves q) d' → t.undetected ≡ undetected_at q (undetected d')
        → HaveFreed (frees_all q before) (said (s.halves q).place chars) d'
        → IsFreed (before ++ got_lines p q chars (told_of d').moves) t q
    by_end (Through flow) is half found freed =
        let place = through_place (port_seen s q) (kept_of (s.wires p)) chars flow is in
        record {
          said = all_said flow.told.moves freed.all;
          place = λ still. ap (λ (x : Half). x.place) half ∙ place
              ∙ ap (λ (x : Place). place_after x chars) (h.place none)
              ∙ sym (place_after-append place_start (all_got (gets_all q nothing_got before)) chars)
              ∙ ap (λ (g : Gotten). place_after place_start (all_got g))
              (sym (gotten flow.told.moves));
          oldest = λ still. ap (λ (x : Half). oldest_of x.output) half ∙ freed.oldest
              ∙ ap (λ k. k % 32) (sym (count flow.told.moves));
        }
    by_end (WentUndetected told e) is half found freed = record {
      said = all_said told.moves freed;
      place = λ still. absurd (cc (found, still));
      oldest = λ still. absurd (cc (found, still));
    }

pub freed_carried : (c : PortRef) → Carries c (λ before s. IsFreed before s c)
freed_carried c = record { quiet = quiet_freed c; gets = own_freed c }

pub start_freed : (s : Seen) (c : PortRef) → (s.halves c).place ≡ place_start
    → oldest_of (s.halves c).output ≡ 0 → IsFreed [] s c
start_freed s c place oldest =
    record {
      said = tt;
      place = λ none. place ∙ sym (place_after-none place_start);
      oldest = λ none. oldest;
    }
