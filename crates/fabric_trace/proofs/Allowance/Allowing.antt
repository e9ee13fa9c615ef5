-- At each free of a trace, the port's allowance is above the number of the packets that it freed
-- before.
use Rattle.fabric_trace.proofs.Prelude.{◌≡◌, ℕ, suc, ◌+◌, ◌%◌, ◌<◌, ◌≤◌, ◌++◌, List, [], ◌∷◌, map, None, refl, sym, ap, ◌∙◌, subst, arith, if◌then◌else◌, Char, Event, Place, place_start, place_after, said, Side, B, Delivered, Through, WentUndetected, told_of, Move, Held, Freed, move_note, PortRef, same_port, Hold, Free, Linked, AtNode, ByDevice, same_port-refl, Sent, Got, Fired, TraceLine, Begun, Stepped, Signed, Lacked, Ended, Undetected, Seen, says, taken_from, port_at_side, lines_of, got, IsLink, raised_all, got_with, freed_with, FreeAllowed, FreesAllowed}
use Rattle.fabric_trace.proofs.Frees.FreesStill.{frees_all, IsFreed}
use Rattle.fabric_trace.proofs.Frees.FreesRead.{freed_carried}
use Rattle.fabric_trace.proofs.Frees.Heard.{freed_count}
use Rattle.fabric_trace.proofs.Holds.HoldsStill.{IsRead}
use Rattle.fabric_trace.proofs.Holds.HoldsRead.{read_carried}
use Rattle.fabric_trace.proofs.Parts.Quiet.{IsQuietLine, IsQuiet}
use Rattle.fabric_trace.proofs.Parts.Carrying.{got_lines, Carries}
use Rattle.fabric_trace.proofs.Allowance.RaisedRows.{raised-append}
use Rattle.fabric_trace.proofs.Allowance.Raising.{HaveRaised, delivered_raises}
use Rattle.fabric_trace.proofs.Allowance.Allowances.{got_after, freed_after, heard-append, freed-append, allowed-join, says_more, heard_more}
pub use Rattle.fabric_trace.proofs.Allowance.Allowances.{freed_is, heard_is}

-- ---- of a port, after lines

pub record IsRaised (before : List TraceLine) (p : PortRef) : Type 0 where
  pub all : FreesAllowed p [] 0 before
  pub low : freed_after p 0 before ≤ raised_all 0 (says (got_after p [] before))

raised_on : (p : PortRef) (before xs : List TraceLine)
    → FreesAllowed p (got_after p [] before) (freed_after p 0 before) xs
    → freed_after p (freed_after p 0 before) xs ≤ raised_all 0
    (says (got_after p (got_after p [] before) xs)) → IsRaised before p → IsRaised (before ++ xs) p
raised_on p before xs all low h = record {
  all = allowed-join p before xs [] 0 h.all all;
  low = (let freed = freed-append p before xs 0 in let heard =
      ap (λ (l : List Char). raised_all 0 (says l)) (heard-append p before xs []) in omega
      (arith, low, freed, heard));
}

-- what is known of it besides, from which its allowance follows
pub record IsCounted (before : List TraceLine) (s : Seen) (p : PortRef) : Type 0 where
  pub read : IsRead before s p
  pub freed : IsFreed before s p
  pub raised : IsRaised before p

-- ---- lines in which the port gets and frees nothing

quiet_line : (p : PortRef) (line : TraceLine) (chars : List Char) (j : ℕ) → IsQuietLine p line
    → FreeAllowed p chars j line × (freed_with p j line ≡ j)
quiet_line p (Begun line) chars j quiet = (tt, refl)
quiet_line p (Stepped (Linked (Hold q packet))) chars j quiet = (tt, refl)
quiet_line p (Stepped (Linked (Free q packet))) chars j quiet =
    (λ own. absurd (cc (own, quiet)), ap (λ own. if own then suc j else j) quiet)
quiet_line p (Stepped (AtNode step)) chars j quiet = (tt, refl)
quiet_line p (Stepped (ByDevice step)) chars j quiet = (tt, refl)
quiet_line p (Signed (Sent q more)) chars j quiet = (tt, refl)
quiet_line p (Signed (Got q more)) chars j quiet = (tt, refl)
quiet_line p (Signed (Fired q)) chars j quiet = (tt, refl)
quiet_line p (Lacked lack) chars j quiet = (tt, refl)
quiet_line p Ended chars j quiet = (tt, refl)
quiet_line p (Undetected number q e) chars j quiet = (tt, refl)

quiet_lines : (p : PortRef) (lines : List TraceLine) (chars : List Char) (j : ℕ) → IsQuiet p lines
    → FreesAllowed p chars j lines × (freed_after p j lines ≡ j)
quiet_lines p [] chars j quiet = (tt, refl)
quiet_lines p (line ∷ lines) chars j quiet =
    let one = quiet_line p line chars j quiet.0 in
    let more = quiet_lines p lines (got_with p chars line) (freed_with p j line) quiet.1 in
    ((one.0, more.0), more.1 ∙ one.1)

quiet_raised : (p : PortRef) (before lines : List TraceLine) → IsQuiet p lines → IsRaised before p
    → IsRaised (before ++ lines) p
quiet_raised p before lines quiet h =
    let own = quiet_lines p lines (got_after p [] before) (freed_after p 0 before) quiet in
    let same = own.1 in
    let low = h.low in
    let grows = heard_more p lines (got_after p [] before) in
    raised_on p before lines own.0 (omega (arith, same, low, grows)) h

-- ---- a delivery

moves_heard : (c a b : PortRef) (side : Side) (moves : List Move) (chars : List Char)
    → got_after c chars (lines_of a b (map (move_note side) moves)) ≡ chars
moves_heard c a b side [] chars = refl
moves_heard c a b side (Held packet ∷ moves) chars = moves_heard c a b side moves chars
moves_heard c a b side (Freed packet ∷ moves) chars = moves_heard c a b side moves chars

own_one : (q : PortRef) (j : ℕ) → (if same_port q q then suc j else j) ≡ suc j
own_one q j = ap (λ x. if x then suc j else j) (same_port-refl q)

moves_own : (a b : PortRef) (side : Side) (moves : List Move) (chars : List Char) (j : ℕ)
    → j + freed_count moves ≤ raised_all 0 (says chars)
    → FreesAllowed (port_at_side a b side) chars j (lines_of a b (map (move_note side) moves)) ×
    (freed_after (port_at_side a b side) j (lines_of a b (map (move_note side) moves))
    ≡ j + freed_count moves)
moves_own a b side [] chars j low = (tt, omega arith)
moves_own a b side (Held packet ∷ moves) chars j low =
    (let more = moves_own a b side moves chars j low in ((tt, more.0), more.1))
moves_own a b side (Freed packet ∷ moves) chars j low =
    let q = port_at_side a b side in
    let lines = lines_of a b (map (move_note side) moves) in
    let more = moves_own a b side moves chars (suc j) (omega (arith, low)) in
    let one = own_one q j in
    let count = more.1 in
    let same = ap (λ k. freed_after q k lines) one in (
      (λ own. omega (arith, low), subst (λ k. FreesAllowed q chars k lines) (sym one) more.0),
      omega
          (arith, same, count),
    )

-- no more were freed than are allowed, of either end of a delivery
all_raised : (n m : ℕ) (events : List Event) (d : Delivered) → HaveRaised n m events d
    → n + freed_count (told_of d).moves ≤ raised_all m events
all_raised n m events (Through flow) h = h.allowed
all_raised n m events (WentUndetected told e) h = h

-- the port that got the characters
own_raised : (c : PortRef) (before : List TraceLine) (s : Seen) (p : PortRef) (chars : List Char)
    (d : Delivered) → s.undetected ≡ None → IsLink s p c → taken_from s p c chars ≡ d
    → IsCounted before s c → IsRaised (before ++ got_lines p c chars (told_of d).moves) c
own_raised c before s p chars d none link is h =
    let heard = got_after c [] before in
    let j = freed_after c 0 before in
    let zeroth = freed_is c before 0 in
    let count : j ≡ frees_all c before = omega (arith, zeroth) in
    let got_same : heard ≡ got c before = heard_is c before [] in
    let place : (s.halves c).place ≡ place_after place_start heard =
    h.read.place none ∙ ap (place_after place_start) (sym got_same) in
    let most =
    all_raised j (raised_all 0 (says heard)) (said (s.halves c).place chars) d
    (subst (HaveRaised j (raised_all 0 (says heard)) (said (s.halves c).place chars)) is
    (delivered_raises s p c chars j (raised_all 0 (says heard)) link
    (h.freed.oldest none ∙ ap (λ k. k % 32) (sym count)) h.raised.low)) in
    let after : raised_all 0 (says (heard ++ chars))
    ≡ raised_all (raised_all 0 (says heard)) (said (s.halves c).place chars) =
    ap (raised_all 0) (says_more heard chars)
    ∙ raised-append (says heard) (said (place_after place_start heard) chars) 0
    ∙ ap (λ (x : Place). raised_all (raised_all 0 (says heard)) (said x chars)) (sym place) in
    let low : j + freed_count (told_of d).moves ≤ raised_all 0 (says (heard ++ chars)) =
    omega (arith, most, after) in
    let lines = lines_of p c (map (move_note B) (told_of d).moves) in
    let moves = moves_own p c B (told_of d).moves (heard ++ chars) j low in
    let gets : (if same_port c c then heard ++ chars else heard) ≡ heard ++ chars =
    ap (λ x. if x then heard ++ chars else heard) (same_port-refl c) in
    let end : got_after c heard (got_lines p c chars (told_of d).moves) ≡ heard ++ chars =
    moves_heard c p c B (told_of d).moves (if same_port c c then heard ++ chars else heard)
    ∙ gets in
    let ends = ap (λ (l : List Char). raised_all 0 (says l)) end in
    let total = moves.1 in
    raised_on c before (got_lines p c chars (told_of d).moves)
    (tt, subst (λ (l : List Char). FreesAllowed c l j lines) (sym gets) moves.0)
    (omega (arith, low, ends, total)) h.raised

-- ---- lines that are made of parts

pub counted_carried : (c : PortRef) → Carries c (λ before s. IsCounted before s c)
counted_carried c = record {
  quiet = λ before lines s t quiet stays h. record {
    read = (read_carried c).quiet before lines s t quiet stays h.read;
    freed = (freed_carried c).quiet before lines s t quiet stays h.freed;
    raised = quiet_raised c before lines quiet h.raised;
  };
  gets = λ before s t p chars d none link is half found h. record {
    read = (read_carried c).gets before s t p chars d none link is half found h.read;
    freed = (freed_carried c).gets before s t p chars d none link is half found h.freed;
    raised = own_raised c before s p chars d none link is h;
  };
}

-- ---- whole lines, and their fronts

-- a port that freed nothing yet is allowed nothing
pub start_raised : (p : PortRef) → IsRaised [] p
start_raised p = record { all = tt; low = omega arith }

pub allowed_front : (p : PortRef) (xs ys : List TraceLine) (chars : List Char) (j : ℕ)
    → FreesAllowed p chars j (xs ++ ys) → FreesAllowed p chars j xs
allowed_front p [] ys chars j all = tt
allowed_front p (x ∷ xs) ys chars j all =
    (all.0, allowed_front p xs ys (got_with p chars x) (freed_with p j x) all.1)

-- ---- a front that ends with a free

pub allowed_at : (c : PortRef) (xs ys : List TraceLine) (packet : List ℕ) (chars : List Char)
    (j : ℕ) → FreesAllowed c chars j (xs ++ Stepped (Linked (Free c packet)) ∷ ys)
    → freed_after c j xs < raised_all 0 (says (got_after c chars xs))
allowed_at c [] ys packet chars j all = all.0 (same_port-refl c)
allowed_at c (x ∷ xs) ys packet chars j all =
    allowed_at c xs ys packet (got_with c chars x) (freed_with c j x) all.1
