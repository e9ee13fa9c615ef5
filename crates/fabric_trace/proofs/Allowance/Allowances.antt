-- What a port got and freed along lines, and its allowance after more characters.
use Rattle.fabric_trace.proofs.Prelude.{◌≡◌, ℕ, suc, ◌+◌, ◌≤◌, ◌++◌, Bool, true, false, List, [], ◌∷◌, refl, sym, ap, ◌∙◌, arith, append_assoc, if◌then◌else◌, append-nil, Char, place_start, place_after, said, said-append, PortRef, same_port, Hold, Free, Linked, AtNode, ByDevice, Sent, Got, Fired, TraceLine, Begun, Stepped, Signed, Lacked, Ended, Undetected, says, got, raised_all, got_with, freed_with, FreesAllowed}
use Rattle.fabric_trace.proofs.Frees.FreesStill.{frees_all}
use Rattle.fabric_trace.proofs.Allowance.RaisedRows.{raised_all_more, raised-append}

-- ---- folds

-- all that a port got, and how many packets it freed
abbrev pub got_after : PortRef → List Char → List TraceLine → List Char
got_after p chars [] = chars
got_after p chars (line ∷ lines) = got_after p (got_with p chars line) lines

abbrev pub freed_after : PortRef → ℕ → List TraceLine → ℕ
freed_after p j [] = j
freed_after p j (line ∷ lines) = freed_after p (freed_with p j line) lines

pub heard-append : (p : PortRef) (xs ys : List TraceLine) (chars : List Char)
    → got_after p chars (xs ++ ys) ≡ got_after p (got_after p chars xs) ys
heard-append p [] ys chars = refl
heard-append p (x ∷ xs) ys chars = heard-append p xs ys (got_with p chars x)

pub freed-append : (p : PortRef) (xs ys : List TraceLine) (j : ℕ)
    → freed_after p j (xs ++ ys) ≡ freed_after p (freed_after p j xs) ys
freed-append p [] ys j = refl
freed-append p (x ∷ xs) ys j = freed-append p xs ys (freed_with p j x)

pub allowed-join : (p : PortRef) (xs ys : List TraceLine) (chars : List Char) (j : ℕ)
    → FreesAllowed p chars j xs → FreesAllowed p (got_after p chars xs) (freed_after p j xs) ys
    → FreesAllowed p chars j (xs ++ ys)
allowed-join p [] ys chars j first rest = rest
allowed-join p (x ∷ xs) ys chars j first rest =
    (first.0, allowed-join p xs ys (got_with p chars x) (freed_with p j x) first.1 rest)

-- the same as what the laws of holds and frees fold
own_heard : (own : Bool) (chars more : List Char)
    → (if own then chars ++ more else chars) ≡ chars ++ (if own then more else [])
own_heard true chars more = refl
own_heard false chars more = sym (append-nil chars)

pub heard_is : (p : PortRef) (xs : List TraceLine) (chars : List Char)
    → got_after p chars xs ≡ chars ++ got p xs
heard_is p [] chars = sym (append-nil chars)
heard_is p (Begun line ∷ xs) chars = heard_is p xs chars
heard_is p (Stepped step ∷ xs) chars = heard_is p xs chars
heard_is p (Signed (Sent q more) ∷ xs) chars = heard_is p xs chars
heard_is p (Signed (Got q more) ∷ xs) chars =
    heard_is p xs (if same_port p q then chars ++ more else chars)
    ∙ ap (λ (l : List Char). l ++ got p xs) (own_heard (same_port p q) chars more)
    ∙ append_assoc chars (if same_port p q then more else []) (got p xs)
heard_is p (Signed (Fired q) ∷ xs) chars = heard_is p xs chars
heard_is p (Lacked lack ∷ xs) chars = heard_is p xs chars
heard_is p (Ended ∷ xs) chars = heard_is p xs chars
heard_is p (Undetected number q e ∷ xs) chars = heard_is p xs chars

own_freed : (own : Bool) (j : ℕ) → (if own then suc j else j) ≡ j + (if own then 1 else 0)
own_freed true j = omega arith
own_freed false j = omega arith

pub freed_is : (p : PortRef) (xs : List TraceLine) (j : ℕ) → freed_after p j xs ≡ j + frees_all p xs
freed_is p [] j = omega arith
freed_is p (Begun line ∷ xs) j = (let more = freed_is p xs j in omega (arith, more))
freed_is p (Stepped (Linked (Hold q packet)) ∷ xs) j =
    (let more = freed_is p xs j in omega (arith, more))
freed_is p (Stepped (Linked (Free q packet)) ∷ xs) j =
    let more = freed_is p xs (if same_port p q then suc j else j) in
    let one = own_freed (same_port p q) j in
    omega (arith, more, one)
freed_is p (Stepped (AtNode step) ∷ xs) j = (let more = freed_is p xs j in omega (arith, more))
freed_is p (Stepped (ByDevice step) ∷ xs) j = (let more = freed_is p xs j in omega (arith, more))
freed_is p (Signed (Sent q more) ∷ xs) j = (let more = freed_is p xs j in omega (arith, more))
freed_is p (Signed (Got q more) ∷ xs) j = (let more = freed_is p xs j in omega (arith, more))
freed_is p (Signed (Fired q) ∷ xs) j = (let more = freed_is p xs j in omega (arith, more))
freed_is p (Lacked lack ∷ xs) j = (let more = freed_is p xs j in omega (arith, more))
freed_is p (Ended ∷ xs) j = (let more = freed_is p xs j in omega (arith, more))
freed_is p (Undetected number q e ∷ xs) j = (let more = freed_is p xs j in omega (arith, more))

-- ---- the allowance after more characters

pub says_more : (chars more : List Char)
    → says (chars ++ more) ≡ says chars ++ said (place_after place_start chars) more
says_more chars more = said-append place_start chars more

pub heard_more : (p : PortRef) (xs : List TraceLine) (chars : List Char)
    → raised_all 0 (says chars) ≤ raised_all 0 (says (got_after p chars xs))
heard_more p xs chars =
    let grows =
    raised_all_more (said (place_after place_start chars) (got p xs)) (raised_all 0 (says chars)) in
    let same =
    ap (λ (l : List Char). raised_all 0 (says l)) (heard_is p xs chars)
    ∙ ap (raised_all 0) (says_more chars (got p xs))
    ∙ raised-append (says chars) (said (place_after place_start chars) (got p xs)) 0 in
    omega (arith, grows, same)
