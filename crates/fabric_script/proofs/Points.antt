-- Names and ports: what parts a name from a number.
use Rattle.std.proofs.Common.{◌≡◌, ◌≢◌, ℕ, ◌+◌, ◌<◌, ◌≤◌, ◌==◌, Bool, true, false, ◌&&◌, ◌||◌, List, [], ◌∷◌, ◌++◌, All, length, get_or, refl, sym, ap, ◌∙◌, append_assoc, arith, subst, ◌^◌, ◌-◌, take, drop, drop-cons, add-one, take-append-drop}
use Rattle.std.specs.List.{slice_split}
use Rattle.std.proofs.lemmas.List.Splits.{slice_split_at}
use Rattle.std.proofs.lemmas.Grind.{common_steps}
use Rattle.std.specs.Fmt.{decimal}
use Rattle.std.proofs.lemmas.Bool.Decides.{nat_tests}
use Rattle.std.proofs.lemmas.List.Elements.{All-head, All-tail, All-cons, All-nil}
use Rattle.std.proofs.lemmas.Fmt.{decimal_injective}
use Rattle.fabric_script.specs.Names.{is_name, is_letter, is_digit, are_letters_or_digits}
use Rattle.fabric_script.specs.Hits.{point_text}

-- no byte of a list is this one
abbrev pub Lacks : ℕ → List ℕ → Type 0
Lacks c bytes = All (λ byte. (byte == c) ≡ false) bytes

pub same_parts : (c : ℕ) (a b x y : List ℕ) → Lacks c a → Lacks c b → a ++ c ∷ x ≡ b ++ c ∷ y
    → (a ≡ b) × (x ≡ y)
same_parts c [] [] x y lacks_a lacks_b e = (refl, cc)
same_parts c [] (d ∷ b) x y lacks_a lacks_b e =
    let other = All-head (λ byte. (byte == c) ≡ false) d b lacks_b in
    let same : c ≡ d = cc in
    absurd (grind (arith, nat_tests, other, same))
same_parts c (d ∷ a) [] x y lacks_a lacks_b e =
    let other = All-head (λ byte. (byte == c) ≡ false) d a lacks_a in
    let same : d ≡ c = cc in
    absurd (grind (arith, nat_tests, other, same))
same_parts c (d ∷ a) (f ∷ b) x y lacks_a lacks_b e =
    let rest = same_parts c a b x y (All-tail (λ byte. (byte == c) ≡ false) d a lacks_a)
    (All-tail (λ byte. (byte == c) ≡ false) f b lacks_b) cc in
    let first : d ≡ f = cc in
    let all : d ∷ a ≡ f ∷ b = ap (λ t. d ∷ t) rest.0 ∙ ap (λ t. t ∷ b) first in
    (all, rest.1)

has_it : (c : ℕ) (a x : List ℕ) → ¬ Lacks c (a ++ c ∷ x)
has_it c [] x lacks =
    let other = All-head (λ byte. (byte == c) ≡ false) c x lacks
    in
    grind (arith, nat_tests, other)
has_it c (d ∷ a) x lacks =
    has_it c a x (All-tail (λ byte. (byte == c) ≡ false) d (a ++ c ∷ x) lacks)

-- the bytes of a name and of a number are 48 and more
abbrev pub IsHigh : List ℕ → Type 0
IsHigh bytes = All (λ byte. 48 ≤ byte) bytes

high_byte : (c : ℕ) → is_letter c || is_digit c ≡ true → 48 ≤ c
high_byte c e = grind (arith, nat_tests, e)

pub and_parts : (a b : Bool) → a && b ≡ true → (a ≡ true) × (b ≡ true)
and_parts true true e = (refl, refl)
and_parts true false e = absurd cc
and_parts false b e = absurd cc

pub high_rest : (bytes : List ℕ) → are_letters_or_digits bytes ≡ true → IsHigh bytes
high_rest [] e = All-nil (λ byte. 48 ≤ byte)
high_rest (c ∷ bytes) e =
    let parts = and_parts (is_letter c || is_digit c) (are_letters_or_digits bytes) e in
    All-cons (λ byte. 48 ≤ byte) c bytes (high_byte c parts.0) (high_rest bytes parts.1)

pub high_name : (name : List ℕ) → is_name name ≡ true → IsHigh name
high_name [] e = absurd cc
high_name (c ∷ name) e =
    let parts = and_parts (is_letter c) _ e in
    let rest = and_parts _ (are_letters_or_digits name) parts.1 in
    All-cons (λ byte. 48 ≤ byte) c name (high_byte c (rw parts.0)) (high_rest name rest.1)

pub lacks_low : (c : ℕ) (bytes : List ℕ) → c < 48 → IsHigh bytes → Lacks c bytes
lacks_low c bytes low high k d within = differs (get_or bytes k d) (high k d within)
  where
    differs : (b : ℕ) → 48 ≤ b → (b == c) ≡ false
    differs b h = grind (arith, nat_tests)

pub point_text-parts : (name : List ℕ) (port : ℕ) → point_text name port ≡ name ++ 46 ∷ decimal port
point_text-parts name port = append_assoc name (46 ∷ []) (decimal port)

-- ---- words that are no ports

pub no_port-point : (word : List ℕ) → Lacks 46 word → (name : List ℕ) (port : ℕ) → is_name name
    ≡ true → port < 16 → word ≢ point_text name port
no_port-point word lacks name port is_name below e =
    has_it 46 name (decimal port) (subst (Lacks 46) (e ∙ point_text-parts name port) lacks)

port_parts : (word front behind name : List ℕ) (port : ℕ) → Lacks 46 front → word ≡ front ++ 46
    ∷ behind → is_name name ≡ true → word ≡ point_text name port → (front ≡ name)
    × (behind ≡ decimal port)
port_parts word front behind name port lacks parts named e =
    same_parts 46 front name behind (decimal port) lacks
    (lacks_low 46 name (omega arith) (high_name name named))
    (sym parts ∙ e ∙ point_text-parts name port)

pub no_port-name : (word front behind : List ℕ) → Lacks 46 front → word ≡ front ++ 46 ∷ behind
    → is_name front ≡ false → (name : List ℕ) (port : ℕ) → is_name name ≡ true → port < 16 → word
    ≢ point_text name port
no_port-name word front behind lacks parts other name port named below e =
    let same = port_parts word front behind name port lacks parts named e in
    let name_too = ap is_name same.0 in
    cc

pub no_port-number : (word front behind : List ℕ) → Lacks 46 front → word ≡ front ++ 46 ∷ behind
    → ((n : ℕ) → n < 2 ^ 32 → behind ≢ decimal n) → (name : List ℕ) (port : ℕ) → is_name name ≡ true
    → port < 16 → word ≢ point_text name port
no_port-number word front behind lacks parts other name port named below e =
    other port (omega arith) (port_parts word front behind name port lacks parts named e).1

pub no_port-large : (word front behind : List ℕ) (n : ℕ) → Lacks 46 front → word ≡ front ++ 46
    ∷ behind → behind ≡ decimal n → n < 2 ^ 32 → 15 < n → (name : List ℕ) (port : ℕ) → is_name name
    ≡ true → port < 16 → word ≢ point_text name port
no_port-large word front behind n lacks parts is fits large name port named below e =
    let same = decimal_injective n port (omega arith) (omega arith)
    (sym is ∙ (port_parts word front behind name port lacks parts named e).1) in
    omega arith

-- the parts of a port are its own alone
pub same_port_text : (name other : List ℕ) (port port' : ℕ) → is_name name ≡ true → is_name other
    ≡ true → port < 16 → port' < 16 → point_text name port ≡ point_text other port' → (name ≡ other)
    × (port ≡ port')
same_port_text name other port port' named named' below below' e =
    let same = port_parts (point_text name port) name (decimal port) other port'
    (lacks_low 46 name (omega arith) (high_name name named)) (point_text-parts name port)
    named' e in
    (same.0, decimal_injective port port' (omega arith) (omega arith) same.1)

-- the first part of a list ends at the first such byte
pub cut_at : (c : ℕ) (bytes : List ℕ) (i : ℕ) → i < length bytes → get_or bytes i 0 ≡ c
    → Lacks c (take i bytes) → slice_split (λ byte. byte == c) bytes ≡ take i bytes
    ∷ slice_split (λ byte. byte == c) (take (length bytes - (i + 1)) (drop (i + 1) bytes))
cut_at c bytes i within here lacks =
    let rest : take (length bytes - (i + 1)) (drop (i + 1) bytes) ≡ drop (i + 1) bytes =
    grind (arith, common_steps) in
    let next : drop i bytes ≡ get_or bytes i 0 ∷ drop (i + 1) bytes =
    rw add-one (drop-cons bytes i 0 within) in
    let parts : bytes ≡ take i bytes ++ c ∷ drop (i + 1) bytes = sym (take-append-drop i bytes)
    ∙ ap (λ l. take i bytes ++ l) next ∙ ap (λ b. take i bytes ++ b ∷ drop (i + 1) bytes)
    here in
    let yes : (c == c) ≡ true = grind (arith, nat_tests) in
    rw rest (ap (slice_split (λ byte. byte == c)) parts ∙ slice_split_at (λ byte. byte == c)
    (take i bytes) c (drop (i + 1) bytes) lacks yes)
