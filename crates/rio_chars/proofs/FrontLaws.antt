-- Writing goes on from a front of the bytes.
use Rattle.std.proofs.Common.{◌≡◌, ℕ, Option, List, [], ◌++◌, refl, sym, ap, ◌∙◌, subst, append-nil, append_assoc, take, drop, take-append-drop}
use Rattle.std.specs.Io.KnownBytes.{Appends, Keeps}
use Rattle.std.proofs.KnownBytes.{Appends-nil, Appends-trans, Appends-kept}
use Rattle.rio_chars.specs.Fronts.{AppendsFront}

pub AppendsFront-begin : (a : Option (List ℕ)) (bytes : List ℕ)
    → (f : AppendsFront a a bytes) × (f.rest ≡ bytes)
AppendsFront-begin a bytes =
    (record { front = []; rest = bytes; whole = refl; told = Appends-nil a }, refl)

-- n more bytes of what was left were written
pub AppendsFront-more : (a b c : Option (List ℕ)) (bytes rest : List ℕ) (n : ℕ)
    (f : AppendsFront a b bytes) → f.rest ≡ rest → Appends b c (take n rest)
    → (f : AppendsFront a c bytes) × (f.rest ≡ drop n rest)
AppendsFront-more a b c bytes rest n f e more = (
  record {
    front = f.front ++ take n rest;
    rest = drop n rest;
    whole =
        f.whole
        ∙ ap (λ l. f.front ++ l) (e ∙ sym (take-append-drop n rest))
        ∙ sym (append_assoc f.front (take n rest) (drop n rest));
    told = Appends-trans a b c f.front (take n rest) f.told more;
  },
  refl,
)

pub AppendsFront-kept : (a b c : Option (List ℕ)) (bytes : List ℕ) → AppendsFront a b bytes
    → Keeps b c → AppendsFront a c bytes
AppendsFront-kept a b c bytes f kept = record {
  front = f.front;
  rest = f.rest;
  whole = f.whole;
  told = Appends-kept a b c f.front f.told kept;
}

pub AppendsFront-whole : (a b : Option (List ℕ)) (bytes : List ℕ) (f : AppendsFront a b bytes)
    → f.rest ≡ [] → Appends a b bytes
AppendsFront-whole a b bytes f e =
    subst (Appends a b) (sym (f.whole ∙ ap (λ l. f.front ++ l) e ∙ append-nil f.front)) f.told

-- a front of the first bytes is one of all
pub AppendsFront-longer : (a b : Option (List ℕ)) (bytes more : List ℕ) → AppendsFront a b bytes
    → AppendsFront a b (bytes ++ more)
AppendsFront-longer a b bytes more f = record {
  front = f.front;
  rest = f.rest ++ more;
  whole = ap (λ l. l ++ more) f.whole ∙ append_assoc f.front f.rest more;
  told = f.told;
}

-- a front behind bytes that were written
pub AppendsFront-behind : (a b c : Option (List ℕ)) (bytes more : List ℕ) → Appends a b bytes
    → AppendsFront b c more → AppendsFront a c (bytes ++ more)
AppendsFront-behind a b c bytes more told f = record {
  front = bytes ++ f.front;
  rest = f.rest;
  whole = ap (λ l. bytes ++ l) f.whole ∙ sym (append_assoc bytes f.front f.rest);
  told = Appends-trans a b c bytes f.front told f.told;
}
