-- Clocks that are told one by one.
use Rattle.std.proofs.Common.{◌≡◌, ℕ, ◌≤◌, ◌<◌, ◌+◌, ◌*◌, inl, inr, List, [], ◌∷◌, ◌++◌, length, refl, sym, ap, subst, ◌∙◌, append-nil, append_assoc, arith}
use Rattle.std.proofs.lemmas.Bool.{cases_lt}
use Rattle.rio_chars.specs.Written.{Outgoing, Writes}
use Rattle.rio_chars.specs.declared.chars.Char.{Char}
use Rattle.rio_chars.proofs.WrittenLaws.{Writes-nil, Writes-then}
use Rattle.port_lines.specs.Clocks.{ClockedState, ClocksDid, before_clocks, clocks, clocks_to, clock_gives, clock_text}

-- some clocks, which gave these characters and told this, come before others
abbrev pub behind_clocks : List Char → List ℕ → ClocksDid → ClocksDid
behind_clocks given text did =
    record { stands = did.stands; given = given ++ did.given; text = text ++ did.text }

-- no clock
abbrev pub no_clocks : ClockedState → ClocksDid
no_clocks at = record { stands = at; given = []; text = [] }

-- Of some clocks these characters were given and this much was told, and what is left is what those
-- behind them do.
pub record AreGiven (begun out : Outgoing) (whole rest : ClocksDid) (given : List Char) : Type 0
  where
    pub text : List ℕ
    pub told : Writes begun out text
    pub is : whole ≡ behind_clocks given text rest

module _ {begun out : Outgoing} where
  pub AreGiven-begin : (whole : ClocksDid) (given : List Char) → given ≡ [] → begun ≡ out
      → AreGiven begun out whole whole given
  AreGiven-begin whole given none same = record {
    text = [];
    told = subst (λ o. Writes begun o []) same (Writes-nil begun);
    is = ap (λ chars. behind_clocks chars [] whole) (sym none);
  }

  -- a clock more
  pub AreGiven-more : {next : Outgoing} {whole rest : ClocksDid} {given : List Char} (c : Char)
      (text : List ℕ) (left : ClocksDid)
      → AreGiven begun out whole rest given → rest ≡ before_clocks c text left
      → Writes out next text → AreGiven begun next whole left (given ++ c ∷ [])
  AreGiven-more {next} {whole} {rest} {given} c text left h is told = record {
    text = h.text ++ text;
    told = Writes-then h.text text h.told told;
    is =
        h.is ∙ ap (behind_clocks given h.text) is
        ∙ ap (λ (chars : List Char).
        record { stands = left.stands; given = chars; text = h.text ++ (text ++ left.text) })
        (sym (append_assoc given (c ∷ []) left.given))
        ∙ ap (λ (told : List ℕ).
        record { stands = left.stands; given = (given ++ c ∷ []) ++ left.given; text = told })
        (sym (append_assoc h.text text left.text));
  }

  -- no clock is left
  pub AreGiven-end : {whole rest : ClocksDid} {given : List Char} (at : ClockedState)
      → AreGiven begun out whole rest given → rest ≡ no_clocks at
      → (whole.stands ≡ at) × (whole.given ≡ given) × Writes begun out whole.text
  AreGiven-end {whole} {rest} {given} at h none =
      let all : whole ≡ behind_clocks given h.text (no_clocks at) =
      h.is ∙ ap (behind_clocks given h.text) none in
      let texts : whole.text ≡ h.text =
      ap (λ (d : ClocksDid). d.text) all ∙ append-nil h.text in (
        ap (λ (d : ClocksDid). d.stands) all,
        ap (λ (d : ClocksDid). d.given) all ∙ append-nil given,
        subst (Writes begun out) (sym texts) h.told,
      )

-- ---- clocks, one after another

pub clocks-next : (at : ClockedState) (chars left : List Char) (c : Char) → chars ≡ c ∷ left
    → clocks at chars
    ≡ before_clocks (clock_gives at c) (clock_text at c) (clocks (clocks_to at c) left)
unfolding clocks
clocks-next at chars left c is = ap (clocks at) is

pub clocks-none : (at : ClockedState) (chars : List Char) → length chars ≤ 0
    → clocks at chars ≡ no_clocks at
unfolding clocks
clocks-none at [] none = refl
clocks-none at (c ∷ chars) none = absurd (omega arith)

-- a clock more was told
module _ {begun out next : Outgoing} where
  pub AreGiven-clock : (whole : ClocksDid) (at at_next : ClockedState)
      (left rest given given_next : List Char) (c result : Char)
      → AreGiven begun out whole (clocks at left) given → left ≡ c ∷ rest
      → at_next ≡ clocks_to at c → result ≡ clock_gives at c → given_next ≡ given ++ result ∷ []
      → Writes out next (clock_text at c)
      → AreGiven begun next whole (clocks at_next rest) given_next
  AreGiven-clock whole at at_next left rest given given_next c result h is stands gives adds told =
      let more = AreGiven-more (clock_gives at c) (clock_text at c) (clocks at_next rest) h
      (clocks-next at left rest c is
      ∙ ap (λ (p : ClockedState). before_clocks (clock_gives at c) (clock_text at c)
      (clocks p rest)) (sym stands))
      told in
      subst (AreGiven begun next whole (clocks at_next rest))
      (sym (adds ∙ ap (λ (g : Char). given ++ g ∷ []) gives)) more

-- behind a clock there is room for those that are left: a burst begins only if nothing waits
pub room-left : (len len_next left rest cap : ℕ) → (284 < len_next → len_next ≤ len + 4)
    → len + (4 * left + 288) ≤ cap → 4 * left + 572 ≤ cap → left ≡ rest + 1
    → len_next + (4 * rest + 288) ≤ cap
room-left len len_next left rest cap few room burst one =
    elim (cases_lt 284 len_next) as (λ _. len_next + (4 * rest + 288) ≤ cap) [
      | inl over ↦ let more = few over in omega (arith, room, one, more)
      | inr under ↦ omega (arith, burst, one, under)
    ]
