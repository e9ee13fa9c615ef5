-- What a symbol that is heard does to what is told of free buffers.
use Rattle.link_sound.proofs.Prelude.{◌≡◌, ◌⊎◌, ℕ, suc, ◌+◌, ◌-◌, ◌%◌, ◌<◌, ◌≤◌, ◌==◌, nat_lt, Bool, true, false, Option, IfSome, List, ◌∷◌, length, drop, length-drop, inl, inr, refl, sym, ◌∙◌, arith, if◌then◌else◌, and_parts, eqb-true, le-leb, IfSome_then, Input, Output, Outstanding, distance, hears, Stype0, is_oldest, without_oldest, Report, prios_of, has_asked, Word, Accepted, WordTold, Responded, word_of, WordsInTurn, IsCovered, AreCounted, AreCountedAt}
use Rattle.link_model.specs.Output as out
use Rattle.link_sound.proofs.CreditLaws.{WordsInTurn-lower, WordsInTurn-rest}

-- a word is taken away
pub rest_counted :
    (oldest count : ℕ) (report : Option Report) (expected total freed held : ℕ) (w : Word)
    (words : List Word) → AreCounted oldest count report expected total freed held (w ∷ words)
    → AreCounted oldest count report expected total freed held words
rest_counted oldest count report expected total freed held w words c = record {
  oldest_is = c.oldest_is;
  expected_is = c.expected_is;
  held_first = c.held_first;
  sent_first = c.sent_first;
  words_are = WordsInTurn-rest freed held total w words c.held_first c.words_are;
  report_is = c.report_is;
}

-- the next packet to be sent is no later one
pub covered_next : (held next total earlier : ℕ) (report : Option Report) → earlier ≤ next
    → IfSome report (IsCovered held next total) → IfSome report (IsCovered held earlier total)
covered_next held next total earlier report below is =
    IfSome_then report is (λ r c. record {
      base = c.base;
      number = c.number;
      told_first = c.told_first;
      near = omega (arith, c.near);
      enough = c.enough;
    })

-- the sender after a symbol, and whether the packet to be sent next is the one of before, or the
-- symbol is the answer to a link-request
abbrev pub AfterHearing : Stype0 → (before next : Output) → Input → (total freed held : ℕ)
    → List Word → Type 0
AfterHearing what before next input total freed held words =
    (now : ℕ) × AreCountedAt next input total now held words
    × ((now + length (prios_of next) ≡ freed + length (prios_of before))
    ⊎ ((what ≡ Stype0.LinkResponse) × (has_asked before ≡ true)))

is_first : (w : Outstanding) (ack : ℕ) → is_oldest w ack ≡ true → ack ≡ w.oldest
is_first w ack is =
    eqb-true ack w.oldest (and_parts (nat_lt 0 (length w.prios)) (ack == w.oldest) is).1

same_number : (n freed held count : ℕ) → n % 32 ≡ freed % 32 → freed ≤ n → n < held
    → held ≤ freed + count → count ≤ 31 → n ≡ freed
same_number n freed held count same from within sent most = omega arith

oldest_counted :
    (w : Outstanding) (ack free : ℕ) (input : Input) (total freed held : ℕ) (words : List Word)
    → ack ≡ w.oldest → length w.prios ≤ 31
    → WordsInTurn freed held total (Accepted ack free ∷ words)
    → AreCountedAt (Output.Ok w) input total freed held (Accepted ack free ∷ words)
    → AfterHearing Stype0.PacketAccepted (Output.Ok w) (Output.Ok (without_oldest w)) input total
    freed held words
oldest_counted w ack free input total freed held words same most
    (n, is, from, within, few, enough, rest) c =
    let number =
    same_number n freed held (length w.prios) (sym is ∙ same ∙ c.oldest_is) from within
    c.sent_first most in
    let shorter = length-drop 1 w.prios in
    let next : suc freed + length (drop 1 w.prios) ≡ freed + length w.prios =
    omega (arith, c.sent_first) in (
      suc freed,
      record {
        oldest_is = omega (arith, c.oldest_is);
        expected_is = c.expected_is;
        held_first = omega arith;
        sent_first = omega (arith, c.sent_first);
        words_are = WordsInTurn-lower (suc freed) (suc n) held total words (omega arith) rest;
        report_is =
            covered_next held (freed + length w.prios) total
            (suc freed + length (drop 1 w.prios)) w.report (omega arith) c.report_is;
      },
      inl next,
    )

accept_counted :
    (is : Bool) (w : Outstanding) (ack free : ℕ) (input : Input) (total freed held : ℕ)
    (words : List Word) → is_oldest w ack ≡ is → length w.prios ≤ 31
    → AreCountedAt (Output.Ok w) input total freed held (Accepted ack free ∷ words)
    → AfterHearing Stype0.PacketAccepted (Output.Ok w)
    (if is then out.heard (Output.Ok (without_oldest w)) 1 else out.error w).state input total
    freed held words
accept_counted true w ack free input total freed held words is most c =
    oldest_counted w ack free input total freed held words (is_first w ack is) most c.words_are c
accept_counted false w ack free input total freed held words is most c =
    (freed, rest_counted _ _ _ _ total freed held (Accepted ack free) words c, inl refl)

retry_counted :
    (is : Bool) (w : Outstanding) (ack free : ℕ) (input : Input) (total freed held : ℕ)
    (words : List Word)
    → AreCountedAt (Output.Ok w) input total freed held (WordTold ack free ∷ words)
    → AfterHearing Stype0.PacketRetry (Output.Ok w)
    (if is then out.heard (Output.RetryStopped w) 0 else out.error w).state input total freed held
    words
retry_counted true w ack free input total freed held words c =
    (freed, rest_counted _ _ _ _ total freed held (WordTold ack free) words c, inl refl)
retry_counted false w ack free input total freed held words c =
    (freed, rest_counted _ _ _ _ total freed held (WordTold ack free) words c, inl refl)

pub distance_counts : (oldest ack freed held : ℕ) → oldest ≡ freed % 32 → ack ≡ held % 32
    → freed ≤ held → held ≤ freed + 31 → distance oldest ack ≡ held - freed
distance_counts oldest ack freed held first second below near = omega arith

response_counted :
    (w : Outstanding) (ack : ℕ) (input : Input) (total freed held : ℕ) (words : List Word)
    → length w.prios ≤ 31
    → AreCountedAt (Output.ErrorStopped true w) input total freed held (Responded ack ∷ words)
    → AfterHearing Stype0.LinkResponse (Output.ErrorStopped true w)
    (out.responded true w ack).state input total freed held words
response_counted w ack input total freed held words most c =
    let far =
    distance_counts w.oldest ack freed held c.oldest_is c.words_are.0 c.held_first
    (omega (arith, c.sent_first)) in
    let within : distance w.oldest ack ≤ length w.prios = omega (arith, c.sent_first) in
    rw (le-leb (distance w.oldest ack) (length w.prios) within) (
      held,
      record {
        oldest_is = c.words_are.0;
        expected_is = c.expected_is;
        held_first = omega arith;
        sent_first = omega arith;
        words_are = c.words_are.1;
        report_is =
            covered_next held (freed + length w.prios) total (held + 0) w.report
            (omega (arith, c.sent_first)) c.report_is;
      },
      inr (refl, refl),
    )

-- what a symbol does behind its report
pub hears_counted :
    (what : Stype0) (has : Bool) (ack free : ℕ) (output : Output) (input : Input)
    (total freed held : ℕ) (words : List Word) → length (prios_of output) ≤ 31
    → AreCountedAt output input total freed held (word_of what has ack free ∷ words)
    → AfterHearing what output (hears what output ack).state input total freed held words
hears_counted Stype0.PacketAccepted has ack free (Output.Ok w) input total freed held words most
    c =
    accept_counted (is_oldest w ack) w ack free input total freed held words refl most c
hears_counted Stype0.PacketAccepted has ack free (Output.RetryStopped w) input total freed held
    words most c =
    (freed, rest_counted _ _ _ _ total freed held _ words c, inl refl)
hears_counted Stype0.PacketAccepted has ack free Output.Failed input total freed held words most
    c =
    (freed, rest_counted _ _ _ _ total freed held _ words c, inl refl)
hears_counted Stype0.PacketRetry has ack free (Output.Ok w) input total freed held words most c =
    retry_counted (is_oldest w ack) w ack free input total freed held words c
hears_counted Stype0.LinkResponse has ack free (Output.ErrorStopped false w) input total freed held
    words most c =
    (freed, rest_counted _ _ _ _ total freed held _ words c, inl refl)
hears_counted Stype0.LinkResponse has ack free (Output.ErrorStopped true w) input total freed held
    words most c =
    response_counted w ack input total freed held words most c
hears_counted _ has ack free (Output.Ok w) input total freed held words most c =
    (freed, rest_counted _ _ _ _ total freed held _ words c, inl refl)
hears_counted _ has ack free (Output.RetryStopped w) input total freed held words most c =
    (freed, rest_counted _ _ _ _ total freed held _ words c, inl refl)
hears_counted _ has ack free (Output.ErrorStopped asked w) input total freed held words most c =
    (freed, rest_counted _ _ _ _ total freed held _ words c, inl refl)
hears_counted _ has ack free Output.Failed input total freed held words most c =
    (freed, rest_counted _ _ _ _ total freed held _ words c, inl refl)
