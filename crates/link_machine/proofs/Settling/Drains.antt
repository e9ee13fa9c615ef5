-- A drain is at most three rounds, and of its six deliveries the last has nothing to deliver.
use Rattle.link_machine.proofs.Prelude.{◌≡◌, ◌||◌, inl, inr, ℕ, zero, suc, ◌+◌, ◌-◌, ◌≤◌, ◌++◌, Bool, true, false, not, MatchBool, List, [], ◌∷◌, refl, sym, ap, ◌∙◌, subst, if◌then◌else◌, arith, or_parts, cases_lt, Char, Fields, place, said, Event, Pending, Nothing, PortState, Side, A, B, LinkState, turned_round, has_none, IsSoundLink, port_fed, port_answers, chars_of, AreAnswers, NextOf, LoopRests, LoopGoesOn, LoopLeaves, Act, Reached, At, FoundAt, after_act, goes, OnState, first_has_chars, of_end, all_chars, Empties, is_busy, Drains}
use Rattle.link_machine.proofs.Machine.{round_keeps}
use Rattle.link_machine.proofs.Settling.AnswerLaws.{IsNarrow, port_narrow, replies_answer}
use Rattle.link_machine.proofs.Settling.Signals.{unbroken_leaves, third_is_silent}
use Rattle.link_machine.proofs.Settling.Lines.{Takes, emptied, emptied_takes}

-- ---- lists of acts

pub goes_none : (r : Reached) → goes r [] ≡ r
unfolding goes
goes_none r = refl

pub goes_found : (side : Side) (e : Event) (acts : List Act)
    → goes (FoundAt side e) acts ≡ FoundAt side e
unfolding goes
goes_found side e [] = refl
goes_found side e (act ∷ acts) = refl

pub goes-append : (xs ys : List Act) (r : Reached) → goes r (xs ++ ys) ≡ goes (goes r xs) ys
unfolding goes
goes-append [] ys r = refl
goes-append (x ∷ xs) ys (At s) = goes-append xs ys (after_act x s)
goes-append (x ∷ xs) ys (FoundAt side e) = sym (goes_found side e ys)

-- a part where a test holds
pub where_goes : (r : Reached) (b : Bool) (all things : List Act)
    → MatchBool b (all ≡ things) (all ≡ []) → goes r all ≡ (if b then goes r things else r)
where_goes r true all things is = ap (goes r) is
where_goes r false all things is = ap (goes r) is ∙ goes_none r

-- ---- what is true of the state that is reached

pub on_state : {P Q : LinkState → Type 0} → (r : Reached) → ((s : LinkState) → P s → Q s)
    → OnState P r → OnState Q r
on_state (At s) so h = so s h
on_state (FoundAt side e) so h = tt

pub then_emptied : {P : LinkState → Type 0} → (Q : LinkState → Type 0) (from : Side) (r : Reached)
    → ((s : LinkState) → P s → OnState Q (emptied from (At s))) → OnState P r
    → OnState Q (emptied from r)
then_emptied Q from (At s) so h = so s h
then_emptied Q from (FoundAt side e) so h = tt

-- ---- rounds

abbrev pub round : Reached → Reached
round r = emptied B (emptied A r)

unfoldable pub rounds : ℕ → Reached → Reached
rounds zero r = r
rounds (suc n) r = rounds n (round r)

pub rounds-sum : (m n : ℕ) (r : Reached) → rounds (m + n) r ≡ rounds n (rounds m r)
unfolding rounds
rounds-sum zero n r = let same : 0 + n ≡ n = omega arith in ap (λ (k : ℕ). rounds k r) same
rounds-sum (suc m) n r =
    let same : suc m + n ≡ suc (m + n) = omega arith in ap (λ (k : ℕ). rounds k r) same
    ∙ rounds-sum m n (round r)

-- where both wires are empty, nothing is delivered
pub idle_stays : (r : Reached) → is_busy r ≡ false → (emptied A r ≡ r) × (emptied B r ≡ r)
idle_stays r idle =
    let both = or_parts (of_end A first_has_chars r) (of_end B first_has_chars r) idle in (
      ap (λ (b : Bool). if b then goes r (all_chars A r) else r) both.0,
      ap (λ (b : Bool). if b then goes r (all_chars B r) else r) both.1,
    )

pub idle_round : (r : Reached) → is_busy r ≡ false → round r ≡ r
idle_round r idle = let stays = idle_stays r idle in ap (emptied B) stays.0 ∙ stays.1

pub idle_rounds : (n : ℕ) (r : Reached) → is_busy r ≡ false → rounds n r ≡ r
unfolding rounds
idle_rounds zero r idle = refl
idle_rounds (suc n) r idle = ap (rounds n) (idle_round r idle) ∙ idle_rounds n r idle

-- rounds that come to their end, and as many or more, come to the same
ends_alike : (m n : ℕ) (r : Reached) → m ≤ n → is_busy (rounds m r) ≡ false
    → rounds n r ≡ rounds m r
ends_alike m n r less idle =
    let count : m + (n - m) ≡ n = omega arith in
    ap (λ (k : ℕ). rounds k r) (sym count)
    ∙ rounds-sum m (n - m) r
    ∙ idle_rounds (n - m) (rounds m r) idle

ends_same : (m n : ℕ) (r : Reached) → is_busy (rounds m r) ≡ false → is_busy (rounds n r) ≡ false
    → rounds m r ≡ rounds n r
ends_same m n r first second =
    elim (cases_lt m n) [
      | inl less ↦ sym (ends_alike m n r (omega arith) first)
      | inr more ↦
          ends_alike n m r more second
    ]

-- a part of a round, and a whole one
pub first_goes : (r : Reached) (first : List Act) → Empties A r first → goes r first ≡ emptied A r
first_goes r first does = where_goes r (of_end A first_has_chars r) first (all_chars A r) does

pub round_goes : (r : Reached) (first : List Act) → NextOf goes (Empties A) (Empties B) r first
    → goes r first ≡ round r
round_goes r first (front, behind, split, does, then_does) =
    let next = goes r front in
    ap (goes r) split
    ∙ goes-append front behind r
    ∙ where_goes next (of_end B first_has_chars next) behind (all_chars B next) then_does
    ∙ ap (emptied B) (first_goes r front does)

-- what a drain comes to: rounds, until both wires are empty
pub drain_rounds : {r : Reached} {all : List Act} → Drains r all
    → (n : ℕ) × (goes r all ≡ rounds n r) × (is_busy (goes r all) ≡ false)
unfolding rounds
drain_rounds {r} {all} (LoopRests idle none) =
    let here = ap (goes r) none ∙ goes_none r in
    (0, here, ap is_busy here ∙ idle)
drain_rounds {r} {all} (LoopGoesOn first rest busy part split stays more) =
    let later = drain_rounds more in
    let whole : goes r all ≡ goes (goes r first) rest =
    ap (goes r) split ∙ goes-append first rest r in (
      suc later.0,
      whole
          ∙ later.1
          ∙ ap (rounds later.0) (round_goes r first part),
      ap is_busy whole
          ∙ later.2,
    )
drain_rounds (LoopLeaves first rest busy part split stays last) = absurd cc

-- ---- five deliveries empty both wires, whatever stood on them

abbrev pub AreEmpty : LinkState → Type 0
AreEmpty s = (s.wire_a.chars ≡ []) × (s.wire_b.chars ≡ [])

abbrev pub Rested : LinkState → Type 0
Rested s = IsSoundLink s × AreEmpty s

pub empty_has : (chars : List Char) → chars ≡ [] → not (has_none chars) ≡ false
empty_has chars none = ap (λ (cs : List Char). not (has_none cs)) none

pub empty_is_idle : (s : LinkState) → AreEmpty s → is_busy (At s) ≡ false
empty_is_idle s none =
    ap (λ (b : Bool). b || not (has_none s.wire_b.chars)) (empty_has s.wire_a.chars none.0)
    ∙ empty_has s.wire_b.chars none.1

pub answers_are : (p : PortState) (chars : List Char) → IsNarrow p
    → AreAnswers (port_answers p chars)
unfolding port_answers
answers_are p chars narrow = replies_answer p (said p.place chars) narrow

-- what a port answers has no answer where no symbol is in progress
pub answers_are_silent : (p q : PortState) (chars : List Char) → IsNarrow p
    → q.place.pending ≡ Nothing → port_answers q (chars_of (port_answers p chars)) ≡ []
answers_are_silent p q chars narrow none =
    (unbroken_leaves q q.place.text (port_answers p chars)
    (ap (λ (k : Pending). place q.place.text k) none) (answers_are p chars narrow)).0.silent

-- after the answers to what came: answers alone, on their way to the second port
record SecondSent (s : LinkState) : Type 0 where
  sound : IsSoundLink s
  second : List Fields
  are : AreAnswers second
  wire_a : s.wire_a.chars ≡ chars_of second
  wire_b : s.wire_b.chars ≡ []

-- after the answers to those
record ThirdSent (s : LinkState) : Type 0 where
  sound : IsSoundLink s
  before : PortState
  second : List Fields
  are : AreAnswers second
  b : s.b ≡ port_fed before (chars_of second)
  wire_a : s.wire_a.chars ≡ []
  wire_b : s.wire_b.chars ≡ chars_of (port_answers before (chars_of second))

-- after the answers to those
record FourthSent (s : LinkState) : Type 0 where
  sound : IsSoundLink s
  before : PortState
  first : PortState
  second : List Fields
  fourth : List Fields
  are : AreAnswers second
  are_too : AreAnswers fourth
  is : fourth ≡ port_answers first (chars_of (port_answers before (chars_of second)))
  b : s.b ≡ port_fed before (chars_of second)
  wire_a : s.wire_a.chars ≡ chars_of fourth
  wire_b : s.wire_b.chars ≡ []

to_second : (s m : LinkState) → IsSoundLink s → s.wire_a.chars ≡ [] → Takes s m → SecondSent m
to_second s m l none t = record {
  sound = t.sound;
  second = port_answers s.a s.wire_b.chars;
  are = answers_are s.a s.wire_b.chars (port_narrow s.a l.port_a);
  wire_a =
      t.wire_a ∙ ap (λ (cs : List Char). cs ++ chars_of (port_answers s.a s.wire_b.chars)) none;
  wire_b = t.wire_b;
}

to_third : (s m : LinkState) → SecondSent s → Takes (turned_round s) (turned_round m) → ThirdSent m
to_third s m h t = record {
  sound = round_keeps (turned_round m) t.sound;
  before = s.b;
  second = h.second;
  are = h.are;
  b = t.a ∙ ap (port_fed s.b) h.wire_a;
  wire_a = t.wire_b;
  wire_b =
      t.wire_a
      ∙ ap (λ (cs : List Char). cs ++ chars_of (port_answers s.b s.wire_a.chars)) h.wire_b
      ∙ ap (λ (cs : List Char). chars_of (port_answers s.b cs)) h.wire_a;
}

to_fourth : (s m : LinkState) → ThirdSent s → Takes s m → FourthSent m
to_fourth s m h t = record {
  sound = t.sound;
  before = h.before;
  first = s.a;
  second = h.second;
  fourth = port_answers s.a (chars_of (port_answers h.before (chars_of h.second)));
  are = h.are;
  are_too =
      answers_are s.a (chars_of (port_answers h.before (chars_of h.second)))
      (port_narrow s.a h.sound.port_a);
  is = refl;
  b = t.b ∙ h.b;
  wire_a =
      t.wire_a
      ∙ ap (λ (cs : List Char). cs ++ chars_of (port_answers s.a s.wire_b.chars)) h.wire_a
      ∙ ap (λ (cs : List Char). chars_of (port_answers s.a cs)) h.wire_b;
  wire_b = t.wire_b;
}

to_fifth : (s m : LinkState) → FourthSent s → Takes (turned_round s) (turned_round m) → Rested m
unfolding chars_of
to_fifth s m h t =
    let silent : port_answers s.b s.wire_a.chars ≡ [] =
    ap (port_answers s.b) h.wire_a
    ∙ ap (λ (q : PortState). port_answers q (chars_of h.fourth)) h.b
    ∙ third_is_silent h.before h.first h.second h.fourth h.are h.are_too h.is in (
      round_keeps (turned_round m) t.sound,
      (
        t.wire_b,
        t.wire_a
            ∙ ap (λ (r : List Fields). s.wire_b.chars ++ chars_of r) silent
            ∙ ap (λ (cs : List Char). cs ++ []) h.wire_b,
      ),
    )

pub five : (s : LinkState) → IsSoundLink s
    → OnState Rested (emptied A (emptied B (emptied A (emptied B (emptied A (At s))))))
five s l =
    then_emptied Rested A (emptied B (emptied A (emptied B (emptied A (At s))))) (λ (n : LinkState)
    (h : FourthSent n). on_state (emptied A (At n)) (λ m t. to_fifth n m h t)
    (emptied_takes A n h.sound))
    (then_emptied FourthSent B (emptied A (emptied B (emptied A (At s)))) (λ (n : LinkState)
    (h : ThirdSent n). on_state (emptied B (At n)) (λ m t. to_fourth n m h t)
    (emptied_takes B n h.sound))
    (then_emptied ThirdSent A (emptied B (emptied A (At s))) (λ (n : LinkState) (h : SecondSent n).
    on_state (emptied A (At n)) (λ m t. to_third n m h t) (emptied_takes A n h.sound))
    (then_emptied SecondSent B (emptied A (At s)) (λ (n : LinkState)
    (h : IsSoundLink n × (n.wire_a.chars ≡ [])). on_state (emptied B (At n))
    (λ m t. to_second n m h.0 h.1 t) (emptied_takes B n h.0))
    (on_state (emptied A (At s)) (λ m t. (round_keeps (turned_round m) t.sound, t.wire_b))
    (emptied_takes A s l)))))

pub rested_is_idle : (r : Reached) → OnState Rested r → is_busy r ≡ false
rested_is_idle (At s) h = empty_is_idle s h.1
rested_is_idle (FoundAt side e) h = refl

pub three_rounds : (s : LinkState) → IsSoundLink s → OnState Rested (rounds 3 (At s))
unfolding rounds
three_rounds s l =
    let fifth = emptied A (emptied B (emptied A (emptied B (emptied A (At s))))) in
    let h = five s l in
    let stays = idle_stays fifth (rested_is_idle fifth h) in
    subst (λ (r : Reached). OnState Rested r) (sym stays.1) h

-- A drain of a sound link is three rounds, whatever stood on the wires.
pub drain_is : (s : LinkState) (all : List Act) → IsSoundLink s → Drains (At s) all
    → goes (At s) all ≡ rounds 3 (At s)
drain_is s all l drains =
    let does = drain_rounds drains in
    let three = rested_is_idle (rounds 3 (At s)) (three_rounds s l) in
    does.1 ∙ ends_same does.0 3 (At s) (ap is_busy (sym does.1) ∙ does.2) three

-- Then the link is sound, and both wires are empty.
pub drain_rests : (s : LinkState) (all : List Act) → IsSoundLink s → Drains (At s) all
    → OnState (λ m. IsSoundLink m × AreEmpty m) (goes (At s) all)
drain_rests s all l drains =
    subst (λ (r : Reached). OnState Rested r) (sym (drain_is s all l drains)) (three_rounds s l)

pub drain_empties : (s : LinkState) (all : List Act) → IsSoundLink s → Drains (At s) all
    → OnState (λ m. IsSoundLink m × (m.wire_a.chars ≡ []) × (m.wire_b.chars ≡ [])) (goes (At s) all)
drain_empties s all l drains =
    on_state {Q = λ m. IsSoundLink m × (m.wire_a.chars ≡ []) × (m.wire_b.chars ≡ [])}
    (goes (At s) all)
    (λ (m : LinkState) (h : Rested m). (h.0, h.1.0, h.1.1)) (drain_rests s all l drains)
