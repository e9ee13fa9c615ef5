-- What has been noted where all words of a form were taken: the least reason that hits one of them,
-- if any does.
use Rattle.std.proofs.Common.{◌≡◌, ◌≢◌, ℕ, ◌+◌, ◌<◌, ◌≤◌, nat_le, Bool, true, false, List, [], ◌∷◌, ◌++◌, map, length, Option, Some, None, ◌⊎◌, inl, inr, refl, sym, ap, ap₂, ◌∙◌, subst, cond, arith}
use Rattle.std.proofs.lemmas.Bool.Decides.{nat_tests}
use Rattle.fabric_script.specs.declared.reasons.Reason.{Reason}
use Rattle.fabric_script.specs.declared.reasons.Reason.TheVariants.{UnknownLine, BadNumber, BadName, NameTaken, UnknownNode, PortOutside, PortTaken, IdTaken, BadHex, BadLength, WrongKind, OutOfPlace, NotLinked, TooMuchWork}
use Rattle.fabric_script.specs.Forms.{Field}
use Rattle.fabric_script.specs.Texts.{Value, value_text}
use Rattle.fabric_script.specs.Known.{Known, IsOrderly}
use Rattle.fabric_script.specs.Reasons.{reason_number}
use Rattle.fabric_script.specs.Hits.{HitsOne, FitAll}
use Rattle.fabric_script.specs.Words.{Left, with_reason, TakesWord, TakesFirst, TakesAll, NoMore, More}
use Rattle.fabric_script.proofs.Exclusion.{same_reason, no_hit}

-- the number of the reason that was noted, and 15 where none was
abbrev pub rank : Option Reason → ℕ
rank None = 15
rank (Some reason) = reason_number reason

pub number_in_range : (reason : Reason) → (1 ≤ reason_number reason) × (reason_number reason ≤ 14)
number_in_range UnknownLine = (omega arith, omega arith)
number_in_range BadNumber = (omega arith, omega arith)
number_in_range BadName = (omega arith, omega arith)
number_in_range NameTaken = (omega arith, omega arith)
number_in_range UnknownNode = (omega arith, omega arith)
number_in_range PortOutside = (omega arith, omega arith)
number_in_range PortTaken = (omega arith, omega arith)
number_in_range IdTaken = (omega arith, omega arith)
number_in_range BadHex = (omega arith, omega arith)
number_in_range BadLength = (omega arith, omega arith)
number_in_range WrongKind = (omega arith, omega arith)
number_in_range OutOfPlace = (omega arith, omega arith)
number_in_range NotLinked = (omega arith, omega arith)
number_in_range TooMuchWork = (omega arith, omega arith)

-- the reason with a number
reason_of : ℕ → Reason
reason_of n =
    from_list n (UnknownLine ∷ BadNumber ∷ BadName ∷ NameTaken ∷ UnknownNode ∷ PortOutside
    ∷ PortTaken ∷ IdTaken ∷ BadHex ∷ BadLength ∷ WrongKind ∷ OutOfPlace ∷ NotLinked ∷ TooMuchWork
    ∷ [])
  where
    from_list : ℕ → List Reason → Reason
    from_list n [] = UnknownLine
    from_list n (reason ∷ reasons) = cond (nat_le n (reason_number reason)) reason
        (from_list n reasons)

reason_of-number : (reason : Reason) → reason_of (reason_number reason) ≡ reason
unfolding reason_of
reason_of-number UnknownLine = refl
reason_of-number BadNumber = refl
reason_of-number BadName = refl
reason_of-number NameTaken = refl
reason_of-number UnknownNode = refl
reason_of-number PortOutside = refl
reason_of-number PortTaken = refl
reason_of-number IdTaken = refl
reason_of-number BadHex = refl
reason_of-number BadLength = refl
reason_of-number WrongKind = refl
reason_of-number OutOfPlace = refl
reason_of-number NotLinked = refl
reason_of-number TooMuchWork = refl

pub same_number : (r q : Reason) → reason_number r ≡ reason_number q → r ≡ q
same_number r q e = sym (reason_of-number r) ∙ ap reason_of e ∙ reason_of-number q

-- the lesser of two is noted
noted_lesser : (hit : Option Reason) (reason : Reason) → (rank (with_reason hit reason) ≤ rank hit)
    × (rank (with_reason hit reason) ≤ reason_number reason)
    × ((with_reason hit reason ≡ hit) ⊎ (with_reason hit reason ≡ Some reason))
noted_lesser None reason =
    let range = number_in_range reason
    in
    (omega arith, omega arith, inr refl)
noted_lesser (Some before) reason =
    by_test before reason (nat_le (reason_number before) (reason_number reason)) refl
  where
    by_test : (before reason : Reason) (b : Bool)
        → nat_le (reason_number before) (reason_number reason) ≡ b
        → (rank (cond b (Some before) (Some reason)) ≤ rank (Some before))
        × (rank (cond b (Some before) (Some reason)) ≤ reason_number reason)
        × ((cond b (Some before) (Some reason) ≡ Some before)
        ⊎ (cond b (Some before) (Some reason) ≡ Some reason))
    by_test before reason true e = (omega arith, grind (arith, nat_tests), inl refl)
    by_test before reason false e = (grind (arith, nat_tests), omega arith, inr refl)

rank_one : (hit : Option Reason) → rank hit ≤ 1 → hit ≡ Some UnknownLine
rank_one None low = absurd (omega arith)
rank_one (Some reason) low =
    let range = number_in_range reason
    in
    ap (λ r. Some r) (same_number reason UnknownLine (omega arith))

not_noted : (hit : Option Reason) (reason : Reason) → with_reason hit reason ≢ None
not_noted None reason e = cc
not_noted (Some before) reason e =
    by_test before reason (nat_le (reason_number before) (reason_number reason)) e
  where
    by_test : (before reason : Reason) (b : Bool) → cond b (Some before) (Some reason) ≢ None
    by_test before reason true e = cc
    by_test before reason false e = cc

-- what was noted and what is left, where there were enough words and where there were not
pub record Outcome (known : Known) (fields : List Field) (values : List Value)
    (words : List (List ℕ)) (hit : Option Reason) (rest : List (List ℕ))
    (hit_after : Option Reason) : Type 0 where
  pub falls : rank hit_after ≤ rank hit
  pub few : length words < length fields → hit_after ≡ Some UnknownLine
  pub left : length fields ≤ length words → length words ≡ length fields + length rest
  pub least : (reason : Reason) → HitsOne known reason fields words → rank hit_after
      ≤ reason_number reason
  pub from : length fields ≤ length words → (hit_after ≡ hit)
      ⊎ ((reason : Reason) × HitsOne known reason fields words × (hit_after ≡ Some reason))
  pub fits : hit_after ≡ None → (hit ≡ None) × FitAll known fields values
      × (words ≡ map (value_text known.names) values ++ rest)

step : (known : Known) (field : Field) (fields : List Field) (value : Value) (values : List Value)
    (words : List (List ℕ)) (hit : Option Reason) (words_next : List (List ℕ))
    (hit_next : Option Reason) (rest : List (List ℕ)) (hit_after : Option Reason)
    → IsOrderly known → TakesFirst known field value words hit words_next hit_next
    → Outcome known fields values words_next hit_next rest hit_after
    → Outcome known (field ∷ fields) (value ∷ values) words hit rest hit_after
step known field fields value values [] hit words_next hit_next rest hit_after orderly first o =
    let unknown : rank hit_next ≡ 1 = ap rank first.1 in
    let one : rank hit_after ≤ 1 = omega (arith, o.falls) in
    let is = rank_one hit_after one in
    record {
      falls = omega (arith, rank_positive hit);
      few = λ short. is;
      left = λ enough. absurd (omega arith);
      least = λ reason h. absurd h;
      from = λ enough. absurd (omega arith);
      fits = λ none. absurd (let e = sym is ∙ none in cc);
    }
  where
    rank_positive : (hit : Option Reason) → 1 ≤ rank hit
    rank_positive None = omega arith
    rank_positive (Some reason) = (number_in_range reason).0
step known field fields value values (word ∷ words) hit words_next hit_next rest hit_after orderly
    first o =
    by_word words_next first.0 o first.1
  where
    by_word : (next : List (List ℕ)) → next ≡ words → Outcome known fields values next hit_next rest
        hit_after → TakesWord known field value word hit hit_next
        → Outcome known (field ∷ fields) (value ∷ values) (word ∷ words) hit rest hit_after
    by_word next same o takes =
        let p : Outcome known fields values words hit_next rest hit_after =
        subst (λ w. Outcome known fields values w hit_next rest hit_after) same o in
        elim takes [
          | inl said ↦ record {
            falls = omega (arith, p.falls, ap rank said.2);
            few = λ short. p.few (omega arith);
            left = λ enough. let n = p.left (omega arith) in omega arith;
            least = λ reason h. elim h [
              | inl here ↦ absurd
                  (no_hit known field value word reason orderly said.0 said.1 here)
              | inr there ↦
                  p.least reason there
            ];
            from = λ enough. elim (p.from (omega arith))
                [ inl same ↦ inl (same ∙ said.2) | inr hits ↦ inr (hits.0, inr hits.1, hits.2) ];
            fits = λ none.
                let f = p.fits none in
                (sym said.2 ∙ f.0, (said.0, f.1), ap₂ ◌∷◌ said.1 f.2);
          }
          | inr bad ↦
              let lesser = noted_lesser hit bad.0 in
              let noted : rank hit_next ≡ rank (with_reason hit bad.0) = ap rank bad.2 in
              record {
                falls = omega (arith, p.falls, noted, lesser.0);
                few = λ short. p.few (omega arith);
                left = λ enough. let n = p.left (omega arith) in omega arith;
                least = λ reason h. elim h [
                  | inl here ↦
                      let same = same_reason known field word reason bad.0 orderly here bad.1 in
                      omega (arith, p.falls, noted, lesser.1, ap reason_number same)
                  | inr there ↦ p.least reason there
                ];
                from = λ enough. elim (p.from (omega arith)) [
                  | inl same ↦ elim lesser.2 [
                    | inl kept ↦ inl (same ∙ bad.2 ∙ kept)
                    | inr new ↦ inr
                        (bad.0, inl bad.1, same ∙ bad.2 ∙ new)
                  ]
                  | inr hits ↦ inr (hits.0, inr hits.1, hits.2)
                ];
                fits = λ none. absurd (not_noted hit bad.0 (sym bad.2 ∙ (p.fits none).0));
              }
        ]

pub outcome : (known : Known) (fields : List Field) (values : List Value) (left left_after : Left)
    → IsOrderly known → TakesAll known fields values left left_after
    → Outcome known fields values left.words left.hit left_after.words left_after.hit
outcome known [] [] left left_after orderly NoMore = record {
  falls = omega arith;
  few = λ short. absurd (omega arith);
  left = λ enough. omega arith;
  least = λ reason h. absurd h;
  from = λ enough. inl refl;
  fits = λ none. (none, tt, refl);
}
outcome known (field ∷ fields) (value ∷ values) left left_after orderly
    (More {next = next} takes more) =
    step known field fields value values left.words left.hit next.words next.hit left_after.words
    left_after.hit orderly takes.first
    (outcome known fields values next left_after orderly more)
outcome known [] (value ∷ values) left left_after orderly takes = elim takes [ ]
outcome known (field ∷ fields) [] left left_after orderly takes = elim takes [ ]
