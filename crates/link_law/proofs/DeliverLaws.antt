-- A delivery as a part of the schedule.
use Rattle.link_law.proofs.Prelude.{◌≡◌, ℕ, Bool, true, false, not, MatchBool, List, [], ◌∷◌, length, Ok, Err, refl, sym, ap, ◌∙◌, subst, if◌then◌else◌, append-nil, arith, le-leb, Char, IsWatch, Event, PortState, other_side, Stopped, Note, Side, A, B, has_none, has_chars, delivery_from, delivered_from, delivery_notes, Wires, LinkState, link, from_end, Delivered, Through, WentUndetected, Edited, delivery_taken, delivery_answer, UnlessGivenUp, OnGivenUp, LinkEnd, Undetected, Failed, NoMemory, Act, Deliver, Reached, At, FoundAt, reached_by, after_act, act_notes, acts_notes, Is, SchedulePart, Empties, first_has_chars, of_end, all_chars, Comes, Stops, Ends}
use Rattle.link_wires.specs.declared.edits.Edited.TheVariants.{Short}
use Rattle.link_machine.specs.States.{wire_at}
use Rattle.link_machine.proofs.Settling.Lines.{goes_one}
use Rattle.link_law.proofs.DoesLaws.{comes_where, ends_where, comes_none, stops_at_once}

one_note : (s : LinkState) (act : Act) → acts_notes (At s) (act ∷ []) ≡ act_notes act s
unfolding acts_notes
one_note s act = append-nil (act_notes act s)

-- the part that is one act
abbrev pub Only : Act → SchedulePart
Only act = Is (λ reached. act ∷ [])

pub one_comes : {W : Type 0} {grew : W → List Note → W → Type 0}
    → (act : Act) (before : LinkState) (old new : W) (to : Reached) → after_act act before ≡ to
    → grew old (act_notes act before) new
    → Comes grew (Only act) before old to new
one_comes {W} {grew} act before old new to is grown = record {
  acts = act ∷ [];
  part = refl;
  reached = goes_one before act ∙ is;
  grown = subst (λ (l : List Note). grew old l new) (sym (one_note before act)) grown;
}

pub one_stops : {W : Type 0} {grew : W → List Note → W → Type 0} {cut : W → Note → W → Type 0}
    → (act : Act) (before : LinkState) (old new : W)
    → Stopped grew cut old (act_notes act before) new
    → Stops grew cut (Only act) before old new
one_stops {W} {grew} {cut} act before old new stopped = record {
  acts = act ∷ [];
  part = refl;
  stopped =
      subst (λ (l : List Note). Stopped grew cut old l new) (sym (one_note before act)) stopped;
}

-- by what became of the delivery
pub through_is : (to : Side) (next : LinkState) (d : Delivered) (x : Edited)
    → Ok x ≡ delivery_taken to d
    → reached_by to next d ≡ At next
through_is to next (Through flow) x is = refl
through_is to next (WentUndetected told e) x is = absurd cc

pub found_is : (to side : Side) (next : LinkState) (d : Delivered) (e : Event)
    → Err (Undetected side e) ≡ delivery_taken to d → reached_by to next d ≡ FoundAt side e
found_is to side next (Through flow) e is = absurd cc
found_is to side next (WentUndetected told x) e is =
    let same : side ≡ to = cc in let event : e ≡ x = cc in λ i. FoundAt (sym same i) (sym event i)

-- a delivery of characters that are there
full : (from : Side) (count : ℕ) (s : LinkState) → count ≡ length (from_end from s).wire_a.chars
    → has_chars from count s ≡ true
full from count s is = le-leb count (length (from_end from s).wire_a.chars) (omega arith)

-- a delivery that was done
pub delivery_comes : {W : Type 0} (grew : W → List Note → W → Type 0) (from : Side) (count : ℕ)
    (before next : LinkState) (old new : W) (x : Edited)
    → count ≡ length (from_end from before).wire_a.chars → Ok x ≡ delivery_answer from count before
    → next ≡ delivered_from from count before → grew old (delivery_notes from count before) new
    → Comes grew (Only (Deliver from count)) before old (At next) new
delivery_comes grew from count before next old new x all answer there noted =
    let has = full from count before all in
    let d = delivery_from from count before in
    let is : Ok x ≡ delivery_taken (other_side from) d =
    answer ∙ ap (λ (b : Bool). if b then delivery_taken (other_side from) d else Ok Short) has in
    one_comes (Deliver from count) before old new (At next)
    (ap (λ (b : Bool). if b then reached_by (other_side from) (delivered_from from count before) d
    else At before) has
    ∙ through_is (other_side from) (delivered_from from count before) d x is ∙ ap At (sym there))
    noted

-- one that ended
pub delivery_ends : {W : Type 0} (grew : W → List Note → W → Type 0) (cut : W → Note → W → Type 0)
    (from : Side) (count : ℕ) (before : LinkState) (old new : W) (end : LinkEnd)
    → count ≡ length (from_end from before).wire_a.chars
    → UnlessGivenUp {T = Edited} (Err end) (Err end ≡ delivery_answer from count before)
    → UnlessGivenUp {T = Edited} (Err end) (grew old (delivery_notes from count before) new)
    → OnGivenUp {T = Edited} (Err end)
    (Stopped grew cut old (delivery_notes from count before) new)
    → Ends grew cut (Only (Deliver from count)) before old end new
delivery_ends grew cut from count before old new (Undetected side e) all answer noted stopped =
    let has = full from count before all in
    let d = delivery_from from count before in
    let is : Err (Undetected side e) ≡ delivery_taken (other_side from) d =
    answer ∙ ap (λ (b : Bool). if b then delivery_taken (other_side from) d else Ok Short) has in
    one_comes (Deliver from count) before old new (FoundAt side e)
    (ap (λ (b : Bool). if b then reached_by (other_side from) (delivered_from from count before) d
    else At before) has
    ∙ found_is (other_side from) side (delivered_from from count before) d e is)
    noted
delivery_ends grew cut from count before old new _ all answer noted stopped =
    one_stops (Deliver from count) before old new stopped

-- ---- as a part of a round

empty_length : (chars : List Char) → length chars ≡ 0 → not (has_none chars) ≡ false
empty_length [] is = refl
empty_length (c ∷ chars) is = absurd (omega arith)

some_length : (chars : List Char) → (length chars ≡ 0 → ⊥) → not (has_none chars) ≡ true
some_length [] is = absurd (is refl)
some_length (c ∷ chars) is = refl

-- no character stands there
pub empties_none : {W : Type 0} (grew : W → List Note → W → Type 0) (cut : W → Note → W → Type 0)
    → IsWatch grew cut → (from : Side) (before : LinkState) (old : W)
    → length (from_end from before).wire_a.chars ≡ 0
    → Comes grew (Empties from) before old (At before) old
empties_none grew cut watch from before old is =
    comes_none grew cut watch (of_end from first_has_chars) (Is (all_chars from)) before old
    (empty_length (from_end from before).wire_a.chars is)

-- there are more than a delivery may have
pub empties_stop : {W : Type 0} (grew : W → List Note → W → Type 0) (cut : W → Note → W → Type 0)
    → IsWatch grew cut → (from : Side) (before : LinkState) (old : W)
    → (length (from_end from before).wire_a.chars ≡ 0 → ⊥)
    → Stops grew cut (Empties from) before old old
empties_stop grew cut watch from before old some =
    stops_at_once grew cut watch (Empties from) before old (all_chars from (At before))
    (subst (λ (b : Bool). MatchBool b (all_chars from (At before) ≡ all_chars from (At before))
    (all_chars from (At before) ≡ [])) (sym (some_length (from_end from before).wire_a.chars some))
    refl)

some_chars : {W : Type 0} {grew : W → List Note → W → Type 0}
    → (from : Side) (count : ℕ) (before : LinkState) (old new : W) (to : Reached)
    → count ≡ length (from_end from before).wire_a.chars
    → Comes grew (Only (Deliver from count)) before old to new
    → Comes grew (Is (all_chars from)) before old to new
some_chars from count before old new to same h = record {
  acts = h.acts;
  part = h.part ∙ ap (λ (n : ℕ). Deliver from n ∷ []) same;
  reached = h.reached;
  grown = h.grown;
}

some_stop : {W : Type 0} {grew : W → List Note → W → Type 0} {cut : W → Note → W → Type 0}
    → (from : Side) (count : ℕ) (before : LinkState) (old new : W)
    → count ≡ length (from_end from before).wire_a.chars
    → Stops grew cut (Only (Deliver from count)) before old new
    → Stops grew cut (Is (all_chars from)) before old new
some_stop from count before old new same h = record {
  acts = h.acts;
  part = h.part ∙ ap (λ (n : ℕ). Deliver from n ∷ []) same;
  stopped = h.stopped;
}

some_end : {W : Type 0} (grew : W → List Note → W → Type 0) (cut : W → Note → W → Type 0)
    (from : Side) (count : ℕ) (before : LinkState) (old new : W) (end : LinkEnd)
    → count ≡ length (from_end from before).wire_a.chars
    → Ends grew cut (Only (Deliver from count)) before old end new
    → Ends grew cut (Is (all_chars from)) before old end new
some_end grew cut from count before old new (Undetected side e) same h =
    some_chars from count before old new (FoundAt side e) same h
some_end grew cut from count before old new Failed same h =
    some_stop from count before old new same h
some_end grew cut from count before old new NoMemory same h =
    some_stop from count before old new same h

pub empties_come : {W : Type 0} (grew : W → List Note → W → Type 0) (from : Side) (count : ℕ)
    (before next : LinkState) (old new : W)
    → count ≡ length (from_end from before).wire_a.chars
    → (length (from_end from before).wire_a.chars ≡ 0 → ⊥)
    → Comes grew (Only (Deliver from count)) before old (At next) new
    → Comes grew (Empties from) before old (At next) new
empties_come grew from count before next old new same some h =
    comes_where (of_end from first_has_chars) (Is (all_chars from)) before old new (At next)
    (some_length (from_end from before).wire_a.chars some)
    (some_chars from count before old new (At next) same h)

pub empties_end : {W : Type 0} (grew : W → List Note → W → Type 0) (cut : W → Note → W → Type 0)
    (from : Side) (count : ℕ) (before : LinkState) (old new : W) (end : LinkEnd)
    → count ≡ length (from_end from before).wire_a.chars
    → (length (from_end from before).wire_a.chars ≡ 0 → ⊥)
    → Ends grew cut (Only (Deliver from count)) before old end new
    → Ends grew cut (Empties from) before old end new
empties_end grew cut from count before old new end same some h =
    ends_where grew cut (of_end from first_has_chars) (Is (all_chars from)) before old new end
    (some_length (from_end from before).wire_a.chars some)
    (some_end grew cut from count before old new end same h)

-- the characters of a wire, by the call that counts them
pub wire_is : (from : Side) (wires : Wires) (a b : PortState)
    → length (from_end from (link wires a b)).wire_a.chars ≡ length (wire_at from wires).chars
wire_is A wires a b = refl
wire_is B wires a b = refl
