-- Lists of which a front was taken or a part moved, and lists that follow each other.
use Rattle.std.proofs.Common.{◌≡◌, ℕ, ◌+◌, ◌-◌, ◌++◌, ◌≤◌, List, [], ◌∷◌, length, take, drop, slice_set, replicate, min, zero, suc, refl, ap, sym, ◌∙◌, arith, length-take, length-drop, length-append, take-append-drop}
use Rattle.std.proofs.lemmas.List.{append-nil, drop-take, drop_all, take_all, drop-drop, drop-append-le, drop_at, length-take-le, length_push, set_at, take-append-le, take_at, take-take, length-replicate, append_assoc, take_min}
use Rattle.std.proofs.Math.Seq.{take-append-add, drop-append-add}

-- what is taken of two lists that follow each other, where the first one is taken whole
pub take_past : {X : Type 0} → (xs ys : List X) (cut place : ℕ) → length xs ≡ cut → cut ≤ place
    → take place (xs ++ ys) ≡ xs ++ take (place - cut) ys
take_past xs ys cut place size past =
    let all : place ≡ length xs + (place - cut) = omega (arith, size, past) in
    ap (λ n. take n (xs ++ ys)) all ∙ take-append-add xs ys (place - cut)

-- what is taken of two lists that follow each other, part by part
take_joined : {X : Type 0} → (n : ℕ) (xs ys : List X)
    → take n (xs ++ ys) ≡ take n xs ++ take (n - length xs) ys
take_joined zero xs ys =
    let none : 0 ≡ 0 - length xs = omega arith in
    ap (λ n. take n ys) none
take_joined (suc n) [] ys =
    let all : suc n ≡ suc n - 0 = omega arith in
    ap (λ n. take n ys) all
take_joined (suc n) (x ∷ xs) ys =
    let less : n - length xs ≡ suc n - suc (length xs) = omega arith in
    ap (λ l. x ∷ l) (take_joined n xs ys ∙ ap (λ m. take n xs ++ take m ys) less)

-- the same, where it is counted what is taken of the first one
pub take_both : {X : Type 0} → (xs ys : List X) (count before : ℕ) → before ≡ min count (length xs)
    → take before xs ++ take (count - before) ys ≡ take count (xs ++ ys)
take_both xs ys count before is =
    let rest : count - before ≡ count - length xs = omega (arith, is) in
    ap (λ n. take n xs ++ take (count - before) ys) is
    ∙ ap (λ l. l ++ take (count - before) ys) (take_min count xs)
    ∙ ap (λ n. take count xs ++ take n ys) rest
    ∙ sym (take_joined count xs ys)

-- what is left of two lists that follow each other, where the first one is taken whole
pub drop_past : {X : Type 0} → (xs ys : List X) (cut place : ℕ) → length xs ≡ cut → cut ≤ place
    → drop place (xs ++ ys) ≡ drop (place - cut) ys
drop_past xs ys cut place size past =
    let all : place ≡ length xs + (place - cut) = omega (arith, size, past) in
    ap (λ n. drop n (xs ++ ys)) all ∙ drop-append-add xs ys (place - cut)

-- of two lists that follow each other, a part of the second one becomes another
pub changed_past : {X : Type 0} → (xs ys part : List X) (cut place end : ℕ) → length xs ≡ cut
    → cut ≤ place → cut ≤ end
    → xs ++ (take (place - cut) ys ++ (part ++ drop (end - cut) ys))
    ≡ take place (xs ++ ys) ++ (part ++ drop end (xs ++ ys))
changed_past xs ys part cut place end size past_place past_end =
    sym (append_assoc xs (take (place - cut) ys) (part ++ drop (end - cut) ys))
    ∙ ap (λ l. l ++ (part ++ drop (end - cut) ys))
    (sym (take_past xs ys cut place size past_place))
    ∙ ap (λ l. take place (xs ++ ys) ++ (part ++ l))
    (sym (drop_past xs ys cut end size past_end))

-- a list behind the room that was made at its front: a longer one, which moved up by as much
pub behind_room : {X : Type 0} → (xs longer moved : List X) (fill : X) (head len size : ℕ)
    → length xs ≡ len → len ≤ size
    → longer ≡ take size xs ++ replicate (size - len) fill
    → drop (size - len) moved ≡ take (length longer - (size - len)) longer
    → drop (head + (size - len)) moved ≡ drop head xs
behind_room xs longer moved fill head len size all more is was =
    let room = replicate (size - len) fill in
    let whole : longer ≡ xs ++ room =
    is ∙ ap (λ l. l ++ room) (take_all size xs (omega (arith, all, more))) in
    let rest : length longer - (size - len) ≡ len =
    omega (
      arith,
      all,
      ap length whole,
      length-append xs room,
      length-replicate (size - len) fill,
    ) in
    let there : drop (size - len) moved ≡ xs =
    was ∙ ap (λ n. take n longer) rest ∙ ap (take len) whole ∙ take_at xs room len all in
    let order : head + (size - len) ≡ size - len + head = omega arith in
    ap (λ n. drop n moved) order
    ∙ sym (drop-drop head (size - len) moved)
    ∙ ap (drop head) there

-- a list that begins as another one, behind what was taken of that
pub behind_head : {X : Type 0} → (xs ys : List X) (head place : ℕ) → head ≤ length xs
    → drop head (take (head + place) xs ++ ys) ≡ take place (drop head xs) ++ ys
behind_head xs ys head place within =
    let long : head ≤ length (take (head + place) xs) =
    omega (arith, length-take (head + place) xs) in
    drop-append-le head (take (head + place) xs) ys long
    ∙ ap (λ l. l ++ ys) (drop-take head place xs)

-- a list after a write between two places
pub put_between : {X : Type 0} → (xs ys : List X) (start end : ℕ) → start ≤ end
    → take start xs ++ (ys ++ drop (end - start) (drop start xs))
    ≡ take start xs ++ (ys ++ drop end xs)
put_between xs ys start end order =
    let all : start + (end - start) ≡ end = omega (arith, order) in
    ap (λ l. take start xs ++ (ys ++ l))
    (drop-drop (end - start) start xs ∙ ap (λ n. drop n xs) all)

-- what stands between two places, and all behind it
part_then_rest : {X : Type 0} → (xs : List X) (start end : ℕ) → start ≤ end → end ≤ length xs
    → drop start (take end xs) ++ drop end xs ≡ drop start xs
part_then_rest xs start end order within =
    let long : start ≤ length (take end xs) =
    omega (arith, order, length-take-le end xs within) in
    sym (drop-append-le start (take end xs) (drop end xs) long)
    ∙ ap (drop start) (take-append-drop end xs)

-- a list of which all behind a place is as it is to be, and all before it as it was
pub record IsMovedFrom {X : Type 0} (by left : ℕ) (old now : List X) : Type 0 where
  pub size : length now ≡ length old
  pub within : left + by ≤ length now
  pub below : take (left + by) now ≡ take (left + by) old
  pub above : drop (left + by) now ≡ drop left (take (length old - by) old)

-- one more block moves
pub moved_more : {X : Type 0} → (old now next : List X) (by start end : ℕ) → start ≤ end
    → IsMovedFrom by end old now
    → next ≡ take (start + by) now ++ (drop start (take end now) ++ drop (end + by) now)
    → IsMovedFrom by start old next
moved_more old now next by start end order was is =
    let kept = take (start + by) now in
    let block = drop start (take end now) in
    let rest = drop (end + by) now in
    let to = length old - by in
    let inside : end ≤ length (take to old) =
    omega (arith, was.size, was.within, length-take to old) in
    let front : length kept ≡ start + by =
    length-take-le (start + by) now (omega (arith, order, was.within)) in
    let same : take end now ≡ take end (take to old) =
    sym (take-take end (end + by) now (omega arith)) ∙ ap (take end) was.below
    ∙ take-take end (end + by) old (omega arith)
    ∙ sym (take-take end to old (omega (arith, was.size, was.within))) in
    record {
      size = ap length is
          ∙ omega (
            arith,
            order,
            front,
            was.size,
            was.within,
            length-append kept (block ++ rest),
            length-append block rest,
            length-drop start (take end now),
            length-take end now,
            length-drop (end + by) now,
          );
      within = rw is omega (arith, front, length-append kept (block ++ rest));
      below = ap (take (start + by)) is ∙ take_at kept (block ++ rest) (start + by) front
          ∙ sym (take-take (start + by) (end + by) now (omega (arith, order)))
          ∙ ap (take (start + by)) was.below
          ∙ take-take (start + by) (end + by) old (omega (arith, order));
      above = ap (drop (start + by)) is ∙ drop_at kept (block ++ rest) (start + by) front
          ∙ ap (λ l. drop start l ++ rest) same
          ∙ ap (λ l. drop start (take end (take to old)) ++ l) was.above
          ∙ part_then_rest (take to old) start end order inside;
    }

-- a list after a write of a part of it, as a vector tells it
pub part_written : {X : Type 0} → (xs part : List X) (head n : ℕ) → n ≡ length xs
    → head + length part ≤ length xs
    → take n (take head xs ++ (part ++ drop (length part) (drop head xs))
    ++ drop (length (take head xs ++ (part ++ drop (length part) (drop head xs)))) xs)
    ≡ take head xs ++ (part ++ drop (head + length part) xs)
part_written xs part head n all within =
    let rest = drop (length part) (drop head xs) in
    let new = take head xs ++ (part ++ rest) in
    let size : length new ≡ length xs =
    omega (
      arith,
      within,
      length-append (take head xs) (part ++ rest),
      length-append part rest,
      length-take head xs,
      length-drop (length part) (drop head xs),
      length-drop head xs,
    ) in
    ap (λ l. take n (new ++ l)) (drop_all (length new) xs (omega (arith, size)))
    ∙ ap (take n) (append-nil new)
    ∙ take_all n new (omega (arith, size, all))
    ∙ ap (λ l. take head xs ++ (part ++ l)) (drop-drop (length part) head xs)

-- a part moved up to another place, and what it moved over is taken
pub closed_up : {X : Type 0} → (xs part : List X) (head place end : ℕ) → place ≤ end
    → head + end ≤ length xs → length part ≡ end
    → drop (end - place) part ≡ take place (drop head xs)
    → drop (head + (end - place)) (take head xs ++ (part ++ drop (head + length part) xs))
    ≡ take place (drop head xs) ++ drop end (drop head xs)
closed_up xs part head place end order within size moved =
    let front : length (take head xs) ≡ head =
    length-take-le head xs (omega (arith, within)) in
    let rest = drop (head + length part) xs in
    sym (drop-drop (end - place) head (take head xs ++ (part ++ rest)))
    ∙ ap (drop (end - place)) (drop_at (take head xs) (part ++ rest) head front)
    ∙ drop-append-le (end - place) part rest (omega (arith, size))
    ∙ ap (λ l. l ++ rest) moved
    ∙ ap (λ n. take place (drop head xs) ++ drop (head + n) xs) size
    ∙ ap (λ l. take place (drop head xs) ++ l) (sym (drop-drop end head xs))

-- a place was made for one more, and it was put there
pub put_in : {X : Type 0} → (old more part : List X) (place : ℕ) (x : X) → place ≤ length old
    → more ≡ old ++ x ∷ [] → length part ≡ length (drop place more)
    → drop 1 part ≡ take (length (drop place more) - 1) (drop place more)
    → slice_set (take place more ++ (part ++ drop (place + length part) more)) place x
    ≡ take place old ++ x ∷ drop place old
put_in old more [] place x within is size moved =
    absurd (omega (arith, within, size, length-drop place more, ap length is, length_push old x))
put_in old more (first ∷ rest) place x within is size moved =
    let long : length more ≡ length old + 1 = ap length is ∙ length_push old x in
    let front : length (take place more) ≡ place =
    length-take-le place more (omega (arith, within, long)) in
    let split : drop place more ≡ drop place old ++ x ∷ [] =
    ap (drop place) is ∙ drop-append-le place old (x ∷ []) within in
    let one_less : length (drop place more) - 1 ≡ length (drop place old) =
    omega (arith, ap length split, length_push (drop place old) x) in
    let rest_is : rest ≡ drop place old =
    moved ∙ ap (λ n. take n (drop place more)) one_less
    ∙ ap (take (length (drop place old))) split
    ∙ take_at (drop place old) (x ∷ []) (length (drop place old)) refl in
    let none : drop (place + length (first ∷ rest)) more ≡ [] =
    drop_all (place + length (first ∷ rest)) more
    (omega (arith, size, length-drop place more)) in
    ap (λ l. slice_set (take place more ++ (first ∷ rest ++ l)) place x) none
    ∙ ap (λ l. slice_set (take place more ++ l) place x) (append-nil (first ∷ rest))
    ∙ set_at (take place more) first rest x place front
    ∙ ap (λ l. l ++ x ∷ rest) (ap (take place) is ∙ take-append-le place old (x ∷ []) within)
    ∙ ap (λ l. take place old ++ x ∷ l) rest_is
