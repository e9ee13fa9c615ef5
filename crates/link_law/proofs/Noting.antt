-- What a call noted, by what a call in it answered.
use Rattle.link_law.proofs.Prelude.{◌≡◌, ◌<◌, List, [], ◌∷◌, length, Result, Ok, Err, OnOk, OnErr, IsErrAnd, refl, sym, ap, subst, arith, Char, UnlessGivenUp, OnGivenUp, end_of, LinkEnd, Failed, NoMemory}
use Rattle.link_machine.specs.Prelude.{Sent, Side, NoteEnd, sent_notes}
use Rattle.link_watch.specs.declared.watch.NoteEnd.TheVariants as Stop

pub sent_one : (side : Side) (chars : List Char) → 0 < length chars
    → sent_notes side chars ≡ Sent side chars ∷ []
sent_one side [] some = absurd (omega arith)
sent_one side (c ∷ chars) some = refl

-- ---- what holds whatever is answered

pub on_ok : {T E P : Type 0} (r : Result T E) → P → OnOk r P
on_ok (Ok x) p = p
on_ok (Err e) p = tt

pub on_err : {T E P : Type 0} (r : Result T E) → P → OnErr r P
on_err (Ok x) p = tt
on_err (Err e) p = p

pub ok_then : {T E P Q : Type 0} (r : Result T E) → (P → Q) → OnOk r P → OnOk r Q
ok_then (Ok x) so p = so p
ok_then (Err e) so p = tt

pub err_then : {T E P Q : Type 0} (r : Result T E) → (P → Q) → OnErr r P → OnErr r Q
err_then (Ok x) so p = tt
err_then (Err e) so p = so p

pub on_given_up : {T P : Type 0} (r : Result T LinkEnd) → P → OnGivenUp r P
on_given_up (Err Failed) p = p
on_given_up (Err NoMemory) p = p
on_given_up _ p = tt

-- ---- an end that is handed on

pub given_is : {T : Type 0} (r : Result T LinkEnd) (end : LinkEnd) → IsErrAnd r (λ y. y ≡ end)
    → r ≡ Err end
given_is (Ok x) end gives = absurd gives
given_is (Err y) end gives = ap (λ e. Err e) gives

-- of a note that was not taken in
pub given_up : {T : Type 0} (P : Type 0) (r : Result T LinkEnd) (end : NoteEnd)
    → IsErrAnd r (λ y. y ≡ end_of end) → UnlessGivenUp r P
given_up P (Ok x) end gives = absurd gives
given_up {T} P (Err y) Stop.Failed gives =
    subst (λ (e : LinkEnd). UnlessGivenUp {T = T} (Err e) P) (sym gives) tt
given_up {T} P (Err y) Stop.NoMemory gives =
    subst (λ (e : LinkEnd). UnlessGivenUp {T = T} (Err e) P) (sym gives) tt
