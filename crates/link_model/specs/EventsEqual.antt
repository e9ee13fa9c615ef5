-- The test of events is equality.
use Rattle.std.proofs.Common.{◌≡◌, ℕ, ◌==◌, ◌&&◌, true, cond, nat_eq, Decides, List, refl, sym, ap, ◌∙◌, subst}
use Rattle.std.specs.Cmp.{IsEquivalence}
use Rattle.std.specs.Cmp.Lexicographic.{pointwise, pointwise_decides}
use Rattle.std.proofs.lemmas.Bool.Decides.{Decides-eqb, Decides-and, Decides-like, same_from_decides}
use Rattle.rio_symbols.specs.Fields.{Fields}
use Rattle.rio_packets.specs.CauseNumbers.{number_of}
use Rattle.rio_packets.specs.declared.cause.Cause.{Cause}
use Rattle.rio_packets.specs.declared.cause.Cause.TheVariants.{UnexpectedAck, BadSymbol, BadPacket, BadChar, General}
use Rattle.link_model.specs.declared.event.Event.{Event}
use Rattle.link_model.specs.declared.event.Event.TheVariants.{Ctl, Pkt, Bad}
use Rattle.link_model.specs.Events.{same_fields, same_event}

-- the cause of a number
cause_of : ℕ → Cause
cause_of n =
    cond (n == 1) UnexpectedAck
    (cond (n == 2) BadSymbol (cond (n == 4) BadPacket (cond (n == 5) BadChar General)))

cause_of-number : (c : Cause) → cause_of (number_of c) ≡ c
unfolding cause_of
cause_of-number UnexpectedAck = refl
cause_of-number BadSymbol = refl
cause_of-number BadPacket = refl
cause_of-number BadChar = refl
cause_of-number General = refl

pub same_cause : (c d : Cause) → number_of c ≡ number_of d → c ≡ d
same_cause c d e = sym (cause_of-number c) ∙ ap cause_of e ∙ cause_of-number d

pub decides_cause : (c d : Cause) → Decides (number_of c == number_of d) (c ≡ d)
decides_cause c d =
    Decides-like (number_of c == number_of d) (same_cause c d) (λ (e : c ≡ d). ap number_of e)
    (Decides-eqb (number_of c) (number_of d))

pub decides_fields : (s t : Fields) → Decides (same_fields s t) (s ≡ t)
decides_fields s t =
    let cmd = Decides-eqb s.cmd t.cmd in
    let s1 = Decides-and (s.s1 == t.s1) (s.cmd == t.cmd) (Decides-eqb s.s1 t.s1) cmd in
    let p1 = Decides-and (s.p1 == t.p1) ((s.s1 == t.s1) && (s.cmd == t.cmd)) (Decides-eqb s.p1 t.p1)
    s1 in
    let p0 = Decides-and (s.p0 == t.p0) ((s.p1 == t.p1) && ((s.s1 == t.s1) && (s.cmd == t.cmd)))
    (Decides-eqb s.p0 t.p0) p1 in
    let all = Decides-and (s.s0 == t.s0)
    ((s.p0 == t.p0) && ((s.p1 == t.p1) && ((s.s1 == t.s1) && (s.cmd == t.cmd))))
    (Decides-eqb s.s0 t.s0) p0 in (
      λ e. (let h = all.0 e in λ i.
          record { s0 = h.0 i; p0 = h.1.0 i; p1 = h.1.1.0 i; s1 = h.1.1.1.0 i; cmd = h.1.1.1.1 i }),
      λ e. all.1 (
        ap (λ (f : Fields). f.s0) e,
        (
          ap (λ (f : Fields). f.p0) e,
          (
            ap (λ (f : Fields). f.p1) e,
            (ap (λ (f : Fields). f.s1) e, ap (λ (f : Fields). f.cmd) e),
          ),
        ),
      ),
    )

pub decides_bytes : (p q : List ℕ) → Decides (pointwise nat_eq p q) (p ≡ q)
decides_bytes = pointwise_decides Decides-eqb

pub decides_pair : (a b : ℕ) (p q : List ℕ)
    → Decides ((a == b) && pointwise nat_eq p q) ((a ≡ b) × (p ≡ q))
decides_pair a b p q =
    Decides-and (a == b) (pointwise nat_eq p q) (Decides-eqb a b) (decides_bytes p q)

pub found_same : (e x : Event) → same_event e x ≡ true → e ≡ x
found_same (Ctl s) (Ctl t) h = ap Ctl ((decides_fields s t).0 h)
found_same (Pkt a p) (Pkt b q) h = let both =
    (decides_pair a b p q).0 h in λ i. Pkt (both.0 i) (both.1 i)
found_same (Bad c) (Bad d) h = ap Bad ((decides_cause c d).0 h)
found_same (Ctl s) (Pkt b q) h = cc
found_same (Ctl s) (Bad d) h = cc
found_same (Pkt a p) (Ctl t) h = cc
found_same (Pkt a p) (Bad d) h = cc
found_same (Bad c) (Ctl t) h = cc
found_same (Bad c) (Pkt b q) h = cc

itself : (e : Event) → same_event e e ≡ true
itself (Ctl s) = (decides_fields s s).1 refl
itself (Pkt a p) = (decides_pair a a p p).1 (refl, refl)
itself (Bad c) = (decides_cause c c).1 refl

pub same_back : (e x : Event) → e ≡ x → same_event e x ≡ true
same_back e x h = subst (λ (y : Event). same_event e y ≡ true) h (itself e)

-- The test says whether events are equal.
pub decides_event : (e x : Event) → Decides (same_event e x) (e ≡ x)
decides_event e x = (found_same e x, same_back e x)

pub same_event_equivalence : IsEquivalence same_event
same_event_equivalence = record {
  refl = itself;
  symm = λ x y. same_from_decides (same_event x y) (same_event y x) (decides_event x y)
      (Decides-like (same_event y x) (λ (e : y ≡ x). sym e) (λ (e : x ≡ y). sym e)
      (decides_event y x));
  congr = λ x y z h. ap (λ (w : Event). same_event w z) (found_same x y h);
}
