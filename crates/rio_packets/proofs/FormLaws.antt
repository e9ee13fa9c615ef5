-- A body has exactly one link form, and it passes.
use Rattle.std.proofs.Common.{◌≡◌, ℕ, ◌+◌, ◌-◌, ◌/◌, ◌%◌, ◌<◌, ◌≤◌, List, [], ◌∷◌, ◌++◌, length, take, drop, sym, ap, ◌∙◌, subst, inl, inr, arith, length-append, length-drop, take-append-drop, append_assoc}
use Rattle.std.proofs.lemmas.Bool.{cases_lt}
use Rattle.std.proofs.lemmas.List.{take_all, drop_all, take_at, get_or_append_left, get_or-take, length-take-le}
use Rattle.std.proofs.lemmas.List.Elements.{All-take, All-drop}
use Rattle.rio_packets.specs.Register.{running}
use Rattle.rio_packets.specs.LinkForm.{AreBytes, IsBody, IsCrc, padded, ShortForm, LongForm, split_by, LinkForm, Passes}
use Rattle.rio_packets.specs.Making.{with_crc, with_more, made}
use Rattle.rio_packets.proofs.CrcLaws.{running-crc, IsCrc-halves, IsCrc-one}
use Rattle.rio_packets.proofs.StepLaws.{with_crc-is, with_more-none, with_more-some}
use Rattle.rio_packets.proofs.PadLaws.{AreBytes-append, AreBytes-two, Passes-padded}

AreBytes-take : (n : ℕ) (xs : List ℕ) → AreBytes xs → AreBytes (take n xs)
AreBytes-take n xs h = All-take (λ b. b < 256) n xs h

AreBytes-drop : (n : ℕ) (xs : List ℕ) → AreBytes xs → AreBytes (drop n xs)
AreBytes-drop n xs h = All-drop (λ b. b < 256) n xs h

pub split_by-regrouped : (body : List ℕ) (x y : ℕ)
    → split_by body x y ≡ (take 80 body ++ x ∷ y ∷ []) ++ drop 80 body
split_by-regrouped body x y = sym (append_assoc (take 80 body) (x ∷ y ∷ []) (drop 80 body))

length-split_by : (body : List ℕ) (x y : ℕ) → length (split_by body x y) ≡ length body + 2
length-split_by body x y =
    let whole = ap length (take-append-drop 80 body) in
    omega (
      arith,
      whole,
      length-append (take 80 body) (drop 80 body),
      length-append (take 80 body) (x ∷ y ∷ drop 80 body),
    )

AreBytes-split_by : (body : List ℕ) (x y : ℕ) → AreBytes body → x < 256 → y < 256
    → AreBytes (split_by body x y)
AreBytes-split_by body x y range high low =
    rw (split_by-regrouped body x y)
    (AreBytes-append (take 80 body ++ x ∷ y ∷ []) (drop 80 body)
    (AreBytes-append (take 80 body) (x ∷ y ∷ []) (AreBytes-take 80 body range)
    (AreBytes-two x y high low))
    (AreBytes-drop 80 body range))

Short-passes : (body bytes : List ℕ) → IsBody body → ShortForm body bytes → Passes bytes
Short-passes body bytes b s =
    let m = body ++ s.x ∷ s.y ∷ [] in
    let size : length m ≡ length body + 2 = length-append body (s.x ∷ s.y ∷ []) in
    let even = b.even in let least = b.least in let most = b.most in let within = s.within in
    let ends : running m ≡ 0 = running-crc body s.x s.y (omega arith) b.range s.crc in
    rw s.is
    (Passes-padded m (omega arith) (omega arith) (omega arith)
    (AreBytes-append body (s.x ∷ s.y ∷ []) b.range (AreBytes-two s.x s.y s.crc.high s.crc.low))
    (rw (get_or_append_left body (s.x ∷ s.y ∷ []) 0 0 (omega arith)) b.origin)
    ends
    (λ h. ap running (take_all 82 m (omega arith)) ∙ ends))

Long-passes : (body bytes : List ℕ) → IsBody body → LongForm body bytes → Passes bytes
Long-passes body bytes b l =
    let s = split_by body l.x l.y in
    let m = s ++ l.u ∷ l.v ∷ [] in
    let front = take 80 body ++ l.x ∷ l.y ∷ [] in
    let even = b.even in let least = b.least in let most = b.most in let beyond = l.beyond in
    let split = length-split_by body l.x l.y in
    let size : length m ≡ length body + 4 = length-append s (l.u ∷ l.v ∷ []) ∙ omega arith in
    let eighty : length (take 80 body) ≡ 80 = length-take-le 80 body (omega arith) in
    let front_size : length front ≡ 82 =
    length-append (take 80 body) (l.x ∷ l.y ∷ []) ∙ omega arith in
    let regrouped : m ≡ front ++ (drop 80 body ++ l.u ∷ l.v ∷ []) =
    ap (λ t. t ++ l.u ∷ l.v ∷ []) (split_by-regrouped body l.x l.y)
    ∙ append_assoc front (drop 80 body) (l.u ∷ l.v ∷ []) in
    let range = AreBytes-split_by body l.x l.y b.range l.first.high l.first.low in
    rw l.is
    (Passes-padded m (omega arith) (omega arith) (omega arith)
    (AreBytes-append s (l.u ∷ l.v ∷ []) range (AreBytes-two l.u l.v l.second.high l.second.low))
    (rw (
      append_assoc (take 80 body) (l.x ∷ l.y ∷ drop 80 body) (l.u ∷ l.v ∷ []),
      get_or_append_left (take 80 body) ((l.x ∷ l.y ∷ drop 80 body) ++ l.u ∷ l.v ∷ []) 0 0
          (omega arith),
      get_or-take 80 body 0 0 (omega arith),
    ) b.origin)
    (running-crc s l.u l.v (omega arith) range l.second)
    (λ h. ap running
    (ap (take 82) regrouped ∙ take_at front (drop 80 body ++ l.u ∷ l.v ∷ []) 82 front_size)
    ∙ running-crc (take 80 body) l.x l.y (omega arith) (AreBytes-take 80 body b.range) l.first))

-- A link form passes.
pub Passes-from_form : (body bytes : List ℕ) → LinkForm body bytes → Passes bytes
Passes-from_form body bytes f =
    elim f.form
    [ inl s ↦ Short-passes body bytes f.is_body s | inr l ↦ Long-passes body bytes f.is_body l ]

-- A body has at most one link form.
pub LinkForm-one : (body p q : List ℕ) → LinkForm body p → LinkForm body q → p ≡ q
LinkForm-one body p q f g =
    elim f.form [
      | inl s ↦ elim g.form [
        | inl t ↦
            (let same = IsCrc-one body s.x s.y t.x t.y s.crc t.crc in
            s.is
            ∙ ap (λ x. padded (body ++ x ∷ s.y ∷ [])) same.0
            ∙ ap (λ y. padded (body ++ t.x ∷ y ∷ [])) same.1
            ∙ sym t.is)
        | inr k ↦ absurd (let within = s.within in let beyond = k.beyond in omega arith)
      ]
      | inr l ↦ elim g.form [
        | inl t ↦ absurd (let within = t.within in let beyond = l.beyond in omega arith)
        | inr k ↦ Long-one l k
      ]
    ]
  where
    Long-one : LongForm body p → LongForm body q → p ≡ q
    Long-one l k =
        let first = IsCrc-one (take 80 body) l.x l.y k.x k.y l.first k.first in
        let same : split_by body l.x l.y ≡ split_by body k.x k.y =
        ap (λ x. split_by body x l.y) first.0 ∙ ap (λ y. split_by body k.x y) first.1 in
        let moved : IsCrc (split_by body k.x k.y) l.u l.v =
        subst (λ (m : List ℕ). IsCrc m l.u l.v) same l.second in
        let second = IsCrc-one (split_by body k.x k.y) l.u l.v k.u k.v moved k.second in
        l.is ∙ ap (λ m. padded (m ++ l.u ∷ l.v ∷ [])) same
        ∙ ap (λ u. padded (split_by body k.x k.y ++ u ∷ l.v ∷ [])) second.0
        ∙ ap (λ v. padded (split_by body k.x k.y ++ k.u ∷ v ∷ [])) second.1 ∙ sym k.is

made-short : (body : List ℕ) → IsBody body → length body ≤ 80 → ShortForm body (made body)
made-short body b h =
    let least = b.least in
    record {
      within = h;
      x = running body / 256;
      y = running body % 256;
      crc = IsCrc-halves body (omega arith) b.range;
      is = ap padded (ap (with_more (with_crc (take 80 body))) (drop_all 80 body h)
          ∙ with_more-none (with_crc (take 80 body))
          ∙ ap with_crc (take_all 80 body h)
          ∙ with_crc-is body);
    }

made-long : (body : List ℕ) → IsBody body → 80 < length body → LongForm body (made body)
made-long body b h =
    let front = take 80 body in
    let x = running front / 256 in
    let y = running front % 256 in
    let s = split_by body x y in
    let eighty : length front ≡ 80 = length-take-le 80 body (omega arith) in
    let first = IsCrc-halves front (omega arith) (AreBytes-take 80 body b.range) in
    let split : length s ≡ length body + 2 = length-split_by body x y in
    let rest : length (drop 80 body) ≡ length body - 80 = length-drop 80 body in
    let joined : with_crc front ++ drop 80 body ≡ s =
    ap (λ t. t ++ drop 80 body) (with_crc-is front) ∙ sym (split_by-regrouped body x y) in
    record {
      beyond = h;
      x = x;
      y = y;
      u = running s / 256;
      v = running s % 256;
      first = first;
      second =
          IsCrc-halves s (omega arith) (AreBytes-split_by body x y b.range first.high first.low);
      is =
          ap padded (with_more-some (with_crc front) (drop 80 body) (omega arith)
          ∙ ap with_crc joined ∙ with_crc-is s);
    }

-- A body has a link form.
pub LinkForm-made : (body : List ℕ) → IsBody body → LinkForm body (made body)
LinkForm-made body b = record {
  is_body = b;
  form = elim (cases_lt 80 (length body)) [
    | inl long ↦ inr (made-long body b long)
    | inr short ↦ inl (made-short body b short)
  ];
}
