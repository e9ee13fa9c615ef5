-- The link form of a body of at most 80 bytes is the body, two bytes, and a pad or none.
use Rattle.std.proofs.Common.{◌≡◌, ℕ, ◌-◌, ◌%◌, ◌≤◌, List, [], ◌∷◌, ◌++◌, length, take, ap, ◌∙◌, inl, inr, arith, length-append, append_assoc}
use Rattle.std.proofs.Math.Seq.{drop-append_seam, take-append_seam}
use Rattle.rio_packets.specs.LinkForm.{LinkForm}
use Rattle.rio_packets.proofs.PadLaws.{padded-fours, padded-other}
use Rattle.io_packets.specs.Layout.{between}

-- without a pad
pub plain_form : (body p : List ℕ) → LinkForm body p → length body ≤ 80 → length body % 4 ≡ 2
    → (x : ℕ) × (y : ℕ) × (p ≡ body ++ x ∷ y ∷ [])
plain_form body p form h k =
    elim form.form [
      | inl s ↦
          (let size = length-append body (s.x ∷ s.y ∷ []) in
          (s.x, s.y, s.is ∙ padded-fours (body ++ s.x ∷ s.y ∷ []) (omega arith)))
      | inr l ↦ absurd (let beyond = l.beyond in omega arith)
    ]

-- with a pad
pub padded_form : (body p : List ℕ) → LinkForm body p → length body ≤ 80 → length body % 4 ≡ 0
    → (x : ℕ) × (y : ℕ) × (p ≡ body ++ x ∷ y ∷ 0 ∷ 0 ∷ [])
padded_form body p form h k =
    elim form.form [
      | inl s ↦
          (let size = length-append body (s.x ∷ s.y ∷ []) in (
            s.x,
            s.y,
            s.is ∙ padded-other (body ++ s.x ∷ s.y ∷ []) (λ e. omega arith)
                ∙ append_assoc body (s.x ∷ s.y ∷ []) (0 ∷ 0 ∷ []),
          ))
      | inr l ↦ absurd (let beyond = l.beyond in omega arith)
    ]

-- what stands between a front and an end
pub between-parts : (front load back : List ℕ)
    → between (front ++ (load ++ back)) (length front) (length back) ≡ load
between-parts front load back =
    let whole = length-append front (load ++ back) in
    let rest = length-append load back in
    let n = length (front ++ (load ++ back)) - length back - length front in
    let count : n ≡ length load = omega (arith, whole, rest) in
    ap (λ (l : List ℕ). take n l) (drop-append_seam front (load ++ back))
    ∙ ap (λ n. take n (load ++ back)) count
    ∙ take-append_seam load back
