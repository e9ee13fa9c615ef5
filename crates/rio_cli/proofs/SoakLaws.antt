-- What a soak says, by the answer of its write.
use Rattle.std.proofs.Common.{◌≡◌, ◌⊎◌, inl, inr, ℕ, List, Option, refl, sym, subst}
use Rattle.rio_chars.specs.Faults.{Rose}
use Rattle.rio_cli.specs.declared.status.Status.{Status}
use Rattle.rio_cli.specs.declared.status.Status.TheVariants.{Done, Words, Script, ReadFault, WriteFault, NoMemory, Undetected, TooLong, Locked, Unlawful}
use Rattle.rio_cli.specs.Answers.{Answers}
use Rattle.rio_cli.specs.Soaking.{SoaksTo, SoaksUndetected, undetected_text, SaysOfSoak}

module _ (seed : ℕ) (status : Status) (w : Option (List ℕ)) (f : ℕ) (w' : Option (List ℕ)) (f2 : ℕ)
  where
    pub says_counts : (text : List ℕ) → SoaksTo seed text → Answers status Done text w f w' f2
        → SaysOfSoak seed status w f w' f2
    says_counts text is (inl told) =
        subst (λ s. SaysOfSoak seed s w f w' f2) (sym told.0) (text, is, told.1)
    says_counts text is (inr failed) =
        subst (λ s. SaysOfSoak seed s w f w' f2) (sym failed.0) (failed.1, inl (text, is, failed.2))

    pub says_undetected : SoaksUndetected seed → Answers status Undetected undetected_text w f w' f2
        → SaysOfSoak seed status w f w' f2
    says_undetected is (inl told) =
        subst (λ s. SaysOfSoak seed s w f w' f2) (sym told.0) (is, told.1)
    says_undetected is (inr failed) =
        subst (λ s. SaysOfSoak seed s w f w' f2) (sym failed.0) (failed.1, inr (is, failed.2))

module _ (seed : ℕ) (w : Option (List ℕ)) (f : ℕ) (w' : Option (List ℕ)) (f2 : ℕ) where
  pub soak_at : (answer status : Status) → SaysOfSoak seed answer w f w' f2 → answer ≡ status
      → SaysOfSoak seed status w f w' f2
  soak_at answer status h e = subst (λ s. SaysOfSoak seed s w f w' f2) e h

  pub soak_ends : (answer : Status) → SaysOfSoak seed answer w f w' f2 → ¬ Rose f f2
      → (answer ≡ Done) ⊎ ((answer ≡ Undetected) ⊎ (answer ≡ NoMemory))
  soak_ends Done h calm = inl refl
  soak_ends Undetected h calm = inr (inl refl)
  soak_ends NoMemory h calm = inr (inr refl)
  soak_ends WriteFault h calm = absurd (calm h.0)
  soak_ends Words h calm = absurd h
  soak_ends Script h calm = absurd h
  soak_ends ReadFault h calm = absurd h
  soak_ends TooLong h calm = absurd h
  soak_ends Locked h calm = absurd h
  soak_ends Unlawful h calm = absurd h
