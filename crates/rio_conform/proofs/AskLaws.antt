-- Words that begin with `--strict` ask for a scenario exactly if those behind it have one.
use Rattle.std.proofs.Common.{◌≡◌, ℕ, ◌≤◌, Bool, true, false, Option, Some, None, MatchOption, List, ◌∷◌, ◌++◌, codes, sym, ap, ◌∙◌, subst, arith}
use Rattle.std.specs.Fmt.{decimal}
use Rattle.std.specs.Str.{all_ascii_digits}
use Rattle.fabric_script.proofs.Decimals.{decimal_has_digits}
use Rattle.rio_conform.specs.declared.program.Asked.{Asked}
use Rattle.rio_conform.specs.Program.{PlayAsked, AsksPlain, AsksPlay, AsksNoPlay, play_asked, strict_words}

-- no number is spelled so
no_number : (n : ℕ) → n ≤ 30 → codes "--strict" ≡ decimal n → ⊥
no_number n few is =
    let digits : all_ascii_digits (codes "--strict") ≡ true =
    ap all_ascii_digits is ∙ decimal_has_digits n (omega (arith, few)) in
    absurd cc

none_behind : (strict : Bool) (asked : PlayAsked) (texts rest other : List (List ℕ))
    → texts ≡ codes "--strict" ∷ rest → texts ≡ strict_words strict ++ other
    → AsksPlain other asked → ((its : PlayAsked) → ¬ AsksPlain rest its) → ⊥
none_behind true asked texts rest other is so asks none =
    let same : other ≡ rest = let both = sym is ∙ so in cc in
    none asked (subst (λ l. AsksPlain l asked) same asks)
none_behind false asked texts rest other is so asks none =
    let first : codes "--strict" ≡ decimal asked.buffers =
    let both = sym is ∙ so ∙ asks.2 in cc in
    no_number asked.buffers asks.1 first

pub asks_strictly : (texts rest : List (List ℕ)) (result : Option Asked)
    → texts ≡ codes "--strict" ∷ rest
    → MatchOption result ((asked : PlayAsked) → ¬ AsksPlain rest asked)
    (λ asked. AsksPlain rest (play_asked asked) × (asked.strict ≡ true))
    → MatchOption result (AsksNoPlay texts) (λ asked. AsksPlay texts (play_asked asked))
asks_strictly texts rest None is none = λ asked h.
    none_behind asked.strict asked texts rest h.0 is h.1 h.2 none
asks_strictly texts rest (Some asked) is h =
    (rest, is ∙ ap (λ s. strict_words s ++ rest) (sym h.1), h.0)
