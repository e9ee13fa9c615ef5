-- Bytes that are written unless a write has failed, call by call.
use Rattle.std.proofs.Common.{◌≤◌, ℕ, Option, List, ◌++◌, Bool, true, false, ◌∙◌, arith}
use Rattle.std.proofs.KnownBytes.{Appends-trans, Keeps-trans}
use Rattle.rio_chars.specs.Unless.{WritesUnless}
use Rattle.rio_chars.proofs.FrontLaws.{AppendsFront-kept, AppendsFront-longer, AppendsFront-behind}
use Rattle.rio_chars.proofs.FaultLaws.{Rose-before, Rose-after}

pub WritesUnless-then : (a : Bool) (w : Option (List ℕ)) (i : ℕ) (b : Bool) (w' : Option (List ℕ))
    (j : ℕ) (c : Bool) (w'' : Option (List ℕ)) (k : ℕ) (bytes more : List ℕ)
    → WritesUnless a w i b w' j bytes → WritesUnless b w' j c w'' k more
    → WritesUnless a w i c w'' k (bytes ++ more)
WritesUnless-then true w i true w' j true w'' k bytes more h g =
    (Keeps-trans w w' w'' h.0 g.0, g.1 ∙ h.1)
WritesUnless-then true w i true w' j false w'' k bytes more h g = g
WritesUnless-then true w i false w' j c w'' k bytes more h g = absurd h
WritesUnless-then false w i true w' j true w'' k bytes more h g =
    let later : j ≤ k = omega (arith, g.1) in (
      AppendsFront-longer w w'' bytes more (AppendsFront-kept w w' w'' bytes h.0 g.0),
      Rose-after i j k h.1 later,
      omega (arith, g.1, h.2),
    )
WritesUnless-then false w i true w' j false w'' k bytes more h g = absurd g
WritesUnless-then false w i false w' j true w'' k bytes more h g =
    let before : i ≤ j = omega (arith, h.1) in (
      AppendsFront-behind w w' w'' bytes more h.0 g.0,
      Rose-before i j k before g.1,
      omega (arith, g.2, h.1),
    )
WritesUnless-then false w i false w' j false w'' k bytes more h g =
    (Appends-trans w w' w'' bytes more h.0 g.0, g.1 ∙ h.1)
