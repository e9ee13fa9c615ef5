use Rattle.std.proofs.Common.{rules, ◌∷◌, [], refl}
use Rattle.rio_framer.proofs.runs.starts_with_eight.Goals as goal

pub returns-in-Data : goal.returns-in-Data
returns-in-Data c =
    let w = c.in-Data in
    λ _. record {
      bytes = w.a ∷ w.b ∷ w.c ∷ w.d ∷ w.e ∷ w.f ∷ w.g ∷ w.h ∷ [];
      many = refl;
      is = search rules;
    }
