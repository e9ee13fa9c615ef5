-- The lines of asks spell their texts, and no reason hits one.
use Rattle.lawful_asks.proofs.Prelude.{◌++◌, List, [], ◌∷◌, length, append-nil, refl, sym, ap, ◌∙◌, TraceLine, Begun, Stepped, Signed, Lacked, Ended, Undetected, steps_of, seen_line, seen, Seen, Made, PartEnds, bare, set_up_all, begins, set_up_bare, EditsTold, AllGotSome, AsksAreLawful}
use Rattle.fabric_model.specs.Steps.{Step}
use Rattle.fabric_trace.proofs.Parts.Keeping.{steps_of-append}
use Rattle.fabric_trace.proofs.Parts.Making.{one_part, made-append}
use Rattle.fabric_trace.proofs.SetUps.Happening.{may_set_up}
use Rattle.lawful_traces.proofs.Ending.{Closes, within_closes}
use Rattle.lawful_traces.proofs.Spelling.{made_spell}
use Rattle.lawful_asks.proofs.AskLines.{asked_some}
use Rattle.lawful_asks.proofs.Passing.{made_pass}

-- no line of asks is an edit
within_told : (xs ys : List TraceLine) (s : Seen) → AllGotSome xs → EditsTold (seen s xs) ys
    → EditsTold s (xs ++ ys)
within_told [] ys s some told = told
within_told (Begun line ∷ xs) ys s some told = absurd some.0
within_told (Stepped step ∷ xs) ys s some told =
    (tt, within_told xs ys (seen_line s (Stepped step)) some.1 told)
within_told (Signed sign ∷ xs) ys s some told =
    (tt, within_told xs ys (seen_line s (Signed sign)) some.1 told)
within_told (Lacked lack ∷ xs) ys s some told = (tt, within_told xs ys s some.1 told)
within_told (Ended ∷ xs) ys s some told = absurd some.0
within_told (Undetected number q e ∷ xs) ys s some told = absurd some.0

pub asks_are_lawful : AsksAreLawful
asks_are_lawful names script host tid next lines left end known passes knows asked leads =
    let some = asked_some asked in
    let net = set_up_all bare script in
    let made : Made (begins net) (lines ++ Ended ∷ []) =
    made-append leads.made (one_part (PartEnds refl)) in
    let closes : Closes known (lines ++ Ended ∷ []) =
    within_closes known lines (Ended ∷ []) some (tt, refl) in
    let told : EditsTold (begins net) (lines ++ Ended ∷ []) =
    within_told lines (Ended ∷ []) (begins net) some (tt, tt) in
    record {
      lines = lines ++ Ended ∷ [];
      spelled = made_spell names script known passes knows (lines ++ Ended ∷ []) made closes;
      pass = made_pass net (lines ++ Ended ∷ [])
          (set_up_bare script (may_set_up names script passes)) made told;
      count = ap (λ (steps : List Step). length steps)
          (sym (steps_of-append lines (Ended ∷ []) ∙ append-nil (steps_of lines)));
    }
