-- Each input of a check is lawful, or unlawful at a line, or refused.
use Rattle.judged_inputs.proofs.Prelude.{◌≡◌, ℕ, ◌+◌, ◌++◌, true, List, [], ◌∷◌, length, refl, ap, subst, append-nil, append_assoc, ◌⊎◌, inl, inr, cases_Bool, Known, IsOrderly, one_event, Network, TraceLine, steps_of, SpellsLine, LinePasses, as_behind, is_last, BehindLast, HitsLine, HitsNext, IsLawful, IsUnlawful, PassFront, SpellFront, SpellsNone, fault_number}
use Rattle.fabric_script.specs.declared.lines.Numbered.{Numbered}
use Rattle.script_input.specs.Inputs.{IsInput, set_up_texts, texts_of}
use Rattle.script_input.proofs.InputOnce.{accepted_orderly}
use Rattle.fabric_trace.specs.Runs.{bare, set_up_all}
use Rattle.trace_check.proofs.Fronts.{pass_more}
use Rattle.trace_check.proofs.StopLaws.{front_more, spell_all}
use Rattle.script_law.proofs.Inputs.{input_or_refused}
use Rattle.judged_inputs.specs.Judged.{EndsSomehow}
use Rattle.judged_inputs.proofs.SpellingChoice.{spells_or_none}
use Rattle.judged_inputs.proofs.FaultChoice.{passes_or_hit}

-- ---- the lines of a trace

module _ (known : Known) (orderly : IsOrderly known) (event : known.mode ≡ one_event)
    (net : Network) where
  abbrev IsJudged : List (List ℕ) → Type 0
  IsJudged texts = ((steps : ℕ) × IsLawful known net texts steps)
      ⊎ ((place : ℕ) × (reason : ℕ) × IsUnlawful known net texts place reason)

  -- these spell those lines, and no reason hits any
  record IsFront (front rest : List (List ℕ)) (lines : List TraceLine) : Type 0 where
    spelled : SpellFront known front lines
    pass : PassFront net lines rest

  stops : (front rest : List (List ℕ)) (lines : List TraceLine) (place reason : ℕ)
      → IsFront front rest lines → HitsNext known net lines rest place reason
      → IsJudged (front ++ rest)
  stops front rest lines place reason is hits = inr (
    length front + place,
    reason,
    record {
      front = front;
      rest = rest;
      lines = lines;
      place = place;
      split = refl;
      spelled = is.spelled;
      pass = is.pass;
      hits = hits;
      at = refl;
    },
  )

  -- the last line ends the texts, or more stands behind it
  ends : (front : List (List ℕ)) (text : List ℕ) (texts : List (List ℕ)) (lines : List TraceLine)
      (line : TraceLine) → IsFront front (text ∷ texts) lines → SpellsLine known text line
      → LinePasses net lines line (as_behind texts) → is_last line ≡ true
      → IsJudged (front ++ text ∷ texts)
  ends front text [] lines line is spells passes last =
      inl (
        length (steps_of (lines ++ line ∷ [])),
        record {
          lines = lines ++ line ∷ [];
          spelled = spell_all front lines is.spelled spells last;
          pass = λ before x behind same.
              subst (λ (l : List TraceLine). LinePasses net before x l) (append-nil behind)
              (pass_more [] orderly spells is.pass passes before x behind same);
          count = refl;
        },
      )
  ends front text (next ∷ texts) lines line is spells passes last =
      stops front (text ∷ next ∷ texts) lines 1 21 is (BehindLast line spells last passes)

  judged : (rest front : List (List ℕ)) (lines : List TraceLine) → IsFront front rest lines
      → IsJudged (front ++ rest)
  judged [] front lines is = stops front [] lines 0 21 is (SpellsNone tt)
  judged (text ∷ texts) front lines is =
      elim (spells_or_none known orderly text event) [
        | inr none ↦ stops front (text ∷ texts) lines 0 21 is
            (SpellsNone (λ line spells. none (line, spells)))
        | inl spells ↦ elim (passes_or_hit net lines spells.0 (as_behind texts)) [
          | inr hit ↦ stops front (text ∷ texts) lines 0 (fault_number hit.fault) is
              (HitsLine spells.0 hit.fault spells.1 hit.fails hit.less)
          | inl passes ↦ elim (cases_Bool (is_last spells.0)) [
            | inl last ↦ ends front text texts lines spells.0 is spells.1 passes last
            | inr goes ↦ subst IsJudged (append_assoc front (text ∷ []) texts)
                (judged texts (front ++ text ∷ []) (lines ++ spells.0 ∷ []) (record {
                  spelled = front_more front lines is.spelled spells.1 goes;
                  pass = pass_more texts orderly spells.1 is.pass passes;
                }))
          ]
        ]
      ]

  -- texts from the first on
  nothing_before : (texts : List (List ℕ)) → PassFront net [] texts
  nothing_before texts [] line behind is = absurd cc
  nothing_before texts (x ∷ before) line behind is = absurd cc

  pub texts_judged : (texts : List (List ℕ)) → IsJudged texts
  texts_judged texts =
      judged texts [] [] (record { spelled = refl; pass = nothing_before texts })

-- ---- the whole input

parted_judged : (bytes : List ℕ) (lines : List Numbered) (known : Known) (texts : List (List ℕ))
    → IsInput bytes lines known texts → EndsSomehow bytes
parted_judged bytes lines known texts input =
    let orderly = accepted_orderly bytes lines known input.accepted in
    let event : known.mode ≡ one_event =
    ap (λ (k : Known). k.mode) input.accepted.known_is in
    elim (texts_judged known orderly event (set_up_all bare lines) texts) [
      | inl lawful ↦ inl (
        lawful.0,
        record {
          set_up = lines;
          known = known;
          texts = texts;
          input = input;
          lawful = lawful.1;
        },
      )
      | inr hit ↦ inr (inl (
        length (set_up_texts (texts_of bytes)) + 2 + hit.0,
        hit.1,
        record {
          set_up = lines;
          known = known;
          texts = texts;
          input = input;
          place = hit.0;
          at = refl;
          unlawful = hit.2;
        },
      ))
    ]

pub input_judged : (bytes : List ℕ) → EndsSomehow bytes
input_judged bytes = elim (input_or_refused bytes) [
  | inl is ↦ parted_judged bytes is.0 is.1 is.2 is.3
  | inr refused ↦ inr (inr refused)
]
