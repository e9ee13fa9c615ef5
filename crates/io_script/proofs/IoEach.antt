-- Bytes spell a script of reads and writes, or are refused.
use Rattle.std.proofs.Common.{◌≡◌, ◌≢◌, ℕ, ◌+◌, true, false, eqb, List, [], ◌∷◌, length, Result, Ok, Err, MatchBool, refl, sym, ap, ◌∙◌, subst, ◌⊎◌, inl, inr}
use Rattle.std.proofs.lemmas.Bool.{cases_Bool, eqb-true, eqb-false}
use Rattle.fabric_script.specs.declared.reasons.Reason.TheVariants.{UnknownLine}
use Rattle.fabric_script.specs.declared.lines.Numbered.{Numbered}
use Rattle.fabric_script.specs.Known.{Known, IsOrderly}
use Rattle.fabric_script.specs.Lines.{words_of}
use Rattle.fabric_script.specs.Scripts.{is_skipped}
use Rattle.fabric_script.specs.Words.{first_word}
use Rattle.script_law.proofs.Choosing.{same_or_not}
use Rattle.script_law.proofs.Inputs.{input_or_refused}
use Rattle.script_input.proofs.InputOnce.{accepted_orderly}
use Rattle.io_script.specs.declared.forms.IoForm.{IoForm}
use Rattle.io_script.specs.declared.forms.IoForm.TheVariants as F
use Rattle.io_script.specs.declared.lines.IoLine.{IoLine}
use Rattle.io_script.specs.declared.lines.NumberedIo.{NumberedIo}
use Rattle.io_script.specs.declared.reasons.IoReason.{IoReason}
use Rattle.io_script.specs.declared.reasons.IoReason.TheVariants.{OfScript}
use Rattle.io_script.specs.IoForms.{io_fields_of, io_keyword_of}
use Rattle.io_script.specs.IoLines.{io_form_of}
use Rattle.io_script.specs.IoReading.{Earlier, earlier_with, nothing_earlier, ReadsIo, SpellsIo, LeastIoHit}
use Rattle.io_script.specs.IoReasons.{io_reason_number}
use Rattle.io_script.specs.IoScripts.{KeptIoThen, SpellIoFrom, KeptIsHit, AreHitFrom, first_behind, IsIoScript, IsIoRefused, InSetUp, Behind}
use Rattle.io_script.specs.IoTaking.{read_end, standing_hit}
use Rattle.io_script.proofs.IoReadLaws.{reads_no_io_form, reads_behind}
use Rattle.io_script.proofs.IoLineWords.{take_line}

-- ---- one text

form_or_none : (word : List ℕ)
    → ((form : IoForm) × (io_keyword_of form ≡ word))
    ⊎ ((form : IoForm) → io_keyword_of form ≢ word)
form_or_none word = elim (same_or_not (io_keyword_of F.Memory) word) [
  | inl same ↦ inl (F.Memory, same)
  | inr a ↦ elim (same_or_not (io_keyword_of F.NRead) word) [
    | inl same ↦ inl (F.NRead, same)
    | inr b ↦ elim (same_or_not (io_keyword_of F.NWrite) word) [
      | inl same ↦ inl (F.NWrite, same)
      | inr c ↦ elim (same_or_not (io_keyword_of F.NWriteR) word) [
        | inl same ↦ inl (F.NWriteR, same)
        | inr d ↦ elim (same_or_not (io_keyword_of F.SWrite) word) [
          | inl same ↦ inl (F.SWrite, same)
          | inr e ↦ elim (same_or_not (io_keyword_of F.Round) word) [
            | inl same ↦ inl (F.Round, same)
            | inr f ↦ inr (none a b c d e f)
          ]
        ]
      ]
    ]
  ]
]
  where
    none : io_keyword_of F.Memory ≢ word → io_keyword_of F.NRead ≢ word
        → io_keyword_of F.NWrite ≢ word → io_keyword_of F.NWriteR ≢ word
        → io_keyword_of F.SWrite ≢ word → io_keyword_of F.Round ≢ word
        → (form : IoForm) → io_keyword_of form ≢ word
    none a b c d e f F.Memory = a
    none a b c d e f F.NRead = b
    none a b c d e f F.NWrite = c
    none a b c d e f F.NWriteR = d
    none a b c d e f F.SWrite = e
    none a b c d e f F.Round = f

keyword_some : (form : IoForm) → io_keyword_of form ≢ []
keyword_some F.Memory = λ e. cc
keyword_some F.NRead = λ e. cc
keyword_some F.NWrite = λ e. cc
keyword_some F.NWriteR = λ e. cc
keyword_some F.SWrite = λ e. cc
keyword_some F.Round = λ e. cc

-- what a text is read as
record IsRead (known : Known) (earlier : Earlier) (text : List ℕ) : Type 0 where
  read : Result IoLine IoReason
  reads : ReadsIo known earlier text read

module _ (known : Known) (earlier : Earlier) (text : List ℕ) (orderly : IsOrderly known) where
  of_form : (form : IoForm) (words : List (List ℕ)) → words_of text ≡ io_keyword_of form ∷ words
      → IsRead known earlier text
  of_form form words begins =
      elim (cases_Bool (eqb (length words) (length (io_fields_of form)))) [
        | inl same ↦
            let t = take_line known form (standing_hit (length known.links) earlier form) words
            (eqb-true (length words) (length (io_fields_of form)) same) in
            record {
              read = read_end t.last t.line;
              reads = reads_behind known earlier text form words orderly begins
                  (standing_hit (length known.links) earlier form) (read_end t.last t.line) refl
                  (inr (t.line, t.last, t.is, t.takes, refl));
            }
        | inr other ↦ record {
          read = Err (OfScript UnknownLine);
          reads = reads_behind known earlier text form words orderly begins
              (standing_hit (length known.links) earlier form) (Err (OfScript UnknownLine)) refl
              (inl (eqb-false (length words) (length (io_fields_of form)) other, refl));
        }
      ]

  is_read : IsRead known earlier text
  is_read = go (words_of text) refl
    where
      go : (words : List (List ℕ)) → words_of text ≡ words → IsRead known earlier text
      go [] is = record {
        read = Err (OfScript UnknownLine);
        reads = reads_no_io_form known earlier text
            (λ form e. keyword_some form (e ∙ ap first_word is));
      }
      go (word ∷ words) is = elim (form_or_none word) [
        | inl found ↦
            of_form found.0 words
            (is ∙ ap (λ (k : List ℕ). k ∷ words) (sym found.1))
        | inr none ↦ record {
          read = Err (OfScript UnknownLine);
          reads = reads_no_io_form known earlier text
              (λ form e. none form (e ∙ ap first_word is));
        }
      ]

-- ---- all texts

abbrev Outcome : ℕ → Known → Earlier → List (List ℕ) → Type 0
Outcome number known earlier texts =
    ((lines : List NumberedIo) × SpellIoFrom number known earlier texts lines)
    ⊎ ((line : ℕ) × (reason : ℕ) × AreHitFrom number known earlier texts line reason)

module _ (known : Known) (number : ℕ) (earlier : Earlier) (text : List ℕ)
    (texts : List (List ℕ)) where
  abbrev Spelled : List NumberedIo → Type 0
  Spelled lines = KeptIoThen (λ next rest. SpellIoFrom (number + 1) known next texts rest) number
      known earlier text lines

  abbrev IsHit : ℕ → ℕ → Type 0
  IsHit line reason = KeptIsHit (λ next. AreHitFrom (number + 1) known next texts line reason)
      number known earlier text line reason

  skip : is_skipped text ≡ true → Outcome (number + 1) known earlier texts
      → Outcome number known earlier (text ∷ texts)
  skip skipped (inl done) =
      inl (
        done.0,
        subst (λ b. MatchBool b (SpellIoFrom (number + 1) known earlier texts done.0)
            (Spelled done.0)) (sym skipped) done.1,
      )
  skip skipped (inr hit) =
      inr (
        hit.0,
        hit.1,
        subst (λ b. MatchBool b (AreHitFrom (number + 1) known earlier texts hit.0 hit.1)
            (IsHit hit.0 hit.1)) (sym skipped) hit.2,
      )

  keep : is_skipped text ≡ false → (io : IoLine) → SpellsIo known earlier text io
      → Outcome (number + 1) known (earlier_with (length known.links) earlier (io_form_of io)) texts
      → Outcome number known earlier (text ∷ texts)
  keep kept io spells (inl done) =
      let lines : List NumberedIo = record { line = number; io = io } ∷ done.0 in
      inl (
        lines,
        subst (λ b. MatchBool b (SpellIoFrom (number + 1) known earlier texts lines)
            (Spelled lines)) (sym kept) (io, done.0, refl, spells, done.1),
      )
  keep kept io spells (inr hit) =
      inr (
        hit.0,
        hit.1,
        subst (λ b. MatchBool b (AreHitFrom (number + 1) known earlier texts hit.0 hit.1)
            (IsHit hit.0 hit.1)) (sym kept) (inr (io, spells, hit.2)),
      )

  stop : is_skipped text ≡ false → (reason : IoReason) → LeastIoHit known earlier text reason
      → Outcome number known earlier (text ∷ texts)
  stop kept reason least =
      inr (
        number,
        io_reason_number reason,
        subst (λ b. MatchBool b
            (AreHitFrom (number + 1) known earlier texts number (io_reason_number reason))
            (IsHit number (io_reason_number reason))) (sym kept)
            (inl (refl, (reason, least, refl))),
      )

  by_read : is_skipped text ≡ false
      → ((next : Earlier) → Outcome (number + 1) known next texts)
      → (read : Result IoLine IoReason) → ReadsIo known earlier text read
      → Outcome number known earlier (text ∷ texts)
  by_read kept on (Ok io) spells =
      keep kept io spells (on (earlier_with (length known.links) earlier (io_form_of io)))
  by_read kept on (Err reason) least = stop kept reason least

outcome : (known : Known) → IsOrderly known → (number : ℕ) (earlier : Earlier)
    (texts : List (List ℕ)) → Outcome number known earlier texts
outcome known orderly number earlier [] = inl ([], refl)
outcome known orderly number earlier (text ∷ texts) = elim (cases_Bool (is_skipped text)) [
  | inl skipped ↦ skip known number earlier text texts skipped
      (outcome known orderly (number + 1) earlier texts)
  | inr kept ↦
      let r = is_read known earlier text orderly in
      by_read known number earlier text texts kept
      (λ next. outcome known orderly (number + 1) next texts) r.read r.reads
]

-- ---- all bytes

abbrev Judged : List ℕ → Type 0
Judged bytes = ((names : List (List ℕ)) × (set_up : List Numbered) × (lines : List NumberedIo)
    × IsIoScript bytes names set_up lines)
    ⊎ ((line : ℕ) × (reason : ℕ) × IsIoRefused bytes line reason)

pub each_is_judged : (bytes : List ℕ) → Judged bytes
each_is_judged bytes = elim (input_or_refused bytes) [
  | inl is ↦
      elim (outcome is.1 (accepted_orderly bytes is.0 is.1 is.3.accepted) (first_behind bytes)
      nothing_earlier is.2) [
        | inl done ↦ inl (
          is.1.names,
          is.0,
          done.0,
          record {
            known = is.1;
            texts = is.2;
            input = is.3;
            named = refl;
            spelled = done.1;
          },
        )
        | inr hit ↦ inr (hit.0, hit.1, Behind is.3 hit.2)
      ]
  | inr refused ↦ inr (refused.0, refused.1, InSetUp refused.2)
]
