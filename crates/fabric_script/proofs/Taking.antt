-- What taking all words of a form says.
use Rattle.std.proofs.Common.{◌≡◌, ◌≢◌, ℕ, ◌+◌, ◌<◌, All, List, [], ◌∷◌, ◌++◌, ◌==◌, length, suc, take, get_or, Option, Some, Result, Ok, Err, unwrap_or, inl, inr, refl, sym, ap, ◌∙◌, subst, arith}
use Rattle.std.proofs.Math.Seq.{take-suc}
use Rattle.std.proofs.lemmas.List.Splits.{length-slice_split}
use Rattle.fabric_script.specs.declared.reasons.Reason.{Reason}
use Rattle.fabric_script.specs.declared.reasons.Reason.TheVariants.{UnknownLine, BadNumber, BadName, NameTaken, UnknownNode, PortOutside, PortTaken, IdTaken, BadHex, BadLength, WrongKind, OutOfPlace, NotLinked, TooMuchWork}
use Rattle.fabric_script.specs.Lines.{words_of}
use Rattle.fabric_script.specs.Forms.{Field, Hex}
use Rattle.fabric_script.specs.Texts.{Value, hex_text}
use Rattle.fabric_script.specs.Known.{Known}
use Rattle.fabric_script.specs.Hits.{Hits, HexIsBad}
use Rattle.fabric_script.specs.Words.{Left, NoMore, More, TakesAll, reason_at_end, with_reason, noted_by, ok_of, first_word, after_word, TakesWord, TakesFirst, Takes, ReadsValue}

pub end_of-words : (words : List (List ℕ)) (hit : Option Reason) → 0 < length words
    → reason_at_end record { words = words; hit = hit } ≡ Some UnknownLine
end_of-words [] hit some = absurd (omega arith)
end_of-words (word ∷ words) hit some = refl

pub end_of-some : (text : List ℕ) (hit : Option Reason) → reason_at_end record {
  words = words_of text;
  hit = hit;
} ≡ Some UnknownLine
end_of-some text hit =
    end_of-words (words_of text) hit (omega (arith, length-slice_split (λ byte. byte == 32) text))

-- a reason behind the unknown line is not noted
with_reason-unknown : (reason : Reason) → with_reason (Some UnknownLine) reason ≡ Some UnknownLine
with_reason-unknown UnknownLine = refl
with_reason-unknown BadNumber = refl
with_reason-unknown BadName = refl
with_reason-unknown NameTaken = refl
with_reason-unknown UnknownNode = refl
with_reason-unknown PortOutside = refl
with_reason-unknown PortTaken = refl
with_reason-unknown IdTaken = refl
with_reason-unknown BadHex = refl
with_reason-unknown BadLength = refl
with_reason-unknown WrongKind = refl
with_reason-unknown OutOfPlace = refl
with_reason-unknown NotLinked = refl
with_reason-unknown TooMuchWork = refl

noted_by-unknown : {T : Type 0} (read : Result T Reason) → noted_by (Some UnknownLine) read
    ≡ Some UnknownLine
noted_by-unknown (Ok value) = refl
noted_by-unknown (Err reason) = with_reason-unknown reason

-- a reader that answers what its word says, or a stand-in, takes the word
pub takes : (known : Known) (field : Field) (stand_in : Value) (old next new : Left)
    (word : List ℕ) (read : Result Value Reason) (answer : Option Value) (result : Value)
    → word ≡ first_word old.words → next ≡ after_word old → ReadsValue known field word read
    → new ≡ record { words = next.words; hit = noted_by next.hit read } → answer ≡ ok_of read
    → result ≡ unwrap_or answer stand_in → Takes known field result old new
takes known field stand_in old next new word read answer result first rest reads noted answered
    resulted = subst (λ r. Takes known field r old new)
    (sym (resulted ∙ ap (λ a. unwrap_or a stand_in) answered))
    record {
      first = by_words old.words old.hit read first
          (subst (λ n. new ≡ record { words = n.words; hit = noted_by n.hit read }) rest noted)
          reads;
    }
  where
    by_read : (words : List (List ℕ)) (hit : Option Reason) (read : Result Value Reason) → new
        ≡ record { words = words; hit = noted_by hit read } → ReadsValue known field word read
        → (new.words ≡ words)
        × TakesWord known field (unwrap_or (ok_of read) stand_in) word hit new.hit
    by_read words hit (Ok v) noted h =
        (ap (λ l. l.words) noted, inl (h.0, h.1, ap (λ l. l.hit) noted))
    by_read words hit (Err reason) noted h =
        (ap (λ l. l.words) noted, inr (reason, h, ap (λ l. l.hit) noted))

    by_words : (words : List (List ℕ)) (hit : Option Reason) (read : Result Value Reason) → word
        ≡ first_word words → new
        ≡ record {
          words = (after_word record { words = words; hit = hit }).words;
          hit = noted_by (after_word record { words = words; hit = hit }).hit read;
        }
        → ReadsValue known field word read
        → TakesFirst known field (unwrap_or (ok_of read) stand_in) words hit new.words new.hit
    by_words [] hit read first noted h =
        (ap (λ l. l.words) noted, ap (λ l. l.hit) noted ∙ noted_by-unknown read)
    by_words (w ∷ words) hit read first noted h =
        let r = by_read words hit read noted h in (
          r.0,
          subst (λ w. TakesWord known field (unwrap_or (ok_of read) stand_in) w hit new.hit)
              first r.1,
        )

-- one word more is taken behind others
takes_one_more : {known : Known} {fields : List Field} {values : List Value} {field : Field}
    {value : Value} {left next last : Left} → TakesAll known fields values left next
    → Takes known field value next last
    → TakesAll known (fields ++ field ∷ []) (values ++ value ∷ []) left last
takes_one_more NoMore more = More more NoMore
takes_one_more (More first rest) more = More first (takes_one_more rest more)

pub takes_next : (known : Known) (fields : List Field) (i : ℕ) (field : Field) (value : Value)
    (values values_after : List Value) (left next last : Left) → i < length fields
    → TakesAll known (take i fields) values left next
    → Takes known (get_or fields i field) value next last
    → values_after ≡ values ++ value ∷ []
    → TakesAll known (take (i + 1) fields) values_after left last
takes_next known fields i field value values values_after left next last within before more is =
    let next_is : i + 1 ≡ suc i = omega arith in
    rw (is, next_is, take-suc fields i field within) (takes_one_more before more)

pub takes_count : (known : Known) (fields : List Field) (values : List Value) (left next : Left)
    → TakesAll known fields values left next → length values ≡ length fields
takes_count known [] [] left next NoMore = refl
takes_count known (field ∷ fields) (value ∷ values) left last (More {next = next} first rest) =
    ap suc (takes_count known fields values next last rest)
takes_count known [] (value ∷ values) left next taken = elim taken [ ]
takes_count known (field ∷ fields) [] left next taken = elim taken [ ]

-- the reason that hits a word that spells no bytes
pub hits_hex : (known : Known) (field : Field) (word : List ℕ) → field ≡ Hex
    → ((bytes : List ℕ) → All (λ byte. byte < 256) bytes → word ≢ hex_text bytes)
    → Hits known BadHex field word
hits_hex known field word is none = rw is (HexIsBad none)
