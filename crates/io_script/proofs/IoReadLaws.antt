-- What the reading of a text finds.
use Rattle.std.proofs.Common.{◌≡◌, ◌≢◌, ℕ, ◌+◌, ◌≤◌, nat_lt, suc, Bool, true, false, ◌&&◌, List, [], ◌∷◌, map, length, Option, Some, None, Result, Ok, Err, IfOk, ◌⊎◌, inl, inr, refl, sym, ap, ◌∙◌, subst, cond, arith}
use Rattle.std.proofs.lemmas.Bool.Decides.{nat_tests}
use Rattle.std.proofs.lemmas.Bool.{and_parts}
use Rattle.fabric_script.specs.declared.reasons.Reason.TheVariants.{TooMuchWork, UnknownLine}
use Rattle.fabric_script.specs.Known.{IsOrderly, Known}
use Rattle.fabric_script.specs.Lines.{words_of}
use Rattle.fabric_script.specs.declared.values.Value.{Value}
use Rattle.fabric_script.specs.declared.values.Value.TheVariants.{Bytes}
use Rattle.fabric_script.specs.Texts.{value_text}
use Rattle.fabric_script.specs.Words.{first_word}
use Rattle.io_script.specs.declared.forms.IoForm.{IoForm}
use Rattle.io_script.specs.declared.forms.IoForm.TheVariants as F
use Rattle.io_script.specs.declared.lines.IoLine.{IoLine}
use Rattle.io_script.specs.declared.reasons.IoReason.{IoReason}
use Rattle.io_script.specs.declared.reasons.IoReason.TheVariants.{OfScript, LateMemory}
use Rattle.io_script.specs.IoForms.{Address, AnEndpoint, DeviceNumber, io_fields_of, io_keyword_of, IoField}
use Rattle.io_script.specs.IoLines.{io_form_of, io_values_of, io_place}
use Rattle.io_script.specs.IoReading.{AnIoWord, CostsTooMuch, Earlier, gives_memory, HasIoForm, HitsIo, io_cost_of, IsLate, LeastIoHit, NoIoForm, ReadsIo, SpellsIo}
use Rattle.io_script.specs.IoReasons.{io_reason_number}
use Rattle.io_script.specs.IoTaking.{asks_to_write, data_field, NoMoreIo, is_streaming, IsFabric, MoreIo, read_end, ReadsBehind, standing_hit, TakesAllIo}
use Rattle.io_script.specs.IoWords.{FitIoAll, HitsIoOne}
use Rattle.io_script.proofs.IoLineLaws.{one_form}
use Rattle.io_script.proofs.IoOutcome.{io_number_in_range, io_outcome, io_rank, IoOutcome}

-- ---- the reason that hits a line for where it stands

-- a cost that is too much, and memory that is late
abbrev standing_by : Bool → Bool → Option IoReason
standing_by costly late =
    cond costly (Some (OfScript TooMuchWork)) (cond late (Some LateMemory) None)

standing_none : (costly late : Bool) → standing_by costly late ≡ None
    → (costly ≡ false) × (late ≡ false)
standing_none true late e = absurd cc
standing_none false true e = absurd cc
standing_none false false e = (refl, refl)

standing_some : (costly late : Bool) (r : IoReason) → standing_by costly late ≡ Some r
    → ((costly ≡ true) × (r ≡ OfScript TooMuchWork)) ⊎ ((late ≡ true) × (r ≡ LateMemory))
standing_some true late r e = inl (refl, cc)
standing_some false true r e = inr (refl, cc)
standing_some false false r e = absurd cc

standing_late : (costly : Bool) → io_rank (standing_by costly true) ≤ 18
standing_late true = omega arith
standing_late false = omega arith

not_both : (a b : Bool) → (a && b) ≡ false → a ≡ true → b ≡ false
not_both true true e is = absurd cc
not_both true false e is = refl
not_both false b e is = absurd cc

memory_form : (form : IoForm) → gives_memory form ≡ true → form ≡ F.Memory
memory_form F.Memory e = refl
memory_form F.NRead e = absurd cc
memory_form F.NWrite e = absurd cc
memory_form F.NWriteR e = absurd cc
memory_form F.SWrite e = absurd cc
memory_form F.Round e = absurd cc

-- ---- the words behind a keyword

length-taken : (known : Known) (fields : List IoField) (values : List Value)
    (words : List (List ℕ)) (hit last : Option IoReason)
    → TakesAllIo known fields values words hit last → length words ≡ length fields
length-taken known [] [] [] hit last NoMoreIo = refl
length-taken known (field ∷ fields) (value ∷ values) (word ∷ words) hit last
    (MoreIo {next = next} takes more) =
    ap suc (length-taken known fields values words next last more)
length-taken known [] [] (word ∷ words) hit last takes = elim takes [ ]
length-taken known [] (value ∷ values) words hit last takes = elim takes [ ]
length-taken known (field ∷ fields) [] words hit last takes = elim takes [ ]
length-taken known (field ∷ fields) (value ∷ values) [] hit last takes = elim takes [ ]

module _ (known : Known) (earlier : Earlier) (text : List ℕ) where
  pub reads_no_io_form : ((form : IoForm) → io_keyword_of form ≢ first_word (words_of text))
      → LeastIoHit known earlier text (OfScript UnknownLine)
  reads_no_io_form none = record {
    hits = NoIoForm (λ form has. none form (sym (ap first_word has.words)));
    least = λ other h. (io_number_in_range other).0;
  }

module _ (known : Known) (earlier : Earlier) (text : List ℕ) (form : IoForm)
    (words : List (List ℕ)) (orderly : IsOrderly known)
    (begins : words_of text ≡ io_keyword_of form ∷ words) where
  -- the words are not as many as the form wants
  other_count : length words ≢ length (io_fields_of form)
      → LeastIoHit known earlier text (OfScript UnknownLine)
  other_count other = record {
    hits = NoIoForm (λ form' has.
        let one = one_form text form form' words begins has in
        other (ap length (sym one.1) ∙ has.count ∙ ap (λ f. length (io_fields_of f)) one.0));
    least = λ reason h. (io_number_in_range reason).0;
  }

  -- the reason of a line that is hit
  hit_by : (line : IoLine) (hit : Option IoReason) (reason : IoReason)
      → hit ≡ standing_hit (length known.links) earlier form
      → length words ≡ length (io_fields_of form)
      → IoOutcome known (io_fields_of form) (io_values_of line) words hit (Some reason)
      → LeastIoHit known earlier text reason
  hit_by line hit reason stands count o =
      record { hits = hits_by o.from; least = least_by }
    where
      has : HasIoForm form text
      has = record { rest = words; words = begins; count = count }

      hits_by : (Some reason ≡ hit) ⊎ ((r : IoReason) × HitsIoOne known r (io_fields_of form) words
          × (Some reason ≡ Some r)) → HitsIo known earlier text reason
      hits_by (inr found) =
          let same : found.0 ≡ reason = let e = found.2 in cc in
          AnIoWord form has (subst (λ r. HitsIoOne known r (io_fields_of form) words) same found.1)
      hits_by (inl same) =
          elim (standing_some (nat_lt 100000 (earlier.cost + io_cost_of (length known.links) form))
          (gives_memory form && earlier.begun) reason (sym stands ∙ sym same)) [
            | inl costly ↦
                subst (HitsIo known earlier text) (sym costly.1)
                (CostsTooMuch form has (let e = costly.0 in grind (arith, nat_tests)))
            | inr late ↦
                let two = and_parts (gives_memory form) earlier.begun late.0 in
                subst (HitsIo known earlier text) (sym late.1)
                (IsLate (subst (λ f. HasIoForm f text) (memory_form form two.0) has) two.1)
          ]

      falls_to : (n : ℕ) → io_rank (standing_hit (length known.links) earlier form) ≤ n
          → io_reason_number reason ≤ n
      falls_to n low =
          let fell = o.falls in
          let at = ap io_rank stands in
          omega (arith, fell, at, low)

      least_by : (other : IoReason) → HitsIo known earlier text other
          → io_reason_number reason ≤ io_reason_number other
      least_by other (NoIoForm none) = absurd (none form has)
      least_by other (AnIoWord form' has' h) =
          let one = one_form text form form' words begins has' in
          o.least other (subst (λ ws. HitsIoOne known other (io_fields_of form) ws) one.1
          (subst (λ f. HitsIoOne known other (io_fields_of f) has'.rest) one.0 h))
      least_by other (CostsTooMuch form' has' much) =
          let one = one_form text form form' words begins has' in
          let same = ap (λ f. io_cost_of (length known.links) f) one.0 in
          let costly : nat_lt 100000 (earlier.cost + io_cost_of (length known.links) form) ≡ true
          = grind (arith, nat_tests) in
          falls_to 14 (rw costly (omega arith))
      least_by other (IsLate has' begun) =
          let one = one_form text form F.Memory words begins has' in
          let late : (gives_memory form && earlier.begun) ≡ true
          = rw (sym one.0, begun) refl in
          falls_to 18 (rw late (standing_late
          (nat_lt 100000 (earlier.cost + io_cost_of (length known.links) form))))

  -- what the line is, where none hits it
  spelled_by : (line : IoLine) (hit : Option IoReason)
      → hit ≡ standing_hit (length known.links) earlier form → io_form_of line ≡ form
      → IoOutcome known (io_fields_of form) (io_values_of line) words hit None
      → SpellsIo known earlier text line
  spelled_by line hit stands is o =
      let f = o.fits refl in
      let free = standing_none
      (nat_lt 100000 (earlier.cost + io_cost_of (length known.links) form))
      (gives_memory form && earlier.begun) (sym stands ∙ f.0) in
      let cheap : earlier.cost + io_cost_of (length known.links) form ≤ 100000
      = let e = free.0 in grind (arith, nat_tests) in
      record {
        words = begins ∙ ap (λ ws. io_keyword_of form ∷ ws) f.2
            ∙ ap (λ k. io_keyword_of k ∷ map (value_text known.names) (io_values_of line)) (sym is);
        fit = subst (λ k. FitIoAll known (io_fields_of k) (io_values_of line)) (sym is) f.1;
        cheap = subst (λ k. earlier.cost + io_cost_of (length known.links) k ≤ 100000) (sym is)
            cheap;
        early = λ gives.
            not_both (gives_memory form) earlier.begun free.1 (ap gives_memory (sym is) ∙ gives);
      }

  pub reads_behind : (hit : Option IoReason) (read : Result IoLine IoReason)
      → hit ≡ standing_hit (length known.links) earlier form
      → ReadsBehind known form words hit read → ReadsIo known earlier text read
  reads_behind hit read stands (inl other) =
      subst (ReadsIo known earlier text) (sym other.1) (other_count other.0)
  reads_behind hit read stands (inr (line, last, is, takes, ended)) =
      subst (ReadsIo known earlier text) (sym ended) (by_last last takes)
    where
      by_last : (last : Option IoReason)
          → TakesAllIo known (io_fields_of form) (io_values_of line) words hit last
          → ReadsIo known earlier text (read_end last line)
      by_last None takes =
          spelled_by line hit stands is (io_outcome known (io_fields_of form) (io_values_of line)
          words hit None orderly takes)
      by_last (Some reason) takes =
          hit_by line hit reason stands (length-taken known (io_fields_of form)
          (io_values_of line) words hit (Some reason) takes)
          (io_outcome known (io_fields_of form) (io_values_of line) words hit (Some reason) orderly
          takes)

-- ---- the words of a write

pub written_words : (known : Known) (form : IoForm) (line : IoLine) (words found : List (List ℕ))
    (hit last : Option IoReason) (node dest addr : ℕ) (load : List ℕ)
    → asks_to_write form ≡ true → io_values_of line ≡ io_place node dest addr (Bytes load)
    → words ≡ found
    → TakesAllIo known (AnEndpoint ∷ DeviceNumber ∷ Address ∷ data_field (is_streaming form) ∷ [])
    (io_place node dest addr (Bytes load)) found hit last
    → TakesAllIo known (io_fields_of form) (io_values_of line) words hit last
written_words known form line words found hit last node dest addr load writes values same taken =
    subst (λ fields. TakesAllIo known fields (io_values_of line) words hit last)
    (fields_of_write form writes)
    (rw (values, same) taken)
  where
    fields_of_write : (form : IoForm) → asks_to_write form ≡ true
        → AnEndpoint ∷ DeviceNumber ∷ Address ∷ data_field (is_streaming form) ∷ []
        ≡ io_fields_of form
    fields_of_write F.NWrite e = refl
    fields_of_write F.NWriteR e = refl
    fields_of_write F.SWrite e = refl
    fields_of_write F.Memory e = absurd cc
    fields_of_write F.NRead e = absurd cc
    fields_of_write F.Round e = absurd cc

-- ---- by the keyword

pub read_as : (known : Known) (names : List (List ℕ)) (switches : List Bool) (links : ℕ)
    (earlier : Earlier) (text keyword : List ℕ) (words : List (List ℕ)) (form wanted : IoForm)
    (hit : Option IoReason) (read : Result IoLine IoReason) → IsFabric known names switches links
    → words_of text ≡ keyword ∷ words → io_keyword_of form ≡ keyword → form ≡ wanted
    → hit ≡ standing_hit links earlier form → ReadsBehind known wanted words hit read
    → ReadsIo known earlier text read
read_as known names switches links earlier text keyword words form wanted hit read is begins named
    same stands behind =
    let keyed : words_of text ≡ io_keyword_of form ∷ words
    = begins ∙ ap (λ k. k ∷ words) (sym named) in
    let stood : hit ≡ standing_hit (length known.links) earlier form
    = stands ∙ ap (λ n. standing_hit n earlier form) is.linked in
    reads_behind known earlier text form words is.orderly keyed hit read stood
    (subst (λ f. ReadsBehind known f words hit read) (sym same) behind)

-- the same of a write, unless memory runs out
pub write_read_as : {E : Type 0} (names : List (List ℕ)) (switches : List Bool) (links : ℕ)
    (earlier : Earlier) (text keyword : List ℕ) (words : List (List ℕ)) (form : IoForm)
    (hit : Option IoReason) (result : Result (Result IoLine IoReason) E)
    → words_of text ≡ keyword ∷ words → io_keyword_of form ≡ keyword
    → hit ≡ standing_hit links earlier form
    → IfOk result (λ read. (known : Known) → IsFabric known names switches links
    → ReadsBehind known form words hit read)
    → IfOk result (λ read. (known : Known) → IsFabric known names switches links
    → ReadsIo known earlier text read)
write_read_as names switches links earlier text keyword words form hit (Ok read) begins named stands
    behind =
    λ known is. read_as known names switches links earlier text keyword words form form hit read is
    begins named refl stands (behind known is)
write_read_as names switches links earlier text keyword words form hit (Err e) begins named stands
    behind =
    tt
