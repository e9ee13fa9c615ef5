-- What the reading of a text finds.
use Rattle.std.proofs.Common.{◌≡◌, ◌≢◌, ℕ, ◌<◌, ◌≤◌, ◌==◌, true, List, [], ◌∷◌, ◌++◌, map, length, slice_get, Some, None, ◌⊎◌, inl, inr, refl, sym, ap, ◌∙◌, subst, arith}
use Rattle.std.proofs.lemmas.List.{append-nil, length-map}
use Rattle.std.proofs.lemmas.Bool.{cases_lt}
use Rattle.std.proofs.lemmas.List.Splits.{length-slice_split}
use Rattle.fabric_script.specs.declared.forms.Form.{Form}
use Rattle.fabric_script.specs.declared.reasons.Reason.{Reason}
use Rattle.fabric_script.specs.declared.reasons.Reason.TheVariants.{UnknownLine}
use Rattle.fabric_script.specs.declared.lines.Line.{Line}
use Rattle.fabric_script.specs.declared.lines.Line.TheVariants.{Endpoint, Switch}
use Rattle.fabric_script.specs.Forms.{keyword_of, fields_of}
use Rattle.fabric_script.specs.Texts.{Value, value_text}
use Rattle.fabric_script.specs.Lines.{form_of, values_of, line_words, words_of}
use Rattle.fabric_script.specs.Known.{Known, IsOrderly}
use Rattle.fabric_script.specs.Reasons.{reason_number}
use Rattle.fabric_script.specs.Hits.{FitAll, HitsOne}
use Rattle.fabric_script.specs.Words.{Left, TakesAll, reason_at_end, first_word, after_word}
use Rattle.fabric_script.specs.LineWords.{line_saying}
use Rattle.fabric_script.specs.Values.{AreWithin}
use Rattle.fabric_script.specs.Refusals.{refuses}
use Rattle.fabric_script.specs.Reading.{HasForm, Says, HitsText, NoForm, AWord, TheLine, Spells, LeastHit, new_name_in, second_word}
use Rattle.fabric_script.proofs.Outcomes.{Outcome, outcome, number_in_range, rank}
use Rattle.fabric_script.proofs.ValueLaws.{name_in, within, form_of-line_saying, values_of-line_saying, line_saying-next}
use Rattle.fabric_script.proofs.LineLaws.{keyword-injective, same_line, length-fit, no_hit_one}

-- a new node's name is the first word behind the keyword; other lines have none
own_values : (names : List (List ℕ)) (text : List ℕ) (keyword : List ℕ) (new : List ℕ)
    (line : Line) → words_of text ≡ keyword ∷ map (value_text names) (values_of new line)
    → values_of new line ≡ values_of (new_name_in text line) line
own_values names text keyword new (Endpoint name id) e =
    ap (λ ws. values_of (second_word ws) (Endpoint name id)) (sym e)
own_values names text keyword new (Switch name ports) e =
    ap (λ ws. values_of (second_word ws) (Switch name ports)) (sym e)
own_values names text keyword new _ e = refl

-- ---- a text that says a line is hit by none but those of the line

-- it has the form of the line, and no reason hits its words
says_form : (known : Known) (text : List ℕ) (line : Line) → Says known text line
    → HasForm (form_of line) text
says_form known text line says = record {
  rest = map (value_text known.names) (values_of (new_name_in text line) line);
  words = says.words;
  count = length-map (values_of (new_name_in text line) line) (value_text known.names)
      ∙ length-fit known (fields_of (form_of line)) (values_of (new_name_in text line) line)
      says.may.fit;
}

says_no_word : (known : Known) (text : List ℕ) (line : Line) (form : Form) (has : HasForm form text)
    (reason : Reason) → IsOrderly known → Says known text line
    → HitsOne known reason (fields_of form) has.rest → ⊥
says_no_word known text line form has reason orderly says h =
    let all : keyword_of form ∷ has.rest ≡ line_words known.names (new_name_in text line) line =
    sym has.words ∙ says.words in
    let same : form ≡ form_of line = keyword-injective form (form_of line) cc in
    let rest : has.rest ≡ map (value_text known.names) (values_of (new_name_in text line) line) =
    cc in
    no_hit_one known (fields_of (form_of line)) (values_of (new_name_in text line) line) reason
    orderly says.may.fit
    (subst (λ ws. HitsOne known reason (fields_of (form_of line)) ws) rest
    (subst (λ f. HitsOne known reason (fields_of f) has.rest) same h))

-- what hits it is a reason of the line
pub says_hit : (known : Known) (text : List ℕ) (line : Line) (reason : Reason) → IsOrderly known
    → Says known text line → HitsText known text reason → refuses known reason line ≡ true
says_hit known text line reason orderly says (NoForm none) =
    absurd (none (form_of line) (says_form known text line says))
says_hit known text line reason orderly says (AWord form has h) =
    absurd (says_no_word known text line form has reason orderly says h)
says_hit known text line reason orderly says (TheLine other says' refuses') =
    let same = same_line known text other line orderly says' says in
    subst (λ l. refuses known reason l ≡ true) same refuses'

-- no reason hits a text that is a line
pub spelled_no_hit : (known : Known) (text : List ℕ) (line : Line) (reason : Reason)
    → IsOrderly known → Spells known text line → HitsText known text reason → ⊥
spelled_no_hit known text line reason orderly spells hits =
    let hit = says_hit known text line reason orderly spells.says hits in
    let free = spells.free reason in
    cc

-- ---- what reading finds

pub reads_no_form : (known : Known) (text : List ℕ)
    → ((form : Form) → keyword_of form ≢ first_word (words_of text))
    → LeastHit known text UnknownLine
reads_no_form known text none = record {
  hits = NoForm (λ form has. none form (sym (ap first_word has.words)));
  least = λ other h. (number_in_range other).0;
}

-- a form whose words are not as many as the text has
other_count : (known : Known) (text : List ℕ) (form : Form) (rest : List (List ℕ)) → words_of text
    ≡ keyword_of form ∷ rest → length rest ≢ length (fields_of form)
    → LeastHit known text UnknownLine
other_count known text form rest words other = record {
  hits = NoForm (λ form' has.
      let all : keyword_of form' ∷ has.rest ≡ keyword_of form ∷ rest = sym has.words ∙ words in
      let same : form' ≡ form = keyword-injective form' form cc in
      let rest_too : has.rest ≡ rest = cc in
      other (ap length (sym rest_too) ∙ has.count ∙ ap (λ f. length (fields_of f)) same));
  least = λ reason h. (number_in_range reason).0;
}

-- a reason that hits a word, where none hits one that is less
a_word : (known : Known) (text : List ℕ) (form : Form) (rest : List (List ℕ)) (reason : Reason)
    → IsOrderly known → words_of text ≡ keyword_of form ∷ rest → length rest
    ≡ length (fields_of form) → HitsOne known reason (fields_of form) rest
    → ((other : Reason) → HitsOne known other (fields_of form) rest → reason_number reason
    ≤ reason_number other) → LeastHit known text reason
a_word known text form rest reason orderly words count hits least =
    let has : HasForm form text = record { rest = rest; words = words; count = count } in
    record { hits = AWord form has hits; least = all has }
  where
    all : HasForm form text → (other : Reason) → HitsText known text other → reason_number reason
        ≤ reason_number other
    all has other (NoForm none) = absurd (none form has)
    all has other (AWord form' has' h) =
        let both : keyword_of form' ∷ has'.rest ≡ keyword_of form ∷ rest = sym has'.words ∙ words in
        let same : form' ≡ form = keyword-injective form' form cc in
        let rest_too : has'.rest ≡ rest = cc in
        least other
        (subst (λ ws. HitsOne known other (fields_of form) ws) rest_too
        (subst (λ f. HitsOne known other (fields_of f) has'.rest) same h))
    all has other (TheLine line says refuses') =
        absurd (says_no_word known text line form record {
          rest = rest;
          words = words;
          count = count;
        } reason orderly says hits)

-- the reason at the end, by the words that are left
end_of-none : (left : Left) → left.words ≡ [] → reason_at_end left ≡ left.hit
end_of-none left none = ap (λ ws. reason_at_end record { words = ws; hit = left.hit }) none

end_of-more : (left : Left) (word : List ℕ) (words : List (List ℕ)) → left.words ≡ word ∷ words
    → reason_at_end left ≡ Some UnknownLine
end_of-more left word words more =
    ap (λ ws. reason_at_end record { words = ws; hit = left.hit }) more

end_of-unknown : (words : List (List ℕ))
    → reason_at_end record { words = words; hit = Some UnknownLine }
    ≡ Some UnknownLine
end_of-unknown [] = refl
end_of-unknown (word ∷ words) = refl

-- the words behind the keyword, before any was taken
abbrev pub Behind : List ℕ → Form → Left → Type 0
Behind text form left = (words_of text ≡ keyword_of form ∷ left.words) × (left.hit ≡ None)

cut_words : (ws : List (List ℕ)) → 0 < length ws
    → (ws ≡ first_word ws ∷ (after_word record { words = ws; hit = None }).words)
    × ((after_word record { words = ws; hit = None }).hit ≡ None)
cut_words [] some = absurd (omega arith)
cut_words (w ∷ ws) some = (refl, refl)

pub behind_first : (text : List ℕ) (form : Form) (word : List ℕ) (all left : Left) → all
    ≡ record { words = words_of text; hit = None } → word ≡ first_word all.words → left
    ≡ after_word all → keyword_of form ≡ word → Behind text form left
behind_first text form word all left begin first rest is =
    let cut =
    cut_words (words_of text) (omega (arith, length-slice_split (λ byte. byte == 32) text))
    in
    let after : left ≡ after_word record { words = words_of text; hit = None } =
    rest ∙ ap (λ l. after_word l) begin in
    let head : first_word (words_of text) ≡ keyword_of form =
    sym (is ∙ first ∙ ap (λ l. first_word l.words) begin) in (
      cut.0 ∙ ap (λ w. w ∷ (after_word record { words = words_of text; hit = None }).words) head
          ∙ ap (λ ws. keyword_of form ∷ ws) (sym (ap (λ l. l.words) after)),
      ap (λ l. l.hit) after
          ∙ cut.1,
    )

pub reads_hit : (known : Known) (text : List ℕ) (form : Form) (left left_after : Left)
    (values : List Value) (reason : Reason) → IsOrderly known → Behind text form left
    → TakesAll known (fields_of form) values left left_after
    → reason_at_end left_after ≡ Some reason → LeastHit known text reason
reads_hit known text form left left_after values reason orderly behind takes ended =
    by_count (cases_lt (length left.words) (length (fields_of form)))
  where
    o : Outcome known (fields_of form) values left.words left.hit
        left_after.words left_after.hit
    o = outcome known (fields_of form) values left left_after
        orderly takes

    unknown : reason_at_end left_after ≡ Some UnknownLine
        → length left.words ≢ length (fields_of form)
        → LeastHit known text reason
    unknown is other =
        let same : UnknownLine ≡ reason = let e = sym is ∙ ended in cc in
        subst (λ r. LeastHit known text r) same
        (other_count known text form left.words behind.0 other)

    by_from : length left.words ≡ length (fields_of form) → left_after.hit ≡ Some reason
        → (left_after.hit ≡ left.hit)
        ⊎ ((r : Reason) × HitsOne known r (fields_of form) left.words × (left_after.hit ≡ Some r))
        → LeastHit known text reason
    by_from count noted (inl same) = absurd (let e = sym noted ∙ same ∙ behind.1 in cc)
    by_from count noted (inr found) =
        let same : found.0 ≡ reason = let e = sym found.2 ∙ noted in cc in
        a_word known text form left.words reason orderly behind.0 count
        (subst (λ r. HitsOne known r (fields_of form) left.words) same found.1)
        (λ other h.
        let low = o.least other h in
        let at : rank left_after.hit ≡ reason_number reason = ap rank noted in
        omega arith)

    by_rest : length (fields_of form) ≤ length left.words → (rest : List (List ℕ))
        → left_after.words ≡ rest → LeastHit known text reason
    by_rest enough [] none =
        let parts = o.left enough in
        let count : length left.words ≡ length (fields_of form) =
        omega (arith, parts, ap length none) in
        by_from count (sym (end_of-none left_after none) ∙ ended) (o.from enough)
    by_rest enough (word ∷ words) more =
        let parts = o.left enough in
        unknown (end_of-more left_after word words more)
        (λ same. omega (arith, parts, ap length more, same))

    by_count : (length left.words < length (fields_of form))
        ⊎ (length (fields_of form) ≤ length left.words) → LeastHit known text reason
    by_count (inl few) =
        let noted = ap (λ h. reason_at_end record { words = left_after.words; hit = h }) (o.few few)
        ∙ end_of-unknown left_after.words in
        unknown noted (λ same. omega arith)
    by_count (inr enough) = by_rest enough left_after.words refl

-- the words of a form that no reason hits: the values fit, and the words spell them
pub record AreSaid (known : Known) (form : Form) (left : Left) (values : List Value) : Type 0 where
  pub fit : FitAll known (fields_of form) values
  pub words : left.words ≡ map (value_text known.names) values

pub reads_none : (known : Known) (text : List ℕ) (form : Form) (left left_after : Left)
    (values : List Value) → IsOrderly known → Behind text form left
    → TakesAll known (fields_of form) values left left_after → reason_at_end left_after ≡ None
    → AreSaid known form left values
reads_none known text form left left_after values orderly behind takes ended =
    by_rest left_after.words refl
  where
    o : Outcome known (fields_of form) values left.words left.hit left_after.words left_after.hit
    o = outcome known (fields_of form) values left left_after orderly takes

    by_rest : (rest : List (List ℕ)) → left_after.words ≡ rest → AreSaid known form left values
    by_rest (word ∷ words) more =
        let e = sym (end_of-more left_after word words more) ∙ ended in
        absurd cc
    by_rest [] none =
        let f = o.fits (sym (end_of-none left_after none) ∙ ended) in
        record {
          fit = f.1;
          words = f.2 ∙ ap (λ r. map (value_text known.names) values ++ r) none
              ∙ append-nil (map (value_text known.names) values);
        }

-- the line of such values is said
pub says_line : (known : Known) (text : List ℕ) (form : Form) (left : Left) (values : List Value)
    → Behind text form left → AreSaid known form left values
    → Says known text (line_saying form (length known.names) values)
says_line known text form left values behind said = record {
  words = words ∙ ap (λ vs. keyword_of (form_of line) ∷ map (value_text known.names) vs) own;
  may = record {
    fit = subst (λ vs. FitAll known (fields_of (form_of line)) vs) own
        (subst (λ vs. FitAll known (fields_of (form_of line)) vs) (sym is)
        (subst (λ f. FitAll known (fields_of f) values) (sym form_is) said.fit));
    next = line_saying-next known form values;
  };
}
  where
    line : Line
    line = line_saying form (length known.names) values

    new : List ℕ
    new = name_in (slice_get values 0)

    form_is : form_of line ≡ form
    form_is = form_of-line_saying form (length known.names) values

    is : values_of new line ≡ values
    is = values_of-line_saying known form (length known.names) values said.fit

    words : words_of text
        ≡ keyword_of (form_of line) ∷ map (value_text known.names) (values_of new line)
    words = behind.0 ∙ ap (λ ws. keyword_of form ∷ ws) said.words
        ∙ ap (λ vs. keyword_of form ∷ map (value_text known.names) vs) (sym is)
        ∙ ap (λ f. keyword_of f ∷ map (value_text known.names) (values_of new line)) (sym form_is)

    own : values_of new line ≡ values_of (new_name_in text line) line
    own = own_values known.names text (keyword_of (form_of line)) new line words

-- the line that is made of values that no reason hits, and their numbers
pub says_made : (known : Known) (text : List ℕ) (form : Form) (left left_after : Left)
    (values given : List Value) (line : Line) → IsOrderly known → Behind text form left
    → TakesAll known (fields_of form) values left left_after → reason_at_end left_after ≡ None
    → given ≡ values → line ≡ line_saying form (length known.names) given
    → AreWithin (fields_of form) (slice_get given) × Says known text line
says_made known text form left left_after values given line orderly behind takes ended same made =
    let said = reads_none known text form left left_after values orderly behind takes ended in (
      rw same (within known (fields_of form) values said.fit),
      rw (made, same) (says_line known text form left values behind said),
    )

-- a line that a reason hits, where none hits it that is less
pub reads_refused : (known : Known) (text : List ℕ) (line : Line) (reason : Reason)
    → IsOrderly known → Says known text line → refuses known reason line ≡ true
    → ((other : Reason) → refuses known other line ≡ true → reason_number reason
    ≤ reason_number other) → LeastHit known text reason
reads_refused known text line reason orderly says hit least = record {
  hits = TheLine line says hit;
  least = λ other h. least other (says_hit known text line other orderly says h);
}
