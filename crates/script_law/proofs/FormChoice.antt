-- A word is the keyword of a form, or of none.
use Rattle.std.proofs.Common.{◌≡◌, ◌≢◌, ℕ, ◌||◌, Bool, true, false, List, [], ◌∷◌, refl, sym, ap, ◌∙◌, ◌⊎◌, inl, inr, arith}
use Rattle.std.specs.Str.{bytes_eq}
use Rattle.fabric_script.specs.declared.forms.Form.{Form}
use Rattle.fabric_script.specs.Forms.{keyword_of}
use Rattle.fabric_script.proofs.LineLaws.{all_forms}
use Rattle.script_law.proofs.Choosing.{same_or_not, differ}

-- one of the forms has this keyword
abbrev has_keyword : List Form → List ℕ → Bool
has_keyword [] word = false
has_keyword (form ∷ forms) word = bytes_eq (keyword_of form) word || has_keyword forms word

each_form : (form : Form) → has_keyword all_forms (keyword_of form) ≡ true
each_form form = grind arith

one_or_none : (forms : List Form) (word : List ℕ)
    → ((form : Form) × (keyword_of form ≡ word)) ⊎ (has_keyword forms word ≡ false)
one_or_none [] word = inr refl
one_or_none (form ∷ forms) word = elim (same_or_not (keyword_of form) word) [
  | inl same ↦ inl (form, same)
  | inr other ↦ elim (one_or_none forms word) [
    | inl found ↦ inl found
    | inr none ↦
        let differs = differ (keyword_of form) word other in
        inr (rw (differs, none))
  ]
]

pub form_or_none : (word : List ℕ)
    → ((form : Form) × (keyword_of form ≡ word)) ⊎ ((form : Form) → keyword_of form ≢ word)
form_or_none word = elim (one_or_none all_forms word) [
  | inl found ↦ inl found
  | inr none ↦ inr (λ form e.
      let has = ap (has_keyword all_forms) (sym e) ∙ each_form form in
      cc)
]
