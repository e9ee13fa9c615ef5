-- A word may name a new node, or a reason hits it; and it names a node, or a reason hits it.
use Rattle.std.proofs.Common.{◌≡◌, ℕ, ◌<◌, List, Contains, length, sym, ◌⊎◌, inl, inr}
use Rattle.std.proofs.lemmas.Bool.{cases_Bool}
use Rattle.fabric_script.specs.declared.reasons.Reason.{Reason}
use Rattle.fabric_script.specs.declared.reasons.Reason.TheVariants.{BadName, NameTaken, UnknownNode}
use Rattle.fabric_script.specs.Names.{is_name, name_of}
use Rattle.fabric_script.specs.declared.fields.Field.TheVariants.{NewName, Node}
use Rattle.fabric_script.specs.declared.values.Value.TheVariants.{Named, Node as NodeValue}
use Rattle.fabric_script.specs.Known.{Known}
use Rattle.fabric_script.specs.Hits.{FitsField, Hits, NewNameIsBad, NodeIsBad, NameIsTaken, NodeIsUnknown}
use Rattle.fabric_script.proofs.Exclusion.{named_is_there, there_is_named}
use Rattle.script_law.proofs.Choosing.{same_or_not, first_or_none}
use Rattle.script_law.proofs.NumberWords.{SaysOrHit}

-- the node that has the name, or none has it
pub node_or_none : (names : List (List ℕ)) (name : List ℕ)
    → ((n : ℕ) × (n < length names) × (name_of names n ≡ name)) ⊎ (Contains names name → ⊥)
node_or_none names name = elim (first_or_none (λ n. name_of names n ≡ name)
    (λ n. same_or_not (name_of names n) name) (length names)) [
      | inl found ↦ inl (found.n, found.below, found.is)
      | inr none ↦ inr (λ there.
          let at = there_is_named names name there in
          none at.0 at.1 at.2)
    ]

pub new_name_or_hit : (known : Known) (word : List ℕ)
    → FitsField known NewName (Named word) ⊎ ((reason : Reason) × Hits known reason NewName word)
new_name_or_hit known word = elim (cases_Bool (is_name word)) [
  | inl named ↦ elim (node_or_none known.names word) [
    | inl node ↦
        let there = named_is_there known.names node.0 word node.1 node.2 in
        inr (NameTaken, NameIsTaken named there)
    | inr free ↦ inl (named, free)
  ]
  | inr other ↦ inr (BadName, NewNameIsBad other)
]

pub node_or_hit : (known : Known) (word : List ℕ) → SaysOrHit known Node (λ n. NodeValue n) word
node_or_hit known word = elim (cases_Bool (is_name word)) [
  | inl named ↦ elim (node_or_none known.names word) [
    | inl node ↦ inl (node.0, node.1, sym node.2)
    | inr none ↦ inr (UnknownNode, NodeIsUnknown named none)
  ]
  | inr other ↦ inr (BadName, NodeIsBad other)
]
