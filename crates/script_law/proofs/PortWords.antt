-- A word says a port, or a reason hits it.
use Rattle.std.proofs.Common.{◌≡◌, ℕ, suc, ◌<◌, true, List, ◌∷◌, ◌++◌, length, length-append, take, sym, ap, ◌∙◌, inl, inr, arith}
use Rattle.std.specs.Fmt.{decimal}
use Rattle.std.proofs.Math.Seq.{take-append_seam}
use Rattle.std.proofs.lemmas.Bool.{cases_lt, cases_Bool}
use Rattle.fabric_script.specs.declared.ports.PortRef.{PortRef}
use Rattle.fabric_script.specs.declared.reasons.Reason.TheVariants.{BadName, UnknownNode, PortOutside}
use Rattle.fabric_script.specs.Names.{is_name}
use Rattle.fabric_script.specs.declared.fields.Field.TheVariants.{Port}
use Rattle.fabric_script.specs.declared.values.Value.TheVariants.{Port as PortValue}
use Rattle.fabric_script.specs.Texts.{port_text}
use Rattle.fabric_script.specs.Known.{Known, ports_of}
use Rattle.fabric_script.specs.Hits.{PortIsBad, PortIsUnknown, PortIsOutside, point_text}
use Rattle.fabric_script.proofs.Points.{point_text-parts}
use Rattle.script_law.proofs.Choosing.{Decided, both_or_not, same_or_not, first_or_none}
use Rattle.script_law.proofs.NumberWords.{SaysOrHit}
use Rattle.script_law.proofs.NodeWords.{node_or_none}

-- the first so many bytes of a word are a name, with a point and this port behind them
abbrev CutsAt : List ℕ → ℕ → ℕ → Type 0
CutsAt word port i = (is_name (take i word) ≡ true) × (word ≡ point_text (take i word) port)

-- it is so of some number of bytes
abbrev Cuts : List ℕ → ℕ → Type 0
Cuts word port = (i : ℕ) × (i < suc (length word)) × CutsAt word port i

named_or_not : (word : List ℕ) → Decided (is_name word ≡ true)
named_or_not word = elim (cases_Bool (is_name word)) [
  | inl named ↦ inl named
  | inr other ↦ inr (λ named. cc)
]

cuts_or_not : (word : List ℕ) (port : ℕ) → Decided (Cuts word port)
cuts_or_not word port = elim (first_or_none (CutsAt word port) (λ i. both_or_not
    (named_or_not (take i word)) (same_or_not word (point_text (take i word) port)))
    (suc (length word))) [
      | inl found ↦ inl (found.n, found.below, found.is)
      | inr none ↦ inr (λ cuts. none cuts.0 cuts.1 cuts.2)
    ]

-- a name and a port that make the word cut it
cuts_there : (word name : List ℕ) (port : ℕ) → is_name name ≡ true → word ≡ point_text name port
    → Cuts word port
cuts_there word name port named e =
    let parts : word ≡ name ++ 46 ∷ decimal port = e ∙ point_text-parts name port in
    let front : take (length name) word ≡ name = ap (λ w. take (length name) w) parts
    ∙ take-append_seam name (46 ∷ decimal port) in
    let short : length name < suc (length word) =
    omega (arith, ap length parts, length-append name (46 ∷ decimal port)) in (
      length name,
      short,
      (rw front named, e ∙ ap (λ w. point_text w port) (sym front)),
    )

pub port_or_hit : (known : Known) (word : List ℕ) → SaysOrHit known Port (λ p. PortValue p) word
port_or_hit known word = elim (first_or_none (Cuts word) (cuts_or_not word) 16) [
  | inl found ↦ by_node (take found.is.0 word) found.n found.below found.is.2.0
      found.is.2.1
  | inr none ↦ inr (
    BadName,
    PortIsBad (λ name port named below e.
        none port below (cuts_there word name port named e)),
  )
]
  where
    by_node : (name : List ℕ) (port : ℕ) → port < 16 → is_name name ≡ true
        → word ≡ point_text name port → SaysOrHit known Port (λ p. PortValue p) word
    by_node name port below named e = elim (node_or_none known.names name) [
      | inl node ↦
          let p : PortRef = record { node = node.0; port = port } in
          let says : word ≡ port_text known.names p =
          e ∙ ap (λ w. point_text w port) (sym node.2) in
          elim (cases_lt port (ports_of known.nodes node.0)) [
            | inl has ↦ inl (p, (node.1, below, has), says)
            | inr outside ↦ inr (PortOutside, PortIsOutside p node.1 below says outside)
          ]
      | inr none ↦ inr (UnknownNode, PortIsUnknown name port named below e none)
    ]
