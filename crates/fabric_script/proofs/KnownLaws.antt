-- What is known with one more line.
use Rattle.std.proofs.Common.{◌≡◌, ◌≢◌, ℕ, zero, suc, ◌+◌, ◌<◌, ◌≤◌, nat_le, nat_lt, Bool, true, false, ◌&&◌, ◌||◌, List, [], ◌∷◌, ◌++◌, Contains, length, length-append, refl, sym, ap, ◌∙◌, ◌⊎◌, inl, inr, arith}
use Rattle.std.proofs.lemmas.Bool.{cases_lt}
use Rattle.std.proofs.lemmas.Bool.Decides.{nat_tests}
use Rattle.std.proofs.lemmas.List.{get_or_append_left}
use Rattle.std.proofs.Math.Seq.{get_or-append_seam}
use Rattle.fabric_script.specs.declared.ports.PortRef.{PortRef}
use Rattle.fabric_script.specs.declared.known.Node.{Node}
use Rattle.fabric_script.specs.declared.known.Mode.{Mode}
use Rattle.fabric_script.specs.declared.reasons.Reason.TheVariants.{TooMuchWork}
use Rattle.fabric_script.specs.declared.lines.Line.{Line}
use Rattle.fabric_script.specs.declared.lines.Line.TheVariants.{Endpoint, Switch, Link}
use Rattle.fabric_script.specs.Names.{is_name, name_of}
use Rattle.fabric_script.specs.Known.{Known, IsOrderly, known_after, names_after, nodes_after, links_after, ports_of, cost_of, nothing_in}
use Rattle.fabric_script.specs.Refusals.{makes_node, counts_work, exceeds}
use Rattle.fabric_script.specs.Reading.{MayBe, IsFree}
use Rattle.fabric_script.proofs.Exclusion.{named_is_there}

not_either : (a b : Bool) → a || b ≡ false → (a ≡ false) × (b ≡ false)
not_either true b e = absurd cc
not_either false b e = (refl, e)

-- work is counted, but for one event alone
counts : (mode : Mode) → mode ≢ Mode.Event → counts_work mode ≡ true
counts Mode.Script apart = refl
counts Mode.SetUp apart = refl
counts Mode.Event apart = absurd (apart refl)

within_bounds : (known : Known) (line : Line) → known.mode ≢ Mode.Event → IsFree known line
    → exceeds known line ≡ false
within_bounds known line apart free =
    ap (λ counted. counted && exceeds known line) (sym (counts known.mode apart)) ∙ free TooMuchWork

-- a line that is free is within the cost, and a node within the number of nodes
pub within_cost : (known : Known) (line : Line) → known.mode ≢ Mode.Event → IsFree known line
    → known.cost + cost_of known.links line ≤ 100000
within_cost known line apart free =
    let parts = not_either (makes_node line && nat_le 64 (length known.names))
    (nat_lt 100000 (known.cost + cost_of known.links line))
    (within_bounds known line apart free) in
    let test = parts.1 in
    grind (arith, nat_tests, test)

pub within_nodes : (known : Known) (line : Line) → known.mode ≢ Mode.Event → IsFree known line
    → makes_node line ≡ true → length known.names < 64
within_nodes known line apart free makes =
    let parts = not_either (makes_node line && nat_le 64 (length known.names))
    (nat_lt 100000 (known.cost + cost_of known.links line))
    (within_bounds known line apart free) in
    let test : nat_le 64 (length known.names) ≡ false = rw makes at parts.0 in
    grind (arith, nat_tests, test)

pub nothing-orderly : (mode : Mode) → IsOrderly (nothing_in mode)
nothing-orderly mode = record {
  named = λ n within. absurd (omega arith);
  apart = λ m n within within' e. absurd (omega arith);
}

-- one more name, which is none of the others
pushed_old : (names : List (List ℕ)) (new : List ℕ) (n : ℕ) → n < length names
    → name_of (names ++ new ∷ []) n ≡ name_of names n
pushed_old names new n within = get_or_append_left names (new ∷ []) [] n within

pushed_new : (names : List (List ℕ)) (new : List ℕ) (n : ℕ) → n ≡ length names
    → name_of (names ++ new ∷ []) n ≡ new
pushed_new names new n last = ap (λ k. name_of (names ++ new ∷ []) k) last
    ∙ get_or-append_seam names new [] []

last_or_before : (names : List (List ℕ)) (new : List ℕ) (n : ℕ) → n < length (names ++ new ∷ [])
    → (n < length names) ⊎ (n ≡ length names)
last_or_before names new n within = elim (cases_lt n (length names)) [
  | inl before ↦ inl before
  | inr last ↦ inr (omega (arith, length-append names (new ∷ [])))
]

pushed_named : (names : List (List ℕ)) (new : List ℕ)
    → ((n : ℕ) → n < length names → is_name (name_of names n) ≡ true) → is_name new ≡ true → (n : ℕ)
    → n < length (names ++ new ∷ []) → is_name (name_of (names ++ new ∷ []) n) ≡ true
pushed_named names new named is n within = elim (last_or_before names new n within) [
  | inl before ↦ ap is_name (pushed_old names new n before) ∙ named n before
  | inr last ↦ ap is_name (pushed_new names new n last) ∙ is
]

pushed_apart : (names : List (List ℕ)) (new : List ℕ)
    → ((m n : ℕ) → m < length names → n < length names → name_of names m ≡ name_of names n → m ≡ n)
    → ¬ Contains names new → (m n : ℕ) → m < length (names ++ new ∷ []) → n
    < length (names ++ new ∷ []) → name_of (names ++ new ∷ []) m ≡ name_of (names ++ new ∷ []) n → m
    ≡ n
pushed_apart names new apart none m n within within' e = elim (last_or_before names new m within) [
  | inl before ↦ elim (last_or_before names new n within') [
    | inl before' ↦ apart m n before before'
        (sym (pushed_old names new m before) ∙ e ∙ pushed_old names new n before')
    | inr last' ↦ absurd
        (none (named_is_there names m new before
        (sym (pushed_old names new m before) ∙ e ∙ pushed_new names new n last')))
  ]
  | inr last ↦ elim (last_or_before names new n within') [
    | inl before' ↦ absurd
        (none (named_is_there names n new before'
        (sym (pushed_old names new n before') ∙ sym e ∙ pushed_new names new m last)))
    | inr last' ↦ last ∙ sym last'
  ]
]

pub orderly-after : (known : Known) (new : List ℕ) (line : Line) → IsOrderly known
    → MayBe known new line → IsOrderly (known_after known new line)
orderly-after known new (Endpoint name id) orderly may = record {
  named = pushed_named known.names new orderly.named may.fit.0.0;
  apart = pushed_apart known.names new orderly.apart may.fit.0.1;
}
orderly-after known new (Switch name ports) orderly may = record {
  named = pushed_named known.names new orderly.named may.fit.0.0;
  apart = pushed_apart known.names new orderly.apart may.fit.0.1;
}
orderly-after known new _ orderly may = record { named = orderly.named; apart = orderly.apart }

pub links-after : (links : List (PortRef × PortRef)) (line : Line) → length (links_after links line)
    ≤ length links + 1
links-after links (Link a b) = omega (arith, length-append links ((a, b) ∷ []))
links-after links _ = omega arith

-- where no node has a second port, none has one behind another endpoint
pub one_port-after : (nodes : List Node) (name id : ℕ) → ((n : ℕ) → ports_of nodes n ≤ 1) → (n : ℕ)
    → ports_of (nodes_after nodes (Endpoint name id)) n ≤ 1
one_port-after [] name id few zero = omega arith
one_port-after [] name id few (suc n) = omega arith
one_port-after (node ∷ nodes) name id few zero = few 0
one_port-after (node ∷ nodes) name id few (suc n) = one_port-after nodes name id (λ m. few (suc m))
    n

-- ---- each node has a name

one_more : {A B : Type 0} (xs : List A) (ys : List B) (x : A) (y : B) → length xs ≡ length ys
    → length (xs ++ x ∷ []) ≡ length (ys ++ y ∷ [])
one_more xs ys x y same = omega (arith, length-append xs (x ∷ []), length-append ys (y ∷ []), same)

pub count-after : (known : Known) (new : List ℕ) (line : Line)
    → length known.nodes ≡ length known.names
    → length (nodes_after known.nodes line) ≡ length (names_after known.names new line)
count-after known new (Endpoint name id) same = one_more known.nodes known.names _ new same
count-after known new (Switch name ports) same = one_more known.nodes known.names _ new same
count-after known new _ same = same
