-- The 16-bit device IDs that are known are those that lines give nodes.
use Rattle.std.proofs.Common.{◌≡◌, ◌≢◌, ℕ, ◌==◌, ◌&&◌, ◌||◌, not, cond, if◌then◌else◌, Bool, true, false, List, [], ◌∷◌, ◌++◌, ◌↔◌, ◌⊎◌, inl, inr, refl, sym, ◌∙◌, subst}
use Rattle.std.specs.List.{filter}
use Rattle.std.proofs.lemmas.Bool.{eq-eqb, eqb-true, ne_eqb}
use Rattle.fabric_script.specs.declared.reasons.Reason.TheVariants.{IdTaken}
use Rattle.fabric_script.specs.declared.lines.Line.{Line}
use Rattle.fabric_script.specs.declared.lines.Line.TheVariants.{Large}
use Rattle.fabric_script.specs.declared.lines.Numbered.{Numbered}
use Rattle.fabric_script.specs.Known.{Known, nothing, known_after, has_large_id, large_ids_after}
use Rattle.fabric_script.specs.LargeIds.{large_id_after, large_id_behind, large_id_of, IsTaken, known_behind}
use Rattle.fabric_script.specs.Lines.{new_name}
use Rattle.fabric_script.specs.Reading.{IsFree}
use Rattle.fabric_script.specs.Refusals.{id_is_taken}
use Rattle.fabric_script.specs.Scripts.{PassesFrom, ScriptPasses}

-- ---- a list has an ID of a node

abbrev In : List (ℕ × ℕ) → ℕ → ℕ → Type 0
In [] node id = ⊥
In (pair ∷ ids) node id = ((pair.0 ≡ node) × (pair.1 ≡ id)) ⊎ In ids node id

abbrev without : ℕ → List (ℕ × ℕ) → List (ℕ × ℕ)
without node ids = filter (λ pair. not (pair.0 == node)) ids

in_without : (node : ℕ) (ids : List (ℕ × ℕ)) (k id : ℕ) → k ≢ node → In ids k id
    → In (without node ids) k id
in_without node [] k id other is = absurd is
in_without node (pair ∷ ids) k id other is = elim is [
  | inl here ↦
      let stays : (pair.0 == node) ≡ false = ne_eqb pair.0 node (λ e. other (sym here.0 ∙ e)) in
      subst (λ b. In (cond (not b) (pair ∷ without node ids) (without node ids)) k id) (sym stays)
      (inl here)
  | inr there ↦ by_test (pair.0 == node) (in_without node ids k id other there)
]
  where
    by_test : (b : Bool) → In (without node ids) k id
        → In (cond (not b) (pair ∷ without node ids) (without node ids)) k id
    by_test true h = h
    by_test false h = inr h

from_without : (node : ℕ) (ids : List (ℕ × ℕ)) (k id : ℕ) → In (without node ids) k id
    → In ids k id × (k ≢ node)
from_without node [] k id is = absurd is
from_without node (pair ∷ ids) k id is =
    by_test (pair.0 == node) (λ h. from_without node ids k id h) refl is
  where
    by_test : (b : Bool) → (In (without node ids) k id → In ids k id × (k ≢ node))
        → (pair.0 == node) ≡ b
        → In (cond (not b) (pair ∷ without node ids) (without node ids)) k id
        → In (pair ∷ ids) k id × (k ≢ node)
    by_test true later e h =
        let rest = later h in
        (inr rest.0, rest.1)
    by_test false later e h = elim h [
      | inl here ↦ (
        inl here,
        λ same.
            let equal = eq-eqb pair.0 node (here.0 ∙ same) in
            absurd cc,
      )
      | inr there ↦
          let rest = later there in
          (inr rest.0, rest.1)
    ]

push_old : (ids : List (ℕ × ℕ)) (node id k v : ℕ) → In ids k v → In (ids ++ (node, id) ∷ []) k v
push_old [] node id k v is = absurd is
push_old (pair ∷ ids) node id k v is = elim is [
  | inl here ↦ inl here
  | inr there ↦ inr (push_old ids node id k v there)
]

push_new : (ids : List (ℕ × ℕ)) (node id : ℕ) → In (ids ++ (node, id) ∷ []) node id
push_new [] node id = inl (refl, refl)
push_new (pair ∷ ids) node id = inr (push_new ids node id)

pushed : (ids : List (ℕ × ℕ)) (node id k v : ℕ) → In (ids ++ (node, id) ∷ []) k v
    → In ids k v ⊎ ((node ≡ k) × (id ≡ v))
pushed [] node id k v is = elim is [
  | inl here ↦ inr here
  | inr there ↦ absurd there
]
pushed (pair ∷ ids) node id k v is = elim is [
  | inl here ↦ inl (inl here)
  | inr there ↦ elim (pushed ids node id k v there) [
    | inl before ↦ inl (inr before)
    | inr last ↦ inr last
  ]
]

has_from : (ids : List (ℕ × ℕ)) (node id other : ℕ) → other ≢ node → In ids other id
    → has_large_id ids node id ≡ true
has_from [] node id other apart is = absurd is
has_from (pair ∷ ids) node id other apart is = elim is [
  | inl here ↦
      let far = ne_eqb pair.0 node (λ e. apart (sym here.0 ∙ e)) in
      let same = eq-eqb pair.1 id here.1 in
      rw (far, same) refl
  | inr there ↦
      by_test (not (pair.0 == node) && (pair.1 == id))
      (has_from ids node id other apart there)
]
  where
    by_test : (b : Bool) → has_large_id ids node id ≡ true → b || has_large_id ids node id ≡ true
    by_test true h = refl
    by_test false h = h

has_is : (ids : List (ℕ × ℕ)) (node id : ℕ) → has_large_id ids node id ≡ true
    → (other : ℕ) × (other ≢ node) × In ids other id
has_is [] node id is = absurd cc
has_is (pair ∷ ids) node id is =
    by_test (pair.0 == node) (pair.1 == id) (λ h. has_is ids node id h) refl refl is
  where
    behind : (other : ℕ) × (other ≢ node) × In ids other id
        → (other : ℕ) × (other ≢ node) × In (pair ∷ ids) other id
    behind rest = (rest.0, rest.1, inr rest.2)

    by_test : (b c : Bool)
        → (has_large_id ids node id ≡ true → (other : ℕ) × (other ≢ node) × In ids other id)
        → (pair.0 == node) ≡ b → (pair.1 == id) ≡ c
        → (not b && c) || has_large_id ids node id ≡ true
        → (other : ℕ) × (other ≢ node) × In (pair ∷ ids) other id
    by_test true c later e f h = behind (later h)
    by_test false false later e f h = behind (later h)
    by_test false true later e f h = (
      pair.0,
      λ same.
          let equal = eq-eqb pair.0 node same in
          absurd cc,
      inl (refl, eqb-true pair.1 id f),
    )

-- ---- what is known agrees with what the lines say

record Agrees (ids : List (ℕ × ℕ)) (says : ℕ → ℕ) : Type 0 where
  told : (node id : ℕ) → In ids node id → says node ≡ id
  kept : (node : ℕ) → says node ≢ 65535 → In ids node (says node)

agrees_large : (ids : List (ℕ × ℕ)) (says : ℕ → ℕ) (node id : ℕ) → Agrees ids says
    → Agrees (large_ids_after ids (Large node id))
    (λ k. large_id_after (says k) (Large node id) k)
agrees_large ids says node id agrees = record {
  told = told_now;
  kept = λ k. by_kept k (node == k) refl;
}
  where
    told_now : (k v : ℕ) → In (without node ids ++ (node, id) ∷ []) k v
        → (if node == k then id else says k) ≡ v
    told_now k v is = elim (pushed (without node ids) node id k v is) [
      | inl before ↦
          let rest = from_without node ids k v before in
          let far = ne_eqb node k (λ e. rest.1 (sym e)) in
          rw far (agrees.told k v rest.0)
      | inr last ↦
          let same = eq-eqb node k last.0 in
          rw same last.1
    ]

    by_kept : (k : ℕ) (b : Bool) → (node == k) ≡ b
        → (if node == k then id else says k) ≢ 65535
        → In (without node ids ++ (node, id) ∷ []) k (if node == k then id else says k)
    by_kept k true e some =
        rw e
        (subst (λ n. In (without node ids ++ (node, id) ∷ []) n id) (eqb-true node k e)
        (push_new (without node ids) node id))
    by_kept k false e some =
        rw e
        (push_old (without node ids) node id k (says k)
        (in_without node ids k (says k)
        (λ same.
        let equal = eq-eqb node k (sym same) in
        absurd cc)
        (agrees.kept k (rw e at some))))

agrees_after : (ids : List (ℕ × ℕ)) (says : ℕ → ℕ) (line : Line) → Agrees ids says
    → Agrees (large_ids_after ids line) (λ k. large_id_after (says k) line k)
agrees_after ids says (Large node id) agrees = agrees_large ids says node id agrees
agrees_after ids says _ agrees = record { told = agrees.told; kept = agrees.kept }

agrees_behind : (known : Known) (names : List (List ℕ)) (lines : List Numbered) (says : ℕ → ℕ)
    → Agrees known.large_ids says
    → Agrees (known_behind known names lines).large_ids (λ k. large_id_behind (says k) lines k)
agrees_behind known names [] says agrees = agrees
agrees_behind known names (line ∷ lines) says agrees =
    agrees_behind (known_after known (new_name names line.line) line.line) names lines
    (λ k. large_id_after (says k) line.line k)
    (agrees_after known.large_ids says line.line agrees)

agrees_nothing : Agrees [] (λ node. 65535)
agrees_nothing = record { told = λ node id is. absurd is; kept = λ node some. absurd (some refl) }

-- ---- the laws

pub taken_exactly : (names : List (List ℕ)) (lines : List Numbered) (node id : ℕ)
    → (id_is_taken (known_behind nothing names lines) (Large node id) ≡ true)
    ↔ IsTaken lines node id
taken_exactly names lines node id = (there, back)
  where
    ids : List (ℕ × ℕ)
    ids = (known_behind nothing names lines).large_ids

    agrees : Agrees ids (large_id_of lines)
    agrees = agrees_behind nothing names lines (λ k. 65535) agrees_nothing

    parts : (b c : Bool) → (id == 65535) ≡ b → not b && c ≡ true → (id ≢ 65535) × (c ≡ true)
    parts true c e is = absurd cc
    parts false c e is = (λ same. let equal = eq-eqb id 65535 same in absurd cc, is)

    there : not (id == 65535) && has_large_id ids node id ≡ true → IsTaken lines node id
    there is =
        let both = parts (id == 65535) (has_large_id ids node id) refl is in
        let found = has_is ids node id both.1 in
        record {
          some = both.0;
          other = found.0;
          apart = found.1;
          has = agrees.told found.0 id found.2;
        }

    back : IsTaken lines node id → not (id == 65535) && has_large_id ids node id ≡ true
    back taken =
        let there = subst (λ n. In ids taken.other n) taken.has
        (agrees.kept taken.other (λ e. taken.some (sym taken.has ∙ e))) in
        let has = has_from ids node id taken.other taken.apart there in
        let far = ne_eqb id 65535 taken.some in
        rw (far, has) refl

-- no two nodes have one ID
abbrev AreApart : (ℕ → ℕ) → Type 0
AreApart says = (m n : ℕ) → says m ≡ says n → says m ≢ 65535 → m ≡ n

apart_large : (ids : List (ℕ × ℕ)) (says : ℕ → ℕ) (node id : ℕ) → Agrees ids says → AreApart says
    → not (id == 65535) && has_large_id ids node id ≡ false
    → AreApart (λ k. large_id_after (says k) (Large node id) k)
apart_large ids says node id agrees apart free =
    λ m n. by_tests m n (node == m) (node == n) refl refl
  where
    -- a node other than this has the ID
    held : (k : ℕ) → (node == k) ≡ false → says k ≡ id → id ≢ 65535 → ⊥
    held k far is some =
        let other : k ≢ node = λ same. let equal = eq-eqb node k (sym same) in absurd cc in
        let there = subst (λ v. In ids k v) is (agrees.kept k (λ e. some (sym is ∙ e))) in
        let has = has_from ids node id k other there in
        let big = ne_eqb id 65535 some in
        let taken = rw (has, big) at free in
        absurd cc

    by_tests : (m n : ℕ) (b c : Bool) → (node == m) ≡ b → (node == n) ≡ c
        → (if node == m then id else says m) ≡ (if node == n then id else says n)
        → (if node == m then id else says m) ≢ 65535 → m ≡ n
    by_tests m n true true e f same some = sym (eqb-true node m e) ∙ eqb-true node n f
    by_tests m n true false e f same some =
        absurd (held n f (sym (rw (e, f) at same)) (rw e at some))
    by_tests m n false true e f same some =
        absurd (held m e (rw (e, f) at same) (λ is. (rw e at some) ((rw (e, f) at same) ∙ is)))
    by_tests m n false false e f same some = apart m n (rw (e, f) at same) (rw e at some)

apart_after : (known : Known) (says : ℕ → ℕ) (line : Line) → Agrees known.large_ids says
    → AreApart says → IsFree known line → AreApart (λ k. large_id_after (says k) line k)
apart_after known says (Large node id) agrees apart free =
    apart_large known.large_ids says node id agrees apart (free IdTaken)
apart_after known says _ agrees apart free = apart

apart_from : (known : Known) (names : List (List ℕ)) (lines : List Numbered) (says : ℕ → ℕ)
    → Agrees known.large_ids says → AreApart says → PassesFrom known names lines
    → AreApart (λ k. large_id_behind (says k) lines k)
apart_from known names [] says agrees apart passes = apart
apart_from known names (line ∷ lines) says agrees apart passes =
    apart_from (known_after known (new_name names line.line) line.line) names lines
    (λ k. large_id_after (says k) line.line k)
    (agrees_after known.large_ids says line.line agrees)
    (apart_after known says line.line agrees apart passes.1) passes.2

pub large_ids_apart : (names : List (List ℕ)) (lines : List Numbered) → ScriptPasses names lines
    → (m n : ℕ) → large_id_of lines m ≡ large_id_of lines n → large_id_of lines m ≢ 65535 → m ≡ n
large_ids_apart names lines passes =
    apart_from nothing names lines (λ k. 65535) agrees_nothing
    (λ m n same some. absurd (some refl)) passes
