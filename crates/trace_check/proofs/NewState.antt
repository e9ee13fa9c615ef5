-- What is kept of each port before the first line.
use Rattle.std.proofs.Common.{◌≡◌, ℕ, zero, suc, ◌+◌, ◌*◌, ◌++◌, List, [], ◌∷◌, length, Some, slice_get, sym, ap, ◌∙◌, subst, arith, length-append}
use Rattle.std.specs.List.{AllByRecursion}
use Rattle.rio_chars.specs.declared.chars.Char.{Char}
use Rattle.trace_check.specs.declared.hearing.Hearing.{Hearing}
use Rattle.trace_check.specs.Running.{KeepsRun, new_run}
use Rattle.trace_check.specs.Tables.{IsTable, table_place}

-- so many wires are empty, and so many ports have got nothing
pub record AreNew (n : ℕ) (wires : List (List Char)) (hearings : List Hearing) : Type 0 where
  pub wires_are : length wires ≡ n
  pub hearings_are : length hearings ≡ n
  pub empty : AllByRecursion (λ chars. chars ≡ []) wires
  pub quiet : AllByRecursion (KeepsRun new_run) hearings

pub none_new : (wires : List (List Char)) (hearings : List Hearing) → wires ≡ [] → hearings ≡ []
    → AreNew 0 wires hearings
none_new wires hearings none quiet = record {
  wires_are = ap length none;
  hearings_are = ap length quiet;
  empty = subst (AllByRecursion (λ chars. chars ≡ [])) (sym none) tt;
  quiet = subst (AllByRecursion (KeepsRun new_run)) (sym quiet) tt;
}

module _ {A : Type 0} (Is : A → Type 0) where
  all_more : (list : List A) (x : A) → AllByRecursion Is list → Is x
      → AllByRecursion Is (list ++ x ∷ [])
  all_more [] x all is = (is, tt)
  all_more (y ∷ list) x all is = (all.0, all_more list x all.1 is)

  all_at : (list : List A) (i : ℕ) (x : A) → AllByRecursion Is list → slice_get list i ≡ Some x
      → Is x
  all_at [] i x all there = absurd cc
  all_at (y ∷ list) zero x all there = (let same : y ≡ x = cc in subst Is same all.0)
  all_at (y ∷ list) (suc i) x all there = all_at list i x all.1 there

  pub all_table : (nodes : ℕ) (list : List A) → length list ≡ 16 * nodes
      → AllByRecursion Is list → IsTable nodes (λ p x. Is x) list
  all_table nodes list size all = record {
    size = size;
    at = λ p x is_in there. all_at list (table_place p) x all there;
  }

pub one_new : (n : ℕ) (wires wires' : List (List Char)) (hearings hearings' : List Hearing)
    (chars : List Char) (hearing : Hearing) → AreNew n wires hearings
    → wires' ≡ wires ++ chars ∷ [] → hearings' ≡ hearings ++ hearing ∷ [] → chars ≡ []
    → KeepsRun new_run hearing → AreNew (n + 1) wires' hearings'
one_new n wires wires' hearings hearings' chars hearing are more heard none quiet =
    let longer = ap length more ∙ length-append wires (chars ∷ []) in
    let longer_too = ap length heard ∙ length-append hearings (hearing ∷ []) in
    let had = are.wires_are in
    let had_too = are.hearings_are in
    record {
      wires_are = omega (arith, longer, had);
      hearings_are = omega (arith, longer_too, had_too);
      empty = subst (AllByRecursion (λ cs. cs ≡ [])) (sym more)
          (all_more (λ cs. cs ≡ []) wires chars are.empty none);
      quiet = subst (AllByRecursion (KeepsRun new_run)) (sym heard)
          (all_more (KeepsRun new_run) hearings hearing are.quiet quiet);
    }
