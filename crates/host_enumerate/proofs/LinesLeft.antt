-- What is left of the lines of a script while they are taken in one by one.
use Rattle.host_enumerate.proofs.Prelude.{◌≡◌, ℕ, suc, ◌+◌, ◌<◌, ◌≤◌, true, false, not, List, [], ◌∷◌, length, get_or, drop, Some, arith, refl, sym, ap, subst, ◌∙◌, not-false, length-map, slice_get-get_or, Registers, is_switch, new_endpoint, PortRef, Line, Numbered, WrongKind, new_name, Known, nothing, known_after, links_after, node_is_switch, is_known_switch, MayBe, IsFree, PassesFrom, ScriptPasses, registers_of, MayDevise, devices_after, devices_after_all, links_after_all, devices_of, links_of}
use Rattle.std.proofs.Math.Seq.{drop-cons}
use Rattle.std.proofs.Math.ListN.{drop_of_length-le}
use Rattle.fabric_script.specs.declared.lines.Line.TheVariants.{Switch, Link, Route, Default, Lock, Large}
use Rattle.host_enumerate.proofs.NewDevices.{kind_known}
use Rattle.host_enumerate.proofs.Devised.{Stage, stage_after, first_stage}

module _ (known : Known) (new : List ℕ) (devices : List Registers)
    (stage : Stage known devices) where
  node_there : (n : ℕ) → n < length known.names → n < length devices
  node_there n inside =
      let count = stage.count in
      let kinds : length devices ≡ length known.nodes = sym (length-map devices is_switch)
      ∙ (ap length stage.kinds
      ∙ length-map known.nodes (λ node. node_is_switch (Some node))) in
      omega (arith, inside, count, kinds)

  kind_there : (n : ℕ) → n < length known.names
      → is_switch (registers_of devices n) ≡ is_known_switch known.nodes n
  kind_there n inside =
      kind_known devices known.nodes n (registers_of devices n) stage.kinds
      (slice_get-get_or devices n (new_endpoint 0 false) (node_there n inside))

  switch_there : (n : ℕ) → n < length known.names → not (is_known_switch known.nodes n) ≡ false
      → is_switch (registers_of devices n) ≡ true
  switch_there n inside own = kind_there n inside ∙ not-false (is_known_switch known.nodes n) own

  may_devise : (line : Line) → MayBe known new line → IsFree known line → MayDevise devices line
  may_devise (Switch name ports) may free = may.fit.1.0
  may_devise (Link a b) may free = (
    node_there a.node may.fit.0.0,
    may.fit.0.1,
    node_there b.node may.fit.1.0.0,
    may.fit.1.0.1,
  )
  may_devise (Route node id p) may free =
      let most = may.fit.1.0.1 in (
        node_there node may.fit.0,
        switch_there node may.fit.0 (free WrongKind),
        omega (arith, most),
      )
  may_devise (Default node p) may free =
      (node_there node may.fit.0, switch_there node may.fit.0 (free WrongKind))
  may_devise (Lock node id) may free = node_there node may.fit.0
  may_devise (Large node id) may free =
      (node_there node may.fit.0, kind_there node may.fit.0 ∙ free WrongKind)
  may_devise _ may free = tt

-- Some lines are taken in. What they made, with the lines that are left, makes what all make.
pub record IsLeft (names : List (List ℕ)) (lines : List Numbered) (taken : ℕ)
    (devices : List Registers) (links : List (PortRef × PortRef)) : Type 0 where
  pub known : Known
  pub stage : Stage known devices
  pub passes : PassesFrom known names (drop taken lines)
  pub devices_left : devices_after_all devices (drop taken lines) ≡ devices_of lines
  pub links_left : links_after_all links (drop taken lines) ≡ links_of lines

pub all_left : (names : List (List ℕ)) (lines : List Numbered) → ScriptPasses names lines
    → IsLeft names lines 0 [] []
all_left names lines passes = record {
  known = nothing;
  stage = first_stage;
  passes = passes;
  devices_left = refl;
  links_left = refl;
}

module _ (names : List (List ℕ)) (lines : List Numbered) (taken : ℕ) (devices : List Registers)
    (links : List (PortRef × PortRef)) (line : Numbered) (inside : taken < length lines)
    (here : line ≡ get_or lines taken line) (left : IsLeft names lines taken devices links) where
  next_is : drop taken lines ≡ line ∷ drop (taken + 1) lines
  next_is =
      let one : suc taken ≡ taken + 1 = omega arith in
      drop-cons lines taken line inside
      ∙ (ap (λ l. l ∷ drop (suc taken) lines) (sym here)
      ∙ ap (λ n. line ∷ drop n lines) one)

  passes_next : PassesFrom left.known names (line ∷ drop (taken + 1) lines)
  passes_next = subst (λ l. PassesFrom left.known names l) next_is left.passes

  pub next_may : MayDevise devices line.line
  next_may =
      may_devise left.known (new_name names line.line) devices left.stage line.line passes_next.0
      passes_next.1

  pub next_left : (after : List Registers) (links_now : List (PortRef × PortRef))
      → after ≡ devices_after devices line.line → links_now ≡ links_after links line.line
      → IsLeft names lines (taken + 1) after links_now
  next_left after links_now is links_are = record {
    known = known_after left.known (new_name names line.line) line.line;
    stage = subst (λ d. Stage (known_after left.known (new_name names line.line) line.line) d)
        (sym is) (stage_after left.known (new_name names line.line) devices left.stage line.line
        passes_next.0 passes_next.1);
    passes = passes_next.2;
    devices_left = ap (λ d. devices_after_all d (drop (taken + 1) lines)) is
        ∙ (sym (ap (devices_after_all devices) next_is) ∙ left.devices_left);
    links_left = ap (λ l. links_after_all l (drop (taken + 1) lines)) links_are
        ∙ (sym (ap (links_after_all links) next_is) ∙ left.links_left);
  }

pub none_left : (names : List (List ℕ)) (lines : List Numbered) (taken : ℕ)
    (devices : List Registers) (links : List (PortRef × PortRef)) → length lines ≤ taken
    → IsLeft names lines taken devices links
    → (devices ≡ devices_of lines) × (links ≡ links_of lines)
none_left names lines taken devices links past left =
    let none : drop taken lines ≡ [] = drop_of_length-le lines past in (
      sym (ap (devices_after_all devices) none) ∙ left.devices_left,
      sym (ap (links_after_all links) none) ∙ left.links_left,
    )
