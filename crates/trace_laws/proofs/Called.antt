-- Calls at a link and edits of a wire are those of the machine of the link, and leave others alone.
use Rattle.trace_laws.proofs.Prelude.{◌≡◌, Bool, true, false, List, Option, Some, None, refl, sym, ap, ◌∙◌, subst, if◌then◌else◌, Note, A, B, fits, edited, after_edit, edited_from, IsRun, RunRests, RunEdits, LinkState, PortRef, same_port, peer_in, Step, ArePeers, port_is, apart_back, peer_back, same_port-refl, some_is, Wire, Seen, UndetectedAt, with_wire, peer_of, port_seen, wire_state, link_at, changed, edited_by, IsCall, Untouched, wire_other, IsGood, RunsBetween}
use Rattle.rio_chars.specs.declared.edit.Edit.{Edit}
use Rattle.link_machine.proofs.Reversed.{run_round}
use Rattle.trace_laws.proofs.Served.{run_to}
use Rattle.trace_laws.proofs.Views.{same_link_at}

-- ---- calls

module _ (s t : Seen) (good : IsGood s) (p q : PortRef) (peers : ArePeers s.network.links p q)
    (steps : List Step) (m : LinkState) (found : Option UndetectedAt)
    (call : IsCall s t p q steps m found) (none : t.undetected ≡ None)
    (runs : (notes : List Note) × IsRun (link_at s p q) notes m) where
  own_run : RunsBetween s t p q
  own_run = run_to (call.becomes none) runs.1

  -- the same link, its other end first
  other_run : RunsBetween s t q p
  other_run = run_round own_run.1

  untouched : (c : PortRef) → same_port c p ≡ false → same_port c q ≡ false → Untouched s t c
  untouched c x y = record {
    lists = call.elsewhere.others c x y;
    wire = call.wires c x y;
    half = call.halves c x y;
  }

  apart_from : (a b d e : PortRef) → peer_in s.network.links d ≡ Some e
      → peer_in s.network.links b ≡ Some a → same_port a e ≡ false → same_port b d ≡ false
  apart_from a b d e is peer other = go (same_port b d) refl
    where
      go : (x : Bool) → same_port b d ≡ x → same_port b d ≡ false
      go true same =
          let one : a ≡ e =
          some_is (peer_in s.network.links b) a e peer
          (ap (peer_in s.network.links) (port_is b d same) ∙ is) in
          absurd (cc (same_port-refl e, subst (λ x. same_port x e ≡ false) one other))
      go false apart = apart

  pub call_runs : (a b : PortRef) → peer_of s a ≡ Some b → RunsBetween s t a b
  call_runs a b peer = go (same_port a p) (same_port a q) refl refl
    where
      back : peer_in s.network.links b ≡ Some a
      back = peer_back s.network.links b a good.proper peer

      go : (x y : Bool) → same_port a p ≡ x → same_port a q ≡ y → RunsBetween s t a b
      go true y is_p is_q =
          let one = port_is a p is_p in
          let two : b ≡ q =
          some_is (peer_in s.network.links a) b q peer
          (ap (peer_in s.network.links) one ∙ peers.there) in
          subst (λ x. RunsBetween s t x b) (sym one)
          (subst (λ x. RunsBetween s t p x) (sym two) own_run)
      go false true is_p is_q =
          let one = port_is a q is_q in
          let two : b ≡ p =
          some_is (peer_in s.network.links a) b p peer
          (ap (peer_in s.network.links) one ∙ peers.back) in
          subst (λ x. RunsBetween s t x b) (sym one)
          (subst (λ x. RunsBetween s t q x) (sym two) other_run)
      go false false is_p is_q =
          run_to (same_link_at s t a b (untouched a is_p is_q)
          (untouched b (apart_from a b p q peers.there back is_q)
          (apart_from a b q p peers.back back is_p))) RunRests

-- ---- edits

edited_wire : (wire : Wire) (edit : Edit)
    → wire_state (record wire { chars = changed edit wire.chars })
    ≡ after_edit edit (wire_state wire)
edited_wire wire edit =
    elim (fits edit wire.chars) as (λ b.
    wire_state (record wire { chars = (if b then edited edit wire.chars else wire.chars) })
    ≡ (if b then record (wire_state wire) { chars = edited edit wire.chars }
    else wire_state wire)) [
      | true ↦ refl
      | false ↦ refl
    ]

own_wire : (s : Seen) (p : PortRef) (wire : Wire) → with_wire s.wires p wire p ≡ wire
own_wire s p wire = ap (λ b. if b then wire else s.wires p) (same_port-refl p)

module _ (s : Seen) (a b p : PortRef) (edit : Edit) (apart : same_port a b ≡ false) where
  abbrev t : Seen
  t = edited_by s (Some (p, edit))

  abbrev after : Wire
  after = record (s.wires p) { chars = changed edit (s.wires p).chars }

  near_run : same_port a p ≡ true → RunsBetween s t a b
  near_run same =
      let one = port_is a p same in
      let here : wire_state (t.wires a) ≡ after_edit edit (wire_state (s.wires a)) =
      subst (λ c. wire_state (t.wires c) ≡ after_edit edit (wire_state (s.wires c))) (sym one)
      (ap wire_state (own_wire s p after) ∙ edited_wire (s.wires p) edit) in
      let far : wire_state (t.wires b) ≡ wire_state (s.wires b) =
      ap wire_state (wire_other s.wires p after b
      (subst (λ c. same_port b c ≡ false) one (apart_back a b apart))) in
      let ends : link_at t a b ≡ edited_from A edit (link_at s a b) = λ i. record {
        a = port_seen s a;
        b = port_seen s b;
        wire_a = here i;
        wire_b = far i;
      } in
      run_to ends (RunEdits A edit RunRests)

  far_run : same_port a p ≡ false → same_port b p ≡ true → RunsBetween s t a b
  far_run other same =
      let one = port_is b p same in
      let here : wire_state (t.wires b) ≡ after_edit edit (wire_state (s.wires b)) =
      subst (λ c. wire_state (t.wires c) ≡ after_edit edit (wire_state (s.wires c))) (sym one)
      (ap wire_state (own_wire s p after) ∙ edited_wire (s.wires p) edit) in
      let near : wire_state (t.wires a) ≡ wire_state (s.wires a) =
      ap wire_state (wire_other s.wires p after a other) in
      let ends : link_at t a b ≡ edited_from B edit (link_at s a b) = λ i. record {
        a = port_seen s a;
        b = port_seen s b;
        wire_a = near i;
        wire_b = here i;
      } in
      run_to ends (RunEdits B edit RunRests)

  neither_run : same_port a p ≡ false → same_port b p ≡ false → RunsBetween s t a b
  neither_run first second =
      let near = ap wire_state (wire_other s.wires p after a first) in
      let far = ap wire_state (wire_other s.wires p after b second) in
      let ends : link_at t a b ≡ link_at s a b = λ i. record {
        a = port_seen s a;
        b = port_seen s b;
        wire_a = near i;
        wire_b = far i;
      } in
      run_to ends RunRests

  edit_run : RunsBetween s t a b
  edit_run = go (same_port a p) (same_port b p) refl refl
    where
      go : (x y : Bool) → same_port a p ≡ x → same_port b p ≡ y → RunsBetween s t a b
      go true y first second = near_run first
      go false true first second = far_run first second
      go false false first second = neither_run first second

pub edits_run : (s : Seen) (edit : Option (PortRef × Edit)) (a b : PortRef)
    → same_port a b ≡ false → RunsBetween s (edited_by s edit) a b
edits_run s None a b apart = run_to refl RunRests
edits_run s (Some edit) a b apart = edit_run s a b edit.0 edit.1 apart
