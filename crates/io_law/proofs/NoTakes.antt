-- In a run of switches and links nothing happens at a node, and where a node collects it takes
-- nothing.
use Rattle.io_law.proofs.Prelude.{◌≡◌, ℕ, zero, suc, List, [], ◌∷◌, ◌++◌, Option, Some, None, sym, subst, Registers, is_switch, Collected, PortRef, NodeStep, Takes, Leave, Linked, AtNode, ByDevice, IsSettle, seen, UndetectedAt, Seen, link_at, TraceLine, Begun, Stepped, Signed, Lacked, Ended, Undetected, collect_lines}
use Rattle.link_watch.specs.declared.note.Note.{Note}
use Rattle.link_watch.specs.declared.note.Note.TheVariants as Notes
use Rattle.link_machine.specs.Acts.{At, acts_notes}
use Rattle.switch_core.specs.declared.endpoint.Collected.TheVariants as Collects
use Rattle.trace_lines.specs.Notes.{lines_of}
use Rattle.fabric_trace.specs.Rounds.{Follows, NamesNothing, Joined, SettleAll, ServesAll, ServeRests, ServeGoes, ServeNodes, Round, Rounds}
use Rattle.fabric_trace.proofs.Rounds.Blocks.{by_test}

-- the steps at nodes among these lines are such
abbrev pub OnlyAt : (NodeStep → Type 0) → List TraceLine → Type 0
OnlyAt Fits [] = Unit {0}
OnlyAt Fits (Stepped (AtNode step) ∷ lines) = Fits step × OnlyAt Fits lines
OnlyAt Fits (Stepped (Linked step) ∷ lines) = OnlyAt Fits lines
OnlyAt Fits (Stepped (ByDevice step) ∷ lines) = OnlyAt Fits lines
OnlyAt Fits (Begun line ∷ lines) = OnlyAt Fits lines
OnlyAt Fits (Signed sign ∷ lines) = OnlyAt Fits lines
OnlyAt Fits (Lacked lack ∷ lines) = OnlyAt Fits lines
OnlyAt Fits (Ended ∷ lines) = OnlyAt Fits lines
OnlyAt Fits (Undetected number q e ∷ lines) = OnlyAt Fits lines

-- a packet leaves there
abbrev pub Leaves : NodeStep → Type 0
Leaves (Takes n packet) = ⊥
Leaves (Leave n packet) = Unit {0}

abbrev pub NoTakes : List TraceLine → Type 0
NoTakes = OnlyAt Leaves

-- nothing happens at a node
abbrev pub Never : NodeStep → Type 0
Never step = ⊥

-- ---- what only switches and links do

module _ (Fits : NodeStep → Type 0) where
  no_append : (xs ys : List TraceLine) → OnlyAt Fits xs → OnlyAt Fits ys → OnlyAt Fits (xs ++ ys)
  no_append [] ys none more = more
  no_append (Stepped (AtNode step) ∷ xs) ys none more = (none.0, no_append xs ys none.1 more)
  no_append (Stepped (Linked step) ∷ xs) ys none more = no_append xs ys none more
  no_append (Stepped (ByDevice step) ∷ xs) ys none more = no_append xs ys none more
  no_append (Begun line ∷ xs) ys none more = no_append xs ys none more
  no_append (Signed sign ∷ xs) ys none more = no_append xs ys none more
  no_append (Lacked lack ∷ xs) ys none more = no_append xs ys none more
  no_append (Ended ∷ xs) ys none more = no_append xs ys none more
  no_append (Undetected number q e ∷ xs) ys none more = no_append xs ys none more

  no_by : {lines other : List TraceLine} → lines ≡ other → OnlyAt Fits other → OnlyAt Fits lines
  no_by is none = subst (OnlyAt Fits) (sym is) none

  notes_take_none : (a b : PortRef) (notes : List Note) → OnlyAt Fits (lines_of a b notes)
  notes_take_none a b [] = tt
  notes_take_none a b (Notes.Sent side chars ∷ notes) = notes_take_none a b notes
  notes_take_none a b (Notes.Got side chars ∷ notes) = notes_take_none a b notes
  notes_take_none a b (Notes.Hold side packet ∷ notes) = notes_take_none a b notes
  notes_take_none a b (Notes.Free side packet ∷ notes) = notes_take_none a b notes
  notes_take_none a b (Notes.Fire side ∷ notes) = notes_take_none a b notes

  follows_none : (found : Option UndetectedAt) (More : List TraceLine → Type 0)
      (rest : List TraceLine)
      → (More rest → OnlyAt Fits rest) → Follows found More NamesNothing rest → OnlyAt Fits rest
  follows_none None More rest none follows = none follows
  follows_none (Some found) More rest none is = no_by is tt

  joined_none : (First : List TraceLine → Type 0) (More : Seen → List TraceLine → Type 0) (s : Seen)
      (lines : List TraceLine) → ((first : List TraceLine) → First first → OnlyAt Fits first)
      → ((t : Seen) (rest : List TraceLine) → More t rest → OnlyAt Fits rest)
      → Joined First More s lines → OnlyAt Fits lines
  joined_none First More s lines none later joined =
      let t = seen s joined.0 in
      no_by joined.2 (no_append joined.0 joined.1 (none joined.0 joined.3)
      (follows_none t.undetected (More t) joined.1 (later t joined.1) joined.4))

  settle_none : (s : Seen) (a b : PortRef) (lines : List TraceLine) → IsSettle s a b lines
      → OnlyAt Fits lines
  settle_none s a b lines is =
      no_by is.lines (notes_take_none a b (acts_notes (At (link_at s a b)) is.acts))

  settle_all_none : (links : List (PortRef × PortRef)) (s : Seen) (lines : List TraceLine)
      → SettleAll IsSettle links s lines → OnlyAt Fits lines
  settle_all_none [] s lines is = no_by is tt
  settle_all_none (link ∷ links) s lines joined =
      joined_none (IsSettle s link.0 link.1) (SettleAll IsSettle links) s lines
      (λ first own. settle_none s link.0 link.1 first own)
      (λ t rest more. settle_all_none links t rest more) joined

  serves_none : {s : Seen} {node : ℕ} {lines : List TraceLine} → ServesAll s node lines
      → OnlyAt Fits lines
  serves_none {s} {node} {lines} (ServeRests move is) = no_by is tt
  serves_none {s} {node} {lines} (ServeGoes step rest move is more) = no_by is (serves_none more)

  serve_none : (devices : List Registers) (k : ℕ) (s : Seen) (lines : List TraceLine)
      → ServeNodes k devices s lines → OnlyAt Fits lines
  serve_none [] k s lines is = no_by is tt
  serve_none (device ∷ devices) k s lines is =
      by_test (is_switch device)
      (λ joined. joined_none (ServesAll s k) (ServeNodes (suc k) devices) s lines
      (λ first own. serves_none own) (λ t rest more. serve_none devices (suc k) t rest more) joined)
      (λ more. serve_none devices (suc k) s lines more) is

  round_none : (s : Seen) (lines : List TraceLine) → Round IsSettle s lines → OnlyAt Fits lines
  round_none s lines joined =
      joined_none (SettleAll IsSettle s.network.links s)
      (λ t rest. ServeNodes 0 t.network.registers t rest) s lines
      (λ first own. settle_all_none s.network.links s first own)
      (λ t rest more. serve_none t.network.registers 0 t rest more) joined

  pub rounds_none : (n : ℕ) (s : Seen) (lines : List TraceLine) → Rounds IsSettle n s lines
      → OnlyAt Fits lines
  rounds_none zero s lines is = no_by is tt
  rounds_none (suc n) s lines joined =
      joined_none (Round IsSettle s) (Rounds IsSettle n) s lines
      (λ first own. round_none s first own) (λ t rest more. rounds_none n t rest more) joined

pub collect_none : (node : ℕ) (what : Collected) → NoTakes (collect_lines node what)
collect_none node (Collects.Left packet) = (tt, tt)
collect_none node _ = tt
