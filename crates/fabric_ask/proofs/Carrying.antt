-- What a link does in a round: it is made of parts, moves packets between its two ports alone, and
-- is at rest then.
use Rattle.fabric_ask.proofs.Prelude.{◌≡◌, ◌&&◌, ◌||◌, not, Bool, true, false, List, [], ◌∷◌, ◌++◌, Some, None, refl, sym, ap, ◌∙◌, subst, append_assoc, if◌then◌else◌, or_right, A, B, Edit, pumped, pump_notes, has_none, At, acts_notes, IsSettled, Char, PortRef, same_port, Hold, Free, Linked, AtNode, ByDevice, Step, ArePeers, same_port-refl, pumps, IsSettle, changed, edit_of, edited_by, seen, Seen, link_at, TraceLine, Begun, steps_of, Made, Done, PartBegins, seen-append, IsGood, made_keeps, steps_of-append, AreOthers, others_here, others_on, others_round, one_part, made-append, pump_reaches, acts_reach, peers_round, elsewhere_here, is_end, AreAt, is_idle, edit_lines, stirred, IsCarry}
use Rattle.link_watch.specs.declared.note.Note.{Note}
use Rattle.link_watch.specs.declared.note.Note.TheVariants as Notes
use Rattle.link_watch.specs.declared.side.Side.{Side}
use Rattle.link_wires.specs.Wires.{fits}
use Rattle.trace_lines.specs.Notes.{port_at_side, lines_of}
use Rattle.fabric_trace.proofs.SetUps.Starting.{settles_rest}
use Rattle.fabric_script.specs.Operations.{line_editing}

-- ---- the steps that lines say are at the ends

first_end : (a b : PortRef) → is_end a b a ≡ true
first_end a b = ap (λ x. x || same_port a b) (same_port-refl a)

second_end : (a b : PortRef) → is_end a b b ≡ true
second_end a b = ap (λ x. same_port b a || x) (same_port-refl b)
    ∙ or_right (same_port b a) true refl

end_is : (a b : PortRef) (side : Side) → is_end a b (port_at_side a b side) ≡ true
end_is a b A = first_end a b
end_is a b B = second_end a b

notes_at : (a b : PortRef) (notes : List Note) → AreAt a b (steps_of (lines_of a b notes))
notes_at a b [] = tt
notes_at a b (Notes.Sent side chars ∷ notes) = notes_at a b notes
notes_at a b (Notes.Got side chars ∷ notes) = notes_at a b notes
notes_at a b (Notes.Hold side packet ∷ notes) = (end_is a b side, notes_at a b notes)
notes_at a b (Notes.Free side packet ∷ notes) = (end_is a b side, notes_at a b notes)
notes_at a b (Notes.Fire side ∷ notes) = notes_at a b notes

or_turned : (x y : Bool) → (x || y) ≡ true → (y || x) ≡ true
or_turned true y is = or_right y true refl
or_turned false y is = ap (λ z. z || false) is

at_turned : (a b : PortRef) (steps : List Step) → AreAt b a steps → AreAt a b steps
at_turned a b [] at = tt
at_turned a b (Linked (Hold c packet) ∷ steps) at =
    (or_turned (same_port c b) (same_port c a) at.0, at_turned a b steps at.1)
at_turned a b (Linked (Free c packet) ∷ steps) at =
    (or_turned (same_port c b) (same_port c a) at.0, at_turned a b steps at.1)
at_turned a b (AtNode step ∷ steps) at = absurd at
at_turned a b (ByDevice step ∷ steps) at = absurd at

at-append : (a b : PortRef) (xs ys : List Step) → AreAt a b xs → AreAt a b ys → AreAt a b (xs ++ ys)
at-append a b [] ys first rest = rest
at-append a b (Linked (Hold c packet) ∷ xs) ys first rest =
    (first.0, at-append a b xs ys first.1 rest)
at-append a b (Linked (Free c packet) ∷ xs) ys first rest =
    (first.0, at-append a b xs ys first.1 rest)
at-append a b (AtNode step ∷ xs) ys first rest = absurd first
at-append a b (ByDevice step ∷ xs) ys first rest = absurd first

-- ---- what is done at a link

-- Lines of a link: made of parts, steps at its ends alone, and nothing elsewhere.
pub record IsLocal (s : Seen) (a b : PortRef) (lines : List TraceLine) : Type 0 where
  pub made : Made s lines
  pub at : AreAt a b (steps_of lines)
  pub others : AreOthers s (seen s lines) a b

local_on : (s : Seen) (a b : PortRef) (xs ys : List TraceLine) → IsLocal s a b xs
    → IsLocal (seen s xs) a b ys → IsLocal s a b (xs ++ ys)
local_on s a b xs ys first rest = record {
  made = made-append first.made rest.made;
  at = subst (AreAt a b) (sym (steps_of-append xs ys))
      (at-append a b (steps_of xs) (steps_of ys) first.at rest.at);
  others = subst (λ x. AreOthers s x a b) (sym (seen-append s xs ys))
      (others_on first.others rest.others);
}

local_by : (s : Seen) (a b : PortRef) (lines other : List TraceLine) → lines ≡ other
    → IsLocal s a b other → IsLocal s a b lines
local_by s a b lines other is local = subst (IsLocal s a b) (sym is) local

local_turned : (s : Seen) (a b : PortRef) (lines : List TraceLine) → IsLocal s b a lines
    → IsLocal s a b lines
local_turned s a b lines local = record {
  made = local.made;
  at = at_turned a b (steps_of lines) local.at;
  others = others_round local.others;
}

-- lines that leave a state good, and in which no event was found not to be sent
pub record KeepsOn (s : Seen) (a b : PortRef) (lines : List TraceLine) : Type 0 where
  pub local : IsLocal s a b lines
  pub still : (seen s lines).undetected ≡ None
  pub good : IsGood (seen s lines)
  pub peers : ArePeers (seen s lines).network.links a b

goes_on : (s : Seen) (a b : PortRef) (lines : List TraceLine) → IsGood s
    → ArePeers s.network.links a b → IsLocal s a b lines → (seen s lines).undetected ≡ None
    → KeepsOn s a b lines
goes_on s a b lines good peers local still =
    let kept = made_keeps good local.made in
    record {
      local = local;
      still = still;
      good = kept.good;
      peers = subst (λ l. ArePeers l a b) (sym local.others.links) peers;
    }

-- ---- turns, edits and settling

pub turn_goes : (s : Seen) (a b : PortRef) → IsGood s → s.undetected ≡ None
    → ArePeers s.network.links a b → KeepsOn s a b (pumps s a 1 b)
turn_goes s a b good none peers =
    let r = pump_reaches s a b 1 good none peers in
    goes_on s a b (pumps s a 1 b) good peers (record {
      made = r.made;
      at = notes_at a b (pump_notes A 1 (link_at s a b));
      others = r.others;
    }) (r.there (pumped A 1 (link_at s a b)) refl).0

pub round_goes : (s : Seen) (a b : PortRef) (lines : List TraceLine) → KeepsOn s b a lines
    → KeepsOn s a b lines
round_goes s a b lines goes = record {
  local = local_turned s a b lines goes.local;
  still = goes.still;
  good = goes.good;
  peers = peers_round goes.peers;
}

-- an edit of the wire of a port touches no other
edit_others : (s : Seen) (a b : PortRef) (edit : Edit) → AreOthers s (edited_by s (Some (a, edit)))
    a b
edit_others s a b edit = record {
  links = refl;
  untouched = λ c x y. record {
    lists = (elsewhere_here s.network a b).others c x y;
    wire = ap (λ t. if t then record (s.wires a) { chars = changed edit (s.wires a).chars } else
        s.wires c) x;
    half = refl;
  };
}

pub edit_is : (p : PortRef) (edit : Edit) → edit_of (line_editing p edit) ≡ Some (p, edit)
edit_is p (Edit.Alter place ch) = refl
edit_is p _ = refl

edit_goes : (s : Seen) (a b : PortRef) (edit : Edit) → IsGood s → s.undetected ≡ None
    → ArePeers s.network.links a b → KeepsOn s a b (Begun (line_editing a edit) ∷ [])
edit_goes s a b edit good none peers =
    let is = edit_is a edit in
    goes_on s a b (Begun (line_editing a edit) ∷ []) good peers (record {
      made = one_part (PartBegins (line_editing a edit) refl);
      at = tt;
      others = subst (λ o. AreOthers s (edited_by s o) a b) (sym is) (edit_others s a b edit);
    }) (ap (λ o. (edited_by s o).undetected) is ∙ none)

nothing_goes : (s : Seen) (a b : PortRef) → IsGood s → s.undetected ≡ None
    → ArePeers s.network.links a b → KeepsOn s a b []
nothing_goes s a b good none peers =
    goes_on s a b [] good peers (record { made = Done refl; at = tt; others = others_here s a b })
    none

by_test : (s : Seen) (a b : PortRef) (edit : Edit) (test : Bool) → IsGood s → s.undetected ≡ None
    → ArePeers s.network.links a b → KeepsOn s a b
    (if test then Begun (line_editing a edit) ∷ [] else [])
by_test s a b edit true good none peers = edit_goes s a b edit good none peers
by_test s a b edit false good none peers = nothing_goes s a b good none peers

by_chars : (s : Seen) (a b : PortRef) (edit : Edit) (noise : List Edit) (chars : List Char)
    (empty : Bool) → IsGood s → s.undetected ≡ None → ArePeers s.network.links a b
    → KeepsOn s a b (let r : List TraceLine × List Edit =
    if empty then ([], edit ∷ noise) else (edit_lines a edit chars, noise) in r.0)
by_chars s a b edit noise chars true good none peers = nothing_goes s a b good none peers
by_chars s a b edit noise chars false good none peers =
    by_test s a b edit (fits edit chars && not (is_idle edit)) good none peers

pub stirred_goes : (s : Seen) (a b : PortRef) (noise : List Edit) (chars : List Char) → IsGood s
    → s.undetected ≡ None → ArePeers s.network.links a b → KeepsOn s a b (stirred noise a chars).0
stirred_goes s a b [] chars good none peers = nothing_goes s a b good none peers
stirred_goes s a b (edit ∷ noise) chars good none peers =
    by_chars s a b edit noise chars (has_none chars) good none peers

goes_then : (s : Seen) (a b : PortRef) (xs ys : List TraceLine) → KeepsOn s a b xs
    → KeepsOn (seen s xs) a b ys → KeepsOn s a b (xs ++ ys)
goes_then s a b xs ys first rest =
    let joined = seen-append s xs ys in
    record {
      local = local_on s a b xs ys first.local rest.local;
      still = ap (λ (t : Seen). t.undetected) joined ∙ rest.still;
      good = subst IsGood (sym joined) rest.good;
      peers = subst (λ (t : Seen). ArePeers t.network.links a b) (sym joined) rest.peers;
    }

settle_local : (s : Seen) (a b : PortRef) (block : List TraceLine) → IsGood s → s.undetected ≡ None
    → ArePeers s.network.links a b → IsSettle s a b block → IsLocal s a b block
settle_local s a b block good none peers settles =
    let reach = acts_reach settles.acts s a b good none peers in
    let own = lines_of a b (acts_notes (At (link_at s a b)) settles.acts) in
    local_by s a b block own settles.lines (record {
      made = reach.made;
      at = notes_at a b (acts_notes (At (link_at s a b)) settles.acts);
      others = reach.others;
    })

-- A link has carried what it can.
pub record HasCarried (s : Seen) (a b : PortRef) (lines : List TraceLine) : Type 0 where
  pub local : IsLocal s a b lines
  pub rests : (seen s lines).undetected ≡ None → IsSettled (link_at (seen s lines) a b)

settle_after : (s : Seen) (a b : PortRef) (front block : List TraceLine) → KeepsOn s a b front
    → IsSettle (seen s front) a b block → HasCarried s a b (front ++ block)
settle_after s a b front block goes settles =
    let t = seen s front in
    let joined = seen-append s front block in
    record {
      local = local_on s a b front block goes.local
          (settle_local t a b block goes.good goes.still goes.peers settles);
      rests = λ still. subst (λ (x : Seen). IsSettled (link_at x a b)) (sym joined)
          (settles_rest t a b block goes.good goes.still goes.peers settles
          (ap (λ (x : Seen). x.undetected) (sym joined) ∙ still));
    }

-- the lines before a link settles
module _ (noise left : List Edit) (s : Seen) (a b : PortRef) (lines : List TraceLine)
    (good : IsGood s) (none : s.undetected ≡ None) (peers : ArePeers s.network.links a b)
    (is : IsCarry noise left s a b lines) where
  abbrev t1 : Seen
  t1 = seen s is.one

  abbrev t2 : Seen
  t2 = seen t1 is.two

  abbrev t3 : Seen
  t3 = seen t2 is.first.0

  first_goes : KeepsOn s a b is.one
  first_goes = subst (KeepsOn s a b) (sym is.one_is) (turn_goes s a b good none peers)

  second_goes : KeepsOn t1 a b is.two
  second_goes = subst (KeepsOn t1 a b) (sym is.two_is)
      (round_goes t1 a b _ (turn_goes t1 b a first_goes.good first_goes.still
      (peers_round first_goes.peers)))

  third_goes : KeepsOn t2 a b is.first.0
  third_goes = subst (λ x. KeepsOn t2 a b x.0) (sym is.first_is)
      (stirred_goes t2 a b noise (t2.wires a).chars second_goes.good second_goes.still
      second_goes.peers)

  fourth_goes : KeepsOn t3 a b is.second.0
  fourth_goes = subst (λ x. KeepsOn t3 a b x.0) (sym is.second_is)
      (round_goes t3 a b _ (stirred_goes t3 b a is.first.1 (t3.wires b).chars third_goes.good
      third_goes.still (peers_round third_goes.peers)))

  front_goes : KeepsOn s a b (is.one ++ (is.two ++ (is.first.0 ++ is.second.0)))
  front_goes = goes_then s a b is.one (is.two ++ (is.first.0 ++ is.second.0)) first_goes
      (goes_then t1 a b is.two (is.first.0 ++ is.second.0) second_goes
      (goes_then t2 a b is.first.0 is.second.0 third_goes fourth_goes))

  settles_there : IsSettle (seen s (is.one ++ (is.two ++ (is.first.0 ++ is.second.0)))) a b is.block
  settles_there =
      subst (λ x. IsSettle x a b is.block)
      (sym (seen-append s is.one (is.two ++ (is.first.0 ++ is.second.0))
      ∙ seen-append t1 is.two (is.first.0 ++ is.second.0)
      ∙ seen-append t2 is.first.0 is.second.0)) is.settles

  pub has_carried : HasCarried s a b lines
  has_carried =
      subst (HasCarried s a b) (sym (is.whole ∙ grouped is.one is.two is.first.0 is.second.0
      is.block))
      (settle_after s a b (is.one ++ (is.two ++ (is.first.0 ++ is.second.0))) is.block front_goes
      settles_there)
    where
      grouped : (u v w x y : List TraceLine) → u ++ v ++ w ++ x ++ y ≡ (u ++ (v ++ (w ++ x))) ++ y
      grouped u v w x y =
          ap (λ (l : List TraceLine). l ++ y) (append_assoc (u ++ v) w x
          ∙ append_assoc u v (w ++ x))
