-- The bytes of a read that is told stand in the memory that the lines before it leave.
use Rattle.io_law.proofs.Prelude.{◌≡◌, ◌⊎◌, inl, inr, ℕ, zero, suc, ◌+◌, List, [], ◌∷◌, ◌++◌, length, take, Option, Some, None, refl, sym, ap, subst, slice_get, slice_range, Numbered, happened, Happened, ftype_of, Io, io_of, Read, met_without, reads_held, memory_of, met_by, IoTask, Carry, Ask, Settle, Turn, Reply, Fetch, Finish, IoState, IoGoes, IoBegins, IoTurns, IoActs, IoEnds, IoComes, Here, Further, IoTold, ToldCame, io_told, told_by, told_behind, and_told, memory_left, ReadsAreTold}
use Rattle.fabric_ports.specs.declared.answers.Happened.TheVariants as Answers
use Rattle.io_packets.specs.declared.io.Io.TheVariants as Ios
use Rattle.io_memory.specs.declared.meeting.Met.{Met}
use Rattle.io_law.proofs.Keeping.{Keeps, behind_all, at_first}

-- these bytes stand in a memory
abbrev Stand : Option (List ℕ) → ℕ → List ℕ → Type 0
Stand held addr load =
    (memory : List ℕ) × (held ≡ Some memory)
    × (load ≡ slice_range memory addr (addr + length load))

-- ---- what is met

none_read : (ftype : ℕ) (io : Io) (addr : ℕ) (load : List ℕ)
    → met_without ftype io ≡ Read addr load → ⊥
none_read ftype (Ios.Reply status tid more) addr load is = absurd cc
none_read ftype (Ios.NRead tid at size) addr load is = absurd cc
none_read ftype (Ios.NWrite at more) addr load is = absurd cc
none_read ftype (Ios.NWriteR tid at more) addr load is = absurd cc
none_read ftype (Ios.SWrite at more) addr load is = absurd cc
none_read ftype (Ios.BadRead tid) addr load is = absurd cc
none_read ftype (Ios.BadWriteR tid) addr load is = absurd cc
none_read ftype Ios.BadWrite addr load is = absurd cc
none_read ftype Ios.Other addr load is = absurd cc

met_stands : (held : Option (List ℕ)) (packet : List ℕ) (addr : ℕ) (load : List ℕ)
    → met_by held packet ≡ Read addr load → Stand held addr load
met_stands None packet addr load is =
    absurd (none_read (ftype_of packet) (io_of packet) addr load is)
met_stands (Some memory) packet addr load is =
    (memory, refl, reads_held memory (packet ∷ []) 0 addr load (ap (λ m. Some m) is))

pub came_node : {a b : ℕ} {x y : Met} → Some (ToldCame a x) ≡ Some (ToldCame b y) → a ≡ b
came_node is = cc

pub came_met : {a b : ℕ} {x y : Met} → Some (ToldCame a x) ≡ Some (ToldCame b y) → x ≡ y
came_met is = cc

event_stands : (s : IoState) (task : IoTask) (what : Happened) (node addr : ℕ)
    (load : List ℕ) → told_behind s task what ≡ Some (ToldCame node (Read addr load))
    → Stand (memory_of s.stations node) addr load
event_stands s (Fetch at) (Answers.Left packet) node addr load is =
    subst (λ n. Stand (memory_of s.stations n) addr load) (came_node is)
    (met_stands (memory_of s.stations at) packet addr load (came_met is))
event_stands s (Fetch at) Answers.Took node addr load is = absurd cc
event_stands s (Fetch at) Answers.Answered node addr load is = absurd cc
event_stands s (Fetch at) _ node addr load is = absurd cc
event_stands s (Ask at tid line) Answers.Took node addr load is = absurd cc
event_stands s (Ask at tid line) _ node addr load is = absurd cc
event_stands s (Carry line) what node addr load is = absurd cc
event_stands s Settle what node addr load is = absurd cc
event_stands s (Turn at) what node addr load is = absurd cc
event_stands s (Reply at line) what node addr load is = absurd cc
event_stands s Finish what node addr load is = absurd cc

goes_stands : {names : List (List ℕ)} {script : List Numbered} {s t : IoState}
    (goes : IoGoes names script s t) (node addr : ℕ) (load : List ℕ)
    → told_by goes ≡ Some (ToldCame node (Read addr load))
    → Stand (memory_of s.stations node) addr load
goes_stands (IoBegins line rest is to) node addr load same = absurd cc
goes_stands (IoTurns at rest is to) node addr load same = absurd cc
goes_stands {names} {script} {s} (IoActs task rest line block is event block_is sent to)
    node addr load same =
    event_stands s task (happened line block) node addr load same
goes_stands (IoEnds rest is to) node addr load same = absurd cc

-- ---- the lines before a line

-- a line of some and one more is one of them, or the last
get_push : {X : Type 0} (xs : List X) (y x : X) (k : ℕ) → slice_get (xs ++ y ∷ []) k ≡ Some x
    → ((slice_get xs k ≡ Some x) × (take k (xs ++ y ∷ []) ≡ take k xs))
    ⊎ ((y ≡ x) × (take k (xs ++ y ∷ []) ≡ xs))
get_push [] y x zero is = inr (cc, refl)
get_push [] y x (suc zero) is = absurd cc
get_push [] y x (suc (suc k)) is = absurd cc
get_push (first ∷ xs) y x zero is = inl (is, refl)
get_push (first ∷ xs) y x (suc k) is = by (get_push xs y x k is)
  where
    by : ((slice_get xs k ≡ Some x) × (take k (xs ++ y ∷ []) ≡ take k xs))
        ⊎ ((y ≡ x) × (take k (xs ++ y ∷ []) ≡ xs))
        → ((slice_get xs k ≡ Some x)
        × (first ∷ take k (xs ++ y ∷ []) ≡ first ∷ take k xs))
        ⊎ ((y ≡ x) × (first ∷ take k (xs ++ y ∷ []) ≡ first ∷ xs))
    by (inl before) = inl (before.0, ap (λ l. first ∷ l) before.1)
    by (inr last) = inr (last.0, ap (λ l. first ∷ l) last.1)

-- if what is told last stands, and all told before
told_stands : (lines : List IoTold) (more : Option IoTold) (k node addr : ℕ) (load : List ℕ)
    → (slice_get lines k ≡ Some (ToldCame node (Read addr load))
    → Stand (memory_left node (take k lines)) addr load)
    → (more ≡ Some (ToldCame node (Read addr load)) → Stand (memory_left node lines) addr load)
    → slice_get (and_told lines more) k ≡ Some (ToldCame node (Read addr load))
    → Stand (memory_left node (take k (and_told lines more))) addr load
told_stands lines None k node addr load before last is = before is
told_stands lines (Some line) k node addr load before last is =
    by (get_push lines line (ToldCame node (Read addr load)) k is)
  where
    by : ((slice_get lines k ≡ Some (ToldCame node (Read addr load)))
        × (take k (lines ++ line ∷ []) ≡ take k lines))
        ⊎ ((line ≡ ToldCame node (Read addr load)) × (take k (lines ++ line ∷ []) ≡ lines))
        → Stand (memory_left node (take k (lines ++ line ∷ []))) addr load
    by (inl one) = subst (λ l. Stand (memory_left node l) addr load) (sym one.1) (before one.0)
    by (inr one) =
        subst (λ l. Stand (memory_left node l) addr load) (sym one.1)
        (last (ap (λ l. Some l) one.0))

comes_stands : {names : List (List ℕ)} {script : List Numbered} {first s : IoState} (count : ℕ)
    → Keeps count [] first → (comes : IoComes names script first s)
    → (k node addr : ℕ) (load : List ℕ)
    → slice_get (io_told comes) k ≡ Some (ToldCame node (Read addr load))
    → Stand (memory_left node (take k (io_told comes))) addr load
comes_stands count keeps (Here is) zero node addr load at = absurd cc
comes_stands count keeps (Here is) (suc k) node addr load at = absurd cc
comes_stands count keeps (Further before comes goes) k node addr load at =
    told_stands (io_told comes) (told_by goes) k node addr load
    (comes_stands count keeps comes k node addr load)
    (λ last. subst (λ m. Stand m addr load) ((behind_all count keeps comes).same node)
    (goes_stands goes node addr load last))
    at

pub reads_told : ReadsAreTold
reads_told names script io s comes k node addr load fit at =
    comes_stands (length names) (at_first names script io fit) comes k node addr load at
