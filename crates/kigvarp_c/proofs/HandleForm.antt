-- A handle as the walks of its methods see it.
use mathlib.Core.Path.{◌≡◌}
use mathlib.Core.List.{List, [], ◌∷◌}
use mir.Syntax.{Sym}
use mir.Val.{Val}
use base.Fml.{ftrue, fsep}
use denote.RattleType.{RattleType}
use denote.Builtin.{RawPtr}
use denote.Exit.{yes, Last, left}
use denote.RawPtr.{Ptr}
use denote.Param.Laws.{Laws}
use denote.Struct.Struct.{Shape, Struct}
use Rattle.std.specs.Global.{Global}
use Rattle.std.proofs.BoxSteps.Form.{R, B}
use Rattle.std_heap.specs.contracts.Global as Heap
use Rattle.std_heap.specs.contracts.GlobalAllocator.TheImpl.{ghosts}
use Rattle.kigvarp_c.specs.declared.parts.Parts.{Parts as PartsOf}
use Rattle.kigvarp_c.specs.contracts.parts.Parts as Parts
use Rattle.kigvarp_c.specs.HandlesOwn.{handle_owns}
use Rattle.kigvarp_c.proofs.BoxForm.{heap_box}

-- the fields of each handle: a pointer and its allocator
abbrev pub handle_fields : Shape
handle_fields = record { name = []; args = []; types = []; fields = RawPtr ∷ Heap.the_row ∷ [] }

-- What differs among handles is what one has, its own type, and the names of the fields there.
pub record HandleForm : Type 2 where
  pub thing : RattleType
  pub laws : Laws thing
  pub row : RattleType
  pub name : Sym
  pub make : Ptr → Global → List thing.Denot → row.Denot
  pub at : row.Denot → Ptr
  pub alloc : row.Denot → Global
  pub things : row.Denot → List thing.Denot
  pub made : (h : row.Denot) → h ≡ make (at h) (alloc h) (things h)
  pub made_things : (p : Ptr) (a : Global) (xs : List thing.Denot) → things (make p a xs) ≡ xs
  -- the rest is the same of each, but shows only of one that is written out
  pub made_owns : (p : Ptr) (a : Global) (xs : List thing.Denot) (us : List Val)
      → row.own_val (make p a xs) us ≡ fsep ((Struct handle_fields).own_val (p, (a, tt)) us)
      (handle_owns (R (heap_box thing laws)) a p xs)
  pub parts_own : (p : PartsOf thing.Denot Global) (us : List Val)
      → (Parts.the_row thing Heap.the_row ghosts).own_val p us
      ≡ (B (heap_box thing laws)).own_val
      (record { ptr = p.ptr; alloc = p.alloc; value = p.value }) us
  pub last : (h : row.Denot) → Last (row.exit yes) h
  pub leaves_nothing : (h : row.Denot) (w : Last (row.exit yes) h)
      → left (row.exit yes) h w ≡ ftrue
