-- What a handle owns: the memory of the one thing that it has, or nothing.
use mathlib.Core.List.{List, [], ◌∷◌}
use base.Fml.{Fml, ftrue}
use denote.RattleType.{RattleType}
use denote.RawPtr.{Ptr}
use Rattle.std.specs.Box.Ownership.{box_owns}
use Rattle.std.specs.Global.{Global}
use Rattle.std_heap.specs.contracts.GlobalAllocator.TheImpl.{ghosts}

abbrev pub handle_owns : (R : RattleType) → Global → Ptr → List R.Denot → Fml
handle_owns R alloc at [] = ftrue
handle_owns R alloc at (thing ∷ others) = box_owns (ghosts.dealloc_token alloc) R at thing
