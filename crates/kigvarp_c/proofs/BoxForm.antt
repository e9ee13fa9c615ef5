-- A box as its steps see it.
use mathlib.Core.List.{[]}
use mir.Syntax.{Dict, impl, tnil, dnil}
use denote.RattleType.{RattleType}
use denote.Param.Laws.{Laws}
use Rattle.std.specs.declared.alloc.Allocator.{Ghosts}
use Rattle.std.proofs.BoxSteps.Form.{Bx}
use Rattle.std_heap.specs.contracts.Global as Heap
use Rattle.std_heap.specs.contracts.GlobalAllocator.TheImpl.{ghosts, dict}
use Rattle.std_heap.proofs.Global.TheLaws as heap

-- of an element and an allocator
abbrev pub box_form : (X Z : RattleType) → Laws X → Laws Z → Ghosts Z.Denot → Dict → Dict → Bx
box_form X Z LX LZ g d dd = record {
  row = X;
  laws = LX;
  al = record {
    row = Z;
    laws = LZ;
    g = g;
    d = d;
    drops = dd;
  };
}

-- of an element, on the heap
abbrev pub heap_box : (X : RattleType) → Laws X → Bx
heap_box X LX = box_form X Heap.the_row LX heap.the_row_laws ghosts dict (impl [] tnil dnil)
