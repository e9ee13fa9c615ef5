-- What the methods of a handle run.
use mathlib.Core.List.{List, [], ◌∷◌}
use mir.Syntax.{Sym, Fn, Body, Local, Ty, place, field, copy, int, w64, assign, rv_opd, aggregate, seq, return, local, value_local, ty_ptr, ty_struct, tnil, tcons}
use denote.Param.{layout}
use Rattle.std_heap.specs.contracts.Global as Heap

abbrev pub heap_ty : Ty
heap_ty = layout Heap.the_row

-- the type of a handle, and of the parts of a box
abbrev handle_ty : Sym → Ty
handle_ty name = ty_struct name (tcons ty_ptr (tcons heap_ty tnil))

abbrev locals_of : List Ty → List Local
locals_of [] = []
locals_of (ty ∷ tys) = local ty value_local ∷ locals_of tys

-- a function of one argument, by its locals and its body
abbrev one_argument_code : List Ty → Body → Fn
one_argument_code tys body = record {
  lifetimes = 0;
  outlives = [];
  ty_params = [];
  givens = 0;
  params = 1;
  locals = locals_of tys;
  body = body;
}

-- no pointer and the allocator become one struct
abbrev pub closing_code : Sym → Fn
closing_code to = one_argument_code (handle_ty to ∷ heap_ty ∷ [])
    (seq (assign (place 0 []) (aggregate (int w64 0 ∷ copy (place 1 []) ∷ []))) return)

-- the fields of one struct become those of another
abbrev pub moving_code : Sym → Sym → Fn
moving_code from to = one_argument_code
    (handle_ty to ∷ handle_ty from ∷ ty_ptr ∷ heap_ty ∷ ty_ptr ∷ [])
    (seq (assign (place 2 []) (rv_opd (copy (place 1 (field 0 ∷ [])))))
    (seq (assign (place 3 []) (rv_opd (copy (place 1 (field 1 ∷ [])))))
    (seq (assign (place 4 []) (rv_opd (copy (place 2 []))))
    (seq (assign (place 0 []) (aggregate (copy (place 4 []) ∷ copy (place 3 []) ∷ []))) return))))
