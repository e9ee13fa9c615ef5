-- What the methods of a handle ask and promise.
use mathlib.Core.Path.{◌≡◌}
use mathlib.Core.List.{List, [], ◌∷◌, ◌++◌}
use Rattle.std.proofs.Common.{◌<◌, length}
use seplogic.Ra.Ura.{Ura}
use mir.Syntax.{Sym, Fn, Callee}
use base.Logic.{ent, emp}
use base.Fml.{ftrue}
use prog.Model.{Model}
use prog.Wp.{WpFn, Tables, Closed}
use types.Logic.{Logic}
use contract.Monad.{fact}
use contract.Running.{Running, tables, tables_of}
use denote.RattleType.{RattleType}
use denote.Exit.{yes, Last, left}
use denote.Signature.{plain}
use denote.Triple.Clauses.{Ended, Clauses, closing}
use denote.Triple.Spec.{Meets}
use denote.Triple.Statement.{Contract}
use denote.Triple.Walked.{Stays, stay_dropped, walk_of, Goes-dropped}
use Rattle.std.proofs.raw_atomic.Walks.{proved_at}
use Rattle.std_heap.specs.contracts.Global as Heap
use Rattle.std_heap.specs.contracts.GlobalAllocator.TheImpl.{ghosts}
use Rattle.kigvarp_c.specs.contracts.parts.Parts as Parts
use Rattle.kigvarp_c.proofs.HandleForm.{HandleForm}

-- a method that makes the one of the other
abbrev pub making : RattleType → RattleType → Ended
making From To = record {
  signature = record {
    lifetimes = 0;
    outlives = [];
    params = plain (λ κs. From) ∷ [];
    result = plain (λ κs. To);
  };
  kept = (yes, tt);
}

abbrev pub stayed : (From To : RattleType) → Stays (making From To).signature.params
    (making From To).kept
stayed From To = (stay_dropped (plain (λ κs. From)) yes, tt)

module _ (form : HandleForm) where
  abbrev pub PartsRow : RattleType
  PartsRow = Parts.the_row form.thing Heap.the_row ghosts

  abbrev pub parts_name : Sym
  parts_name = (Parts.the_type form.thing Heap.the_row ghosts).name

  module _ {M : Type 1} (𝓤 : Ura M) where
    abbrev pub closed_clauses : Clauses 𝓤 (making Heap.the_row form.row)
    closed_clauses κs args = record {
      ghost = Unit {0};
      requires = λ _. emp 𝓤;
      ensures = λ _ made _. fact 𝓤 (form.things made ≡ []);
    }

    abbrev pub of_parts_clauses : Clauses 𝓤 (making PartsRow form.row)
    of_parts_clauses κs args = record {
      ghost = Unit {0};
      requires = λ _. emp 𝓤;
      ensures = λ _ made _. fact 𝓤 (form.things made ≡ args.0.value ∷ []);
    }

    abbrev pub into_parts_clauses : Clauses 𝓤 (making form.row PartsRow)
    into_parts_clauses κs args = record {
      ghost = Unit {0};
      requires = λ _. fact 𝓤 (0 < length (form.things args.0));
      ensures = λ _ made _. fact 𝓤
          ((others : List form.thing.Denot) × (form.things args.0 ≡ made.value ∷ others));
    }

module _ {M : Type 1} {𝓤 : Ura M} (𝓛 : Logic 𝓤) where
  -- the tables over which a walk goes
  abbrev pub walk_tables : (𝓜 : Model 𝓤 𝓛.H) → Running 𝓤 𝓛.H 𝓜 → Tables 𝓤 𝓛.H
  walk_tables 𝓜 𝓡 = tables_of 𝓤 𝓛.H 𝓜 (tables 𝓤 𝓛.H 𝓜 𝓡 𝓡.env)

  module _ {From To : RattleType} (c : Clauses 𝓤 (making From To)) where
    abbrev pub walking : Contract 𝓤
    walking = walk_of 𝓛 (making From To) (stayed From To) c

    module _ (𝓜 : Model 𝓤 𝓛.H) (𝓡 : Running 𝓤 𝓛.H 𝓜) (key : Callee) (code : Fn) where
      -- a method that runs this code keeps the contract
      abbrev pub MethodMeets : Type 2
      MethodMeets = let calls = tables 𝓤 𝓛.H 𝓜 𝓡 𝓡.env in
          Closed 𝓤 𝓛.H calls.C calls.Λ key code
          → Meets 𝓛 (making From To).signature (calls.C key) (closing 𝓛 (making From To) c)

      -- by a walk of the code, where nothing is left of what it used up
      pub method_meets : ((x : From.Denot) (w : Last (From.exit yes) x)
          → left (From.exit yes) x w ≡ ftrue)
          → ((y : walking.Ghost) → ent 𝓤 (walking.pre y)
          (WpFn 𝓤 𝓛.H (walk_tables 𝓜 𝓡).C (walk_tables 𝓜 𝓡).Λ code (y.0.4.0 ++ [])
          (walking.post y))) → MethodMeets
      unfolding tables_of
      method_meets leaves_nothing walk closed =
          proved_at 𝓛 (making From To) (stayed From To) c 𝓜 𝓡
          (Goes-dropped 𝓛 0 (plain (λ κs. From)) yes (λ κs. leaves_nothing), tt) key code closed
          (λ y are. walk y)
