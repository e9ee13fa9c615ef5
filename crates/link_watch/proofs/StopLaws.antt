-- A watch that stops before it took in all notes.
use Rattle.std.proofs.Common.{List, [], ◌∷◌, ◌++◌, refl, sym, ap, subst, ◌∙◌, append_assoc}
use Rattle.link_watch.specs.Stops.{IsWatch, CutAtFirst, Stopped}
use Rattle.link_watch.specs.declared.note.Note.{Note}

module _ {W : Type 0} {grew : W → List Note → W → Type 0} {cut : W → Note → W → Type 0}
    (watch : IsWatch grew cut) where
  cut_at_once : (now : W) (notes : List Note) → CutAtFirst cut now notes now
  cut_at_once now [] = refl
  cut_at_once now (note ∷ notes) = watch.cut_none now note

  -- nothing was noted yet
  pub stopped_at_once : (now : W) (notes : List Note) → Stopped grew cut now notes now
  stopped_at_once now notes = record {
    front = [];
    rest = notes;
    whole = refl;
    mid = now;
    grown = watch.none now;
    cut_at = cut_at_once now notes;
  }

  -- stopped within the only note
  pub stopped_in_one : (old new : W) (note : Note) → cut old note new
      → Stopped grew cut old (note ∷ []) new
  stopped_in_one old new note h = record {
    front = [];
    rest = note ∷ [];
    whole = refl;
    mid = old;
    grown = watch.none old;
    cut_at = h;
  }

  -- ---- these first, the rest then

  -- the first were taken in, and it stopped within the rest
  pub stopped_then : (old mid new : W) (first rest : List Note) → grew old first mid
      → Stopped grew cut mid rest new → Stopped grew cut old (first ++ rest) new
  stopped_then old mid new first rest taken s = record {
    front = first ++ s.front;
    rest = s.rest;
    whole = ap (λ (l : List Note). first ++ l) s.whole ∙ sym (append_assoc first s.front s.rest);
    mid = s.mid;
    grown = watch.on old mid s.mid first s.front taken s.grown;
    cut_at = s.cut_at;
  }

  cut_before_more : (notes more : List Note) (mid new : W) → CutAtFirst cut mid notes new
      → CutAtFirst cut mid (notes ++ more) new
  cut_before_more [] [] mid new h = h
  cut_before_more [] (note ∷ more) mid new h =
      subst (λ w. cut mid note w) (sym h) (watch.cut_none mid note)
  cut_before_more (note ∷ notes) more mid new h = h

  -- it stopped within the first
  pub stopped_before : (old new : W) (first rest : List Note) → Stopped grew cut old first new
      → Stopped grew cut old (first ++ rest) new
  stopped_before old new first rest s = record {
    front = s.front;
    rest = s.rest ++ rest;
    whole = ap (λ (l : List Note). l ++ rest) s.whole ∙ append_assoc s.front s.rest rest;
    mid = s.mid;
    grown = s.grown;
    cut_at = cut_before_more s.rest rest s.mid new s.cut_at;
  }
