-- Lines that are read, one after another.
use Rattle.std.proofs.Common.{◌≡◌, ℕ, Option, List, [], ◌∷◌, ◌++◌, refl, sym, ap, ◌∙◌, append-nil, append_assoc}
use Rattle.std.specs.List.{flat_map}
use Rattle.std.specs.Io.KnownBytes.{Consumes}
use Rattle.std.proofs.KnownBytes.{Consumes-trans, Consumes-nil}
use Rattle.std.proofs.lemmas.Grind.{flat_map-append}
use Rattle.std.proofs.lemmas.List.Elements.{All-nil, All-push, All-append}
use Rattle.live_lines.specs.Lines.{IsLine, with_feed}
use Rattle.follow_lines.specs.Following.{ReadsLines}

-- nothing was read
pub Reads-none : (pending : List ℕ) (left : Option (List ℕ))
    → ReadsLines pending left left [] pending
Reads-none pending left = record {
  are_lines = All-nil (λ l. IsLine l);
  taken = [];
  read = Consumes-nil left;
  bytes = append-nil pending;
}

-- lines and then others were read
pub Reads-join : (pending middle behind : List ℕ) (left mid last : Option (List ℕ))
    (lines others : List (List ℕ)) → ReadsLines pending left mid lines middle
    → ReadsLines middle mid last others behind
    → ReadsLines pending left last (lines ++ others) behind
Reads-join pending middle behind left mid last lines others h k = record {
  are_lines = All-append (λ l. IsLine l) lines others h.are_lines k.are_lines;
  taken = h.taken ++ k.taken;
  read = Consumes-trans left mid last h.taken k.taken h.read k.read;
  bytes = sym (append_assoc pending h.taken k.taken)
      ∙ ap (λ l. l ++ k.taken) h.bytes
      ∙ append_assoc (flat_map with_feed lines) middle k.taken
      ∙ ap (λ l. flat_map with_feed lines ++ l) k.bytes
      ∙ sym (append_assoc (flat_map with_feed lines) (flat_map with_feed others) behind)
      ∙ ap (λ l. l ++ behind) (sym (flat_map-append with_feed lines others));
}

-- one line was read
pub Reads-one : (pending behind line taken : List ℕ) (left last : Option (List ℕ))
    → Consumes left last taken → pending ++ taken ≡ with_feed line ++ behind → IsLine line
    → ReadsLines pending left last (line ∷ []) behind
Reads-one pending behind line taken left last read is good = record {
  are_lines = All-push (λ l. IsLine l) [] line (All-nil (λ l. IsLine l)) good;
  taken = taken;
  read = read;
  bytes = is ∙ ap (λ l. l ++ behind) (sym (append-nil (with_feed line)));
}

-- bytes were read that are no line
pub Reads-more : (pending taken : List ℕ) (left last : Option (List ℕ))
    → Consumes left last taken → ReadsLines pending left last [] (pending ++ taken)
Reads-more pending taken left last read = record {
  are_lines = All-nil (λ l. IsLine l);
  taken = taken;
  read = read;
  bytes = refl;
}

-- a line more was read
pub Reads-line : (pending middle behind line taken : List ℕ) (left mid last : Option (List ℕ))
    (lines : List (List ℕ)) → ReadsLines pending left mid lines middle
    → Consumes mid last taken → middle ++ taken ≡ with_feed line ++ behind → IsLine line
    → ReadsLines pending left last (lines ++ line ∷ []) behind
Reads-line pending middle behind line taken left mid last lines h read is good =
    Reads-join pending middle behind left mid last lines (line ∷ []) h
    (Reads-one middle behind line taken mid last read is good)
