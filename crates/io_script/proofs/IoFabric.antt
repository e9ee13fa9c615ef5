-- What the set-up lines say of the nodes and links is what is known behind them.
use Rattle.std.proofs.Common.{◌≡◌, ◌≢◌, ℕ, ◌+◌, ◌≤◌, ◌==◌, suc, List, [], ◌∷◌, ◌++◌, length, length-append, refl, sym, ap, ◌∙◌, subst, append_assoc, append-nil, arith}
use Rattle.std.proofs.lemmas.List.{map-append}
use Rattle.std.proofs.lemmas.List.Splits.{length-slice_split}
use Rattle.std.proofs.lemmas.List.Sums.{count_by-le-length, sum_by-append}
use Rattle.fabric_script.specs.declared.known.Mode.TheVariants as Mode
use Rattle.fabric_script.specs.declared.known.Node.{Node}
use Rattle.fabric_script.specs.declared.lines.Line.{Line}
use Rattle.fabric_script.specs.declared.lines.Line.TheVariants.{Endpoint, Switch, Link}
use Rattle.fabric_script.specs.declared.lines.Numbered.{Numbered}
use Rattle.fabric_script.specs.declared.ports.PortRef.{PortRef}
use Rattle.fabric_script.specs.Known.{Known, known_after, links_after, names_after, nodes_after, nothing_in, of_set_up}
use Rattle.fabric_script.specs.Reading.{IsFree, new_name_in}
use Rattle.fabric_script.specs.Scripts.{IsScriptIn, is_skipped, KeptThen, pieces_of, SpellsFrom}
use Rattle.fabric_script.specs.SetUps.{for_event}
use Rattle.fabric_script.proofs.KnownLaws.{nothing-orderly, within_nodes}
use Rattle.script_input.proofs.InputOnce.{by_skipped, spelled_orderly}
use Rattle.io_script.specs.IoTaking.{IsFabric, link_count, links_among, switch_of, switches_among, switches_of}

-- ---- one line

switched_line : (nodes : List Node) (line : Line)
    → switches_among (nodes_after nodes line) ≡ switches_among nodes ++ switch_of line
switched_line nodes (Endpoint name id) = map-append _ nodes _
switched_line nodes (Switch name ports) = map-append _ nodes _
switched_line nodes _ = sym (append-nil (switches_among nodes))

linked_line : (links : List (PortRef × PortRef)) (line : Line)
    → length (links_after links line) ≡ length links + link_count line
linked_line links (Link a b) = length-append links ((a, b) ∷ [])
linked_line links _ = omega arith

few_line : (line : Line) → link_count line ≤ 1
few_line (Link a b) = omega arith
few_line _ = omega arith

named_line : (known : Known) (new : List ℕ) (line : Line) → known.mode ≢ Mode.Event
    → IsFree known line → length known.names ≤ 64
    → length (names_after known.names new line) ≤ 64
named_line known new (Endpoint name id) apart free few =
    let room = within_nodes known (Endpoint name id) apart free refl in
    omega (arith, room, length-append known.names (new ∷ []))
named_line known new (Switch name ports) apart free few =
    let room = within_nodes known (Switch name ports) apart free refl in
    omega (arith, room, length-append known.names (new ∷ []))
named_line known new _ apart free few = few

-- ---- all lines

-- what is known at the end, by what was known before so many texts
record HasSetUp (known : Known) (count : ℕ) (lines : List Numbered) (end : Known) : Type 0 where
  switched : switches_among end.nodes ≡ switches_among known.nodes ++ switches_of lines
  linked : length end.links ≡ length known.links + links_among lines
  few_links : links_among lines ≤ count
  few_names : length known.names ≤ 64 → length end.names ≤ 64

-- what a text that is kept spells, with those behind it
abbrev Kept : ℕ → Known → List ℕ → List (List ℕ) → List Numbered → Known → Type 0
Kept number known text texts lines end =
    KeptThen (λ next rest. SpellsFrom (suc number) next texts rest end) number known text lines

has_line : (known : Known) (text : List ℕ) (count : ℕ) (first : Numbered) (rest : List Numbered)
    (end : Known) → known.mode ≢ Mode.Event → IsFree known first.line
    → HasSetUp (known_after known (new_name_in text first.line) first.line) count rest end
    → HasSetUp known (suc count) (first ∷ rest) end
has_line known text count first rest end apart free p = record {
  switched = p.switched
      ∙ ap (λ s. s ++ switches_of rest) (switched_line known.nodes first.line)
      ∙ append_assoc (switches_among known.nodes) (switch_of first.line) (switches_of rest);
  linked =
      let all = p.linked in
      let here : length (known_after known (new_name_in text first.line) first.line).links
      ≡ length known.links + link_count first.line = linked_line known.links first.line in
      omega (arith, all, here, counted);
  few_links =
      let few = p.few_links in omega (arith, few, few_line first.line, counted);
  few_names = λ few.
      p.few_names (named_line known (new_name_in text first.line) first.line apart free few);
}
  where
    counted : links_among (first ∷ rest) ≡ link_count first.line + links_among rest
    counted =
        let one : links_among (first ∷ rest) ≡ (0 + link_count first.line) + links_among rest
        = sum_by-append (λ line. link_count line.line) (first ∷ []) rest in
        omega (arith, one)

has_set_up : (number : ℕ) (known : Known) (texts : List (List ℕ)) (lines : List Numbered)
    (end : Known) → known.mode ≢ Mode.Event → SpellsFrom number known texts lines end
    → HasSetUp known (length texts) lines end
has_set_up number known [] lines end apart spelled =
    subst (λ l. HasSetUp known 0 l end) (sym spelled.0)
    (subst (λ k. HasSetUp known 0 [] k) (sym spelled.1)
    (record {
      switched = sym (append-nil (switches_among known.nodes));
      linked = omega arith;
      few_links = omega arith;
      few_names = λ few. few;
    }))
has_set_up number known (text ∷ texts) lines end apart spelled =
    by_skipped (SpellsFrom (suc number) known texts lines end)
    (Kept number known text texts lines end)
    (HasSetUp known (suc (length texts)) lines end) (is_skipped text)
    (λ skips.
    let p = has_set_up (suc number) known texts lines end apart skips in
    let few = p.few_links in
    record {
      switched = p.switched;
      linked = p.linked;
      few_links = omega (arith, few);
      few_names = p.few_names;
    })
    (λ keeps.
    let first : Numbered = record { number = number; line = keeps.0 } in
    subst (λ l. HasSetUp known (suc (length texts)) l end) (sym keeps.2)
    (has_line known text (length texts) first keeps.1 end apart keeps.3.free
    (has_set_up (suc number) (known_after known (new_name_in text keeps.0) keeps.0) texts keeps.1
    end apart keeps.4)))
    spelled

pub fabric_of : (bytes : List ℕ) (names : List (List ℕ)) (lines : List Numbered)
    → length bytes ≤ 16777216 → (script : IsScriptIn of_set_up bytes names lines)
    → IsFabric (for_event script.0) names (switches_of lines) (links_among lines)
fabric_of bytes names lines short script =
    let end = script.0 in
    let start = nothing_in of_set_up in
    let pieces = pieces_of bytes in
    let has = has_set_up 1 start pieces lines end (λ is. absurd cc) script.2 in
    let orderly = spelled_orderly 1 start pieces lines end (nothing-orderly of_set_up) script.2 in
    let counted = length-slice_split (λ byte. byte == 10) bytes in
    let few = has.few_links in
    let linked = has.linked in
    record {
      orderly = record { named = orderly.named; apart = orderly.apart };
      named = sym script.1;
      switched = sym has.switched;
      linked = omega (arith, linked);
      few_names = subst (λ n. length n ≤ 64) script.1 (has.few_names (omega arith));
      few_links = omega (arith, few, counted, count_by-le-length (λ byte. byte == 10) bytes, short);
    }
