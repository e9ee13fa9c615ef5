-- The lines of set-up of a script that a number stands for pass.
use Rattle.std.proofs.Common.{◌≡◌, ℕ, ◌+◌, ◌*◌, ◌<◌, ◌≤◌, nat_lt, Bool, true, false, ◌==◌, List, [], ◌∷◌, ◌++◌, length, Contains, codes, refl, sym, ◌∙◌, arith, get_or}
use Rattle.std.specs.List.{AllByRecursion}
use Rattle.std.proofs.lemmas.Bool.{ltb-true, eq-eqb}
use Rattle.std.proofs.lemmas.List.Elements.{All-contains, All-from_recursion}
use Rattle.fabric_script.specs.declared.known.Node.{Node}
use Rattle.fabric_script.specs.declared.known.Node.TheVariants as Nodes
use Rattle.fabric_script.specs.declared.lines.Line.{Line}
use Rattle.fabric_script.specs.declared.lines.Line.TheVariants.{Endpoint, Switch, Link, Route}
use Rattle.fabric_script.specs.declared.lines.Numbered.{Numbered}
use Rattle.fabric_script.specs.declared.ports.PortRef.{PortRef}
use Rattle.fabric_script.specs.declared.reasons.Reason.TheVariants.{UnknownLine, BadNumber, BadName, NameTaken, UnknownNode, PortOutside, PortTaken, IdTaken, BadHex, BadLength, WrongKind, OutOfPlace, NotLinked, TooMuchWork}
use Rattle.fabric_script.specs.Forms.{NewName, Number}
use Rattle.fabric_script.specs.Hits.{FitAll}
use Rattle.fabric_script.specs.Lines.{new_name}
use Rattle.fabric_script.specs.Names.{is_name}
use Rattle.fabric_script.specs.Texts.{Named, Counted}
use Rattle.fabric_script.specs.Known.{Known, nothing, of_script, ports_of}
use Rattle.fabric_script.specs.Reading.{MayBe, IsFree}
use Rattle.fabric_script.specs.Refusals.{refuses}
use Rattle.fabric_script.specs.Scripts.{PassesFrom}
use Rattle.fabric_script.specs.Soak.{soak_names, soak_set_up, numbered_from}
use Rattle.fabric_script.specs.Ports.{port_at}

-- ---- the fabric

abbrev pub soak_nodes : List Node
soak_nodes = Nodes.Endpoint 0 ∷ Nodes.Endpoint 1 ∷ Nodes.Endpoint 2 ∷ Nodes.Endpoint 3
    ∷ Nodes.Switch 4 ∷ Nodes.Switch 4 ∷ []

abbrev pub soak_links : List (PortRef × PortRef)
soak_links = (port_at 0 0, port_at 4 0) ∷ (port_at 1 0, port_at 4 1)
    ∷ (port_at 4 2, port_at 5 2) ∷ (port_at 2 0, port_at 5 0)
    ∷ (port_at 3 0, port_at 5 1) ∷ []

-- what is known behind the lines of set-up
abbrev pub soak_known : Bool → ℕ → Known
soak_known begun cost = record {
  names = soak_names;
  nodes = soak_nodes;
  links = soak_links;
  large_ids = [];
  begun = begun;
  cost = cost;
  mode = of_script;
}

pub free : (known : Known) (line : Line) → refuses known PortOutside line ≡ false
    → refuses known PortTaken line ≡ false → refuses known IdTaken line ≡ false
    → refuses known BadLength line ≡ false → refuses known WrongKind line ≡ false
    → refuses known OutOfPlace line ≡ false → refuses known NotLinked line ≡ false
    → refuses known TooMuchWork line ≡ false → IsFree known line
free known line a b d e f g h i UnknownLine = refl
free known line a b d e f g h i BadNumber = refl
free known line a b d e f g h i BadName = refl
free known line a b d e f g h i NameTaken = refl
free known line a b d e f g h i UnknownNode = refl
free known line a b d e f g h i PortOutside = a
free known line a b d e f g h i PortTaken = b
free known line a b d e f g h i IdTaken = d
free known line a b d e f g h i BadHex = refl
free known line a b d e f g h i BadLength = e
free known line a b d e f g h i WrongKind = f
free known line a b d e f g h i OutOfPlace = g
free known line a b d e f g h i NotLinked = h
free known line a b d e f g h i TooMuchWork = i

-- ---- the lines of set-up

-- names told apart by their first two letters
abbrev code_of : List ℕ → ℕ
code_of name = 256 * get_or name 0 0 + get_or name 1 0

lacks_name : (names : List (List ℕ)) (name : List ℕ)
    → AllByRecursion (λ other. (code_of other == code_of name) ≡ false) names
    → ¬ Contains names name
lacks_name names name all has =
    let apart = All-contains (λ other. (code_of other == code_of name) ≡ false) names name
    (All-from_recursion (λ other. (code_of other == code_of name) ≡ false) names all) has in
    let same = eq-eqb (code_of name) (code_of name) refl in
    let wrong : true ≡ false = sym same ∙ apart in absurd cc

new_may : (known : Known) (name : List ℕ) (n count least most : ℕ) → is_name name ≡ true
    → AllByRecursion (λ other. (code_of other == code_of name) ≡ false) known.names
    → least ≤ count → count ≤ most
    → FitAll known (NewName ∷ Number least most ∷ []) (Named name ∷ Counted count ∷ [])
new_may known name n count least most is_one all low high =
    ((is_one, lacks_name known.names name all), ((low, high), tt))

-- endpoints, of which the last has this number
abbrev some_nodes : List (List ℕ) → List Node → List (PortRef × PortRef) → Known
some_nodes names made joined = record {
  names = names;
  nodes = made;
  links = joined;
  large_ids = [];
  begun = false;
  cost = 0;
  mode = of_script;
}

endpoint_may : (names : List (List ℕ)) (made : List Node) (name : List ℕ) (n id : ℕ)
    → n ≡ length names → is_name name ≡ true → id ≤ 255
    → AllByRecursion (λ other. (code_of other == code_of name) ≡ false) names
    → MayBe (some_nodes names made []) name (Endpoint n id)
endpoint_may names made name n id next is_one small all = record {
  fit = new_may (some_nodes names made []) name n id 0 255 is_one all (omega arith) small;
  next = next;
}

switch_may : (names : List (List ℕ)) (made : List Node) (name : List ℕ) (n : ℕ)
    → n ≡ length names → is_name name ≡ true
    → AllByRecursion (λ other. (code_of other == code_of name) ≡ false) names
    → MayBe (some_nodes names made []) name (Switch n 4)
switch_may names made name n next is_one all = record {
  fit = new_may (some_nodes names made []) name n 4 2 16 is_one all (omega arith) (omega arith);
  next = next;
}

abbrev known_with : List (PortRef × PortRef) → Known
known_with joined = some_nodes soak_names soak_nodes joined

link_may : (joined : List (PortRef × PortRef)) (a b : PortRef) → a.node < 6 → a.port < 4
    → a.port < ports_of soak_nodes a.node → b.node < 6 → b.port < 4
    → b.port < ports_of soak_nodes b.node
    → MayBe (known_with joined) [] (Link a b)
link_may joined a b an ap1 af bn bp bf = record {
  fit = ((an, omega (arith, ap1), af), ((bn, omega (arith, bp), bf), tt));
  next = tt;
}

route_may : (node id p : ℕ) → node < 6 → id < 4 → p < 4
    → MayBe (known_with soak_links) [] (Route node id p)
route_may node id p n i less = record {
  fit = (
    n,
    ((omega (arith, i), omega (arith, i)), ((omega (arith, less), omega (arith, less)), tt)),
  );
  next = tt;
}

-- a port of a node is one of its ports
pub few_ports : (node port : ℕ) → nat_lt port (ports_of soak_nodes node) ≡ true
    → port < ports_of soak_nodes node
few_ports node port is = ltb-true port (ports_of soak_nodes node) is

-- a line that may be said and that no reason hits
line_passes : (known : Known) (line : Line) → MayBe known (new_name soak_names line) line
    → refuses known PortOutside line ≡ false
    → refuses known PortTaken line ≡ false → refuses known IdTaken line ≡ false
    → refuses known BadLength line ≡ false → refuses known WrongKind line ≡ false
    → refuses known OutOfPlace line ≡ false → refuses known NotLinked line ≡ false
    → refuses known TooMuchWork line ≡ false
    → MayBe known (new_name soak_names line) line × IsFree known line
line_passes known line may a b d e f g h i = (may, free known line a b d e f g h i)

abbrev link_lines : List Line
link_lines =
    Link (port_at 0 0) (port_at 4 0) ∷ Link (port_at 1 0) (port_at 4 1)
    ∷ Link (port_at 4 2) (port_at 5 2) ∷ Link (port_at 2 0) (port_at 5 0)
    ∷ Link (port_at 3 0) (port_at 5 1) ∷ []

abbrev route_lines : List Line
route_lines =
    Route 4 0 0 ∷ Route 4 1 1 ∷ Route 4 2 2 ∷ Route 4 3 2 ∷ Route 5 2 0 ∷ Route 5 3 1
    ∷ Route 5 0 2 ∷ Route 5 1 2 ∷ []

passes_routes : (lines : List Numbered) → PassesFrom (soak_known false 0) soak_names lines
    → PassesFrom (known_with soak_links) soak_names (numbered_from 12
    route_lines ++ lines)
unfolding numbered_from
passes_routes lines rest =
    let s0 = line_passes (known_with soak_links) (Route 4 0 0)
    (route_may 4 0 0 (omega arith) (omega arith) (omega arith))
    refl refl refl refl refl refl refl refl in
    let s1 = line_passes (known_with soak_links) (Route 4 1 1)
    (route_may 4 1 1 (omega arith) (omega arith) (omega arith))
    refl refl refl refl refl refl refl refl in
    let s2 = line_passes (known_with soak_links) (Route 4 2 2)
    (route_may 4 2 2 (omega arith) (omega arith) (omega arith))
    refl refl refl refl refl refl refl refl in
    let s3 = line_passes (known_with soak_links) (Route 4 3 2)
    (route_may 4 3 2 (omega arith) (omega arith) (omega arith))
    refl refl refl refl refl refl refl refl in
    let s4 = line_passes (known_with soak_links) (Route 5 2 0)
    (route_may 5 2 0 (omega arith) (omega arith) (omega arith))
    refl refl refl refl refl refl refl refl in
    let s5 = line_passes (known_with soak_links) (Route 5 3 1)
    (route_may 5 3 1 (omega arith) (omega arith) (omega arith))
    refl refl refl refl refl refl refl refl in
    let s6 = line_passes (known_with soak_links) (Route 5 0 2)
    (route_may 5 0 2 (omega arith) (omega arith) (omega arith))
    refl refl refl refl refl refl refl refl in
    let s7 = line_passes (known_with soak_links) (Route 5 1 2)
    (route_may 5 1 2 (omega arith) (omega arith) (omega arith))
    refl refl refl refl refl refl refl refl in (
      s0.0,
      s0.1,
      (
        s1.0,
        s1.1,
        (s2.0, s2.1, (s3.0, s3.1, (s4.0, s4.1, (s5.0, s5.1, (s6.0, s6.1, (s7.0, s7.1, rest)))))),
      ),
    )

passes_links : (lines : List Numbered) → PassesFrom (known_with soak_links) soak_names lines
    → PassesFrom (known_with []) soak_names (numbered_from 7
    link_lines ++ lines)
unfolding numbered_from
passes_links lines rest =
    let s0 = line_passes (known_with []) (Link (port_at 0 0) (port_at 4 0))
    (link_may [] (port_at 0 0) (port_at 4 0) (omega arith) (omega arith)
    (few_ports 0 0 refl) (omega arith) (omega arith) (few_ports 4 0 refl))
    refl refl refl refl refl refl refl refl in
    let s1 = line_passes (known_with ((port_at 0 0, port_at 4 0) ∷ []))
    (Link (port_at 1 0) (port_at 4 1))
    (link_may ((port_at 0 0, port_at 4 0) ∷ []) (port_at 1 0) (port_at 4 1)
    (omega arith) (omega arith) (few_ports 1 0 refl) (omega arith) (omega arith)
    (few_ports 4 1 refl))
    refl refl refl refl refl refl refl refl in
    let s2 = line_passes
    (known_with ((port_at 0 0, port_at 4 0) ∷ (port_at 1 0, port_at 4 1)
    ∷ [])) (Link (port_at 4 2) (port_at 5 2))
    (link_may ((port_at 0 0, port_at 4 0) ∷ (port_at 1 0, port_at 4 1) ∷ [])
    (port_at 4 2) (port_at 5 2) (omega arith) (omega arith) (few_ports 4 2 refl)
    (omega arith) (omega arith) (few_ports 5 2 refl))
    refl refl refl refl refl refl refl refl in
    let s3 = line_passes
    (known_with ((port_at 0 0, port_at 4 0) ∷ (port_at 1 0, port_at 4 1)
    ∷ (port_at 4 2, port_at 5 2) ∷ []))
    (Link (port_at 2 0) (port_at 5 0))
    (link_may ((port_at 0 0, port_at 4 0) ∷ (port_at 1 0, port_at 4 1)
    ∷ (port_at 4 2, port_at 5 2) ∷ []) (port_at 2 0) (port_at 5 0)
    (omega arith) (omega arith) (few_ports 2 0 refl) (omega arith) (omega arith)
    (few_ports 5 0 refl))
    refl refl refl refl refl refl refl refl in
    let s4 = line_passes
    (known_with ((port_at 0 0, port_at 4 0) ∷ (port_at 1 0, port_at 4 1)
    ∷ (port_at 4 2, port_at 5 2) ∷ (port_at 2 0, port_at 5 0) ∷ []))
    (Link (port_at 3 0) (port_at 5 1))
    (link_may ((port_at 0 0, port_at 4 0) ∷ (port_at 1 0, port_at 4 1)
    ∷ (port_at 4 2, port_at 5 2) ∷ (port_at 2 0, port_at 5 0) ∷ [])
    (port_at 3 0) (port_at 5 1) (omega arith) (omega arith) (few_ports 3 0 refl)
    (omega arith) (omega arith) (few_ports 5 1 refl))
    refl refl refl refl refl refl refl refl in
    (s0.0, s0.1, (s1.0, s1.1, (s2.0, s2.1, (s3.0, s3.1, (s4.0, s4.1, rest)))))

passes_nodes : (lines : List Numbered) → PassesFrom (known_with []) soak_names lines
    → PassesFrom nothing soak_names (numbered_from 1
    (Endpoint 0 0 ∷ Endpoint 1 1 ∷ Endpoint 2 2 ∷ Endpoint 3 3 ∷ Switch 4 4 ∷ Switch 5 4 ∷ [])
    ++ lines)
unfolding numbered_from
passes_nodes lines rest =
    let s0 = line_passes (some_nodes [] [] []) (Endpoint 0 0)
    (endpoint_may [] [] (codes "E0") 0 0 refl refl (omega arith) tt)
    refl refl refl refl refl refl refl refl in
    let s1 = line_passes (some_nodes (codes "E0" ∷ []) (Nodes.Endpoint 0 ∷ []) []) (Endpoint 1 1)
    (endpoint_may (codes "E0" ∷ []) (Nodes.Endpoint 0 ∷ []) (codes "E1") 1 1 refl refl (omega arith)
    (refl, tt))
    refl refl refl refl refl refl refl refl in
    let s2 = line_passes
    (some_nodes (codes "E0" ∷ codes "E1" ∷ []) (Nodes.Endpoint 0 ∷ Nodes.Endpoint 1 ∷ [])
    []) (Endpoint 2 2)
    (endpoint_may (codes "E0" ∷ codes "E1" ∷ []) (Nodes.Endpoint 0 ∷ Nodes.Endpoint 1 ∷ [])
    (codes "E2") 2 2 refl refl (omega arith) (refl, (refl, tt)))
    refl refl refl refl refl refl refl refl in
    let s3 = line_passes
    (some_nodes (codes "E0" ∷ codes "E1" ∷ codes "E2" ∷ [])
    (Nodes.Endpoint 0 ∷ Nodes.Endpoint 1 ∷ Nodes.Endpoint 2 ∷ []) []) (Endpoint 3 3)
    (endpoint_may (codes "E0" ∷ codes "E1" ∷ codes "E2" ∷ [])
    (Nodes.Endpoint 0 ∷ Nodes.Endpoint 1 ∷ Nodes.Endpoint 2 ∷ []) (codes "E3") 3 3 refl refl
    (omega arith) (refl, (refl, (refl, tt))))
    refl refl refl refl refl refl refl refl in
    let s4 = line_passes
    (some_nodes (codes "E0" ∷ codes "E1" ∷ codes "E2" ∷ codes "E3" ∷ [])
    (Nodes.Endpoint 0 ∷ Nodes.Endpoint 1 ∷ Nodes.Endpoint 2 ∷ Nodes.Endpoint 3 ∷ []) [])
    (Switch 4 4)
    (switch_may (codes "E0" ∷ codes "E1" ∷ codes "E2" ∷ codes "E3" ∷ [])
    (Nodes.Endpoint 0 ∷ Nodes.Endpoint 1 ∷ Nodes.Endpoint 2 ∷ Nodes.Endpoint 3 ∷ []) (codes "S")
    4 refl refl (refl, (refl, (refl, (refl, tt)))))
    refl refl refl refl refl refl refl refl in
    let s5 = line_passes
    (some_nodes (codes "E0" ∷ codes "E1" ∷ codes "E2" ∷ codes "E3" ∷ codes "S" ∷ [])
    (Nodes.Endpoint 0 ∷ Nodes.Endpoint 1 ∷ Nodes.Endpoint 2 ∷ Nodes.Endpoint 3
    ∷ Nodes.Switch 4 ∷ []) []) (Switch 5 4)
    (switch_may (codes "E0" ∷ codes "E1" ∷ codes "E2" ∷ codes "E3" ∷ codes "S" ∷ [])
    (Nodes.Endpoint 0 ∷ Nodes.Endpoint 1 ∷ Nodes.Endpoint 2 ∷ Nodes.Endpoint 3 ∷ Nodes.Switch 4
    ∷ []) (codes "T") 5 refl refl (refl, (refl, (refl, (refl, (refl, tt))))))
    refl refl refl refl refl refl refl refl in
    (s0.0, s0.1, (s1.0, s1.1, (s2.0, s2.1, (s3.0, s3.1, (s4.0, s4.1, (s5.0, s5.1, rest))))))

pub passes_set_up : (lines : List Numbered) → PassesFrom (soak_known false 0) soak_names lines
    → PassesFrom nothing soak_names (numbered_from 1 soak_set_up ++ lines)
unfolding numbered_from
passes_set_up lines rest =
    passes_nodes (numbered_from 7 link_lines ++ (numbered_from 12 route_lines ++ lines))
    (passes_links (numbered_from 12 route_lines ++ lines) (passes_routes lines rest))
