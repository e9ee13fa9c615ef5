-- What is known of a script, where a trace of it is checked: its names, nodes and links.
use Rattle.std.specs.Prelude.{◌≡◌, ℕ, ◌<◌, ◌^◌, List, [], ◌∷◌, if◌then◌else◌}
use Rattle.std.specs.List.{AllByRecursion}
use Rattle.fabric_script.specs.declared.known.Node.{Node}
use Rattle.fabric_script.specs.declared.lines.Line.{Line}
use Rattle.fabric_script.specs.declared.lines.Numbered.{Numbered}
use Rattle.fabric_script.specs.declared.ports.PortRef.{PortRef}
use Rattle.fabric_script.specs.Known.{Known, nodes_after, links_after, one_event}
use Rattle.fabric_script.specs.Lines.{is_event}

-- the nodes and the links of lines, behind those that were there
abbrev pub nodes_all : List Node → List Numbered → List Node
nodes_all nodes [] = nodes
nodes_all nodes (line ∷ lines) = nodes_all (nodes_after nodes line.line) lines

abbrev pub links_all : List (PortRef × PortRef) → List Numbered → List (PortRef × PortRef)
links_all links [] = links
links_all links (line ∷ lines) = links_all (links_after links line.line) lines

-- The names, nodes and links of the script are known, and one event alone may stand.
pub record KnowsScript (names : List (List ℕ)) (script : List Numbered) (known : Known) : Type 0
  where
    pub names_are : known.names ≡ names
    pub nodes_are : known.nodes ≡ nodes_all [] script
    pub links_are : known.links ≡ links_all [] script
    pub event : known.mode ≡ one_event

-- the numbers of the lines fit 32 bits, as those of each script that is read do
abbrev pub LinesAreNumbered : List Numbered → Type 0
LinesAreNumbered script = AllByRecursion (λ (line : Numbered). line.number < 2 ^ 32) script

-- the lines of set-up, without their numbers
abbrev pub lines_of_set_up : List Numbered → List Line
lines_of_set_up [] = []
lines_of_set_up (line ∷ lines) =
    if is_event line.line then lines_of_set_up lines else line.line ∷ lines_of_set_up lines
