-- Which endpoints are served, and the events of a line while they are.
use Rattle.std.specs.Prelude.{ℕ, zero, suc, ◌==◌, ◌||◌, Bool, List, [], ◌∷◌, ◌++◌, map, Option, Some, None, if◌then◌else◌}
use Rattle.std.specs.List.{list_any, filter_map}
use Rattle.fabric_script.specs.declared.lines.Line.{Line}
use Rattle.fabric_script.specs.declared.lines.Line.TheVariants.{Endpoint, Collect, Run}
use Rattle.fabric_script.specs.declared.lines.Numbered.{Numbered}

-- ---- which

-- whether a node is one of these
abbrev pub has_node : List ℕ → ℕ → Bool
has_node nodes node = list_any (λ other. other == node) nodes

-- these nodes with that of an event `collect`, once
abbrev pub with_served : List ℕ → Line → List ℕ
with_served nodes (Collect node) = if has_node nodes node then nodes else nodes ++ node ∷ []
with_served nodes _ = nodes

-- whether a node is served: all are, or it is one of these
abbrev pub is_served : Bool → List ℕ → ℕ → Bool
is_served all nodes node = all || has_node nodes node

abbrev pub node_if : Bool → ℕ → Option ℕ
node_if served node = if served then Some node else None

-- the node of a line of set-up, if it is an endpoint that is served
abbrev pub served_in : Bool → List ℕ → Line → Option ℕ
served_in all nodes (Endpoint name id) = node_if (is_served all nodes name) name
served_in all nodes _ = None

-- the endpoints that are served, in the order of the lines of set-up
abbrev pub served_of : Bool → List ℕ → List Numbered → List ℕ
served_of all nodes lines = filter_map (λ line. served_in all nodes line.line) lines

-- ---- the events of a line

-- those of a round: links and switches carry what they can, and each of these nodes collects
abbrev pub round_events : List ℕ → List Line
round_events nodes = Run 1 ∷ map Collect nodes

-- those of so many rounds
abbrev pub rounds : ℕ → List Line → List Line
rounds zero round = []
rounds (suc n) round = round ++ rounds n round

-- While these nodes are served, a `run` is carried out as so many rounds, and any other event as it
-- is.
abbrev pub events_carried : List ℕ → Line → List Line
events_carried (node ∷ nodes) (Run n) = rounds n (round_events (node ∷ nodes))
events_carried nodes event = event ∷ []
