-- An event of a script may stand alone, by what is known of the script.
use Rattle.lawful_traces.proofs.Prelude.{◌≡◌, ℕ, Bool, true, false, not, ◌&&◌, ◌||◌, List, [], ◌∷◌, refl, sym, ap, ◌∙◌, subst, Node, Line, Endpoint, Switch, Link, Large, Numbered, PortRef, Known, IsOrderly, of_script, one_event, known_after, names_after, nodes_after, links_after, is_event, new_name, MayBe, IsFree, PassesFrom, orderly-after, nodes_all, links_all}
use Rattle.fabric_script.specs.declared.known.Mode.{Mode}
use Rattle.fabric_script.specs.declared.reasons.Reason.TheVariants.{UnknownLine, BadNumber, BadName, NameTaken, UnknownNode, PortOutside, PortTaken, IdTaken, BadHex, BadLength, WrongKind, OutOfPlace, NotLinked, TooMuchWork}
use Rattle.fabric_script.specs.Refusals.{id_is_taken, out_of_place_in}

-- ---- one event

-- the names, nodes and links that were known, where one event is wanted
abbrev at_event : Known → Known → Known
at_event old known = record known {
  names = old.names;
  nodes = old.nodes;
  links = old.links;
  mode = one_event;
}

not_taken : (known : Known) (line : Line) → is_event line ≡ true → id_is_taken known line ≡ false
not_taken known (Endpoint name id) event = absurd cc
not_taken known (Large node id) event = absurd cc
not_taken known _ event = refl

free_at : (old known : Known) (line : Line) → is_event line ≡ true → IsFree old line
    → IsFree (at_event old known) line
free_at old known line event free UnknownLine = refl
free_at old known line event free BadNumber = refl
free_at old known line event free BadName = refl
free_at old known line event free NameTaken = refl
free_at old known line event free UnknownNode = refl
free_at old known line event free PortOutside = free PortOutside
free_at old known line event free PortTaken = free PortTaken
free_at old known line event free IdTaken = not_taken (at_event old known) line event
free_at old known line event free BadHex = refl
free_at old known line event free BadLength = free BadLength
free_at old known line event free WrongKind = free WrongKind
free_at old known line event free OutOfPlace = ap not event
free_at old known line event free NotLinked = free NotLinked
free_at old known line event free TooMuchWork = refl

may_at : (old known : Known) (new : List ℕ) (line : Line) → MayBe old new line
    → MayBe (at_event old known) new line
may_at old known new line may = record { fit = may.fit; next = may.next }

to_known : (P : Known → Type 0) (old known : Known) → known.names ≡ old.names
    → known.nodes ≡ old.nodes → known.links ≡ old.links → known.mode ≡ one_event
    → P (at_event old known) → P known
to_known P old known names nodes links mode is =
    subst (λ (x : List (List ℕ)). P (record known { names = x })) (sym names)
    (subst (λ (x : List Node). P (record known { names = old.names; nodes = x })) (sym nodes)
    (subst (λ (x : List (PortRef × PortRef)).
    P (record known { names = old.names; nodes = old.nodes; links = x })) (sym links)
    (subst (λ (x : Mode).
    P (record known { names = old.names; nodes = old.nodes; links = old.links; mode = x }))
    (sym mode) is)))

-- an event line that was free may stand alone
pub event_fits : (old known : Known) (new : List ℕ) (line : Line) → known.names ≡ old.names
    → known.nodes ≡ old.nodes → known.links ≡ old.links → known.mode ≡ one_event
    → is_event line ≡ true → MayBe old new line → IsFree old line
    → MayBe known new line × IsFree known line
event_fits old known new line names nodes links mode event may free =
    to_known (λ (x : Known). MayBe x new line × IsFree x line) old known names nodes links mode
    (may_at old known new line may, free_at old known line event free)

-- ---- what stays behind an event

pub names_stay : (names : List (List ℕ)) (new : List ℕ) (line : Line) → is_event line ≡ true
    → names_after names new line ≡ names
names_stay names new (Endpoint name id) event = absurd cc
names_stay names new (Switch name ports) event = absurd cc
names_stay names new _ event = refl

pub nodes_stay : (nodes : List Node) (line : Line) → is_event line ≡ true
    → nodes_after nodes line ≡ nodes
nodes_stay nodes (Endpoint name id) event = absurd cc
nodes_stay nodes (Switch name ports) event = absurd cc
nodes_stay nodes _ event = refl

pub links_stay : (links : List (PortRef × PortRef)) (line : Line) → is_event line ≡ true
    → links_after links line ≡ links
links_stay links (Link a b) event = absurd cc
links_stay links _ event = refl

event_of : (begun event : Bool) → begun ≡ true → begun && not event ≡ false → event ≡ true
event_of true true b e = refl
event_of true false b e = absurd cc
event_of false event b e = absurd cc

begun_stays : (begun event : Bool) → begun ≡ true → begun || event ≡ true
begun_stays true event b = refl
begun_stays false event b = absurd cc

pub begun_by : (begun event : Bool) → event ≡ true → begun || event ≡ true
begun_by true event e = refl
begun_by false event e = e

-- the lines behind make no node and no link
pub record Stays (known : Known) (names : List (List ℕ)) (lines : List Numbered) : Type 0 where
  pub same_names : known.names ≡ names
  pub same_nodes : nodes_all known.nodes lines ≡ known.nodes
  pub same_links : links_all known.links lines ≡ known.links

pub stays_all : (lines : List Numbered) (known : Known) (names : List (List ℕ))
    → known.mode ≡ of_script → known.begun ≡ true → PassesFrom known names lines
    → Stays known names lines
stays_all [] known names mode begun passes =
    record { same_names = passes; same_nodes = refl; same_links = refl }
stays_all (line ∷ lines) known names mode begun passes =
    let new = new_name names line.line in
    let event = event_of known.begun (is_event line.line) begun
    (ap (λ m. out_of_place_in m known.begun (is_event line.line)) (sym mode)
    ∙ passes.1 OutOfPlace) in
    let rest = stays_all lines (known_after known new line.line) names mode
    (begun_stays known.begun (is_event line.line) begun) passes.2 in
    record {
      same_names = sym (names_stay known.names new line.line event) ∙ rest.same_names;
      same_nodes = rest.same_nodes ∙ nodes_stay known.nodes line.line event;
      same_links = rest.same_links ∙ links_stay known.links line.line event;
    }

-- ---- names

-- the names of a script that passes are names, and differ
pub names_orderly : (lines : List Numbered) (known end : Known) (names : List (List ℕ))
    → IsOrderly known → PassesFrom known names lines → end.names ≡ names → IsOrderly end
names_orderly [] known end names orderly passes is =
    let same : known.names ≡ end.names = passes ∙ sym is in
    let all = subst (λ (x : List (List ℕ)). IsOrderly (record end { names = x })) same
    (record { named = orderly.named; apart = orderly.apart }) in
    record { named = all.named; apart = all.apart }
names_orderly (line ∷ lines) known end names orderly passes is =
    let new = new_name names line.line in
    names_orderly lines (known_after known new line.line) end names
    (orderly-after known new line.line orderly passes.0) passes.2 is
