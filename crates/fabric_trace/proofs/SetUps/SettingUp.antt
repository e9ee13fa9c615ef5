-- What lines of set-up make of the devices and the links of a network.
use Rattle.fabric_trace.proofs.Prelude.{◌≡◌, ℕ, ◌+◌, ◌<◌, true, false, List, [], ◌∷◌, ◌++◌, length, map, take, drop, get_or, refl, sym, ap, ◌∙◌, append-nil, take-append-drop, false≢true, map-append, drop_more, Registers, is_switch, new_endpoint, new_switch, with_link, Line, Endpoint, Switch, Link, Buffers, Route, Default, Lock, Large, Credits, links_after, is_event, Numbered, Network, map-with_device, routed, defaulted, held_by, large_set, with_end, set_up, set_up_all}

pub set_up-links : (net : Network) (line : Line)
    → (set_up net line).links ≡ links_after net.links line
set_up-links net (Link a b) = refl
set_up-links net _ = refl

pub set_up-event : (net : Network) (line : Line) → is_event line ≡ true → set_up net line ≡ net
set_up-event net (Endpoint name id) event = absurd (false≢true event)
set_up-event net (Switch name ports) event = absurd (false≢true event)
set_up-event net (Link a b) event = absurd (false≢true event)
set_up-event net (Buffers port n) event = absurd (false≢true event)
set_up-event net (Route node id p) event = absurd (false≢true event)
set_up-event net (Default node p) event = absurd (false≢true event)
set_up-event net (Lock node id) event = absurd (false≢true event)
set_up-event net (Large node id) event = absurd (false≢true event)
set_up-event net (Credits port) event = absurd (false≢true event)
set_up-event net _ event = refl

-- the device that a line makes, as a list
abbrev pub made_by : Line → List Registers
made_by (Endpoint name id) = new_endpoint id false ∷ []
made_by (Switch name ports) = new_switch ports 0 ∷ []
made_by _ = []

-- what lines of set-up change in a device that is there
abbrev pub changed : Registers → ℕ → List ℕ → ℕ → ℕ → ℕ → Registers
changed device linked routes port lock large = record device {
  linked = linked;
  routes = routes;
  default_port = port;
  lock = lock;
  large_id = large;
}

-- what no line changes of a device, stays of all, and a new device stands behind them
pub set_up-map : {A : Type 0} (view : Registers → A)
    → ((device : Registers) (linked : ℕ) (routes : List ℕ) (port lock large : ℕ)
    → view (changed device linked routes port lock large) ≡ view device)
    → (net : Network) (line : Line)
    → map view (set_up net line).registers ≡ map view net.registers ++ map view (made_by line)
set_up-map view same net line = by_line line
  where
    devices : List Registers
    devices = net.registers

    by_line : (line : Line) → map view (set_up net line).registers ≡ map view net.registers
        ++ map view (made_by line)
    by_line (Endpoint name id) = map-append view devices _
    by_line (Switch name ports) = map-append view devices _
    by_line (Link a b) =
        map-with_device view (with_end net a).registers b.node _
        (λ d. same d (with_link d.linked b.port) d.routes d.default_port d.lock d.large_id)
        ∙ map-with_device view devices a.node _
        (λ d. same d (with_link d.linked a.port) d.routes d.default_port d.lock d.large_id)
        ∙ sym (append-nil (map view devices))
    by_line (Buffers port n) = sym (append-nil (map view devices))
    by_line (Route node id p) =
        map-with_device view devices node (routed id p)
        (λ d. same d d.linked (routed id p d).routes d.default_port d.lock d.large_id)
        ∙ sym (append-nil (map view devices))
    by_line (Default node p) =
        map-with_device view devices node (defaulted p)
        (λ d. same d d.linked d.routes p d.lock d.large_id) ∙ sym (append-nil (map view devices))
    by_line (Lock node id) =
        map-with_device view devices node (held_by id)
        (λ d. same d d.linked d.routes d.default_port id d.large_id)
        ∙ sym (append-nil (map view devices))
    by_line (Large node id) =
        map-with_device view devices node (large_set id)
        (λ d. same d d.linked d.routes d.default_port d.lock id)
        ∙ sym (append-nil (map view devices))
    by_line _ = sym (append-nil (map view devices))

-- which nodes are switches
pub set_up-kinds : (net : Network) (line : Line)
    → map is_switch (set_up net line).registers ≡ map is_switch net.registers
    ++ map is_switch (made_by line)
set_up-kinds net line = set_up-map is_switch (λ device linked routes port lock large. refl) net line

-- ---- lines and more lines

pub set_up_all-append : (net : Network) (lines more : List Numbered)
    → set_up_all net (lines ++ more) ≡ set_up_all (set_up_all net lines) more
set_up_all-append net [] more = refl
set_up_all-append net (line ∷ lines) more = set_up_all-append (set_up net line.line) lines more

-- the lines as those before a place, the one there, and those behind it
pub lines_at : (lines : List Numbered) (i : ℕ) (line : Numbered) → i < length lines
    → line ≡ get_or lines i line → lines ≡ take i lines ++ line ∷ drop (i + 1) lines
lines_at lines i line within at =
    sym (take-append-drop i lines)
    ∙ ap (λ rest. take i lines ++ rest) (drop_more lines i line within
    ∙ ap (λ x. x ∷ drop (i + 1) lines) (sym at))
