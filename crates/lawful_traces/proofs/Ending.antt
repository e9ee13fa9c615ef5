-- In a trace of a script each event line is one of the script, and only the last line ends it.
use Rattle.lawful_traces.proofs.Prelude.{◌≡◌, ◌≢◌, ℕ, ◌<◌, ◌^◌, ◌++◌, Bool, true, false, List, [], ◌∷◌, Option, Some, None, refl, sym, ◌∙◌, subst, MatchBool, AllByRecursion, Numbered, Known, of_script, one_event, known_after, is_event, new_name, MayBe, IsFree, PassesFrom, Got, Sent, Fired, TraceLine, Begun, Stepped, Signed, Lacked, Undetected, IsBlock, seen, UndetectedAt, Seen, Follows, EventThen, Names, RunsFrom, is_last, nodes_all, links_all, LinesAreNumbered}
use Rattle.lawful_traces.proofs.Events.{event_fits, begun_by, names_stay, nodes_stay, links_stay, stays_all}
use Rattle.lawful_traces.proofs.Gots.{AllGotSome}
use Rattle.lawful_traces.proofs.GotsInBlocks.{block_some}

-- An event may stand alone, what a port got is not empty, and the number of a script's line fits 32
-- bits.
abbrev pub IsFromScript : Known → TraceLine → Type 0
IsFromScript known (Begun line) = MayBe known (new_name known.names line) line × IsFree known line
IsFromScript known (Signed (Got q chars)) = chars ≢ []
IsFromScript known (Undetected number q e) = number < 2 ^ 32
IsFromScript known _ = Unit {0}

-- the same of each line, of which the last and no other ends a trace
abbrev pub Closes : Known → List TraceLine → Type 0
Closes known [] = ⊥
Closes known (line ∷ []) = IsFromScript known line × (is_last line ≡ true)
Closes known (line ∷ next ∷ rest) =
    IsFromScript known line × (is_last line ≡ false) × Closes known (next ∷ rest)

pub cons_closes : (known : Known) (line : TraceLine) (rest : List TraceLine)
    → IsFromScript known line → is_last line ≡ false → Closes known rest
    → Closes known (line ∷ rest)
cons_closes known line [] from more closes = absurd closes
cons_closes known line (next ∷ rest) from more closes = (from, more, closes)

pub within_closes : (known : Known) (xs ys : List TraceLine) → AllGotSome xs → Closes known ys
    → Closes known (xs ++ ys)
within_closes known [] ys some closes = closes
within_closes known (Stepped step ∷ xs) ys some closes =
    cons_closes known (Stepped step) (xs ++ ys) tt refl
    (within_closes known xs ys some.1 closes)
within_closes known (Signed (Sent p chars) ∷ xs) ys some closes =
    cons_closes known (Signed (Sent p chars)) (xs ++ ys) tt refl
    (within_closes known xs ys some.1 closes)
within_closes known (Signed (Got q chars) ∷ xs) ys some closes =
    cons_closes known (Signed (Got q chars)) (xs ++ ys) some.0 refl
    (within_closes known xs ys some.1 closes)
within_closes known (Signed (Fired p) ∷ xs) ys some closes =
    cons_closes known (Signed (Fired p)) (xs ++ ys) tt refl
    (within_closes known xs ys some.1 closes)
within_closes known (Lacked lack ∷ xs) ys some closes =
    cons_closes known (Lacked lack) (xs ++ ys) tt refl
    (within_closes known xs ys some.1 closes)
within_closes known (_ ∷ xs) ys some closes = absurd some.0

pub closes_all : (known : Known) (lines : List TraceLine) → Closes known lines
    → AllByRecursion (IsFromScript known) lines
closes_all known [] closes = absurd closes
closes_all known (line ∷ []) closes = (closes.0, tt)
closes_all known (line ∷ next ∷ rest) closes = (closes.0, closes_all known (next ∷ rest) closes.2)

-- ---- of a script

module _ (known : Known) (names : List (List ℕ)) (names_are : known.names ≡ names)
    (event : known.mode ≡ one_event) where
  abbrev Rest : List Numbered → Seen → List TraceLine → Type 0
  Rest script t rest = RunsFrom t script rest

  follows_close : (found : Option UndetectedAt) (script : List Numbered) (number : ℕ) (t : Seen)
      (rest : List TraceLine) → number < 2 ^ 32 → (Rest script t rest → Closes known rest)
      → Follows found (Rest script t) (Names number) rest → Closes known rest
  follows_close None script number t rest low more follows = more follows
  follows_close (Some found) script number t rest low more follows =
      subst (Closes known) (sym follows) (low, refl)

  event_closes : (old : Known) (line : Numbered) (script : List Numbered) (s : Seen)
      (lines : List TraceLine) → line.number < 2 ^ 32 → is_event line.line ≡ true
      → known.names ≡ old.names → known.nodes ≡ old.nodes → known.links ≡ old.links
      → MayBe old (new_name names line.line) line.line → IsFree old line.line
      → ((t : Seen) (rest : List TraceLine) → Rest script t rest → Closes known rest)
      → EventThen IsBlock (λ t rest. Rest script t rest) (Names line.number) s line.line lines
      → Closes known lines
  event_closes old line script s lines low is same_names same_nodes same_links may free more run =
      let block = run.0 in
      let rest = run.1 in
      let t = seen s (Begun line.line ∷ block) in
      let fits = subst (λ (x : List (List ℕ)). MayBe known (new_name x line.line) line.line
      × IsFree known line.line) (sym names_are)
      (event_fits old known (new_name names line.line) line.line same_names same_nodes same_links
      event is may free) in
      subst (Closes known) (sym run.2)
      (cons_closes known (Begun line.line) (block ++ rest) fits refl
      (within_closes known block rest
      (block_some old (new_name names line.line) s line.line block may run.3)
      (follows_close t.undetected script line.number t rest low (more t rest) run.4)))

  pub runs_close : (script : List Numbered) (old : Known) (s : Seen) (lines : List TraceLine)
      → old.mode ≡ of_script → known.nodes ≡ nodes_all old.nodes script
      → known.links ≡ links_all old.links script → PassesFrom old names script
      → LinesAreNumbered script → RunsFrom s script lines → Closes known lines
  runs_close [] old s lines mode same_nodes same_links passes counted run =
      subst (Closes known) (sym run) (tt, refl)
  runs_close (line ∷ script) old s lines mode same_nodes same_links passes counted run =
      by (is_event line.line) refl
      (λ t rest later. runs_close script (known_after old (new_name names line.line) line.line) t
      rest mode same_nodes same_links passes.2 counted.1 later) run
    where
      next : Known
      next = known_after old (new_name names line.line) line.line

      begins : is_event line.line ≡ true
          → ((t : Seen) (rest : List TraceLine) → RunsFrom t script rest → Closes known rest)
          → EventThen IsBlock (λ t rest. RunsFrom t script rest) (Names line.number) s line.line
          lines → Closes known lines
      begins is more events =
          let stays = stays_all script next names mode
          (begun_by old.begun (is_event line.line) is) passes.2 in
          event_closes old line script s lines counted.0 is
          (names_are ∙ (sym stays.same_names
          ∙ names_stay old.names (new_name names line.line) line.line is))
          (same_nodes ∙ (stays.same_nodes ∙ nodes_stay old.nodes line.line is))
          (same_links ∙ (stays.same_links ∙ links_stay old.links line.line is)) passes.0 passes.1
          more events

      by : (b : Bool) → is_event line.line ≡ b
          → ((t : Seen) (rest : List TraceLine) → RunsFrom t script rest → Closes known rest)
          → MatchBool b (EventThen IsBlock (λ t rest. RunsFrom t script rest) (Names line.number) s
          line.line lines) (RunsFrom s script lines) → Closes known lines
      by true is more events = begins is more events
      by false is more later = more s lines later
