-- In order per flow: of two items of one course the older has passed no fewer places, wherever they
-- stand.
use Rattle.fabric_model.proofs.Prelude.{◌≡◌, ◌⊎◌, inl, inr, ℕ, zero, suc, ◌+◌, ◌≤◌, ◌<◌, Bool, true, false, leb, List, [], ◌∷◌, ◌++◌, sym, ap, ◌∙◌, subst, refl, arith, le-leb, AllByRecursion, cases_eq, false≢true, prio_of, dest_of, Passes, PortRef, Item, Network, item_of, End, ItemPlace, WaitingAt, Over, same_place, SameCourse, AreProper}
use Rattle.fabric_model.proofs.Boards.{place_is, Board, cut, Along, allowed_along, Goes, Comes, StepOn, Stays, IsTaken, IsMoved, IsAnswered, allowed_open, moved_number}
use Rattle.fabric_model.proofs.Lists.{all-append, all_weaker, Pairs, pairs-without, pairs-append, all-without, all-both, all-parts, Some_of, some_left, some_right, some_without}
use Rattle.fabric_model.proofs.OnBoards.{AllOn, AllOn-cut}
use Rattle.fabric_model.proofs.Moving.{key_of}
use Rattle.fabric_model.proofs.Courses.{Chart, chart_of, Spot, onward, course, Fits, fits_open, allowed_next, fits_from, fits_same, course_back, course_forth}
use Rattle.fabric_model.proofs.Journal.{Entry, Elsewhere, FirstAt, first_at, since, AreLanes, lanes-comes, lanes-older, lanes-cut, lanes-cut_older, since_none, not_leb}

-- the entry of an item that is taken
abbrev taken_entry : Network → PortRef → List ℕ → Entry
taken_entry net port packet = record {
  item = item_of net port packet;
  place = WaitingAt port (prio_of packet);
  passed = zero;
}

-- ---- the journal since one item was taken

module _ (x : Item) (chart : Chart) where
  -- where its course begins
  abbrev pub first_spot : Spot
  first_spot = record { place = WaitingAt x.port (prio_of x.taken); key = key_of x.taken }

  -- the item stands on the course, after so many places
  pub record IsOn (item : Item) (place : ItemPlace) (passed : ℕ) : Type 0 where
    pub fits : Fits place (course chart first_spot passed).place
    pub key : key_of item.now ≡ (course chart first_spot passed).key

  pub record IsWell (given : ℕ) (item : Item) (place : ItemPlace) (passed : ℕ) : Type 0 where
    pub below : item.number < given
    pub passes : Passes item.now
    pub dest : dest_of item.now ≡ dest_of item.taken
    pub on : SameCourse x item → IsOn item place passed

  abbrev pub WellEntry : ℕ → Entry → Type 0
  WellEntry given e = IsWell given e.item e.place e.passed

  -- Of two items of the course the older has passed no fewer places, and more if it stands behind.
  abbrev pub Line : Entry → Entry → Type 0
  Line a b = SameCourse x a.item → SameCourse x b.item
      → (a.item.number < b.item.number → b.passed ≤ a.passed)
      × (b.item.number < a.item.number → a.passed < b.passed)

  -- x itself, wherever it is
  pub record IsOwn (e : Entry) : Type 0 where
    pub number : e.item.number ≡ x.number
    pub course : SameCourse x e.item

  pub record Journal (given : ℕ) (board : Board) : Type 0 where
    pub entries : List Entry
    pub later : x.number < given
    pub lanes : AreLanes x.number board entries
    pub well : AllByRecursion (WellEntry given) entries
    pub line : Pairs Line entries
    pub has : Some_of IsOwn entries

  -- the entry of the first item of a place, as one that comes behind all others and has passed one
  -- place more
  abbrev pub Behind : Entry → Entry → Type 0
  Behind e z = Line z (record e { passed = suc e.passed })

  in_front : (given : ℕ) (from : ItemPlace) → ((e : End) → from ≡ Over e → ⊥) → (e z : Entry)
      → same_place from e.place ≡ true → Elsewhere from z → WellEntry given e → WellEntry given z
      → Line z e → Behind e z
  in_front given from goes_on e z here elsewhere well_e well_z line same_z same_e =
      let l = line same_z same_e in (
        λ less. further (l.0 less) (cases_eq z.passed e.passed),
        λ less. omega (arith, l.1 less),
      )
    where
      place_e : e.place ≡ from
      place_e = sym (place_is from e.place here)

      not_same : z.passed ≡ e.passed → ⊥
      not_same same =
          let spot_e : (course chart first_spot e.passed).place ≡ from =
          fits_from from _
          (subst (λ p. Fits p (course chart first_spot e.passed).place) place_e
          (well_e.on same_e).fits) goes_on in
          let spot_z : (course chart first_spot z.passed).place ≡ from =
          ap (λ n. (course chart first_spot n).place) same ∙ spot_e in
          let place_z : z.place ≡ from =
          fits_open z.place from (subst (Fits z.place) spot_z (well_z.on same_z).fits)
          goes_on in
          false≢true (sym elsewhere ∙ (ap (same_place from) (place_z ∙ sym place_e) ∙ here))

      further : e.passed ≤ z.passed → ((z.passed ≡ e.passed) ⊎ (z.passed ≡ e.passed → ⊥))
          → suc e.passed ≤ z.passed
      further le (inl same) = absurd (not_same same)
      further le (inr other) = omega (arith, le, other)

  -- what stands behind it has passed less, or is older
  pub all_behind : (given : ℕ) (from : ItemPlace) → ((e : End) → from ≡ Over e → ⊥)
      → (entries : List Entry) (item : Item) (rest : List Item)
      → (f : FirstAt from entries item rest) → AllByRecursion (WellEntry given) entries
      → Pairs Line entries → AllByRecursion (Behind f.entry) (f.before ++ f.behind)
  all_behind given from goes_on entries item rest f well line =
      let e = f.entry in
      let apart = pairs-without Line f.before f.behind e (subst (Pairs Line) f.parts line) in
      let whole = subst (AllByRecursion (WellEntry given)) f.parts well in
      let wells = all-without (WellEntry given) f.before f.behind e whole in
      let fronts = all-both (Elsewhere from) (λ z. WellEntry given z × Line z e) (Behind e)
      (λ z elsewhere both. in_front given from goes_on e z f.here elsewhere wells.0 both.0
      both.1) f.before f.elsewhere
      (all-both (WellEntry given) (λ z. Line z e) (λ z. WellEntry given z × Line z e)
      (λ z w l. (w, l)) f.before (all-parts (WellEntry given) f.before f.behind wells.1).0
      apart.before) in
      all-append (Behind e) f.before f.behind fronts
      (all_weaker (Line e) (Behind e) (λ z l. turned e z l) f.behind apart.behind)
    where
      turned : (e z : Entry) → Line e z → Behind e z
      turned e z line same_z same_e =
          let l = line same_e same_z in
          (λ less. omega (arith, l.1 less), λ less. omega (arith, l.0 less))

  -- ---- what a step makes of it

  journal-same : (given : ℕ) (old new : Board) → ((place : ItemPlace) → new place ≡ old place)
      → Journal given old → Journal given new
  journal-same given old new same j = record {
    entries = j.entries;
    later = j.later;
    lanes = λ place. ap (since x.number) (same place) ∙ j.lanes place;
    well = j.well;
    line = j.line;
    has = j.has;
  }

  -- an older item goes
  goes_older : (net : Network) (old new : Board) (g : Goes net old new) (entries : List Entry)
      → leb x.number g.item.number ≡ false → leb x.number g.moved.number ≡ false
      → AreLanes x.number old entries → AreLanes x.number new entries
  goes_older net old new g entries older still lanes place =
      ap (since x.number) (g.becomes place)
      ∙ lanes-older x.number (cut old g.from g.rest) g.to g.moved entries still
      (lanes-cut_older x.number old g.from g.item g.rest entries older g.was lanes) place

  -- another goes
  module _ (given : ℕ) (net : Network) (known : chart ≡ chart_of (dest_of x.taken) net)
      (proper : AreProper net.links) (old new : Board) (g : Goes net old new)
      (newer : leb x.number g.item.number ≡ true) (j : Journal given old) where
    found : FirstAt g.from j.entries g.item (since x.number g.rest)
    found = first_at g.from j.entries g.item (since x.number g.rest)
        (sym (j.lanes g.from) ∙ (ap (since x.number) g.was ∙ rw newer refl))

    goes_on : (e : End) → g.from ≡ Over e → ⊥
    goes_on = allowed_open net g.from g.to g.item g.moved g.allowed

    wells : WellEntry given found.entry × AllByRecursion (WellEntry given)
        (found.before ++ found.behind)
    wells = all-without (WellEntry given) found.before found.behind found.entry
        (subst (AllByRecursion (WellEntry given)) found.parts j.well)

    own : IsWell given g.item g.from found.entry.passed
    own = subst (λ place. IsWell given g.item place found.entry.passed)
        (sym (place_is g.from found.entry.place found.here))
        (subst (λ item. IsWell given item found.entry.place found.entry.passed) found.item wells.0)

    along : Along g.item g.moved
    along = allowed_along net g.from g.to g.item g.moved g.allowed own.passes

    abbrev next : Entry
    next = record { item = g.moved; place = g.to; passed = suc found.entry.passed }

    on_next : SameCourse x g.moved → IsOn g.moved g.to (suc found.entry.passed)
    on_next same =
        let course_of = course_back x g.item g.moved along same in
        let here = own.on course_of in
        let i = found.entry.passed in
        let place : (course chart first_spot i).place ≡ g.from =
        fits_from g.from _ here.fits goes_on in
        let charts : chart ≡ chart_of (dest_of g.item.now) net =
        known ∙ ap (λ d. chart_of d net) (course_of.dest ∙ sym own.dest) in
        let key : (course chart first_spot i).key ≡ key_of g.item.now = sym here.key in
        let spots : course chart first_spot (suc i) ≡ onward (chart_of (dest_of g.item.now) net)
        (key_of g.item.now) g.from = λ t. onward (charts t) (key t) (place t) in
        let goes = allowed_next net g.from g.to g.item g.moved proper own.passes g.allowed in
        record {
          fits = subst (λ (s : Spot). Fits g.to s.place) (sym spots) goes.fits;
          key = goes.key ∙ ap (λ (s : Spot). s.key) (sym spots);
        }

    next_well : WellEntry given next
    next_well = record {
      below =
          (let lower : g.moved.number < given = omega (arith, own.below, along.number) in lower);
      passes = along.passes;
      dest = along.dest ∙ (own.dest ∙ ap dest_of (sym along.taken));
      on = on_next;
    }

    next_line : AllByRecursion (λ z. Line z next) (found.before ++ found.behind)
    next_line = all_weaker (Behind found.entry) (λ z. Line z next) one
        (found.before ++ found.behind)
        (all_behind given g.from goes_on j.entries g.item (since x.number g.rest) found j.well
        j.line)
      where
        one : (z : Entry) → Behind found.entry z → Line z next
        one z line same_z same =
            let number : g.moved.number ≡ found.entry.item.number = along.number
            ∙ ap (λ (i : Item). i.number) (sym found.item) in
            let l = line same_z
            (subst (SameCourse x) (sym found.item)
            (course_back x g.item g.moved along same)) in
            (λ less. l.0 (omega (arith, less, number)), λ less. l.1 (omega (arith, less, number)))

    still_has : Some_of IsOwn ((found.before ++ found.behind) ++ next ∷ [])
    still_has =
        go (some_without IsOwn found.before found.behind found.entry
        (subst (Some_of IsOwn) found.parts j.has))
      where
        go : IsOwn found.entry ⊎ Some_of IsOwn (found.before ++ found.behind)
            → Some_of IsOwn ((found.before ++ found.behind) ++ next ∷ [])
        go (inl is) = some_right IsOwn (found.before ++ found.behind) (next ∷ []) (inl (record {
          number = along.number ∙ (ap (λ (i : Item). i.number) (sym found.item) ∙ is.number);
          course = course_forth x g.item g.moved along (subst (SameCourse x) found.item is.course);
        }))
        go (inr others) = some_left IsOwn (found.before ++ found.behind) (next ∷ []) others

    goes_newer : Journal given new
    goes_newer = record {
      entries = (found.before ++ found.behind) ++ next ∷ [];
      later = j.later;
      lanes = λ place. ap (since x.number) (g.becomes place)
          ∙ lanes-comes x.number (cut old g.from g.rest) g.to g.moved (suc found.entry.passed)
          (found.before ++ found.behind) (ap (leb x.number) along.number ∙ newer)
          (lanes-cut x.number old g.from g.item g.rest j.entries found j.lanes) place;
      well = all-append (WellEntry given) (found.before ++ found.behind) (next ∷ []) wells.1
          (next_well, tt);
      line = pairs-append Line (found.before ++ found.behind) next
          (pairs-without Line found.before found.behind found.entry
          (subst (Pairs Line) found.parts j.line)).pairs next_line;
      has = still_has;
    }

  -- an item goes
  pub journal-goes : (given : ℕ) (net : Network) → chart ≡ chart_of (dest_of x.taken) net
      → AreProper net.links → (old new : Board) → Goes net old new → Journal given old
      → Journal given new
  journal-goes given net known proper old new g j = go (leb x.number g.item.number) refl
    where
      number : g.moved.number ≡ g.item.number
      number = moved_number net g.from g.to g.item g.moved g.allowed

      go : (t : Bool) → leb x.number g.item.number ≡ t → Journal given new
      go true newer = goes_newer given net known proper old new g newer j
      go false older = record {
        entries = j.entries;
        later = j.later;
        lanes = goes_older net old new g j.entries older (ap (leb x.number) number ∙ older) j.lanes;
        well = j.well;
        line = j.line;
        has = j.has;
      }

  -- an item that is taken stands at the beginning of its course
  first_well : (net : Network) (port : PortRef) (packet : List ℕ) → Passes packet
      → IsWell (net.given + 1) (item_of net port packet) (WaitingAt port (prio_of packet)) zero
  first_well net port packet passes = record {
    below = omega arith;
    passes = passes;
    dest = refl;
    on = λ same. record {
      fits = fits_same _ _ (λ t. WaitingAt (sym same.port t) (sym same.priority t));
      key = λ t. record { eight = sym same.maintenance t; hop = sym same.hop t };
    };
  }

  -- the next number comes
  pub journal-comes : (net : Network) (made : List Item) (old new : Board) → Comes net made old new
      → Journal net.given old → Journal (net.given + 1) new
  journal-comes net made old new c j = record {
    entries = j.entries ++ taken_entry net c.port c.packet ∷ [];
    later = omega (arith, j.later);
    lanes = λ place. ap (since x.number) (c.becomes place)
        ∙ lanes-comes x.number old (taken_entry net c.port c.packet).place
        (taken_entry net c.port c.packet).item zero j.entries
        (le-leb x.number net.given (omega (arith, j.later))) j.lanes place;
    well = all-append (WellEntry (net.given + 1)) j.entries (taken_entry net c.port c.packet ∷ [])
        (all_weaker (WellEntry net.given) (WellEntry (net.given + 1)) grows j.entries j.well)
        (own_well, tt);
    line = pairs-append Line j.entries (taken_entry net c.port c.packet) j.line
        (all_weaker (WellEntry net.given) (λ z. Line z (taken_entry net c.port c.packet)) behind
        j.entries j.well);
    has = some_left IsOwn j.entries (taken_entry net c.port c.packet ∷ []) j.has;
  }
    where
      grows : (e : Entry) → WellEntry net.given e → WellEntry (net.given + 1) e
      grows e well = record {
        below = omega (arith, well.below);
        passes = well.passes;
        dest = well.dest;
        on = well.on;
      }

      own_well : WellEntry (net.given + 1) (taken_entry net c.port c.packet)
      own_well = first_well net c.port c.packet c.passes

      behind : (z : Entry) → WellEntry net.given z → Line z (taken_entry net c.port c.packet)
      behind z well same_z same =
          (λ less. omega arith, λ less. absurd (omega (arith, less, well.below)))

  -- what a step makes of the journal
  pub journal-step : (net next : Network) (made : List Item) (old new : Board) → chart
      ≡ chart_of (dest_of x.taken) net → AreProper net.links → StepOn net next made old new
      → Journal net.given old → Journal next.given new
  journal-step net next made old new known proper (Stays none given same) j =
      rw given (journal-same net.given old new same j)
  journal-step net next made old new known proper (IsTaken given c) j =
      rw given (journal-comes net made old new c j)
  journal-step net next made old new known proper (IsMoved none given g) j =
      rw given (journal-goes net.given net known proper old new g j)
  journal-step net next made old new known proper (IsAnswered mid given g c) j =
      rw given (journal-comes net made mid new c
      (journal-goes net.given net known proper old mid g j))

  -- ---- its beginning

  number_is : (net : Network) (made : List Item) (old new : Board) → Comes net made old new → made
      ≡ x ∷ [] → x.number ≡ net.given
  number_is net made old new c is =
      let same : x ≡ item_of net c.port c.packet = cc (is, c.made) in
      ap (λ (i : Item). i.number) same

  nothing_since : (net : Network) (made : List Item) (old new : Board) → Comes net made old new
      → made ≡ x ∷ [] → (board : Board) → AllOn (λ place item. item.number < net.given) board
      → AreLanes x.number board []
  nothing_since net made old new c is board older place =
      since_none x.number (board place)
      (subst (λ n. AllByRecursion (λ (i : Item). i.number < n) (board place))
      (sym (number_is net made old new c is)) (older place))

  begins_with : (net : Network) (made : List Item) (old new : Board) → Comes net made old new → made
      ≡ x ∷ [] → AreLanes x.number old [] → Journal (net.given + 1) new
  begins_with net made old new c is lanes = record {
    entries = taken_entry net c.port c.packet ∷ [];
    later = omega (arith, ap (λ (i : Item). i.number) same);
    lanes = λ place. ap (since x.number) (c.becomes place)
        ∙ lanes-comes x.number old (taken_entry net c.port c.packet).place
        (taken_entry net c.port c.packet).item zero []
        (le-leb x.number net.given (omega (arith, ap (λ (i : Item). i.number) same))) lanes place;
    well = (first_well net c.port c.packet c.passes, tt);
    line = (tt, tt);
    has = inl
        (subst (λ item. IsOwn
        (record { item = item; place = (taken_entry net c.port c.packet).place; passed = zero }))
        same (record {
          number = refl;
          course = record {
            port = refl;
            dest = refl;
            priority = refl;
            maintenance = refl;
            hop = refl;
          };
        }));
  }
    where
      same : x ≡ item_of net c.port c.packet
      same = cc (is, c.made)

  pub journal-begins : (net next : Network) (made : List Item) (old new : Board)
      → StepOn net next made old new → made ≡ x ∷ [] → AllOn (λ place item. item.number < net.given)
      old → Journal next.given new
  journal-begins net next made old new (Stays none given same) is older = absurd (cc)
  journal-begins net next made old new (IsMoved none given g) is older = absurd (cc)
  journal-begins net next made old new (IsTaken given c) is older =
      rw given (begins_with net made old new c is (nothing_since net made old new c is old older))
  journal-begins net next made old new (IsAnswered mid given g c) is older =
      let number = number_is net made mid new c is in
      let parts = AllOn-cut (λ place item. item.number < net.given) old g.from g.item g.rest older
      g.was in
      let below : leb x.number g.item.number ≡ false =
      not_leb x.number g.item.number (omega (arith, parts.0, number)) in
      rw given (begins_with net made mid new c is
      (goes_older net old mid g [] below
      (ap (leb x.number) (moved_number net g.from g.to g.item g.moved g.allowed) ∙ below)
      (nothing_since net made mid new c is old older)))
