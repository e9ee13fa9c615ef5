-- All items since one was taken, in the order of their arrival: each list of the network is read
-- from this one.
use Rattle.fabric_model.proofs.Prelude.{◌≡◌, ℕ, Bool, true, false, leb, List, [], ◌∷◌, ◌++◌, filter, sym, ap, ◌∙◌, subst, refl, cond, append-nil, ◌<◌, arith, leb-true, AllByRecursion, filter-append, Item, ItemPlace, same_place, false_from_ne_true}
use Rattle.fabric_model.proofs.Boards.{place_is, Board, put, cut}

-- an item, where it stands, and how many places of its course it has passed
pub record Entry : Type 0 where
  pub item : Item
  pub place : ItemPlace
  pub passed : ℕ

-- the items of the entries at a place
abbrev pub lane : ItemPlace → List Entry → List Item
lane place [] = []
lane place (e ∷ es) = cond (same_place place e.place) (e.item ∷ lane place es) (lane place es)

pub lane-append : (place : ItemPlace) (xs ys : List Entry) → lane place (xs ++ ys) ≡ lane place xs
    ++ lane place ys
lane-append place [] ys = refl
lane-append place (x ∷ xs) ys = go (same_place place x.place) (lane-append place xs ys)
  where
    go : (t : Bool) → lane place (xs ++ ys) ≡ lane place xs ++ lane place ys
        → cond t (x.item ∷ lane place (xs ++ ys)) (lane place (xs ++ ys))
        ≡ cond t (x.item ∷ lane place xs) (lane place xs) ++ lane place ys
    go true same = ap (λ items. x.item ∷ items) same
    go false same = same

-- ---- the first entry of a place

abbrev pub Elsewhere : ItemPlace → Entry → Type 0
Elsewhere place e = same_place place e.place ≡ false

pub nothing_elsewhere : (place : ItemPlace) (es : List Entry) → AllByRecursion (Elsewhere place) es
    → lane place es ≡ []
nothing_elsewhere place [] all = refl
nothing_elsewhere place (e ∷ es) all = rw all.0 (nothing_elsewhere place es all.1)

pub record FirstAt (place : ItemPlace) (es : List Entry) (first : Item) (others : List Item) : Type
    0
  where
    pub before : List Entry
    pub entry : Entry
    pub behind : List Entry
    pub parts : es ≡ before ++ entry ∷ behind
    pub elsewhere : AllByRecursion (Elsewhere place) before
    pub here : same_place place entry.place ≡ true
    pub item : entry.item ≡ first
    pub rest : lane place behind ≡ others

pub first_at : (place : ItemPlace) (es : List Entry) (item : Item) (rest : List Item)
    → lane place es
    ≡ item ∷ rest → FirstAt place es item rest
first_at place [] item rest is = absurd (cc)
first_at place (e ∷ es) item rest is =
    go (same_place place e.place) refl is (first_at place es item rest)
  where
    go : (t : Bool) → same_place place e.place ≡ t → cond t (e.item ∷ lane place es) (lane place es)
        ≡ item ∷ rest → (lane place es ≡ item ∷ rest → FirstAt place es item rest)
        → FirstAt place (e ∷ es) item rest
    go true here is later = record {
      before = [];
      entry = e;
      behind = es;
      parts = refl;
      elsewhere = tt;
      here = here;
      item = cc;
      rest = cc;
    }
    go false apart is later =
        let found = later is in
        record {
          before = e ∷ found.before;
          entry = found.entry;
          behind = found.behind;
          parts = ap (λ xs. e ∷ xs) found.parts;
          elsewhere = (apart, found.elsewhere);
          here = found.here;
          item = found.item;
          rest = found.rest;
        }

-- ---- lists of a board, and lanes of entries

-- the items with at least this number
abbrev pub since : ℕ → List Item → List Item
since low items = filter (λ item. leb low item.number) items

abbrev pub AreLanes : ℕ → Board → List Entry → Type 0
AreLanes low board entries = (place : ItemPlace) → since low (board place) ≡ lane place entries

pub not_leb : (m n : ℕ) → n < m → leb m n ≡ false
not_leb m n less = false_from_ne_true (leb m n) (λ le. omega (arith, less, leb-true m n le))

pub since_none : (low : ℕ) (items : List Item) → AllByRecursion (λ (i : Item). i.number < low) items
    → since low items ≡ []
since_none low [] all = refl
since_none low (item ∷ items) all = rw (not_leb low item.number all.0) (since_none low items all.1)

pub since-append : (low : ℕ) (xs ys : List Item) → since low (xs ++ ys) ≡ since low xs
    ++ since low ys
since-append low xs ys = filter-append (λ item. leb low item.number) xs ys

since-put : (low : ℕ) (old : Board) (to : ItemPlace) (item : Item) (place : ItemPlace)
    → since low (put old to item place) ≡ since low (old place)
    ++ cond (same_place place to) (since low (item ∷ [])) []
since-put low old to item place = go (same_place place to) refl
  where
    go : (t : Bool) → same_place place to ≡ t → since low (cond t (old to ++ item ∷ []) (old place))
        ≡ since low (old place) ++ cond t (since low (item ∷ [])) []
    go true same = since-append low (old to) (item ∷ [])
        ∙ ap (λ x. since low (old x) ++ since low (item ∷ [])) (sym (place_is place to same))
    go false apart = sym (append-nil (since low (old place)))

-- an entry comes to the end
lane-comes : (place : ItemPlace) (es : List Entry) (e : Entry) → lane place (es ++ e ∷ [])
    ≡ lane place es ++ cond (same_place place e.place) (e.item ∷ []) []
lane-comes place es e = lane-append place es (e ∷ [])

-- an item comes, and its entry
pub lanes-comes : (low : ℕ) (old : Board) (to : ItemPlace) (item : Item) (passed : ℕ)
    (entries : List Entry) → leb low item.number ≡ true → AreLanes low old entries
    → AreLanes low (put old to item)
    (entries ++ record { item = item; place = to; passed = passed } ∷ [])
lanes-comes low old to item passed entries newer lanes place =
    since-put low old to item place
    ∙ (rw newer (ap (λ items. items ++ cond (same_place place to) (item ∷ []) []) (lanes place))
    ∙ sym (lane-comes place entries (record { item = item; place = to; passed = passed })))

-- an older item comes
pub lanes-older : (low : ℕ) (old : Board) (to : ItemPlace) (item : Item) (entries : List Entry)
    → leb low item.number ≡ false → AreLanes low old entries
    → AreLanes low (put old to item) entries
lanes-older low old to item entries older lanes place =
    since-put low old to item place ∙ (rw older (none (same_place place to)) ∙ lanes place)
  where
    none : (t : Bool) → since low (old place) ++ cond t [] [] ≡ since low (old place)
    none true = append-nil (since low (old place))
    none false = append-nil (since low (old place))

-- the first item of a place is taken out, and it is an older one
pub lanes-cut_older : (low : ℕ) (old : Board) (from : ItemPlace) (item : Item) (rest : List Item)
    (entries : List Entry) → leb low item.number ≡ false → old from ≡ item ∷ rest
    → AreLanes low old entries → AreLanes low (cut old from rest) entries
lanes-cut_older low old from item rest entries older was lanes place =
    go (same_place place from) refl
  where
    short : since low rest ≡ since low (old from)
    short = rw was (rw older refl)

    go : (t : Bool) → same_place place from ≡ t → since low (cond t rest (old place))
        ≡ lane place entries
    go true same =
        short ∙ (ap (λ x. since low (old x)) (sym (place_is place from same)) ∙ lanes place)
    go false apart = lanes place

-- it is not, and its entry is taken out
pub lanes-cut : (low : ℕ) (old : Board) (from : ItemPlace) (item : Item) (rest : List Item)
    (entries : List Entry) → (f : FirstAt from entries item (since low rest))
    → AreLanes low old entries → AreLanes low (cut old from rest) (f.before ++ f.behind)
lanes-cut low old from item rest entries f lanes place = go (same_place place from) refl
  where
    here : since low rest ≡ lane from (f.before ++ f.behind)
    here = sym
        (lane-append from f.before f.behind
        ∙ (ap (λ items. items ++ lane from f.behind) (nothing_elsewhere from f.before f.elsewhere)
        ∙ f.rest))

    there : same_place place from ≡ false → lane place entries ≡ lane place (f.before ++ f.behind)
    there apart =
        ap (lane place) f.parts
        ∙ (lane-append place f.before (f.entry ∷ f.behind)
        ∙ (ap (λ t. lane place f.before ++ cond t (f.entry.item ∷ lane place f.behind)
        (lane place f.behind))
        (subst (λ x. same_place place x ≡ false) (place_is from f.entry.place f.here) apart)
        ∙ sym (lane-append place f.before f.behind)))

    go : (t : Bool) → same_place place from ≡ t → since low (cond t rest (old place))
        ≡ lane place (f.before ++ f.behind)
    go true same = here ∙ ap (λ x. lane x (f.before ++ f.behind)) (sym (place_is place from same))
    go false apart = lanes place ∙ there apart
