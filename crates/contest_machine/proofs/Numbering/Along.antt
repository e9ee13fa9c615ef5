-- What stands of a walker behind the host: it is on its way, and is behind a port of each switch
-- whose ports it tries.
use Rattle.contest_machine.proofs.Prelude.{◌≡◌, ◌≢◌, ℕ, ◌+◌, nat_lt, Bool, true, false, List, [], ◌∷◌, inl, sym, refl, ◌∙◌, if◌then◌else◌, ltb-false, onward, AllRegisters, IsUnderway, IsMember, Tried, Stage, Ask, Claim, Check, Test, Features, Information, Status, Free, Done, Lost, Walker, port_after, gone_on}
use Rattle.contest_machine.proofs.Numbering.OnWay.{performed, IsOnWay}
use Rattle.contest_machine.proofs.Numbering.Chained.{IsFrame, IsBehind, AreChained, past_top, skipped, closed}

-- the path is behind the port that is tried last, or behind the host
abbrev pub IsHere : List ℕ → List Tried → Type 0
IsHere path [] = path ≡ onward [] 0
IsHere path (top ∷ rest) = path ≡ onward top.path top.port

-- what stands of the path at each stage
abbrev pub IsHereAt : Walker → Stage → Type 0
IsHereAt w Ask = IsHere w.path w.tried
IsHereAt w Claim = IsHere w.path w.tried
IsHereAt w Check = IsHere w.path w.tried
IsHereAt w Test = IsHere w.path w.tried
IsHereAt w Features = IsHere w.path w.tried
IsHereAt w Information = IsHere w.path w.tried
IsHereAt w Status = w.tried ≢ []
IsHereAt w Free = Unit {0}
IsHereAt w Done = Unit {0}
IsHereAt w Lost = Unit {0}

pub record IsAlong (w : Walker) (now : AllRegisters) : Type 0 where
  pub way : IsOnWay w now
  pub host : IsMember w.view w.devices w.view.host
  pub chained : AreChained w.view w.devices w.tried
  pub here : IsHereAt w w.stage

-- the path before the port that is tried
abbrev pub front_of : List Tried → List ℕ
front_of [] = []
front_of (top ∷ rest) = top.path

abbrev pub port_of : List Tried → ℕ
port_of [] = 0
port_of (top ∷ rest) = top.port

pub here_is : (path : List ℕ) (tried : List Tried) → IsHere path tried
    → path ≡ onward (front_of tried) (port_of tried)
here_is path [] here = here
here_is path (top ∷ rest) here = here

pub past_is : (tried : List Tried) → past_top tried ≡ onward (front_of tried) (port_of tried + 1)
past_is [] = refl
past_is (top ∷ rest) = refl

pub not_empty : (path front : List ℕ) (port : ℕ) → path ≡ onward front port → path ≢ []
not_empty path [] port is empty = absurd (let e = sym is ∙ empty in cc)
not_empty path (x ∷ front) port is empty = absurd (let e = sym is ∙ empty in cc)

-- the path begins with a port
pub first_of : (path front : List ℕ) (port : ℕ) → path ≡ onward front port
    → (first : ℕ) × (rest : List ℕ) × (path ≡ first ∷ rest)
first_of path [] port is = (port, [], is)
first_of path (x ∷ front) port is = (x, onward front port, is)

-- ---- a walker that goes on

-- the walker as it stands, on its way past the port that is tried, goes on
pub gone_along : (w : Walker) (before seen now : AllRegisters)
    → IsMember w.view w.devices w.view.host
    → ((node : ℕ) → seen node ≡ performed w.view now w.todo node)
    → (tried : List Tried) → AreChained w.view w.devices tried
    → IsUnderway w.view before seen w.id w.devices w.next (past_top tried)
    → IsAlong (gone_on w tried) now
gone_along w before seen now host seen_is [] chained under = record {
  way = record {
    before = before;
    seen = seen;
    underway = under;
    seen_is = λ node beside. seen_is node;
    new = λ node none. absurd none;
    hosted = inl host;
    fresh = tt;
  };
  host = host;
  chained = tt;
  here = tt;
}
gone_along w before seen now host seen_is (top ∷ rest) chained under =
    go (nat_lt (port_after top.entry top.port) top.ports) refl
    (skipped w.view before seen w.id w.next w.devices top chained.0 under)
    (λ on. gone_along w before seen now host seen_is rest chained.2 on)
  where
    -- the same switch, another port
    frame : (n : ℕ) → IsFrame w.view w.devices top → IsFrame w.view w.devices
        (record top { port = n })
    frame n f = record {
      at = f.at;
      leads = f.leads;
      switch = f.switch;
      entry = f.entry;
      other = f.other;
      listed = f.listed;
      front = f.front;
      by = f.by;
      whole = f.whole;
    }

    behind : (n : ℕ) (rest : List Tried) → IsBehind top rest → IsBehind (record top { port = n })
        rest
    behind n [] is = is
    behind n (second ∷ more) is = is

    go : (b : Bool) → nat_lt (port_after top.entry top.port) top.ports ≡ b
        → IsUnderway w.view before seen w.id w.devices w.next
        (onward top.path (port_after top.entry top.port))
        → (IsUnderway w.view before seen w.id w.devices w.next (past_top rest)
        → IsAlong (gone_on w rest) now)
        → IsAlong (if b then record w {
          tried = record top { port = port_after top.entry top.port } ∷ rest;
          stage = Status;
        }
        else gone_on w rest) now
    go true is further on = record {
      way = record {
        before = before;
        seen = seen;
        underway = further;
        seen_is = λ node beside. seen_is node;
        new = λ node none. absurd none;
        hosted = inl host;
        fresh = tt;
      };
      host = host;
      chained = (
        frame (port_after top.entry top.port) chained.0,
        behind (port_after top.entry top.port) rest chained.1,
        chained.2,
      );
      here = λ e. cc;
    }
    go false is further on =
        on (closed w.view before seen w.id w.next w.devices top rest
        (port_after top.entry top.port) chained.0 chained.1
        (ltb-false (port_after top.entry top.port) top.ports is) further)
